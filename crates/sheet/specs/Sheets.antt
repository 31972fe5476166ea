-- A sheet of the program, read by its parts.
use Rattle.std.specs.Prelude.{ℕ}
use Rattle.network.specs.Networks.{depots_of, lanes_of, most_of, parts_of}
use Rattle.network.specs.declared.networks.Network.{Network}
use Rattle.bounds.specs.Questions.{Asked}
use Rattle.sheet.specs.Goals.{goal_in}
use Rattle.sheet.specs.Models.{Contents, Model}
use Rattle.sheet.specs.declared.sheets.Sheet.{Sheet}

abbrev pub contents_of : Network → Contents
contents_of network = record { parts = parts_of network; most = most_of network; depots = depots_of network; lanes = lanes_of network }

-- by the number that its bound tells
abbrev pub model_of : {B : Type 0} → (B → Asked → ℕ) → Sheet B → Model
model_of tells sheet = record { contents = contents_of sheet.network; tell = tells sheet.bound; goal = goal_in sheet.target; progress = sheet.seeking }
