-- What an upper bound is asked: a network's parts, a set of picked lanes and a set of undecided lanes; and which questions are lawful.
use Rattle.std.specs.Prelude.{◌≡◌, ℕ, ◌+◌, ◌^◌, ◌≤◌, Bool, true, cond, ◌&&◌, List, length, ◌==◌, bit_and, count_ones, nat_le}
use Rattle.network.specs.Lanes.{all_sound, most_lanes}
use Rattle.network.specs.Networks.{depots_of, lanes_of, most_of, parts_of}
use Rattle.network.specs.Scales.{full_limit}
use Rattle.network.specs.Sets.{bit, chosen, standing_set}
use Rattle.network.specs.declared.lanes.Lane.{Lane}
use Rattle.network.specs.declared.networks.Network.{Network}
use Rattle.bounds.specs.declared.questions.Question.{Question}

-- a question by its parts; one question has one answer, whatever memory holds it
pub record Asked : Type 0 where
  pub parts : ℕ
  pub most : ℕ
  pub depots : ℕ
  pub lanes : List Lane
  pub picked : ℕ
  pub undecided : ℕ

abbrev pub asked_of_network : Network → ℕ → ℕ → Asked
asked_of_network network picked undecided =
    record {
      parts = parts_of network;
      most = most_of network;
      depots = depots_of network;
      lanes = lanes_of network;
      picked = picked;
      undecided = undecided;
    }

abbrev pub asked_of : Question → Asked
asked_of q = asked_of_network q.network.now q.picked q.undecided

-- what is known of a question's network, since it has been checked
pub record Checked (a : Asked) : Type 0 where
  pub positive : 1 ≤ a.parts
  pub rule : a.parts ^ a.most ≤ full_limit
  pub two : 2 ≤ a.depots
  pub ten : a.depots ≤ 10
  pub few : length a.lanes ≤ most_lanes
  pub fit : all_sound a.parts a.depots a.lanes ≡ true

-- the two sets share no lane and name standing lanes only, and at most K lanes are picked
pub record Lawful (a : Asked) : Type 0 where
  pub apart : (i : ℕ) → bit a.picked i + bit a.undecided i ≤ 1
  pub picked_stand : (i : ℕ) → bit a.picked i ≤ bit (standing_set a.lanes) i
  pub undecided_stand : (i : ℕ) → bit a.undecided i ≤ bit (standing_set a.lanes) i
  pub few_picked : count_ones a.picked ≤ a.most

-- the same as a test on the sets' numbers
abbrev pub lawful : Asked → Bool
lawful a =
    ((bit_and a.picked a.undecided == 0 && bit_and a.picked (standing_set a.lanes) == a.picked)
    && bit_and a.undecided (standing_set a.lanes) == a.undecided)
    && nat_le (count_ones a.picked) a.most

-- the full scale
abbrev pub full : Asked → ℕ
full a = a.parts ^ a.most

-- the lanes that are picked or undecided, which share none
abbrev pub candidates : Asked → List Lane
candidates a = chosen (a.picked + a.undecided) a.lanes

-- what a bound tells that has a number for lawful questions
abbrev pub if_lawful : Asked → ℕ → ℕ
if_lawful a number = cond (lawful a) number (full a)
