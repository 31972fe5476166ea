-- A run of calls on a sheet, some of them refused, and what the statement over runs says of it.
use Rattle.std.specs.Prelude.{◌≡◌, List, [], ◌∷◌, Some, Err}
use Rattle.network.specs.declared.refusals.Refusal.TheVariants.{GrantTooLarge, NumberNotGiven}
use Rattle.bounds.specs.Numbers.{plain_tells}
use Rattle.search.specs.Opening.{Problem}
use Rattle.search.specs.Plans.{Cheapest, FullCount}
use Rattle.sheet.specs.Calls.{after, goal_of, opened}
use Rattle.sheet.specs.Models.{Model, problem}
use Rattle.sheet.specs.Runs.{after_run}
use Rattle.sheet.specs.declared.words.Call.{Call}
use Rattle.sheet.specs.declared.words.Call.TheVariants.{Offer, Strike, StateGoal, Grant}
use Rattle.sheet.specs.declared.words.State.TheVariants.{Found}
use Rattle.worked_examples.specs.Examples.{most, parts}
use Rattle.sheet_examples.specs.Searches.{three_sheet}
use Rattle.sheet_examples.specs.declared.runs.Followed.{Followed}

abbrev pub start : Model
start = opened parts most 3 plain_tells

-- two lanes, a goal, a grant, one that is too large, a lane that was not given, another grant, the third lane, and grants to the end
abbrev pub the_run : List Call
the_run =
    Offer 0 1 9 4 ∷ Offer 1 2 9 5 ∷ StateGoal (goal_of 1 8) ∷ Grant 3 ∷ Grant 2097152 ∷ Strike 2 ∷ Grant 2 ∷ Offer 0 2 8 7 ∷ Grant 5 ∷ Grant 10 ∷ []

-- the same calls up to the last change
abbrev pub changes : List Call
changes = Offer 0 1 9 4 ∷ Offer 1 2 9 5 ∷ StateGoal (goal_of 1 8) ∷ Offer 0 2 8 7 ∷ []

-- all sets of the three lanes, and a goal of 8 parts of 10
abbrev pub searched : Problem
searched = problem (three_sheet plain_tells).contents plain_tells (goal_of 1 8)

pub record Follows (f : Followed) : Type 0 where
  pub granted : f.granted ≡ Err GrantTooLarge
  pub struck : f.struck ≡ Err NumberNotGiven
  pub state : f.report.state ≡ Found
  pub best : f.report.best ≡ Some (record { set = 3; cost = 9; chance = 8100 })
  pub openings : f.report.openings ≡ 13
  -- drawn from the statement: no other set of the lanes that reaches the goal is before the set that was found
  pub cheapest : Cheapest searched 3
  -- the search is over once 13 openings are made, though 15 were granted
  pub full : FullCount searched 13
  -- refused calls, and grants before the last change, count for nothing
  pub as_one : after_run start the_run ≡ after (after_run start changes) (Grant 15)
