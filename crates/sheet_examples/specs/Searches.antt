-- The worked searches: goals on the three-depot sheet under three bounds, with the reports that they must have.
use Rattle.std.specs.Prelude.{◌≡◌, ℕ, List, [], ◌∷◌, map, Some, None}
use Rattle.bounds.specs.Numbers.{depot_tells, plain_tells, whole_tells}
use Rattle.bounds.specs.Questions.{Asked}
use Rattle.sheet.specs.Calls.{goal_of, opened}
use Rattle.sheet.specs.Models.{Model, report_of}
use Rattle.sheet.specs.Runs.{after_run}
use Rattle.sheet.specs.declared.words.Call.{Call}
use Rattle.sheet.specs.declared.words.Call.TheVariants.{Offer, StateGoal, Grant}
use Rattle.sheet.specs.declared.words.Goal.{Goal}
use Rattle.sheet.specs.declared.words.Report.{Report}
use Rattle.sheet.specs.declared.words.State.TheVariants.{Found, NoneFound}
use Rattle.worked_examples.specs.Examples.{most, parts}

-- ---- the three-depot sheet, and the calls of one search

-- its lanes, offered one by one
abbrev pub three_offers : List Call
three_offers = Offer 0 1 9 4 ∷ Offer 1 2 9 5 ∷ Offer 0 2 8 7 ∷ []

abbrev pub three_sheet : (Asked → ℕ) → Model
three_sheet tell = after_run (opened parts most 3 tell) three_offers

-- as many openings as a search of three lanes can take
abbrev pub enough : ℕ
enough = 15

abbrev pub search_for : Goal → List Call
search_for goal = StateGoal goal ∷ Grant enough ∷ []

-- ---- the searches

abbrev pub found : ℕ → ℕ → ℕ → ℕ → Report
found set cost chance openings = record { state = Found; best = Some (record { set = set; cost = cost; chance = chance }); openings = openings }

abbrev pub none_found : ℕ → Report
none_found openings = record { state = NoneFound; best = None; openings = openings }

-- a goal, sought under a bound
pub record Sought : Type 0 where
  pub tell : Asked → ℕ
  pub goal : Goal
  pub expected : Report

abbrev sought : (Asked → ℕ) → ℕ → ℕ → Report → Sought
sought tell places share expected = record { tell = tell; goal = goal_of places share; expected = expected }

-- the report by the definitions
abbrev pub reported : Sought → Report
reported s = report_of (after_run (three_sheet s.tell) (search_for s.goal))

abbrev pub searches : List Sought
searches =
    sought plain_tells 1 8 (found 3 9 8100 13)
    ∷ sought plain_tells 2 82 (found 7 16 9540 15)
    ∷ sought plain_tells 3 954 (found 7 16 9540 15)
    ∷ sought plain_tells 3 955 (none_found 15)
    ∷ sought depot_tells 1 8 (found 3 9 8100 11)
    ∷ sought whole_tells 1 8 (found 3 9 8100 9)
    ∷ []

abbrev pub reports : List Report
reports = map reported searches

abbrev pub expected_reports : List Report
expected_reports = map (λ s. s.expected) searches

-- every search ends with the report that it must have
abbrev pub SearchesHold : Type 0
SearchesHold = reports ≡ expected_reports
