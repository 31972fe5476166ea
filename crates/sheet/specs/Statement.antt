-- The statement over every run: when found and none are told, which set is found, that grants add up, and how many openings are told.
use Rattle.std.specs.Prelude.{◌≡◌, ℕ, suc, ◌-◌, ◌^◌, ◌≤◌, min, Bool, List, length, Some, None}
use Rattle.network.specs.Sets.{chosen, standing_lanes}
use Rattle.network.specs.declared.lanes.Lane.{Lane}
use Rattle.reliability.specs.Reliability.{lanes_chance}
use Rattle.reliability.specs.Totals.{Tells}
use Rattle.search.specs.Opening.{Problem, chance_of}
use Rattle.search.specs.Plans.{Cheapest, FullCount, Plan, StandingSet, most_granted}
use Rattle.sheet.specs.Calls.{after}
use Rattle.sheet.specs.Models.{Model, plan_in, problem}
use Rattle.sheet.specs.Runs.{Fresh, after_run, last_change, sum_of}
use Rattle.sheet.specs.declared.words.Call.{Call}
use Rattle.sheet.specs.declared.words.Call.TheVariants.{Grant}
use Rattle.sheet.specs.declared.words.Goal.{Goal}
use Rattle.sheet.specs.declared.words.Report.{Report}
use Rattle.sheet.specs.declared.words.State.TheVariants.{Drafting, Found, NoneFound}

-- With a goal: the search has ended once the sum is the full count or more.
pub record Searched (m : Model) (p : Problem) (sum : ℕ) (r : Report) : Type 0 where
  pub count : ℕ
  pub full : FullCount p count
  pub bounded : count ≤ 2 ^ suc (length (standing_lanes p.lanes)) - 1
  -- found exactly when the search has ended and some standing set reaches the goal; it is the cheapest, told with its cost and its chance
  pub found_when : r.state ≡ Found → (count ≤ sum) × ((s : ℕ) × (Cheapest p s × (r.best ≡ Some (plan_in m.contents s))))
  pub found_due : count ≤ sum → (s : ℕ) → Plan p s → r.state ≡ Found
  -- none exactly when it has ended and no standing set does
  pub none_when : r.state ≡ NoneFound → (count ≤ sum) × ((s : ℕ) → Plan p s → ⊥)
  pub none_due : count ≤ sum → ((s : ℕ) → Plan p s → ⊥) → r.state ≡ NoneFound
  pub openings : r.openings ≡ min sum count
  -- the chance of a standing set is its all-terminal reliability, whichever way connectedness is told
  pub chances : (test : List Lane → Bool) → Tells p.depots test → (s : ℕ) → StandingSet p s → chance_of p s ≡ lanes_chance p.parts p.most test (chosen s p.lanes)

-- The run leads from a fresh sheet to one that gives this report.
pub record Statement (start : Model) (run : List Call) (m : Model) (r : Report) : Type 0 where
  pub searched : (goal : Goal) → m.goal ≡ Some goal → Searched m (problem m.contents m.tell goal) (sum_of start run) r
  -- without a goal nothing has been searched, and neither found nor none is told
  pub drafts : m.goal ≡ None → r.state ≡ Drafting
  -- the sheet in all its parts is as after one grant of the sum, or of the most that may be granted, right after the last change
  pub as_one : m ≡ after (last_change start run) (Grant (min (sum_of start run) most_granted))

-- The statement holds of every fresh sheet and every run of calls that lead to this one.
abbrev pub OverEveryRun : Model → Report → Type 0
OverEveryRun m r = (start : Model) → Fresh start → (run : List Call) → after_run start run ≡ m → Statement start run m r
