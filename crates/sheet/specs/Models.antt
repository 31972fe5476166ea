-- A sheet by its parts, and the state that it is in.
use Rattle.std.specs.Prelude.{ℕ, List, [], ◌∷◌, Some, None, Option}
use Rattle.network.specs.Connected.{connects}
use Rattle.network.specs.Sets.{chosen, set_cost}
use Rattle.network.specs.declared.lanes.Lane.{Lane}
use Rattle.reliability.specs.Reliability.{lanes_chance}
use Rattle.bounds.specs.Questions.{Asked}
use Rattle.search.specs.Opening.{Problem, Progress, none_started, start_over}
use Rattle.search.specs.declared.branches.Branch.{Branch}
use Rattle.sheet.specs.Goals.{least_chance}
use Rattle.sheet.specs.declared.words.Goal.{Goal}
use Rattle.sheet.specs.declared.words.Plan.{Plan}
use Rattle.sheet.specs.declared.words.Report.{Report}
use Rattle.sheet.specs.declared.words.State.{State}
use Rattle.sheet.specs.declared.words.State.TheVariants.{Drafting, Working, Found, NoneFound}

-- S, K, depots and lanes
pub record Contents : Type 0 where
  pub parts : ℕ
  pub most : ℕ
  pub depots : ℕ
  pub lanes : List Lane

-- a sheet has these, the number that its bound tells to a question, a goal if one was stated, and how far its search has come
pub record Model : Type 0 where
  pub contents : Contents
  pub tell : Asked → ℕ
  pub goal : Option Goal
  pub progress : Progress

-- what is searched once there is a goal
abbrev pub problem : Contents → (Asked → ℕ) → Goal → Problem
problem c tell goal =
    record {
      parts = c.parts;
      most = c.most;
      depots = c.depots;
      lanes = c.lanes;
      least = least_chance c.parts c.most goal;
      tell = tell;
    }

-- with none pending a sheet is found if it has a best set, else none
abbrev pub ended_state : Option ℕ → State
ended_state None = NoneFound
ended_state (Some s) = Found

abbrev pub searched_state : List Branch → Option ℕ → State
searched_state [] best = ended_state best
searched_state (b ∷ bs) best = Working

abbrev pub state_by : Option Goal → Progress → State
state_by None x = Drafting
state_by (Some goal) x = searched_state x.pending x.best

abbrev pub state_of : Model → State
state_of m = state_by m.goal m.progress

-- after a change: without a goal no branch is pending, and with one the search is at its start
abbrev pub fresh : List Lane → Option Goal → Progress
fresh ls None = none_started
fresh ls (Some goal) = start_over ls

-- ---- the report

-- a set with its cost and its chance; neither depends on a goal or a bound
abbrev pub plan_in : Contents → ℕ → Plan
plan_in c s = record { set = s; cost = set_cost s c.lanes; chance = lanes_chance c.parts c.most (connects c.depots) (chosen s c.lanes) }

abbrev pub told_plan : Contents → Option ℕ → Option Plan
told_plan c None = None
told_plan c (Some s) = Some (plan_in c s)

abbrev pub report_of : Model → Report
report_of m = record { state = state_of m; best = told_plan m.contents m.progress.best; openings = m.progress.openings }
