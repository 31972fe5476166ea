-- Goals: g parts of S^r. Which are refused, and the least chance that reaches one.
use Rattle.std.specs.Prelude.{ℕ, ◌-◌, ◌*◌, ◌^◌, cond, ◌||◌, Some, None, Option, ◌==◌, nat_lt}
use Rattle.network.specs.declared.refusals.Refusal.{Refusal}
use Rattle.network.specs.declared.refusals.Refusal.TheVariants.{PartsOutOfRange, PlacesOutOfRange}
use Rattle.sheet.specs.declared.goals.Target.{Target}
use Rattle.sheet.specs.declared.words.Goal.{Goal}

-- r is outside 1 to K, or g is outside 1 to S^r
abbrev pub goal_refusal : ℕ → ℕ → Goal → Option Refusal
goal_refusal S K goal =
    cond (goal.places == 0 || nat_lt K goal.places) (Some PlacesOutOfRange)
    (cond (goal.parts == 0 || nat_lt (S ^ goal.places) goal.parts) (Some PartsOutOfRange) None)

-- a chance, in parts of S^K, reaches the goal if it is at least g·S^(K−r)
abbrev pub least_chance : ℕ → ℕ → Goal → ℕ
least_chance S K goal = goal.parts * S ^ (K - goal.places)

abbrev pub target_for : ℕ → ℕ → Goal → Target
target_for S K goal = record { goal = goal; least = least_chance S K goal }

abbrev pub least_for : ℕ → ℕ → Option Goal → ℕ
least_for S K None = 0
least_for S K (Some goal) = least_chance S K goal

-- the goal that a sheet has, and the least chance that it keeps beside it
abbrev pub goal_in : Option Target → Option Goal
goal_in None = None
goal_in (Some target) = Some target.goal

abbrev pub least_in : Option Target → ℕ
least_in None = 0
least_in (Some target) = target.least
