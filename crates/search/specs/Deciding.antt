-- What the code decides of one branch: the rule of an opening, case by case, over a network and a bound.
use Rattle.std.specs.Prelude.{ℕ, cond, Option, ◌==◌}
use Rattle.network.specs.Networks.{depots_of, lanes_of, most_of, parts_of}
use Rattle.bounds.specs.Questions.{Asked}
use Rattle.search.specs.Opening as rule
use Rattle.search.specs.declared.branches.Branch.{Branch}
use Rattle.search.specs.declared.branches.Opening.{Opening}
use Rattle.search.specs.declared.branches.Opening.TheVariants.{Dropped, Missed, Reached, Split}
use Rattle.search.specs.declared.deciding.Problem.{Problem}

-- by the number that its bound tells
abbrev pub problem_of : {B : Type 0} → (B → Asked → ℕ) → Problem B → rule.Problem
problem_of tells problem =
    record {
      parts = parts_of problem.network.now;
      most = most_of problem.network.now;
      depots = depots_of problem.network.now;
      lanes = lanes_of problem.network.now;
      least = problem.least;
      tell = tells problem.bound.now;
    }

abbrev pub decided : rule.Problem → Option ℕ → Branch → Opening
decided p best b =
    cond (rule.dropped p best b) Dropped (cond (b.undecided == 0) (cond (rule.reaches p b.picked) Reached Missed) (Split (rule.without b) (rule.with_lane b)))
