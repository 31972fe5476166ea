-- The rule of the search: a problem, its branches, and what one opening does.
use Rattle.std.specs.Prelude.{ℕ, zero, suc, ◌+◌, ◌-◌, ◌^◌, Bool, false, cond, ◌&&◌, ◌||◌, List, [], ◌∷◌, Some, None, Option, ◌==◌, count_ones, nat_le, nat_lt}
use Rattle.std.specs.Int.Count.{count_leading_zeros}
use Rattle.network.specs.Connected.{connects}
use Rattle.network.specs.Sets.{chosen, set_cost, standing_set}
use Rattle.network.specs.declared.lanes.Lane.{Lane}
use Rattle.reliability.specs.Reliability.{lanes_chance}
use Rattle.bounds.specs.Questions.{Asked}
use Rattle.search.specs.declared.branches.Branch.{Branch}

-- what is searched: the network's parts, the least chance that reaches the goal, and the upper bound that is asked
pub record Problem : Type 0 where
  pub parts : ℕ
  pub most : ℕ
  pub depots : ℕ
  pub lanes : List Lane
  pub least : ℕ
  pub tell : Asked → ℕ

-- the branches still to be opened, the newest first; the best set so far; and how many openings were made
pub record Progress : Type 0 where
  pub pending : List Branch
  pub best : Option ℕ
  pub openings : ℕ

abbrev pub question : Problem → Branch → Asked
question p b =
    record {
      parts = p.parts;
      most = p.most;
      depots = p.depots;
      lanes = p.lanes;
      picked = b.picked;
      undecided = b.undecided;
    }

abbrev pub cost_of : Problem → ℕ → ℕ
cost_of p s = set_cost s p.lanes

abbrev pub chance_of : Problem → ℕ → ℕ
chance_of p s = lanes_chance p.parts p.most (connects p.depots) (chosen s p.lanes)

-- a chance reaches the goal if it is at least this
abbrev pub reaches : Problem → ℕ → Bool
reaches p s = nat_le p.least (chance_of p s)

-- there is a best set and the picked lanes cost as much or more
abbrev pub too_dear : List Lane → Option ℕ → ℕ → Bool
too_dear ls None picked = false
too_dear ls (Some best) picked = nat_le (set_cost best ls) (set_cost picked ls)

-- the number of the highest lane of a set of 32 lanes that is not empty
abbrev pub highest : ℕ → ℕ
highest s = 31 - count_leading_zeros 32 s

-- a branch that leads nowhere: too dear, too many lanes, or a bound below the goal
abbrev pub dropped : Problem → Option ℕ → Branch → Bool
dropped p best b = too_dear p.lanes best b.picked || (nat_lt p.most (count_ones b.picked) || nat_lt (p.tell (question p b)) p.least)

abbrev pub without : Branch → Branch
without b = record { picked = b.picked; undecided = b.undecided - 2 ^ highest b.undecided }

abbrev pub with_lane : Branch → Branch
with_lane b = record { picked = b.picked + 2 ^ highest b.undecided; undecided = b.undecided - 2 ^ highest b.undecided }

-- the branches pending after a branch that is not dropped was opened
abbrev pub branches_after : Branch → List Branch → List Branch
branches_after b rest = cond (b.undecided == 0) rest (without b ∷ (with_lane b ∷ rest))

abbrev pub best_after : Problem → Branch → Option ℕ → Option ℕ
best_after p b best = cond (b.undecided == 0 && reaches p b.picked) (Some b.picked) best

-- one opening takes the newest branch
abbrev pub opened : Problem → Branch → List Branch → Option ℕ → ℕ → Progress
opened p b rest best openings =
    record {
      pending = cond (dropped p best b) rest (branches_after b rest);
      best = cond (dropped p best b) best (best_after p b best);
      openings = openings + 1;
    }

abbrev pub open_from : Problem → List Branch → Option ℕ → ℕ → Progress
open_from p [] best openings = record { pending = []; best = best; openings = openings }
open_from p (b ∷ rest) best openings = opened p b rest best openings

abbrev pub open_one : Problem → Progress → Progress
open_one p progress = open_from p progress.pending progress.best progress.openings

-- openings until so many are made or none is pending
abbrev pub open_many : Problem → ℕ → Progress → Progress
open_many p zero progress = progress
open_many p (suc n) progress = open_many p n (open_one p progress)

-- after a change with a goal: nothing picked, all standing lanes undecided; without one nothing is pending
abbrev pub start_over : List Lane → Progress
start_over ls = record { pending = record { picked = 0; undecided = standing_set ls } ∷ []; best = None; openings = 0 }

abbrev pub none_started : Progress
none_started = record { pending = []; best = None; openings = 0 }

abbrev pub start : Problem → Progress
start p = start_over p.lanes
