-- How likely it is that a depot is cut off: all lanes at it fail. One minus that bounds the chance.
use Rattle.std.specs.Prelude.{ℕ, zero, suc, ◌-◌, ◌*◌, ◌^◌, min, Bool, cond, ◌||◌, List, [], ◌∷◌, length, ◌==◌, nat_le}
use Rattle.network.specs.Sets.{kept}
use Rattle.network.specs.declared.lanes.Lane.{Lane}

-- the lane has an end at the depot
abbrev pub touches : ℕ → Lane → Bool
touches depot l = l.left == depot || l.right == depot

abbrev pub lanes_at : ℕ → List Lane → List Lane
lanes_at depot [] = []
lanes_at depot (l ∷ ls) = kept (touches depot l) l (lanes_at depot ls)

-- all lanes fail, in parts of S^d for d lanes
abbrev pub all_fail : ℕ → List Lane → ℕ
all_fail S [] = 1
all_fail S (l ∷ ls) = (S - l.chance) * all_fail S ls

-- what one depot gives: the full scale less the chance that all its lanes fail, or the full scale where it has more than K lanes
abbrev pub depot_number : ℕ → ℕ → ℕ → List Lane → ℕ
depot_number S K depot ls =
    cond (nat_le (length (lanes_at depot ls)) K)
    (S ^ K - all_fail S (lanes_at depot ls) * S ^ (K - length (lanes_at depot ls)))
    (S ^ K)

-- the least of what the first depots give
abbrev pub least_depot : ℕ → ℕ → ℕ → List Lane → ℕ
least_depot S K zero ls = S ^ K
least_depot S K (suc depot) ls = min (depot_number S K depot ls) (least_depot S K depot ls)
