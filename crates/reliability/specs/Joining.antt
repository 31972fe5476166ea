-- The joining cost: the cheapest cost of lanes that connect all depots, or absent.
use Rattle.std.specs.Prelude.{◌≡◌, ℕ, ◌≤◌, List, [], ◌∷◌, Option, MatchOption}
use Rattle.network.specs.Connected.{Connected, connects}
use Rattle.network.specs.Sets.{total_cost}
use Rattle.network.specs.declared.lanes.Lane.{Lane}
use Rattle.semiring.specs.Cheapest.{cheapest_ops, present}
use Rattle.reliability.specs.Totals.{total}

-- the first list is what is left of the second when some lanes are taken out
pub data Part : List Lane → List Lane → Type 0 where
  none : Part [] []
  keep : {l : Lane} {rs ls : List Lane} → Part rs ls → Part (l ∷ rs) (l ∷ ls)
  skip : {l : Lane} {rs ls : List Lane} → Part rs ls → Part rs (l ∷ ls)

-- the total in which the lesser counts and costs add
abbrev pub joining_cost : ℕ → ℕ → List Lane → Option ℕ
joining_cost S depots ls = present (total cheapest_ops S (connects depots) ls).cost

-- some of the lanes connect all depots at this cost, and none do for less
pub record Least (depots : ℕ) (ls : List Lane) (cost : ℕ) : Type 0 where
  pub reached : (rs : List Lane) × Part rs ls × Connected depots rs × (total_cost rs ≡ cost)
  pub least : (rs : List Lane) → Part rs ls → Connected depots rs → cost ≤ total_cost rs

-- what the answer says in these words
abbrev pub CheapestJoining : ℕ → List Lane → Option ℕ → Type 0
CheapestJoining depots ls answer = MatchOption answer ((rs : List Lane) → Part rs ls → Connected depots rs → ⊥) (Least depots ls)
