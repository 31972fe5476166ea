-- The total of a list of lanes in a semiring: the sum, over the states whose running lanes connect all depots, of the product of the weights.
use Rattle.std.specs.Prelude.{ℕ, Bool, cond, List, [], ◌∷◌, ◌++◌, map, Decides}
use Rattle.network.specs.Connected.{Connected, EndsWithin}
use Rattle.network.specs.declared.lanes.Lane.{Lane}
use Rattle.semiring.specs.Semirings.{Ops}

-- what a lane does in a state
pub data Fate : Type 0 where
  runs : Lane → Fate
  fails : Lane → Fate

-- the 2^a states of a lanes
abbrev pub states : List Lane → List (List Fate)
states [] = [] ∷ []
states (l ∷ ls) = map (λ state. runs l ∷ state) (states ls) ++ map (λ state. fails l ∷ state) (states ls)

-- the lanes that run in a state
abbrev pub running_lanes : List Fate → List Lane
running_lanes [] = []
running_lanes (runs l ∷ state) = l ∷ running_lanes state
running_lanes (fails l ∷ state) = running_lanes state

-- the product of the weights, at a scale of S parts
abbrev pub weight : {V : Type 0} → Ops V → ℕ → List Fate → V
weight o S [] = o.one
weight o S (runs l ∷ state) = o.product (o.running S l) (weight o S state)
weight o S (fails l ∷ state) = o.product (o.failing S l) (weight o S state)

abbrev pub sum_of : {V : Type 0} → Ops V → List V → V
sum_of o [] = o.zero
sum_of o (v ∷ vs) = o.sum v (sum_of o vs)

-- what a state adds to the total: its weight, if its running lanes pass the test
abbrev pub part : {V : Type 0} → Ops V → ℕ → (List Lane → Bool) → List Fate → V
part o S test state = cond (test (running_lanes state)) (weight o S state) o.zero

abbrev pub total : {V : Type 0} → Ops V → ℕ → (List Lane → Bool) → List Lane → V
total o S test ls = sum_of o (map (part o S test) (states ls))

-- the test tells of running lanes whether they connect all depots
abbrev pub Tells : ℕ → (List Lane → Bool) → Type 0
Tells depots test = (ls : List Lane) → EndsWithin depots ls → Decides (test ls) (Connected depots ls)
