-- What all states of some lanes add up to, whether or not they connect: the product of the sums of each lane's two weights.
use Rattle.std.specs.Prelude.{◌≡◌, ℕ, ◌<◌, ◌≤◌, List, [], ◌∷◌, length, drop, slice_index_or}
use Rattle.network.specs.declared.lanes.Lane.{Lane}
use Rattle.semiring.specs.Semirings.{Ops}

-- the two weights of one lane together
abbrev pub both : {V : Type 0} → Ops V → ℕ → Lane → V
both o S l = o.sum (o.running S l) (o.failing S l)

abbrev pub spread : {V : Type 0} → Ops V → ℕ → List Lane → V
spread o S [] = o.one
spread o S (l ∷ ls) = o.product (both o S l) (spread o S ls)

-- a lane between two parts: what follows if it runs, and what follows if it fails
abbrev pub mixed : {V : Type 0} → Ops V → ℕ → Lane → V → V → V
mixed o S l runs fails = o.sum (o.product (o.running S l) runs) (o.product (o.failing S l) fails)

-- the places hold what the lanes from there on add up to
pub record Filled {V : Type 0} (o : Ops V) (S : ℕ) (ls : List Lane) (places : List V) : Type 0 where
  pub long : length ls < length places
  pub each : (k : ℕ) (d : V) → k ≤ length ls → slice_index_or places k d ≡ spread o S (drop k ls)
