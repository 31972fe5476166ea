-- What the routine's types keep of their fields has at most one proof.
use Rattle.std.specs.Prelude.{◌≡◌, ℕ, List, [], ◌∷◌}
use Rattle.std.specs.Coded.{Unit-prop, le_prop}
use Rattle.network.specs.Connected.{EndsWithin}
use Rattle.network.specs.declared.lanes.Lane.{Lane}
use Rattle.semiring.specs.Semirings.{Ops}
use Rattle.reliability.specs.Spread.{Filled}

pub EndsWithin-prop : (n : ℕ) (ls : List Lane) → IsProp (EndsWithin n ls)
EndsWithin-prop n [] = Unit-prop
EndsWithin-prop n (l ∷ ls) = λ p q i. (le_prop p.0 q.0 i, le_prop p.1 q.1 i, EndsWithin-prop n ls p.2 q.2 i)

-- where two values are the same in one way at most
pub Filled-prop : {V : Type 0} (o : Ops V) (S : ℕ) (ls : List Lane) (places : List V) → ((x y : V) → IsProp (x ≡ y)) → IsProp (Filled o S ls places)
Filled-prop o S ls places set =
    λ p q i. record { long = le_prop p.long q.long i; each = λ k d within. set _ _ (p.each k d within) (q.each k d within) i }
