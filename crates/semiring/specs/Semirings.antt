-- What a commutative semiring of values is, with a running and a failing weight for each lane.
use Rattle.std.specs.Prelude.{◌≡◌, ℕ}
use Rattle.network.specs.declared.lanes.Lane.{Lane}

-- The weights are fixed by the number S of parts of the scale and by the lane.
pub record Ops (V : Type 0) : Type 0 where
  pub zero : V
  pub one : V
  pub sum : V → V → V
  pub product : V → V → V
  pub running : ℕ → Lane → V
  pub failing : ℕ → Lane → V

pub record Laws {V : Type 0} (o : Ops V) : Type 0 where
  pub sum_assoc : (a b c : V) → o.sum (o.sum a b) c ≡ o.sum a (o.sum b c)
  pub sum_comm : (a b : V) → o.sum a b ≡ o.sum b a
  pub sum_zero : (a : V) → o.sum o.zero a ≡ a
  pub product_assoc : (a b c : V) → o.product (o.product a b) c ≡ o.product a (o.product b c)
  pub product_comm : (a b : V) → o.product a b ≡ o.product b a
  pub product_one : (a : V) → o.product o.one a ≡ a
  pub product_zero : (a : V) → o.product o.zero a ≡ o.zero
  pub distributes : (a b c : V) → o.product a (o.sum b c) ≡ o.sum (o.product a b) (o.product a c)
