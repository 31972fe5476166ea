-- Two values are equal where their numbers are; and the laws of shares, of costs and of yes/no.
use mathlib.Core.HLevel.{is_prop→PathP}
use Rattle.std.specs.Prelude.{◌≡◌, ◌≤◌, Bool, true, false, ◌&&◌, ◌||◌, refl}
use Rattle.std.proofs.Common.{ap, mul_comm, one-mul, zero-mul, arith}
use Rattle.std.proofs.Math.Bridge.{le_prop}
use Rattle.network.specs.Scales.{full_limit}
use Rattle.semiring.specs.Cheapest.{absent, cheapest_ops}
use Rattle.semiring.specs.Semirings.{Laws}
use Rattle.semiring.specs.Shares.{share, share_ops}
use Rattle.semiring.specs.YesNo.{yes_no, yes_no_ops}
use Rattle.semiring.specs.declared.cheapests.Cheapest.{Cheapest}
use Rattle.semiring.specs.declared.shares.Share.{Share}
use Rattle.semiring.specs.Capped.{add_capped_min, min_capped_assoc, mul_capped_assoc, mul_capped_add}

pub share_same : (a b : Share) → a.parts ≡ b.parts → a ≡ b
share_same a b e = λ i. record { parts = e i; within = is_prop→PathP (λ j. e j ≤ full_limit) (λ j. le_prop) a.within b.within i }

pub share_laws : Laws share_ops
share_laws =
    record {
      sum_assoc = λ a b c. share_same _ _ (omega arith);
      sum_comm = λ a b. share_same _ _ (omega arith);
      sum_zero = λ a. share_same _ _ (omega arith);
      product_assoc = λ a b c. share_same _ _ (mul_capped_assoc full_limit a.parts b.parts c.parts);
      product_comm = λ a b. ap share (mul_comm a.parts b.parts);
      product_one = λ a. share_same _ _ (omega (arith, one-mul a.parts));
      product_zero = λ a. ap share (zero-mul a.parts);
      distributes = λ a b c. share_same _ _ (mul_capped_add full_limit a.parts b.parts c.parts);
    }

pub cheapest_same : (a b : Cheapest) → a.cost ≡ b.cost → a ≡ b
cheapest_same a b e = λ i. record { cost = e i; within = is_prop→PathP (λ j. e j ≤ absent) (λ j. le_prop) a.within b.within i }

pub cheapest_laws : Laws cheapest_ops
cheapest_laws =
    record {
      sum_assoc = λ a b c. cheapest_same _ _ (min_capped_assoc absent a.cost b.cost c.cost);
      sum_comm = λ a b. cheapest_same _ _ (omega arith);
      sum_zero = λ a. cheapest_same _ _ (omega arith);
      product_assoc = λ a b c. cheapest_same _ _ (omega arith);
      product_comm = λ a b. cheapest_same _ _ (omega arith);
      product_one = λ a. cheapest_same _ _ (omega arith);
      product_zero = λ a. cheapest_same _ _ (omega arith);
      distributes = λ a b c. cheapest_same _ _ (add_capped_min absent a.cost b.cost c.cost);
    }

pub yes_no_laws : Laws yes_no_ops
yes_no_laws =
    record {
      sum_assoc = λ a b c. ap yes_no (or_assoc a.yes b.yes c.yes);
      sum_comm = λ a b. ap yes_no (or_comm a.yes b.yes);
      sum_zero = λ a. refl;
      product_assoc = λ a b c. ap yes_no (and_assoc a.yes b.yes c.yes);
      product_comm = λ a b. ap yes_no (and_comm a.yes b.yes);
      product_one = λ a. refl;
      product_zero = λ a. refl;
      distributes = λ a b c. ap yes_no (and_or a.yes b.yes c.yes);
    }
  where
    or_assoc : (a b c : Bool) → ((a || b) || c) ≡ (a || (b || c))
    or_assoc true b c = refl
    or_assoc false b c = refl

    or_comm : (a b : Bool) → (a || b) ≡ (b || a)
    or_comm true true = refl
    or_comm true false = refl
    or_comm false true = refl
    or_comm false false = refl

    and_assoc : (a b c : Bool) → ((a && b) && c) ≡ (a && (b && c))
    and_assoc true b c = refl
    and_assoc false b c = refl

    and_comm : (a b : Bool) → (a && b) ≡ (b && a)
    and_comm true true = refl
    and_comm true false = refl
    and_comm false true = refl
    and_comm false false = refl

    and_or : (a b c : Bool) → (a && (b || c)) ≡ ((a && b) || (a && c))
    and_or true b c = refl
    and_or false b c = refl
