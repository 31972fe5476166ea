-- The powers of a scale that a goal takes stay within the full scale.
use Rattle.std.proofs.Common.{◌≡◌, ℕ, ◌+◌, ◌-◌, ◌*◌, ◌^◌, ◌≤◌, sym, ap, ◌∙◌, subst, le_trans, mul-le-mul_right, arith, pow-add}
use native.Mathlib.Nat.{pow-le-pow_right}
use Rattle.network.specs.Scales.{full_limit}

pub power_within : (S K k : ℕ) → 1 ≤ S → S ^ K ≤ full_limit → k ≤ K → S ^ k ≤ full_limit
power_within S K k positive rule low = le_trans (pow-le-pow_right positive low) rule

pub goal_within : (S K r g : ℕ) → S ^ K ≤ full_limit → r ≤ K → g ≤ S ^ r → g * S ^ (K - r) ≤ full_limit
goal_within S K r g rule low few =
    let split : r + (K - r) ≡ K = omega arith in
    le_trans (mul-le-mul_right (S ^ (K - r)) few) (subst (λ (n : ℕ). n ≤ full_limit) (ap (λ (k : ℕ). S ^ k) (sym split) ∙ pow-add S r (K - r)) rule)
