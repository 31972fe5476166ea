-- Sets as numbers, lane by lane: bits of sums and of common lanes, and sets that lie within others.
use Rattle.std.proofs.Common.{◌≡◌, ℕ, zero, suc, ◌+◌, ◌/◌, ◌%◌, ◌^◌, ◌<◌, ◌≤◌, min, sym, refl, ap, ◌∙◌, subst, ap₂, le_trans, le_of_eq, mod-lt, pow-suc, div-one, one-add, arith, lit<, pow_mono}
use native.Mathlib.Nat.{pow-zero}
use lib.Bits.{bit_and, and_le_r, and_step}
use Rattle.std.proofs.lemmas.Nat.{div_below, shr-shr}
use Rattle.network.specs.Sets.{bit}

-- ---- bits, lowest first

pub bit_first : (s : ℕ) → bit s 0 ≡ s % 2
bit_first s = ap (λ (n : ℕ). n % 2) (div-one s)

pub bit_half : (s i : ℕ) → bit (s / 2) i ≡ bit s (suc i)
bit_half s i = ap (λ (n : ℕ). n % 2) (shr-shr s 1 i ∙ ap (λ (j : ℕ). s / 2 ^ j) (one-add i))

pub bit_low : (s i : ℕ) → bit s i ≤ 1
bit_low s i = omega (arith, mod-lt (s / 2 ^ i) (lit< {m = 0} {n = 2} tt))

pub bit_none : (i : ℕ) → bit 0 i ≡ 0
bit_none zero = refl
bit_none (suc i) = sym (bit_half 0 i) ∙ bit_none i

-- ---- sets with the same lanes are one number

below_own_power : (n : ℕ) → n < 2 ^ n
below_own_power zero = lit< tt
below_own_power (suc n) = omega (arith, below_own_power n, pow-suc 2 n)

pub half_below : (s k : ℕ) → s < 2 ^ suc k → s / 2 < 2 ^ k
half_below s k low = div_below s 2 (2 ^ k) (lit< tt) (subst (λ (n : ℕ). s < n) (pow-suc 2 k) low)

same_below : (k a b : ℕ) → a < 2 ^ k → b < 2 ^ k → ((i : ℕ) → bit a i ≡ bit b i) → a ≡ b
same_below zero a b low other same = omega (arith, pow-zero 2)
same_below (suc k) a b low other same =
    let halves = same_below k (a / 2) (b / 2) (half_below a k low) (half_below b k other) (λ i. bit_half a i ∙ same (suc i) ∙ sym (bit_half b i)) in
    omega (arith, sym (bit_first a) ∙ same 0 ∙ bit_first b)

pub same_bits : (a b : ℕ) → ((i : ℕ) → bit a i ≡ bit b i) → a ≡ b
same_bits a b same =
    let more : 2 ^ a ≤ 2 ^ (a + b) = pow_mono {i = a} {j = a + b} (omega arith) in
    let other : 2 ^ b ≤ 2 ^ (a + b) = pow_mono {i = b} {j = a + b} (omega arith) in
    same_below (a + b) a b (omega (arith, below_own_power a)) (omega (arith, below_own_power b)) same

-- ---- common lanes

pub bit_of_and : (a b i : ℕ) → bit (bit_and a b) i ≡ min (bit a i) (bit b i)
bit_of_and a b zero = bit_first (bit_and a b) ∙ low ∙ sym (ap₂ min (bit_first a) (bit_first b))
  where
    low : bit_and a b % 2 ≡ min (a % 2) (b % 2)
    low = omega (arith, and_step a b)
bit_of_and a b (suc i) =
    sym (bit_half (bit_and a b) i)
    ∙ ap (λ (n : ℕ). bit n i) half
    ∙ bit_of_and (a / 2) (b / 2) i
    ∙ ap₂ min (bit_half a i) (bit_half b i)
  where
    half : bit_and a b / 2 ≡ bit_and (a / 2) (b / 2)
    half = omega (arith, and_step a b)

-- every lane of a is one of b
pub within_and : (a b : ℕ) → ((i : ℕ) → bit a i ≤ bit b i) → bit_and a b ≡ a
within_and a b within = same_bits (bit_and a b) a (λ i. bit_of_and a b i ∙ omega (arith, within i))

pub and_within : (a b : ℕ) → bit_and a b ≡ a → (i : ℕ) → bit a i ≤ bit b i
and_within a b is i = omega (arith, sym (bit_of_and a b i) ∙ ap (λ (n : ℕ). bit n i) is)

pub within_le : (a b : ℕ) → ((i : ℕ) → bit a i ≤ bit b i) → a ≤ b
within_le a b within = le_trans (le_of_eq (sym (within_and a b within))) (and_le_r a b)

-- no lane of a is one of b
pub apart_and : (a b : ℕ) → ((i : ℕ) → bit a i + bit b i ≤ 1) → bit_and a b ≡ 0
apart_and a b apart = same_bits (bit_and a b) 0 (λ i. bit_of_and a b i ∙ omega (arith, apart i) ∙ sym (bit_none i))

pub and_apart : (a b : ℕ) → bit_and a b ≡ 0 → (i : ℕ) → bit a i + bit b i ≤ 1
and_apart a b is i = omega (arith, bit_low a i, bit_low b i, sym (bit_of_and a b i) ∙ ap (λ (n : ℕ). bit n i) is ∙ bit_none i)

-- ---- two sets that share no lane, together

pub bit_sum : (a b : ℕ) → ((i : ℕ) → bit a i + bit b i ≤ 1) → (i : ℕ) → bit (a + b) i ≡ bit a i + bit b i
bit_sum a b apart zero = bit_first (a + b) ∙ low ∙ sym (ap₂ ◌+◌ (bit_first a) (bit_first b))
  where
    low : (a + b) % 2 ≡ a % 2 + b % 2
    low = omega (arith, ap₂ ◌+◌ (bit_first a) (bit_first b), apart 0)
bit_sum a b apart (suc i) =
    sym (bit_half (a + b) i)
    ∙ ap (λ (n : ℕ). bit n i) half
    ∙ bit_sum (a / 2) (b / 2) (λ j. omega (arith, bit_half a j, bit_half b j, apart (suc j))) i
    ∙ ap₂ ◌+◌ (bit_half a i) (bit_half b i)
  where
    half : (a + b) / 2 ≡ a / 2 + b / 2
    half = omega (arith, ap₂ ◌+◌ (bit_first a) (bit_first b), apart 0)
