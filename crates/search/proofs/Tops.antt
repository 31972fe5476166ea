-- The highest lane of a set: what is left without it, and a set with it.
use Rattle.std.proofs.Common.{◌≡◌, ℕ, zero, suc, ◌+◌, ◌-◌, ◌*◌, ◌/◌, ◌%◌, ◌^◌, ◌<◌, ◌≤◌, sym, refl, ap, ◌∙◌, subst, ⊎_elim, pow-suc, arith, pow_pos, pow_mono}
use lib.Count.{ones, ones_cat, ones-le, ones-ones, ones_step}
use Rattle.std.proofs.lemmas.Nat.{div_below, leading_top, one_shl}
use Rattle.std.proofs.lemmas.Bool.{cases_eq}
use Rattle.std.specs.Int.Count.{leading_unique}
use Rattle.network.specs.Sets.{bit}
use Rattle.network.proofs.Masks.{bit_first, bit_half, bit_low, bit_none, bit_sum, half_below}
use Rattle.search.specs.Opening.{highest}

-- the set of one lane has that lane alone
pub bit_own : (h : ℕ) → bit (2 ^ h) h ≡ 1
bit_own zero = refl
bit_own (suc h) = sym (bit_half (2 ^ suc h) h) ∙ ap (λ (n : ℕ). bit n h) half ∙ bit_own h
  where
    half : 2 ^ suc h / 2 ≡ 2 ^ h
    half = omega (arith, pow-suc 2 h)

pub bit_other : (h i : ℕ) → (i ≡ h → ⊥) → bit (2 ^ h) i ≡ 0
bit_other zero zero differ = absurd (differ refl)
bit_other zero (suc i) differ = sym (bit_half 1 i) ∙ bit_none i
bit_other (suc h) zero differ = bit_first (2 ^ suc h) ∙ omega (arith, pow-suc 2 h)
bit_other (suc h) (suc i) differ =
    sym (bit_half (2 ^ suc h) i) ∙ ap (λ (n : ℕ). bit n i) half ∙ bit_other h i (λ e. differ (ap suc e))
  where
    half : 2 ^ suc h / 2 ≡ 2 ^ h
    half = omega (arith, pow-suc 2 h)

-- a number has no lanes past its power
pub bit_past : (v h i : ℕ) → v < 2 ^ h → h ≤ i → bit v i ≡ 0
bit_past v h i low past =
    let more : 2 ^ h ≤ 2 ^ i = pow_mono {i = h} {j = i} past in
    let none : v / 2 ^ i < 1 = div_below v (2 ^ i) 1 (pow_pos i) (omega arith) in
    let is : v / 2 ^ i ≡ 0 = omega arith in
    ap (λ (n : ℕ). n % 2) is

-- as many ones, digit by digit
pub ones_within : (k s t : ℕ) → s < 2 ^ k → ((i : ℕ) → bit s i ≤ bit t i) → ones s ≤ ones t
ones_within zero s t low within = omega (arith, ones-le 0 s low)
ones_within (suc k) s t low within =
    omega (
      arith,
      ones_step s,
      ones_step t,
      bit_first s,
      bit_first t,
      within 0,
      ones_within k (s / 2) (t / 2) (half_below s k low) (λ i. omega (arith, bit_half s i, bit_half t i, within (suc i))),
    )

-- what is known of the highest lane of a set that is not empty
pub record Top (u : ℕ) : Type 0 where
  pub lane : 2 ^ highest u ≤ u
  pub last : u < 2 ^ highest u + 2 ^ highest u

pub top_of : (u : ℕ) → 0 < u → u < 2 ^ 32 → Top u
top_of u some low =
    let found = leading_top 32 u some low in
    let is : highest u ≡ found.0 = omega (arith, found.1) in
    let double = pow-suc 2 found.0 in
    record {
      lane = subst (λ (j : ℕ). 2 ^ j ≤ u) (sym is) found.2;
      last = subst (λ (j : ℕ). u < 2 ^ j + 2 ^ j) (sym is) (omega (arith, found.3));
    }

module _ (u : ℕ) (top : Top u) where
  abbrev rest : ℕ
  rest = u - 2 ^ highest u

  rest_low : rest < 2 ^ highest u
  rest_low = omega (arith, top.lane, top.last)

  whole : rest + 2 ^ highest u ≡ u
  whole = omega (arith, top.lane)

  apart : (i : ℕ) → bit rest i + bit (2 ^ highest u) i ≤ 1
  apart i =
      ⊎_elim
      (λ same. omega (arith, ap (λ (j : ℕ). bit rest j) same, bit_past rest (highest u) (highest u) rest_low (omega arith), bit_low (2 ^ highest u) i))
      (λ differ. omega (arith, bit_other (highest u) i differ, bit_low rest i))
      (cases_eq i (highest u))

  pub split_bits : (i : ℕ) → bit u i ≡ bit rest i + bit (2 ^ highest u) i
  split_bits i = ap (λ (n : ℕ). bit n i) (sym whole) ∙ bit_sum rest (2 ^ highest u) apart i

  pub rest_top : bit rest (highest u) ≡ 0
  rest_top = bit_past rest (highest u) (highest u) rest_low (omega arith)

  pub ones_rest : ones u ≡ ones rest + 1
  ones_rest =
      let together : 1 * 2 ^ highest u + rest ≡ u = omega (arith, whole) in
      ap ones (sym together) ∙ ones_cat (highest u) 1 rest rest_low ∙ omega (arith, ones-ones 1)

-- the logarithm that the code takes is the highest lane
pub highest_is : (u r : ℕ) → 2 ^ r ≤ u → u < 2 * 2 ^ r → r < 32 → r ≡ highest u
highest_is u r low high small =
    let double = pow-suc 2 r in
    let zeros = leading_unique 32 u (31 - r) (suc r) (omega arith) (omega arith) (omega arith) in
    omega (arith, zeros)

-- the shift that the code takes for the highest lane
pub shifted : (u : ℕ) → (1 * 2 ^ highest u) % 2 ^ 32 ≡ 2 ^ highest u
shifted u = one_shl (highest u) 32 (omega arith)
