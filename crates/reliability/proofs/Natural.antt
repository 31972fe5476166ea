-- Totals in plain natural numbers: how they bound, and that shares tell them exactly as long as they stay below 10^18.
use Rattle.std.proofs.Common.{◌≡◌, ℕ, ◌+◌, ◌-◌, ◌*◌, ◌^◌, ◌≤◌, min, Bool, true, false, cond, List, [], ◌∷◌, map, length, sym, refl, ap, ◌∙◌, subst, ap₂, le_trans, add_assoc, mul_assoc, mul_comm, add_comm, one-mul, pow-suc, zero-add, zero-mul, mul-add, arith}
use native.Mathlib.Nat.{pow-zero, pow-le-pow_right, min-eq_left}
use Rattle.std.proofs.lemmas.Bool.{and_parts, false≢true}
use Rattle.network.specs.Lanes.{all_sound, sound}
use Rattle.network.specs.Scales.{full_limit}
use Rattle.network.specs.declared.lanes.Lane.{Lane}
use Rattle.network.proofs.Sets.{fit_lane}
use Rattle.semiring.specs.Semirings.{Laws, Ops}
use Rattle.semiring.specs.Shares.{share, share_ops}
use Rattle.semiring.specs.Capped.{add_capped, mul_capped_left, mul_capped_right}
use Rattle.semiring.specs.ValuesLemmas.{share_same}
use Rattle.reliability.specs.Reliability.{natural_ops}
use Rattle.reliability.specs.Spread.{spread}
use Rattle.reliability.specs.Totals.{Fate, runs, fails, part, running_lanes, states, sum_of, total, weight}
use Rattle.reliability.proofs.Splitting.{total_all}

pub natural_laws : Laws natural_ops
natural_laws =
    record {
      sum_assoc = add_assoc;
      sum_comm = add_comm;
      sum_zero = zero-add;
      product_assoc = mul_assoc;
      product_comm = mul_comm;
      product_one = one-mul;
      product_zero = zero-mul;
      distributes = mul-add;
    }

-- ---- what keeps sums, products and weights keeps totals

pub record Keeps {U V : Type 0} (o : Ops U) (p : Ops V) (f : U → V) : Type 0 where
  pub zero : f o.zero ≡ p.zero
  pub one : f o.one ≡ p.one
  pub sum : (a b : U) → f (o.sum a b) ≡ p.sum (f a) (f b)
  pub product : (a b : U) → f (o.product a b) ≡ p.product (f a) (f b)
  pub running : (S : ℕ) (l : Lane) → f (o.running S l) ≡ p.running S l
  pub failing : (S : ℕ) (l : Lane) → f (o.failing S l) ≡ p.failing S l

module _ {U V : Type 0} (o : Ops U) (p : Ops V) (f : U → V) (keeps : Keeps o p f) (S : ℕ) (test : List Lane → Bool) where
  weight_kept : (state : List Fate) → f (weight o S state) ≡ weight p S state
  weight_kept [] = keeps.one
  weight_kept (runs l ∷ state) = keeps.product _ _ ∙ ap₂ p.product (keeps.running S l) (weight_kept state)
  weight_kept (fails l ∷ state) = keeps.product _ _ ∙ ap₂ p.product (keeps.failing S l) (weight_kept state)

  part_kept : (b : Bool) (state : List Fate) → f (cond b (weight o S state) o.zero) ≡ cond b (weight p S state) p.zero
  part_kept true state = weight_kept state
  part_kept false state = keeps.zero

  sum_kept : (all : List (List Fate)) → f (sum_of o (map (part o S test) all)) ≡ sum_of p (map (part p S test) all)
  sum_kept [] = keeps.zero
  sum_kept (state ∷ all) = keeps.sum _ _ ∙ ap₂ p.sum (part_kept (test (running_lanes state)) state) (sum_kept all)

  pub total_kept : (ls : List Lane) → f (total o S test ls) ≡ total p S test ls
  total_kept ls = sum_kept (states ls)

-- ---- bounds on totals in natural numbers

module _ (S : ℕ) where
  -- a test that passes more lets more states count
  pub total_mono : (test other : List Lane → Bool) (ls : List Lane) → ((rs : List Lane) → test rs ≡ true → other rs ≡ true) → total natural_ops S test ls ≤ total natural_ops S other ls
  total_mono test other ls more = go (states ls)
    where
      term : (b c : Bool) (w : ℕ) → (b ≡ true → c ≡ true) → cond b w 0 ≤ cond c w 0
      term true true w h = omega arith
      term true false w h = absurd (false≢true (h refl))
      term false c w h = omega arith

      go : (all : List (List Fate)) → sum_of natural_ops (map (part natural_ops S test) all) ≤ sum_of natural_ops (map (part natural_ops S other) all)
      go [] = omega arith
      go (state ∷ all) = omega (arith, go all, term (test (running_lanes state)) (other (running_lanes state)) (weight natural_ops S state) (more (running_lanes state)))

  -- all states together have the full weight
  pub spread_full : (depots : ℕ) (ls : List Lane) → all_sound S depots ls ≡ true → spread natural_ops S ls ≡ S ^ length ls
  spread_full depots [] fit = sym (pow-zero S)
  spread_full depots (l ∷ ls) fit =
      let parts = and_parts (sound S depots l) (all_sound S depots ls) fit in
      let whole : l.chance + (S - l.chance) ≡ S = omega (arith, (fit_lane S depots l parts.0).chance) in
      ap₂ ◌*◌ whole (spread_full depots ls parts.1) ∙ mul_comm S (S ^ length ls) ∙ sym (pow-suc S (length ls))

  pub total_full : (depots : ℕ) (test : List Lane → Bool) (ls : List Lane) → all_sound S depots ls ≡ true → total natural_ops S test ls ≤ S ^ length ls
  total_full depots test ls fit =
      subst (λ (n : ℕ). total natural_ops S test ls ≤ n) (total_all natural_ops natural_laws S ls ∙ spread_full depots ls fit)
      (total_mono test (λ _. true) ls (λ rs _. refl))

-- ---- shares

-- to stand as 10^18 where it is above keeps sums, products and weights
pub share_keeps : Keeps natural_ops share_ops share
share_keeps =
    record {
      zero = refl;
      one = refl;
      sum = λ a b. share_same _ _ (sym (add_capped full_limit a b));
      product = λ a b. share_same _ _ (sym (mul_capped_left full_limit a (min b full_limit) ∙ mul_capped_right full_limit a b));
      running = λ S l. refl;
      failing = λ S l. refl;
    }

-- nothing saturates: the share total of at most K lanes is the total in natural numbers
pub share_exact : (S K depots : ℕ) (test : List Lane → Bool) (ls : List Lane) → all_sound S depots ls ≡ true → 1 ≤ S → length ls ≤ K → S ^ K ≤ full_limit → (total share_ops S test ls).parts ≡ total natural_ops S test ls
share_exact S K depots test ls fit some few rule =
    let kept = ap (λ v. v.parts) (total_kept natural_ops share_ops share share_keeps S test ls) in
    let below : total natural_ops S test ls ≤ full_limit = le_trans (total_full S depots test ls fit) (le_trans (pow-le-pow_right some few) rule) in
    sym kept ∙ min-eq_left below
