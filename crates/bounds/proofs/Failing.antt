-- The chance that all lanes at a depot fail, worked out lane by lane.
use Rattle.std.proofs.Common.{◌≡◌, ℕ, ◌+◌, ◌-◌, ◌*◌, ◌/◌, ◌%◌, ◌^◌, ◌<◌, ◌≤◌, min, Bool, true, false, ◌&&◌, eqb, List, [], ◌∷◌, ◌++◌, length, get_or, take, sym, refl, ap, ◌∙◌, subst, ap₂, append-nil, le_trans, le_of_eq, mul-le-mul_right, mul_assoc, one-mul, mul-one, arith, pow-add}
use native.Mathlib.Nat.{min-eq_left, pow-le-pow_right, pow-zero, pow-succ'}
use Rattle.std.proofs.lemmas.Nat.{mul-le}
use Rattle.std.proofs.lemmas.List.{length-append, take_all}
use Rattle.network.specs.Lanes.{no_lane}
use Rattle.network.specs.Scales.{full_limit}
use Rattle.network.specs.Sets.{chosen, kept}
use Rattle.network.specs.declared.lanes.Lane.{Lane}
use Rattle.network.proofs.Sets.{chosen_more}
use Rattle.bounds.specs.Depots.{all_fail, lanes_at, touches}

at_kept : (depot : ℕ) (b : Bool) (l : Lane) → lanes_at depot (kept b l []) ≡ kept (b && touches depot l) l []
at_kept depot true l = refl
at_kept depot false l = refl

kept_onto : (b : Bool) (l : Lane) (xs ys : List Lane) → kept b l xs ++ ys ≡ kept b l (xs ++ ys)
kept_onto true l xs ys = refl
kept_onto false l xs ys = refl

at_append : (depot : ℕ) (xs ys : List Lane) → lanes_at depot (xs ++ ys) ≡ lanes_at depot xs ++ lanes_at depot ys
at_append depot [] ys = refl
at_append depot (x ∷ xs) ys =
    ap (kept (touches depot x) x) (at_append depot xs ys) ∙ sym (kept_onto (touches depot x) x (lanes_at depot xs) (lanes_at depot ys))

fail_append : (S : ℕ) (xs ys : List Lane) → all_fail S (xs ++ ys) ≡ all_fail S xs * all_fail S ys
fail_append S [] ys = sym (one-mul (all_fail S ys))
fail_append S (x ∷ xs) ys =
    ap (λ (n : ℕ). (S - x.chance) * n) (fail_append S xs ys) ∙ sym (mul_assoc (S - x.chance) (all_fail S xs) (all_fail S ys))

fail_below : (S : ℕ) (xs : List Lane) → all_fail S xs ≤ S ^ length xs
fail_below S [] = le_of_eq (sym (pow-zero S))
fail_below S (x ∷ xs) =
    le_trans (mul-le (S - x.chance) (all_fail S xs) S (S ^ length xs) (omega arith) (fail_below S xs)) (le_of_eq (sym (pow-succ' S (length xs))))

-- of the first i lanes, those of the set at the depot: how many, and the product of their failing parts, as long as they are at most K
pub record FailSofar (S K depot s : ℕ) (ls : List Lane) (i count fail : ℕ) : Type 0 where
  pub few : count ≤ i
  pub counted : count ≡ length (lanes_at depot (chosen s (take i ls)))
  pub fails : count ≤ K → fail ≡ all_fail S (lanes_at depot (chosen s (take i ls)))

module _ (S K depot s : ℕ) (some : 1 ≤ S) (rule : S ^ K ≤ full_limit) (items ls : List Lane) (same : items ≡ ls) (i count fail : ℕ) (so : FailSofar S K depot s ls i count fail) (inside : i < length items) where
  within : i < length ls
  within = subst (λ xs. i < length xs) same inside

  more : (b : Bool) → (eqb (s / 2 ^ i % 2) 1 && touches depot (get_or items i no_lane)) ≡ b → lanes_at depot (chosen s (take (i + 1) ls)) ≡ lanes_at depot (chosen s (take i ls)) ++ kept b (get_or items i no_lane) []
  more b is =
      ap (lanes_at depot) (chosen_more s ls i within ∙ ap (λ xs. chosen s (take i ls) ++ kept (eqb (s / 2 ^ i % 2) 1) (get_or xs i no_lane) []) (sym same))
      ∙ at_append depot (chosen s (take i ls)) (kept (eqb (s / 2 ^ i % 2) 1) (get_or items i no_lane) [])
      ∙ ap (λ back. lanes_at depot (chosen s (take i ls)) ++ back) (at_kept depot (eqb (s / 2 ^ i % 2) 1) (get_or items i no_lane) ∙ ap (λ c. kept c (get_or items i no_lane) []) is)

  pub fail_other : (eqb (s / 2 ^ i % 2) 1 && touches depot (get_or items i no_lane)) ≡ false → FailSofar S K depot s ls (i + 1) count fail
  fail_other is =
      let stays = more false is ∙ append-nil (lanes_at depot (chosen s (take i ls))) in
      record { few = omega (arith, so.few); counted = so.counted ∙ sym (ap length stays); fails = λ small. so.fails small ∙ sym (ap (all_fail S) stays) }

  pub fail_one : (part product : ℕ) → part ≡ S - (get_or items i no_lane).chance → product ≡ min (fail * part) (2 ^ 64 - 1) → (eqb (s / 2 ^ i % 2) 1 && touches depot (get_or items i no_lane)) ≡ true → FailSofar S K depot s ls (i + 1) (count + 1) product
  fail_one part product is cut named =
      let front = lanes_at depot (chosen s (take i ls)) in
      let lane = get_or items i no_lane in
      let longer = more true named in
      let counts : count + 1 ≡ length (lanes_at depot (chosen s (take (i + 1) ls))) = ap (λ (n : ℕ). n + 1) so.counted ∙ sym (ap length longer ∙ length-append front (lane ∷ [])) in
      record {
        few = omega (arith, so.few);
        counted = counts;
        fails = λ small.
            let exact = ap₂ ◌*◌ (so.fails (omega arith)) is ∙ sym (ap (all_fail S) longer ∙ fail_append S front (lane ∷ []) ∙ ap (λ (n : ℕ). all_fail S front * n) (mul-one (S - lane.chance))) in
            let low : fail * part ≤ full_limit = le_trans (le_of_eq exact) (le_trans (fail_below S _) (le_trans (le_of_eq (ap (λ (k : ℕ). S ^ k) (sym counts))) (le_trans (pow-le-pow_right some small) rule))) in
            cut ∙ min-eq_left (omega arith) ∙ exact;
      }

-- what the depot gives, from all its lanes
module _ (S K depot s : ℕ) (some : 1 ≤ S) (ls : List Lane) (i count fail : ℕ) (so : FailSofar S K depot s ls i count fail) (past : length ls ≤ i) where
  all : chosen s (take i ls) ≡ chosen s ls
  all = ap (chosen s) (take_all i ls past)

  counted_all : count ≡ length (lanes_at depot (chosen s ls))
  counted_all = so.counted ∙ ap (λ xs. length (lanes_at depot xs)) all

  module _ (small : count ≤ K) where
    fails_all : fail ≡ all_fail S (lanes_at depot (chosen s ls))
    fails_all = so.fails small ∙ ap (λ xs. all_fail S (lanes_at depot xs)) all

    pub fail_fits : fail * S ^ (K - count) ≤ S ^ K
    fail_fits =
        let low = subst (λ (n : ℕ). fail ≤ S ^ n) (sym counted_all) (le_trans (le_of_eq fails_all) (fail_below S (lanes_at depot (chosen s ls)))) in
        let filled : count + (K - count) ≡ K = omega arith in
        le_trans (mul-le-mul_right (S ^ (K - count)) low) (le_of_eq (sym (pow-add S count (K - count)) ∙ ap (λ (k : ℕ). S ^ k) filled))
