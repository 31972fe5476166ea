-- Adding a lane to a set never lowers its chance, and no chance is above the full scale.
use Rattle.std.specs.Prelude.{◌≡◌, ℕ, ◌+◌, ◌-◌, ◌*◌, ◌^◌, ◌≤◌, Bool, true, false, cond, List, [], ◌∷◌, length, refl}
use Rattle.std.proofs.Common.{sym, ap, ap₂, ◌∙◌, add-mul, le_of_eq, le_refl, le_trans, mul_assoc, mul_comm, mul-le-mul_left, mul-le-mul_right, mul-one, add-le-add, pow-suc, add-one, arith, pow-add}
use Rattle.std.proofs.Math.Nat.{pow-zero}
use Rattle.std.proofs.lemmas.Bool.{and_parts, false≢true}
use Rattle.network.specs.Connected.{connects}
use Rattle.network.specs.Lanes.{all_sound, sound}
use Rattle.network.specs.declared.lanes.Lane.{Lane}
use Rattle.network.proofs.Sets.{fit_lane}
use Rattle.reliability.specs.Joining.{Part, none, keep, skip}
use Rattle.reliability.specs.Reliability.{lanes_chance, natural_ops}
use Rattle.reliability.specs.Totals.{total}
use Rattle.reliability.proofs.Meaning.{connects_more, ends_part, sound_ends, whole}
use Rattle.reliability.proofs.Natural.{natural_laws, total_full}
use Rattle.reliability.proofs.Splitting.{part_length, total_split}

pub part_trans : {rs qs ls : List Lane} → Part rs qs → Part qs ls → Part rs ls
part_trans p none = p
part_trans (keep p) (keep q) = keep (part_trans p q)
part_trans (skip p) (keep q) = skip (part_trans p q)
part_trans p (skip q) = skip (part_trans p q)

-- whatever passes with some of the lanes passes with more of them
abbrev Monotone : (List Lane → Bool) → List Lane → Type 0
Monotone test all = (rs qs : List Lane) → Part rs qs → Part qs all → test rs ≡ true → test qs ≡ true

module _ (S : ℕ) where
  abbrev pub sum_of_states : (List Lane → Bool) → List Lane → ℕ
  sum_of_states test ls = total natural_ops S test ls

  pub split : (test : List Lane → Bool) (l : Lane) (ls : List Lane) → sum_of_states test (l ∷ ls) ≡ l.chance * sum_of_states (λ rs. test (l ∷ rs)) ls + (S - l.chance) * sum_of_states test ls
  split test l ls = total_split natural_ops natural_laws S test l ls

  -- a test that passes more parts of the lanes lets more states count
  pub more_states : (test other : List Lane → Bool) (ls : List Lane) → ((rs : List Lane) → Part rs ls → test rs ≡ true → other rs ≡ true) → sum_of_states test ls ≤ sum_of_states other ls
  more_states test other [] more = at (test []) (other []) (more [] none)
    where
      at : (b c : Bool) → (b ≡ true → c ≡ true) → cond b 1 0 + 0 ≤ cond c 1 0 + 0
      at true true h = le_refl 1
      at true false h = absurd (false≢true (h refl))
      at false c h = omega arith
  more_states test other (l ∷ ls) more =
      le_trans (le_of_eq (split test l ls))
      (le_trans
      (add-le-add
      (mul-le-mul_left l.chance (more_states (λ rs. test (l ∷ rs)) (λ rs. other (l ∷ rs)) ls (λ rs p. more (l ∷ rs) (keep p))))
      (mul-le-mul_left (S - l.chance) (more_states test other ls (λ rs p. more rs (skip p)))))
      (le_of_eq (sym (split other l ls))))

  module _ (depots : ℕ) where
    pub whole_scale : (l : Lane) → sound S depots l ≡ true → l.chance + (S - l.chance) ≡ S
    whole_scale l fit = omega (arith, (fit_lane S depots l fit).chance)

    -- the lanes left out count in full
    pub adding_states : (test : List Lane → Bool) {rs ls : List Lane} → Part rs ls → all_sound S depots ls ≡ true → Monotone test ls → sum_of_states test rs * S ^ (length ls - length rs) ≤ sum_of_states test ls
    adding_states test none fit mono =
        le_of_eq (ap (λ (n : ℕ). sum_of_states test [] * n) (pow-zero S) ∙ mul-one (sum_of_states test []))
    adding_states test (keep {l = l} {rs = rs} {ls = ls} p) fit mono =
        let parts = and_parts (sound S depots l) (all_sound S depots ls) fit in
        let P = S ^ (length ls - length rs) in
        let runs = adding_states (λ qs. test (l ∷ qs)) p parts.1 (λ qs ks q k. mono (l ∷ qs) (l ∷ ks) (keep q) (keep k)) in
        let fails = adding_states test p parts.1 (λ qs ks q k. mono qs ks q (skip k)) in
        let left_out : length (l ∷ ls) - length (l ∷ rs) ≡ length ls - length rs = omega arith in
        le_trans
        (le_of_eq
        (ap₂ (λ (t e : ℕ). t * S ^ e) (split test l rs) left_out
        ∙ add-mul (l.chance * sum_of_states (λ qs. test (l ∷ qs)) rs) ((S - l.chance) * sum_of_states test rs) P
        ∙ ap₂ ◌+◌ (mul_assoc l.chance (sum_of_states (λ qs. test (l ∷ qs)) rs) P) (mul_assoc (S - l.chance) (sum_of_states test rs) P)))
        (le_trans (add-le-add (mul-le-mul_left l.chance runs) (mul-le-mul_left (S - l.chance) fails)) (le_of_eq (sym (split test l ls))))
    adding_states test (skip {l = l} {rs = rs} {ls = ls} p) fit mono =
        let parts = and_parts (sound S depots l) (all_sound S depots ls) fit in
        let e = length ls - length rs in
        let T = sum_of_states test ls in
        let before = adding_states test p parts.1 (λ qs ks q k. mono qs ks q (skip k)) in
        let one_more : length (l ∷ ls) - length rs ≡ e + 1 = omega (arith, part_length p) in
        let more = more_states test (λ qs. test (l ∷ qs)) ls (λ qs k. mono qs (l ∷ qs) (skip (whole qs)) (keep k)) in
        le_trans
        (le_of_eq (ap (λ (k : ℕ). sum_of_states test rs * S ^ k) (one_more ∙ add-one e) ∙ ap (λ (n : ℕ). sum_of_states test rs * n) (pow-suc S e) ∙ sym (mul_assoc (sum_of_states test rs) (S ^ e) S)))
        (le_trans (mul-le-mul_right S before)
        (le_trans (le_of_eq (mul_comm T S ∙ ap (λ (n : ℕ). n * T) (sym (whole_scale l parts.0)) ∙ add-mul l.chance (S - l.chance) T))
        (le_trans (add-le-add (mul-le-mul_left l.chance more) (le_refl ((S - l.chance) * T))) (le_of_eq (sym (split test l ls))))))

    -- connectedness is monotone on lanes whose ends are depots
    connects_monotone : depots ≤ 10 → (all : List Lane) → all_sound S depots all ≡ true → Monotone (connects depots) all
    connects_monotone ten all fit rs qs p q passes =
        connects_more depots ten qs (ends_part depots q (sound_ends S depots all fit)) rs p passes

    module _ (K : ℕ) (ten : depots ≤ 10) (ls : List Lane) (fit : all_sound S depots ls ≡ true) (few : length ls ≤ K) where
      -- no chance is above the full scale
      pub chance_at_most_full : (test : List Lane → Bool) → lanes_chance S K test ls ≤ S ^ K
      chance_at_most_full test =
          let filled : length ls + (K - length ls) ≡ K = omega arith in
          le_trans (mul-le-mul_right (S ^ (K - length ls)) (total_full S depots test ls fit))
          (le_of_eq (sym (pow-add S (length ls) (K - length ls)) ∙ ap (λ (k : ℕ). S ^ k) filled))

      -- adding lanes never lowers the chance
      pub adding_lanes : {rs : List Lane} → Part rs ls → lanes_chance S K (connects depots) rs ≤ lanes_chance S K (connects depots) ls
      adding_lanes {rs} p =
          let short = part_length p in
          let split_up : K - length rs ≡ (length ls - length rs) + (K - length ls) = omega arith in
          le_trans
          (le_of_eq
          (ap (λ (k : ℕ). sum_of_states (connects depots) rs * S ^ k) split_up
          ∙ ap (λ (n : ℕ). sum_of_states (connects depots) rs * n) (pow-add S (length ls - length rs) (K - length ls))
          ∙ sym (mul_assoc (sum_of_states (connects depots) rs) (S ^ (length ls - length rs)) (S ^ (K - length ls)))))
          (mul-le-mul_right (S ^ (K - length ls)) (adding_states (connects depots) p fit (connects_monotone ten ls fit)))
