-- A total by its first lane: the equations by which factoring goes, in every commutative semiring.
use Rattle.std.proofs.Common.{◌≡◌, ℕ, ◌+◌, ◌-◌, ◌<◌, ◌≤◌, Bool, true, false, cond, List, [], ◌∷◌, ◌++◌, map, length, sym, refl, ap, ◌∙◌, ap₂, arith}
use mathlib.Core.List.{map-append, map-map}
use Rattle.std.proofs.lemmas.Bool.{cond_both, cond-true, cond-false, le-leb, lt-leb}
use Rattle.network.specs.Connected.{connects_from, labels_after, meets, merged, parts_after}
use Rattle.network.specs.declared.lanes.Lane.{Lane}
use Rattle.semiring.specs.Semirings.{Laws, Ops}
use Rattle.reliability.specs.Joining.{Part, none, keep, skip}
use Rattle.reliability.specs.Spread.{both, spread}
use Rattle.reliability.specs.Totals.{runs, fails, part, running_lanes, states, sum_of, total, weight}

-- ---- parts of a list of lanes

pub part_length : {rs ls : List Lane} → Part rs ls → length rs ≤ length ls
part_length none = omega arith
part_length (keep p) = omega (arith, part_length p)
part_length (skip p) = omega (arith, part_length p)

-- ---- the test by labels stays as it is, once one part is left or too few lanes are

stays_connected : (labels : List ℕ) (parts : ℕ) (rs : List Lane) → parts ≤ 1 → connects_from labels parts rs ≡ true
stays_connected labels parts [] one = le-leb parts 1 one
stays_connected labels parts (l ∷ rs) one =
    stays_connected (labels_after labels l) (parts_after labels parts l) rs
    (cond_both (meets labels l) parts (parts - 1) (λ n. n ≤ 1) (λ _. one) (λ _. omega arith))

stays_apart : (labels : List ℕ) (parts : ℕ) (rs : List Lane) → length rs + 1 < parts → connects_from labels parts rs ≡ false
stays_apart labels parts [] few = lt-leb parts 1 few
stays_apart labels parts (l ∷ rs) few =
    stays_apart (labels_after labels l) (parts_after labels parts l) rs
    (cond_both (meets labels l) parts (parts - 1) (λ n. length rs + 1 < n) (λ _. omega arith) (λ _. omega arith))

-- ---- sums and products

module _ {V : Type 0} (o : Ops V) (laws : Laws o) where
  pub sum_zero_right : (a : V) → o.sum a o.zero ≡ a
  sum_zero_right a = laws.sum_comm a o.zero ∙ laws.sum_zero a

  pub product_zero_right : (a : V) → o.product a o.zero ≡ o.zero
  product_zero_right a = laws.product_comm a o.zero ∙ laws.product_zero a

  sum_append : (us vs : List V) → sum_of o (us ++ vs) ≡ o.sum (sum_of o us) (sum_of o vs)
  sum_append [] vs = sym (laws.sum_zero (sum_of o vs))
  sum_append (u ∷ us) vs = ap (o.sum u) (sum_append us vs) ∙ sym (laws.sum_assoc u (sum_of o us) (sum_of o vs))

  -- a factor of every term
  sum_scaled : {X : Type 0} (w : V) (f g : X → V) → ((x : X) → f x ≡ o.product w (g x)) → (xs : List X) → sum_of o (map f xs) ≡ o.product w (sum_of o (map g xs))
  sum_scaled w f g each [] = sym (product_zero_right w)
  sum_scaled w f g each (x ∷ xs) =
      ap₂ o.sum (each x) (sum_scaled w f g each xs) ∙ sym (laws.distributes w (g x) (sum_of o (map g xs)))

  product_cond : (w : V) (b : Bool) (v : V) → cond b (o.product w v) o.zero ≡ o.product w (cond b v o.zero)
  product_cond w true v = refl
  product_cond w false v = sym (product_zero_right w)

  module _ (S : ℕ) where
    factored : (v : V) (l : Lane) → o.product (both o S l) v ≡ o.sum (o.product (o.running S l) v) (o.product (o.failing S l) v)
    factored v l =
        laws.product_comm (both o S l) v
        ∙ laws.distributes v (o.running S l) (o.failing S l)
        ∙ ap₂ o.sum (laws.product_comm v (o.running S l)) (laws.product_comm v (o.failing S l))

    -- the first lane runs or fails
    pub total_split : (test : List Lane → Bool) (l : Lane) (ls : List Lane) → total o S test (l ∷ ls) ≡ o.sum (o.product (o.running S l) (total o S (λ rs. test (l ∷ rs)) ls)) (o.product (o.failing S l) (total o S test ls))
    total_split test l ls =
        ap (sum_of o) (map-append (part o S test) (map (λ state. runs l ∷ state) (states ls)) (map (λ state. fails l ∷ state) (states ls)))
        ∙ sum_append _ _
        ∙ ap₂ o.sum
        (ap (sum_of o) (map-map (part o S test) (λ state. runs l ∷ state) (states ls))
        ∙ sum_scaled (o.running S l) _ (part o S (λ rs. test (l ∷ rs))) (λ state. product_cond (o.running S l) (test (l ∷ running_lanes state)) (weight o S state)) (states ls))
        (ap (sum_of o) (map-map (part o S test) (λ state. fails l ∷ state) (states ls))
        ∙ sum_scaled (o.failing S l) _ (part o S test) (λ state. product_cond (o.failing S l) (test (running_lanes state)) (weight o S state)) (states ls))

    -- tests that agree on the parts of the list give one total
    pub total_same : (test other : List Lane → Bool) (ls : List Lane) → ((rs : List Lane) → Part rs ls → test rs ≡ other rs) → total o S test ls ≡ total o S other ls
    total_same test other [] agree = ap (λ b. o.sum (cond b o.one o.zero) o.zero) (agree [] none)
    total_same test other (l ∷ ls) agree =
        total_split test l ls
        ∙ ap₂ (λ u v. o.sum (o.product (o.running S l) u) (o.product (o.failing S l) v))
        (total_same (λ rs. test (l ∷ rs)) (λ rs. other (l ∷ rs)) ls (λ rs p. agree (l ∷ rs) (keep p)))
        (total_same test other ls (λ rs p. agree rs (skip p)))
        ∙ sym (total_split other l ls)

    -- every state counts
    pub total_all : (ls : List Lane) → total o S (λ _. true) ls ≡ spread o S ls
    total_all [] = sum_zero_right o.one
    total_all (l ∷ ls) =
        total_split (λ _. true) l ls
        ∙ sym (factored (total o S (λ _. true) ls) l)
        ∙ ap (o.product (both o S l)) (total_all ls)

    -- no state counts
    pub total_none : (ls : List Lane) → total o S (λ _. false) ls ≡ o.zero
    total_none [] = laws.sum_zero o.zero
    total_none (l ∷ ls) =
        total_split (λ _. false) l ls
        ∙ ap₂ (λ u v. o.sum (o.product (o.running S l) u) (o.product (o.failing S l) v)) (total_none ls) (total_none ls)
        ∙ ap₂ o.sum (product_zero_right (o.running S l)) (product_zero_right (o.failing S l))
        ∙ laws.sum_zero o.zero

    -- ---- the total where some depots are joined already: labels and the number of parts

    abbrev pub from : List ℕ → ℕ → List Lane → V
    from labels parts ls = total o S (connects_from labels parts) ls

    pub from_connected : (labels : List ℕ) (parts : ℕ) (ls : List Lane) → parts ≤ 1 → from labels parts ls ≡ spread o S ls
    from_connected labels parts ls one =
        total_same (connects_from labels parts) (λ _. true) ls (λ rs _. stays_connected labels parts rs one) ∙ total_all ls

    pub from_hopeless : (labels : List ℕ) (parts : ℕ) (ls : List Lane) → length ls + 1 < parts → from labels parts ls ≡ o.zero
    from_hopeless labels parts ls few =
        total_same (connects_from labels parts) (λ _. false) ls (λ rs p. stays_apart labels parts rs (omega (arith, part_length p))) ∙ total_none ls

    -- the ends of the first lane are one part already
    pub from_met : (labels : List ℕ) (parts : ℕ) (l : Lane) (ls : List Lane) → meets labels l ≡ true → from labels parts (l ∷ ls) ≡ o.product (both o S l) (from labels parts ls)
    from_met labels parts l ls met =
        total_split (connects_from labels parts) l ls
        ∙ ap₂ (λ (new : List ℕ) (n : ℕ). o.sum (o.product (o.running S l) (from new n ls)) (o.product (o.failing S l) (from labels parts ls)))
        (cond-true (meets labels l) _ _ met) (cond-true (meets labels l) _ _ met)
        ∙ sym (factored (from labels parts ls) l)

    -- a running lane makes its two ends one part, and a failing lane goes
    pub from_apart : (labels : List ℕ) (parts : ℕ) (l : Lane) (ls : List Lane) → meets labels l ≡ false → from labels parts (l ∷ ls) ≡ o.sum (o.product (o.running S l) (from (merged labels l) (parts - 1) ls)) (o.product (o.failing S l) (from labels parts ls))
    from_apart labels parts l ls apart =
        total_split (connects_from labels parts) l ls
        ∙ ap₂ (λ (new : List ℕ) (n : ℕ). o.sum (o.product (o.running S l) (from new n ls)) (o.product (o.failing S l) (from labels parts ls)))
        (cond-false (meets labels l) _ _ apart) (cond-false (meets labels l) _ _ apart)
