-- The total in cheapest is the least cost of a part of the lanes that passes the test.
use Rattle.std.proofs.Common.{◌≡◌, ℕ, ◌+◌, ◌*◌, ◌<◌, ◌≤◌, min, Bool, true, false, cond, eqb, List, [], ◌∷◌, length, Some, None, Decides, sym, refl, ap, ◌∙◌, ap₂, ⊎_elim, le_of_eq, arith}
use Rattle.std.proofs.lemmas.Bool.{and_parts, cases_Bool, cases_lt, cond_both, eqb-true, eqb-false}
use Rattle.network.specs.Connected.{Connected, connects}
use Rattle.network.specs.Lanes.{all_sound, most_lanes, sound}
use Rattle.network.specs.Sets.{total_cost}
use Rattle.network.specs.declared.lanes.Lane.{Lane}
use Rattle.network.proofs.Connectedness.{connects_tells}
use Rattle.network.proofs.Sets.{fit_lane}
use Rattle.semiring.specs.Cheapest.{absent, cheapest, cheapest_ops}
use Rattle.semiring.specs.ValuesLemmas.{cheapest_laws}
use Rattle.reliability.specs.Joining.{CheapestJoining, Part, none, keep, skip, joining_cost}
use Rattle.reliability.specs.Totals.{total}
use Rattle.reliability.proofs.Splitting.{total_split}
use Rattle.reliability.proofs.Meaning.{ends_part, sound_ends}

module _ (S depots : ℕ) where
  abbrev cost_of : (List Lane → Bool) → List Lane → ℕ
  cost_of test ls = (total cheapest_ops S test ls).cost

  cost_split : (test : List Lane → Bool) (l : Lane) (ls : List Lane) → l.cost ≤ 1000000 → cost_of test (l ∷ ls) ≡ min (min (l.cost + cost_of (λ rs. test (l ∷ rs)) ls) absent) (cost_of test ls)
  cost_split test l ls low =
      let a = total cheapest_ops S (λ rs. test (l ∷ rs)) ls in
      let b = total cheapest_ops S test ls in
      ap (λ v. v.cost) (total_split cheapest_ops cheapest_laws S test l ls) ∙ uncapped l.cost a.cost b.cost low b.within
    where
      uncapped : (c x y : ℕ) → c ≤ 1000000 → y ≤ absent → min (min (min (min c absent + x) absent) (min (0 + y) absent)) absent ≡ min (min (c + x) absent) y
      uncapped c x y low within =
          let one : min c absent ≡ c = omega arith in
          let two : min (0 + y) absent ≡ y = omega arith in
          ap₂ (λ (p q : ℕ). min (min (min (p + x) absent) q) absent) one two ∙ omega arith

  cost_none : (b : Bool) → min (min (cond b (cheapest 0) (cheapest absent)).cost absent) absent ≡ cond b 0 absent
  cost_none true = refl
  cost_none false = refl

  -- no part that passes costs less
  cost_least : (test : List Lane → Bool) (ls : List Lane) → all_sound S depots ls ≡ true → (rs : List Lane) → Part rs ls → test rs ≡ true → cost_of test ls ≤ total_cost rs
  cost_least test [] fit rs none passes = le_of_eq (cost_none (test []) ∙ ap (λ b. cond b 0 absent) passes)
  cost_least test (l ∷ ls) fit rs (keep {rs = qs} p) passes =
      let parts = and_parts (sound S depots l) (all_sound S depots ls) fit in
      omega (arith, cost_split test l ls (fit_lane S depots l parts.0).cost, cost_least (λ qs. test (l ∷ qs)) ls parts.1 qs p passes)
  cost_least test (l ∷ ls) fit rs (skip p) passes =
      let parts = and_parts (sound S depots l) (all_sound S depots ls) fit in
      omega (arith, cost_split test l ls (fit_lane S depots l parts.0).cost, cost_least test ls parts.1 rs p passes)

  -- some part that passes costs as much
  cost_reached : (test : List Lane → Bool) (ls : List Lane) → all_sound S depots ls ≡ true → cost_of test ls < absent → (rs : List Lane) × Part rs ls × (test rs ≡ true) × (total_cost rs ≡ cost_of test ls)
  cost_reached test [] fit low =
      ⊎_elim
      (λ passes. ([], none, passes, sym (cost_none (test []) ∙ ap (λ b. cond b 0 absent) passes)))
      (λ fails. absurd (omega (arith, cost_none (test []) ∙ ap (λ b. cond b 0 absent) fails)))
      (cases_Bool (test []))
  cost_reached test (l ∷ ls) fit low =
      let parts = and_parts (sound S depots l) (all_sound S depots ls) fit in
      let split = cost_split test l ls (fit_lane S depots l parts.0).cost in
      ⊎_elim
      (λ with_it.
      let found = cost_reached (λ rs. test (l ∷ rs)) ls parts.1 (omega arith) in
      (l ∷ found.0, keep found.1, found.2, cheaper l.cost _ _ _ _ found.3 split low with_it))
      (λ without.
      let found = cost_reached test ls parts.1 (omega arith) in
      (found.0, skip found.1, found.2, found.3 ∙ sym (split ∙ min_right _ _ without (total cheapest_ops S test ls).within)))
      (cases_lt (l.cost + cost_of (λ rs. test (l ∷ rs)) ls) (cost_of test ls))
    where
      cheaper : (c part a b all : ℕ) → part ≡ a → all ≡ min (min (c + a) absent) b → all < absent → c + a < b → c + part ≡ all
      cheaper c part a b all e split low less = omega arith

      min_right : (x y : ℕ) → y ≤ x → y ≤ absent → min (min x absent) y ≡ y
      min_right x y below within = omega arith

  parts_cost : (ls : List Lane) → all_sound S depots ls ≡ true → (rs : List Lane) → Part rs ls → total_cost rs ≤ 1000000 * length ls
  parts_cost [] fit rs none = omega arith
  parts_cost (l ∷ ls) fit rs (keep {rs = qs} p) =
      let parts = and_parts (sound S depots l) (all_sound S depots ls) fit in
      omega (arith, (fit_lane S depots l parts.0).cost, parts_cost ls parts.1 qs p)
  parts_cost (l ∷ ls) fit rs (skip p) =
      let parts = and_parts (sound S depots l) (all_sound S depots ls) fit in
      omega (arith, parts_cost ls parts.1 rs p)

  -- the joining cost in the subject's words
  pub joining_meant : depots ≤ 10 → (ls : List Lane) → all_sound S depots ls ≡ true → length ls ≤ most_lanes → CheapestJoining depots ls (joining_cost S depots ls)
  joining_meant few ls fit small =
      cond_both (eqb (cost_of (connects depots) ls) absent) None (Some (cost_of (connects depots) ls)) (CheapestJoining depots ls)
      (λ is rs p joined. omega (arith, eqb-true _ absent is, cost_least (connects depots) ls fit rs p ((told rs p).1 joined), parts_cost ls fit rs p))
      (λ is_not. record {
        reached = let found = cost_reached (connects depots) ls fit (below is_not) in (found.0, found.1, (told found.0 found.1).0 found.2, found.3);
        least = λ rs p joined. cost_least (connects depots) ls fit rs p ((told rs p).1 joined);
      })
    where
      told : (rs : List Lane) → Part rs ls → Decides (connects depots rs) (Connected depots rs)
      told rs p = connects_tells depots rs few (ends_part depots p (sound_ends S depots ls fit))

      below : eqb (cost_of (connects depots) ls) absent ≡ false → cost_of (connects depots) ls < absent
      below is_not = let differ = eqb-false _ absent is_not in omega (arith, (total cheapest_ops S (connects depots) ls).within)
