-- One step of the factoring routine: from the total of the lanes after the i-th to the total from the i-th on.
use Rattle.std.proofs.Common.{◌≡◌, ℕ, zero, suc, ◌+◌, ◌-◌, ◌<◌, true, false, List, [], ◌∷◌, length, get_or, drop, sym, ap, ◌∙◌, ap₂, arith}
use Rattle.std.proofs.lemmas.List.{at_drop_more, length-drop}
use Rattle.network.specs.Connected.{EndsWithin, connects_from, meets, merged}
use Rattle.network.specs.Lanes.{no_lane}
use Rattle.network.specs.declared.lanes.Lane.{Lane}
use Rattle.semiring.specs.Semirings.{Laws, Ops}
use Rattle.reliability.specs.Spread.{Filled, both, mixed}
use Rattle.reliability.specs.Totals.{total}
use Rattle.reliability.proofs.Splitting.{from_apart, from_connected, from_hopeless, from_met, product_zero_right, sum_zero_right}

pub ends_at : (n : ℕ) (ls : List Lane) (i : ℕ) → EndsWithin n ls → i < length ls → EndsWithin n (get_or ls i no_lane ∷ [])
ends_at n [] i ends within = absurd (omega arith)
ends_at n (l ∷ ls) zero ends within = (ends.0, ends.1, tt)
ends_at n (l ∷ ls) (suc i) ends within = ends_at n ls i ends.2 (omega arith)

module _ {V : Type 0} (o : Ops V) (laws : Laws o) (S : ℕ) (ls : List Lane) (labels : List ℕ) where
  abbrev pub from : ℕ → ℕ → V
  from i parts = total o S (connects_from labels parts) (drop i ls)

  -- too few lanes are left from here on
  pub none_left : (i parts : ℕ) → length ls - i + 1 < parts → o.zero ≡ from i parts
  none_left i parts few = sym (from_hopeless o laws S labels parts (drop i ls) (omega (arith, length-drop i ls)))

  module _ (i parts : ℕ) (within : i < length ls) where
    at_lane : from i parts ≡ total o S (connects_from labels parts) (get_or ls i no_lane ∷ drop (i + 1) ls)
    at_lane = at_drop_more (total o S (connects_from labels parts)) ls i no_lane within

    -- the lane's ends are one part already
    pub step_met : (v : V) → v ≡ from (i + 1) parts → meets labels (get_or ls i no_lane) ≡ true → o.product (both o S (get_or ls i no_lane)) v ≡ from i parts
    step_met v is same =
        ap (o.product (both o S (get_or ls i no_lane))) is
        ∙ sym (at_lane ∙ from_met o laws S labels parts (get_or ls i no_lane) (drop (i + 1) ls) same)

    -- the lane is between two parts: u follows if it runs, and v if it fails
    pub step_apart : (u v : V) → u ≡ total o S (connects_from (merged labels (get_or ls i no_lane)) (parts - 1)) (drop (i + 1) ls) → v ≡ from (i + 1) parts → meets labels (get_or ls i no_lane) ≡ false → mixed o S (get_or ls i no_lane) u v ≡ from i parts
    step_apart u v runs fails differ =
        ap₂ (mixed o S (get_or ls i no_lane)) runs fails
        ∙ sym (at_lane ∙ from_apart o laws S labels parts (get_or ls i no_lane) (drop (i + 1) ls) differ)

    module _ (few : length ls - i < parts) where
      pub hopeless_met : meets labels (get_or ls i no_lane) ≡ true → o.zero ≡ from i parts
      hopeless_met same =
          sym (product_zero_right o laws (both o S (get_or ls i no_lane))) ∙ step_met o.zero (none_left (i + 1) parts (omega arith)) same

      pub hopeless_apart : (u : V) → u ≡ total o S (connects_from (merged labels (get_or ls i no_lane)) (parts - 1)) (drop (i + 1) ls) → meets labels (get_or ls i no_lane) ≡ false → o.product (o.running S (get_or ls i no_lane)) u ≡ from i parts
      hopeless_apart u runs differ =
          sym (ap (o.sum (o.product (o.running S (get_or ls i no_lane)) u)) (product_zero_right o laws (o.failing S (get_or ls i no_lane))) ∙ sum_zero_right o laws (o.product (o.running S (get_or ls i no_lane)) u))
          ∙ step_apart u o.zero runs (none_left (i + 1) parts (omega arith)) differ

  -- two parts are left, so a lane between them connects all depots
  pub join_apart : (places : List V) → Filled o S ls places → (i : ℕ) → i < length ls → (d v : V) → v ≡ from (i + 1) 2 → meets labels (get_or ls i no_lane) ≡ false → mixed o S (get_or ls i no_lane) (get_or places (i + 1) d) v ≡ from i 2
  join_apart places filled i within d v fails differ =
      step_apart i 2 within (get_or places (i + 1) d) v
      (filled.each (i + 1) d (omega arith) ∙ sym (from_connected o laws S (merged labels (get_or ls i no_lane)) 1 (drop (i + 1) ls) (omega arith)))
      fails differ
