-- Where two parts are left: the total of the lanes from the i-th on, from the last lane back.
use Rattle.std.proofs.Common.{◌≡◌, ℕ, ◌+◌, ◌-◌, ◌<◌, ◌≤◌, true, false, List, [], ◌∷◌, ◌++◌, length, get_or, take, drop, sym, ap, ◌∙◌, ap₂, subst, min, arith}
use Rattle.std.proofs.lemmas.List.{get_or-drop, length-drop, length-take, length_push, same_from_push, take_all, take_more}
use Rattle.network.specs.Connected.{EndsWithin, meets}
use Rattle.network.specs.Lanes.{no_lane}
use Rattle.network.specs.declared.lanes.Lane.{Lane}
use Rattle.semiring.specs.Semirings.{Laws, Ops}
use Rattle.reliability.specs.Spread.{Filled, both, mixed}
use Rattle.reliability.proofs.Stepping.{ends_at, from, join_apart, none_left, step_met}

-- the last of the elements that are left of those from the i-th on
last_left : {X : Type 0} (xs : List X) (i : ℕ) (later : List X) (x d : X) → later ++ (x ∷ []) ≡ take (length (later ++ (x ∷ []))) (drop i xs) → (i + length later < length xs) × (later ≡ take (length later) (drop i xs)) × (x ≡ get_or xs (i + length later) d)
last_left xs i later x d first =
    let n = length later in
    let long = length_push later x in
    let all : n + 1 ≡ min (n + 1) (length (drop i xs)) = sym long ∙ ap length first ∙ length-take (length (later ++ (x ∷ []))) (drop i xs) ∙ ap (λ (k : ℕ). min k (length (drop i xs))) long in
    let within : n < length (drop i xs) = omega (arith, all) in
    let split = same_from_push later (take n (drop i xs)) x (get_or (drop i xs) n d) (first ∙ ap (λ (k : ℕ). take k (drop i xs)) long ∙ take_more (drop i xs) n d within) in
    (omega (arith, within, length-drop i xs), split.0, split.1 ∙ get_or-drop i xs n d)

-- the lanes from the i-th on that are still to come from the back, the place after each, and the total of the lanes after them
pub record JoiningBack {V : Type 0} (o : Ops V) (laws : Laws o) (S : ℕ) (ls : List Lane) (labels : List ℕ) (places : List V) (i : ℕ) (lanes : List Lane) (rests : List V) (value : V) : Type 0 where
  pub pairs : length rests ≡ length lanes
  pub lanes_left : lanes ≡ take (length lanes) (drop i ls)
  pub rests_left : rests ≡ take (length rests) (drop (i + 1) places)
  pub told : value ≡ from o laws S ls labels (i + length lanes) 2

module _ {V : Type 0} {o : Ops V} {laws : Laws o} {S : ℕ} {ls : List Lane} {labels : List ℕ} {places : List V} {i : ℕ} {lanes : List Lane} {rests : List V} {value : V} where
  pub join_start : Filled o S ls places → i ≤ length ls → lanes ≡ drop i ls → rests ≡ take (length lanes) (drop (i + 1) places) → value ≡ o.zero → JoiningBack o laws S ls labels places i lanes rests value
  join_start filled within those beside is =
      let long : length lanes ≡ length ls - i = ap length those ∙ length-drop i ls in
      let pairs : length rests ≡ length lanes = omega (arith, ap length beside ∙ length-take (length lanes) (drop (i + 1) places), length-drop (i + 1) places, filled.long, long) in
      record {
        pairs = pairs;
        lanes_left = those ∙ sym (take_all (length lanes) (drop i ls) (omega (arith, long, length-drop i ls)));
        rests_left = beside ∙ ap (λ (n : ℕ). take n (drop (i + 1) places)) (sym pairs);
        told = is ∙ none_left o laws S ls labels (i + length lanes) 2 (omega (arith, long));
      }

  pub joined : JoiningBack o laws S ls labels places i lanes rests value → length lanes ≡ 0 → value ≡ from o laws S ls labels i 2
  joined so none = so.told ∙ ap (λ (n : ℕ). from o laws S ls labels n 2) (omega (arith, none))

  module _ (so : JoiningBack o laws S ls labels places i lanes rests value) (later : List Lane) (lane : Lane) (last : lanes ≡ later ++ (lane ∷ [])) where
    lane_at : (i + length later < length ls) × (later ≡ take (length later) (drop i ls)) × (lane ≡ get_or ls (i + length later) no_lane)
    lane_at = last_left ls i later lane no_lane (subst (λ (xs : List Lane). xs ≡ take (length xs) (drop i ls)) last so.lanes_left)

    pub last_ends : (n : ℕ) → EndsWithin n ls → EndsWithin n (lane ∷ [])
    last_ends n ends = subst (λ (l : Lane). EndsWithin n (l ∷ [])) (sym lane_at.2) (ends_at n ls (i + length later) ends lane_at.0)

    module _ (earlier : List V) (rest : V) (beside : rests ≡ earlier ++ (rest ∷ [])) where
      pairs_before : length earlier ≡ length later
      pairs_before = omega (arith, so.pairs, ap length last, ap length beside, length_push later lane, length_push earlier rest)

      rest_at : (i + 1 + length earlier < length places) × (earlier ≡ take (length earlier) (drop (i + 1) places)) × (rest ≡ get_or places (i + 1 + length earlier) rest)
      rest_at = last_left places (i + 1) earlier rest rest (subst (λ (xs : List V). xs ≡ take (length xs) (drop (i + 1) places)) beside so.rests_left)

      after : value ≡ from o laws S ls labels (i + length later + 1) 2
      after = so.told ∙ ap (λ (n : ℕ). from o laws S ls labels n 2) (omega (arith, ap length last, length_push later lane))

      before : {v : V} → v ≡ from o laws S ls labels (i + length later) 2 → JoiningBack o laws S ls labels places i later earlier v
      before told = record { pairs = pairs_before; lanes_left = lane_at.1; rests_left = rest_at.1; told = told }

      pub join_back_met : {v : V} → v ≡ o.product (both o S lane) value → meets labels lane ≡ true → JoiningBack o laws S ls labels places i later earlier v
      join_back_met is same =
          before
          (is
          ∙ ap (λ (l : Lane). o.product (both o S l) value) lane_at.2
          ∙ step_met o laws S ls labels (i + length later) 2 lane_at.0 value after (ap (meets labels) (sym lane_at.2) ∙ same))

      pub join_back_apart : {v : V} → Filled o S ls places → v ≡ mixed o S lane rest value → meets labels lane ≡ false → JoiningBack o laws S ls labels places i later earlier v
      join_back_apart filled is differ =
          before
          (is
          ∙ ap₂ (λ (l : Lane) (r : V). mixed o S l r value) lane_at.2 (rest_at.2 ∙ ap (λ (n : ℕ). get_or places n rest) (omega (arith, pairs_before)))
          ∙ join_apart o laws S ls labels places filled (i + length later) lane_at.0 rest value after (ap (meets labels) (sym lane_at.2) ∙ differ))
