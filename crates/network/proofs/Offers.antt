-- The check of a lane that is offered to a network, of a whole list of lanes, and what the verdicts say of the answers.
use Rattle.std.proofs.Common.{◌≡◌, ℕ, suc, ◌+◌, ◌<◌, true, not, List, [], ◌∷◌, ◌++◌, length, get_or, take, drop, is_some, IsErrAnd, Some, None, Ok, Err, Option, Result, sym, refl, ap, ◌∙◌, add-one, arith}
use mathlib.Core.Path.{subst⁻¹}
use Rattle.std.proofs.lemmas.Bool.{and_from, and_parts, cond-false}
use Rattle.std.proofs.lemmas.List.{at_drop_more, length-take-le, take_more}
use Rattle.std.proofs.lemmas.Result.{err_from_is_err_and}
use Rattle.network.specs.Answers.{Told, first_of, told}
use Rattle.network.specs.Lanes.{all_sound, lane_refusal, no_lane, offer_refusal, offers_refusal, sound}
use Rattle.network.specs.Networks.{Added, add_refusal, lanes_of, parts_of, most_of, depots_of}
use Rattle.network.specs.declared.lanes.Lane.{Lane}
use Rattle.network.specs.declared.networks.Network.{Network}
use Rattle.network.specs.declared.refusals.Refusal.{Refusal}

-- ---- answers and verdicts

ok_is_not_err : {X : Type 0} (x : X) (e : Refusal) → ◌≡◌ {A = Result X Refusal} (Ok x) (Err e) → ⊥
ok_is_not_err x e h = let z : ◌≡◌ {A = ℕ} 0 1 = cc in omega arith

pub passed : {X : Type 0} (verdict : Option Refusal) (x y : X) → Ok x ≡ told verdict y → verdict ≡ None
passed None x y h = refl
passed (Some e) x y h = absurd (ok_is_not_err x e h)

pub told_value : {X : Type 0} (verdict : Option Refusal) (x y : X) → Ok x ≡ told verdict y → x ≡ y
told_value None x y h = cc
told_value (Some e) x y h = absurd (ok_is_not_err x e h)

pub refused : {X : Type 0} (verdict : Option Refusal) (e : Refusal) (y : X) → Err e ≡ told verdict y → verdict ≡ Some e
refused None e y h = absurd (ok_is_not_err y e (sym h))
refused (Some d) e y h = cc

-- a `?` that leaves with the refusal it met
pub left_with : {X : Type 0} (r : Result X Refusal) (e : Refusal) → IsErrAnd r (λ y. y ≡ e) → r ≡ Err e
left_with r e left = let p = err_from_is_err_and r left in p.1 ∙ ap Err p.2

pub told_left : {X : Type 0} (verdict : Option Refusal) (r : Result X Refusal) (P : X → Type 0) (e : Refusal) → IsErrAnd r (λ y. y ≡ e) → verdict ≡ Some e → Told verdict r P
told_left verdict r P e left h = subst⁻¹ (λ s. Told verdict s P) (left_with r e left) h

-- ---- lanes

pub sound_push : (S depots : ℕ) (ls : List Lane) (l : Lane) → all_sound S depots ls ≡ true → lane_refusal S depots l ≡ None → all_sound S depots (ls ++ (l ∷ [])) ≡ true
sound_push S depots [] l _ h = and_from _ true (ap (λ v. not (is_some v)) h) refl
sound_push S depots (k ∷ ls) l fit h =
    let parts = and_parts (sound S depots k) (all_sound S depots ls) fit in
    and_from _ _ parts.0 (sound_push S depots ls l parts.1 h)

-- ---- a list of lanes, offered in their order

-- the network after the first i lanes of the list, none of which was refused
pub record Sofar (S K n : ℕ) (ls : List Lane) (i : ℕ) (network : Network) : Type 0 where
  pub scale : parts_of network ≡ S
  pub most : most_of network ≡ K
  pub depots : depots_of network ≡ n
  pub lanes : lanes_of network ≡ take i ls
  pub rest : offers_refusal S n i (drop i ls) ≡ offers_refusal S n 0 ls

pub first_passed : (v later : Option Refusal) → v ≡ None → first_of v later ≡ later
first_passed v later h = ap (λ w. first_of w later) h

module _ (S K n : ℕ) (ls : List Lane) (i : ℕ) (network : Network) (so : Sofar S K n ls i network) where
  module _ (within : i < length ls) where
    here : add_refusal network (get_or ls i no_lane) ≡ offer_refusal S n i (get_or ls i no_lane)
    here =
        let count : length (lanes_of network) ≡ i = ap length so.lanes ∙ length-take-le i ls (omega arith) in
        λ j. offer_refusal (so.scale j) (so.depots j) (count j) (get_or ls i no_lane)

    rest : offers_refusal S n 0 ls ≡ first_of (offer_refusal S n i (get_or ls i no_lane)) (offers_refusal S n (suc i) (drop (i + 1) ls))
    rest = sym so.rest ∙ at_drop_more (offers_refusal S n i) ls i no_lane within

    pub sofar_stopped : (e : Refusal) → ◌≡◌ {A = Result (Unit {0}) Refusal} (Err e) (told (add_refusal network (get_or ls i no_lane)) tt) → offers_refusal S n 0 ls ≡ Some e
    sofar_stopped e h =
        rest ∙ ap (λ v. first_of v (offers_refusal S n (suc i) (drop (i + 1) ls))) (sym here ∙ refused _ e tt h)

    pub sofar_more : (after : Network) → Added network (get_or ls i no_lane) (Ok tt) after → Sofar S K n ls (i + 1) after
    sofar_more after added =
        let fine = passed _ tt tt added.answer in
        record {
          scale = ap (λ s. s.parts) added.scale ∙ so.scale;
          most = ap (λ s. s.most) added.scale ∙ so.most;
          depots = added.depots ∙ so.depots;
          lanes = added.lanes ∙ cond-false _ _ _ (ap is_some fine) ∙ ap (λ l. l ++ (get_or ls i no_lane ∷ [])) so.lanes ∙ sym (take_more ls i no_lane within);
          rest = ap (λ k. offers_refusal S n k (drop (i + 1) ls)) (add-one i) ∙ sym (first_passed _ _ (sym here ∙ fine)) ∙ sym rest;
        }
