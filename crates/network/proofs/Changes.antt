-- One lane of a sound list is replaced by another sound one.
use Rattle.std.proofs.Common.{◌≡◌, ℕ, zero, suc, ◌<◌, Bool, true, false, cond, not, List, [], ◌∷◌, length, get_or, set, is_some, Some, None, Option, refl, ap, ◌∙◌, arith}
use Rattle.std.proofs.lemmas.Bool.{and_from, and_parts}
use Rattle.network.specs.Changes.{with_mark, with_price}
use Rattle.network.specs.Lanes.{all_sound, ends_unfit, price_refusal, sound}
use Rattle.network.specs.declared.lanes.Lane.{Lane}
use Rattle.network.specs.declared.lanes.Mark.{Mark}
use Rattle.network.specs.declared.refusals.Refusal.{Refusal}
use Rattle.network.specs.declared.refusals.Refusal.TheVariants.{EndsUnfit}

some_is_not_none : (e : Refusal) → ◌≡◌ {A = Option Refusal} (Some e) None → ⊥
some_is_not_none e is = let z : ◌≡◌ {A = ℕ} 0 1 = cc in omega arith

module _ (S depots : ℕ) where
  sound_at : (ls : List Lane) (i : ℕ) (d : Lane) → i < length ls → all_sound S depots ls ≡ true → sound S depots (get_or ls i d) ≡ true
  sound_at [] i d within fit = absurd (omega arith)
  sound_at (l ∷ ls) zero d within fit = (and_parts _ _ fit).0
  sound_at (l ∷ ls) (suc i) d within fit = sound_at ls i d (omega arith) (and_parts _ _ fit).1

  sound_set : (ls : List Lane) (i : ℕ) (l : Lane) → all_sound S depots ls ≡ true → sound S depots l ≡ true → all_sound S depots (set ls i l) ≡ true
  sound_set [] i l fit one = refl
  sound_set (k ∷ ls) zero l fit one = and_from _ _ one (and_parts _ _ fit).1
  sound_set (k ∷ ls) (suc i) l fit one = and_from _ _ (and_parts _ _ fit).0 (sound_set ls i l (and_parts _ _ fit).1 one)

  -- the old lane as it was read, whatever is read past the end
  module _ (ls : List Lane) (i : ℕ) (within : i < length ls) (fit : all_sound S depots ls ≡ true) (l : Lane) (read : l ≡ get_or ls i l) where
    sound_read : sound S depots l ≡ true
    sound_read = ap (sound S depots) read ∙ sound_at ls i l within fit

    pub mark_sound : (mark : Mark) → all_sound S depots (set ls i (with_mark mark l)) ≡ true
    mark_sound mark = sound_set ls i (with_mark mark l) fit sound_read

    pub price_sound : (chance cost : ℕ) → price_refusal S (with_price chance cost l) ≡ None → all_sound S depots (set ls i (with_price chance cost l)) ≡ true
    price_sound chance cost passes = sound_set ls i (with_price chance cost l) fit (by_ends (ends_unfit depots l) (price_refusal S l) sound_read)
      where
        by_ends : (unfit : Bool) (old : Option Refusal) → not (is_some (cond unfit (Some EndsUnfit) old)) ≡ true → not (is_some (cond unfit (Some EndsUnfit) (price_refusal S (with_price chance cost l)))) ≡ true
        by_ends true old is = is
        by_ends false old is = ap (λ v. not (is_some v)) passes
