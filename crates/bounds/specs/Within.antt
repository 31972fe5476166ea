-- The lanes of a set that lies within another are some of the other's lanes.
use Rattle.std.specs.Prelude.{◌≡◌, ℕ, suc, ◌/◌, ◌%◌, ◌≤◌, Bool, true, false, List, [], ◌∷◌, length, ◌==◌, count_ones, nat_eq, refl}
use Rattle.std.proofs.Common.{arith}
use Rattle.std.specs.Int.Count.{ones_step}
use Rattle.std.proofs.lemmas.Bool.{eq-eqb, eqb-true, false≢true}
use Rattle.network.specs.Sets.{bit, chosen, kept}
use Rattle.network.specs.declared.lanes.Lane.{Lane}
use Rattle.network.proofs.Masks.{bit_first, bit_half}
use Rattle.network.proofs.Sets.{digit, kept_length}
use Rattle.reliability.specs.Joining.{Part, none, keep, skip}

part_kept : (b c : Bool) (l : Lane) {rs ls : List Lane} → (b ≡ true → c ≡ true) → Part rs ls → Part (kept b l rs) (kept c l ls)
part_kept true true l h p = keep p
part_kept true false l h p = absurd (false≢true (h refl))
part_kept false true l h p = skip p
part_kept false false l h p = p

pub chosen_part : (s t : ℕ) (ls : List Lane) → ((i : ℕ) → bit s i ≤ bit t i) → Part (chosen s ls) (chosen t ls)
chosen_part s t [] within = none
chosen_part s t (l ∷ ls) within =
    part_kept (s % 2 == 1) (t % 2 == 1) l named
    (chosen_part (s / 2) (t / 2) ls (λ i. omega (arith, bit_half s i, bit_half t i, within (suc i))))
  where
    named : nat_eq (s % 2) 1 ≡ true → (t % 2 == 1) ≡ true
    named one = eq-eqb (t % 2) 1 (omega (arith, eqb-true (s % 2) 1 one, bit_first s, bit_first t, within 0))

-- a set names at most as many lanes as its number has ones
pub chosen_few : (s : ℕ) (ls : List Lane) → length (chosen s ls) ≤ count_ones s
chosen_few s [] = omega arith
chosen_few s (l ∷ ls) = omega (arith, kept_length (s % 2 == 1) l (chosen (s / 2) ls), digit s, chosen_few (s / 2) ls, ones_step s)
