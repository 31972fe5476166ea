-- The lanes that a set names, collected lane by lane.
use Rattle.std.proofs.Common.{◌≡◌, ℕ, ◌+◌, ◌/◌, ◌%◌, ◌^◌, ◌<◌, ◌≤◌, Bool, true, false, eqb, List, [], ◌++◌, length, get_or, take, set, sym, ap, ◌∙◌, append-nil, arith}
use Rattle.std.proofs.lemmas.List.{length-set, take_more_set}
use Rattle.std.proofs.lemmas.Bool.{eq-eqb, ne_eqb}
use Rattle.network.specs.Lanes.{no_lane}
use Rattle.network.specs.Sets.{chosen, kept}
use Rattle.network.specs.declared.lanes.Lane.{Lane}
use Rattle.network.proofs.Sets.{chosen_more}

-- of the first i lanes, the table has those that the set names
pub record ChosenSofar (s : ℕ) (ls : List Lane) (i count : ℕ) (table : List Lane) : Type 0 where
  pub long : length table ≡ 20
  pub few : count ≤ i
  pub named : take count table ≡ chosen s (take i ls)

module _ (s : ℕ) (ls : List Lane) (i count : ℕ) (table : List Lane) (so : ChosenSofar s ls i count table) (within : i < length ls) where
  more : (b : Bool) → eqb (s / 2 ^ i % 2) 1 ≡ b → chosen s (take (i + 1) ls) ≡ take count table ++ kept b (get_or ls i no_lane) []
  more b is =
      chosen_more s ls i within
      ∙ ap (λ c. chosen s (take i ls) ++ kept c (get_or ls i no_lane) []) is
      ∙ ap (λ front. front ++ kept b (get_or ls i no_lane) []) (sym so.named)

  pub chosen_one : s / 2 ^ i % 2 ≡ 1 → length ls ≤ 20 → ChosenSofar s ls (i + 1) (count + 1) (set table count (get_or ls i no_lane))
  chosen_one one small =
      record {
        long = length-set table count (get_or ls i no_lane) ∙ so.long;
        few = omega (arith, so.few);
        named = take_more_set table count (get_or ls i no_lane) (omega (arith, so.few, so.long)) ∙ sym (more true (eq-eqb (s / 2 ^ i % 2) 1 one));
      }

  pub chosen_none : (s / 2 ^ i % 2 ≡ 1 → ⊥) → ChosenSofar s ls (i + 1) count table
  chosen_none other =
      record {
        long = so.long;
        few = omega (arith, so.few);
        named = sym (append-nil (take count table)) ∙ sym (more false (ne_eqb (s / 2 ^ i % 2) 1 other));
      }
