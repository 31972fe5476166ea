-- What the code of a bound tells of a lawful question over a network.
use Rattle.std.proofs.Common.{◌≡◌, ℕ, ◌+◌, ◌^◌, ◌<◌, ◌≤◌, Bool, true, false, cond, leb, length, Some, None, Ok, Err, Result, sym, refl, ap, ◌∙◌, subst, lt_of_le_of_lt, arith}
use Rattle.std.specs.Result.{result_unwrap_or}
use lib.Bits.{bit_or, or_disjoint}
use lib.Count.{ones}
use Rattle.std.proofs.lemmas.Bool.{cond-false, cond-true, le-leb, lt-ltb}
use Rattle.network.specs.Answers.{first_of}
use Rattle.network.specs.Connected.{connects}
use Rattle.network.specs.Networks.{depots_of, lanes_of, most_of}
use Rattle.network.specs.Sets.{given_refusal, size_refusal, standing_set}
use Rattle.network.specs.declared.networks.Network.{Network}
use Rattle.network.specs.declared.refusals.Refusal.{Refusal}
use Rattle.network.specs.declared.scales.Scale.{Scale}
use Rattle.network.proofs.Masks.{apart_and, bit_sum, within_le}
use Rattle.network.proofs.Offers.{passed, refused, told_value}
use Rattle.network.proofs.Sets.{chosen_count, set_fine, standing_below}
use Rattle.reliability.specs.Questions.{Chance, chance_by, question_refusal}
use Rattle.bounds.specs.Numbers.{whole_tells}
use Rattle.bounds.specs.Questions.{Asked, Checked, Lawful, asked_of_network, candidates, full, lawful}
use Rattle.bounds.specs.Covers.{lawful_tells}

-- a question over a network is known to be checked
pub checked_network : (network : Network) (picked undecided : ℕ) → Checked (asked_of_network network picked undecided)
checked_network network picked undecided =
    record {
      positive = network.scale.positive;
      rule = network.scale.rule;
      two = network.two;
      ten = network.ten;
      few = subst (λ (n : ℕ). n ≤ 20) network.lanes.ok.0 network.few;
      fit = network.fit;
    }

-- the full scale of the network's own scale
pub full_of : (network : Network) (picked undecided : ℕ) (scale : Scale) → scale ≡ network.scale → scale.parts ^ scale.most ≡ full (asked_of_network network picked undecided)
full_of network picked undecided scale is = ap (λ (s : Scale). s.parts ^ s.most) is

not_refused : (b : Bool) (d e : Refusal) → cond b None (Some d) ≡ Some e → b ≡ false
not_refused true d e h = absurd (let z : ◌≡◌ {A = ℕ} 0 1 = cc in omega arith)
not_refused false d e h = refl

-- what a lawful question has, and any other has not
pub has_some : (b : Bool) (x y : ℕ) → Some x ≡ cond b (Some y) None → (b ≡ true) × (x ≡ y)
has_some true x y h = (refl, cc)
has_some false x y h = absurd (let z : ◌≡◌ {A = ℕ} 0 1 = cc in omega arith)

pub has_none : (b : Bool) (y : ℕ) → None ≡ cond b (Some y) None → b ≡ false
has_none true y h = absurd (let z : ◌≡◌ {A = ℕ} 0 1 = cc in omega arith)
has_none false y h = refl

module _ (network : Network) (picked undecided : ℕ) (yes_lawful : lawful (asked_of_network network picked undecided) ≡ true) where
  abbrev a : Asked
  a = asked_of_network network picked undecided

  law : Lawful a
  law = (lawful_tells a).0 yes_lawful

  pub union : bit_or picked undecided ≡ picked + undecided
  union = or_disjoint picked undecided (apart_and picked undecided law.apart)

  pub below : picked + undecided < 2 ^ length (lanes_of network)
  below =
      lt_of_le_of_lt
      (within_le (picked + undecided) (standing_set (lanes_of network)) (λ i. omega (arith, bit_sum picked undecided law.apart i, law.apart i, law.picked_stand i, law.undecided_stand i)))
      (standing_below (lanes_of network))

  given : given_refusal (lanes_of network) (picked + undecided) ≡ None
  given = cond-true _ _ _ (lt-ltb (picked + undecided) (2 ^ length (lanes_of network)) below)

  count : length (candidates a) ≡ ones (picked + undecided)
  count = chosen_count (picked + undecided) (lanes_of network) below

  whole_ok : (parts : ℕ) → Chance network (picked + undecided) (Ok parts) → parts ≡ whole_tells a
  whole_ok parts told =
      let fine = passed (question_refusal network (picked + undecided)) _ _ told.answer in
      let small = (set_fine (most_of network) (lanes_of network) (picked + undecided) fine).2 in
      told_value (question_refusal network (picked + undecided)) parts (chance_by (connects (depots_of network)) network (picked + undecided)) told.answer
      ∙ sym (cond-true (leb (length (candidates a)) (most_of network)) _ _ (le-leb _ (most_of network) (subst (λ (n : ℕ). n ≤ most_of network) (sym count) small)))
      ∙ sym (cond-true (lawful a) _ _ yes_lawful)

  whole_err : (e : Refusal) → Chance network (picked + undecided) (Err e) → full a ≡ whole_tells a
  whole_err e told =
      let verdict = refused (question_refusal network (picked + undecided)) e _ told.answer in
      let size = sym (ap (λ v. first_of v (size_refusal (most_of network) (picked + undecided))) given) ∙ verdict in
      let large = ap (λ (n : ℕ). leb n (most_of network)) count ∙ not_refused (leb (ones (picked + undecided)) (most_of network)) _ e size in
      sym (cond-false (leb (length (candidates a)) (most_of network)) _ _ large) ∙ sym (cond-true (lawful a) _ _ yes_lawful)

  pub whole_told : (r : Result ℕ Refusal) → Chance network (picked + undecided) r → result_unwrap_or r (full a) ≡ whole_tells a
  whole_told (Ok parts) told = whole_ok parts told
  whole_told (Err e) told = whole_err e told
