-- What the questions about a set rest on: the chance fits its word, and the answers are told by every test of connectedness.
use Rattle.std.proofs.Common.{◌≡◌, ℕ, ◌+◌, ◌-◌, ◌*◌, ◌^◌, ◌≤◌, Bool, true, cond, ltb, List, length, is_some, Some, None, Ok, sym, ap, ◌∙◌, subst, ap₂, le_trans, mul-le-mul_right, arith, pow-add}
use native.Mathlib.Nat.{pow-le-pow_right}
use lib.Count.{ones}
use Rattle.std.proofs.lemmas.Bool.{cond-false, le-ltb}
use Rattle.network.specs.Answers.{first_of, told}
use Rattle.network.specs.Connected.{EndsWithin, connects}
use Rattle.network.specs.Lanes.{all_sound}
use Rattle.network.specs.Networks.{depots_of, lanes_of, most_of, parts_of}
use Rattle.network.specs.Scales.{full_limit}
use Rattle.network.specs.Sets.{given_refusal}
use Rattle.network.specs.declared.lanes.Lane.{Lane}
use Rattle.network.specs.declared.networks.Network.{Network}
use Rattle.network.specs.declared.refusals.Refusal.TheVariants.{ScratchTooShort}
use Rattle.network.proofs.Sets.{set_fine, sound_chosen}
use Rattle.semiring.specs.Semirings.{Laws, Ops}
use Rattle.semiring.specs.Shares.{share_ops}
use Rattle.semiring.specs.declared.shares.Share.{Share}
use Rattle.reliability.specs.Questions.{Chance, Totalled, chance_by, cleared, named, question_refusal, scratch_places, set_total, total_refusal}
use Rattle.reliability.specs.Reliability.{natural_ops}
use Rattle.reliability.proofs.Meaning.{sound_ends, total_told}
use Rattle.reliability.proofs.Natural.{natural_laws, share_exact, total_full}

module _ (network : Network) (s : ℕ) where
  pub sound_named : all_sound (parts_of network) (depots_of network) (named network s) ≡ true
  sound_named = sound_chosen (parts_of network) (depots_of network) s (lanes_of network) network.fit

  pub ends_named : EndsWithin (depots_of network) (named network s)
  ends_named = sound_ends (parts_of network) (depots_of network) (named network s) sound_named

  -- the answer of a total that is not refused
  pub total_answered : {V : Type 0} (o : Ops V) → Laws o → (before : List V) (v : V) (after : List V) → given_refusal (lanes_of network) s ≡ None → scratch_places ≤ length before → v ≡ set_total o (connects (depots_of network)) network s → after ≡ cleared o before → Totalled o network s before (Ok v) after
  total_answered o laws before v after given long is clear =
      let n = depots_of network in
      let fine : total_refusal network s (length before) ≡ None = ap (λ w. first_of w (cond (ltb (length before) scratch_places) (Some ScratchTooShort) None)) given ∙ cond-false _ _ _ (le-ltb (length before) scratch_places long) in
      record {
        answer = ap Ok is ∙ sym (ap (λ w. told w (set_total o (connects n) network s)) fine);
        meant = λ test tells. ap Ok (is ∙ total_told n network.ten o laws (parts_of network) test (named network s) ends_named tells) ∙ sym (ap (λ w. told w (set_total o test network s)) fine);
        scratch = clear ∙ sym (cond-false _ _ _ (ap is_some fine));
      }

  module _ (fine : question_refusal network s ≡ None) where
    few : ones s ≤ most_of network
    few = (set_fine (most_of network) (lanes_of network) s fine).2

    count : length (named network s) ≡ ones s
    count = (set_fine (most_of network) (lanes_of network) s fine).1

    pub power_below : parts_of network ^ (most_of network - ones s) ≤ full_limit
    power_below = le_trans (pow-le-pow_right network.scale.positive (omega arith)) network.scale.rule

    -- a full share of the set's lanes, filled up to K lanes, is the full scale
    pub chance_below : (test : List Lane → Bool) → set_total natural_ops test network s * parts_of network ^ (most_of network - ones s) ≤ full_limit
    chance_below test =
        let S = parts_of network in
        let full = subst (λ (a : ℕ). set_total natural_ops test network s ≤ S ^ a) count (total_full S (depots_of network) test (named network s) sound_named) in
        let filled : ones s + (most_of network - ones s) ≡ most_of network = omega (arith, few) in
        le_trans (mul-le-mul_right (S ^ (most_of network - ones s)) full)
        (subst (λ (n : ℕ). n ≤ full_limit) (ap (λ (k : ℕ). S ^ k) (sym filled) ∙ pow-add S (ones s) (most_of network - ones s)) network.scale.rule)

    pub shares_tell : (test : List Lane → Bool) → (set_total share_ops test network s).parts ≡ set_total natural_ops test network s
    shares_tell test =
        share_exact (parts_of network) (most_of network) (depots_of network) test (named network s) sound_named network.scale.positive (subst (λ (a : ℕ). a ≤ most_of network) (sym count) few) network.scale.rule

    pub chance_told : (share : Share) → share ≡ set_total share_ops (connects (depots_of network)) network s → Chance network s (Ok (share.parts * parts_of network ^ (most_of network - ones s)))
    chance_told share is =
        let n = depots_of network in
        let exact : share.parts * parts_of network ^ (most_of network - ones s) ≡ chance_by (connects n) network s = ap₂ (λ (v a : ℕ). v * parts_of network ^ (most_of network - a)) (ap (λ v. v.parts) is ∙ shares_tell (connects n)) (sym count) in
        record {
          answer = ap Ok exact ∙ sym (ap (λ v. told v (chance_by (connects n) network s)) fine);
          meant = λ test tells.
              ap Ok (exact ∙ ap (λ (v : ℕ). v * parts_of network ^ (most_of network - length (named network s))) (total_told n network.ten natural_ops natural_laws (parts_of network) test (named network s) ends_named tells))
              ∙ sym (ap (λ v. told v (chance_by test network s)) fine);
        }
