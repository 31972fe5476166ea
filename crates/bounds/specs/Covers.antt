-- Each of the four bounds has the meaning: it covers every set that is still possible.
use Rattle.std.specs.Prelude.{◌≡◌, ℕ, ◌+◌, ◌≤◌, true, length, Decides, count_ones, nat_le, refl}
use Rattle.std.proofs.Common.{sym, subst, ⊎_elim, le_trans, arith}
use Rattle.std.proofs.lemmas.Bool.{and_from, and_parts, cases_Bool, cond_both, cond-false, cond-true, eq-eqb, eqb-true, le-leb, leb-true}
use Rattle.network.specs.Connected.{connects}
use Rattle.network.specs.Lanes.{all_sound}
use Rattle.network.specs.Sets.{chosen, standing_set}
use Rattle.network.proofs.Masks.{and_apart, and_within, apart_and, bit_sum, within_and}
use Rattle.network.proofs.Sets.{sound_chosen}
use Rattle.reliability.specs.Joining.{Part}
use Rattle.reliability.specs.Reliability.{lanes_chance}
use Rattle.bounds.specs.Meaning.{Meaning, Possible, chance_in}
use Rattle.bounds.specs.Numbers.{depot_tells, lesser_tells, plain_tells, whole_tells}
use Rattle.bounds.specs.Questions.{Asked, Checked, Lawful, candidates, full, if_lawful, lawful}
use Rattle.bounds.specs.Isolation.{least_bounds}
use Rattle.bounds.specs.Monotone.{adding_lanes, chance_at_most_full}
use Rattle.bounds.specs.Within.{chosen_few, chosen_part}

-- the test on the sets' numbers tells which questions are lawful
pub lawful_tells : (a : Asked) → Decides (lawful a) (Lawful a)
lawful_tells a = (
  λ passes.
      let all = and_parts _ _ passes in
      let stand = and_parts _ _ all.0 in
      let first = and_parts _ _ stand.0 in
      record {
        apart = and_apart a.picked a.undecided (eqb-true _ 0 first.0);
        picked_stand = and_within a.picked (standing_set a.lanes) (eqb-true _ a.picked first.1);
        undecided_stand = and_within a.undecided (standing_set a.lanes) (eqb-true _ a.undecided stand.1);
        few_picked = leb-true (count_ones a.picked) a.most all.1;
      },
  λ law.
      and_from _ _
      (and_from _ _
      (and_from _ _ (eq-eqb _ 0 (apart_and a.picked a.undecided law.apart)) (eq-eqb _ a.picked (within_and a.picked (standing_set a.lanes) law.picked_stand)))
      (eq-eqb _ a.undecided (within_and a.undecided (standing_set a.lanes) law.undecided_stand)))
      (le-leb (count_ones a.picked) a.most law.few_picked),
)

-- what holds of the number for lawful questions holds of what is told
if_lawful_means : (number : Asked → ℕ) → ((a : Asked) → Checked a → Lawful a → (s : ℕ) → Possible a s → chance_in a s ≤ number a) → Meaning (λ a. if_lawful a (number a))
if_lawful_means number covers =
    record {
      covers = λ a known law s possible. subst (λ (n : ℕ). chance_in a s ≤ n) (sym (cond-true (lawful a) _ _ ((lawful_tells a).1 law))) (covers a known law s possible);
      otherwise = λ a known unlawful. ⊎_elim (λ passes. absurd (unlawful ((lawful_tells a).0 passes))) (λ fails. cond-false (lawful a) _ _ fails) (cases_Bool (lawful a));
    }

module _ (a : Asked) (known : Checked a) (s : ℕ) (few : count_ones s ≤ a.most) where
  sound_set : all_sound a.parts a.depots (chosen s a.lanes) ≡ true
  sound_set = sound_chosen a.parts a.depots s a.lanes known.fit

  small_set : length (chosen s a.lanes) ≤ a.most
  small_set = le_trans (chosen_few s a.lanes) few

  pub chance_full : chance_in a s ≤ full a
  chance_full = chance_at_most_full a.parts a.depots a.most known.ten (chosen s a.lanes) sound_set small_set (connects a.depots)

-- the lanes of a set that is still possible are candidates
possible_part : (a : Asked) → Lawful a → (s : ℕ) → Possible a s → Part (chosen s a.lanes) (candidates a)
possible_part a law s possible =
    chosen_part s (a.picked + a.undecided) a.lanes (λ i. omega (arith, possible.within i, bit_sum a.picked a.undecided law.apart i))

pub plain_means : Meaning plain_tells
plain_means = record { covers = λ a known law s possible. chance_full a known s possible.few; otherwise = λ a known unlawful. refl }

pub depot_means : Meaning depot_tells
depot_means =
    if_lawful_means _ (λ a known law s possible.
    least_bounds a.parts a.most a.depots known.two known.ten (possible_part a law s possible) (sound_set a known s possible.few) (small_set a known s possible.few) a.depots (omega arith))

pub whole_means : Meaning whole_tells
whole_means =
    if_lawful_means _ (λ a known law s possible.
    cond_both (nat_le (length (candidates a)) a.most) (lanes_chance a.parts a.most (connects a.depots) (candidates a)) (full a) (λ n. chance_in a s ≤ n)
    (λ small. adding_lanes a.parts a.depots a.most known.ten (candidates a) (sound_chosen a.parts a.depots (a.picked + a.undecided) a.lanes known.fit) (leb-true _ a.most small) (possible_part a law s possible))
    (λ _. chance_full a known s possible.few))

-- from the meaning of its two parts alone
pub lesser_means : (first second : Asked → ℕ) → Meaning first → Meaning second → Meaning (lesser_tells first second)
lesser_means first second one two =
    record {
      covers = λ a known law s possible. omega (arith, one.covers a known law s possible, two.covers a known law s possible);
      otherwise = λ a known unlawful. omega (arith, one.otherwise a known unlawful, two.otherwise a known unlawful);
    }
