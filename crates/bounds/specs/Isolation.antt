-- A depot none of whose lanes runs is cut off, so the chance is at most one minus the chance that all lanes at that depot fail.
use Rattle.std.specs.Prelude.{◌≡◌, ℕ, zero, suc, ◌+◌, ◌-◌, ◌*◌, ◌^◌, ◌<◌, ◌≤◌, Bool, true, false, cond, not, ◌&&◌, List, [], ◌∷◌, length, ◌≢◌, nat_le, refl}
use Rattle.std.proofs.Common.{sym, ap, ◌∙◌, inl, inr, add-mul, le_of_eq, le_trans, mul-add, mul_assoc, mul_comm, mul-le-mul_left, mul-le-mul_right, mul-zero, one-mul, pow-suc, arith, pow-add}
use Rattle.std.proofs.Math.Nat.{pow-zero}
use Rattle.std.proofs.lemmas.Bool.{and_left, and_parts, and_right, cond_both, eq-eqb, false≢true, leb-true, not_from_true, or_left, or_right}
use Rattle.network.specs.Connected.{Adjacent, Connected, Joins, Way, here, along, connects}
use Rattle.network.specs.Lanes.{all_sound, sound}
use Rattle.network.specs.Sets.{kept}
use Rattle.network.specs.declared.lanes.Lane.{Lane}
use Rattle.network.proofs.Connectedness.{connects_tells}
use Rattle.reliability.specs.Joining.{Part, none, keep, skip}
use Rattle.reliability.specs.Reliability.{lanes_chance, natural_ops}
use Rattle.reliability.proofs.Meaning.{ends_part, sound_ends}
use Rattle.reliability.proofs.Natural.{natural_laws, spread_full}
use Rattle.reliability.proofs.Splitting.{part_length, total_all, total_none}
use Rattle.bounds.specs.Depots.{all_fail, depot_number, lanes_at, least_depot, touches}
use Rattle.bounds.specs.Monotone.{split, sum_of_states, whole_scale}

-- no lane of the list is at the depot
abbrev isolated : ℕ → List Lane → Bool
isolated depot [] = true
isolated depot (l ∷ ls) = not (touches depot l) && isolated depot ls

-- a lane that leaves the depot touches it
joins_touches : (l : Lane) (a b : ℕ) → Joins l a b → touches a l ≡ true
joins_touches l a b (inl h) = or_left _ _ (eq-eqb _ a h.0)
joins_touches l a b (inr h) = or_right _ _ (eq-eqb _ a h.1)

adjacent_isolated : (ls : List Lane) (a b : ℕ) → Adjacent ls a b → isolated a ls ≡ false
adjacent_isolated [] a b h = absurd h
adjacent_isolated (l ∷ ls) a b (inl h) = and_left _ _ (not_from_true _ (joins_touches l a b h))
adjacent_isolated (l ∷ ls) a b (inr h) = and_right (not (touches a l)) _ (adjacent_isolated ls a b h)

way_isolated : {ls : List Lane} {a b : ℕ} → Way ls a b → (a ≢ b) → isolated a ls ≡ false
way_isolated (here e) differ = absurd (differ e)
way_isolated {ls} (along {a} {b} s w) differ = adjacent_isolated ls a b s

-- with two depots or more, whatever connects them all has a lane at each
connected_touches : (depots depot : ℕ) (ls : List Lane) → 2 ≤ depots → depot < depots → Connected depots ls → isolated depot ls ≡ false
connected_touches depots zero ls two within joined = way_isolated (joined 0 1 within (omega arith)) (λ e. omega arith)
connected_touches depots (suc d) ls two within joined = way_isolated (joined (suc d) 0 within (omega arith)) (λ e. omega arith)

-- the lanes at a depot are some of the lanes
pub at_part : (depot : ℕ) (ls : List Lane) → Part (lanes_at depot ls) ls
at_part depot [] = none
at_part depot (l ∷ ls) = by_end (touches depot l) (at_part depot ls)
  where
    by_end : (b : Bool) → Part (lanes_at depot ls) ls → Part (kept b l (lanes_at depot ls)) (l ∷ ls)
    by_end true p = keep p
    by_end false p = skip p

module _ (S : ℕ) where
  -- two tests that never both pass count apart
  apart_states : (test other : List Lane → Bool) (ls : List Lane) → ((rs : List Lane) → Part rs ls → test rs ≡ true → other rs ≡ false) → sum_of_states S test ls + sum_of_states S other ls ≤ sum_of_states S (λ _. true) ls
  apart_states test other [] apart = at (test []) (other []) (apart [] none)
    where
      at : (b c : Bool) → (b ≡ true → c ≡ false) → (cond b 1 0 + 0) + (cond c 1 0 + 0) ≤ 1 + 0
      at true true h = absurd (false≢true (sym (h refl)))
      at true false h = omega arith
      at false true h = omega arith
      at false false h = omega arith
  apart_states test other (l ∷ ls) apart =
      let c = l.chance in
      let f = S - l.chance in
      let runs = apart_states (λ rs. test (l ∷ rs)) (λ rs. other (l ∷ rs)) ls (λ rs p. apart (l ∷ rs) (keep p)) in
      let fails = apart_states test other ls (λ rs p. apart rs (skip p)) in
      omega (
        arith,
        split S test l ls,
        split S other l ls,
        split S (λ _. true) l ls,
        mul-add c (sum_of_states S (λ rs. test (l ∷ rs)) ls) (sum_of_states S (λ rs. other (l ∷ rs)) ls),
        mul-add f (sum_of_states S test ls) (sum_of_states S other ls),
        mul-le-mul_left c runs,
        mul-le-mul_left f fails,
      )

  -- the states in which no lane at the depot runs
  isolated_states : (depots depot : ℕ) (ls : List Lane) → all_sound S depots ls ≡ true → sum_of_states S (isolated depot) ls ≡ all_fail S (lanes_at depot ls) * S ^ (length ls - length (lanes_at depot ls))
  isolated_states depots depot [] fit = sym (one-mul (S ^ 0) ∙ pow-zero S)
  isolated_states depots depot (l ∷ ls) fit =
      let parts = and_parts (sound S depots l) (all_sound S depots ls) fit in
      let local = lanes_at depot ls in
      let T = sum_of_states S (isolated depot) ls in
      split S (isolated depot) l ls
      ∙ by_end (touches depot l) l local T (sum_of_states S (λ rs. not (touches depot l) && isolated depot rs) ls) (length ls)
      (λ b e. ap (λ (c : Bool). sum_of_states S (λ rs. not c && isolated depot rs) ls) e ∙ only depot ls b)
      (isolated_states depots depot ls parts.1) (part_length (at_part depot ls)) (whole_scale S depots l parts.0)
    where
      -- the lane's running is counted only if it does not touch the depot
      only : (depot : ℕ) (ls : List Lane) (b : Bool) → sum_of_states S (λ rs. not b && isolated depot rs) ls ≡ cond b 0 (sum_of_states S (isolated depot) ls)
      only depot ls true = total_none natural_ops natural_laws S ls
      only depot ls false = refl

      by_end : (b : Bool) (l : Lane) (local : List Lane) (T R a : ℕ) → ((c : Bool) → b ≡ c → R ≡ cond c 0 T) → T ≡ all_fail S local * S ^ (a - length local) → length local ≤ a → l.chance + (S - l.chance) ≡ S → l.chance * R + (S - l.chance) * T ≡ all_fail S (kept b l local) * S ^ (suc a - length (kept b l local))
      by_end true l local T R a runs is few sum =
          let f = S - l.chance in
          let none = ap (λ (n : ℕ). l.chance * n) (runs true refl) ∙ mul-zero l.chance in
          let same : suc a - suc (length local) ≡ a - length local = omega arith in
          omega (arith, none)
          ∙ ap (λ (n : ℕ). f * n) is
          ∙ sym (mul_assoc f (all_fail S local) (S ^ (a - length local)))
          ∙ ap (λ (k : ℕ). f * all_fail S local * S ^ k) (sym same)
      by_end false l local T R a runs is few sum =
          let more : suc a - length local ≡ suc (a - length local) = omega arith in
          ap (λ (n : ℕ). l.chance * n + (S - l.chance) * T) (runs false refl)
          ∙ sym (add-mul l.chance (S - l.chance) T)
          ∙ ap (λ (n : ℕ). n * T) sum
          ∙ mul_comm S T
          ∙ ap (λ (n : ℕ). n * S) is
          ∙ mul_assoc (all_fail S local) (S ^ (a - length local)) S
          ∙ ap (λ (n : ℕ). all_fail S local * n) (sym (pow-suc S (a - length local)) ∙ ap (λ (k : ℕ). S ^ k) (sym more))

  module _ (K depots depot : ℕ) (two : 2 ≤ depots) (ten : depots ≤ 10) (within : depot < depots) where
    -- the chance, and the chance that all lanes at the depot fail, are at most the full scale together
    cut_off : (ls : List Lane) → all_sound S depots ls ≡ true → length ls ≤ K → lanes_chance S K (connects depots) ls + all_fail S (lanes_at depot ls) * S ^ (K - length (lanes_at depot ls)) ≤ S ^ K
    cut_off ls fit few =
        let local = lanes_at depot ls in
        let P = S ^ (K - length ls) in
        let T = sum_of_states S (connects depots) ls in
        let I = sum_of_states S (isolated depot) ls in
        let short = part_length (at_part depot ls) in
        let states = apart_states (connects depots) (isolated depot) ls (λ rs p passes. connected_touches depots depot rs two within ((connects_tells depots rs ten (ends_part depots p (sound_ends S depots ls fit))).0 passes)) in
        let all = total_all natural_ops natural_laws S ls ∙ spread_full S depots ls fit in
        let up_to : length ls + (K - length ls) ≡ K = omega arith in
        let fill : (length ls - length local) + (K - length ls) ≡ K - length local = omega arith in
        let lost : all_fail S local * S ^ (K - length local) ≡ I * P = sym (ap (λ (n : ℕ). n * P) (isolated_states depots depot ls fit) ∙ mul_assoc (all_fail S local) (S ^ (length ls - length local)) P ∙ ap (λ (n : ℕ). all_fail S local * n) (sym (pow-add S (length ls - length local) (K - length ls)) ∙ ap (λ (k : ℕ). S ^ k) fill)) in
        let whole : S ^ length ls * P ≡ S ^ K = sym (pow-add S (length ls) (K - length ls)) ∙ ap (λ (k : ℕ). S ^ k) up_to in
        le_trans (le_of_eq (ap (λ (n : ℕ). T * P + n) lost ∙ sym (add-mul T I P)))
        (le_trans (mul-le-mul_right P (le_trans states (le_of_eq all))) (le_of_eq whole))

  -- each lane more that fails makes it less likely that all fail
  fail_less : {rs ls : List Lane} → Part rs ls → all_fail S ls ≤ all_fail S rs * S ^ (length ls - length rs)
  fail_less none = le_of_eq (sym (ap (λ (n : ℕ). 1 * n) (pow-zero S)))
  fail_less (keep {l = l} {rs = rs} {ls = ls} p) =
      let same : suc (length ls) - suc (length rs) ≡ length ls - length rs = omega arith in
      le_trans (mul-le-mul_left (S - l.chance) (fail_less p))
      (le_of_eq (sym (mul_assoc (S - l.chance) (all_fail S rs) (S ^ (length ls - length rs))) ∙ ap (λ (k : ℕ). (S - l.chance) * all_fail S rs * S ^ k) (sym same)))
  fail_less (skip {l = l} {rs = rs} {ls = ls} p) =
      let more : suc (length ls) - length rs ≡ suc (length ls - length rs) = omega (arith, part_length p) in
      let part : S - l.chance ≤ S = omega arith in
      le_trans (mul-le-mul_right (all_fail S ls) part)
      (le_trans (mul-le-mul_left S (fail_less p))
      (le_of_eq
      (mul_comm S (all_fail S rs * S ^ (length ls - length rs))
      ∙ mul_assoc (all_fail S rs) (S ^ (length ls - length rs)) S
      ∙ ap (λ (n : ℕ). all_fail S rs * n) (sym (pow-suc S (length ls - length rs)) ∙ ap (λ (k : ℕ). S ^ k) (sym more)))))

  fail_less_full : (K : ℕ) {rs ls : List Lane} → Part rs ls → length ls ≤ K → all_fail S ls * S ^ (K - length ls) ≤ all_fail S rs * S ^ (K - length rs)
  fail_less_full K {rs} {ls} p few =
      let fill : (length ls - length rs) + (K - length ls) ≡ K - length rs = omega (arith, part_length p) in
      le_trans (mul-le-mul_right (S ^ (K - length ls)) (fail_less p))
      (le_of_eq
      (mul_assoc (all_fail S rs) (S ^ (length ls - length rs)) (S ^ (K - length ls))
      ∙ ap (λ (n : ℕ). all_fail S rs * n) (sym (pow-add S (length ls - length rs) (K - length ls)) ∙ ap (λ (k : ℕ). S ^ k) fill)))

-- the lanes at a depot among some of the lanes are some of the lanes at it
at_mono : (depot : ℕ) {rs ls : List Lane} → Part rs ls → Part (lanes_at depot rs) (lanes_at depot ls)
at_mono depot none = none
at_mono depot (keep {l = l} {rs = rs} {ls = ls} p) = by_end (touches depot l) (at_mono depot p)
  where
    by_end : (b : Bool) → Part (lanes_at depot rs) (lanes_at depot ls) → Part (kept b l (lanes_at depot rs)) (kept b l (lanes_at depot ls))
    by_end true q = keep q
    by_end false q = q
at_mono depot (skip {l = l} {rs = rs} {ls = ls} p) = by_end (touches depot l) (at_mono depot p)
  where
    by_end : (b : Bool) → Part (lanes_at depot rs) (lanes_at depot ls) → Part (lanes_at depot rs) (kept b l (lanes_at depot ls))
    by_end true q = skip q
    by_end false q = q

-- what the depots of a larger set give bounds the chance of each part of it that has at most K lanes
module _ (S K depots : ℕ) (two : 2 ≤ depots) (ten : depots ≤ 10) {rs ls : List Lane} (p : Part rs ls) (fit : all_sound S depots rs ≡ true) (few : length rs ≤ K) where
  depot_bounds : (depot : ℕ) → depot < depots → lanes_chance S K (connects depots) rs ≤ depot_number S K depot ls
  depot_bounds depot within =
      cond_both (nat_le (length (lanes_at depot ls)) K) (S ^ K - all_fail S (lanes_at depot ls) * S ^ (K - length (lanes_at depot ls))) (S ^ K)
      (λ n. lanes_chance S K (connects depots) rs ≤ n)
      (λ small. omega (arith, cut_off S K depots depot two ten within rs fit few, fail_less_full S K (at_mono depot p) (leb-true (length (lanes_at depot ls)) K small)))
      (λ _. omega (arith, cut_off S K depots depot two ten within rs fit few))

  pub least_bounds : (n : ℕ) → n ≤ depots → lanes_chance S K (connects depots) rs ≤ least_depot S K n ls
  least_bounds zero within = omega (arith, cut_off S K depots 0 two ten (omega arith) rs fit few)
  least_bounds (suc n) within = omega (arith, depot_bounds n (omega arith), least_bounds n (omega arith))
