-- The lanes that a set names: how many, in which order, and what is known of each; and when a set is refused.
use Rattle.std.proofs.Common.{◌≡◌, ℕ, zero, suc, ◌+◌, ◌*◌, ◌/◌, ◌%◌, ◌^◌, ◌<◌, ◌≤◌, Bool, true, false, cond, eqb, ltb, leb, List, [], ◌∷◌, ◌++◌, length, get_or, take, Some, None, Option, sym, refl, ap, ◌∙◌, subst, ap₂, add-zero, mod-lt, pow-suc, div-one, one-add, arith, lit<, pow_pos, pow_mono}
use lib.Count.{ones, ones_step, ones-le}
use Rattle.std.proofs.lemmas.Nat.{one_shl, shr-shr}
use Rattle.std.proofs.lemmas.List.{length-take-le, take_more}
use Rattle.std.proofs.lemmas.Bool.{and_from, and_parts, cond_both, cond-true, cond-false, eq-eqb, ne_eqb, lt-ltb, leb-true, ltb-true}
use Rattle.std.proofs.lemmas.Bool.Decides.{nat_tests}
use Rattle.network.proofs.Masks.{half_below}
use Rattle.network.specs.Answers.{first_of}
use Rattle.network.specs.Lanes.{all_sound, most_lanes, no_lane, sound}
use Rattle.network.specs.Sets.{chosen, given_refusal, is_standing, kept, set_cost, set_refusal, size_refusal, standing_lanes, standing_set, total_cost}
use Rattle.network.specs.declared.lanes.Lane.{Lane}
use Rattle.network.specs.declared.refusals.Refusal.{Refusal}
use Rattle.network.specs.declared.refusals.Refusal.TheVariants.{LaneNotGiven, TooManyLanesNamed}

-- ---- refusals

-- ---- the lanes named

kept_append : (b : Bool) (l : Lane) (xs ys : List Lane) → kept b l xs ++ ys ≡ kept b l (xs ++ ys)
kept_append true l xs ys = refl
kept_append false l xs ys = refl

pub chosen_append : (s : ℕ) (xs ys : List Lane) → chosen s (xs ++ ys) ≡ chosen s xs ++ chosen (s / 2 ^ length xs) ys
chosen_append s [] ys = ap (λ (t : ℕ). chosen t ys) (sym (div-one s))
chosen_append s (x ∷ xs) ys =
    ap (kept (eqb (s % 2) 1) x) (chosen_append (s / 2) xs ys ∙ ap (λ (t : ℕ). chosen (s / 2) xs ++ chosen t ys) (half_shift s (length xs)))
    ∙ sym (kept_append (eqb (s % 2) 1) x (chosen (s / 2) xs) (chosen (s / 2 ^ suc (length xs)) ys))
  where
    half_shift : (n k : ℕ) → n / 2 / 2 ^ k ≡ n / 2 ^ suc k
    half_shift n k = shr-shr n 1 k ∙ ap (λ (j : ℕ). n / 2 ^ j) (one-add k)

pub kept_length : (b : Bool) (l : Lane) (xs : List Lane) → length (kept b l xs) ≡ cond b 1 0 + length xs
kept_length true l xs = omega arith
kept_length false l xs = omega arith

-- the lowest digit as a test
pub digit : (s : ℕ) → cond (eqb (s % 2) 1) 1 0 ≡ s % 2
digit s = grind (arith, nat_tests, mod-lt s (pow_pos 1))

-- a set of given lanes names as many lanes as its number has ones
pub chosen_count : (s : ℕ) (ls : List Lane) → s < 2 ^ length ls → length (chosen s ls) ≡ ones s
chosen_count s [] low = omega (arith, ones-le 0 s low)
chosen_count s (l ∷ ls) low =
    kept_length (eqb (s % 2) 1) l (chosen (s / 2) ls)
    ∙ ap₂ ◌+◌ (digit s) (chosen_count (s / 2) ls (half_below s (length ls) low))
    ∙ sym (ones_step s)

pub total_append : (xs ys : List Lane) → total_cost (xs ++ ys) ≡ total_cost xs + total_cost ys
total_append [] ys = omega arith
total_append (x ∷ xs) ys = omega (arith, total_append xs ys)

-- the first i lanes and one more
pub chosen_more : (s : ℕ) (ls : List Lane) (i : ℕ) → i < length ls → chosen s (take (i + 1) ls) ≡ chosen s (take i ls) ++ kept (eqb (s / 2 ^ i % 2) 1) (get_or ls i no_lane) []
chosen_more s ls i within =
    ap (chosen s) (take_more ls i no_lane within)
    ∙ chosen_append s (take i ls) (get_or ls i no_lane ∷ [])
    ∙ ap (λ (k : ℕ). chosen s (take i ls) ++ kept (eqb (s / 2 ^ k % 2) 1) (get_or ls i no_lane) []) (length-take-le i ls (omega arith))

-- ---- what is known of a lane that is not refused

pub record Fit (S depots : ℕ) (l : Lane) : Type 0 where
  pub left : l.left < depots
  pub right : l.right < depots
  pub some : 1 ≤ l.chance
  pub chance : l.chance ≤ S
  pub cost : l.cost ≤ 1000000

pub fit_lane : (S depots : ℕ) (l : Lane) → sound S depots l ≡ true → Fit S depots l
fit_lane S depots l h = grind (arith, nat_tests)

pub fit_at : (S depots : ℕ) (ls : List Lane) (i : ℕ) → all_sound S depots ls ≡ true → i < length ls → Fit S depots (get_or ls i no_lane)
fit_at S depots [] i h within = absurd (omega arith)
fit_at S depots (l ∷ ls) zero h within = fit_lane S depots l (and_parts (sound S depots l) (all_sound S depots ls) h).0
fit_at S depots (l ∷ ls) (suc i) h within = fit_at S depots ls i (and_parts (sound S depots l) (all_sound S depots ls) h).1 (omega arith)

sound_kept : (S depots : ℕ) (b : Bool) (l : Lane) (ls : List Lane) → sound S depots l ≡ true → all_sound S depots ls ≡ true → all_sound S depots (kept b l ls) ≡ true
sound_kept S depots true l ls one rest = and_from _ _ one rest
sound_kept S depots false l ls one rest = rest

-- the lanes that a set names are as sound as all
pub sound_chosen : (S depots s : ℕ) (ls : List Lane) → all_sound S depots ls ≡ true → all_sound S depots (chosen s ls) ≡ true
sound_chosen S depots s [] fit = refl
sound_chosen S depots s (l ∷ ls) fit =
    let parts = and_parts (sound S depots l) (all_sound S depots ls) fit in
    sound_kept S depots (eqb (s % 2) 1) l (chosen (s / 2) ls) parts.0 (sound_chosen S depots (s / 2) ls parts.1)

some_is_not_none : (e : Refusal) → ◌≡◌ {A = Option Refusal} (Some e) None → ⊥
some_is_not_none e h = let z : ◌≡◌ {A = ℕ} 0 1 = cc in omega arith

first_none : (a b : Option Refusal) → first_of a b ≡ None → (a ≡ None) × (b ≡ None)
first_none None b h = (refl, h)
first_none (Some e) b h = absurd (some_is_not_none e h)

cond_none : (b : Bool) (e : Refusal) → cond b None (Some e) ≡ None → b ≡ true
cond_none true e h = refl
cond_none false e h = absurd (some_is_not_none e h)

pub given_below : (ls : List Lane) (s : ℕ) → given_refusal ls s ≡ None → s < 2 ^ length ls
given_below ls s h = ltb-true s (2 ^ length ls) (cond_none (ltb s (2 ^ length ls)) LaneNotGiven h)

-- a set that is not refused names lanes that were given, and at most K of them
pub set_fine : (K : ℕ) (ls : List Lane) (s : ℕ) → set_refusal K ls s ≡ None → (given_refusal ls s ≡ None) × (length (chosen s ls) ≡ ones s) × (ones s ≤ K)
set_fine K ls s h =
    let parts = first_none (given_refusal ls s) (size_refusal K s) h in
    (parts.0, chosen_count s ls (given_below ls s parts.0), leb-true (ones s) K (cond_none (leb (ones s) K) TooManyLanesNamed parts.1))

-- ---- the cost of a set, lane by lane

-- what the first i lanes cost, with a bound that shows that the sum fits
abbrev pub CostSofar : ℕ → List Lane → ℕ → ℕ → Type 0
CostSofar s ls i cost = (cost ≡ set_cost s (take i ls)) × (cost ≤ 1000000 * i)

module _ (S depots s : ℕ) (items ls : List Lane) (same : items ≡ ls) (fit : all_sound S depots ls ≡ true) (i cost : ℕ) (within : i < length items) (so : CostSofar s ls i cost) where
  lane_here : get_or items i no_lane ≡ get_or ls i no_lane
  lane_here = ap (λ xs. get_or xs i no_lane) same

  inside : i < length ls
  inside = subst (λ xs. i < length xs) same within

  more : set_cost s (take (i + 1) ls) ≡ set_cost s (take i ls) + total_cost (kept (eqb (s / 2 ^ i % 2) 1) (get_or ls i no_lane) [])
  more = ap total_cost (chosen_more s ls i inside) ∙ total_append (chosen s (take i ls)) _

  pub cost_named : s / 2 ^ i % 2 ≡ 1 → CostSofar s ls (i + 1) (cost + (get_or items i no_lane).cost)
  cost_named one =
      let here = ap (λ l. l.cost) lane_here in
      let one_more = ap (λ b. total_cost (kept b (get_or ls i no_lane) [])) (eq-eqb (s / 2 ^ i % 2) 1 one) in
      (omega (arith, more), omega (arith, (fit_at S depots ls i fit inside).cost))

  pub cost_unnamed : (s / 2 ^ i % 2 ≡ 1 → ⊥) → CostSofar s ls (i + 1) cost
  cost_unnamed none =
      let no_more = ap (λ b. total_cost (kept b (get_or ls i no_lane) [])) (ne_eqb (s / 2 ^ i % 2) 1 none) in
      (omega (arith, more), omega arith)

-- ---- the set of all lanes that stand

pub standing_append : (xs : List Lane) (l : Lane) → standing_set (xs ++ (l ∷ [])) ≡ standing_set xs + cond (is_standing l) (2 ^ length xs) 0
standing_append [] l = omega arith
standing_append (x ∷ xs) l = cond_both (is_standing l) (2 ^ length xs) 0 (λ n. standing_set (xs ++ (l ∷ [])) ≡ standing_set xs + n → standing_set ((x ∷ xs) ++ (l ∷ [])) ≡ standing_set (x ∷ xs) + 2 * n) (λ _ e. omega arith) (λ _ e. omega arith) (standing_append xs l)
    ∙ ap (λ (n : ℕ). standing_set (x ∷ xs) + n) (doubled (is_standing l))
  where
    doubled : (b : Bool) → 2 * cond b (2 ^ length xs) 0 ≡ cond b (2 ^ suc (length xs)) 0
    doubled true = omega (arith, pow-suc 2 (length xs))
    doubled false = refl

digit_below : (b : Bool) → cond b 1 0 < 2
digit_below true = lit< tt
digit_below false = lit< tt

pub standing_below : (ls : List Lane) → standing_set ls < 2 ^ length ls
standing_below [] = lit< tt
standing_below (l ∷ ls) = omega (arith, standing_below ls, digit_below (is_standing l), pow-suc 2 (length ls))

pub chosen_standing : (ls : List Lane) → chosen (standing_set ls) ls ≡ standing_lanes ls
chosen_standing [] = refl
chosen_standing (l ∷ ls) =
    ap₂ (λ (b : Bool) (s : ℕ). kept b l (chosen s ls)) (low (is_standing l)) (half (is_standing l)) ∙ ap (kept (is_standing l) l) (chosen_standing ls)
  where
    low : (b : Bool) → eqb ((cond b 1 0 + 2 * standing_set ls) % 2) 1 ≡ b
    low true = eq-eqb _ 1 (omega arith)
    low false = ne_eqb _ 1 (omega arith)

    half : (b : Bool) → (cond b 1 0 + 2 * standing_set ls) / 2 ≡ standing_set ls
    half true = omega arith
    half false = omega arith

pub standing_few : (ls : List Lane) → length (standing_lanes ls) ≤ length ls
standing_few [] = omega arith
standing_few (l ∷ ls) = omega (arith, standing_few ls, kept_length (is_standing l) l (standing_lanes ls), digit_below (is_standing l))

pub standing_given : (ls : List Lane) → given_refusal ls (standing_set ls) ≡ None
standing_given ls = cond-true _ _ _ (lt-ltb (standing_set ls) (2 ^ length ls) (standing_below ls))

-- the lanes passed that stand
abbrev pub StandingSofar : List Lane → ℕ → ℕ → Type 0
StandingSofar ls i s = s ≡ standing_set (take i ls)

-- the set so far fits, and so does one more lane
pub standing_fits : (ls : List Lane) (i s : ℕ) → StandingSofar ls i s → i < length ls → i < most_lanes → s + 1 * 2 ^ i % 2 ^ 32 < 2 ^ 32
standing_fits ls i s so within few =
    let low : standing_set (take i ls) < 2 ^ i = subst (λ (k : ℕ). standing_set (take i ls) < 2 ^ k) (length-take-le i ls (omega arith)) (standing_below (take i ls)) in
    let shift = one_shl i 32 (omega arith) in
    let small : 2 ^ i ≤ 2 ^ 20 = pow_mono {i = i} {j = 20} (omega arith) in
    omega arith

module _ (items ls : List Lane) (same : items ≡ ls) (i s : ℕ) (within : i < length items) (so : StandingSofar ls i s) where
  standing_next : (n : ℕ) → cond (is_standing (get_or items i no_lane)) (2 ^ i) 0 ≡ n → StandingSofar ls (i + 1) (s + n)
  standing_next n is =
      let inside : i < length ls = subst (λ xs. i < length xs) same within in
      let count = length-take-le i ls (omega arith) in
      let step = ap standing_set (take_more ls i no_lane inside) ∙ standing_append (take i ls) (get_or ls i no_lane) in
      let here : cond (is_standing (get_or ls i no_lane)) (2 ^ length (take i ls)) 0 ≡ n = ap₂ (λ (l : Lane) (k : ℕ). cond (is_standing l) (2 ^ k) 0) (sym (ap (λ xs. get_or xs i no_lane) same)) count ∙ is in
      omega arith

  pub standing_one : is_standing (get_or items i no_lane) ≡ true → StandingSofar ls (i + 1) (s + 2 ^ i)
  standing_one yes-it-does = standing_next (2 ^ i) (cond-true _ _ _ yes-it-does)

  pub standing_none : is_standing (get_or items i no_lane) ≡ false → StandingSofar ls (i + 1) s
  standing_none it-does-not = subst (StandingSofar ls (i + 1)) (add-zero s) (standing_next 0 (cond-false _ _ _ it-does-not))
