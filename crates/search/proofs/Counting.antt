-- How many openings a search makes: it ends, after at most 2^(m+1) − 1 of them with m standing lanes, and openings add up.
use Rattle.std.proofs.Common.{◌≡◌, ℕ, zero, suc, ◌+◌, ◌-◌, ◌^◌, ◌<◌, ◌≤◌, min, Bool, true, false, cond, eqb, List, [], ◌∷◌, length, Option, sym, refl, ap, ◌∙◌, subst, ⊎_elim, pow-suc, zero-add, add-one, arith, pow_pos}
use lib.Count.{ones}
use Rattle.std.proofs.lemmas.Bool.{cases_lt, eqb-false}
use Rattle.network.specs.Sets.{standing_lanes, standing_set}
use Rattle.network.proofs.Sets.{chosen_count, chosen_standing, standing_below}
use Rattle.bounds.specs.Meaning.{Meaning}
use Rattle.bounds.specs.Questions.{Checked}
use Rattle.search.proofs.Covering.{Holds, begins, step, top}
use Rattle.search.proofs.Tops.{Top, ones_rest}
use Rattle.search.specs.Keeping.{all_work, work}
use Rattle.search.specs.Opening.{Problem, Progress, dropped, highest, open_from, open_many, open_one, question, start, with_lane, without}
use Rattle.search.specs.declared.branches.Branch.{Branch}
use Rattle.search.specs.Plans.{FullCount}

-- ---- openings add up

pub many_sum : (p : Problem) (n m : ℕ) (x : Progress) → open_many p (n + m) x ≡ open_many p m (open_many p n x)
many_sum p zero m x = ap (λ (k : ℕ). open_many p k x) (zero-add m)
many_sum p (suc n) m x = ap (λ (k : ℕ). open_many p k x) next ∙ many_sum p n m (open_one p x)
  where
    next : suc n + m ≡ suc (n + m)
    next = omega arith

-- with none pending nothing changes
idle_one : (p : Problem) (bs : List Branch) (best : Option ℕ) (made : ℕ) → bs ≡ [] → open_from p bs best made ≡ record { pending = bs; best = best; openings = made }
idle_one p [] best made none_left = refl
idle_one p (b ∷ bs) best made none_left = absurd (let z : ◌≡◌ {A = ℕ} 0 1 = cc in omega arith)

pub idle : (p : Problem) (n : ℕ) (x : Progress) → x.pending ≡ [] → open_many p n x ≡ x
idle p zero x none_left = refl
idle p (suc n) x none_left = ap (open_many p n) (idle_one p x.pending x.best x.openings none_left) ∙ idle p n x none_left

-- an opening counts one at most
one_more : (p : Problem) (bs : List Branch) (best : Option ℕ) (made : ℕ) → (open_from p bs best made).openings ≤ made + 1
one_more p [] best made = omega arith
one_more p (b ∷ bs) best made = omega arith

pub many_more : (p : Problem) (n : ℕ) (x : Progress) → (open_many p n x).openings ≤ x.openings + n
many_more p zero x = omega arith
many_more p (suc n) x = omega (arith, many_more p n (open_one p x), one_more p x.pending x.best x.openings)

-- ---- the work that branches may take

work_some : (b : Branch) → 1 ≤ work b
work_some b = omega (arith, pow-suc 2 (ones b.undecided), pow_pos (ones b.undecided))

-- a branch that is split takes one opening, and leaves the work of its two halves
split_work : (b : Branch) → Top b.undecided → work (without b) + work (with_lane b) + 1 ≡ work b
split_work b above =
    let fewer = ones_rest b.undecided above in
    let left = ones (b.undecided - 2 ^ highest b.undecided) in
    let power = ap (λ (k : ℕ). 2 ^ suc k) (fewer ∙ add-one left) in
    omega (arith, power, pow-suc 2 (suc left), pow-suc 2 left, pow_pos left)

-- an opening leaves less work
pub less_work : (b : Branch) (rest : List Branch) → (0 < b.undecided → Top b.undecided) → (drop leaf : Bool) → eqb b.undecided 0 ≡ leaf → all_work (cond drop rest (cond leaf rest (without b ∷ (with_lane b ∷ rest)))) + 1 ≤ all_work (b ∷ rest)
less_work b rest above true leaf is = omega (arith, work_some b)
less_work b rest above false true is = omega (arith, work_some b)
less_work b rest above false false is = let differ = eqb-false b.undecided 0 is in omega (arith, split_work b (above (omega arith)))

module _ (p : Problem) (means : Meaning p.tell) (known : (b : Branch) → Checked (question p b)) where
  -- the search from here on ends within the work that its branches may take
  record Ends (x : Progress) : Type 0 where
    count : ℕ
    within : count ≤ all_work x.pending
    none_pending : (open_many p count x).pending ≡ []
    all_made : (open_many p count x).openings ≡ x.openings + count

  ends_from : (fuel : ℕ) (bs : List Branch) (best : Option ℕ) (made : ℕ) → Holds p (record { pending = bs; best = best; openings = made }) → all_work bs ≤ fuel → Ends (record { pending = bs; best = best; openings = made })
  ends_from fuel [] best made holds low = record { count = 0; within = omega arith; none_pending = refl; all_made = omega arith }
  ends_from zero (b ∷ rest) best made holds low = absurd (omega (arith, work_some b))
  ends_from (suc fuel) (b ∷ rest) best made holds low =
      let y = open_from p (b ∷ rest) best made in
      let less = less_work b rest (top p means known b holds.rising.1) (dropped p best b) (eqb b.undecided 0) refl in
      let later = ends_from fuel y.pending y.best y.openings (step p means known (record { pending = b ∷ rest; best = best; openings = made }) holds) (omega arith) in
      record {
        count = suc later.count;
        within = omega (arith, later.within);
        none_pending = later.none_pending;
        all_made = omega (arith, later.all_made);
      }

  -- the full count is at most 2^(m+1) − 1 with m standing lanes
  pub counted : (n : ℕ) × FullCount p n × (n ≤ 2 ^ suc (length (standing_lanes p.lanes)) - 1)
  counted =
      let ends = ends_from (all_work (start p).pending) (start p).pending (start p).best 0 (begins p means known) (omega arith) in
      let lanes : ones (standing_set p.lanes) ≡ length (standing_lanes p.lanes) = sym (chosen_count (standing_set p.lanes) p.lanes (standing_below p.lanes)) ∙ ap length (chosen_standing p.lanes) in (
        ends.count,
        record { none_pending = ends.none_pending; all_made = omega (arith, ends.all_made) },
        subst (λ (m : ℕ). ends.count ≤ 2 ^ suc m - 1) lanes (omega (arith, ends.within)),
      )

-- ---- what the full count says of any number of openings

module _ (p : Problem) (n : ℕ) (full : FullCount p n) where
  -- from the full count on nothing changes
  after_all : (w : ℕ) → n ≤ w → open_many p w (start p) ≡ open_many p n (start p)
  after_all w past =
      let split : n + (w - n) ≡ w = omega arith in
      ap (λ (k : ℕ). open_many p k (start p)) (sym split) ∙ many_sum p n (w - n) (start p) ∙ idle p (w - n) (open_many p n (start p)) full.none_pending

  pub ended_same : (w v : ℕ) → n ≤ w → n ≤ v → open_many p w (start p) ≡ open_many p v (start p)
  ended_same w v one two = after_all w one ∙ sym (after_all v two)

  pub none_after : (w : ℕ) → n ≤ w → (open_many p w (start p)).pending ≡ []
  none_after w past = ap (λ x. x.pending) (after_all w past) ∙ full.none_pending

  -- the lesser of the openings granted and the full count are made
  pub openings_told : (w : ℕ) → (open_many p w (start p)).openings ≡ min w n
  openings_told w = ⊎_elim (λ less. before w (omega arith) ∙ omega arith) (λ past. after past) (cases_lt w n)
    where
      before : (w : ℕ) → w ≤ n → (open_many p w (start p)).openings ≡ w
      before w low =
          let split : w + (n - w) ≡ n = omega arith in
          let rest = many_more p (n - w) (open_many p w (start p)) in
          let all = ap (λ (k : ℕ). (open_many p k (start p)).openings) (sym split) ∙ ap (λ x. x.openings) (many_sum p w (n - w) (start p)) in
          omega (arith, full.all_made, many_more p w (start p))

      after : n ≤ w → (open_many p w (start p)).openings ≡ min w n
      after past = ap (λ x. x.openings) (after_all w past) ∙ full.all_made ∙ omega arith

  -- before the full count something is pending
  pub pending_before : (w : ℕ) → w < n → (open_many p w (start p)).pending ≡ [] → ⊥
  pending_before w less none_left =
      let split : w + (n - w) ≡ n = omega arith in
      let stays = ap (λ (k : ℕ). (open_many p k (start p)).openings) (sym split) ∙ ap (λ x. x.openings) (many_sum p w (n - w) (start p) ∙ idle p (n - w) (open_many p w (start p)) none_left) in
      omega (arith, full.all_made, stays, many_more p w (start p))

  -- there is one full count
  pub one_count : (m : ℕ) → FullCount p m → m ≡ n
  one_count m other = sym other.all_made ∙ openings_told m ∙ lesser
    where
      lesser : min m n ≡ n
      lesser = ⊎_elim (λ less. absurd (pending_before m less other.none_pending)) (λ past. omega arith) (cases_lt m n)
