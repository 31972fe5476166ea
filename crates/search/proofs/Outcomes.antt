-- What is told of a search after any openings granted: found and none exactly when due, and grants as one.
use Rattle.std.proofs.Common.{◌≡◌, ℕ, suc, ◌-◌, ◌^◌, ◌<◌, ◌≤◌, min, List, [], ◌∷◌, length, Some, None, Option, sym, refl, ap, ◌∙◌, subst, ⊎_elim, le_trans, arith, pow_mono}
use Rattle.std.proofs.lemmas.Bool.{cases_lt}
use Rattle.network.specs.Sets.{standing_lanes}
use Rattle.network.proofs.Sets.{standing_few}
use Rattle.bounds.specs.Meaning.{Meaning}
use Rattle.bounds.specs.Questions.{Checked}
use Rattle.search.proofs.Counting.{counted, ended_same, none_after, openings_told, pending_before}
use Rattle.search.proofs.Covering.{answers}
use Rattle.search.specs.Opening.{Problem, Progress, open_many, question, start}
use Rattle.search.specs.declared.branches.Branch.{Branch}
use Rattle.search.specs.Plans.{Answers, Cheapest, FullCount, Outcome, Plan, Status, ended_status, found, most_granted, none_found, status_from, status_of, working}

-- ---- statuses are told apart

abbrev ended_test : Status → ℕ
ended_test working = 0
ended_test (found s) = 1
ended_test none_found = 2

ended_pending : (bs : List Branch) (best : Option ℕ) → (status_from bs best ≡ working → ⊥) → bs ≡ []
ended_pending [] best ended = refl
ended_pending (b ∷ bs) best ended = absurd (ended refl)

not_working : (x : Status) → 1 ≤ ended_test x → x ≡ working → ⊥
not_working x ended is = omega (arith, ap ended_test is)

found_best : (best : Option ℕ) (s : ℕ) → ended_status best ≡ found s → best ≡ Some s
found_best None s is = absurd (omega (arith, ap ended_test is))
found_best (Some t) s is = cc

none_best : (best : Option ℕ) → ended_status best ≡ none_found → best ≡ None
none_best None is = refl
none_best (Some t) is = absurd (omega (arith, ap ended_test is))

module _ (p : Problem) (means : Meaning p.tell) (known : (b : Branch) → Checked (question p b)) where
  module _ (w n : ℕ) (full : FullCount p n) where
    x : Progress
    x = open_many p w (start p)

    -- with none pending the status is that of the best set
    ended_is : (open_many p w (start p)).pending ≡ [] → status_of (open_many p w (start p)) ≡ ended_status (open_many p w (start p)).best
    ended_is empty = ap (λ bs. status_from bs (open_many p w (start p)).best) empty

    -- an ended status is told once the full count is granted
    due : (status : Status) → status_of (open_many p w (start p)) ≡ status → 1 ≤ ended_test status → n ≤ w
    due status is ended =
        ⊎_elim
        (λ less. absurd (pending_before p n full w less (ended_pending _ _ (λ works. not_working status ended (sym is ∙ works)))))
        (λ past. past)
        (cases_lt w n)

    answer_at : n ≤ w → (best : Option ℕ) → (open_many p w (start p)).best ≡ best → Answers p best
    answer_at past best is = subst (Answers p) is (answers p means known w (none_after p n full w past))

    found_is : (s : ℕ) → status_of (open_many p w (start p)) ≡ found s → (n ≤ w) × Cheapest p s
    found_is s is =
        let past = due (found s) is (omega arith) in
        (past, answer_at past (Some s) (found_best _ s (sym (ended_is (none_after p n full w past)) ∙ is)))

    none_is : status_of (open_many p w (start p)) ≡ none_found → (n ≤ w) × ((s : ℕ) → Plan p s → ⊥)
    none_is is =
        let past = due none_found is (omega arith) in
        (past, answer_at past None (none_best _ (sym (ended_is (none_after p n full w past)) ∙ is)))

    found_told : n ≤ w → (s : ℕ) → Plan p s → (best : Option ℕ) → (open_many p w (start p)).best ≡ best → (t : ℕ) × (status_of (open_many p w (start p)) ≡ found t)
    found_told past s plan None is = absurd (answer_at past None is s plan)
    found_told past s plan (Some t) is = (t, ended_is (none_after p n full w past) ∙ ap ended_status is)

    none_told : n ≤ w → ((s : ℕ) → Plan p s → ⊥) → (best : Option ℕ) → (open_many p w (start p)).best ≡ best → status_of (open_many p w (start p)) ≡ none_found
    none_told past no_plan None is = ended_is (none_after p n full w past) ∙ ap ended_status is
    none_told past no_plan (Some t) is = absurd (no_plan t (answer_at past (Some t) is).plan)

  -- twenty lanes take at most the most openings that one grant may make
  count_granted : length p.lanes ≤ 20 → (n : ℕ) → n ≤ 2 ^ suc (length (standing_lanes p.lanes)) - 1 → n ≤ most_granted
  count_granted few n bounded =
      let power : 2 ^ suc (length (standing_lanes p.lanes)) ≤ 2 ^ 21 = pow_mono {i = suc (length (standing_lanes p.lanes))} {j = 21} (omega (arith, standing_few p.lanes)) in
      omega arith

  pub outcome : (w : ℕ) → Outcome p w (open_many p w (start p))
  outcome w =
      let all = counted p means known in
      let n = all.0 in
      let full = all.1 in
      let granted = count_granted (known (record { picked = 0; undecided = 0 })).few n all.2 in
      record {
        count = n;
        full = full;
        bounded = all.2;
        found_when = found_is w n full;
        found_due = λ past s plan. found_told w n full past s plan (open_many p w (start p)).best refl;
        none_when = none_is w n full;
        none_due = λ past no_plan. none_told w n full past no_plan (open_many p w (start p)).best refl;
        as_one = ⊎_elim (λ less. ap (λ (k : ℕ). open_many p k (start p)) (within less)) (λ past. ended_same p n full w (min w most_granted) (le_trans granted past) (omega (arith, granted))) (cases_lt w most_granted);
        told = openings_told p n full w;
      }
    where
      within : w < most_granted → w ≡ min w most_granted
      within less = omega arith
