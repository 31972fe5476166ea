-- The states of a sheet, told apart; and what they say of a search.
use Rattle.std.proofs.Common.{◌≡◌, ℕ, ◌≤◌, ◌⊎◌, List, [], ◌∷◌, Some, None, Option, sym, refl, ap, ◌∙◌, ⊎_elim, arith}
use Rattle.search.specs.Opening.{Progress}
use Rattle.search.specs.Plans.{Status, found, none_found, status_from, working}
use Rattle.search.specs.declared.branches.Branch.{Branch}
use Rattle.sheet.specs.Models.{searched_state, state_by}
use Rattle.sheet.specs.declared.words.Goal.{Goal}
use Rattle.sheet.specs.declared.words.State.{State}
use Rattle.sheet.specs.declared.words.State.TheVariants.{Drafting, Working, Found, NoneFound}

abbrev place : State → ℕ
place Drafting = 0
place Working = 1
place Found = 2
place NoneFound = 3

abbrev status_place : Status → ℕ
status_place working = 1
status_place (found s) = 2
status_place none_found = 3

pub found_status : (bs : List Branch) (best : Option ℕ) → searched_state bs best ≡ Found → (s : ℕ) × ((best ≡ Some s) × (status_from bs best ≡ found s))
found_status [] None is = absurd (omega (arith, ap place is))
found_status [] (Some s) is = (s, (refl, refl))
found_status (b ∷ bs) best is = absurd (omega (arith, ap place is))

pub status_found : (bs : List Branch) (best : Option ℕ) (s : ℕ) → status_from bs best ≡ found s → searched_state bs best ≡ Found
status_found [] None s is = absurd (omega (arith, ap status_place is))
status_found [] (Some t) s is = refl
status_found (b ∷ bs) best s is = absurd (omega (arith, ap status_place is))

pub none_status : (bs : List Branch) (best : Option ℕ) → searched_state bs best ≡ NoneFound → status_from bs best ≡ none_found
none_status [] None is = refl
none_status [] (Some s) is = absurd (omega (arith, ap place is))
none_status (b ∷ bs) best is = absurd (omega (arith, ap place is))

pub status_none : (bs : List Branch) (best : Option ℕ) → status_from bs best ≡ none_found → searched_state bs best ≡ NoneFound
status_none [] None is = refl
status_none [] (Some s) is = absurd (omega (arith, ap status_place is))
status_none (b ∷ bs) best is = absurd (omega (arith, ap status_place is))

-- ---- what a state says of a goal

pub ended_goal : (goal : Option Goal) (x : Progress) (state : State) → state ≡ state_by goal x → (state ≡ Found) ⊎ (state ≡ NoneFound) → (g : Goal) × ((goal ≡ Some g) × (x.pending ≡ []))
ended_goal None x state is ended = absurd (⊎_elim (λ e. omega (arith, ap place (sym e ∙ is))) (λ e. omega (arith, ap place (sym e ∙ is))) ended)
ended_goal (Some g) x state is ended = (g, (refl, by_pending x.pending x.best (⊎_elim (λ e. omega (arith, ap place (sym e ∙ is))) (λ e. omega (arith, ap place (sym e ∙ is))) ended)))
  where
    by_pending : (bs : List Branch) (best : Option ℕ) → 2 ≤ place (searched_state bs best) → bs ≡ []
    by_pending [] best late = refl
    by_pending (b ∷ bs) best late = absurd (omega (arith, late))
