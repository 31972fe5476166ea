-- A sheet that was read and granted all openings, and the answer that follows.
use Rattle.std.proofs.Common.{◌≡◌, ℕ, List, is_some, IsErrAnd, None, Ok, Err, Option, Result, sym, ap, ◌∙◌}
use Rattle.std.proofs.lemmas.Bool.{cond-false}
use Rattle.std.proofs.lemmas.Result.{err_from_is_err_and}
use Rattle.network.specs.declared.refusals.Refusal.{Refusal}
use Rattle.network.proofs.Offers.{passed, refused}
use Rattle.search.specs.Plans.{most_granted}
use Rattle.sheet.specs.Calls.{Stepped, verdict}
use Rattle.sheet.specs.Models.{Model}
use Rattle.sheet.specs.declared.words.Call.TheVariants.{Grant}
use Rattle.sheet_files.specs.Files.{read_file}
use Rattle.planning.specs.Answers.{answer_to, console_tells, granted_answer, read_answer, reported}
use Rattle.planning.specs.declared.answers.Failure.{Failure}
use Rattle.planning.specs.declared.answers.Failure.TheVariants.{Refused}

-- what a `?` leaves with
pub left_as : {X : Type 0} (r : Result X Failure) (e : Failure) → IsErrAnd r (λ y. y ≡ e) → r ≡ Err e
left_as r e left = let p = err_from_is_err_and r left in p.1 ∙ ap Err p.2

module _ (file : List ℕ) (m : Model) (read : read_file console_tells file ≡ Ok m) (r : Result (Unit {0}) Refusal) (later : Model) (step : Stepped m (Grant most_granted) r later) where
  pub plan_refused : (e : Refusal) → r ≡ Err e → Err (Refused e) ≡ answer_to file
  plan_refused e is =
      sym (ap read_answer read ∙ ap (λ (v : Option Refusal). granted_answer v m) (refused _ e tt (sym is ∙ step.answer)))

  pub plan_told : r ≡ Ok tt → Ok (reported later) ≡ answer_to file
  plan_told is =
      let v : verdict m (Grant most_granted) ≡ None = passed _ tt tt (sym is ∙ step.answer) in
      ap (λ m'. Ok (reported m')) (step.model ∙ cond-false (is_some (verdict m (Grant most_granted))) _ _ (ap is_some v))
      ∙ sym (ap read_answer read ∙ ap (λ (w : Option Refusal). granted_answer w m) v)
