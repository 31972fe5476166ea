-- One record that was taken and carried out is one step of reading; the first one opens the sheet.
use Rattle.std.proofs.Common.{◌≡◌, ℕ, Ok, Err, Result, sym, refl, ap, ◌∙◌, subst, MatchResult}
use Rattle.records.specs.Reading.{Step, body_in, kind_in, left_of, taken_as}
use Rattle.records.specs.Records.{take_record}
use Rattle.records.specs.declared.faults.Misfit.{Misfit}
use Rattle.records.specs.declared.kinds.Stage.{Stage}
use Rattle.records.specs.declared.kinds.Stage.TheVariants.{First}
use Rattle.records.specs.declared.readers.Reader.{Reader}
use Rattle.records.specs.declared.readers.Record.{Record}
use Rattle.bounds.specs.Questions.{Asked}
use Rattle.sheet.specs.Models.{Model}
use Rattle.sheet_files.specs.Applying.{open_by, stage_of}
use Rattle.sheet_files.specs.Files.{by_kind}
use Rattle.sheet_files.specs.Reading.{Next, Opened, first_by, next_by}
use Rattle.sheet_files.specs.declared.faults.Cause.{Cause}

module _ (m : Model) (before later : Reader) (stage : Stage) (is_stage : stage ≡ stage_of m) (x : Record) (step : Step before stage (Ok x) later) where
  taken : take_record (stage_of m) (left_of before) ≡ Ok (taken_as x (left_of later))
  taken = ap (λ (s : Stage). take_record s (left_of before)) (sym is_stage) ∙ step.answer.0

  went : (r : Result (Unit {0}) Cause) (m' : Model) → MatchResult r (λ _. by_kind (kind_in x) m (body_in x) ≡ Ok m') (λ cause. by_kind (kind_in x) m (body_in x) ≡ Err cause) → Next m before r m' later
  went (Ok done) m' is =
      record {
        file = step.file;
        answer = record { t = taken_as x (left_of later); taken = taken; done = is; rest = refl; place = step.answer.1.1 };
      }
  went (Err cause) m' is = record { file = step.file; answer = ap (next_by m) taken ∙ is }

-- the record by the answer that the reader gave
pub next_done : (m : Model) (before later : Reader) (stage : Stage) → stage ≡ stage_of m → (answer : Result Record Misfit) → Step before stage answer later → (x : Record) → answer ≡ Ok x → (r : Result (Unit {0}) Cause) (m' : Model) → MatchResult r (λ _. by_kind (kind_in x) m (body_in x) ≡ Ok m') (λ cause. by_kind (kind_in x) m (body_in x) ≡ Err cause) → Next m before r m' later
next_done m before later stage is_stage answer step x is r m' done =
    went m before later stage is_stage x (subst (λ (a : Result Record Misfit). Step before stage a later) is step) r m' done

-- ---- the first record

module _ {X : Type 0} (model : X → Model) (tell : Asked → ℕ) (before later : Reader) (x : Record) (step : Step before First (Ok x) later) where
  opened : (r : Result X Cause) → MatchResult r (λ s. open_by tell (body_in x) ≡ Ok (model s)) (λ cause. open_by tell (body_in x) ≡ Err cause) → MatchResult r (λ s. Opened tell before (model s) later) (λ cause. first_by tell (take_record First (left_of before)) ≡ Err cause)
  opened (Ok s) is = record { t = taken_as x (left_of later); taken = step.answer.0; done = is; rest = refl; place = step.answer.1.1 }
  opened (Err cause) is = ap (first_by tell) step.answer.0 ∙ is

pub first_done : {X : Type 0} (model : X → Model) (tell : Asked → ℕ) (before later : Reader) (answer : Result Record Misfit) → Step before First answer later → (x : Record) → answer ≡ Ok x → (r : Result X Cause) → MatchResult r (λ s. open_by tell (body_in x) ≡ Ok (model s)) (λ cause. open_by tell (body_in x) ≡ Err cause) → MatchResult r (λ s. Opened tell before (model s) later) (λ cause. first_by tell (take_record First (left_of before)) ≡ Err cause)
first_done model tell before later answer step x is r done =
    opened model tell before later x (subst (λ (a : Result Record Misfit). Step before First a later) is step) r done
