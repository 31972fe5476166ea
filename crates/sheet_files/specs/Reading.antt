-- What one step of reading does to a sheet and a reader.
use Rattle.std.specs.Prelude.{◌≡◌, ℕ, List, Ok, Err, Result, MatchResult}
use Rattle.records.specs.Reading.{file_of, left_of}
use Rattle.records.specs.Records.{Taken, take_record}
use Rattle.records.specs.declared.faults.Misfit.{Misfit}
use Rattle.records.specs.declared.readers.Place.{Place}
use Rattle.records.specs.declared.readers.Reader.{Reader}
use Rattle.records.specs.declared.kinds.Stage.TheVariants.{First}
use Rattle.bounds.specs.Questions.{Asked}
use Rattle.sheet.specs.Models.{Model}
use Rattle.sheet_files.specs.Applying.{open_by, stage_of}
use Rattle.sheet_files.specs.Files.{by_kind, place_after}
use Rattle.sheet_files.specs.declared.faults.Cause.{Cause}
use Rattle.sheet_files.specs.declared.faults.Cause.TheVariants as causes
use Rattle.sheet_files.specs.declared.faults.Fault.{Fault}

-- the cause by which a record that was taken, or not, is a fault
abbrev pub next_by : Model → Result Taken Misfit → Result Model Cause
next_by m (Ok t) = by_kind t.kind m t.body
next_by m (Err misfit) = Err (causes.Misfit misfit)

abbrev pub next_at : Model → List ℕ → Result Model Cause
next_at m left = next_by m (take_record (stage_of m) left)

-- the fault that a record at this place has, for its cause
abbrev pub Faulted : Result Model Cause → Place → Fault → Type 0
Faulted told place fault = (told ≡ Err fault.cause) × (fault.place ≡ place)

-- a record was taken and carried out
pub record Carried (m : Model) (before : Reader) (later_m : Model) (later : Reader) : Type 0 where
  pub t : Taken
  pub taken : take_record (stage_of m) (left_of before) ≡ Ok t
  pub done : by_kind t.kind m t.body ≡ Ok later_m
  pub rest : left_of later ≡ t.rest
  pub place : later.place ≡ place_after before.place t

pub record Next (m : Model) (before : Reader) (r : Result (Unit {0}) Cause) (later_m : Model) (later : Reader) : Type 0 where
  pub file : file_of later ≡ file_of before
  pub answer : MatchResult r (λ _. Carried m before later_m later) (λ cause. next_at m (left_of before) ≡ Err cause)

-- ---- the first record

abbrev pub first_by : (Asked → ℕ) → Result Taken Misfit → Result Model Cause
first_by tell (Ok t) = open_by tell t.body
first_by tell (Err misfit) = Err (causes.Misfit misfit)

abbrev pub first_at : (Asked → ℕ) → List ℕ → Result Model Cause
first_at tell left = first_by tell (take_record First left)

pub record Opened (tell : Asked → ℕ) (before : Reader) (m : Model) (later : Reader) : Type 0 where
  pub t : Taken
  pub taken : take_record First (left_of before) ≡ Ok t
  pub done : open_by tell t.body ≡ Ok m
  pub rest : left_of later ≡ t.rest
  pub place : later.place ≡ place_after before.place t
