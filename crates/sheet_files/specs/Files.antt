-- A sheet file, read record by record: the sheet that it describes, or the one fault that it has.
use Rattle.std.specs.Prelude.{ℕ, zero, suc, cond, List, length, Ok, Err, Result, ◌==◌}
use Rattle.bounds.specs.Questions.{Asked}
use Rattle.sheet.specs.Models.{Model}
use Rattle.records.specs.Kinds.{body_length}
use Rattle.records.specs.Reading.{place_past, start}
use Rattle.records.specs.Records.{Taken, take_record}
use Rattle.records.specs.declared.faults.Misfit.{Misfit}
use Rattle.records.specs.declared.kinds.Kind.{Kind}
use Rattle.records.specs.declared.kinds.Kind.TheVariants.{Sheet, Lane, Goal, Plan, NoPlan}
use Rattle.records.specs.declared.kinds.Stage.TheVariants.{First}
use Rattle.records.specs.declared.readers.Place.{Place}
use Rattle.sheet_files.specs.Applying.{goal_by, lane_by, open_by, stage_of}
use Rattle.sheet_files.specs.declared.faults.Cause.{Cause}
use Rattle.sheet_files.specs.declared.faults.Cause.TheVariants as causes
use Rattle.sheet_files.specs.declared.faults.Fault.{Fault}

abbrev pub fault : Cause → Place → Fault
fault cause place = record { cause = cause; place = place }

-- what a record after the first does; the other kinds may not stand there
abbrev pub by_kind : Kind → Model → List ℕ → Result Model Cause
by_kind Lane m body = lane_by m body
by_kind Goal m body = goal_by m body
by_kind Sheet m body = Ok m
by_kind Plan m body = Ok m
by_kind NoPlan m body = Ok m

-- the place of the record after one that was taken
abbrev pub place_after : Place → Taken → Place
place_after place t = place_past place (body_length t.kind)

-- the sheet after a record, and how reading goes on with it
abbrev pub go_on : (Model → Result Model Fault) → Place → Result Model Cause → Result Model Fault
go_on on place (Ok m) = on m
go_on on place (Err cause) = Err (fault cause place)

abbrev pub read_taken : (Place → List ℕ → Model → Result Model Fault) → Model → Place → Result Taken Misfit → Result Model Fault
read_taken on m place (Ok t) = go_on (on (place_after place t) t.rest) place (by_kind t.kind m t.body)
read_taken on m place (Err misfit) = Err (fault (causes.Misfit misfit) place)

-- records until none is left; each takes some bytes, so there are at most as many as bytes
abbrev pub read_from : ℕ → Place → List ℕ → Model → Result Model Fault
read_from zero place left m = Ok m
read_from (suc most) place left m =
    cond (length left == 0) (Ok m) (read_taken (read_from most) m place (take_record (stage_of m) left))

abbrev pub read_first : (Asked → ℕ) → Result Taken Misfit → Result Model Fault
read_first tell (Ok t) = go_on (read_from (length t.rest) (place_after start t) t.rest) start (open_by tell t.body)
read_first tell (Err misfit) = Err (fault (causes.Misfit misfit) start)

abbrev pub read_file : (Asked → ℕ) → List ℕ → Result Model Fault
read_file tell file = read_first tell (take_record First file)
