-- What the console program answers to the bytes of a file.
use Rattle.std.specs.Prelude.{ℕ, ◌^◌, List, Some, None, Ok, Err, Option, Result}
use Rattle.network.specs.declared.refusals.Refusal.{Refusal}
use Rattle.bounds.specs.Numbers.{depot_tells, lesser_tells, whole_tells}
use Rattle.bounds.specs.Questions.{Asked}
use Rattle.search.specs.Plans.{most_granted}
use Rattle.sheet.specs.Calls.{granted, verdict}
use Rattle.sheet.specs.Models.{Model, report_of}
use Rattle.sheet.specs.declared.words.Call.TheVariants.{Grant}
use Rattle.sheet.specs.declared.words.Report.{Report}
use Rattle.sheet_files.specs.Files.{read_file}
use Rattle.sheet_files.specs.declared.faults.Fault.{Fault}
use Rattle.planning.specs.declared.answers.Failure.{Failure}
use Rattle.planning.specs.declared.answers.Failure.TheVariants.{Faulty, Refused}
use Rattle.planning.specs.declared.answers.Planned.{Planned}

-- the lesser of the depot and the whole bound
abbrev pub console_tells : Asked → ℕ
console_tells = lesser_tells depot_tells whole_tells

abbrev pub told_by : ℕ → Report → Planned
told_by full report = record { best = report.best; full = full; openings = report.openings }

abbrev pub full_of : Model → ℕ
full_of m = m.contents.parts ^ m.contents.most

abbrev pub reported : Model → Planned
reported m = told_by (full_of m) (report_of m)

-- one grant of all openings
abbrev pub granted_answer : Option Refusal → Model → Result Planned Failure
granted_answer (Some refusal) m = Err (Refused refusal)
granted_answer None m = Ok (reported (granted m most_granted))

abbrev pub read_answer : Result Model Fault → Result Planned Failure
read_answer (Ok m) = granted_answer (verdict m (Grant most_granted)) m
read_answer (Err fault) = Err (Faulty fault)

abbrev pub answer_to : List ℕ → Result Planned Failure
answer_to file = read_answer (read_file console_tells file)
