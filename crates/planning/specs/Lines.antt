-- The bytes of the one line that an answer prints, without its line feed.
use Rattle.std.specs.Prelude.{ℕ, List, ◌++◌, Some, None, Option, codes}
use Rattle.std.specs.Fmt.{decimal}
use Rattle.network.specs.Refusals.{refusal_text}
use Rattle.sheet.specs.declared.words.Plan.{Plan}
use Rattle.sheet_files.specs.Faults.{fault_text}
use Rattle.planning.specs.declared.answers.Failure.{Failure}
use Rattle.planning.specs.declared.answers.Failure.TheVariants.{Faulty, Refused}
use Rattle.planning.specs.declared.answers.Planned.{Planned}

abbrev best_line : ℕ → ℕ → Option Plan → List ℕ
best_line full openings (Some plan) =
    codes "found set " ++ decimal plan.set ++ codes " cost " ++ decimal plan.cost ++ codes " chance " ++ decimal plan.chance ++ codes " of " ++ decimal full ++ codes " openings " ++ decimal openings
best_line full openings None = codes "none openings " ++ decimal openings

abbrev pub planned_line : Planned → List ℕ
planned_line planned = best_line planned.full planned.openings planned.best

abbrev pub failure_line : Failure → List ℕ
failure_line (Faulty fault) = fault_text fault
failure_line (Refused refusal) = refusal_text refusal
