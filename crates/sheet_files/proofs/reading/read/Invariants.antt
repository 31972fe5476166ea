use Rattle.std.proofs.Common.{length}
use Rattle.records.specs.Reading.{left_of}
use Rattle.sheet.specs.Sheets.{model_of}
use Rattle.sheet_files.proofs.Progressing.{Sofar}
use Rattle.sheet_files.proofs.reading.read.Given as goal

abbrev pub invariant-loop-reader : goal.invariant-loop-reader
invariant-loop-reader g l =
    Sofar (model_of g.B.Bound.tells l.initial.sheet) l.initial.reader (model_of g.B.Bound.tells l.sheet) l.reader

abbrev pub decreases-loop-reader : goal.decreases-loop-reader
decreases-loop-reader g l = length (left_of l.reader)
