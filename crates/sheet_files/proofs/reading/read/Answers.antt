use Rattle.std.proofs.Common.{◌≡◌, true, false, eqb, length, sym, ◌∙◌, rules}
use Rattle.records.specs.Reading.{left_of}
use Rattle.sheet.specs.Sheets.{model_of}
use Rattle.sheet_files.proofs.Freshness.{file_fresh}
use Rattle.sheet_files.proofs.Progressing.{first_fault, first_read, sofar_end, sofar_fault, sofar_start, sofar_step}
use Rattle.sheet_files.proofs.reading.read.Goals as goal

pub returns-in_err-sheet-clause-told : goal.returns-in_err-sheet-clause-told
returns-in_err-sheet-clause-told g c =
    let told = first_fault (g.B.Bound.tells c.args.bound) c.args.file.now c.new-reader.result c.new-reader.ensures.file c.new-reader.ensures.place _ c.in_err-sheet.ensures.answer.0 c.in_err-sheet.ensures.answer.1 in
    search rules

pub loop-reader-init : goal.loop-reader-init
loop-reader-init g c = sofar_start (model_of g.B.Bound.tells c.in_ok-sheet.sheet) c.read_first.new.reader

pub loop-reader-preserved : goal.loop-reader-preserved
loop-reader-preserved g c =
    let more : eqb (length (left_of c.loop-reader.reader)) 0 ≡ false = sym c.is_at_end.ensures ∙ c.loop-reader-test.true in
    sofar_step (model_of g.B.Bound.tells c.in_ok-sheet.sheet) c.read_first.new.reader (model_of g.B.Bound.tells c.loop-reader.sheet) c.loop-reader.reader c.loop-reader.invariant more (model_of g.B.Bound.tells c.read_next.new.sheet) c.read_next.new.reader c.read_next.ensures.file c.in_ok-read_next.ensures.answer

pub returns-in_err-read_next-clause-told : goal.returns-in_err-read_next-clause-told
returns-in_err-read_next-clause-told g c =
    let more : eqb (length (left_of c.loop-reader.reader)) 0 ≡ false = sym c.is_at_end.ensures ∙ c.loop-reader-test.true in
    let told = first_read (g.B.Bound.tells c.args.bound) c.args.file.now c.new-reader.result c.new-reader.ensures.file c.new-reader.ensures.place (model_of g.B.Bound.tells c.in_ok-sheet.sheet) c.read_first.new.reader c.in_ok-sheet.ensures.answer
    ∙ sofar_fault (model_of g.B.Bound.tells c.in_ok-sheet.sheet) c.read_first.new.reader (model_of g.B.Bound.tells c.loop-reader.sheet) c.loop-reader.reader c.loop-reader.invariant more _ c.in_err-read_next.ensures.answer.0 c.in_err-read_next.ensures.answer.1 in
    search rules

pub returns : goal.returns
returns g c =
    let ended : eqb (length (left_of c.loop-reader.reader)) 0 ≡ true = sym c.is_at_end.ensures ∙ c.loop-reader-test.false in
    let told = first_read (g.B.Bound.tells c.args.bound) c.args.file.now c.new-reader.result c.new-reader.ensures.file c.new-reader.ensures.place (model_of g.B.Bound.tells c.in_ok-sheet.sheet) c.read_first.new.reader c.in_ok-sheet.ensures.answer
    ∙ sofar_end (model_of g.B.Bound.tells c.in_ok-sheet.sheet) c.read_first.new.reader (model_of g.B.Bound.tells c.loop-reader.sheet) c.loop-reader.reader c.loop-reader.invariant ended in
    record { told = told; fresh = file_fresh (g.B.Bound.tells c.args.bound) c.args.file.now (model_of g.B.Bound.tells c.loop-reader.sheet) told }
