use Rattle.std.proofs.Common.{Ok, ap, ◌∙◌}
use Rattle.sheet.specs.Sheets.{model_of}
use Rattle.sheet_files.proofs.Nexts.{first_done}
use Rattle.sheet_files.proofs.reading.carry_out_first.Goals as goal

pub returns-clause-answer : goal.returns-clause-answer
returns-clause-answer g c =
    first_done (model_of g.B.Bound.tells) (g.B.Bound.tells c.args.bound) c.args.reader.now c.step.new.self _ c.step.ensures _ (c.in_ok-body.was ∙ ap Ok c.in-Sheet.is) _ c.open_sheet.ensures
