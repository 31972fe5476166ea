use Rattle.std.proofs.Common.{Ok, ap, ◌∙◌}
use Rattle.sheet.specs.Sheets.{model_of}
use Rattle.sheet_files.proofs.Nexts.{next_done}
use Rattle.sheet_files.proofs.reading.carry_out_next.Goals as goal

pub returns-in-Lane : goal.returns-in-Lane
returns-in-Lane g c =
    next_done (model_of g.B.Bound.tells c.args.sheet.now) c.args.reader.now _ _ c.find_stage-stage.ensures _ c.step.ensures _ (c.in_ok-body.was ∙ ap Ok c.in-Lane.is) _ _ c.add_lane.ensures

pub returns-in-Goal : goal.returns-in-Goal
returns-in-Goal g c =
    next_done (model_of g.B.Bound.tells c.args.sheet.now) c.args.reader.now _ _ c.find_stage-stage.ensures _ c.step.ensures _ (c.in_ok-body.was ∙ ap Ok c.in-Goal.is) _ _ c.state_goal.ensures
