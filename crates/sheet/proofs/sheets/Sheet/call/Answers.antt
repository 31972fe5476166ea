use Rattle.std.proofs.Common.{inl, inr}
use Rattle.sheet.specs.Sheets.{model_of}
use Rattle.sheet.proofs.Working.{ended_call}
use Rattle.sheet.proofs.sheets.Sheet.call.Goals as goal

pub returns-in-Found-Grant : goal.returns-in-Found-Grant
returns-in-Found-Grant g c =
    let self = c.args.self.now in
    ended_call (model_of g.B.Bound.tells self) self.state self.stands (inl c.in-Found-Grant.is-0) c.args.call c.in-Found-Grant.openings c.in-Found-Grant.is-1 c.check_grant.result c.check_grant.ensures

pub returns-in-NoneFound-Grant : goal.returns-in-NoneFound-Grant
returns-in-NoneFound-Grant g c =
    let self = c.args.self.now in
    ended_call (model_of g.B.Bound.tells self) self.state self.stands (inr c.in-NoneFound-Grant.is-0) c.args.call c.in-NoneFound-Grant.openings c.in-NoneFound-Grant.is-1 c.check_grant-in-NoneFound-Grant.result c.check_grant-in-NoneFound-Grant.ensures
