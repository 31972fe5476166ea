use Rattle.std.proofs.Common.{◌≡◌, sym, subst}
use Rattle.bounds.proofs.Told.{checked_network}
use Rattle.sheet.specs.Models.{report_of}
use Rattle.sheet.specs.Sheets.{model_of}
use Rattle.sheet.specs.Statement.{Statement}
use Rattle.sheet.specs.declared.words.Report.{Report}
use Rattle.sheet.proofs.Telling.{Known, statement}
use Rattle.sheet.proofs.sheets.Sheet.report.Goals as goal

pub returns : goal.returns
returns g c =
    let self = c.args.self.now in
    let m = model_of g.B.Bound.tells self in
    let r : Report = record { state = self.state; best = c.tell_best.result; openings = c.openings.result } in
    let told : r ≡ report_of m = λ i. record { state = self.stands i; best = c.tell_best.ensures i; openings = c.openings.ensures.told i } in
    let known : Known m = record { means = g.met.B.Bound.meaning self.bound; lawful = λ goal b. checked_network self.network b.picked b.undecided } in
    record {
      told = told;
      stated = λ start is_fresh run leads. subst (Statement start run m) (sym told) (statement start is_fresh run m leads known);
    }
