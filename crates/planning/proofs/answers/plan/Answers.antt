use Rattle.std.proofs.Common.{ℕ, ◌^◌, Ok, ap, ◌∙◌, ap₂}
use Rattle.sheet.specs.declared.words.Report.{Report}
use Rattle.planning.specs.Answers.{told_by}
use Rattle.planning.proofs.Granting.{left_as, plan_refused, plan_told}
use Rattle.planning.proofs.answers.plan.Goals as goal

pub returns-in_err-grant : goal.returns-in_err-grant
returns-in_err-grant c =
    left_as _ _ c.from_residual-in_err-grant.ensures.1
    ∙ plan_refused c.args.file.now _ c.in_ok-sheet.ensures.told _ _ c.grant.ensures _ c.in_err-grant.was

pub returns : goal.returns
returns c =
    let full = c.full.ensures ∙ ap (λ s. s.parts ^ s.most) (c.scale.ensures ∙ ap (λ n. n.scale) c.network.ensures) in
    ap Ok c.tell.ensures ∙ ap₂ (λ (f : ℕ) (r : Report). Ok (told_by f r)) full c.report.ensures.told
    ∙ plan_told c.args.file.now _ c.in_ok-sheet.ensures.told _ _ c.grant.ensures c.in_ok-grant.was
