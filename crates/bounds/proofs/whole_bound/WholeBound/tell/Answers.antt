use Rattle.std.proofs.Common.{ℕ, ◌+◌, ap, ◌∙◌, subst}
use Rattle.std.specs.Result.{result_unwrap_or}
use Rattle.reliability.specs.Questions.{Chance}
use Rattle.bounds.specs.Questions.{asked_of, lawful}
use Rattle.bounds.proofs.Told.{full_of, has_some, whole_told}
use Rattle.bounds.proofs.whole_bound.WholeBound.tell.Goals as goal

pub returns : goal.returns
returns c =
    let q = c.args.question in
    let network = q.network.now in
    let found = has_some (lawful (asked_of q)) c.in-Some.set (q.picked + q.undecided) c.in-Some.ensures in
    c.unwrap_or.ensures
    ∙ ap (λ full. result_unwrap_or c.chance.result full) (c.full-full.ensures ∙ full_of network q.picked q.undecided c.scale.result c.scale.ensures)
    ∙ whole_told network q.picked q.undecided found.0 c.chance.result (subst (λ (s : ℕ). Chance network s c.chance.result) found.1 c.chance.ensures)
