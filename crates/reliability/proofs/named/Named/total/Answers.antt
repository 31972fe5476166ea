use Rattle.std.proofs.Common.{ℕ, ◌+◌, ◌++◌, length, replicate, ap, ◌∙◌, ap₂, arith}
use Rattle.std.proofs.lemmas.List.{length-take-le}
use Rattle.reliability.specs.Questions.{scratch_places}
use Rattle.reliability.proofs.Filling.{beyond_all}
use Rattle.reliability.proofs.named.Named.total.Goals as goal

pub returns-clause-scratch : goal.returns-clause-scratch
returns-clause-scratch g c =
    let zeros = λ (n : ℕ). replicate n g.V.Semiring.ops.zero in
    ap₂ (λ front back. front ++ back) (c.clear.ensures ∙ ap zeros (length-take-le scratch_places c.fill.new.scratch (omega (arith, c.fill.auto.scratch))))
    (beyond_all (length c.args.self.now.lanes.now + 1) scratch_places _ _ (omega (arith, c.args.self.now.few)) c.fill.ensures.beyond)
