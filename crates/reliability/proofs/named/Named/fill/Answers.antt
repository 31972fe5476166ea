use Rattle.std.proofs.Common.{ℕ, ◌<◌, length, set, sym, ap, ◌∙◌, subst}
use Rattle.std.proofs.lemmas.List.{length-set}
use Rattle.reliability.proofs.Filling.{FillingBack, back_more}
use Rattle.reliability.proofs.named.Named.fill.Goals as goal

pub loop-i-preserved : goal.loop-i-preserved
loop-i-preserved g c =
    let ls = c.args.self.now.lanes.now in
    let start = set c.args.scratch.now (length ls) c.one-rest.result in
    let room : length ls < length start = subst (λ (n : ℕ). length ls < n) (sym (length-set c.args.scratch.now (length ls) c.one-rest.result)) c.requires in
    let step = c.in-Some.ensures.steps in
    let later = c.next.new.self.iter.iter.rest.now in
    subst (λ (count : ℕ). FillingBack g.V.Semiring.ops c.args.self.now.scale.parts ls start later count c.product-rest.result (set c.loop-i.scratch c.in-Some.i c.product-rest.result)) (sym step.0)
    (back_more g.V.Semiring.ops c.args.self.now.scale.parts ls start _ later _ c.loop-i.rest c.loop-i.scratch c.loop-i.invariant room c.in-Some.lane.now step.1.0 c.in-Some.i step.1.1 c.product-rest.result
    (c.product-rest.ensures ∙ ap (λ v. g.V.Semiring.ops.product v c.loop-i.rest) c.add_weights.ensures))
