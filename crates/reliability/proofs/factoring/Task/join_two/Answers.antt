use Rattle.std.proofs.Common.{rules, sym, ap, ◌∙◌, ⊎_elim, arith}
use Rattle.std.proofs.lemmas.List.{take_rest}
use Rattle.reliability.proofs.Joining.{join_start, join_back_met, join_back_apart, joined, last_ends}
use Rattle.reliability.proofs.factoring.Task.join_two.Goals as goal

pub loop-lane-init : goal.loop-lane-init
loop-lane-init g c =
    join_start c.args.self.now.filled c.requires.within (search (rules, take_rest)) (search (rules, take_rest)) c.zero-value.ensures

pub meet-requires : goal.meet-requires
meet-requires g c = last_ends c.loop-lane.invariant _ _ c.in-Some.ensures.steps.0 10 c.args.self.now.named.ends

pub loop-lane-preserved-then-meet : goal.loop-lane-preserved-then-meet
loop-lane-preserved-then-meet g c =
    let steps = c.in-Some.ensures.steps in
    join_back_met c.loop-lane.invariant _ _ steps.0 _ _ steps.1
    (c.product-value.ensures ∙ ap (λ v. g.V.Semiring.ops.product v c.loop-lane.value) c.add_weights.ensures)
    (sym c.meet.ensures ∙ c.if-meet.true)

pub loop-lane-preserved : goal.loop-lane-preserved
loop-lane-preserved g c =
    let steps = c.in-Some.ensures.steps in
    join_back_apart c.loop-lane.invariant _ _ steps.0 _ _ steps.1 c.args.self.now.filled c.mix-value.ensures
    (sym c.meet.ensures ∙ c.if-meet.false)

pub returns : goal.returns
returns g c =
    let so = c.loop-lane.invariant in
    joined so (⊎_elim (λ y. y.1.0) (λ y. omega (arith, so.pairs, y.1.0)) c.in-None.ensures.steps)
