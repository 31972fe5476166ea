use Rattle.reliability.proofs.Filling.{FillingBack}
use Rattle.reliability.proofs.named.Named.fill.Given as goal

abbrev pub invariant-loop-i : goal.invariant-loop-i
invariant-loop-i g l =
    let lanes = l.i-iterator.iter in
    FillingBack g.V.Semiring.ops l.self.scale.parts l.self.lanes.now l.initial.scratch lanes.iter.rest.now lanes.count l.rest l.scratch
