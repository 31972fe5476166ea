use Rattle.reliability.proofs.Joining.{JoiningBack}
use Rattle.reliability.proofs.factoring.Task.join_two.Given as goal

abbrev pub invariant-loop-lane : goal.invariant-loop-lane
invariant-loop-lane g l =
    let named = l.self.named in
    let zip = l.lane-iterator in
    JoiningBack g.V.Semiring.ops g.met.V.Semiring.laws named.scale.parts named.lanes.now l.labels.each l.self.rest.now l.i zip.a.iter.rest.now zip.b.iter.rest.now l.value
