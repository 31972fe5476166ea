use Rattle.reliability.proofs.Choosing.{ChosenSofar}
use Rattle.reliability.proofs.chosen.Chosen.choose.Given as goal

abbrev pub invariant-loop-i : goal.invariant-loop-i
invariant-loop-i l = ChosenSofar l.set l.lanes l.i l.count l.self.table
