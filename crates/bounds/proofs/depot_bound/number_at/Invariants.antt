use Rattle.network.specs.Networks.{lanes_of, most_of, parts_of}
use Rattle.bounds.proofs.Failing.{FailSofar}
use Rattle.bounds.proofs.depot_bound.number_at.Given as goal

abbrev pub invariant-loop-i : goal.invariant-loop-i
invariant-loop-i l = FailSofar (parts_of l.network) (most_of l.network) l.depot l.set (lanes_of l.network) l.i l.count l.fail
