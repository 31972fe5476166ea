use Rattle.network.specs.Networks.{lanes_of}
use Rattle.network.proofs.Sets.{CostSofar}
use Rattle.network.proofs.networks.Network.sum_costs.Given as goal

abbrev pub invariant-loop-i : goal.invariant-loop-i
invariant-loop-i l = CostSofar l.set (lanes_of l.self) l.i l.cost
