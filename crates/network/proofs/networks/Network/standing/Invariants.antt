use Rattle.network.specs.Networks.{lanes_of}
use Rattle.network.proofs.Sets.{StandingSofar}
use Rattle.network.proofs.networks.Network.standing.Given as goal

abbrev pub invariant-loop-i : goal.invariant-loop-i
invariant-loop-i l = StandingSofar (lanes_of l.self) l.i l.set
