use Rattle.network.proofs.Offers.{Sofar}
use Rattle.network.proofs.networks.Network.new.Given as goal

abbrev pub invariant-loop-lane : goal.invariant-loop-lane
invariant-loop-lane l = Sofar l.parts l.most l.depots l.lanes l.lane-index l.network
