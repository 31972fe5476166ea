use Rattle.std.proofs.Common.{◌<◌, length, vec_items, refl, arith}
use Rattle.network.proofs.Changes.{mark_sound}
use Rattle.network.proofs.networks.Network.set_mark.Goals as goal

pub invariant_of-self-2-clause-fit : goal.invariant_of-self-2-clause-fit
invariant_of-self-2-clause-fit c =
    let self = c.args.self.now in
    let within : c.from.result < length (vec_items self.lanes) = omega (arith, c.in-Some.ensures.variant.0 refl, self.lanes.ok.0) in
    mark_sound self.scale.parts self.depots (vec_items self.lanes) c.from.result within self.fit c.in-Some.lane.now c.in-Some.ensures.value _
