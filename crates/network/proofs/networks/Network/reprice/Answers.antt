use Rattle.std.proofs.Common.{◌<◌, length, vec_items, refl, arith}
use Rattle.network.proofs.Changes.{price_sound}
use Rattle.network.proofs.Offers.{passed}
use Rattle.network.proofs.networks.Network.reprice.Goals as goal

pub invariant_of-self-2-clause-fit : goal.invariant_of-self-2-clause-fit
invariant_of-self-2-clause-fit c =
    let self = c.args.self.now in
    let within : c.from.result < length (vec_items self.lanes) = omega (arith, c.in-Some.ensures.variant.0 refl, self.lanes.ok.0) in
    price_sound self.scale.parts self.depots (vec_items self.lanes) c.from.result within self.fit c.in-Some.old.now c.in-Some.ensures.value _ _ (passed _ tt tt c.in_ok-check_price.ensures)
