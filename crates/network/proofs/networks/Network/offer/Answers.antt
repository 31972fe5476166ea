use Rattle.std.proofs.Common.{vec_items, ap, ◌∙◌}
use Rattle.network.specs.Lanes.{all_sound}
use Rattle.network.proofs.Offers.{passed, sound_push}
use Rattle.network.proofs.networks.Network.offer.Goals as goal

pub invariant_of-self-clause-fit : goal.invariant_of-self-clause-fit
invariant_of-self-clause-fit c =
    let network = c.args.self.now in
    ap (all_sound network.scale.parts network.depots) c.push_reserved.ensures.items
    ∙ sound_push network.scale.parts network.depots (vec_items network.lanes) _ network.fit (passed _ tt tt c.in_ok-check.ensures)
