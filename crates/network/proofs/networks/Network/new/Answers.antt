use Rattle.std.proofs.Common.{◌∙◌}
use Rattle.network.proofs.Offers.{told_left, first_passed, sofar_stopped, sofar_more}
use Rattle.network.proofs.networks.Network.new.Goals as goal

pub loop-lane-preserved : goal.loop-lane-preserved
loop-lane-preserved c =
    sofar_more _ _ _ _ _ _ c.loop-lane.invariant c.loop-lane-test.true _ c.in_ok-offer.ensures

pub returns-in_err-offer : goal.returns-in_err-offer
returns-in_err-offer c =
    told_left _ _ _ _ c.from_residual-in_err-offer.ensures.1
    (first_passed _ _ c.in_ok-scale.ensures.0
    ∙ first_passed _ _ c.in_ok-network.ensures.0
    ∙ sofar_stopped _ _ _ _ _ _ c.loop-lane.invariant c.loop-lane-test.true _ c.in_err-offer.ensures.answer)
