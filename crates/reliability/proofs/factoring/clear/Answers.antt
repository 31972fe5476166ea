use Rattle.std.proofs.Common.{set, ◌∙◌, ap₂}
use Rattle.reliability.proofs.Filling.{clear_more}
use Rattle.reliability.proofs.factoring.clear.Goals as goal

pub loop-place-preserved : goal.loop-place-preserved
loop-place-preserved g c =
    let k = c.loop-place.place-index in
    ap₂ (λ places v. set places k v) c.loop-place.invariant c.zero.ensures ∙ clear_more k _ c.args.places.now c.loop-place-test.true
