use Rattle.std.proofs.Common.{◌∙◌, arith}
use Rattle.network.specs.Connected.{own_labels}
use Rattle.reliability.specs.Tasks.{lanes_in}
use Rattle.reliability.proofs.Stepping.{none_left}
use Rattle.reliability.proofs.factoring.Task.total.Goals as goal

-- too few lanes for the depots
pub returns-then-parts-self : goal.returns-then-parts-self
returns-then-parts-self g c =
    let named = c.args.self.now.named in
    c.zero.ensures
    ∙ none_left g.V.Semiring.ops g.met.V.Semiring.laws named.scale.parts (lanes_in named) own_labels 0 named.depots (omega arith)
