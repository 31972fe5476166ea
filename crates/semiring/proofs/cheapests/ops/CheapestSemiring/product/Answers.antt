use Rattle.std.proofs.Common.{◌∙◌, arith}
use Rattle.semiring.specs.ValuesLemmas.{cheapest_same}
use Rattle.semiring.proofs.cheapests.ops.CheapestSemiring.product.Goals as goal

pub returns : goal.returns
returns c = c.new.ensures ∙ cheapest_same _ _ (omega (arith, c.saturating_add.ensures))
