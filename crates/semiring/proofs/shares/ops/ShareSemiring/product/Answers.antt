use Rattle.semiring.specs.ValuesLemmas.{share_same}
use Rattle.semiring.proofs.shares.ops.ShareSemiring.product.Goals as goal

pub returns : goal.returns
returns c = share_same _ _ c.multiply.ensures
