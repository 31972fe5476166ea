use Rattle.semiring.specs.ValuesLemmas.{share_same}
use Rattle.semiring.proofs.shares.Share.new.Goals as goal

pub returns : goal.returns
returns c = share_same _ _ c.min.ensures
