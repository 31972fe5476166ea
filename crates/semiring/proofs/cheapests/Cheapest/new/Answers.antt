use Rattle.std.proofs.Common.{arith}
use Rattle.semiring.specs.ValuesLemmas.{cheapest_same}
use Rattle.semiring.proofs.cheapests.Cheapest.new.Goals as goal

pub returns : goal.returns
returns c = cheapest_same _ _ (omega arith)
