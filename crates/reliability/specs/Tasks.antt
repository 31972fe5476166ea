-- What the factoring routine is asked: the lanes from one of them on, where the depots are in parts by their labels.
use Rattle.std.specs.Prelude.{ℕ, List, drop}
use Rattle.network.specs.Connected.{connects_from}
use Rattle.network.specs.declared.lanes.Lane.{Lane}
use Rattle.semiring.specs.Semirings.{Ops}
use Rattle.reliability.specs.Totals.{total}
use Rattle.reliability.specs.declared.labels.Labels.{Labels}
use Rattle.reliability.specs.declared.named.Named.{Named}

abbrev pub lanes_in : Named → List Lane
lanes_in named = named.lanes.now

-- the total of the lanes from the i-th on
abbrev pub from_lane : {V : Type 0} → Ops V → Named → ℕ → Labels → ℕ → V
from_lane o named i labels parts = total o named.scale.parts (connects_from labels.each parts) (drop i (lanes_in named))
