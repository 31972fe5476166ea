-- All-terminal reliability: the total in plain natural numbers, of a lanes in parts of S^a, and so in parts of the full scale S^K.
use Rattle.std.specs.Prelude.{ℕ, ◌+◌, ◌-◌, ◌*◌, ◌^◌, Bool, List, length}
use Rattle.network.specs.declared.lanes.Lane.{Lane}
use Rattle.semiring.specs.Semirings.{Ops}
use Rattle.reliability.specs.Totals.{total}

-- a lane of chance p runs with p parts of S, and fails with the others
abbrev pub natural_ops : Ops ℕ
natural_ops =
    record {
      zero = 0;
      one = 1;
      sum = ◌+◌;
      product = ◌*◌;
      running = λ S l. l.chance;
      failing = λ S l. S - l.chance;
    }

-- the chance that a list of lanes connects all depots, as the test tells it, in parts of S^K
abbrev pub lanes_chance : ℕ → ℕ → (List Lane → Bool) → List Lane → ℕ
lanes_chance S K test ls = total natural_ops S test ls * S ^ (K - length ls)
