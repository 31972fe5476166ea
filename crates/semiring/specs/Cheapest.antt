-- Costs of which the lesser counts: the sum is the lesser, the product adds, and 4,294,967,295 stands for absent and for all above.
use Rattle.std.specs.Prelude.{ℕ, ◌+◌, min, cond, Some, None, Option, ◌==◌}
use Rattle.std.proofs.Math.Nat.{min-le_right}
use Rattle.semiring.specs.Semirings.{Ops}
use Rattle.semiring.specs.declared.cheapests.Cheapest.{Cheapest}

abbrev pub absent : ℕ
absent = 4294967295

-- the number as a cost
abbrev pub cheapest : ℕ → Cheapest
cheapest n = record { cost = min n absent; within = min-le_right n absent }

-- a cost, unless it is the figure that means absent
abbrev pub present : ℕ → Option ℕ
present cost = cond (cost == absent) None (Some cost)

-- a running lane costs, and a failing one costs nothing
abbrev pub cheapest_ops : Ops Cheapest
cheapest_ops =
    record {
      zero = cheapest absent;
      one = cheapest 0;
      sum = λ a b. cheapest (min a.cost b.cost);
      product = λ a b. cheapest (a.cost + b.cost);
      running = λ S l. cheapest l.cost;
      failing = λ S l. cheapest 0;
    }
