-- Fixed-point shares: whole numbers up to 10^18, where a sum or a product above stands as 10^18.
use Rattle.std.specs.Prelude.{ℕ, ◌+◌, ◌-◌, ◌*◌, min}
use Rattle.std.proofs.Math.Nat.{min-le_right}
use Rattle.network.specs.Scales.{full_limit}
use Rattle.semiring.specs.Semirings.{Ops}
use Rattle.semiring.specs.declared.shares.Share.{Share}

-- the number as a share
abbrev pub share : ℕ → Share
share n = record { parts = min n full_limit; within = min-le_right n full_limit }

-- a lane of chance p runs with p parts of S, and fails with the others
abbrev pub share_ops : Ops Share
share_ops =
    record {
      zero = share 0;
      one = share 1;
      sum = λ a b. share (a.parts + b.parts);
      product = λ a b. share (a.parts * b.parts);
      running = λ S l. share l.chance;
      failing = λ S l. share (S - l.chance);
    }
