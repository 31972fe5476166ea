use Rattle.std.proofs.Common.{◌≡◌, ◌++◌, drop, replicate}
use Rattle.reliability.proofs.factoring.clear.Given as goal

abbrev pub invariant-loop-place : goal.invariant-loop-place
invariant-loop-place g l = l.places ≡ replicate l.place-index g.V.Semiring.ops.zero ++ drop l.place-index l.initial.places
