use Rattle.std.proofs.Common.{◌≡◌, ◌≤◌, length}
use Rattle.lane_planner.proofs.main.Given as goal

-- the places filled so far are within the buffer
abbrev pub invariant-loop : goal.invariant-loop
invariant-loop l = (l.filled ≤ 512) × (length l.buffer ≡ 512)
