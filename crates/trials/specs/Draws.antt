-- The number that is drawn after another one.
use Rattle.std.specs.Prelude.{ℕ, ◌+◌, ◌*◌, ◌%◌, ◌^◌}

abbrev pub next_after : ℕ → ℕ
next_after n = (n * 1103515245 + 12345) % 2 ^ 31
