-- The number that each of the four bounds tells.
use Rattle.std.specs.Prelude.{ℕ, min, cond, length, nat_le}
use Rattle.network.specs.Connected.{connects}
use Rattle.reliability.specs.Reliability.{lanes_chance}
use Rattle.bounds.specs.Depots.{least_depot}
use Rattle.bounds.specs.Questions.{Asked, candidates, full, if_lawful}

-- always the full scale
abbrev pub plain_tells : Asked → ℕ
plain_tells a = full a

-- the least of what the depots give, by their picked or undecided lanes
abbrev pub depot_tells : Asked → ℕ
depot_tells a = if_lawful a (least_depot a.parts a.most a.depots (candidates a))

-- the chance of picked and undecided lanes together, if they are at most K
abbrev pub whole_tells : Asked → ℕ
whole_tells a =
    if_lawful a (cond (nat_le (length (candidates a)) a.most) (lanes_chance a.parts a.most (connects a.depots) (candidates a)) (full a))

-- the smaller of two numbers told
abbrev pub lesser_tells : (Asked → ℕ) → (Asked → ℕ) → Asked → ℕ
lesser_tells first second a = min (first a) (second a)
