-- What the body of each record of a sheet file says, byte by byte.
use Rattle.std.specs.Prelude.{ℕ, List, take, drop, slice_index}
use Rattle.records.specs.Bytes.{written}

-- byte i of a body
abbrev pub byte : List ℕ → ℕ → ℕ
byte body i = slice_index body i

-- the number in w bytes from byte i on
abbrev pub number : List ℕ → ℕ → ℕ → ℕ
number body i w = written (take w (drop i body))

-- ---- kind 1: depots, K and S

abbrev pub depots_in : List ℕ → ℕ
depots_in body = byte body 0

abbrev pub most_in : List ℕ → ℕ
most_in body = byte body 1

abbrev pub scale_in : List ℕ → ℕ
scale_in body = number body 2 2

-- ---- kind 2: two ends, mark, chance and cost

abbrev pub left_in : List ℕ → ℕ
left_in body = byte body 0

abbrev pub right_in : List ℕ → ℕ
right_in body = byte body 1

abbrev pub mark_in : List ℕ → ℕ
mark_in body = byte body 2

abbrev pub chance_in : List ℕ → ℕ
chance_in body = number body 3 2

abbrev pub cost_in : List ℕ → ℕ
cost_in body = number body 5 4

-- ---- kind 3: r and g

abbrev pub places_in : List ℕ → ℕ
places_in body = byte body 0

abbrev pub parts_in : List ℕ → ℕ
parts_in body = number body 1 8
