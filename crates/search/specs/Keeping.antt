-- What holds of the pending branches at all times: they fit the room reserved for them, and the openings they may take stay within one grant.
use Rattle.std.specs.Prelude.{ℕ, suc, ◌+◌, ◌-◌, ◌^◌, Bool, true, ◌&&◌, List, [], ◌∷◌, length, Some, None, Option, count_ones, nat_le, nat_lt}
use Rattle.search.specs.declared.branches.Branch.{Branch}

-- one more than the most lanes
abbrev pub most_pending : ℕ
most_pending = 21

-- a search of twenty lanes takes no more openings, and one grant makes no more
abbrev pub most_openings : ℕ
most_openings = 2097151

-- the most openings that a branch may take, and that a list of them may
abbrev pub work : Branch → ℕ
work b = 2 ^ suc (count_ones b.undecided) - 1

abbrev pub all_work : List Branch → ℕ
all_work [] = 0
all_work (b ∷ bs) = work b + all_work bs

-- newest first: below each branch there is room for as many more as it has lanes undecided
abbrev pub shallow : List Branch → Bool
shallow [] = true
shallow (b ∷ bs) = nat_le (length bs + 1 + count_ones b.undecided) most_pending && shallow bs

-- the branches are of the first n lanes
abbrev pub all_given : ℕ → List Branch → Bool
all_given n [] = true
all_given n (b ∷ bs) = nat_lt (b.picked + b.undecided) (2 ^ n) && all_given n bs

-- the best set is of the first n lanes, at most K of them
abbrev pub best_fits : ℕ → ℕ → Option ℕ → Bool
best_fits n K None = true
best_fits n K (Some s) = nat_lt s (2 ^ n) && nat_le (count_ones s) K
