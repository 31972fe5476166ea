-- How far a search has come, read off its parts; what holds of them at all times; and over which lanes it may go on.
use Rattle.std.specs.Prelude.{◌≡◌, ◌+◌, ◌≤◌, Bool, true, false, List, [], ◌∷◌, length, reverse, vec_capacity, vec_items}
use Rattle.network.specs.declared.lanes.Lane.{Lane}
use Rattle.search.specs.Keeping.{all_given, all_work, most_openings, most_pending, shallow}
use Rattle.search.specs.Opening.{Progress}
use Rattle.search.specs.declared.branches.Branch.{Branch}
use Rattle.search.specs.declared.searching.Search.TheInside.{Inside}

-- the code keeps the newest branch last
abbrev pub progress_of : Inside → Progress
progress_of parts = record { pending = reverse (vec_items parts.pending); best = parts.best; openings = parts.openings }

-- the branches fit their room, and the openings that they may take stay within one grant
pub record Held (parts : Inside) : Type 0 where
  pub roomy : most_pending ≤ vec_capacity parts.pending
  pub shallow : shallow (progress_of parts).pending ≡ true
  pub counted : parts.openings + all_work (progress_of parts).pending ≤ most_openings

-- the pending branches are of these lanes
abbrev pub Over : List Lane → Progress → Type 0
Over ls progress = all_given (length ls) progress.pending ≡ true

abbrev pub is_ended : List Branch → Bool
is_ended [] = true
is_ended (b ∷ bs) = false
