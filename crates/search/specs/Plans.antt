-- What a search is for: the cheapest standing set that reaches the goal, ties to the lower set number; and how many openings it takes.
use Rattle.std.specs.Prelude.{◌≡◌, ℕ, suc, ◌-◌, ◌^◌, ◌<◌, ◌≤◌, min, true, ◌⊎◌, List, [], ◌∷◌, length, Some, None, Option, MatchOption, ◌≢◌, count_ones}
use Rattle.network.specs.Sets.{bit, standing_lanes, standing_set}
use Rattle.search.specs.declared.branches.Branch.{Branch}
use Rattle.search.specs.Keeping.{most_openings}
use Rattle.search.specs.Opening.{Problem, Progress, cost_of, open_many, reaches, start}

-- at most K lanes, all standing
pub record StandingSet (p : Problem) (s : ℕ) : Type 0 where
  pub stand : (i : ℕ) → bit s i ≤ bit (standing_set p.lanes) i
  pub few : count_ones s ≤ p.most

-- a standing set that reaches the goal
pub record Plan (p : Problem) (s : ℕ) : Type 0 where
  pub standing : StandingSet p s
  pub reached : reaches p s ≡ true

-- one set is before another: it costs less, or as much with a lower set number
abbrev pub Before : Problem → ℕ → ℕ → Type 0
Before p s t = (cost_of p s < cost_of p t) ⊎ ((cost_of p s ≡ cost_of p t) × (s < t))

-- the set is the cheapest plan: every other is after it
pub record Cheapest (p : Problem) (s : ℕ) : Type 0 where
  pub plan : Plan p s
  pub first : (t : ℕ) → Plan p t → (t ≢ s) → Before p s t

-- the answer of a search that has ended
abbrev pub Answers : Problem → Option ℕ → Type 0
Answers p best = MatchOption best ((s : ℕ) → Plan p s → ⊥) (Cheapest p)

-- so many openings are made until none is pending
pub record FullCount (p : Problem) (n : ℕ) : Type 0 where
  pub none_pending : (open_many p n (start p)).pending ≡ []
  pub all_made : (open_many p n (start p)).openings ≡ n

-- how a search stands
pub data Status : Type 0 where
  working : Status
  found : ℕ → Status
  none_found : Status

abbrev pub ended_status : Option ℕ → Status
ended_status None = none_found
ended_status (Some s) = found s

abbrev pub status_from : List Branch → Option ℕ → Status
status_from [] best = ended_status best
status_from (b ∷ bs) best = working

abbrev pub status_of : Progress → Status
status_of x = status_from x.pending x.best

-- the most openings that one grant may make
abbrev pub most_granted : ℕ
most_granted = most_openings

-- What is told of a search that was granted w openings since its start, of which the full count is how many the rule makes.
pub record Outcome (p : Problem) (w : ℕ) (x : Progress) : Type 0 where
  pub count : ℕ
  pub full : FullCount p count
  pub bounded : count ≤ 2 ^ suc (length (standing_lanes p.lanes)) - 1
  -- found and none are told exactly when the search has ended and some standing set reaches the goal, or none does
  pub found_when : (s : ℕ) → status_of x ≡ found s → (count ≤ w) × Cheapest p s
  pub found_due : count ≤ w → (s : ℕ) → Plan p s → (t : ℕ) × (status_of x ≡ found t)
  pub none_when : status_of x ≡ none_found → (count ≤ w) × ((s : ℕ) → Plan p s → ⊥)
  pub none_due : count ≤ w → ((s : ℕ) → Plan p s → ⊥) → status_of x ≡ none_found
  -- as after one grant of all openings, or of the most that may be granted
  pub as_one : x ≡ open_many p (min w most_granted) (start p)
  pub told : x.openings ≡ min w count
