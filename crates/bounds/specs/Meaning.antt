-- What a bound means: never below the chance of a set that is still possible.
use Rattle.std.specs.Prelude.{◌≡◌, ℕ, ◌+◌, ◌≤◌, count_ones}
use Rattle.network.specs.Connected.{connects}
use Rattle.network.specs.Sets.{bit, chosen}
use Rattle.reliability.specs.Reliability.{lanes_chance}
use Rattle.bounds.specs.Questions.{Asked, Checked, Lawful, full}

-- at most K lanes, with all picked ones and otherwise only undecided ones
pub record Possible (a : Asked) (s : ℕ) : Type 0 where
  pub has_picked : (i : ℕ) → bit a.picked i ≤ bit s i
  pub within : (i : ℕ) → bit s i ≤ bit a.picked i + bit a.undecided i
  pub few : count_ones s ≤ a.most

-- the chance of a set of the question's lanes
abbrev pub chance_in : Asked → ℕ → ℕ
chance_in a s = lanes_chance a.parts a.most (connects a.depots) (chosen s a.lanes)

-- to a lawful question a number not below the chance of any set that is still possible, to any other the full scale
pub record Meaning (tell : Asked → ℕ) : Type 0 where
  pub covers : (a : Asked) → Checked a → Lawful a → (s : ℕ) → Possible a s → chance_in a s ≤ tell a
  pub otherwise : (a : Asked) → Checked a → (Lawful a → ⊥) → tell a ≡ full a
