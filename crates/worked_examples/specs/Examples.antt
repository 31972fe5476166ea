-- The worked examples: questions with the answers that they must have, all at ten parts and at most four lanes in a set.
use Rattle.std.specs.Prelude.{◌≡◌, ℕ, List, [], ◌∷◌, map, Some, None}
use Rattle.network.specs.Connected.{connects}
use Rattle.network.specs.Sets.{chosen, standing_lanes}
use Rattle.network.specs.declared.lanes.Lane.{Lane}
use Rattle.network.specs.declared.lanes.Mark.{Mark}
use Rattle.network.specs.declared.lanes.Mark.TheVariants.{Struck, Standing}
use Rattle.reliability.specs.Joining.{joining_cost}
use Rattle.reliability.specs.Reliability.{lanes_chance}
use Rattle.bounds.specs.Numbers.{depot_tells}
use Rattle.worked_examples.specs.declared.Answer.{Answer}
use Rattle.worked_examples.specs.declared.Answer.TheVariants.{Chance, JoiningCost, Bound}

abbrev lane : ℕ → ℕ → ℕ → ℕ → Mark → Lane
lane left right chance cost mark = record { left = left; right = right; chance = chance; cost = cost; mark = mark }

-- three depots, where the first two lanes have the mark
abbrev pub three_depots : Mark → List Lane
three_depots mark = lane 0 1 9 4 mark ∷ lane 1 2 9 5 mark ∷ lane 0 2 8 7 Standing ∷ []

-- four depots in a ring
abbrev pub ring : List Lane
ring = lane 0 1 9 1 Standing ∷ lane 1 2 9 1 Standing ∷ lane 2 3 9 1 Standing ∷ lane 3 0 9 1 Standing ∷ []

abbrev pub parts : ℕ
parts = 10

abbrev pub most : ℕ
most = 4

-- what is asked of a network of so many depots and these lanes
pub data Question : Type 0 where
  chance_of : (depots : ℕ) → List Lane → (set : ℕ) → Question
  joining_cost_of : (depots : ℕ) → List Lane → Question
  depot_bound_of : (depots : ℕ) → List Lane → (picked undecided : ℕ) → Question

-- the answer by the definitions
abbrev pub answer : Question → Answer
answer (chance_of depots ls set) = Chance (lanes_chance parts most (connects depots) (chosen set ls))
answer (joining_cost_of depots ls) = JoiningCost (joining_cost parts depots (standing_lanes ls))
answer (depot_bound_of depots ls picked undecided) =
    Bound (depot_tells (record { parts = parts; most = most; depots = depots; lanes = ls; picked = picked; undecided = undecided }))

pub record Example : Type 0 where
  pub question : Question
  pub expected : Answer

abbrev example : Question → Answer → Example
example q a = record { question = q; expected = a }

abbrev pub examples : List Example
examples =
    example (chance_of 3 (three_depots Standing) 0) (Chance 0)
    ∷ example (chance_of 3 (three_depots Standing) 3) (Chance 8100)
    ∷ example (chance_of 3 (three_depots Standing) 7) (Chance 9540)
    ∷ example (chance_of 4 ring 15) (Chance 9477)
    ∷ example (joining_cost_of 3 (three_depots Standing)) (JoiningCost (Some 9))
    ∷ example (joining_cost_of 3 (three_depots Struck)) (JoiningCost None)
    ∷ example (depot_bound_of 4 ring 0 15) (Bound 9900)
    ∷ []

abbrev pub answers : List Answer
answers = map (λ e. answer e.question) examples

abbrev pub expected_answers : List Answer
expected_answers = map (λ e. e.expected) examples

-- every example has the answer that it must have
abbrev pub ExamplesHold : Type 0
ExamplesHold = answers ≡ expected_answers
