-- Sets of lanes: a set is a number in which lane i is worth 2^i. Which lanes it names, what they cost, and which sets are refused.
use Rattle.std.specs.Prelude.{ℕ, ◌+◌, ◌*◌, ◌/◌, ◌%◌, ◌^◌, Bool, true, false, cond, List, [], ◌∷◌, length, Some, None, Option, ◌==◌, count_ones, nat_le, nat_lt}
use Rattle.network.specs.Answers.{first_of}
use Rattle.network.specs.declared.lanes.Lane.{Lane}
use Rattle.network.specs.declared.lanes.Mark.{Mark}
use Rattle.network.specs.declared.lanes.Mark.TheVariants.{Struck, Standing}
use Rattle.network.specs.declared.refusals.Refusal.{Refusal}
use Rattle.network.specs.declared.refusals.Refusal.TheVariants.{LaneNotGiven, TooManyLanesNamed}

-- 1 if the set has lane i, else 0
abbrev pub bit : ℕ → ℕ → ℕ
bit s i = s / 2 ^ i % 2

abbrev pub marked : Mark → Bool
marked Struck = false
marked Standing = true

-- the lane in front of the others, if it is named
abbrev pub kept : Bool → Lane → List Lane → List Lane
kept true l ls = l ∷ ls
kept false l ls = ls

-- the lanes that a set names, in the order of their numbers
abbrev pub chosen : ℕ → List Lane → List Lane
chosen s [] = []
chosen s (l ∷ ls) = kept (s % 2 == 1) l (chosen (s / 2) ls)

abbrev pub total_cost : List Lane → ℕ
total_cost [] = 0
total_cost (l ∷ ls) = l.cost + total_cost ls

abbrev pub set_cost : ℕ → List Lane → ℕ
set_cost s ls = total_cost (chosen s ls)

abbrev pub is_standing : Lane → Bool
is_standing l = marked l.mark

-- the set of all lanes that stand
abbrev pub standing_set : List Lane → ℕ
standing_set [] = 0
standing_set (l ∷ ls) = cond (is_standing l) 1 0 + 2 * standing_set ls

-- the lanes that stand
abbrev pub standing_lanes : List Lane → List Lane
standing_lanes [] = []
standing_lanes (l ∷ ls) = kept (is_standing l) l (standing_lanes ls)

-- a set of m lanes' numbers is below 2^m
abbrev pub given_refusal : List Lane → ℕ → Option Refusal
given_refusal ls s = cond (nat_lt s (2 ^ length ls)) None (Some LaneNotGiven)

-- at most K lanes are named
abbrev pub size_refusal : ℕ → ℕ → Option Refusal
size_refusal K s = cond (nat_le (count_ones s) K) None (Some TooManyLanesNamed)

abbrev pub set_refusal : ℕ → List Lane → ℕ → Option Refusal
set_refusal K ls s = first_of (given_refusal ls s) (size_refusal K s)
