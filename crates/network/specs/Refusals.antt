-- The number of each refusal in the refusal table, and how a refusal prints. Every promise that tells a number tells it by this definition.
use Rattle.std.specs.Prelude.{ℕ, List, ◌++◌, codes}
use Rattle.std.specs.Fmt.{decimal}
use Rattle.network.specs.declared.refusals.Refusal.{Refusal}
use Rattle.network.specs.declared.refusals.Refusal.TheVariants.{ScaleNotAdmitted, SetLimitNotAdmitted, DepotsOutOfRange, EndsUnfit, ChanceOutOfRange, CostTooHigh, LanesFull, NumberNotGiven, MarkedAlready, PlacesOutOfRange, PartsOutOfRange, NoGoal, GrantTooLarge, LaneNotGiven, TooManyLanesNamed, ScratchTooShort}

abbrev pub refusal_number : Refusal → ℕ
refusal_number ScaleNotAdmitted = 1
refusal_number SetLimitNotAdmitted = 2
refusal_number DepotsOutOfRange = 3
refusal_number EndsUnfit = 4
refusal_number ChanceOutOfRange = 5
refusal_number CostTooHigh = 6
refusal_number LanesFull = 7
refusal_number NumberNotGiven = 8
refusal_number MarkedAlready = 9
refusal_number PlacesOutOfRange = 10
refusal_number PartsOutOfRange = 11
refusal_number NoGoal = 12
refusal_number GrantTooLarge = 13
refusal_number LaneNotGiven = 14
refusal_number TooManyLanesNamed = 15
refusal_number ScratchTooShort = 16

-- the bytes that a refusal prints
abbrev pub refusal_text : Refusal → List ℕ
refusal_text refusal = codes "refusal " ++ decimal (refusal_number refusal)
