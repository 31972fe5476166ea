-- Which lanes a network takes: the checks of one lane in their order, and of a whole list lane by lane.
use Rattle.std.specs.Prelude.{ℕ, suc, Bool, true, cond, not, ◌&&◌, ◌||◌, List, [], ◌∷◌, is_some, Some, None, Option, ◌==◌, nat_le, nat_lt}
use Rattle.network.specs.Answers.{first_of}
use Rattle.network.specs.declared.lanes.Lane.{Lane}
use Rattle.network.specs.declared.lanes.Mark.TheVariants.{Struck}
use Rattle.network.specs.declared.refusals.Refusal.{Refusal}
use Rattle.network.specs.declared.refusals.Refusal.TheVariants.{DepotsOutOfRange, EndsUnfit, ChanceOutOfRange, CostTooHigh, LanesFull}

-- what is read past the end of a list of lanes
abbrev pub no_lane : Lane
no_lane = record { left = 0; right = 0; chance = 0; cost = 0; mark = Struck }

abbrev pub most_lanes : ℕ
most_lanes = 20

-- an end is no depot, or the ends are equal
abbrev pub ends_unfit : ℕ → Lane → Bool
ends_unfit depots l = nat_le depots l.left || (nat_le depots l.right || l.left == l.right)

-- the chance is outside 1 to S
abbrev pub chance_unfit : ℕ → Lane → Bool
chance_unfit S l = l.chance == 0 || nat_lt S l.chance

abbrev pub cost_unfit : Lane → Bool
cost_unfit l = nat_lt 1000000 l.cost

-- the chance, then the cost
abbrev pub price_refusal : ℕ → Lane → Option Refusal
price_refusal S l = cond (chance_unfit S l) (Some ChanceOutOfRange) (cond (cost_unfit l) (Some CostTooHigh) None)

-- the ends, then the price
abbrev pub lane_refusal : ℕ → ℕ → Lane → Option Refusal
lane_refusal S depots l = cond (ends_unfit depots l) (Some EndsUnfit) (price_refusal S l)

-- a lane that is not refused
abbrev pub sound : ℕ → ℕ → Lane → Bool
sound S depots l = not (is_some (lane_refusal S depots l))

abbrev pub all_sound : ℕ → ℕ → List Lane → Bool
all_sound S depots [] = true
all_sound S depots (l ∷ ls) = sound S depots l && all_sound S depots ls

-- one more lane, where the network has `count` of them
abbrev pub offer_refusal : ℕ → ℕ → ℕ → Lane → Option Refusal
offer_refusal S depots count l = first_of (lane_refusal S depots l) (cond (nat_le most_lanes count) (Some LanesFull) None)

-- the first refusal among the lanes of a list, offered in their order
abbrev pub offers_refusal : ℕ → ℕ → ℕ → List Lane → Option Refusal
offers_refusal S depots count [] = None
offers_refusal S depots count (l ∷ ls) = first_of (offer_refusal S depots count l) (offers_refusal S depots (suc count) ls)

abbrev pub depots_refusal : ℕ → Option Refusal
depots_refusal depots = cond (nat_lt depots 2 || nat_lt 10 depots) (Some DepotsOutOfRange) None
