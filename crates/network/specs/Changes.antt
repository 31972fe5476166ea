-- How one lane of a list may change: another mark, or another chance and cost; and which of these changes are refused.
use Rattle.std.specs.Prelude.{ℕ, Bool, true, false, cond, List, length, Some, None, Option, nat_lt, slice_index_or, slice_set}
use Rattle.network.specs.Answers.{first_of}
use Rattle.network.specs.Lanes.{no_lane, price_refusal}
use Rattle.network.specs.declared.lanes.Lane.{Lane}
use Rattle.network.specs.declared.lanes.Mark.{Mark}
use Rattle.network.specs.declared.lanes.Mark.TheVariants.{Struck, Standing}
use Rattle.network.specs.declared.refusals.Refusal.{Refusal}
use Rattle.network.specs.declared.refusals.Refusal.TheVariants.{NumberNotGiven, MarkedAlready}

-- lanes are numbered from 0
abbrev pub lane_at : List Lane → ℕ → Lane
lane_at ls i = slice_index_or ls i no_lane

abbrev pub number_refusal : List Lane → ℕ → Option Refusal
number_refusal ls i = cond (nat_lt i (length ls)) None (Some NumberNotGiven)

-- ---- another mark

abbrev pub same_mark : Mark → Mark → Bool
same_mark Struck Struck = true
same_mark Struck Standing = false
same_mark Standing Struck = false
same_mark Standing Standing = true

abbrev pub with_mark : Mark → Lane → Lane
with_mark mark l = record { left = l.left; right = l.right; chance = l.chance; cost = l.cost; mark = mark }

-- the lane was not given, or has that mark already
abbrev pub mark_refusal : List Lane → ℕ → Mark → Option Refusal
mark_refusal ls i mark =
    first_of (number_refusal ls i) (cond (same_mark (lane_at ls i).mark mark) (Some MarkedAlready) None)

abbrev pub marked_at : List Lane → ℕ → Mark → List Lane
marked_at ls i mark = slice_set ls i (with_mark mark (lane_at ls i))

-- ---- another chance and cost

abbrev pub with_price : ℕ → ℕ → Lane → Lane
with_price chance cost l = record { left = l.left; right = l.right; chance = chance; cost = cost; mark = l.mark }

-- the lane was not given, or its price is unfit
abbrev pub reprice_refusal : ℕ → List Lane → ℕ → ℕ → ℕ → Option Refusal
reprice_refusal S ls i chance cost = first_of (number_refusal ls i) (price_refusal S (with_price chance cost (lane_at ls i)))

abbrev pub repriced_at : List Lane → ℕ → ℕ → ℕ → List Lane
repriced_at ls i chance cost = slice_set ls i (with_price chance cost (lane_at ls i))
