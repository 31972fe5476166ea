-- What the records of a sheet file stand for: the opening, offers, strikes and the goal that would make the same sheet.
use Rattle.std.specs.Prelude.{ℕ, cond, List, length, Some, None, Ok, Err, Option, Result, ◌==◌, nat_lt}
use Rattle.network.specs.Lanes.{most_lanes}
use Rattle.network.specs.declared.refusals.Refusal.{Refusal}
use Rattle.bounds.specs.Questions.{Asked}
use Rattle.sheet.specs.Calls.{after, carried, goal_of, opened, opening_refusal, verdict}
use Rattle.sheet.specs.Models.{Model}
use Rattle.sheet.specs.declared.words.Call.{Call}
use Rattle.sheet.specs.declared.words.Call.TheVariants.{Offer, Strike, StateGoal}
use Rattle.sheet.specs.declared.words.Goal.{Goal}
use Rattle.records.specs.declared.faults.Misfit.TheVariants.{BodyUnfit}
use Rattle.records.specs.declared.kinds.Stage.{Stage}
use Rattle.records.specs.declared.kinds.Stage.TheVariants.{Lanes, Full, Last}
use Rattle.sheet_files.specs.Bodies.{chance_in, cost_in, depots_in, left_in, mark_in, most_in, parts_in, places_in, right_in, scale_in}
use Rattle.sheet_files.specs.declared.faults.Cause.{Cause}
use Rattle.sheet_files.specs.declared.faults.Cause.TheVariants.{Misfit, Refused}

-- a refusal of the sheet is the cause of a fault
abbrev pub as_cause : Option Refusal → Model → Result Model Cause
as_cause None m = Ok m
as_cause (Some refusal) m = Err (Refused refusal)

abbrev pub called : Model → Call → Result Model Cause
called m call = as_cause (verdict m call) (carried m call)

-- ---- kind 1

abbrev pub open_by : (Asked → ℕ) → List ℕ → Result Model Cause
open_by tell body =
    as_cause (opening_refusal (scale_in body) (most_in body) (depots_in body)) (opened (scale_in body) (most_in body) (depots_in body) tell)

-- ---- kind 2

abbrev pub offer_in : List ℕ → Call
offer_in body = Offer (left_in body) (right_in body) (chance_in body) (cost_in body)

-- mark 0 strikes the lane that was just offered, under this number
abbrev pub struck_by : ℕ → ℕ → Model → Model
struck_by mark lane m = cond (mark == 0) (after m (Strike lane)) m

abbrev pub then_struck : ℕ → ℕ → Result Model Cause → Result Model Cause
then_struck mark lane (Ok m) = Ok (struck_by mark lane m)
then_struck mark lane (Err cause) = Err cause

-- the mark is 0 or 1
abbrev pub lane_by : Model → List ℕ → Result Model Cause
lane_by m body =
    cond (nat_lt 1 (mark_in body)) (Err (Misfit BodyUnfit)) (then_struck (mark_in body) (length m.contents.lanes) (called m (offer_in body)))

-- ---- kind 3

abbrev pub goal_by : Model → List ℕ → Result Model Cause
goal_by m body = called m (StateGoal (goal_of (places_in body) (parts_in body)))

-- ---- which kinds may come next

abbrev pub stage_by : Option Goal → ℕ → Stage
stage_by (Some goal) lanes = Last
stage_by None lanes = cond (nat_lt lanes most_lanes) Lanes Full

abbrev pub stage_of : Model → Stage
stage_of m = stage_by m.goal (length m.contents.lanes)
