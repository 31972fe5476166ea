-- The calls that change a sheet: which are refused, and the sheet after each. Every call's promise is one step of this relation.
use Rattle.std.specs.Prelude.{◌≡◌, ℕ, cond, List, [], ◌∷◌, ◌++◌, length, is_some, Some, None, Ok, Err, Option, Result, nat_lt}
use Rattle.network.specs.Answers.{first_of, told}
use Rattle.network.specs.Changes.{mark_refusal, marked_at, reprice_refusal, repriced_at}
use Rattle.network.specs.Lanes.{depots_refusal, offer_refusal}
use Rattle.network.specs.Networks.{depots_of, lanes_of}
use Rattle.network.specs.Scales.{scale_refusal}
use Rattle.network.specs.declared.lanes.Lane.{Lane}
use Rattle.network.specs.declared.lanes.Mark.{Mark}
use Rattle.network.specs.declared.lanes.Mark.TheVariants.{Struck, Standing}
use Rattle.network.specs.declared.networks.Network.{Network}
use Rattle.network.specs.declared.refusals.Refusal.{Refusal}
use Rattle.network.specs.declared.refusals.Refusal.TheVariants.{GrantTooLarge, NoGoal}
use Rattle.bounds.specs.Questions.{Asked}
use Rattle.search.specs.Opening.{none_started, open_many}
use Rattle.search.specs.Plans.{most_granted}
use Rattle.sheet.specs.Goals.{goal_refusal}
use Rattle.sheet.specs.Models.{Contents, Model, fresh, problem}
use Rattle.sheet.specs.declared.words.Call.{Call}
use Rattle.sheet.specs.declared.words.Call.TheVariants.{Offer, Strike, Restore, Reprice, StateGoal, Grant}
use Rattle.sheet.specs.declared.words.Goal.{Goal}

-- ---- opening

abbrev pub opening_refusal : ℕ → ℕ → ℕ → Option Refusal
opening_refusal S K depots = first_of (scale_refusal S K) (depots_refusal depots)

-- no lanes, no goal
abbrev pub opened : ℕ → ℕ → ℕ → (Asked → ℕ) → Model
opened S K depots tell =
    record {
      contents = record { parts = S; most = K; depots = depots; lanes = [] };
      tell = tell;
      goal = None;
      progress = none_started;
    }

-- ---- refusals

-- an offered lane stands
abbrev pub offered : ℕ → ℕ → ℕ → ℕ → Lane
offered left right chance cost = record { left = left; right = right; chance = chance; cost = cost; mark = Standing }

abbrev pub goal_of : ℕ → ℕ → Goal
goal_of places parts = record { places = places; parts = parts }

abbrev pub goal_missing : Option Goal → Option Refusal
goal_missing None = Some NoGoal
goal_missing (Some goal) = None

abbrev pub size_refusal : ℕ → Option Refusal
size_refusal openings = cond (nat_lt most_granted openings) (Some GrantTooLarge) None

abbrev pub verdict : Model → Call → Option Refusal
verdict m (Offer left right chance cost) =
    offer_refusal m.contents.parts m.contents.depots (length m.contents.lanes) (offered left right chance cost)
verdict m (Strike lane) = mark_refusal m.contents.lanes lane Struck
verdict m (Restore lane) = mark_refusal m.contents.lanes lane Standing
verdict m (Reprice lane chance cost) = reprice_refusal m.contents.parts m.contents.lanes lane chance cost
verdict m (StateGoal goal) = goal_refusal m.contents.parts m.contents.most goal
verdict m (Grant openings) = first_of (goal_missing m.goal) (size_refusal openings)

-- ---- what an accepted call does

abbrev pub with_lanes : Contents → List Lane → Contents
with_lanes c ls = record { parts = c.parts; most = c.most; depots = c.depots; lanes = ls }

-- a change: these lanes and this goal from now on, and the search anew
abbrev pub changed : Model → List Lane → Option Goal → Model
changed m ls goal = record { contents = with_lanes m.contents ls; tell = m.tell; goal = goal; progress = fresh ls goal }

-- a step on the network keeps its scale and depots, and one that is refused its lanes too
pub record Keeps (before : Network) (r : Result (Unit {0}) Refusal) (later : Network) : Type 0 where
  pub scale : later.scale ≡ before.scale
  pub depots : depots_of later ≡ depots_of before
  pub lanes : (refusal : Refusal) → r ≡ Err refusal → lanes_of later ≡ lanes_of before

-- the sheet after such a step: a change to the network's lanes, unless it was refused
abbrev pub renewed : Result (Unit {0}) Refusal → Model → Network → Model
renewed (Ok done) m network = changed m (lanes_of network) m.goal
renewed (Err refusal) m network = m

-- a grant makes openings until so many are made or none is pending
abbrev pub granted_by : Option Goal → Model → ℕ → Model
granted_by None m openings = m
granted_by (Some goal) m openings =
    record {
      contents = m.contents;
      tell = m.tell;
      goal = m.goal;
      progress = open_many (problem m.contents m.tell goal) openings m.progress;
    }

abbrev pub granted : Model → ℕ → Model
granted m openings = granted_by m.goal m openings

abbrev pub carried : Model → Call → Model
carried m (Offer left right chance cost) = changed m (m.contents.lanes ++ (offered left right chance cost ∷ [])) m.goal
carried m (Strike lane) = changed m (marked_at m.contents.lanes lane Struck) m.goal
carried m (Restore lane) = changed m (marked_at m.contents.lanes lane Standing) m.goal
carried m (Reprice lane chance cost) = changed m (repriced_at m.contents.lanes lane chance cost) m.goal
carried m (StateGoal goal) = changed m m.contents.lanes (Some goal)
carried m (Grant openings) = granted m openings

-- striking and restoring are the calls that set a mark
abbrev pub mark_call : Mark → ℕ → Call
mark_call Struck lane = Strike lane
mark_call Standing lane = Restore lane

-- a refused call leaves the sheet in all its parts as it was
abbrev pub after : Model → Call → Model
after m call = cond (is_some (verdict m call)) m (carried m call)

-- what each call promises: its answer, and the sheet after it
pub record Stepped (before : Model) (call : Call) (r : Result (Unit {0}) Refusal) (later : Model) : Type 0 where
  pub answer : r ≡ told (verdict before call) tt
  pub model : later ≡ after before call
