-- What a grant leaves of a sheet that works, and of one that has ended.
use Rattle.std.proofs.Common.{◌≡◌, ℕ, Bool, true, false, cond, ◌⊎◌, [], length, is_some, Some, None, Ok, Option, Result, sym, refl, ap, ◌∙◌, subst}
use Rattle.network.specs.Answers.{first_of, told}
use Rattle.network.specs.Networks.{depots_of, lanes_of, most_of, parts_of}
use Rattle.network.specs.declared.networks.Network.{Network}
use Rattle.network.specs.declared.refusals.Refusal.{Refusal}
use Rattle.bounds.specs.Questions.{Asked}
use Rattle.search.specs.Keeping.{best_fits}
use Rattle.search.specs.Searching.{Over}
use Rattle.search.specs.Opening.{Problem, Progress, open_many}
use Rattle.search.proofs.Counting.{idle}
use Rattle.search.proofs.Stepping.{few_lanes, fits_many}
use Rattle.sheet.specs.Calls.{Stepped, carried, goal_missing, granted_by, size_refusal, verdict}
use Rattle.sheet.specs.Goals.{goal_in, least_chance, least_for, least_in}
use Rattle.sheet.specs.Models.{Model, problem, searched_state, state_by, state_of}
use Rattle.sheet.specs.Sheets.{contents_of}
use Rattle.sheet.specs.declared.goals.Target.{Target}
use Rattle.sheet.specs.declared.words.Call.{Call}
use Rattle.sheet.specs.declared.words.Call.TheVariants.{Grant}
use Rattle.sheet.specs.declared.words.Goal.{Goal}
use Rattle.sheet.specs.declared.words.State.{State}
use Rattle.sheet.specs.declared.words.State.TheVariants.{Found, NoneFound}
use Rattle.sheet.proofs.Changing.{Facts, accepted_step}
use Rattle.sheet.proofs.States.{ended_goal}

-- with a goal only the size of a grant is checked
grant_verdict : (m : Model) (g : Goal) → m.goal ≡ Some g → (openings : ℕ) → verdict m (Grant openings) ≡ size_refusal openings
grant_verdict m g stated openings = ap (λ (q : Option Goal). first_of (goal_missing q) (size_refusal openings)) stated

-- what the code searches
abbrev searched : Network → ℕ → (Asked → ℕ) → Problem
searched network least tell =
    record {
      parts = parts_of network;
      most = most_of network;
      depots = depots_of network;
      lanes = lanes_of network;
      least = least;
      tell = tell;
    }

module _ (network : Network) (tell : Asked → ℕ) (target : Option Target) (state : State) (x : Progress) (facts : Facts (contents_of network) target state x) (t : Target) (is_target : target ≡ Some t) (openings : ℕ) where
  abbrev goal : Option Goal
  goal = goal_in target

  stated : goal ≡ Some t.goal
  stated = ap goal_in is_target

  least_is : t.least ≡ least_chance (parts_of network) (most_of network) t.goal
  least_is = sym (ap least_in is_target) ∙ facts.reached ∙ ap (least_for (parts_of network) (most_of network)) stated

  -- the code's problem is the sheet's
  same_search : open_many (searched network t.least tell) openings x ≡ open_many (problem (contents_of network) tell t.goal) openings x
  same_search = ap (λ (n : ℕ). open_many (searched network n tell) openings x) least_is

  pub granted_step : (y : Progress) → size_refusal openings ≡ None → y ≡ open_many (searched network t.least tell) openings x → Stepped (record { contents = contents_of network; tell = tell; goal = goal; progress = x }) (Grant openings) (Ok tt) (record { contents = contents_of network; tell = tell; goal = goal; progress = y })
  granted_step y fine is =
      let m : Model = record { contents = contents_of network; tell = tell; goal = goal; progress = x } in
      accepted_step m (Grant openings) _ (grant_verdict m t.goal stated openings ∙ fine)
      (ap (λ (z : Progress). record { contents = contents_of network; tell = tell; goal = goal; progress = z }) (is ∙ same_search) ∙ sym (ap (λ (q : Option Goal). granted_by q m openings) stated))

  pub granted_facts : (later : State) (y : Progress) → Over (lanes_of network) y → y ≡ open_many (searched network t.least tell) openings x → later ≡ searched_state y.pending y.best → Facts (contents_of network) target later y
  granted_facts later y given is stands =
      let p = searched network t.least tell in
      let n = length (lanes_of network) in
      record {
        given = given;
        fits = ap (λ (z : Progress). best_fits n (most_of network) z.best) is ∙ fits_many p n (few_lanes network) openings x facts.given facts.fits;
        reached = facts.reached;
        stands = stands ∙ sym (ap (λ (q : Option Goal). state_by q y) stated);
      }

-- a grant on an ended sheet alters nothing
nothing_pending : (m : Model) (g : Goal) → m.goal ≡ Some g → m.progress.pending ≡ [] → (openings : ℕ) → carried m (Grant openings) ≡ m
nothing_pending m g stated empty openings =
    ap (λ (q : Option Goal). granted_by q m openings) stated
    ∙ ap (λ (x : Progress). record { contents = m.contents; tell = m.tell; goal = m.goal; progress = x }) (idle (problem m.contents m.tell g) openings m.progress empty)

ended_step : (m : Model) (state : State) → state ≡ state_of m → (state ≡ Found) ⊎ (state ≡ NoneFound) → (openings : ℕ) (r : Result (Unit {0}) Refusal) → r ≡ told (size_refusal openings) tt → Stepped m (Grant openings) r m
ended_step m state is ended openings r answer =
    let goal = ended_goal m.goal m.progress state is ended in
    record {
      answer = answer ∙ sym (ap (λ (v : Option Refusal). told v tt) (grant_verdict m goal.0 goal.1.0 openings));
      model = by_verdict (is_some (verdict m (Grant openings))) (nothing_pending m goal.0 goal.1.0 goal.1.1 openings);
    }
  where
    by_verdict : (refused : Bool) → carried m (Grant openings) ≡ m → m ≡ cond refused m (carried m (Grant openings))
    by_verdict true same = refl
    by_verdict false same = sym same

pub ended_call : (m : Model) (state : State) → state ≡ state_of m → (state ≡ Found) ⊎ (state ≡ NoneFound) → (call : Call) (openings : ℕ) → call ≡ Grant openings → (r : Result (Unit {0}) Refusal) → r ≡ told (size_refusal openings) tt → Stepped m call r m
ended_call m state is ended call openings grants r answer = subst (λ (k : Call). Stepped m k r m) (sym grants) (ended_step m state is ended openings r answer)
