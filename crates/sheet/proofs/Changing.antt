-- What a change of the lanes leaves of a sheet, and what holds of its parts afterwards.
use Rattle.std.proofs.Common.{◌≡◌, ℕ, ◌≤◌, true, List, length, is_some, Some, None, Ok, Err, Option, Result, sym, refl, ap, ◌∙◌, subst}
use Rattle.std.proofs.lemmas.Bool.{cond-false}
use Rattle.network.specs.Answers.{told}
use Rattle.network.specs.Networks.{lanes_of, most_of, parts_of}
use Rattle.network.specs.declared.lanes.Lane.{Lane}
use Rattle.network.specs.declared.networks.Network.{Network}
use Rattle.network.specs.declared.refusals.Refusal.{Refusal}
use Rattle.bounds.specs.Questions.{Asked}
use Rattle.search.specs.Keeping.{all_given, best_fits}
use Rattle.search.specs.Opening.{Progress}
use Rattle.search.proofs.Stepping.{few_lanes, starts}
use Rattle.sheet.specs.Calls.{Keeps, Stepped, carried, changed, renewed, verdict, with_lanes}
use Rattle.sheet.specs.Goals.{goal_in, least_for, least_in}
use Rattle.sheet.specs.Models.{Contents, Model, fresh, state_by}
use Rattle.sheet.specs.Sheets.{contents_of}
use Rattle.sheet.specs.declared.goals.Target.{Target}
use Rattle.sheet.specs.declared.words.Call.{Call}
use Rattle.sheet.specs.declared.words.Goal.{Goal}
use Rattle.sheet.specs.declared.words.State.{State}

-- ---- one step

pub accepted_step : (m : Model) (call : Call) (later : Model) → verdict m call ≡ None → later ≡ carried m call → Stepped m call (Ok tt) later
accepted_step m call later verdict-is done =
    record {
      answer = sym (ap (λ v. told v tt) verdict-is);
      model = done ∙ sym (cond-false (is_some (verdict m call)) m (carried m call) (ap is_some verdict-is));
    }

-- ---- what holds of a sheet's parts at all times

abbrev pub Facts : Contents → Option Target → State → Progress → Type 0
Facts c target state x =
    record {
      given : all_given (length c.lanes) x.pending ≡ true;
      fits : best_fits (length c.lanes) c.most x.best ≡ true;
      reached : least_in target ≡ least_for c.parts c.most (goal_in target);
      stands : state ≡ state_by (goal_in target) x;
    }

fresh_given : (ls : List Lane) → length ls ≤ 20 → (goal : Option Goal) → all_given (length ls) (fresh ls goal).pending ≡ true
fresh_given ls few None = refl
fresh_given ls few (Some goal) = (starts ls few).given

fresh_fits : (ls : List Lane) (n K : ℕ) (goal : Option Goal) → best_fits n K (fresh ls goal).best ≡ true
fresh_fits ls n K None = refl
fresh_fits ls n K (Some goal) = refl

pub fresh_facts : (c : Contents) (target : Option Target) (state : State) (x : Progress) → length c.lanes ≤ 20 → least_in target ≡ least_for c.parts c.most (goal_in target) → x ≡ fresh c.lanes (goal_in target) → state ≡ state_by (goal_in target) x → Facts c target state x
fresh_facts c target state x few reached progress stands =
    let goal = goal_in target in
    let n = length c.lanes in
    record {
      given = ap (λ (y : Progress). all_given n y.pending) progress ∙ fresh_given c.lanes few goal;
      fits = ap (λ (y : Progress). best_fits n c.most y.best) progress ∙ fresh_fits c.lanes n c.most goal;
      reached = reached;
      stands = stands;
    }

-- ---- a step on the network

module _ (before : Network) (r : Result (Unit {0}) Refusal) (later : Network) (kept : Keeps before r later) where
  contents_kept : (e : Refusal) → r ≡ Err e → contents_of later ≡ contents_of before
  contents_kept e is =
      λ i. record { parts = (kept.scale i).parts; most = (kept.scale i).most; depots = kept.depots i; lanes = kept.lanes e is i }

  contents_changed : contents_of later ≡ with_lanes (contents_of before) (lanes_of later)
  contents_changed =
      λ i. record { parts = (kept.scale i).parts; most = (kept.scale i).most; depots = kept.depots i; lanes = lanes_of later }

  module _ (target : Option Target) where
    pub refused_facts : (state : State) (x : Progress) (e : Refusal) → r ≡ Err e → Facts (contents_of before) target state x → Facts (contents_of later) target state x
    refused_facts state x e is facts = subst (λ (c : Contents). Facts c target state x) (sym (contents_kept e is)) facts

    pub changed_facts : (state : State) (x : Progress) → least_in target ≡ least_for (parts_of before) (most_of before) (goal_in target) → x ≡ fresh (lanes_of later) (goal_in target) → state ≡ state_by (goal_in target) x → Facts (contents_of later) target state x
    changed_facts state x reached progress stands =
        let still : least_in target ≡ least_for (parts_of later) (most_of later) (goal_in target) = reached ∙ sym (ap (λ s. least_for s.parts s.most (goal_in target)) kept.scale) in
        fresh_facts (contents_of later) target state x (few_lanes later) still progress stands

  module _ (tell : Asked → ℕ) (goal : Option Goal) (x : Progress) where
    abbrev was : Model
    was = record { contents = contents_of before; tell = tell; goal = goal; progress = x }

    pub renewed_refused : (answer : Result (Unit {0}) Refusal) (e : Refusal) → r ≡ Err e → answer ≡ Err e → record { contents = contents_of later; tell = tell; goal = goal; progress = x } ≡ renewed answer was later
    renewed_refused answer e is answered =
        ap (λ (c : Contents). record { contents = c; tell = tell; goal = goal; progress = x }) (contents_kept e is) ∙ sym (ap (λ s. renewed s was later) answered)

    pub renewed_done : (y : Progress) → y ≡ fresh (lanes_of later) goal → record { contents = contents_of later; tell = tell; goal = goal; progress = y } ≡ changed was (lanes_of later) goal
    renewed_done y anew = λ i. record { contents = contents_changed i; tell = tell; goal = goal; progress = anew i }
