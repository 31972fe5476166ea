-- The statement over every run, from what is told of a search and from what holds along a run.
use Rattle.std.proofs.Common.{◌≡◌, ℕ, ◌-◌, ◌*◌, ◌^◌, ◌≤◌, min, Bool, ltb, List, length, is_some, Some, None, Option, sym, refl, ap, ◌∙◌, subst, arith}
use Rattle.std.proofs.lemmas.Bool.{cond-false, le-ltb}
use Rattle.network.specs.Sets.{chosen}
use Rattle.network.specs.declared.lanes.Lane.{Lane}
use Rattle.network.proofs.Sets.{sound_chosen}
use Rattle.reliability.specs.Reliability.{lanes_chance, natural_ops}
use Rattle.reliability.specs.Totals.{Tells}
use Rattle.reliability.proofs.Meaning.{sound_ends, total_told}
use Rattle.reliability.proofs.Natural.{natural_laws}
use Rattle.bounds.specs.Meaning.{Meaning}
use Rattle.bounds.specs.Questions.{Asked, Checked}
use Rattle.search.specs.Opening.{Problem, Progress, chance_of, open_many, question}
use Rattle.search.specs.Plans.{Outcome, most_granted}
use Rattle.search.specs.declared.branches.Branch.{Branch}
use Rattle.search.proofs.Outcomes.{outcome}
use Rattle.sheet.specs.Calls.{after, granted, size_refusal}
use Rattle.sheet.specs.Models.{Contents, Model, fresh, problem, report_of, searched_state, state_by, told_plan}
use Rattle.sheet.specs.Runs.{Fresh, after_run, last_change, sum_of}
use Rattle.sheet.specs.Statement.{Searched, Statement}
use Rattle.sheet.specs.declared.words.Call.{Call}
use Rattle.sheet.specs.declared.words.Call.TheVariants.{Grant}
use Rattle.sheet.specs.declared.words.Goal.{Goal}
use Rattle.sheet.proofs.Granting.{Since, far, since_start}
use Rattle.sheet.proofs.States.{found_status, none_status, status_found, status_none}

-- a set's chance does not depend on how connectedness is told
chance_same : (p : Problem) → Checked (question p (record { picked = 0; undecided = 0 })) → (test : List Lane → Bool) → Tells p.depots test → (s : ℕ) → chance_of p s ≡ lanes_chance p.parts p.most test (chosen s p.lanes)
chance_same p known test tells s =
    let ls = chosen s p.lanes in
    let ends = sound_ends p.parts p.depots ls (sound_chosen p.parts p.depots s p.lanes known.fit) in
    ap (λ (n : ℕ). n * p.parts ^ (p.most - length ls)) (total_told p.depots known.ten natural_ops natural_laws p.parts test ls ends tells)

module _ (m : Model) (goal : Goal) (stated : m.goal ≡ Some goal) where
  state_is : (report_of m).state ≡ searched_state m.progress.pending m.progress.best
  state_is = ap (λ (g : Option Goal). state_by g m.progress) stated

  searched : (known : (b : Branch) → Checked (question (problem m.contents m.tell goal) b)) (sum : ℕ) → Outcome (problem m.contents m.tell goal) sum m.progress → Searched m (problem m.contents m.tell goal) sum (report_of m)
  searched known sum told =
      record {
        count = told.count;
        full = told.full;
        bounded = told.bounded;
        found_when = λ is.
            let found_set = found_status m.progress.pending m.progress.best (sym state_is ∙ is) in
            let cheapest = told.found_when found_set.0 found_set.1.1 in
            (cheapest.0, (found_set.0, (cheapest.1, ap (told_plan m.contents) found_set.1.0)));
        found_due = λ past s plan. let found_set = told.found_due past s plan in state_is ∙ status_found m.progress.pending m.progress.best found_set.0 found_set.1;
        none_when = λ is. told.none_when (none_status m.progress.pending m.progress.best (sym state_is ∙ is));
        none_due = λ past no_plan. state_is ∙ status_none m.progress.pending m.progress.best (told.none_due past no_plan);
        openings = told.told;
        chances = λ test tells s standing. chance_same (problem m.contents m.tell goal) (known (record { picked = 0; undecided = 0 })) test tells s;
      }

-- ---- grants as one

-- the bound has its meaning, and the lanes have been checked
pub record Known (m : Model) : Type 0 where
  pub means : Meaning m.tell
  pub lawful : (goal : Goal) (b : Branch) → Checked (question (problem m.contents m.tell goal) b)

granted_one : (c : Contents) (tell : Asked → ℕ) (goal : Option Goal) (x : Progress) (sum : ℕ) → x ≡ fresh c.lanes goal → Known (granted (record { contents = c; tell = tell; goal = goal; progress = x }) sum) → granted (record { contents = c; tell = tell; goal = goal; progress = x }) sum ≡ after (record { contents = c; tell = tell; goal = goal; progress = x }) (Grant (min sum most_granted))
granted_one c tell None x sum is_fresh known = refl
granted_one c tell (Some g) x sum is_fresh known =
    let p = problem c tell g in
    let k = min sum most_granted in
    let within : k ≤ most_granted = omega arith in
    let same : open_many p sum x ≡ open_many p k x = ap (open_many p sum) is_fresh ∙ (outcome p known.means (known.lawful g) sum).as_one ∙ sym (ap (open_many p k) is_fresh) in
    ap (λ (y : Progress). record { contents = c; tell = tell; goal = Some g; progress = y }) same
    ∙ sym (cond-false (is_some (size_refusal k)) _ _ (ap is_some (cond-false (ltb most_granted k) _ _ (le-ltb most_granted k within))))

-- ---- the statement

module _ (start : Model) (is_fresh : Fresh start) (run : List Call) (m : Model) (leads : after_run start run ≡ m) (known : Known m) where
  since : Since (last_change start run) (sum_of start run) m
  since = subst (Since (last_change start run) (sum_of start run)) leads (since_start start is_fresh run)

  told : (goal : Goal) → m.goal ≡ Some goal → Outcome (problem m.contents m.tell goal) (sum_of start run) m.progress
  told goal stated =
      let p = problem m.contents m.tell goal in
      let sum = sum_of start run in
      subst (Outcome p sum) (sym (far (last_change start run) sum m since goal stated)) (outcome p known.means (known.lawful goal) sum)

  one : m ≡ after (last_change start run) (Grant (min (sum_of start run) most_granted))
  one =
      let base = last_change start run in
      subst (λ (x : Model). Known x → x ≡ after base (Grant (min (sum_of start run) most_granted))) (sym since.is)
      (granted_one base.contents base.tell base.goal base.progress (sum_of start run) since.changed)
      known

  pub statement : Statement start run m (report_of m)
  statement = record { searched = λ goal stated. searched m goal stated (known.lawful goal) (sum_of start run) (told goal stated); drafts = λ none. ap (λ goal. state_by goal m.progress) none; as_one = one }
