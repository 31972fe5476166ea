-- The run of the example: what the definitions compute it to, and what the statement says of it.
use Rattle.std.proofs.Common.{◌≡◌, min, Some, Option, sym, refl, ap, ◌∙◌, subst, arith}
use lib.Count.{count_leading_zeros, ones}
use Rattle.search.specs.Plans.{Cheapest, FullCount, most_granted}
use Rattle.sheet.specs.Calls.{after, goal_of}
use Rattle.sheet.specs.Models.{Model, plan_in, report_of}
use Rattle.sheet.specs.Runs.{after_run, last_change, sum_of}
use Rattle.sheet.specs.Statement.{OverEveryRun, Searched, Statement}
use Rattle.sheet.specs.declared.words.Call.TheVariants.{Grant}
use Rattle.sheet.specs.declared.words.Plan.{Plan}
use Rattle.sheet.specs.declared.words.Report.{Report}
use Rattle.sheet.specs.declared.words.State.TheVariants.{Found}
use Rattle.sheet_examples.specs.Following.{changes, searched, start, the_run}

-- ---- computed

abbrev plan : Plan
plan = record { set = 3; cost = 9; chance = 8100 }

abbrev expected : Report
expected = record { state = Found; best = Some plan; openings = 13 }

reported : report_of (after_run start the_run) ≡ expected
unfolding count_leading_zeros ones
reported = refl

sum_is : sum_of start the_run ≡ 15
unfolding count_leading_zeros ones
sum_is = refl

last_is : last_change start the_run ≡ after_run start changes
unfolding count_leading_zeros ones
last_is = refl

same_plan : (a b : Plan) → ◌≡◌ {A = Option Plan} (Some a) (Some b) → a ≡ b
same_plan a b is = cc

-- ---- drawn from the statement

module _ (m : Model) (leads : m ≡ after_run start the_run) (r : Report) (told : r ≡ report_of m) (over : OverEveryRun m r) where
  pub report_is : r ≡ expected
  report_is = told ∙ ap report_of leads ∙ reported

  stated : Statement start the_run (after_run start the_run) r
  stated = subst (λ (x : Model). OverEveryRun x r) leads over start refl the_run refl

  here : Searched (after_run start the_run) searched (sum_of start the_run) r
  here = stated.searched (goal_of 1 8) refl

  pub cheapest : Cheapest searched 3
  cheapest =
      let found_set = (here.found_when (ap (λ (x : Report). x.state) report_is)).1 in
      let same = same_plan (plan_in (after_run start the_run).contents found_set.0) plan (sym found_set.1.1 ∙ ap (λ (x : Report). x.best) report_is) in
      subst (Cheapest searched) (ap (λ (x : Plan). x.set) same) found_set.1.0

  pub full : FullCount searched 13
  full =
      let count_is : here.count ≡ 13 = omega (arith, here.openings, ap (λ (x : Report). x.openings) report_is, sum_is) in
      subst (FullCount searched) count_is here.full

  pub as_one : after_run start the_run ≡ after (after_run start changes) (Grant 15)
  as_one = stated.as_one ∙ (λ i. after (last_is i) (Grant (min (sum_is i) most_granted)))
