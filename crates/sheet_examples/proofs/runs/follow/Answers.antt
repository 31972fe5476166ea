use Rattle.std.proofs.Common.{◌≡◌, ap, ◌∙◌}
use Rattle.network.specs.Answers.{told}
use Rattle.sheet.specs.Calls.{after, goal_of, verdict}
use Rattle.sheet.specs.Models.{Model}
use Rattle.sheet.specs.declared.words.Call.{Call}
use Rattle.sheet.specs.declared.words.Call.TheVariants.{Offer, Strike, StateGoal, Grant}
use Rattle.sheet_examples.proofs.Reaching.{as_one, cheapest, full, report_is}
use Rattle.sheet_examples.proofs.runs.follow.Goals as goal

-- one call more
next : (m later before : Model) (call : Call) → later ≡ after m call → m ≡ before → later ≡ after before call
next m later before call step is = step ∙ ap (λ (x : Model). after x call) is

pub returns : goal.returns
returns c =
    let one = next _ _ _ (Offer 0 1 9 4) c.offer.ensures.model c.in-Ok.ensures.1 in
    let two = next _ _ _ (Offer 1 2 9 5) c.offer-2.ensures.model one in
    let goal = next _ _ _ (StateGoal (goal_of 1 8)) c.state_goal.ensures.model two in
    let three = next _ _ _ (Grant 3) c.grant.ensures.model goal in
    let large = next _ _ _ (Grant 2097152) c.grant-granted.ensures.model three in
    let strike = next _ _ _ (Strike 2) c.strike-struck.ensures.model large in
    let more = next _ _ _ (Grant 2) c.grant-2.ensures.model strike in
    let third = next _ _ _ (Offer 0 2 8 7) c.offer-3.ensures.model more in
    let five = next _ _ _ (Grant 5) c.grant-3.ensures.model third in
    let leads = next _ _ _ (Grant 10) c.grant-4.ensures.model five in
    let is = report_is _ leads _ c.report.ensures.told c.report.ensures.stated in
    record {
      granted = c.grant-granted.ensures.answer ∙ ap (λ (m : Model). told (verdict m (Grant 2097152)) tt) three;
      struck = c.strike-struck.ensures.answer ∙ ap (λ (m : Model). told (verdict m (Strike 2)) tt) large;
      state = ap (λ r. r.state) is;
      best = ap (λ r. r.best) is;
      openings = ap (λ r. r.openings) is;
      cheapest = cheapest _ leads _ c.report.ensures.told c.report.ensures.stated;
      full = full _ leads _ c.report.ensures.told c.report.ensures.stated;
      as_one = as_one _ leads _ c.report.ensures.told c.report.ensures.stated;
    }
