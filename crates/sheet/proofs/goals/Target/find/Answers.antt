use Rattle.std.proofs.Common.{◌≡◌, ℕ, ◌-◌, ◌*◌, ◌^◌, ◌≤◌, ap, ◌∙◌, arith}
use Rattle.sheet.proofs.Powers.{goal_within}
use Rattle.sheet.proofs.goals.Target.find.Goals as goal

pub overflow_mul-least : goal.overflow_mul-least
overflow_mul-least c =
    let scale = c.args.scale in
    let goal = c.args.goal in
    let low : goal.places ≤ scale.most = omega (arith, c.if-goal-most.false, c.most.ensures) in
    let few : goal.parts ≤ scale.parts ^ goal.places = omega (arith, c.if-goal-power.false, c.power.ensures) in
    let is : goal.parts * c.power-2.result ≡ goal.parts * scale.parts ^ (scale.most - goal.places) = ap (λ (n : ℕ). goal.parts * n) (c.power-2.ensures ∙ ap (λ (k : ℕ). scale.parts ^ (k - goal.places)) c.most-2.ensures) in
    omega (arith, is, goal_within scale.parts scale.most goal.places goal.parts scale.rule low few)
