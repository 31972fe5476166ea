use Rattle.std.proofs.Common.{◌≡◌, ℕ, ◌+◌, ◌-◌, get_or, drop, sym, ap, ◌∙◌, ap₂, arith}
use Rattle.network.specs.Connected.{connects_from, merged}
use Rattle.network.specs.Lanes.{no_lane}
use Rattle.reliability.specs.Tasks.{lanes_in}
use Rattle.reliability.specs.Totals.{total}
use Rattle.reliability.proofs.Stepping.{ends_at, hopeless_met, hopeless_apart, step_apart, step_met}
use Rattle.reliability.proofs.factoring.Task.+factor.Given as given
use Rattle.reliability.proofs.factoring.Task.+factor.Goals as goal
use Rattle.reliability.proofs.factoring.Task.+factor.Goals.{Joined-parts-eq3, then-parts-eq3, else-parts-eq3}

pub meet-requires : goal.meet-requires
meet-requires g t c = ends_at 10 _ c.args.i c.args.self.now.named.ends (omega arith)

pub merge-merged-requires : goal.merge-merged-requires
merge-merged-requires g t c = ends_at 10 _ c.args.i c.args.self.now.named.ends (omega arith)

-- what follows if the lane runs
runs_told : (g : given.Over) (t : ℕ) (c : Joined-parts-eq3 g t) → c.if-parts-eq3.runs ≡ total g.V.Semiring.ops c.args.self.now.named.scale.parts (connects_from (merged c.args.labels.now.each (get_or (lanes_in c.args.self.now.named) c.args.i no_lane)) (c.args.parts - 1)) (drop (c.args.i + 1) (lanes_in c.args.self.now.named))
runs_told g t c =
    let named = c.args.self.now.named in
    let by = λ (new : _) (parts : ℕ). total g.V.Semiring.ops named.scale.parts (connects_from new parts) (drop (c.args.i + 1) (lanes_in named)) in
    elim c.if-parts-eq3.branch [
      | then-parts-eq3 w ↦ w.runs-is ∙ w.join_two-runs.ensures ∙ ap₂ by c.merge-merged.ensures (omega (arith, w.if-parts-eq3.true))
      | else-parts-eq3 w ↦ w.runs-is ∙ w.factor-runs.ensures ∙ ap (λ new. by new (c.args.parts - 1)) c.merge-merged.ensures
    ]

pub returns-then-hopeless : goal.returns-then-hopeless
returns-then-hopeless g t c =
    let named = c.args.self.now.named in
    c.zero.ensures
    ∙ hopeless_met g.V.Semiring.ops g.met.V.Semiring.laws named.scale.parts (lanes_in named) c.args.labels.now.each c.args.i c.args.parts (omega arith) c.if-hopeless.true
    (sym c.meet.ensures ∙ c.if-meet.true)

pub returns-then-meet : goal.returns-then-meet
returns-then-meet g t c =
    let o = g.V.Semiring.ops in
    let named = c.args.self.now.named in
    c.product.ensures
    ∙ ap (λ v. o.product v c.factor-after.result) c.add_weights.ensures
    ∙ step_met o g.met.V.Semiring.laws named.scale.parts (lanes_in named) c.args.labels.now.each c.args.i c.args.parts (omega arith) c.factor-after.result c.factor-after.ensures
    (sym c.meet.ensures ∙ c.if-meet.true)

pub returns-then-hopeless-2 : goal.returns-then-hopeless-2
returns-then-hopeless-2 g t c =
    let o = g.V.Semiring.ops in
    let named = c.args.self.now.named in
    c.product-then-hopeless-2.ensures
    ∙ ap (λ v. o.product v c.if-parts-eq3.runs) c.running.ensures
    ∙ hopeless_apart o g.met.V.Semiring.laws named.scale.parts (lanes_in named) c.args.labels.now.each c.args.i c.args.parts (omega arith) c.if-hopeless-2.true c.if-parts-eq3.runs
    (runs_told g t (goal.at.returns-then-hopeless-2 g t c).Joined-parts-eq3)
    (sym c.meet.ensures ∙ c.if-meet.false)

pub returns : goal.returns
returns g t c =
    let named = c.args.self.now.named in
    c.mix.ensures
    ∙ step_apart g.V.Semiring.ops g.met.V.Semiring.laws named.scale.parts (lanes_in named) c.args.labels.now.each c.args.i c.args.parts (omega arith) c.if-parts-eq3.runs c.factor-fails.result
    (runs_told g t (goal.at.returns g t c).Joined-parts-eq3) c.factor-fails.ensures
    (sym c.meet.ensures ∙ c.if-meet.false)
