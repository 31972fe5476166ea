use Rattle.std.proofs.Common.{sym, ap, ◌∙◌, subst₂}
use Rattle.std.proofs.lemmas.List.{take_all}
use Rattle.network.specs.Sets.{chosen}
use Rattle.reliability.proofs.Choosing.{ChosenSofar, chosen_one, chosen_none}
use Rattle.reliability.proofs.chosen.Chosen.choose.Goals as goal
use Rattle.reliability.proofs.chosen.Chosen.choose.Goals.{then-set-i-eq1, else-set-i-eq1}

pub loop-i-preserved : goal.loop-i-preserved
loop-i-preserved c =
    let so = c.loop-i.invariant in
    let within = c.loop-i-test.true in
    elim c.if-set-i-eq1.branch [
      | then-set-i-eq1 w ↦ subst₂ (ChosenSofar _ _ _) (sym w.count-is) (sym (ap (λ self. self.table) w.self-is)) (chosen_one _ _ _ _ _ so within w.if-set-i-eq1.true c.requires)
      | else-set-i-eq1 w ↦ subst₂ (ChosenSofar _ _ _) (sym w.count-is) (sym (ap (λ self. self.table) w.self-is)) (chosen_none _ _ _ _ _ so within w.if-set-i-eq1.false)
    ]

pub returns : goal.returns
returns c = c.loop-i.invariant.named ∙ ap (chosen c.args.set) (take_all _ _ c.loop-i-test.false)
