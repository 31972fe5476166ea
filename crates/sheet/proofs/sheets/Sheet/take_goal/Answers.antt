use Rattle.std.proofs.Common.{◌≡◌, Some, sym, refl, ap, ◌∙◌, subst}
use Rattle.network.proofs.Offers.{told_value}
use Rattle.search.proofs.Stepping.{few_lanes}
use Rattle.sheet.specs.Goals.{least_chance, target_for}
use Rattle.sheet.specs.Sheets.{contents_of}
use Rattle.sheet.specs.declared.goals.Target.{Target}
use Rattle.sheet.proofs.Changing.{fresh_facts}
use Rattle.sheet.proofs.sheets.Sheet.take_goal.Goals as goal

pub invariant_of-self : goal.invariant_of-self
invariant_of-self g c =
    let network = c.args.self.now.network in
    let found = told_value _ _ _ c.in_ok-find.ensures ∙ ap (λ s. target_for s.parts s.most c.args.goal) c.scale.ensures in
    let reached = subst (λ (t : Target). t.least ≡ least_chance network.scale.parts network.scale.most t.goal) (sym found) refl in
    fresh_facts (contents_of network) (Some c.in_ok-find.field-0) c.begin-self.result c.begin-self.new.seeking (few_lanes network) reached c.begin-self.ensures.progress c.begin-self.ensures.state
