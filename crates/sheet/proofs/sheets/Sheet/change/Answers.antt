use Rattle.std.proofs.Common.{MutBor, sym, refl, ◌∙◌, subst}
use Rattle.std.specs.Fn.{FnOnceReturnsAtMut, Once}
use Rattle.network.proofs.Offers.{left_with}
use Rattle.sheet.specs.Goals.{goal_in}
use Rattle.sheet.proofs.Changing.{changed_facts, refused_facts, renewed_done, renewed_refused}
use Rattle.sheet.proofs.sheets.Sheet.change.Goals as goal

-- what a call of the step gives
gave : {F T R : Type 0} {f_once : Once F (MutBor T × Unit {0}) (R × (MutBor T × Unit {0}))} {f : F} {r : R} (shown left : MutBor T) → f_once.post f (shown, tt) (r, (left, tt)) → FnOnceReturnsAtMut f_once f shown.now r left.now
gave shown left met = record { shown = shown; shows = refl; left = left; met = met; leaves = refl }

pub invariant_of-self : goal.invariant_of-self
invariant_of-self g c =
    let self = c.args.self.now in
    refused_facts self.network c.step.result c.step.new.arg2 (c.requires.keeps _ _ (gave _ _ c.step.ensures)) self.target self.state self.seeking _ c.in_err-step.was (record { given = self.given; fits = self.fits; reached = self.reached; stands = self.stands })

pub returns-in_err-step-clause-stepped : goal.returns-in_err-step-clause-stepped
returns-in_err-step-clause-stepped g c =
    let self = c.args.self.now in
    subst (λ r. FnOnceReturnsAtMut g.F.FnOnce c.args.step self.network r c.step.new.arg2) (c.in_err-step.was ∙ sym (left_with _ _ c.from_residual.ensures.1)) (gave _ _ c.step.ensures)

pub returns-in_err-step-clause-anew : goal.returns-in_err-step-clause-anew
returns-in_err-step-clause-anew g c =
    let self = c.args.self.now in
    renewed_refused self.network c.step.result c.step.new.arg2 (c.requires.keeps _ _ (gave _ _ c.step.ensures)) (g.B.Bound.tells self.bound) (goal_in self.target) self.seeking _ _ c.in_err-step.was (left_with _ _ c.from_residual.ensures.1)

pub invariant_of-self-2 : goal.invariant_of-self-2
invariant_of-self-2 g c =
    let self = c.args.self.now in
    changed_facts self.network c.step.result c.step.new.arg2 (c.requires.keeps _ _ (gave _ _ c.step.ensures)) self.target c.begin-self.result c.begin-self.new.seeking self.reached c.begin-self.ensures.progress c.begin-self.ensures.state

pub returns-clause-anew : goal.returns-clause-anew
returns-clause-anew g c =
    let self = c.args.self.now in
    renewed_done self.network c.step.result c.step.new.arg2 (c.requires.keeps _ _ (gave _ _ c.step.ensures)) (g.B.Bound.tells self.bound) (goal_in self.target) self.seeking _ c.begin-self.ensures.progress
