use Rattle.std.proofs.Common.{refl, sym, arith}
use Rattle.std.proofs.lemmas.List.{length-drop}
use Rattle.records.specs.Reading.{left_of}
use Rattle.records.proofs.Taking.{taken_whole}
use Rattle.records.proofs.Steps.{stepped}
use Rattle.records.proofs.readers.Reader.step.Goals as goal

pub invariant_of-self : goal.invariant_of-self
invariant_of-self c =
    let self = c.args.self.now in
    let whole = taken_whole c.args.stage (left_of self) _ (rw c.left.ensures at c.in_ok-frame.ensures) in
    record {
      within = omega (arith, whole.there, whole.long, length-drop self.place.byte self.file.now, self.within);
      counted = omega (arith, self.counted);
    }

pub returns-in-Sheet : goal.returns-in-Sheet
returns-in-Sheet c = stepped c.args.self.now _ c.args.stage _ _ refl refl (rw c.left.ensures at c.in_ok-frame.ensures) (sym c.in-Sheet.is) refl refl

pub returns-in-Lane : goal.returns-in-Lane
returns-in-Lane c = stepped c.args.self.now _ c.args.stage _ _ refl refl (rw c.left.ensures at c.in_ok-frame.ensures) (sym c.in-Lane.is) refl refl

pub returns-in-Goal : goal.returns-in-Goal
returns-in-Goal c = stepped c.args.self.now _ c.args.stage _ _ refl refl (rw c.left.ensures at c.in_ok-frame.ensures) (sym c.in-Goal.is) refl refl
