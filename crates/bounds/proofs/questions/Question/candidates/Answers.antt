use Rattle.std.proofs.Common.{◌≡◌, ℕ, ◌+◌, Bool, true, false, cond, Some, None, refl, ap, ◌∙◌}
use Rattle.std.specs.Bool.{then_some}
use lib.Bits.{bit_or}
use Rattle.bounds.specs.Questions.{asked_of, lawful}
use Rattle.bounds.proofs.Told.{union}
use Rattle.bounds.proofs.questions.Question.candidates.Goals as goal

if_true : (b : Bool) (x y : ℕ) → (b ≡ true → x ≡ y) → then_some b x ≡ cond b (Some y) None
if_true true x y same = ap Some (same refl)
if_true false x y same = refl

pub returns : goal.returns
returns c =
    let q = c.args.self.now in
    c.then_some.ensures
    ∙ ap (λ b. then_some b (bit_or q.picked q.undecided)) c.is_lawful.ensures.value
    ∙ if_true (lawful (asked_of q)) (bit_or q.picked q.undecided) (q.picked + q.undecided) (union q.network.now q.picked q.undecided)
