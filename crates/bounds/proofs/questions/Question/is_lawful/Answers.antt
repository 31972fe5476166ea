use Rattle.std.proofs.Common.{◌≡◌, ℕ, Bool, ◌&&◌, eqb, leb, Decides, sym, ap, ◌∙◌, subst, ap₂}
use lib.Bits.{bit_and}
use lib.Count.{ones}
use Rattle.bounds.specs.Questions.{Lawful, asked_of}
use Rattle.bounds.specs.Covers.{lawful_tells}
use Rattle.bounds.proofs.questions.Question.is_lawful.Goals as goal

pub returns : goal.returns
returns c =
    let question = c.args.self.now in
    let p = question.picked in
    let u = question.undecided in
    let test = λ (standing most : ℕ). ((eqb (bit_and p u) 0 && eqb (bit_and p standing) p) && eqb (bit_and u standing) u) && leb (ones p) most in
    let most : c.from-most.result ≡ question.network.now.scale.most = c.from-most.ensures ∙ c.most.ensures ∙ ap (λ s. s.most) c.scale.ensures in
    let value = ap₂ test c.standing-standing.ensures most in
    record { value = value; meant = subst (λ (b : Bool). Decides b (Lawful (asked_of question))) (sym value) (lawful_tells (asked_of question)) }
