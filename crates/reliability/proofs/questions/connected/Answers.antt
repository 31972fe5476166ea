use Rattle.std.proofs.Common.{Bool, Ok, Decides, sym, ap, ◌∙◌, subst}
use Rattle.network.specs.Answers.{told}
use Rattle.network.specs.Connected.{Connected, connects}
use Rattle.network.specs.Networks.{depots_of, lanes_of, parts_of}
use Rattle.network.specs.Sets.{given_refusal}
use Rattle.network.proofs.Offers.{passed, told_value}
use Rattle.semiring.specs.YesNo.{yes_no_ops}
use Rattle.reliability.specs.Questions.{named, question_refusal, set_total}
use Rattle.reliability.proofs.Chances.{ends_named}
use Rattle.reliability.proofs.Meaning.{yes_connected}
use Rattle.reliability.proofs.questions.connected.Goals as goal

pub returns : goal.returns
returns c =
    let network = c.args.network.now in
    let s = c.args.set in
    let fine = passed (question_refusal network s) tt tt c.in_ok-check_set.ensures in
    let is = ap (λ v. v.yes) (told_value (given_refusal (lanes_of network) s) _ (set_total yes_no_ops (connects (depots_of network)) network s) c.in_ok-joined.ensures) in
    record {
      answer = ap Ok is ∙ sym (ap (λ v. told v (set_total yes_no_ops (connects (depots_of network)) network s).yes) fine);
      meant = subst (λ (b : Bool). Decides b (Connected (depots_of network) (named network s))) (sym is) (yes_connected (parts_of network) (depots_of network) network.ten (named network s) (ends_named network s));
    }
