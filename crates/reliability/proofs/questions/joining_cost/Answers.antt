use Rattle.std.proofs.Common.{◌≡◌, ◌≤◌, true, length, sym, ap, ◌∙◌, subst, arith}
use Rattle.network.specs.Answers.{told}
use Rattle.network.specs.Connected.{connects}
use Rattle.network.specs.Lanes.{all_sound}
use Rattle.network.specs.Networks.{depots_of, lanes_of, parts_of}
use Rattle.network.specs.Sets.{given_refusal, standing_lanes, standing_set}
use Rattle.network.proofs.Offers.{told_value}
use Rattle.network.proofs.Sets.{chosen_standing, standing_few, standing_given}
use Rattle.semiring.specs.Cheapest.{cheapest_ops, present}
use Rattle.reliability.specs.Joining.{CheapestJoining, joining_cost}
use Rattle.reliability.specs.Questions.{set_total}
use Rattle.reliability.specs.Totals.{total}
use Rattle.reliability.proofs.Chances.{sound_named}
use Rattle.reliability.proofs.Joined.{joining_meant}
use Rattle.reliability.proofs.questions.joining_cost.Goals as goal

pub unreachable-requires : goal.unreachable-requires
unreachable-requires c =
    let network = c.args.network.now in
    let given = ap (given_refusal (lanes_of network)) c.standing.ensures ∙ standing_given (lanes_of network) in
    c.in_default.not-Ok _ (c.total_of_set.ensures ∙ ap (λ v. told v (set_total cheapest_ops (connects (depots_of network)) network c.standing.result)) given)

pub returns : goal.returns
returns c =
    let network = c.args.network.now in
    let S = parts_of network in
    let n = depots_of network in
    let ls = lanes_of network in
    let o = cheapest_ops in
    let same = told_value (given_refusal ls c.standing.result) _ (set_total o (connects n) network c.standing.result) c.in-Ok.ensures in
    let at_standing = ap (λ s. set_total o (connects n) network s) c.standing.ensures ∙ ap (total o S (connects n)) (chosen_standing ls) in
    let value : c.present.result ≡ joining_cost S n (standing_lanes ls) = c.present.ensures ∙ ap (λ v. present v.cost) (same ∙ at_standing) in
    let fit = subst (λ ks. all_sound S n ks ≡ true) (chosen_standing ls) (sound_named network (standing_set ls)) in
    let small : length (standing_lanes ls) ≤ 20 = omega (arith, standing_few ls, network.lanes.ok.0, network.few) in
    record { value = value; meant = subst (CheapestJoining n (standing_lanes ls)) (sym value) (joining_meant S n network.ten (standing_lanes ls) fit small) }
