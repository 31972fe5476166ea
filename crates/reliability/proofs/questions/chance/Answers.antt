use Rattle.std.proofs.Common.{◌≡◌, ℕ, ◌-◌, ◌*◌, ◌^◌, None, Ok, sym, ap, ◌∙◌, subst, ap₂, arith}
use lib.Count.{ones}
use Rattle.network.specs.Connected.{connects}
use Rattle.network.specs.Networks.{depots_of, lanes_of, most_of, parts_of}
use Rattle.network.specs.Sets.{given_refusal}
use Rattle.network.proofs.Offers.{passed, told_value}
use Rattle.semiring.specs.Shares.{share_ops}
use Rattle.reliability.specs.Questions.{Chance, question_refusal, set_total}
use Rattle.reliability.specs.Reliability.{natural_ops}
use Rattle.reliability.proofs.Chances.{chance_below, chance_told, power_below, shares_tell}
use Rattle.reliability.proofs.questions.chance.Goals as goal
use Rattle.reliability.proofs.questions.chance.Goals.{After-from-2}

fine : (c : After-from-2) → question_refusal c.args.network.now c.args.set ≡ None
fine c = passed _ tt tt c.in_ok-check_set.ensures

share_is : (c : After-from-2) → c.in_ok-share.share ≡ set_total share_ops (connects (depots_of c.args.network.now)) c.args.network.now c.args.set
share_is c = told_value (given_refusal (lanes_of c.args.network.now) c.args.set) _ _ c.in_ok-share.ensures

-- the power by its scale
power_is : (c : After-from-2) → c.from-2.result ^ (c.from.result - ones c.args.set) ≡ parts_of c.args.network.now ^ (most_of c.args.network.now - ones c.args.set)
power_is c =
    let scale = c.scale-scale.ensures in
    ap₂ (λ (b k : ℕ). b ^ (k - ones c.args.set)) (c.from-2.ensures ∙ c.parts-2.ensures ∙ ap (λ s. s.parts) scale) (c.from.ensures ∙ c.most.ensures ∙ ap (λ s. s.most) scale)

pub pow-requires : goal.pow-requires
pow-requires c =
    let at = (goal.at.pow-requires c).After-from-2 in
    omega (arith, power_is at, power_below c.args.network.now c.args.set (fine at))

pub overflow_mul-result : goal.overflow_mul-result
overflow_mul-result c =
    let at = (goal.at.overflow_mul-result c).After-from-2 in
    let network = c.args.network.now in
    let exact : c.parts.result * c.pow.result ≡ set_total natural_ops (connects (depots_of network)) network c.args.set * parts_of network ^ (most_of network - ones c.args.set) = ap₂ ◌*◌ (c.parts.ensures ∙ ap (λ v. v.parts) (share_is at) ∙ shares_tell network c.args.set (fine at) (connects (depots_of network))) (c.pow.ensures ∙ power_is at) in
    omega (arith, chance_below network c.args.set (fine at) (connects (depots_of network)))

pub returns : goal.returns
returns c =
    let at = (goal.at.returns c).After-from-2 in
    let network = c.args.network.now in
    subst (λ (v : ℕ). Chance network c.args.set (Ok v)) (sym (ap₂ ◌*◌ c.parts.ensures (c.pow.ensures ∙ power_is at)))
    (chance_told network c.args.set (fine at) c.in_ok-share.share (share_is at))
