use Rattle.std.proofs.Common.{◌≡◌, ◌^◌, ap₂, ◌∙◌, arith}
use Rattle.sheet.proofs.Powers.{power_within}
use Rattle.sheet.proofs.goals.power.Goals as goal

pub pow-requires : goal.pow-requires
pow-requires c =
    let scale = c.args.scale in
    let is : c.from.result ^ c.from-2.result ≡ scale.parts ^ c.args.exponent = ap₂ ◌^◌ (c.from.ensures ∙ c.parts.ensures) c.from-2.ensures in
    omega (arith, is, power_within scale.parts scale.most c.args.exponent scale.positive scale.rule c.requires)
