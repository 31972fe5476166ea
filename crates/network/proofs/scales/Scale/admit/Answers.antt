use Rattle.std.proofs.Common.{◌≤◌, arith}
use Rattle.network.proofs.Tables.{positive_scale, full_within}
use Rattle.network.proofs.scales.Scale.admit.Goals as goal

-- the row's rule gives the scale's
pub invariant_of-result : goal.invariant_of-result
invariant_of-result c =
    let rule = c.in-Some.ensures.rule in
    let some : 1 ≤ c.args.most = omega arith in
    record { positive = positive_scale _ _ rule; nonempty = some; rule = full_within _ _ _ rule c.if-most-limit.false }
