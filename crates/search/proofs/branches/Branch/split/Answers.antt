use Rattle.std.proofs.Common.{ℕ, ◌+◌, ◌-◌, ◌*◌, ◌^◌, ◌%◌, ap, ◌∙◌}
use Rattle.search.specs.declared.branches.Opening.TheVariants.{Split}
use Rattle.search.proofs.Tops.{highest_is, shifted}
use Rattle.search.proofs.branches.Branch.split.Goals as goal

pub returns : goal.returns
returns c =
    let b = c.args.self in
    let log = c.ilog2-lane in
    let top = highest_is b.undecided log.result log.ensures.power_le log.ensures.next_power_gt log.ensures.bound in
    let lane = ap (λ (h : ℕ). 1 * 2 ^ h % 2 ^ 32) top ∙ shifted b.undecided in
    ap (λ (n : ℕ). Split (record { picked = b.picked; undecided = b.undecided - n }) (record { picked = b.picked + n; undecided = b.undecided - n })) lane
