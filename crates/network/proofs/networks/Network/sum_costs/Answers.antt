use Rattle.std.proofs.Common.{◌<◌, sym, subst, arith}
use Rattle.network.specs.Networks.{lanes_of}
use Rattle.network.proofs.Sets.{CostSofar, cost_named, cost_unnamed}
use Rattle.network.proofs.networks.Network.sum_costs.Goals as goal
use Rattle.network.proofs.networks.Network.sum_costs.Goals.{then-set-i-eq1, else-set-i-eq1}

pub overflow_add-cost : goal.overflow_add-cost
overflow_add-cost c =
    let network = c.args.self.now in
    let sum = cost_named network.scale.parts network.depots c.args.set _ (lanes_of network) c.deref-lane-items.ensures.value network.fit c.loop-i.i c.loop-i.cost c.loop-i-test.true c.loop-i.invariant c.if-set-i-eq1.true in
    let few : c.loop-i.i < 20 = omega (arith, c.deref-lane-items.ensures.len, network.few) in
    omega (arith, sum.1)

pub loop-i-preserved : goal.loop-i-preserved
loop-i-preserved c =
    let network = c.args.self.now in
    elim c.if-set-i-eq1.branch [
      | then-set-i-eq1 w ↦
          subst (CostSofar c.args.set (lanes_of network) _) (sym w.cost-is)
          (cost_named network.scale.parts network.depots c.args.set _ (lanes_of network) c.deref-lane-items.ensures.value network.fit c.loop-i.i c.loop-i.cost c.loop-i-test.true c.loop-i.invariant w.if-set-i-eq1.true)
      | else-set-i-eq1 w ↦
          subst (CostSofar c.args.set (lanes_of network) _) (sym w.cost-is)
          (cost_unnamed network.scale.parts network.depots c.args.set _ (lanes_of network) c.deref-lane-items.ensures.value network.fit c.loop-i.i c.loop-i.cost c.loop-i-test.true c.loop-i.invariant w.if-set-i-eq1.false)
    ]
