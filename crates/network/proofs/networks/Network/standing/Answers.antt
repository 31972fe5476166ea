use Rattle.std.proofs.Common.{ℕ, ◌+◌, ◌<◌, length, sym, ap, ◌∙◌, subst, arith}
use Rattle.std.proofs.lemmas.Nat.{one_shl}
use Rattle.network.specs.Networks.{lanes_of}
use Rattle.network.proofs.Sets.{StandingSofar, standing_fits, standing_one, standing_none}
use Rattle.network.proofs.networks.Network.standing.Goals as goal
use Rattle.network.proofs.networks.Network.standing.Goals.{then-stands, else-stands}

pub overflow_add-set : goal.overflow_add-set
overflow_add-set c =
    let network = c.args.self.now in
    let inside : c.loop-i.i < length (lanes_of network) = omega (arith, ap length c.deref-lane-items.ensures.value) in
    let few : c.loop-i.i < 20 = omega (arith, c.deref-lane-items.ensures.len, network.few) in
    let fits = standing_fits (lanes_of network) c.loop-i.i c.loop-i.set c.loop-i.invariant inside few in
    omega arith

pub loop-i-preserved : goal.loop-i-preserved
loop-i-preserved c =
    let network = c.args.self.now in
    let same = c.deref-lane-items.ensures.value in
    let few : c.loop-i.i < 32 = omega (arith, c.deref-lane-items.ensures.len, network.few) in
    elim c.if-stands.branch [
      | then-stands w ↦
          subst (StandingSofar (lanes_of network) _) (ap (λ (n : ℕ). c.loop-i.set + n) (sym (one_shl c.loop-i.i 32 few)) ∙ sym w.set-is)
          (standing_one _ (lanes_of network) same c.loop-i.i c.loop-i.set c.loop-i-test.true c.loop-i.invariant (sym w.if-stands.ensures))
      | else-stands w ↦
          subst (StandingSofar (lanes_of network) _) (sym w.set-is)
          (standing_none _ (lanes_of network) same c.loop-i.i c.loop-i.set c.loop-i-test.true c.loop-i.invariant (sym w.if-stands.ensures))
    ]
