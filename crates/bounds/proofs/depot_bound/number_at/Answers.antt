use Rattle.std.proofs.Common.{◌≡◌, ℕ, ◌-◌, ◌*◌, ◌/◌, ◌%◌, ◌^◌, ◌≤◌, Bool, ◌&&◌, eqb, length, sym, ap, ◌∙◌, subst, ap₂, subst₂, le_trans, arith}
use native.Mathlib.Nat.{pow-le-pow_right}
use Rattle.network.specs.Networks.{lanes_of, most_of, parts_of}
use Rattle.network.specs.Scales.{full_limit}
use Rattle.network.specs.declared.scales.Scale.{Scale}
use Rattle.bounds.proofs.Failing.{FailSofar, fail_fits, fail_one, fail_other}
use Rattle.bounds.proofs.depot_bound.number_at.Goals as goal
use Rattle.bounds.proofs.depot_bound.number_at.Goals.{After-from-most, After-pow, then-set-i, else-set-i}

parts_is : (c : After-from-most) → c.from-parts.result ≡ parts_of c.args.network.now
parts_is c = c.from-parts.ensures ∙ c.parts.ensures ∙ ap (λ s. s.parts) c.scale.ensures

most_is : (c : After-from-most) → c.from-most.result ≡ most_of c.args.network.now
most_is c = c.from-most.ensures ∙ c.most.ensures ∙ ap (λ s. s.most) c.scale-2.ensures

pub loop-i-preserved : goal.loop-i-preserved
loop-i-preserved c =
    let network = c.args.network.now in
    let at = (goal.at.loop-i-preserved c).After-from-most in
    let lanes = lanes_of network in
    let same = c.lanes-lane-items.ensures in
    let inside = c.loop-i-test.true in
    let so = c.loop-i.invariant in
    let named = ap (λ (b : Bool). eqb (c.args.set / 2 ^ c.loop-i.i % 2) 1 && b) c.has_end.ensures in
    elim c.if-set-i.branch [
      | then-set-i w ↦
          subst₂ (FailSofar (parts_of network) (most_of network) c.args.depot c.args.set lanes _) (sym w.count-is) (sym w.fail-is)
          (fail_one (parts_of network) (most_of network) c.args.depot c.args.set network.scale.positive network.scale.rule _ lanes same _ _ _ so inside w.saturating_sub.result _ (w.saturating_sub.ensures ∙ ap₂ ◌-◌ (parts_is at) w.from.ensures) w.saturating_mul-fail.ensures (sym named ∙ w.if-set-i.true))
      | else-set-i w ↦
          subst₂ (FailSofar (parts_of network) (most_of network) c.args.depot c.args.set lanes _) (sym w.count-is) (sym w.fail-is)
          (fail_other (parts_of network) (most_of network) c.args.depot c.args.set network.scale.positive network.scale.rule _ lanes same _ _ _ so inside (sym named ∙ w.if-set-i.false))
    ]

power_is : (c : After-from-most) (count : ℕ) → c.from-parts.result ^ (c.from-most.result - count) ≡ parts_of c.args.network.now ^ (most_of c.args.network.now - count)
power_is c count = ap₂ (λ (b k : ℕ). b ^ (k - count)) (parts_is c) (most_is c)

pub pow-requires : goal.pow-requires
pow-requires c =
    let network = c.args.network.now in
    let low : parts_of network ^ (most_of network - c.loop-i.count) ≤ full_limit = le_trans (pow-le-pow_right network.scale.positive (omega arith)) network.scale.rule in
    omega (arith, power_is (goal.at.pow-requires c).After-from-most c.loop-i.count)

-- what the depot's lanes give, where they are at most K
module _ (c : After-pow) where
  abbrev at : After-from-most
  at = (goal.at.overflow_mul-result c).After-from-most

  past : length (lanes_of c.args.network.now) ≤ c.loop-i.i
  past = subst (λ xs. length xs ≤ c.loop-i.i) c.lanes-lane-items.ensures c.loop-i-test.false

  small : c.loop-i.count ≤ most_of c.args.network.now
  small = subst (λ (k : ℕ). c.loop-i.count ≤ k) (most_is at) c.if-count-most.false

  lost : c.loop-i.fail * c.pow.result ≡ c.loop-i.fail * parts_of c.args.network.now ^ (most_of c.args.network.now - c.loop-i.count)
  lost = ap (λ (n : ℕ). c.loop-i.fail * n) (c.pow.ensures ∙ power_is at c.loop-i.count)

  fits : c.loop-i.fail * c.pow.result ≤ parts_of c.args.network.now ^ most_of c.args.network.now
  fits =
      let network = c.args.network.now in
      omega (arith, lost, fail_fits (parts_of network) (most_of network) c.args.depot c.args.set network.scale.positive (lanes_of network) _ _ _ c.loop-i.invariant past small)

pub overflow_mul-result : goal.overflow_mul-result
overflow_mul-result c = omega (arith, fits c, c.args.network.now.scale.rule)

pub overflow_sub-result : goal.overflow_sub-result
overflow_sub-result c = omega (arith, fits c, c.full-full.ensures ∙ ap (λ (s : Scale). s.parts ^ s.most) c.scale-3.ensures)
