use Rattle.std.proofs.Common.{◌≡◌, ℕ, List, sym, ap, ◌∙◌, subst, arith}
use Rattle.network.specs.Connected.{EndsWithin, connects}
use Rattle.network.specs.Networks.{lanes_of}
use Rattle.network.specs.Sets.{chosen, given_refusal}
use Rattle.network.specs.declared.lanes.Lane.{Lane}
use Rattle.network.specs.declared.scales.Scale.{Scale}
use Rattle.network.proofs.Offers.{passed}
use Rattle.reliability.specs.Questions.{named}
use Rattle.reliability.specs.Totals.{total}
use Rattle.reliability.proofs.Chances.{ends_named, total_answered}
use Rattle.reliability.proofs.Meaning.{connects_is_told, ends_wider}
use Rattle.reliability.proofs.totals.total.Given as given
use Rattle.reliability.proofs.totals.total.Goals as goal
use Rattle.reliability.proofs.totals.total.Goals.{After-as_slice}

lanes_are : (g : given.Over) (c : After-as_slice g) → c.as_slice.result.now ≡ named c.args.network.now c.args.set
lanes_are g c = c.as_slice.ensures.value ∙ c.choose.ensures ∙ ap (chosen c.args.set) c.lanes.ensures

pub invariant_of-named : goal.invariant_of-named
invariant_of-named g c =
    let network = c.args.network.now in
    let same = lanes_are g (goal.at.invariant_of-named g c).After-as_slice in
    record {
      two = omega (arith, c.depots.ensures, network.two);
      ends = subst (EndsWithin 10) (sym same) (ends_wider _ network.ten (named network c.args.set) (ends_named network c.args.set));
      few = omega (arith, c.as_slice.ensures.fits);
    }

pub returns : goal.returns
returns g c =
    let network = c.args.network.now in
    let o = g.V.Semiring.ops in
    let same = lanes_are g (goal.at.returns g c).After-as_slice in
    let by = λ (scale : Scale) (n : ℕ) (ls : List Lane). total o scale.parts (connects n) ls in
    let value = c.total.ensures.value ∙ (λ i. by (c.scale.ensures i) (c.depots.ensures i) (same i)) in
    record {
      totalled = total_answered network c.args.set o g.met.V.Semiring.laws c.args.scratch.now _ _
          (passed (given_refusal (lanes_of network) c.args.set) tt tt c.in_ok-check_given.ensures) c.if-scratch-lt-SCRATCH_PLACES.false value c.total.ensures.scratch;
      tells = connects_is_told network.depots network.ten;
    }

pub returns-in_err-check_given-clause-tells : goal.returns-in_err-check_given-clause-tells
returns-in_err-check_given-clause-tells g c = connects_is_told c.args.network.now.depots c.args.network.now.ten

pub returns-then-scratch-lt-SCRATCH_PLACES-clause-tells : goal.returns-then-scratch-lt-SCRATCH_PLACES-clause-tells
returns-then-scratch-lt-SCRATCH_PLACES-clause-tells g c = connects_is_told c.args.network.now.depots c.args.network.now.ten
