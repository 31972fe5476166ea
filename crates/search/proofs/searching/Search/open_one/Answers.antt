use Rattle.std.proofs.Common.{reverse, length, vec_items, ap, ◌∙◌, subst, arith}
use Rattle.network.specs.Networks.{lanes_of}
use Rattle.search.specs.Deciding.{problem_of}
use Rattle.search.specs.Keeping.{all_given, all_work, shallow}
use Rattle.search.proofs.Stepping.{Kept, few_lanes, keeps_led, newest_two, passed_over, two_fit}
use Rattle.search.proofs.searching.Search.open_one.Goals as goal

pub invariant_of-self-in-Dropped : goal.invariant_of-self-in-Dropped
invariant_of-self-in-Dropped g c =
    let problem = c.args.problem.now in
    let network = problem.network.now in
    let rest = vec_items c.pop.new.self in
    let parts = c.self.inside in
    let led = keeps_led (problem_of g.B.Bound.tells problem) (length (lanes_of network)) (few_lanes network) c.self.inside _ c.self.view_is c.requires c.self.invariant c.in-Some.branch rest c.in-Some.ensures.items c.decide.result c.decide.ensures in
    let kept = subst (Kept (length (lanes_of network))) (passed_over c.decide.result c.in-Dropped.is c.in-Some.branch (reverse rest) parts.best parts.openings) led in
    record { roomy = omega (arith, c.self.invariant.roomy, c.in-Some.ensures.capacity); shallow = kept.low; counted = kept.counted }

pub invariant_of-self-in-Reached : goal.invariant_of-self-in-Reached
invariant_of-self-in-Reached g c =
    let problem = c.args.problem.now in
    let network = problem.network.now in
    let rest = vec_items c.pop.new.self in
    let kept = keeps_led (problem_of g.B.Bound.tells problem) (length (lanes_of network)) (few_lanes network) c.self.inside _ c.self.view_is c.requires c.self.invariant c.in-Some.branch rest c.in-Some.ensures.items _ c.in-Reached.ensures in
    record { roomy = omega (arith, c.self.invariant.roomy, c.in-Some.ensures.capacity); shallow = kept.low; counted = kept.counted }

pub push_reserved-requires-in-Split : goal.push_reserved-requires-in-Split
push_reserved-requires-in-Split g c =
    let problem = c.args.problem.now in
    let network = problem.network.now in
    let rest = vec_items c.pop.new.self in
    let kept = keeps_led (problem_of g.B.Bound.tells problem) (length (lanes_of network)) (few_lanes network) c.self.inside _ c.self.view_is c.requires c.self.invariant c.in-Some.branch rest c.in-Some.ensures.items _ c.in-Split.ensures in
    omega (arith, two_fit rest c.in-Split.without c.in-Split.with_lane kept.low, c.self.invariant.roomy, c.pop.new.self.ok.0, c.push_reserved.ensures.len, c.push_reserved.ensures.capacity, c.in-Some.ensures.capacity)

pub invariant_of-self-in-Split : goal.invariant_of-self-in-Split
invariant_of-self-in-Split g c =
    let problem = c.args.problem.now in
    let network = problem.network.now in
    let rest = vec_items c.pop.new.self in
    let kept = keeps_led (problem_of g.B.Bound.tells problem) (length (lanes_of network)) (few_lanes network) c.self.inside _ c.self.view_is c.requires c.self.invariant c.in-Some.branch rest c.in-Some.ensures.items _ c.in-Split.ensures in
    let two = newest_two _ _ rest c.in-Split.without c.in-Split.with_lane c.push_reserved-in-Split.ensures.items c.push_reserved.ensures.items in
    record {
      roomy = omega (arith, c.self.invariant.roomy, c.in-Some.ensures.capacity, c.push_reserved.ensures.capacity, c.push_reserved-in-Split.ensures.capacity);
      shallow = ap shallow two ∙ kept.low;
      counted = omega (arith, ap all_work two, kept.counted);
    }

pub returns-in-Split-clause-over : goal.returns-in-Split-clause-over
returns-in-Split-clause-over g c =
    let problem = c.args.problem.now in
    let network = problem.network.now in
    let rest = vec_items c.pop.new.self in
    let kept = keeps_led (problem_of g.B.Bound.tells problem) (length (lanes_of network)) (few_lanes network) c.self.inside _ c.self.view_is c.requires c.self.invariant c.in-Some.branch rest c.in-Some.ensures.items _ c.in-Split.ensures in
    ap (all_given (length (lanes_of network))) (newest_two _ _ rest c.in-Split.without c.in-Split.with_lane c.push_reserved-in-Split.ensures.items c.push_reserved.ensures.items) ∙ kept.given
