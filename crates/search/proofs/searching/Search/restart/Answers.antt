use Rattle.std.proofs.Common.{◌≡◌, ℕ, [], ◌∷◌, reverse, vec_items, ap, ◌∙◌, arith}
use Rattle.network.specs.Networks.{lanes_of}
use Rattle.search.specs.Keeping.{all_work, shallow}
use Rattle.search.specs.Opening.{Progress, start_over}
use Rattle.search.proofs.Stepping.{few_lanes, newest_alone, nothing_kept, starts}
use Rattle.search.proofs.searching.Search.restart.Goals as goal

pub invariant_of-self : goal.invariant_of-self
invariant_of-self c =
    let network = c.args.network.now in
    let parts = c.self.inside in
    let pending = c.push_reserved.new.self in
    let cleared = c.self.view_is ∙ c.clear.ensures in
    let none_there : vec_items parts.pending ≡ [] = nothing_kept _ (ap (λ (x : Progress). x.pending) cleared) in
    let one : reverse (vec_items pending) ≡ (start_over (lanes_of network)).pending =
    newest_alone (vec_items pending) (vec_items parts.pending) _ c.push_reserved.ensures.items none_there ∙ ap (λ (s : ℕ). record { picked = 0; undecided = s } ∷ []) c.standing.ensures in
    let kept = starts (lanes_of network) (few_lanes network) in
    record {
      roomy = omega (arith, c.self.invariant.roomy, c.push_reserved.ensures.capacity);
      shallow = ap shallow one ∙ kept.low;
      counted = omega (arith, ap (λ (x : Progress). x.openings) cleared, ap all_work one, kept.counted);
    }
