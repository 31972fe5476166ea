use Rattle.std.proofs.Common.{◌≡◌}
use Rattle.network.specs.Networks.{lanes_of}
use Rattle.search.specs.Deciding.{problem_of}
use Rattle.search.specs.Opening.{open_many}
use Rattle.search.specs.Searching.{Over}
use Rattle.search.proofs.searching.Search.open_many.Given as goal

abbrev pub invariant-loop : goal.invariant-loop
invariant-loop g l =
    (l.self ≡ open_many (problem_of g.B.Bound.tells l.problem) l.counter l.initial.self) × Over (lanes_of l.problem.network.now) l.self
