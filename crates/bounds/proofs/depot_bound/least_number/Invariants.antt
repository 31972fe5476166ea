use Rattle.std.proofs.Common.{◌≡◌}
use Rattle.network.specs.Networks.{most_of, parts_of}
use Rattle.reliability.specs.Questions.{named}
use Rattle.bounds.specs.Depots.{least_depot}
use Rattle.bounds.proofs.depot_bound.least_number.Given as goal

abbrev pub invariant-loop-depot : goal.invariant-loop-depot
invariant-loop-depot l = l.least ≡ least_depot (parts_of l.network) (most_of l.network) l.depot (named l.network l.set)
