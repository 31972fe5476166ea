use Rattle.std.proofs.Common.{◌-◌, length}
use Rattle.reliability.specs.Tasks.{lanes_in}
use Rattle.reliability.proofs.factoring.Task.+factor.Given as goal

abbrev pub decreases-factor : goal.decreases-factor
decreases-factor g l = length (lanes_in l.self.now.named) - l.i
