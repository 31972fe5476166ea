use Rattle.std.proofs.Common.{sym, arith}
use Rattle.search.specs.Deciding.{problem_of}
use Rattle.search.proofs.Stepping.{made_all, made_next}
use Rattle.search.proofs.searching.Search.open_many.Goals as goal

pub returns-then-has_ended-clause-opened : goal.returns-then-has_ended-clause-opened
returns-then-has_ended-clause-opened g c =
    made_all (problem_of g.B.Bound.tells c.args.problem.now) c.args.self.now c.loop.self c.loop.counter c.args.openings c.loop.invariant.0 (omega arith) (sym c.if-has_ended.ensures.told)

pub loop-preserved : goal.loop-preserved
loop-preserved g c = (
  made_next (problem_of g.B.Bound.tells c.args.problem.now) c.args.self.now c.loop.self c.open_one.new.self c.loop.counter c.loop.invariant.0 c.open_one.ensures.opened,
  c.open_one.ensures.over,
)
