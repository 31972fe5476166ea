-- The fault number of each misfit. Every promise that tells a misfit's number tells it by this definition.
use Rattle.std.specs.Prelude.{ℕ}
use Rattle.records.specs.declared.faults.Misfit.{Misfit}
use Rattle.records.specs.declared.faults.Misfit.TheVariants.{FileEnds, KindNotDefined, KindNotAllowed, BodyUnfit}

abbrev pub misfit_number : Misfit → ℕ
misfit_number FileEnds = 17
misfit_number KindNotDefined = 18
misfit_number KindNotAllowed = 19
misfit_number BodyUnfit = 20
