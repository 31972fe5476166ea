-- The kinds of records: their numbers, the length of their bodies, and where in a sheet file each may stand.
use Rattle.std.specs.Prelude.{ℕ, Bool, true, false, cond, Some, None, Option, ◌==◌}
use Rattle.records.specs.declared.kinds.Kind.{Kind}
use Rattle.records.specs.declared.kinds.Kind.TheVariants.{Sheet, Lane, Goal, Plan, NoPlan}
use Rattle.records.specs.declared.kinds.Stage.{Stage}
use Rattle.records.specs.declared.kinds.Stage.TheVariants.{First, Lanes, Full, Last}

abbrev pub kind_number : Kind → ℕ
kind_number Sheet = 1
kind_number Lane = 2
kind_number Goal = 3
kind_number Plan = 4
kind_number NoPlan = 5

abbrev is_number_of : Kind → ℕ → Option Kind → Option Kind
is_number_of kind n otherwise = cond (n == kind_number kind) (Some kind) otherwise

-- the kind with this number, if there is one
abbrev pub kind_of : ℕ → Option Kind
kind_of n = is_number_of Sheet n (is_number_of Lane n (is_number_of Goal n (is_number_of Plan n (is_number_of NoPlan n None))))

-- the bytes of a body that a sheet file may have
abbrev pub body_length : Kind → ℕ
body_length Sheet = 4
body_length Lane = 9
body_length Goal = 9
body_length Plan = 0
body_length NoPlan = 0

-- first the sheet; then lanes, until there are twenty, or the goal; after the goal nothing
abbrev pub allows : Stage → Kind → Bool
allows First Sheet = true
allows Lanes Lane = true
allows Lanes Goal = true
allows Full Goal = true
allows First Lane = false
allows First Goal = false
allows First Plan = false
allows First NoPlan = false
allows Lanes Sheet = false
allows Lanes Plan = false
allows Lanes NoPlan = false
allows Full Sheet = false
allows Full Lane = false
allows Full Plan = false
allows Full NoPlan = false
allows Last kind = false

-- the same where the kind is allowed
abbrev pub allowed_length : Stage → Kind → Option ℕ
allowed_length stage kind = cond (allows stage kind) (Some (body_length kind)) None
