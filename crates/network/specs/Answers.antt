-- How a call answers: refused as its verdict says, and otherwise with its one result.
use Rattle.std.specs.Prelude.{◌≡◌, Some, None, Ok, Err, Option, Result, MatchResult}
use Rattle.network.specs.declared.refusals.Refusal.{Refusal}

-- checks in their order: the first that refuses decides
abbrev pub first_of : Option Refusal → Option Refusal → Option Refusal
first_of None later = later
first_of (Some refusal) later = Some refusal

-- the answer of a call whose result is a plain value
abbrev pub told : {X : Type 0} → Option Refusal → X → Result X Refusal
told None value = Ok value
told (Some refusal) value = Err refusal

-- the answer of a call whose result is described by its parts
abbrev pub Told : {X : Type 0} → Option Refusal → Result X Refusal → (X → Type 0) → Type 0
Told verdict answer P = MatchResult answer (λ x. (verdict ≡ None) × P x) (λ refusal. verdict ≡ Some refusal)
