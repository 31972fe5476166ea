-- How a call answers of which a definition says what it gives: that value, as a view sees it, or that error.
use Rattle.std.specs.Prelude.{◌≡◌, Ok, Err, Result, MatchResult}

abbrev pub Gives : {X Y E : Type 0} → Result X E → (Y → X) → Result Y E → Type 0
Gives told view answer = MatchResult answer (λ y. told ≡ Ok (view y)) (λ e. told ≡ Err e)
