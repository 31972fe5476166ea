-- Equal results have equal values or equal errors.
use Rattle.std.proofs.Common.{◌≡◌, ℕ, Ok, Err, Result, arith}

pub err_is_not_ok : {X E : Type 0} {x : X} {e : E} → ◌≡◌ {A = Result X E} (Err e) (Ok x) → ⊥
err_is_not_ok h = let z : ◌≡◌ {A = ℕ} 0 1 = cc in omega arith

pub ok_same : {X E : Type 0} {x y : X} → ◌≡◌ {A = Result X E} (Ok x) (Ok y) → x ≡ y
ok_same h = cc

pub err_same : {X E : Type 0} {d e : E} → ◌≡◌ {A = Result X E} (Err d) (Err e) → d ≡ e
err_same h = cc
