-- The rule of all rows of a table of scales, by one test that the checker computes.
use Rattle.std.proofs.Common.{◌≡◌, ℕ, zero, suc, ◌+◌, ◌^◌, ◌<◌, ◌≤◌, Bool, true, ◌&&◌, eqb, ltb, leb, List, [], ◌∷◌, IfSome, Some, ap, ◌∙◌, subst, suc-le-suc, zero-le, le_trans, not-suc-le-zero, pow-suc, mul-zero, add-one}
use native.Mathlib.Nat.{pow-le-pow_right}
use Rattle.std.proofs.lemmas.Bool.{and_parts, cond_both, eqb-true, leb-true, ltb-true}
use Rattle.std.specs.List.{find}
use Rattle.std.specs.Option.{option_map}
use Rattle.network.specs.Scales.{Greatest, full_limit, limit_in}
use Rattle.network.specs.declared.scales.Row.{Row}

-- the rule as a test
abbrev greatest_test : Row → Bool
greatest_test r = leb (r.scale ^ r.limit) full_limit && ltb full_limit (r.scale ^ (r.limit + 1))

abbrev every_row : List Row → Bool
every_row [] = true
every_row (r ∷ rows) = greatest_test r && every_row rows

greatest_from : (r : Row) (S : ℕ) → greatest_test r ≡ true → r.scale ≡ S → Greatest S r.limit
greatest_from r S passed same =
    let parts = and_parts _ _ passed in
    subst (λ (s : ℕ). Greatest s r.limit) same
    (record { within = leb-true _ full_limit parts.0; last = ltb-true full_limit _ parts.1 })

pub rule_of : (rows : List Row) (S : ℕ) → every_row rows ≡ true → IfSome (limit_in rows S) (λ limit. Greatest S limit)
rule_of [] S passed = tt
rule_of (r ∷ rows) S passed =
    let parts = and_parts (greatest_test r) (every_row rows) passed in
    cond_both (eqb r.scale S) (Some r) (find (λ row. eqb row.scale S) rows) (λ found. IfSome (option_map (λ row. row.limit) found) (λ limit. Greatest S limit))
    (λ same. greatest_from r S parts.0 (eqb-true _ S same)) (λ _. rule_of rows S parts.1)

-- what the rule gives of a scale, and of a number of lanes up to the limit
pub positive_scale : (S K : ℕ) → Greatest S K → 1 ≤ S
positive_scale zero K g = absurd (not-suc-le-zero (subst (λ (n : ℕ). full_limit < n) (ap (λ (k : ℕ). 0 ^ k) (add-one K) ∙ pow-suc 0 K ∙ mul-zero _) g.last))
positive_scale (suc S) K g = suc-le-suc zero-le

pub full_within : (S K limit : ℕ) → Greatest S limit → K ≤ limit → S ^ K ≤ full_limit
full_within S K limit g below = le_trans (pow-le-pow_right (positive_scale S limit g) below) g.within
