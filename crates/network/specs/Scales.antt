-- The admitted scales S, each with the greatest number K of lanes in a set, and the rule that every row of such a table meets.
use Rattle.std.specs.Prelude.{ℕ, ◌+◌, ◌^◌, ◌<◌, ◌≤◌, cond, ◌||◌, List, [], ◌∷◌, Some, None, Option, ◌==◌, nat_lt}
use Rattle.std.specs.List.{find}
use Rattle.std.specs.Option.{option_map}
use Rattle.network.specs.declared.refusals.Refusal.{Refusal}
use Rattle.network.specs.declared.refusals.Refusal.TheVariants.{ScaleNotAdmitted, SetLimitNotAdmitted}
use Rattle.network.specs.declared.scales.Row.{Row}

-- no full scale S^K is above 10^18
abbrev pub full_limit : ℕ
full_limit = 1000000000000000000

-- K is the greatest number with S^K at most 10^18
pub record Greatest (S K : ℕ) : Type 0 where
  pub within : S ^ K ≤ full_limit
  pub last : full_limit < S ^ (K + 1)

abbrev row : ℕ → ℕ → Row
row S K = record { scale = S; limit = K }

abbrev pub admitted_rows : List Row
admitted_rows =
    row 10 18 ∷ row 16 14 ∷ row 20 13 ∷ row 25 12 ∷ row 50 10 ∷ row 100 9 ∷ row 200 7 ∷ row 1000 6 ∷ []

-- the limit of a scale's row, if the table has one
abbrev pub limit_in : List Row → ℕ → Option ℕ
limit_in rows S = option_map (λ row. row.limit) (find (λ row. row.scale == S) rows)

abbrev pub limit_refusal : Option ℕ → ℕ → Option Refusal
limit_refusal None K = Some ScaleNotAdmitted
limit_refusal (Some limit) K = cond (K == 0 || nat_lt limit K) (Some SetLimitNotAdmitted) None

abbrev pub scale_refusal : ℕ → ℕ → Option Refusal
scale_refusal S K = limit_refusal (limit_in admitted_rows S) K
