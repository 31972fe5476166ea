-- The number of each mark in files, and how a number is read as a mark.
use Rattle.std.specs.Prelude.{◌≡◌, ℕ, ◌<◌, Result, MatchResult}
use Rattle.network.specs.declared.lanes.Mark.{Mark}
use Rattle.network.specs.declared.lanes.Mark.TheVariants.{Struck, Standing}
use Rattle.network.specs.declared.lanes.UnknownMark.{UnknownMark}

abbrev pub mark_number : Mark → ℕ
mark_number Struck = 0
mark_number Standing = 1

-- the mark with this number, or an error if the number is above both
abbrev pub ReadsMark : ℕ → Result Mark UnknownMark → Type 0
ReadsMark number r = MatchResult r (λ mark. mark_number mark ≡ number) (λ _. 1 < number)
