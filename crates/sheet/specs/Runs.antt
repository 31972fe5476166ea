-- Runs: any list of calls, accepted or refused. Where one leads, what was granted since its last change, and the sheet right after that change.
use Rattle.std.specs.Prelude.{◌≡◌, ℕ, ◌+◌, cond, List, [], ◌∷◌, is_some}
use Rattle.sheet.specs.Calls.{after, verdict}
use Rattle.sheet.specs.Models.{Model, fresh}
use Rattle.sheet.specs.declared.words.Call.{Call}
use Rattle.sheet.specs.declared.words.Call.TheVariants.{Offer, Strike, Restore, Reprice, StateGoal, Grant}

-- a sheet as a change leaves it: one just opened is, and one just read
abbrev pub Fresh : Model → Type 0
Fresh m = m.progress ≡ fresh m.contents.lanes m.goal

abbrev pub after_run : Model → List Call → Model
after_run m [] = m
after_run m (call ∷ run) = after_run (after m call) run

-- ---- one accepted call

abbrev pub sum_with : ℕ → Call → ℕ
sum_with sum (Offer left right chance cost) = 0
sum_with sum (Strike lane) = 0
sum_with sum (Restore lane) = 0
sum_with sum (Reprice lane chance cost) = 0
sum_with sum (StateGoal goal) = 0
sum_with sum (Grant openings) = sum + openings

abbrev pub base_with : Model → Model → Call → Model
base_with base later (Offer left right chance cost) = later
base_with base later (Strike lane) = later
base_with base later (Restore lane) = later
base_with base later (Reprice lane chance cost) = later
base_with base later (StateGoal goal) = later
base_with base later (Grant openings) = base

-- ---- along a run; a refused call counts for nothing

-- what the accepted grants since the last change add up to
abbrev pub sum_from : Model → ℕ → List Call → ℕ
sum_from m sum [] = sum
sum_from m sum (call ∷ run) = sum_from (after m call) (cond (is_some (verdict m call)) sum (sum_with sum call)) run

-- the sheet right after the last change
abbrev pub base_from : Model → Model → List Call → Model
base_from m base [] = base
base_from m base (call ∷ run) = base_from (after m call) (cond (is_some (verdict m call)) base (base_with base (after m call) call)) run

-- the run begins right after a change
abbrev pub sum_of : Model → List Call → ℕ
sum_of start run = sum_from start 0 run

abbrev pub last_change : Model → List Call → Model
last_change start run = base_from start start run
