-- Along a run the sheet is as after one grant of the sum, made right after the last change.
use Rattle.std.proofs.Common.{◌≡◌, ℕ, ◌+◌, Bool, true, false, cond, List, [], ◌∷◌, is_some, Some, None, Option, sym, refl, ap, ◌∙◌, subst, arith}
use Rattle.bounds.specs.Questions.{Asked}
use Rattle.search.specs.Opening.{Progress, open_many, start_over}
use Rattle.search.proofs.Counting.{many_sum}
use Rattle.sheet.specs.Calls.{after, carried, granted, granted_by, verdict}
use Rattle.sheet.specs.Models.{Contents, Model, fresh, problem}
use Rattle.sheet.specs.Runs.{Fresh, after_run, base_from, base_with, last_change, sum_from, sum_of, sum_with}
use Rattle.sheet.specs.declared.words.Call.{Call}
use Rattle.sheet.specs.declared.words.Call.TheVariants.{Offer, Strike, Restore, Reprice, StateGoal, Grant}
use Rattle.sheet.specs.declared.words.Goal.{Goal}

-- ---- grants of nothing, and one after another

pub nothing_granted : (goal : Option Goal) (m : Model) → m ≡ granted_by goal m 0
nothing_granted None m = refl
nothing_granted (Some goal) m = refl

granted_twice : (c : Contents) (tell : Asked → ℕ) (goal : Option Goal) (x : Progress) (n k : ℕ) → granted (granted (record { contents = c; tell = tell; goal = goal; progress = x }) n) k ≡ granted (record { contents = c; tell = tell; goal = goal; progress = x }) (n + k)
granted_twice c tell None x n k = refl
granted_twice c tell (Some g) x n k = ap (λ (y : Progress). record { contents = c; tell = tell; goal = Some g; progress = y }) (sym (many_sum (problem c tell g) n k x))

-- ---- along a run

-- the base is as a change leaves it, and the sheet is the base with the sum granted
pub record Since (base : Model) (sum : ℕ) (m : Model) : Type 0 where
  pub changed : Fresh base
  pub is : m ≡ granted base sum

since_change : (m : Model) → Fresh m → Since m 0 m
since_change m is_fresh = record { changed = is_fresh; is = nothing_granted m.goal m }

since_next : (base : Model) (sum : ℕ) (m : Model) → Since base sum m → (refused : Bool) (call : Call) → Since (cond refused base (base_with base (cond refused m (carried m call)) call)) (cond refused sum (sum_with sum call)) (cond refused m (carried m call))
since_next base sum m since true call = since
since_next base sum m since false (Offer left right chance cost) = since_change (carried m (Offer left right chance cost)) refl
since_next base sum m since false (Strike lane) = since_change (carried m (Strike lane)) refl
since_next base sum m since false (Restore lane) = since_change (carried m (Restore lane)) refl
since_next base sum m since false (Reprice lane chance cost) = since_change (carried m (Reprice lane chance cost)) refl
since_next base sum m since false (StateGoal goal) = since_change (carried m (StateGoal goal)) refl
since_next base sum m since false (Grant openings) =
    record {
      changed = since.changed;
      is = ap (λ (b : Model). granted b openings) since.is ∙ granted_twice base.contents base.tell base.goal base.progress sum openings;
    }

since_run : (run : List Call) (base : Model) (sum : ℕ) (m : Model) → Since base sum m → Since (base_from m base run) (sum_from m sum run) (after_run m run)
since_run [] base sum m since = since
since_run (call ∷ run) base sum m since =
    let refused = is_some (verdict m call) in
    since_run run (cond refused base (base_with base (after m call) call)) (cond refused sum (sum_with sum call)) (after m call) (since_next base sum m since refused call)

pub since_start : (start : Model) → Fresh start → (run : List Call) → Since (last_change start run) (sum_of start run) (after_run start run)
since_start start is_fresh run = since_run run start 0 start (since_change start is_fresh)

-- ---- how far the search of such a sheet has come

same_goal : (g h : Goal) → ◌≡◌ {A = Option Goal} (Some g) (Some h) → g ≡ h
same_goal g h is = cc

none_is_not_some : (g : Goal) → ◌≡◌ {A = Option Goal} None (Some g) → ⊥
none_is_not_some g is = let z : ◌≡◌ {A = ℕ} 0 1 = cc in omega arith

-- the search of the sheet's own problem, from its start, after the sum
abbrev Far : ℕ → Model → Type 0
Far sum m = (goal : Goal) → m.goal ≡ Some goal → m.progress ≡ open_many (problem m.contents m.tell goal) sum (start_over m.contents.lanes)

far_granted : (c : Contents) (tell : Asked → ℕ) (goal : Option Goal) (x : Progress) (sum : ℕ) → x ≡ fresh c.lanes goal → Far sum (granted (record { contents = c; tell = tell; goal = goal; progress = x }) sum)
far_granted c tell None x sum is_fresh goal is = absurd (none_is_not_some goal is)
far_granted c tell (Some g) x sum is_fresh goal is =
    let same = same_goal g goal is in
    λ i. open_many (problem c tell (same i)) sum (is_fresh i)

pub far : (base : Model) (sum : ℕ) (m : Model) → Since base sum m → Far sum m
far base sum m since = subst (Far sum) (sym since.is) (far_granted base.contents base.tell base.goal base.progress sum since.changed)
