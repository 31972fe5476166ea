-- A sheet that was read is as a change leaves it, so a run of calls may begin there.
use Rattle.std.proofs.Common.{◌≡◌, ℕ, zero, suc, Bool, true, false, cond, eqb, ltb, List, length, is_some, Some, None, Ok, Err, Option, Result, refl, subst}
use Rattle.network.specs.declared.refusals.Refusal.{Refusal}
use Rattle.bounds.specs.Questions.{Asked}
use Rattle.records.specs.Reading.{start}
use Rattle.records.specs.Records.{Taken, take_record}
use Rattle.records.specs.declared.faults.Misfit.{Misfit}
use Rattle.records.specs.declared.faults.Misfit.TheVariants.{BodyUnfit}
use Rattle.records.specs.declared.kinds.Kind.{Kind}
use Rattle.records.specs.declared.kinds.Kind.TheVariants.{Sheet, Lane, Goal, Plan, NoPlan}
use Rattle.records.specs.declared.kinds.Stage.TheVariants.{First}
use Rattle.records.specs.declared.readers.Place.{Place}
use Rattle.sheet.specs.Calls.{after, carried, verdict}
use Rattle.sheet.specs.Models.{Model}
use Rattle.sheet.specs.Runs.{Fresh}
use Rattle.sheet.specs.declared.words.Call.TheVariants.{Strike}
use Rattle.sheet_files.specs.Applying.{as_cause, called, lane_by, offer_in, open_by, stage_of, struck_by, then_struck}
use Rattle.sheet_files.specs.Bodies.{mark_in}
use Rattle.sheet_files.specs.Files.{by_kind, go_on, place_after, read_file, read_first, read_from, read_taken}
use Rattle.sheet_files.specs.declared.faults.Cause.{Cause}
use Rattle.sheet_files.specs.declared.faults.Cause.TheVariants as causes
use Rattle.sheet_files.specs.declared.faults.Fault.{Fault}
use Rattle.records.proofs.Results.{err_is_not_ok, ok_same}

as_cause_fresh : (v : Option Refusal) (m m' : Model) → Fresh m → as_cause v m ≡ Ok m' → Fresh m'
as_cause_fresh None m m' is_fresh h = subst Fresh (ok_same h) is_fresh
as_cause_fresh (Some e) m m' is_fresh h = absurd (err_is_not_ok h)

cond_fresh : (b : Bool) (m n : Model) → Fresh m → Fresh n → Fresh (cond b m n)
cond_fresh true m n one two = one
cond_fresh false m n one two = two

struck_fresh : (mark lane : ℕ) (m : Model) → Fresh m → Fresh (struck_by mark lane m)
struck_fresh mark lane m is_fresh =
    cond_fresh (eqb mark 0) (after m (Strike lane)) m (cond_fresh (is_some (verdict m (Strike lane))) m (carried m (Strike lane)) is_fresh refl) is_fresh

lane_fresh : (m : Model) (body : List ℕ) (m' : Model) → lane_by m body ≡ Ok m' → Fresh m'
lane_fresh m body m' is = by_mark (ltb 1 (mark_in body)) is
  where
    by_offer : (r : Result Model Cause) → ((n : Model) → r ≡ Ok n → Fresh n) → then_struck (mark_in body) (length m.contents.lanes) r ≡ Ok m' → Fresh m'
    by_offer (Ok n) each h = subst Fresh (ok_same h) (struck_fresh (mark_in body) (length m.contents.lanes) n (each n refl))
    by_offer (Err cause) each h = absurd (err_is_not_ok h)

    by_mark : (wrong : Bool) → cond wrong (Err (causes.Misfit BodyUnfit)) (then_struck (mark_in body) (length m.contents.lanes) (called m (offer_in body))) ≡ Ok m' → Fresh m'
    by_mark true h = absurd (err_is_not_ok h)
    by_mark false h = by_offer (called m (offer_in body)) (λ n. as_cause_fresh (verdict m (offer_in body)) (carried m (offer_in body)) n refl) h

kind_fresh : (kind : Kind) (m : Model) (body : List ℕ) (m' : Model) → Fresh m → by_kind kind m body ≡ Ok m' → Fresh m'
kind_fresh Lane m body m' is_fresh h = lane_fresh m body m' h
kind_fresh Goal m body m' is_fresh h = as_cause_fresh _ _ m' refl h
kind_fresh Sheet m body m' is_fresh h = subst Fresh (ok_same h) is_fresh
kind_fresh Plan m body m' is_fresh h = subst Fresh (ok_same h) is_fresh
kind_fresh NoPlan m body m' is_fresh h = subst Fresh (ok_same h) is_fresh

go_on_fresh : (on : Model → Result Model Fault) (place : Place) (r : Result Model Cause) (m' : Model) → ((n : Model) → r ≡ Ok n → on n ≡ Ok m' → Fresh m') → go_on on place r ≡ Ok m' → Fresh m'
go_on_fresh on place (Ok n) m' each h = each n refl h
go_on_fresh on place (Err cause) m' each h = absurd (err_is_not_ok h)

from_fresh : (most : ℕ) (place : Place) (left : List ℕ) (m m' : Model) → Fresh m → read_from most place left m ≡ Ok m' → Fresh m'
from_fresh zero place left m m' is_fresh h = subst Fresh (ok_same h) is_fresh
from_fresh (suc most) place left m m' is_fresh h =
    by_end (eqb (length left) 0) (λ place' left' n fresh_n on. from_fresh most place' left' n m' fresh_n on) h
  where
    Again : Type 0
    Again = (place' : Place) (left' : List ℕ) (n : Model) → Fresh n → read_from most place' left' n ≡ Ok m' → Fresh m'

    by_taken : (t : Result Taken Misfit) → Again → read_taken (read_from most) m place t ≡ Ok m' → Fresh m'
    by_taken (Ok t) again k =
        go_on_fresh (read_from most (place_after place t) t.rest) place (by_kind t.kind m t.body) m'
        (λ n is on. again (place_after place t) t.rest n (kind_fresh t.kind m t.body n is_fresh is) on) k
    by_taken (Err misfit) again k = absurd (err_is_not_ok k)

    by_end : (ended : Bool) → Again → cond ended (Ok m) (read_taken (read_from most) m place (take_record (stage_of m) left)) ≡ Ok m' → Fresh m'
    by_end true again k = subst Fresh (ok_same k) is_fresh
    by_end false again k = by_taken (take_record (stage_of m) left) again k

pub file_fresh : (tell : Asked → ℕ) (file : List ℕ) (m : Model) → read_file tell file ≡ Ok m → Fresh m
file_fresh tell file m h = by_taken (take_record First file) h
  where
    by_taken : (t : Result Taken Misfit) → read_first tell t ≡ Ok m → Fresh m
    by_taken (Ok t) k =
        go_on_fresh (read_from (length t.rest) (place_after start t) t.rest) start (open_by tell t.body) m
        (λ n is on. from_fresh (length t.rest) (place_after start t) t.rest n m (as_cause_fresh _ _ n refl is) on) k
    by_taken (Err misfit) k = absurd (err_is_not_ok k)
