-- What is known of a record that was taken.
use Rattle.std.proofs.Common.{◌≡◌, ℕ, ◌+◌, ◌≤◌, Bool, true, false, cond, leb, List, length, take, drop, Some, None, Ok, Err, Option, Result, refl, subst, arith}
use Rattle.std.proofs.lemmas.List.{length-drop, length-take-le}
use Rattle.std.proofs.lemmas.Bool.{leb-true}
use Rattle.records.specs.Kinds.{body_length, kind_of}
use Rattle.records.specs.Records.{Taken, frame_check, framed_by, header_bytes, kind_in, length_in, of_kind, take_record, with_body}
use Rattle.records.specs.declared.faults.Misfit.{Misfit}
use Rattle.records.specs.declared.faults.Misfit.TheVariants.{FileEnds}
use Rattle.records.specs.declared.kinds.Kind.{Kind}
use Rattle.records.specs.declared.kinds.Stage.{Stage}
use Rattle.records.proofs.Results.{err_is_not_ok, ok_same}

-- what is known of a record that was taken
pub record Whole (bytes : List ℕ) (t : Taken) : Type 0 where
  pub there : header_bytes + body_length t.kind ≤ length bytes
  pub long : length t.body ≡ body_length t.kind
  pub rest : t.rest ≡ drop (body_length t.kind) (drop header_bytes bytes)

body_whole : (bytes : List ℕ) → header_bytes ≤ length bytes → (kind : Kind) (t : Taken) → with_body kind (drop header_bytes bytes) ≡ Ok t → Whole bytes t
body_whole bytes there kind t is = by_length (leb (body_length kind) (length (drop header_bytes bytes))) refl is
  where
    by_length : (fits : Bool) → leb (body_length kind) (length (drop header_bytes bytes)) ≡ fits → cond fits (Ok (record { kind = kind; body = take (body_length kind) (drop header_bytes bytes); rest = drop (body_length kind) (drop header_bytes bytes) })) (Err FileEnds) ≡ Ok t → Whole bytes t
    by_length true fits h =
        let low : body_length kind ≤ length (drop header_bytes bytes) = leb-true _ _ fits in
        subst (Whole bytes) (ok_same h)
        (record {
          there = omega (arith, there, low, length-drop header_bytes bytes);
          long = length-take-le (body_length kind) (drop header_bytes bytes) low;
          rest = refl;
        })
    by_length false fits h = absurd (err_is_not_ok h)

pub taken_whole : (stage : Stage) (bytes : List ℕ) (t : Taken) → take_record stage bytes ≡ Ok t → Whole bytes t
taken_whole stage bytes t is = by_header (leb header_bytes (length bytes)) refl is
  where
    by_check : (check : Result (Unit {0}) Misfit) (kind : Kind) → header_bytes ≤ length bytes → framed_by check kind (drop header_bytes bytes) ≡ Ok t → Whole bytes t
    by_check (Ok passed) kind long h = body_whole bytes long kind t h
    by_check (Err e) kind long h = absurd (err_is_not_ok h)

    by_kind : (kind : Option Kind) → header_bytes ≤ length bytes → of_kind stage (length_in bytes) kind (drop header_bytes bytes) ≡ Ok t → Whole bytes t
    by_kind None long h = absurd (err_is_not_ok h)
    by_kind (Some kind) long h = by_check (frame_check stage (length_in bytes) kind) kind long h

    by_header : (there : Bool) → leb header_bytes (length bytes) ≡ there → cond there (of_kind stage (length_in bytes) (kind_of (kind_in bytes)) (drop header_bytes bytes)) (Err FileEnds) ≡ Ok t → Whole bytes t
    by_header true there h = by_kind (kind_of (kind_in bytes)) (leb-true _ _ there) h
    by_header false there h = absurd (err_is_not_ok h)
