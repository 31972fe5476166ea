-- A record: two bytes of length, two of kind, and a body; the length counts kind and body. How one is taken from the bytes left of a sheet file.
use Rattle.std.specs.Prelude.{ℕ, ◌+◌, cond, List, length, take, drop, Some, None, Ok, Err, Option, Result, ◌==◌, nat_le}
use Rattle.records.specs.Bytes.{written}
use Rattle.records.specs.Kinds.{allows, body_length, kind_of}
use Rattle.records.specs.declared.faults.Misfit.{Misfit}
use Rattle.records.specs.declared.faults.Misfit.TheVariants.{FileEnds, KindNotDefined, KindNotAllowed, BodyUnfit}
use Rattle.records.specs.declared.kinds.Kind.{Kind}
use Rattle.records.specs.declared.kinds.Stage.{Stage}

-- a record that was taken, and the bytes after it
pub record Taken : Type 0 where
  pub kind : Kind
  pub body : List ℕ
  pub rest : List ℕ

abbrev pub header_bytes : ℕ
header_bytes = 4

-- the length counts the two bytes of the kind too
abbrev pub length_for : Kind → ℕ
length_for kind = body_length kind + 2

abbrev pub length_in : List ℕ → ℕ
length_in bytes = written (take 2 bytes)

abbrev pub kind_in : List ℕ → ℕ
kind_in bytes = written (take 2 (drop 2 bytes))

-- the kind is allowed here, and the length fits it
abbrev pub frame_check : Stage → ℕ → Kind → Result (Unit {0}) Misfit
frame_check stage len kind = cond (allows stage kind) (cond (len == length_for kind) (Ok tt) (Err BodyUnfit)) (Err KindNotAllowed)

-- the rest is there
abbrev pub with_body : Kind → List ℕ → Result Taken Misfit
with_body kind after =
    cond (nat_le (body_length kind) (length after)) (Ok (record { kind = kind; body = take (body_length kind) after; rest = drop (body_length kind) after })) (Err FileEnds)

abbrev pub framed_by : Result (Unit {0}) Misfit → Kind → List ℕ → Result Taken Misfit
framed_by (Ok passed) kind after = with_body kind after
framed_by (Err misfit) kind after = Err misfit

abbrev pub of_kind : Stage → ℕ → Option Kind → List ℕ → Result Taken Misfit
of_kind stage len None after = Err KindNotDefined
of_kind stage len (Some kind) after = framed_by (frame_check stage len kind) kind after

-- the header is there, and its kind is defined
abbrev pub take_record : Stage → List ℕ → Result Taken Misfit
take_record stage bytes =
    cond (nat_le header_bytes (length bytes)) (of_kind stage (length_in bytes) (kind_of (kind_in bytes)) (drop header_bytes bytes)) (Err FileEnds)
