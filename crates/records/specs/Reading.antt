-- Where a reader stands, and what a step of it hands out.
use Rattle.std.specs.Prelude.{◌≡◌, ℕ, ◌+◌, List, drop, Ok, Err, Result, MatchResult}
use Rattle.records.specs.Kinds.{body_length}
use Rattle.records.specs.Records.{Taken, header_bytes, take_record}
use Rattle.records.specs.declared.faults.Misfit.{Misfit}
use Rattle.records.specs.declared.kinds.Kind.{Kind}
use Rattle.records.specs.declared.kinds.Kind.TheVariants as kinds
use Rattle.records.specs.declared.kinds.Stage.{Stage}
use Rattle.records.specs.declared.readers.frames.Frame.{Frame}
use Rattle.records.specs.declared.readers.Place.{Place}
use Rattle.records.specs.declared.readers.Reader.{Reader}
use Rattle.records.specs.declared.readers.Record.{Record}
use Rattle.records.specs.declared.readers.Record.TheVariants.{Sheet, Lane, Goal}

-- the first record begins at the first byte
abbrev pub start : Place
start = record { «record» = 0; byte = 0 }

-- the place of the record after one whose body has n bytes
abbrev pub place_past : Place → ℕ → Place
place_past place n = record { «record» = place.«record» + 1; byte = place.byte + (header_bytes + n) }

abbrev pub file_of : Reader → List ℕ
file_of reader = reader.file.now

-- the bytes from the reader's place on
abbrev pub left_of : Reader → List ℕ
left_of reader = drop reader.place.byte (file_of reader)

abbrev pub kind_in : Record → Kind
kind_in (Sheet place body) = kinds.Sheet
kind_in (Lane place body) = kinds.Lane
kind_in (Goal place body) = kinds.Goal

abbrev pub body_in : Record → List ℕ
body_in (Sheet place body) = body.now
body_in (Lane place body) = body.now
body_in (Goal place body) = body.now

abbrev pub place_in : Record → Place
place_in (Sheet place body) = place
place_in (Lane place body) = place
place_in (Goal place body) = place

-- a frame at the start of some bytes, with the bytes after it
abbrev pub taken_from : List ℕ → Frame → Taken
taken_from bytes frame =
    record { kind = frame.kind; body = frame.body.now; rest = drop (body_length frame.kind) (drop header_bytes bytes) }

-- a record that was handed out, with the bytes after it
abbrev pub taken_as : Record → List ℕ → Taken
taken_as r rest = record { kind = kind_in r; body = body_in r; rest = rest }

-- the record that the format says, with its place, and the reader after it; or the first misfit, and the reader stays
pub record Step (before : Reader) (stage : Stage) (r : Result Record Misfit) (later : Reader) : Type 0 where
  pub file : file_of later ≡ file_of before
  pub answer : MatchResult r (λ x. (take_record stage (left_of before) ≡ Ok (taken_as x (left_of later))) × ((place_in x ≡ before.place) × (later.place ≡ place_past before.place (body_length (kind_in x))))) (λ e. (take_record stage (left_of before) ≡ Err e) × (later.place ≡ before.place))
