-- A reader after a record that was taken.
use Rattle.std.proofs.Common.{◌≡◌, ℕ, ◌+◌, List, length, drop, Ok, sym, ap, ◌∙◌, add_assoc}
use Rattle.std.proofs.lemmas.List.{drop-drop}
use Rattle.records.specs.Kinds.{body_length}
use Rattle.records.specs.Reading.{Step, body_in, file_of, kind_in, left_of, place_in, place_past}
use Rattle.records.specs.Records.{Taken, header_bytes, take_record}
use Rattle.records.proofs.Taking.{taken_whole}
use Rattle.records.specs.declared.kinds.Kind.{Kind}
use Rattle.records.specs.declared.kinds.Stage.{Stage}
use Rattle.records.specs.declared.readers.Place.{Place}
use Rattle.records.specs.declared.readers.Reader.{Reader}
use Rattle.records.specs.declared.readers.Record.{Record}

-- the bytes after a record of n bytes behind its header
moved : (file : List ℕ) (place n : ℕ) → drop n (drop header_bytes (drop place file)) ≡ drop (place + (header_bytes + n)) file
moved file place n = drop-drop n header_bytes (drop place file) ∙ drop-drop (header_bytes + n) place file

-- the place as the code works it out
abbrev pub place_by : Place → ℕ → Place
place_by place n = record { «record» = place.«record» + 1; byte = place.byte + header_bytes + n }

-- what is handed out is the record that was taken, and the reader stands behind it
pub stepped : (before later : Reader) (stage : Stage) (t : Taken) (x : Record) → file_of later ≡ file_of before → later.place ≡ place_by before.place (length t.body) → take_record stage (left_of before) ≡ Ok t → kind_in x ≡ t.kind → body_in x ≡ t.body → place_in x ≡ before.place → Step before stage (Ok x) later
stepped before later stage t x file place taken kind-is body_is place_is =
    let whole = taken_whole stage (left_of before) t taken in
    let past : later.place ≡ place_past before.place (body_length t.kind) =
    place ∙ (λ i. record { «record» = before.place.«record» + 1; byte = add_assoc before.place.byte header_bytes (whole.long i) i }) in
    let rest : left_of later ≡ t.rest =
    (λ i. drop (past i).byte (file i)) ∙ sym (moved (file_of before) before.place.byte (body_length t.kind)) ∙ sym whole.rest in
    record {
      file = file;
      answer = (taken ∙ ap Ok (sym (λ i. record { kind = kind-is i; body = body_is i; rest = rest i })), (place_is, past ∙ ap (λ (k : Kind). place_past before.place (body_length k)) (sym kind-is)));
    }
