-- Reading goes on from record to record: what is left to read is the rest of the same file, with the sheet so far.
use Rattle.std.proofs.Common.{◌≡◌, ℕ, zero, suc, ◌+◌, ◌≤◌, true, false, eqb, List, length, drop, Ok, Err, Result, sym, refl, ap, ◌∙◌, arith}
use Rattle.std.proofs.lemmas.List.{length-drop}
use Rattle.std.proofs.lemmas.Bool.{cond-false, cond-true, eqb-false}
use Rattle.bounds.specs.Questions.{Asked}
use Rattle.records.specs.Kinds.{body_length}
use Rattle.records.specs.Reading.{file_of, left_of, start}
use Rattle.records.specs.Records.{Taken, header_bytes, take_record}
use Rattle.records.specs.declared.faults.Misfit.{Misfit}
use Rattle.records.specs.declared.kinds.Stage.TheVariants.{First}
use Rattle.records.specs.declared.readers.Place.{Place}
use Rattle.records.specs.declared.readers.Reader.{Reader}
use Rattle.records.proofs.Results.{err_same}
use Rattle.records.proofs.Taking.{taken_whole}
use Rattle.sheet.specs.Models.{Model}
use Rattle.sheet_files.specs.Applying.{stage_of}
use Rattle.sheet_files.specs.Files.{fault, go_on, place_after, read_file, read_first, read_from, read_taken}
use Rattle.sheet_files.specs.Reading.{Carried, Opened, first_by, next_by}
use Rattle.sheet_files.specs.declared.faults.Cause.{Cause}
use Rattle.sheet_files.specs.declared.faults.Fault.{Fault}

-- ---- what is left

abbrev pub left_to_read : ℕ → Model → Reader → Result Model Fault
left_to_read most m r = read_from most r.place (left_of r) m

-- from one reader to a later one of the same file
pub record Sofar (m0 : Model) (r0 : Reader) (m : Model) (r : Reader) : Type 0 where
  pub file : file_of r ≡ file_of r0
  pub most : ℕ
  pub enough : length (left_of r) ≤ most
  pub is : left_to_read (length (left_of r0)) m0 r0 ≡ left_to_read most m r

pub sofar_start : (m : Model) (r : Reader) → Sofar m r m r
sofar_start m r = record { file = refl; most = length (left_of r); enough = omega arith; is = refl }

-- one record is read, with so many at most to come
unfolded : (most : ℕ) (m : Model) (r : Reader) → eqb (length (left_of r)) 0 ≡ false → left_to_read (suc most) m r ≡ read_taken (read_from most) m r.place (take_record (stage_of m) (left_of r))
unfolded most m r more = cond-false (eqb (length (left_of r)) 0) _ _ more

carried_on : (most : ℕ) (m : Model) (r : Reader) → eqb (length (left_of r)) 0 ≡ false → (m' : Model) (r' : Reader) → Carried m r m' r' → left_to_read (suc most) m r ≡ left_to_read most m' r'
carried_on most m r more m' r' went =
    unfolded most m r more
    ∙ ap (read_taken (read_from most) m r.place) went.taken
    ∙ ap (go_on (read_from most (place_after r.place went.t) went.t.rest) r.place) went.done
    ∙ sym (λ i. read_from most (went.place i) (went.rest i) m')

shorter : (m : Model) (r : Reader) (m' : Model) (r' : Reader) → Carried m r m' r' → length (left_of r') + 4 ≤ length (left_of r)
shorter m r m' r' went =
    let whole = taken_whole (stage_of m) (left_of r) went.t went.taken in
    let rest : length (left_of r') ≡ length (drop (body_length went.t.kind) (drop header_bytes (left_of r))) = ap length (went.rest ∙ whole.rest) in
    omega (arith, rest, whole.there, length-drop (body_length went.t.kind) (drop header_bytes (left_of r)), length-drop header_bytes (left_of r))

module _ (m0 : Model) (r0 : Reader) (m : Model) (r : Reader) (so : Sofar m0 r0 m r) where
  pub sofar_end : eqb (length (left_of r)) 0 ≡ true → left_to_read (length (left_of r0)) m0 r0 ≡ Ok m
  sofar_end ended = so.is ∙ by_most so.most
    where
      by_most : (most : ℕ) → left_to_read most m r ≡ Ok m
      by_most zero = refl
      by_most (suc most) = cond-true (eqb (length (left_of r)) 0) _ _ ended

  module _ (more : eqb (length (left_of r)) 0 ≡ false) where
    some_most : (most : ℕ) → length (left_of r) ≤ most → (k : ℕ) × (most ≡ suc k)
    some_most zero enough = absurd (let differ = eqb-false (length (left_of r)) 0 more in differ (omega arith))
    some_most (suc k) enough = (k, refl)

    pub sofar_step : (m' : Model) (r' : Reader) → file_of r' ≡ file_of r → Carried m r m' r' → Sofar m0 r0 m' r'
    sofar_step m' r' file went =
        let less = some_most so.most so.enough in
        record {
          file = file ∙ so.file;
          most = less.0;
          enough = omega (arith, shorter m r m' r' went, so.enough, less.1);
          is = so.is ∙ ap (λ (k : ℕ). left_to_read k m r) less.1 ∙ carried_on less.0 m r more m' r' went;
        }

    pub sofar_fault : (f : Fault) → next_by m (take_record (stage_of m) (left_of r)) ≡ Err f.cause → f.place ≡ r.place → left_to_read (length (left_of r0)) m0 r0 ≡ Err f
    sofar_fault f is place =
        let less = some_most so.most so.enough in
        so.is ∙ ap (λ (k : ℕ). left_to_read k m r) less.1 ∙ unfolded less.0 m r more ∙ by_taken less.0 (take_record (stage_of m) (left_of r)) is
        ∙ ap (λ (p : Place). Err (fault f.cause p)) (sym place)
      where
        by_taken : (most : ℕ) (t : Result Taken Misfit) → next_by m t ≡ Err f.cause → read_taken (read_from most) m r.place t ≡ Err (fault f.cause r.place)
        by_taken most (Ok t) h = ap (go_on (read_from most (place_after r.place t) t.rest) r.place) h
        by_taken most (Err misfit) h = ap (λ (c : Cause). Err (fault c r.place)) (err_same h)

-- ---- the first record

module _ (tell : Asked → ℕ) (file : List ℕ) (r : Reader) (is_file : file_of r ≡ file) (is_first : r.place ≡ start) where
  at_first : left_of r ≡ file
  at_first = λ i. drop (is_first i).byte (is_file i)

  pub first_fault : (f : Fault) → first_by tell (take_record First (left_of r)) ≡ Err f.cause → f.place ≡ r.place → read_file tell file ≡ Err f
  first_fault f is place =
      ap (read_file tell) (sym at_first) ∙ by_taken (take_record First (left_of r)) is ∙ ap (λ (p : Place). Err (fault f.cause p)) (sym (place ∙ is_first))
    where
      by_taken : (t : Result Taken Misfit) → first_by tell t ≡ Err f.cause → read_first tell t ≡ Err (fault f.cause start)
      by_taken (Ok t) h = ap (go_on (read_from (length t.rest) (place_after start t) t.rest) start) h
      by_taken (Err misfit) h = ap (λ (c : Cause). Err (fault c start)) (err_same h)

  pub first_read : (m : Model) (r' : Reader) → Opened tell r m r' → read_file tell file ≡ left_to_read (length (left_of r')) m r'
  first_read m r' went =
      let place : r'.place ≡ place_after start went.t = went.place ∙ ap (λ (p : Place). place_after p went.t) is_first in
      ap (read_file tell) (sym at_first)
      ∙ ap (read_first tell) went.taken
      ∙ ap (go_on (read_from (length went.t.rest) (place_after start went.t) went.t.rest) start) went.done
      ∙ sym (λ i. read_from (length (went.rest i)) (place i) (went.rest i) m)
