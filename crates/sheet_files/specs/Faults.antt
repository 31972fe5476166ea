-- The faults of a file: number, layer and inner refusal follow from the cause; and the line that a fault prints.
use Rattle.std.specs.Prelude.{ℕ, List, ◌++◌, Some, None, Option, codes}
use Rattle.std.specs.Fmt.{decimal}
use Rattle.network.specs.Refusals.{refusal_number}
use Rattle.network.specs.declared.refusals.Refusal.{Refusal}
use Rattle.records.specs.Faults.{misfit_number}
use Rattle.records.specs.declared.faults.Misfit.{Misfit}
use Rattle.records.specs.declared.faults.Misfit.TheVariants.{FileEnds, KindNotDefined, KindNotAllowed, BodyUnfit}
use Rattle.sheet_files.specs.declared.faults.Cause.{Cause}
use Rattle.sheet_files.specs.declared.faults.Cause.TheVariants as causes
use Rattle.sheet_files.specs.declared.faults.Fault.{Fault}
use Rattle.sheet_files.specs.declared.faults.Layer.{Layer}
use Rattle.sheet_files.specs.declared.faults.Layer.TheVariants.{Bytes, Records, Sheet}

abbrev pub fault_number : Cause → ℕ
fault_number (causes.Misfit misfit) = misfit_number misfit
fault_number (causes.Refused refusal) = 21

abbrev misfit_layer : Misfit → Layer
misfit_layer FileEnds = Bytes
misfit_layer KindNotDefined = Records
misfit_layer KindNotAllowed = Records
misfit_layer BodyUnfit = Records

abbrev pub layer_of : Cause → Layer
layer_of (causes.Misfit misfit) = misfit_layer misfit
layer_of (causes.Refused refusal) = Sheet

abbrev pub layer_number : Layer → ℕ
layer_number Bytes = 1
layer_number Records = 2
layer_number Sheet = 3

-- the sheet's own refusal, if it is one
abbrev pub refusal_in : Cause → Option Refusal
refusal_in (causes.Misfit misfit) = None
refusal_in (causes.Refused refusal) = Some refusal

-- the number of the sheet's own refusal, 0 if there is none
abbrev pub inner_number : Cause → ℕ
inner_number (causes.Misfit misfit) = 0
inner_number (causes.Refused refusal) = refusal_number refusal

-- the bytes that a fault prints
abbrev pub fault_text : Fault → List ℕ
fault_text fault =
    codes "fault " ++ decimal (fault_number fault.cause) ++ codes " layer " ++ decimal (layer_number (layer_of fault.cause)) ++ codes " record " ++ decimal fault.place.«record» ++ codes " byte " ++ decimal fault.place.byte ++ codes " refusal " ++ decimal (inner_number fault.cause)
