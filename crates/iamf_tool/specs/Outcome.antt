-- What each command gives for its input: an output, the place and the number of the first fault, or the number of the rule
-- for which a mix is not played.
use Rattle.std.specs.Prelude.{◌≡◌, ◌⊎◌, ℕ, List, Some, None}
use Rattle.spec_obu.specs.declared.HeaderFault.{HeaderFault}
use Rattle.spec_obu.specs.Code as headers
use Rattle.spec_obu.specs.Listing as listing
use Rattle.spec_values.specs.declared.fault.Fault.{Fault}
use Rattle.spec_values.specs.Code.{code_of}
use Rattle.spec_values.specs.Value.{ObuValue}
use Rattle.spec_sequence.specs.Reading.{Reads, Refuses}
use Rattle.spec_report.specs.Report.{report}
use Rattle.spec_values.specs.Canonical.{encoded}
use Rattle.spec_boxes.specs.Laws.{BoxRefuses}
use Rattle.spec_bodies.specs.SequenceFile.{IsFileOf, IsBareOf}
use Rattle.spec_play.specs.declared.target.Target.{Target}
use Rattle.spec_play.specs.declared.fault.PlayFault.{PlayFault}
use Rattle.spec_play.specs.Code as selection
use Rattle.spec_play.specs.Selection.{play_fault}
use Rattle.spec_play.specs.Playing.{Plays}
use Rattle.iamf_tool.specs.declared.command.Conversion.{Conversion}
use Rattle.iamf_tool.specs.declared.command.Conversion.TheVariants as conversion
use Rattle.iamf_tool.specs.declared.command.Command.{Command}
use Rattle.iamf_tool.specs.declared.command.Command.TheVariants as command

pub data Given : Type 0 where
  Output : List ℕ → Given
  Refusal : (place code : ℕ) → Given
  Unplayable : (code : ℕ) → Given

-- the lines of the OBUs, or the first fault of a header
abbrev pub ListingGives : List ℕ → Given → Type 0
ListingGives bytes (Output text) = listing.Lists 0 bytes text
ListingGives bytes (Refusal place code) = (fault : HeaderFault) × listing.Refuses 0 bytes place fault × (code ≡ headers.code_of fault)
ListingGives bytes (Unplayable code) = ⊥

-- the bytes are no sequence, by the fault of this number at this place
abbrev pub IsFaultOf : List ℕ → (place code : ℕ) → Type 0
IsFaultOf bytes place code = (fault : Fault) × Refuses bytes place fault × (code ≡ code_of fault)

-- what is made of the sequence that the bytes are, or the first fault of bytes that are none
abbrev pub SequenceGives : (List ObuValue → List ℕ) → List ℕ → Given → Type 0
SequenceGives made bytes (Output output) = (s : List ObuValue) × Reads bytes s × (output ≡ made s)
SequenceGives made bytes (Refusal place code) = IsFaultOf bytes place code
SequenceGives made bytes (Unplayable code) = ⊥

-- the MP4 file of the sequence that the bytes are, or the first fault of bytes that are none
abbrev pub MuxGives : List ℕ → Given → Type 0
MuxGives bytes (Output output) = IsFileOf bytes output
MuxGives bytes (Refusal place code) = IsFaultOf bytes place code
MuxGives bytes (Unplayable code) = ⊥

-- the bare sequence in a file, which reads, or the first rule on boxes that fails, or the first fault of the bare sequence
abbrev pub DemuxGives : List ℕ → Given → Type 0
DemuxGives f (Output output) = IsBareOf f output × (s : List ObuValue) × Reads output s
DemuxGives f (Refusal place code) = BoxRefuses f place code ⊎ ((bare : List ℕ) × IsBareOf f bare × (fault : Fault) × Refuses bare place fault × (code ≡ code_of fault))
DemuxGives f (Unplayable code) = ⊥

-- what is made of a whole input
abbrev pub Converts : Conversion → List ℕ → Given → Type 0
Converts conversion.List bytes given = ListingGives bytes given
Converts conversion.Canon bytes given = SequenceGives encoded bytes given
Converts conversion.Mux bytes given = MuxGives bytes given
Converts conversion.Demux bytes given = DemuxGives bytes given

-- the bytes are a sequence whose mix is played for the target
abbrev pub IsHeard : ℕ → Target → List ℕ → Type 0
IsHeard mix target bytes = (s : List ObuValue) × Reads bytes s × (play_fault s mix target ≡ None)

-- A WAV file that plays the mix of the sequence for the target: each sample is within nine sixteenths of the exact value,
-- clipped once. Or the first fault of bytes that are no sequence, or the first rule for which the mix is not played.
abbrev pub PlayGives : ℕ → Target → List ℕ → Given → Type 0
PlayGives mix target bytes (Output output) = (s : List ObuValue) × Reads bytes s × (play_fault s mix target ≡ None) × Plays s mix target output
PlayGives mix target bytes (Refusal place code) = IsFaultOf bytes place code
PlayGives mix target bytes (Unplayable code) =
    (s : List ObuValue) × Reads bytes s × (fault : PlayFault) × (play_fault s mix target ≡ Some fault) × (code ≡ selection.code_of fault)

abbrev pub Outcome : Command → List ℕ → Given → Type 0
Outcome command.Check bytes given = SequenceGives report bytes given
Outcome (command.Convert c) bytes given = Converts c bytes given
Outcome (command.Play mix target) bytes given = PlayGives mix target bytes given
