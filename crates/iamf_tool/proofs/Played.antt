-- What is written for a plan plays its mix.
use Rattle.std.proofs.Common.{◌≡◌, ℕ, List, refl}
use Rattle.spec_sequence.specs.Reading.{Entry, values_of, Reads}
use Rattle.spec_play.specs.Mixes.{Rendition}
use Rattle.spec_play.specs.Laws.{IsPlayable}
use Rattle.spec_play.specs.Playing.{fixed_wave}
use Rattle.spec_play.proofs.PlayedFiles.{fixed_wave_plays}
use Rattle.iamf_sequence.specs.SequenceValue.{IsRead}
use Rattle.iamf_select.specs.PlanView.{PlanValue, IsSelected}
use Rattle.iamf_tool.specs.declared.command.Command.TheVariants as command
use Rattle.iamf_tool.specs.declared.status.Status.TheVariants.{Done, WriteFault}
use Rattle.iamf_tool.specs.Status.{status_line}
use Rattle.iamf_tool.specs.Outcome.{Output, PlayGives}
use Rattle.iamf_tool.specs.Ends.{Side, IsUntouched, Wrote, WroteFront, Noted, Concludes}

pub is_sequence : (bytes : List ℕ) (entries : List Entry) → IsRead bytes entries → Reads bytes (values_of entries)
is_sequence bytes entries read = record { entries = entries; values_are = refl; admitted = read.admitted; whole = read.whole }

plan_gives : (p : PlanValue) (r : Rendition) → IsSelected p r → IsPlayable r → PlayGives p.mix p.target p.sequence.bytes (Output (fixed_wave r))
plan_gives p r selected playable =
    (values_of p.sequence.entries, is_sequence p.sequence.bytes p.sequence.entries selected.read, selected.passes, record { heard = r; heard_is = selected.heard_is; plays = fixed_wave_plays r playable })

pub is_played : (p : PlanValue) (r : Rendition) (out notes : Side) → IsSelected p r → IsPlayable r → Wrote out (fixed_wave r) → IsUntouched notes → Concludes Done (command.Play p.mix p.target) p.sequence.bytes out notes
is_played p r out notes selected playable wrote quiet = record { output = fixed_wave r; gives = plan_gives p r selected playable; wrote = wrote; quiet = quiet }

pub is_cut_off : (p : PlanValue) (r : Rendition) (out notes : Side) → IsSelected p r → IsPlayable r → WroteFront out (fixed_wave r) → Noted notes (status_line WriteFault)
    → Concludes WriteFault (command.Play p.mix p.target) p.sequence.bytes out notes
is_cut_off p r out notes selected playable wrote noted = record { output = fixed_wave r; gives = plan_gives p r selected playable; wrote = wrote; noted = noted }
