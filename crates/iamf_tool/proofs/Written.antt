-- A command ends by what was written of its output.
use Rattle.std.proofs.Common.{◌≡◌, ℕ, List, refl, sym, subst}
use Rattle.std.specs.Prelude.{Option}
use Rattle.std.proofs.KnownBytes.{Keeps-refl}
use Rattle.iamf_tool.specs.declared.command.Command.{Command}
use Rattle.iamf_tool.specs.declared.status.Status.{Status}
use Rattle.iamf_tool.specs.declared.status.Status.TheVariants.{Done, WriteFault}
use Rattle.iamf_tool.specs.Outcome.{Output, Outcome}
use Rattle.iamf_tool.specs.Status.{status_line}
use Rattle.iamf_tool.specs.Ends.{Side, Wrote, WroteFront, Noted, Concludes}
use Rattle.iamf_tool.proofs.Pieces.{between}

pub all_written : (c : Command) (b output : List ℕ) (out : Side) (notes : Option (List ℕ)) (n : ℕ) → Outcome c b (Output output) → Wrote out output → Concludes Done c b out (between notes notes n n)
all_written c b output out notes n gives wrote = record { output = output; gives = gives; wrote = wrote; quiet = record { kept = Keeps-refl notes; same = refl } }

pub cut_off : (status : Status) (c : Command) (b output : List ℕ) (out notes : Side) → status ≡ WriteFault → Outcome c b (Output output) → WroteFront out output → Noted notes (status_line WriteFault) → Concludes status c b out notes
cut_off status c b output out notes is gives wrote noted =
    subst (λ (s : Status). Concludes s c b out notes) (sym is) (record { output = output; gives = gives; wrote = wrote; noted = noted })
