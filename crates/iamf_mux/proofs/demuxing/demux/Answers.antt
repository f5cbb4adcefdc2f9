use Rattle.std.proofs.Common.{ℕ, List, sym, subst}
use Rattle.spec_values.specs.Value.{ObuValue}
use Rattle.spec_sequence.specs.Reading.{Reads}
use Rattle.spec_bodies.specs.SequenceFile.{IsBareOf}
use Rattle.iamf_mux.proofs.BareTracks.{bare_is}
use Rattle.iamf_mux.proofs.demuxing.demux.Goals as goal

pub returns-in-Ok-rebuild : goal.returns-in-Ok-rebuild
returns-in-Ok-rebuild c =
    let t = c.in-Ok.ensures in
    subst (λ (b : List ℕ). IsBareOf c.args.file.now b × (s : List ObuValue) × Reads b s) (sym c.in-Ok-rebuild.ensures.bytes) (bare_is c.args.file.now c.in-Ok.track t.0, t.1, t.2)
