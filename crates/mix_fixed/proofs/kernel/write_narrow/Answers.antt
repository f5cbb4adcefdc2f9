use Rattle.std.proofs.Common.{map, ap, ◌∙◌}
use Rattle.spec_layouts.specs.Layouts.{channels}
use Rattle.spec_gains.specs.Modes.{coefficients_of}
use Rattle.spec_demix.specs.Kinds.{kind_of}
use Rattle.spec_demix.specs.Values.{value_of}
use Rattle.mix_fixed.specs.Origins.{all_from}
use Rattle.mix_fixed.proofs.QuietLemmas.{bed_same}
use Rattle.mix_fixed.proofs.kernel.write_narrow.Goals as goal

pub returns : goal.returns
returns g c =
    let o = c.args.origins.now in
    let coded = c.args.coded.now in
    let units = bed_same _ coded o.sent c.args.scaled.now c.requires.scaled c.requires.quiet in
    let bed = c.bed-bed.ensures ∙ ap (all_from o (coefficients_of c.args.params.mode) c.args.params.weight) units in
    c.gather.ensures ∙ ap (λ b. map (value_of (kind_of c.args.layout) b) (channels c.args.layout)) bed
