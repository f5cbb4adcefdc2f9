use Rattle.std.proofs.Common.{◌≡◌, ap, ◌∙◌}
use Rattle.std.proofs.lemmas.List.{append-nil}
use Rattle.spec_bits.specs.Bits.{bits_of}
use Rattle.spec_bits.proofs.BitsLaws.{all_bits-append}
use Rattle.iamf_bits.specs.Written.{Written, written_bits}
use Rattle.iamf_bits.proofs.Slices.{all_of}
use Rattle.iamf_bits.proofs.out.Out.put_slices.Goals as goal

pub returns-clause-bits : goal.returns-clause-bits
unfolding written_bits bits_of
returns-clause-bits c =
    let whole : c.self.inside.used ≡ 0 = ap (λ (w : Written). w.used) c.self.view_is ∙ c.requires.used in
    rw (← c.self.view_is, whole, c.in_ok-extend_by_all.ensures.items, append-nil, append-nil) (all_bits-append c.self.inside.bytes.items (all_of c.args.slices.now))
