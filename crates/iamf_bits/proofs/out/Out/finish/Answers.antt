use Rattle.std.proofs.Common.{◌≡◌, ap, sym, ◌∙◌}
use Rattle.std.proofs.lemmas.List.{append-nil}
use Rattle.spec_bits.specs.Bits.{all_bits, bits_of}
use Rattle.iamf_bits.specs.Written.{Written, written_bits}
use Rattle.iamf_bits.proofs.out.Out.finish.Goals as goal

pub returns : goal.returns
unfolding written_bits bits_of
returns c =
    let whole : c.self.inside.used ≡ 0 = ap (λ (w : Written). w.used) c.self.view_is ∙ c.requires in
    rw (← c.self.view_is, whole) (sym (append-nil (all_bits c.self.inside.bytes.items)))
