use Rattle.std.proofs.Common.{◌≡◌, ap, ◌∙◌}
use Rattle.std.proofs.lemmas.List.{append-nil}
use Rattle.spec_bits.specs.Bits.{bits_of}
use Rattle.spec_bits.specs.Leb.{leb_bytes}
use Rattle.spec_bits.specs.Form.{canonical}
use Rattle.spec_bits.proofs.BitsLaws.{all_bits-append}
use Rattle.iamf_bits.specs.Written.{Written, written_bits}
use Rattle.iamf_bits.proofs.out.Out.put_leb.Goals as goal

pub returns-clause-bits : goal.returns-clause-bits
unfolding written_bits bits_of canonical
returns-clause-bits c =
    let whole : c.self.inside.used ≡ 0 = ap (λ (w : Written). w.used) c.self.view_is ∙ c.requires in
    rw (← c.self.view_is, whole, c.in_ok-extend_from_slice.ensures.items, append-nil, append-nil, c.as_slice.ensures, c.new-leb.ensures) (all_bits-append c.self.inside.bytes.items (leb_bytes c.args.value))
