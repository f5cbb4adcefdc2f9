use Rattle.std.proofs.Common.{◌≡◌, ◌++◌, [], ◌∷◌, ap, ◌∙◌, append_assoc}
use Rattle.std.proofs.lemmas.List.{append-nil}
use Rattle.spec_bits.specs.Bits.{bits_of, all_bits}
use Rattle.spec_bits.specs.Form.{canonical}
use Rattle.spec_bits.proofs.BitsLaws.{all_bits-append}
use Rattle.iamf_bits.specs.Written.{Written, written_bits}
use Rattle.iamf_bits.proofs.out.Out.put_text.Goals as goal

pub returns-clause-bits : goal.returns-clause-bits
unfolding written_bits bits_of canonical
returns-clause-bits c =
    let whole : c.self.inside.used ≡ 0 = ap (λ (w : Written). w.used) c.self.view_is ∙ c.requires.whole in
    rw (← c.self.view_is, whole, c.in_ok-push.ensures.items, c.in_ok-extend_from_slice.ensures.items, c.in_ok-reserve.ensures.items, append-nil, append-nil)
    (ap all_bits (append_assoc c.self.inside.bytes.items c.args.text.now (0 ∷ [])) ∙ all_bits-append c.self.inside.bytes.items (c.args.text.now ++ 0 ∷ []))
