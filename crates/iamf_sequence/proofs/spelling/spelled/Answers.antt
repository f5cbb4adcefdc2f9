use Rattle.std.proofs.Common.{◌++◌, ap, subst, ◌∙◌}
use Rattle.spec_bits.specs.Bits.{Bits, AreBytes, all_bits}
use Rattle.spec_values.specs.Canonical.{canonical_obu}
use Rattle.iamf_sequence.proofs.AdmittedContents.{alone}
use Rattle.iamf_sequence.proofs.spelling.spelled.Goals as goal

pub returns : goal.returns
returns c =
    let are = subst AreBytes (c.as_bytes_below_256-spelling.ensures.same ∙ c.as_slice.ensures.value) c.as_bytes_below_256-spelling.ensures.below in
    alone c.finish-spelling.result.items c.put_admitted.new.out.bits c.args.admission.now c.args.view.now c.args.obu.now are c.finish-spelling.ensures
    (λ bytes at l e one. c.in_ok-put_admitted.ensures.bits bytes at l e one ∙ ap (λ (b : Bits). b ++ all_bits (canonical_obu e.value)) c.new-out.ensures.bits)
