use Rattle.std.proofs.Common.{◌+◌, ◌%◌, arith}
use Rattle.std.proofs.lemmas.Nat.{one_shl, shl_whole}
use Rattle.spec_bits.specs.Form.{canonical}
use Rattle.iamf_bits.specs.Written.{written_bits}
use Rattle.iamf_bits.proofs.Puts.{whole_put}
use Rattle.iamf_bits.proofs.out.Out.put_bits.Goals as goal

pub returns-clause-bits : goal.returns-clause-bits
unfolding written_bits canonical
returns-clause-bits c =
    let i = c.self.inside in
    let shift = one_shl ((i.used + c.args.n) % 8) 64 (omega arith) in
    let above = shl_whole i.part i.used c.args.n 64 c.self.invariant.1 (omega arith) in
    rw (← c.self.view_is, shift, c.in_ok-extend_from_slice.ensures.items, c.to_be_bytes-whole.ensures, above, c.from.ensures)
    (whole_put i.bytes.items i.used i.part c.args.n c.args.value c.self.invariant.0 c.self.invariant.1 c.requires.high c.requires.fits)
