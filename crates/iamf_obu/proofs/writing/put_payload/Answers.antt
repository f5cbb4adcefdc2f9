use Rattle.std.proofs.Common.{arith}
use Rattle.iamf_bits.proofs.Place.{AreBytes-from}
use Rattle.obu_header.specs.View.{head_of}
use Rattle.iamf_obu.specs.ContentWriting.{context}
use Rattle.iamf_obu.proofs.CanonicalObu.{IsPut, is_short, put_is}
use Rattle.iamf_obu.proofs.writing.put_payload.Goals as goal

pub put_obu-requires-clause-short : goal.put_obu-requires-clause-short
put_obu-requires-clause-short c =
    let v = c.requires.valid in
    let put : IsPut (context v.0 v.1) (head_of c.args.head.now) c.args.content.now c.args.front.now c.args.rest.now = record {
      valid = v.2;
      typed = c.requires.obu_type;
      spells = c.requires.spells;
      is_rest = c.requires.rest;
      front_is = AreBytes-from c.args.front.now (λ i. omega (arith, c.type_inv.front i));
      rest_are = AreBytes-from c.args.rest.now (λ i. omega (arith, c.type_inv.rest i));
    } in
    is_short (context v.0 v.1) (head_of c.args.head.now) c.args.content.now c.args.front.now c.args.rest.now put c.requires.short

pub returns-clause-bits : goal.returns-clause-bits
returns-clause-bits c =
    let v = c.requires.valid in
    let put : IsPut (context v.0 v.1) (head_of c.args.head.now) c.args.content.now c.args.front.now c.args.rest.now = record {
      valid = v.2;
      typed = c.requires.obu_type;
      spells = c.requires.spells;
      is_rest = c.requires.rest;
      front_is = AreBytes-from c.args.front.now (λ i. omega (arith, c.type_inv.front i));
      rest_are = AreBytes-from c.args.rest.now (λ i. omega (arith, c.type_inv.rest i));
    } in
    put_is (context v.0 v.1) (head_of c.args.head.now) c.args.content.now c.args.front.now c.args.rest.now c.put_obu.result c.args.out.now.bits c.put_obu.new.out.bits put c.put_obu.ensures.bits
