use Rattle.std.proofs.Common.{◌∙◌, ap, refl}
use Rattle.spec_bits.specs.Bits.{all_bits}
use Rattle.iamf_obu.proofs.ContentParts.{frame_spells, front_spells}
use Rattle.iamf_obu.proofs.writing.write_obu_of.Goals as goal

pub put_payload-requires-clause-spells : goal.put_payload-requires-clause-spells
put_payload-requires-clause-spells c =
    frame_spells c.args.head.now.kind c.args.content.now c.in-AudioFrame.frame c.as_slice.result.now c.in-AudioFrame.frame.bytes.now c.in-AudioFrame.is (ap all_bits c.as_slice.ensures ∙ c.frame_id-id.ensures) refl

pub put_payload-requires-in_default : goal.put_payload-requires-in_default
put_payload-requires-in_default c = record {
  used = c.requires.used;
  kind = c.requires.kind;
  allowed = c.requires.allowed;
  obu_type = c.requires.obu_type;
  valid = (c.requires.valid.0, c.args.definitions.now, c.requires.valid.1);
  short = c.requires.short;
  rest = c.rest_of.ensures;
  spells =
      front_spells c.args.head.now.kind c.args.content.now c.in_ok-front-in_default.front.items c.as_slice-in_default.result.now c.rest_of.result.now c.in_default.not-AudioFrame c.in_ok-front-in_default.ensures
      c.as_slice-in_default.ensures.value c.rest_of.ensures;
}
