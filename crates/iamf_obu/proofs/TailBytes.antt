-- The bytes after the fields of a valid content are bytes.
use Rattle.std.proofs.Common.{ℕ, List, [], ◌∷◌, ◌++◌, Option, Some, None, sym, subst, arith}
use Rattle.std.specs.List.{All, flat_map}
use Rattle.std.proofs.lemmas.List.Elements.{All-head, All-tail}
use Rattle.spec_bits.specs.Bits.{AreBytes}
use Rattle.spec_bits.proofs.ByteForms.{AreBytes-append}
use Rattle.spec_bits.proofs.CanonLaws.{AreBytes-utf8}
use Rattle.spec_descriptors.specs.Tags.{Tag, IsTag, tag_bytes}
use Rattle.spec_values.specs.Content as said
use Rattle.spec_values.specs.Content.{Context}
use Rattle.obu_mix.specs.TagView.{tags_bytes, CanBeTagged}
use Rattle.obu_mix.specs.MixView.{tags_in}
use Rattle.iamf_obu.specs.declared.content.Content.{Content}
use Rattle.iamf_obu.specs.declared.content.Content.TheVariants.{SequenceHeader, CodecConfig, AudioElement, MixPresentation, ParameterBlock, TemporalDelimiter, AudioFrame, Reserved}
use Rattle.iamf_obu.specs.ContentView.{Holds, IsValidContent}
use Rattle.iamf_obu.specs.ContentWriting.{rest_bytes}

zero_byte : AreBytes (0 ∷ [])
zero_byte = (omega arith, tt)

tag_is : (t : Tag) → IsTag t → AreBytes (tag_bytes t)
tag_is t is =
    AreBytes-append (t.name ++ 0 ∷ []) (t.value ++ 0 ∷ []) (AreBytes-append t.name (0 ∷ []) (AreBytes-utf8 t.name is.0.utf8) zero_byte) (AreBytes-append t.value (0 ∷ []) (AreBytes-utf8 t.value is.1.utf8) zero_byte)

tags_are : (ts : List Tag) → All IsTag ts → AreBytes (flat_map tag_bytes ts)
tags_are [] all = tt
tags_are (t ∷ ts) all = AreBytes-append (tag_bytes t) (flat_map tag_bytes ts) (tag_is t (All-head IsTag t ts all)) (tags_are ts (All-tail IsTag t ts all))

list_is : (tags : Option (List Tag)) (rest : List ℕ) → CanBeTagged tags rest → AreBytes (tags_bytes tags)
list_is None rest can = tt
list_is (Some ts) rest can = (omega (arith, can.0), tags_are ts can.1)

pub tail_bytes : (context : Context) (kind : ℕ) (content : Content) (c : said.Content) (tail : List ℕ) → IsValidContent context kind content → Holds content c tail → AreBytes (rest_bytes content) → AreBytes tail
tail_bytes context kind (SequenceHeader h) c tail valid holds are = subst AreBytes (sym holds.1) are
tail_bytes context kind (CodecConfig r) c tail valid holds are = subst AreBytes (sym holds.4) are
tail_bytes context kind (AudioElement e) c tail valid holds are = subst AreBytes (sym holds.1) are
tail_bytes context kind (MixPresentation m) c tail valid holds are = subst AreBytes (sym holds.1) (AreBytes-append (tags_bytes (tags_in m.value)) m.value.tail.now (list_is (tags_in m.value) m.value.tail.now valid.tags) are)
tail_bytes context kind (ParameterBlock b) c tail valid holds are = subst AreBytes (sym holds.1) are
tail_bytes context kind (TemporalDelimiter bytes) c tail valid holds are = subst AreBytes (sym holds.1) are
tail_bytes context kind (AudioFrame f) c tail valid holds are = subst AreBytes (sym holds.1) are
tail_bytes context kind (Reserved bytes) c tail valid holds are = subst AreBytes (sym holds.1) are
