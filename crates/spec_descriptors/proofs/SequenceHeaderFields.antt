-- A sequence header stands for one list of fields.
use Rattle.std.proofs.Common.{◌≡◌, List, refl, subst}
use Rattle.std.proofs.lemmas.Bool.{eqb-true, not-false}
use Rattle.spec_syntax.specs.Payload.{FieldValue, IsPlain}
use Rattle.spec_syntax.specs.Laws.{IsSyntaxOf}
use Rattle.spec_descriptors.specs.declared.fault.DescriptorFault.TheVariants as fault
use Rattle.spec_syntax.proofs.Fields.{Has, field_step, end_step, syntax_of}
use Rattle.spec_descriptors.specs.SequenceHeader.{SequenceHeaderFields, sequence_header}
use Rattle.spec_descriptors.specs.DescriptorFields.{sequence_header_fields}

sequence_header_is : (xs : List FieldValue) (r : SequenceHeaderFields) → Has sequence_header xs r → xs ≡ sequence_header_fields r
unfolding sequence_header
sequence_header_is xs r h =
    field_step h λ code ys e f p h1.
    field_step h1 λ primary ys1 e1 f1 p1 h2.
    field_step h2 λ additional ys2 e2 f2 p2 h3.
    end_step h3 λ e3 is.
    let same : code ≡ 0x69616d66 = eqb-true code 0x69616d66 (not-false _ p.0) in
    subst (λ (y : SequenceHeaderFields). xs ≡ sequence_header_fields y) is (rw (e, e1, e2, e3, same) refl)

sequence_header_plain : IsPlain sequence_header
unfolding sequence_header
sequence_header_plain = λ code primary additional. tt

pub sequence_header_syntax : IsSyntaxOf (λ f. fault.Field f) sequence_header sequence_header_fields
sequence_header_syntax = syntax_of _ sequence_header sequence_header_fields sequence_header_is sequence_header_plain
