-- The view of an OBU of a sequence is of it, by the frame length and the definitions of the whole sequence.
use Rattle.std.proofs.Common.{◌≡◌, ℕ, List, [], sym, subst}
use Rattle.spec_bits.specs.Bits.{AreBytes}
use Rattle.spec_blocks.specs.Shape.{Definition}
use Rattle.spec_values.specs.Content.{Context}
use Rattle.spec_values.specs.Value.{Spells}
use Rattle.spec_rules.specs.Descriptors.{frame_length, definitions}
use Rattle.spec_rules.specs.Admitted.{IsAdmitted, AdmittedAfter}
use Rattle.spec_rules.specs.Role.{Role}
use Rattle.spec_sequence.specs.Reading.{roles}
use Rattle.spec_sequence.proofs.FixedContext.{keeps-nil}
use Rattle.obu_header.specs.declared.view.ObuView.{ObuView}
use Rattle.iamf_obu.specs.ContentWriting.{context}
use Rattle.iamf_sequence.specs.declared.parts.Parts.{Parts}
use Rattle.iamf_sequence.specs.Places.{IsObuAt}
use Rattle.iamf_sequence.specs.SequenceValue.{SequenceValue}
use Rattle.iamf_sequence.specs.SequenceView.{IsSequence}
use Rattle.iamf_sequence.specs.Encoding.{IsViewOf}
use Rattle.iamf_sequence.proofs.AdmittedRoles.{roles_admitted}
use Rattle.iamf_sequence.proofs.Lasting.{spelled_at}
use Rattle.iamf_sequence.proofs.WrittenObus.{context_is}

all_admitted : (l : List Role) → IsAdmitted l → AdmittedAfter [] l
unfolding IsAdmitted
all_admitted l h = h

pub view_of_obu : (p : Parts) (v : SequenceValue) (i : ℕ) (view : ObuView) (n : ℕ) (ds : List Definition) → AreBytes v.bytes → IsSequence p v → (at : IsObuAt v i view)
    → n ≡ frame_length (roles v.entries) → ds ≡ definitions (roles v.entries) → IsViewOf n ds view at.entry.value
view_of_obu p v i view n ds are is at length_is definitions_are =
    let r = spelled_at [] v.bytes v.entries i at.entry are keeps-nil is.read.admitted (all_admitted (roles v.entries) (roles_admitted p.admission v.entries is.admission)) at.there in
    record {
      head = sym at.head;
      bytes = r.piece;
      are = r.are;
      spells = subst (λ (b : List ℕ). Spells (context n ds) at.entry.value b r.piece) (sym at.payload)
          (subst (λ (x : Context). Spells x at.entry.value at.entry.payload r.piece) (context_is v.entries n ds length_is definitions_are) r.spells);
    }
