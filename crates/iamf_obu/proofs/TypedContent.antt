-- What is read by a type is read by the number of the type.
use Rattle.std.proofs.Common.{◌≡◌, ℕ, List, subst}
use Rattle.std.specs.Prelude.{Result}
use Rattle.spec_obu.specs.declared.obu_type.ObuType.{ObuType}
use Rattle.spec_obu.specs.Kinds.{obu_type_of}
use Rattle.spec_values.specs.declared.fault.Fault.{Fault}
use Rattle.spec_values.specs.Content.{Context}
use Rattle.iamf_bits.specs.declared.unread.Unread.{Unread}
use Rattle.iamf_obu.specs.declared.content.Content.{Content}
use Rattle.iamf_obu.specs.ContentReading.{ReadsContent}

pub reads_typed : (context : Context) (kind : ℕ) (k : ObuType) (given payload : List ℕ) (r : Result Content (Unread Fault)) → k ≡ obu_type_of kind → given ≡ payload → ReadsContent context kind k given r
    → ReadsContent context kind (obu_type_of kind) payload r
reads_typed context kind k given payload r typed same reads =
    subst (λ (x : ObuType). ReadsContent context kind x payload r) typed (subst (λ (p : List ℕ). ReadsContent context kind k p r) same reads)
