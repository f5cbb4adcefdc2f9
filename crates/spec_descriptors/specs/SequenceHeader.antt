-- IAMF 1.0.0, "IA Sequence Header OBU Syntax and Semantics". Profile 2 is this project's own.
use Rattle.std.specs.Prelude.{ℕ, not, [], ◌∷◌, nat_lt, ◌==◌}
use Rattle.spec_bits.specs.Form.{Number}
use Rattle.spec_syntax.specs.Syntax.{Syntax, End, field, refuse, ◌>>=◌}
use Rattle.spec_descriptors.specs.declared.fault.DescriptorFault.{DescriptorFault}
use Rattle.spec_descriptors.specs.declared.fault.DescriptorFault.TheVariants as fault

pub record SequenceHeaderFields : Type 0 where
  pub primary_profile : ℕ
  pub additional_profile : ℕ

unfoldable pub sequence_header : Syntax DescriptorFault SequenceHeaderFields
sequence_header = do
  _ ← field (Number 32) (refuse fault.Code (λ ia_code. not (ia_code == 0x69616d66)) ∷ [])
  primary_profile ← field (Number 8) (refuse fault.Profile (λ n. nat_lt 2 n) ∷ [])
  additional_profile ← field (Number 8) []
  End (record { primary_profile = primary_profile; additional_profile = additional_profile })
