-- The types of OBUs, by their numbers.
use Rattle.std.proofs.Common.{◌≡◌, ℕ, true, refl, arith}
use Rattle.std.proofs.lemmas.Bool.Decides.{nat_tests}
use Rattle.spec_obu.specs.declared.obu_type.ObuType.{ObuType}
use Rattle.spec_obu.specs.declared.obu_type.ObuType.TheVariants.{AudioElement, ParameterBlock, Reserved}
use Rattle.spec_obu.specs.Kinds.{obu_type_of, is_reserved}

pub element_type : (n : ℕ) → obu_type_of n ≡ AudioElement → n ≡ 1
element_type n e = grind (arith, nat_tests)

pub block_type : (n : ℕ) → obu_type_of n ≡ ParameterBlock → n ≡ 3
block_type n e = grind (arith, nat_tests)

pub reserved_kind : (t : ObuType) → is_reserved t ≡ true → t ≡ Reserved
reserved_kind Reserved e = refl
reserved_kind _ e = absurd cc
