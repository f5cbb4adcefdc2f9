use Rattle.std.proofs.Common.{◌≡◌, subst, rules}
use Rattle.spec_bits.specs.declared.FieldFault.TheVariants.{Short}
use Rattle.spec_obu.specs.declared.HeaderFault.{HeaderFault}
use Rattle.spec_obu.specs.declared.HeaderFault.TheVariants.{Cut}
use Rattle.spec_obu.specs.Faults.{IsFirstFault}
use Rattle.spec_bits.specs.ByteReading.{leb_at}
use Rattle.spec_bits.specs.declared.FieldFault.{FieldFault}
use Rattle.std.proofs.Common.{Err, drop, ℕ, List, Result}
use Rattle.iamf_stream.proofs.Fronts.{cut_waits, short_waits, sized_is_sure, unsized_is_sure}
use Rattle.iamf_stream.proofs.front.front_of.Goals as goal

pub returns-then-eq : goal.returns-then-eq
returns-then-eq c =
    let cut : c.in-Err.fault ≡ Cut = search rules in
    cut_waits _ _ c.requires c.in-Ok-obu_length.ensures (subst (λ (f : HeaderFault). IsFirstFault f c.args.bytes.now) cut c.in-Err.ensures.fault)

pub returns-else-eq : goal.returns-else-eq
returns-else-eq c =
    let uncut : c.in-Err.fault ≡ Cut → ⊥ = search rules in
    sized_is_sure _ _ _ c.in-Ok-obu_length.ensures uncut c.in-Err.ensures.fault

pub returns-then-eq-2 : goal.returns-then-eq-2
returns-then-eq-2 c =
    let short : c.in-Err-obu_length.no_size ≡ Short = search rules in
    short_waits _ _ c.requires (rw short at c.in-Err-obu_length.ensures) c.in-Err.ensures.fault

pub returns-else-eq-2 : goal.returns-else-eq-2
returns-else-eq-2 c =
    let long : c.in-Err-obu_length.no_size ≡ Short → ⊥ = search rules in
    unsized_is_sure _ _ _ c.requires c.in-Err-obu_length.ensures long c.in-Err.ensures.fault
