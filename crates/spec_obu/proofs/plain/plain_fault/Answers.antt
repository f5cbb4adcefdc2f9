use Rattle.std.proofs.Common.{refl, arith}
use Rattle.spec_obu.proofs.PlainLaws.{suffix}
use Rattle.spec_obu.proofs.PlainTests.{first_is_leb, first_is_size, first_is_flags, first_is_cut, first_is_fields, none_is, refused_by, refused_header, passed_by, passed_header, are_bytes}
use Rattle.spec_obu.proofs.plain.plain_fault.Goals as goal

pub returns-then-has_wrong_size-clause-fault : goal.returns-then-has_wrong_size-clause-fault
returns-then-has_wrong_size-clause-fault c f = let rest = suffix 1 c.args.bytes.now in refused_by _ _ f (first_is_leb _ (rw rest at c.if-has_wrong_size.ensures))

pub returns-then-has_wrong_size-clause-header : goal.returns-then-has_wrong_size-clause-header
returns-then-has_wrong_size-clause-header c = let rest = suffix 1 c.args.bytes.now in refused_header _ _ c.requires (first_is_leb _ (rw rest at c.if-has_wrong_size.ensures))

pub returns-then-is_too_long-clause-fault : goal.returns-then-is_too_long-clause-fault
returns-then-is_too_long-clause-fault c f = let rest = suffix 1 c.args.bytes.now in refused_by _ _ f (first_is_size _ (rw rest at c.if-has_wrong_size.ensures) (rw rest at c.if-is_too_long.ensures))

pub returns-then-is_too_long-clause-header : goal.returns-then-is_too_long-clause-header
returns-then-is_too_long-clause-header c = let rest = suffix 1 c.args.bytes.now in refused_header _ _ c.requires (first_is_size _ (rw rest at c.if-has_wrong_size.ensures) (rw rest at c.if-is_too_long.ensures))

pub returns-then-has_wrong_flags-clause-fault : goal.returns-then-has_wrong_flags-clause-fault
returns-then-has_wrong_flags-clause-fault c f = let rest = suffix 1 c.args.bytes.now in refused_by _ _ f (first_is_flags _ (rw rest at c.if-has_wrong_size.ensures) (rw rest at c.if-is_too_long.ensures) c.if-has_wrong_flags.ensures)

pub returns-then-has_wrong_flags-clause-header : goal.returns-then-has_wrong_flags-clause-header
returns-then-has_wrong_flags-clause-header c = let rest = suffix 1 c.args.bytes.now in refused_header _ _ c.requires (first_is_flags _ (rw rest at c.if-has_wrong_size.ensures) (rw rest at c.if-is_too_long.ensures) c.if-has_wrong_flags.ensures)

pub returns-then-is_cut-clause-fault : goal.returns-then-is_cut-clause-fault
returns-then-is_cut-clause-fault c f = let rest = suffix 1 c.args.bytes.now in refused_by _ _ f (first_is_cut _ (rw rest at c.if-has_wrong_size.ensures) (rw rest at c.if-is_too_long.ensures) c.if-has_wrong_flags.ensures (rw rest at c.if-is_cut.ensures))

pub returns-then-is_cut-clause-header : goal.returns-then-is_cut-clause-header
returns-then-is_cut-clause-header c = let rest = suffix 1 c.args.bytes.now in refused_header _ _ c.requires (first_is_cut _ (rw rest at c.if-has_wrong_size.ensures) (rw rest at c.if-is_too_long.ensures) c.if-has_wrong_flags.ensures (rw rest at c.if-is_cut.ensures))

pub returns-then-has_wrong_fields-clause-fault : goal.returns-then-has_wrong_fields-clause-fault
returns-then-has_wrong_fields-clause-fault c f = let rest = suffix 1 c.args.bytes.now in refused_by _ _ f (first_is_fields _ (rw rest at c.if-has_wrong_size.ensures) (rw rest at c.if-is_too_long.ensures) c.if-has_wrong_flags.ensures (rw rest at c.if-is_cut.ensures) (rw rest at c.if-has_wrong_fields.ensures))

pub returns-then-has_wrong_fields-clause-header : goal.returns-then-has_wrong_fields-clause-header
returns-then-has_wrong_fields-clause-header c = let rest = suffix 1 c.args.bytes.now in refused_header _ _ c.requires (first_is_fields _ (rw rest at c.if-has_wrong_size.ensures) (rw rest at c.if-is_too_long.ensures) c.if-has_wrong_flags.ensures (rw rest at c.if-is_cut.ensures) (rw rest at c.if-has_wrong_fields.ensures))

pub returns-clause-fault : goal.returns-clause-fault
returns-clause-fault c f = let rest = suffix 1 c.args.bytes.now in passed_by _ (none_is _ (rw rest at c.if-has_wrong_size.ensures) (rw rest at c.if-is_too_long.ensures) c.if-has_wrong_flags.ensures (rw rest at c.if-is_cut.ensures) (rw rest at c.if-has_wrong_fields.ensures)) f

pub returns-clause-header : goal.returns-clause-header
returns-clause-header c = let rest = suffix 1 c.args.bytes.now in (λ _. passed_header _ (are_bytes c.args.bytes.now (λ i. let small = c.type_inv.bytes i in omega (arith, small))) c.requires (none_is _ (rw rest at c.if-has_wrong_size.ensures) (rw rest at c.if-is_too_long.ensures) c.if-has_wrong_flags.ensures (rw rest at c.if-is_cut.ensures) (rw rest at c.if-has_wrong_fields.ensures)), λ _. refl)
