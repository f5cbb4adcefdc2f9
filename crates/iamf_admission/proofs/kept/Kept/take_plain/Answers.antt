use Rattle.std.proofs.Common.{◌≡◌, ℕ, List, [], ◌∷◌, ◌++◌, sym, ap, subst, ◌∙◌}
use Rattle.std.specs.Prelude.{None}
use Rattle.spec_bits.specs.Bits.{AreBytes}
use Rattle.spec_obu.specs.Kinds.{obu_type_of}
use Rattle.spec_values.specs.Content.{Context}
use Rattle.spec_rules.specs.Rules.{fault_before, fault_after}
use Rattle.spec_rules.specs.Descriptors.{frame_length}
use Rattle.spec_rules.specs.Role.{Role}
use Rattle.spec_sequence.specs.ValueRole.{role}
use Rattle.spec_sequence.specs.Reading.{Entry, roles, context_after, Early}
use Rattle.spec_sequence.proofs.Roles.{roles_more}
use Rattle.spec_sequence.proofs.RedundantCopies.{early_plain}
use Rattle.obu_header.specs.View.{head_of}
use Rattle.iamf_obu.specs.ContentView.{IsValidContent}
use Rattle.iamf_obu.specs.ContentReading.{IsRead}
use Rattle.iamf_rules.specs.Standing.{Stands as RulesStand}
use Rattle.iamf_admission.specs.PartsView.{HasParts}
use Rattle.iamf_admission.specs.Standing.{IsSound}
use Rattle.iamf_admission.proofs.Stepping.{IsRoled, IsFaultless, context_kept, stands_with, payload_fails, late_fails, entry, faultless, numbered}
use Rattle.iamf_admission.proofs.SoundRoles.{sound}
use Rattle.iamf_admission.proofs.kept.Kept.take_plain.Goals as goal

pub returns-in-Some : goal.returns-in-Some
returns-in-Some c = λ past st few.
    let view = c.args.obu.now in (
      Early (early_plain past (head_of view.head) view.payload.now c.requires.plain ∙ ap (fault_before (roles past)) (sym c.obu_type-obu_type.ensures) ∙ sym (c.fault_before.ensures (roles past) st.rules) ∙ c.in-Some.is),
      st,
    )

pub returns-in-Err : goal.returns-in-Err
returns-in-Err c = λ past st few.
    let l = roles past in
    let view = c.args.obu.now in
    let before : fault_before l (obu_type_of view.head.kind) ≡ None = ap (fault_before l) (sym c.obu_type-obu_type.ensures) ∙ sym (c.fault_before.ensures l st.rules) ∙ c.in_default.is in
    payload_fails c.args.self.now past view _ c.in-Err.error st (record { copy = c.requires.plain; before = before })
    (context_kept l _ _ (c.from.ensures ∙ c.frame_length-length.ensures l st.rules) (c.definitions.ensures l st.rules)) c.in-Err.ensures.reads

pub parts_of-requires : goal.parts_of-requires
parts_of-requires c = (_, c.args.obu.now.head.kind, c.from.ensures, c.in-Ok.ensures.valid)

pub role_of-role-requires : goal.role_of-role-requires
role_of-role-requires c = (_, c.args.obu.now.head.kind, c.in-Ok.ensures.valid)

pub fault_after-requires : goal.fault_after-requires
fault_after-requires c = c.role_of-role.ensures.defines c.in-Ok-parts_of.ensures.allowed

pub returns-in-Ok-Some : goal.returns-in-Ok-Some
returns-in-Ok-Some c = λ past st few.
    let l = roles past in
    let k = c.args.self.now in
    let view = c.args.obu.now in
    let content = c.in-Ok.content in
    let parts = c.in-Ok-parts_of.parts in
    let same = context_kept l _ _ (c.from.ensures ∙ c.frame_length-length.ensures l st.rules) (c.definitions.ensures l st.rules) in
    let before : fault_before l (obu_type_of view.head.kind) ≡ None = ap (fault_before l) (sym c.obu_type-obu_type.ensures) ∙ sym (c.fault_before.ensures l st.rules) ∙ c.in_default.is in
    let is : IsRoled past view content parts = record {
      timely = record { copy = c.requires.plain; before = before };
      read = subst (λ (x : Context). IsRead x view.head.kind (obu_type_of view.head.kind) view.payload.now content) same c.in-Ok.ensures.reads;
      valid = subst (λ (x : Context). IsValidContent x view.head.kind content) same c.in-Ok.ensures.valid;
      obu_type = c.in-Ok.ensures.obu_type;
      trims = c.in-Ok.ensures.trims;
      bytes = subst AreBytes c.as_bytes_below_256.ensures.same c.as_bytes_below_256.ensures.below;
      parts = subst (λ (n : ℕ). HasParts n content parts) (c.frame_length-length.ensures l st.rules) c.in-Ok-parts_of.ensures.parts;
    } in
    let late = rw c.in-Ok-Some.field-0-is at (c.in-Ok-Some.ensures.fault l st.rules st.coded) in
    late_fails k _ past view content parts c.in-Ok-Some.fault st (stands_with k c.fault_after.new.planes past st c.fault_after.ensures.room) is (late ∙ ap (fault_after l) c.role_of-role.ensures.role)

pub add-requires : goal.add-requires
add-requires c = record { defines = c.role_of-role.ensures.defines c.in-Ok-parts_of.ensures.allowed; valid = (_, c.args.obu.now.head.kind, c.in-Ok.ensures.valid) }

pub returns : goal.returns
returns c = λ past st few.
    let l = roles past in
    let k = c.args.self.now in
    let view = c.args.obu.now in
    let content = c.in-Ok.content in
    let parts = c.in-Ok-parts_of.parts in
    let same = context_kept l _ _ (c.from.ensures ∙ c.frame_length-length.ensures l st.rules) (c.definitions.ensures l st.rules) in
    let before : fault_before l (obu_type_of view.head.kind) ≡ None = ap (fault_before l) (sym c.obu_type-obu_type.ensures) ∙ sym (c.fault_before.ensures l st.rules) ∙ c.in_default.is in
    let is : IsRoled past view content parts = record {
      timely = record { copy = c.requires.plain; before = before };
      read = subst (λ (x : Context). IsRead x view.head.kind (obu_type_of view.head.kind) view.payload.now content) same c.in-Ok.ensures.reads;
      valid = subst (λ (x : Context). IsValidContent x view.head.kind content) same c.in-Ok.ensures.valid;
      obu_type = c.in-Ok.ensures.obu_type;
      trims = c.in-Ok.ensures.trims;
      bytes = subst AreBytes c.as_bytes_below_256.ensures.same c.as_bytes_below_256.ensures.below;
      parts = subst (λ (n : ℕ). HasParts n content parts) (c.frame_length-length.ensures l st.rules) c.in-Ok-parts_of.ensures.parts;
    } in
    let none = rw c.in-Ok-None.field-0-is at (c.in-Ok-None.ensures.fault l st.rules st.coded) in
    let e : Entry = entry view is.read.said_is is.read.tail in
    let fault_free : IsFaultless past view content parts e = faultless k past view content parts st is (none ∙ ap (fault_after l) c.role_of-role.ensures.role) in
    let sounds : IsSound (role e.value) = subst IsSound fault_free.role_is (sound (context_after past) view.head.kind (frame_length l) content parts is.valid is.parts) in
    let after = c.in-Ok-add.ensures {u = tt} past e (frame_length l) (stands_with k c.fault_after.new.planes past st c.fault_after.ensures.room) few is.parts fault_free.next fault_free.said sounds (c.role_of-role.ensures.role ∙ fault_free.role_is) in
    let more : RulesStand c.add.new.self.rules (l ++ role e.value ∷ []) = subst (λ (m : List Role). RulesStand c.add.new.self.rules m) (roles_more past e) after.rules in (
      e,
      record {
        next = fault_free.next;
        unit = c.unit_of-unit.ensures ∙ numbered past view content parts e c.obu_type-obu_type.result c.unit_number-before.result c.unit_number.result fault_free c.obu_type-obu_type.ensures is.obu_type
            (c.unit_number-before.ensures l st.rules) (c.unit_number.ensures (l ++ role e.value ∷ []) more);
        says = fault_free.said;
      },
      after,
    )
