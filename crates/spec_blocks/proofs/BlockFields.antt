-- A parameter block and an audio frame's id stand for one list of fields.
use Rattle.std.proofs.Common.{◌≡◌, ℕ, suc, false, List, [], ◌∷◌, length, Option, Some, None, refl, sym, ap, subst, ◌∙◌, arith}
use Rattle.std.specs.Prelude.{nat_lt, ◌==◌}
use Rattle.std.specs.List.{zip}
use Rattle.std.proofs.lemmas.Bool.{eqb-true, eqb-false}
use Rattle.std.proofs.lemmas.List.{append-nil}
use Rattle.spec_bits.specs.Form.{Leb128}
use Rattle.spec_syntax.specs.Syntax.{each}
use Rattle.spec_syntax.specs.Payload.{FieldValue, a_field, IsPlain}
use Rattle.spec_syntax.specs.Repetition.{joined}
use Rattle.spec_syntax.specs.Laws.{IsSyntaxOf}
use Rattle.spec_syntax.proofs.Fields.{Has, field_step, end_step, choice_step, check_step, bind_step, each_is, syntax_of}
use Rattle.spec_syntax.proofs.Plain.{plain_bind, plain_each}
use Rattle.spec_descriptors.specs.ParameterDefinition.{FixedFields}
use Rattle.spec_blocks.specs.declared.fault.BlockFault.TheVariants as fault
use Rattle.spec_blocks.specs.Shape.{Shape, MixGain, Demixing, ReconGain, Definition, shape_of}
use Rattle.spec_blocks.specs.ParameterBlock.{GainFields, ReconFields, ContentFields, Gain, BlockFields, gain_part, gain_in, subblocks_in, subblocks_of, timed_gain, timed_gain_in, durations_of, gains_of, timed_gains, constant_gains, own_gains, defined_gains, gains, demixing, ones_below, recon_part, recon_in, recon_gains, content_of, parameter_block}
use Rattle.spec_blocks.specs.BlockFieldLists.{gain_fields, timed_gain_fields, subblock_fields, recon_fields, content_fields, block_fields, frame_fields}
use Rattle.spec_blocks.specs.AudioFrame.{audio_frame}

-- ---- mix gains

above_one : (n : ℕ) → nat_lt 2 n ≡ false → (n ≡ 0 → ⊥) → (n ≡ 1 → ⊥) → n ≡ 2
above_one n e a b = grind arith

gain_is : (m : ℕ) (before : List GainFields) (xs : List FieldValue) (g : GainFields) → Has (gain_in m before) xs g → xs ≡ gain_fields g
unfolding gain_part
gain_is m before xs g h =
    field_step h λ animation_type ys e f p h1.
    field_step h1 λ start ys1 e1 f1 p1 h2.
    choice_step h2
    (λ is_step h3.
    end_step h3 λ e2 is.
    subst (λ (y : GainFields). xs ≡ gain_fields y) is (rw (e, e1, e2, eqb-true animation_type 0 is_step) refl))
    (λ no_step h3.
    field_step h3 λ end ys2 e2 f2 p2 h4.
    choice_step h4
    (λ is_linear h5.
    end_step h5 λ e3 is.
    subst (λ (y : GainFields). xs ≡ gain_fields y) is (rw (e, e1, e2, e3, eqb-true animation_type 1 is_linear) refl))
    (λ no_linear h5.
    field_step h5 λ control ys3 e3 f3 p3 h6.
    field_step h6 λ time ys4 e4 f4 p4 h7.
    end_step h7 λ e5 is.
    let two : animation_type ≡ 2 = above_one animation_type p.0 (eqb-false animation_type 0 no_step) (eqb-false animation_type 1 no_linear) in
    subst (λ (y : GainFields). xs ≡ gain_fields y) is (rw (e, e1, e2, e3, e4, e5, two) refl)))

timed_gain_is : (m : ℕ) (before : List (ℕ × GainFields)) (xs : List FieldValue) (t : ℕ × GainFields) → Has (timed_gain_in m before) xs t → xs ≡ timed_gain_fields t
unfolding timed_gain
timed_gain_is m before xs t h =
    field_step h λ duration ys e f p h1.
    bind_step gain_part _ h1 λ front ys1 gain e1 first h2.
    end_step h2 λ e2 is.
    let one = gain_is 0 [] front gain first in
    subst (λ (y : ℕ × GainFields). xs ≡ timed_gain_fields y) is (rw (e, e1, e2, one, append-nil) refl)

zip_parts : (timed : List (ℕ × GainFields)) → zip (durations_of timed) (gains_of timed) ≡ timed
zip_parts [] = refl
zip_parts (t ∷ timed) = ap (λ (ts : List (ℕ × GainFields)). t ∷ ts) (zip_parts timed)

length-gains_of : (timed : List (ℕ × GainFields)) → length (gains_of timed) ≡ length timed
length-gains_of [] = refl
length-gains_of (t ∷ timed) = ap suc (length-gains_of timed)

timed_gains_are : (duration : ℕ) (xs : List FieldValue) (c : ContentFields) → Has (timed_gains duration) xs c
    → (timed : List (ℕ × GainFields)) × (c ≡ Gain (Some (record { duration = duration; constant_subblock_duration = 0; durations = durations_of timed })) (gains_of timed))
    × (xs ≡ a_field Leb128 (length (gains_of timed)) ∷ joined timed_gain_fields (zip (durations_of timed) (gains_of timed)))
unfolding timed_gains
timed_gains_are duration xs c h =
    field_step h λ num_subblocks ys e f p h1.
    bind_step (each num_subblocks timed_gain_in []) _ h1 λ front ys1 timed e1 first h2.
    check_step h2 λ adds h3.
    end_step h3 λ e2 is.
    let list = each_is timed_gain_in timed_gain_fields timed_gain_is num_subblocks front timed first in
    (timed, sym is, rw (e, e1, e2, list.1, zip_parts, length-gains_of, list.0, append-nil) refl)

own_constant : (duration constant : ℕ) (gains : List GainFields) → (constant == 0) ≡ false → subblock_fields (record { duration = duration; constant_subblock_duration = constant; durations = [] }) gains ≡ joined gain_fields gains
own_constant duration constant gains some = rw some refl

constant_gains_are : (duration constant : ℕ) (xs : List FieldValue) (c : ContentFields) → Has (constant_gains duration constant) xs c
    → (gains : List GainFields) × (c ≡ Gain (Some (record { duration = duration; constant_subblock_duration = constant; durations = [] })) gains) × (xs ≡ joined gain_fields gains)
unfolding constant_gains
constant_gains_are duration constant xs c h =
    bind_step (each (subblocks_in duration constant) gain_in []) _ h λ front ys gains e first h1.
    end_step h1 λ e1 is.
    let list = each_is gain_in gain_fields gain_is (subblocks_in duration constant) front gains first in
    (gains, sym is, rw (e, e1, list.1, append-nil) refl)

-- a block's own timing before its subblocks
own_fields_are : (duration constant : ℕ) (xs ys zs : List FieldValue) (c : ContentFields) (fixed : FixedFields) (gains : List GainFields) → xs ≡ a_field Leb128 duration ∷ ys → ys ≡ a_field Leb128 constant ∷ zs
    → c ≡ Gain (Some fixed) gains → fixed.duration ≡ duration → fixed.constant_subblock_duration ≡ constant → zs ≡ subblock_fields fixed gains → xs ≡ content_fields c
own_fields_are duration constant xs ys zs c fixed gains e e1 is d k fields = rw (e, e1, is, fields, d, k) refl

own_gains_is : (xs : List FieldValue) (c : ContentFields) → Has own_gains xs c → xs ≡ content_fields c
unfolding own_gains
own_gains_is xs c h =
    field_step h λ duration ys e f p h1.
    field_step h1 λ constant ys1 e1 f1 p1 h2.
    choice_step h2
    (λ none h3.
    let t = timed_gains_are duration ys1 c h3 in
    own_fields_are duration constant xs ys ys1 c _ _ e e1 t.1 refl (sym (eqb-true constant 0 none)) t.2)
    (λ some h3.
    let t = constant_gains_are duration constant ys1 c h3 in
    own_fields_are duration constant xs ys ys1 c _ _ e e1 t.1 refl refl (t.2 ∙ sym (own_constant duration constant t.0 some)))

defined_gains_is : (fixed : FixedFields) (xs : List FieldValue) (c : ContentFields) → Has (defined_gains fixed) xs c → xs ≡ content_fields c
unfolding defined_gains
defined_gains_is fixed xs c h =
    bind_step (each (subblocks_of fixed) gain_in []) _ h λ front ys gains e first h1.
    end_step h1 λ e1 is.
    let list = each_is gain_in gain_fields gain_is (subblocks_of fixed) front gains first in
    subst (λ (y : ContentFields). xs ≡ content_fields y) is (rw (e, e1, list.1, append-nil) refl)

-- ---- demixing and recon gains

demixing_is : (xs : List FieldValue) (c : ContentFields) → Has demixing xs c → xs ≡ content_fields c
unfolding demixing
demixing_is xs c h =
    field_step h λ mode ys e f p h1.
    field_step h1 λ reserved ys1 e1 f1 p1 h2.
    end_step h2 λ e2 is.
    subst (λ (y : ContentFields). xs ≡ content_fields y) is (rw (e, e1, e2) refl)

recon_is : (m : ℕ) (before : List ReconFields) (xs : List FieldValue) (r : ReconFields) → Has (recon_in m before) xs r → xs ≡ recon_fields r
unfolding recon_part
recon_is m before xs r h =
    field_step h λ flags ys e f p h1.
    field_step h1 λ gains ys1 e1 f1 p1 h2.
    end_step h2 λ e2 is.
    subst (λ (y : ReconFields). xs ≡ recon_fields y) is (rw (e, e1, e2) refl)

recon_gains_is : (layers flags : ℕ) (xs : List FieldValue) (c : ContentFields) → Has (recon_gains layers flags) xs c → xs ≡ content_fields c
unfolding recon_gains
recon_gains_is layers flags xs c h =
    bind_step (each (ones_below layers flags) recon_in []) _ h λ front ys parts e first h1.
    end_step h1 λ e1 is.
    let list = each_is recon_in recon_fields recon_is (ones_below layers flags) front parts first in
    subst (λ (y : ContentFields). xs ≡ content_fields y) is (rw (e, e1, list.1, append-nil) refl)

-- ---- the whole

content_is : (shape : Option Shape) (xs : List FieldValue) (c : ContentFields) → Has (content_of shape) xs c → xs ≡ content_fields c
content_is None xs c h = end_step h λ e is. subst (λ (y : ContentFields). xs ≡ content_fields y) is e
content_is (Some (MixGain rate None)) xs c h = own_gains_is xs c h
content_is (Some (MixGain rate (Some fixed))) xs c h = defined_gains_is fixed xs c h
content_is (Some (Demixing rate fixed)) xs c h = demixing_is xs c h
content_is (Some (ReconGain rate fixed layers flags)) xs c h = recon_gains_is layers flags xs c h

block_is : (definitions : List Definition) (xs : List FieldValue) (b : BlockFields) → Has (parameter_block definitions) xs b → xs ≡ block_fields b
unfolding parameter_block
block_is definitions xs b h =
    field_step h λ id ys e f p h1.
    bind_step (content_of (shape_of definitions id)) _ h1 λ front ys1 content e1 first h2.
    end_step h2 λ e2 is.
    let one = content_is (shape_of definitions id) front content first in
    subst (λ (y : BlockFields). xs ≡ block_fields y) is (rw (e, e1, e2, one, append-nil) refl)

-- ---- no field depends on the bits before it

gain_plain : IsPlain gain_part
unfolding gain_part
gain_plain = λ animation start. (tt, λ end. (tt, λ control time. tt))

timed_gain_plain : IsPlain timed_gain
unfolding timed_gain
timed_gain_plain = λ duration. plain_bind gain_part _ gain_plain (λ gain. tt)

timed_gains_plain : (duration : ℕ) → IsPlain (timed_gains duration)
unfolding timed_gains
timed_gains_plain duration = λ n. plain_bind (each n timed_gain_in []) _ (plain_each timed_gain_in (λ m before. timed_gain_plain) n []) (λ timed. tt)

constant_gains_plain : (duration constant : ℕ) → IsPlain (constant_gains duration constant)
unfolding constant_gains
constant_gains_plain duration constant = plain_bind (each (subblocks_in duration constant) gain_in []) _ (plain_each gain_in (λ m before. gain_plain) (subblocks_in duration constant) []) (λ gains. tt)

own_gains_plain : IsPlain own_gains
unfolding own_gains
own_gains_plain = λ duration constant. (timed_gains_plain duration, constant_gains_plain duration constant)

defined_gains_plain : (fixed : FixedFields) → IsPlain (defined_gains fixed)
unfolding defined_gains
defined_gains_plain fixed = plain_bind (each (subblocks_of fixed) gain_in []) _ (plain_each gain_in (λ m before. gain_plain) (subblocks_of fixed) []) (λ gains. tt)

demixing_plain : IsPlain demixing
unfolding demixing
demixing_plain = λ mode reserved. tt

recon_plain : IsPlain recon_part
unfolding recon_part
recon_plain = λ flags gains. tt

recon_gains_plain : (layers flags : ℕ) → IsPlain (recon_gains layers flags)
unfolding recon_gains
recon_gains_plain layers flags = plain_bind (each (ones_below layers flags) recon_in []) _ (plain_each recon_in (λ m before. recon_plain) (ones_below layers flags) []) (λ parts. tt)

content_plain : (shape : Option Shape) → IsPlain (content_of shape)
content_plain None = tt
content_plain (Some (MixGain rate None)) = own_gains_plain
content_plain (Some (MixGain rate (Some fixed))) = defined_gains_plain fixed
content_plain (Some (Demixing rate fixed)) = demixing_plain
content_plain (Some (ReconGain rate fixed layers flags)) = recon_gains_plain layers flags

block_plain : (definitions : List Definition) → IsPlain (parameter_block definitions)
unfolding parameter_block
block_plain definitions = λ id. plain_bind (content_of (shape_of definitions id)) _ (content_plain (shape_of definitions id)) (λ content. tt)

-- ---- audio frames

frame_is : (obu_type : ℕ) (xs : List FieldValue) (substream : ℕ) → Has (audio_frame obu_type) xs substream → xs ≡ frame_fields obu_type substream
unfolding audio_frame
frame_is obu_type xs substream h =
    choice_step h
    (λ five h1.
    field_step h1 λ id ys e f p h2.
    end_step h2 λ e1 is.
    rw (five, e, e1, is) refl)
    (λ other h1.
    end_step h1 λ e is.
    rw (other, e) refl)

frame_plain : (obu_type : ℕ) → IsPlain (audio_frame obu_type)
unfolding audio_frame
frame_plain obu_type = (λ id. tt, tt)

-- ---- the laws of both

pub block_syntax : (definitions : List Definition) → IsSyntaxOf (λ e. fault.Field e) (parameter_block definitions) block_fields
block_syntax definitions = syntax_of _ (parameter_block definitions) block_fields (block_is definitions) (block_plain definitions)

pub frame_syntax : (obu_type : ℕ) → IsSyntaxOf (λ e. e) (audio_frame obu_type) (frame_fields obu_type)
frame_syntax obu_type = syntax_of _ (audio_frame obu_type) (frame_fields obu_type) (frame_is obu_type) (frame_plain obu_type)
