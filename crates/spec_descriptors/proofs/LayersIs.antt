-- The layers of an element stand for one list of fields.
use Rattle.std.proofs.Common.{◌≡◌, ℕ, ◌<◌, Bool, true, false, List, [], Option, Some, None, refl, subst, sym, arith}
use Rattle.std.specs.Prelude.{◌==◌}
use Rattle.std.proofs.lemmas.Bool.{eqb-true, eqb-false}
use Rattle.spec_syntax.specs.Payload.{FieldValue, IsPlain}
use Rattle.spec_syntax.proofs.Fields.{Has, field_step, end_step, choice_step, each_is}
use Rattle.spec_syntax.proofs.Plain.{plain_each}
use Rattle.spec_layouts.specs.declared.Layout.{Layout}
use Rattle.spec_layouts.specs.declared.Layout.TheVariants.{Mono}
use Rattle.spec_layouts.specs.Layouts.{layout_of, code_of}
use Rattle.spec_layouts.proofs.Codes.{only_code}
use Rattle.spec_descriptors.specs.Layers.{LayerFields, is_refused, are_other, layer_at, layer_of, layer_after, layer_in, last_layout, output_gain, scalable_config}
use Rattle.spec_descriptors.specs.ElementFields.{flag_of, counts_fields, layer_fields, scalable_fields}

flag_is : (n : ℕ) → n < 2 → flag_of (n == 1) ≡ n
flag_is n small = go (n == 1) refl
  where
    go : (b : Bool) → (n == 1) ≡ b → flag_of (n == 1) ≡ n
    go true t = rw t (sym (eqb-true n 1 t))
    go false t = rw t (omega (arith, eqb-false n 1 t, small))

-- the fields after a layout, and that the counts passed
abbrev pub AfterLayout : Option Layout → Layout → List FieldValue → LayerFields → Type 0
AfterLayout before now xs r = (r.loudspeaker_layout ≡ now) × (xs ≡ counts_fields r) × (are_other before now r.substream_count r.coupled_substream_count ≡ false)

pub layer_of_is : (before : Option Layout) (now : Layout) (xs : List FieldValue) (r : LayerFields) → Has (layer_of before now) xs r → AfterLayout before now xs r
unfolding layer_of output_gain
layer_of_is before now xs r h =
    field_step h λ has_gain ys e f p h1.
    field_step h1 λ recon ys1 e1 f1 p1 h2.
    field_step h2 λ reserved ys2 e2 f2 p2 h3.
    field_step h3 λ substreams ys3 e3 f3 p3 h4.
    field_step h4 λ coupled ys4 e4 f4 p4 h5.
    let recon_is = flag_is recon f1 in
    choice_step h5
    (λ there h6.
    field_step h6 λ flags ys5 e5 f5 p5 h7.
    field_step h7 λ reserved' ys6 e6 f6 p6 h8.
    field_step h8 λ gain ys7 e7 f7 p7 h9.
    end_step h9 λ e8 is.
    subst (λ (y : LayerFields). AfterLayout before now xs y) is (refl, rw (e, e1, e2, e3, e4, e5, e6, e7, e8, eqb-true has_gain 1 there, recon_is) refl, p4.0))
    (λ none h6.
    end_step h6 λ e5 is.
    let flag : has_gain ≡ 0 = omega (arith, f, eqb-false has_gain 1 none) in
    subst (λ (y : LayerFields). AfterLayout before now xs y) is (refl, rw (e, e1, e2, e3, e4, e5, flag, recon_is) refl, p4.0))

-- the layout of a code that passed
layer_at_is : (before : Option Layout) (code : ℕ) (layout : Option Layout) (xs : List FieldValue) (r : LayerFields) → layout_of code ≡ layout → is_refused before layout ≡ false
    → Has (layer_at before layout) xs r → (code ≡ code_of r.loudspeaker_layout) × (xs ≡ counts_fields r)
layer_at_is before code None xs r is passed h = absurd cc
layer_at_is before code (Some now) xs r is passed h =
    let t = layer_of_is before now xs r h in
    (rw t.0 (only_code code now is), t.1)

pub layer_is : (after : ℕ) (before : List LayerFields) (xs : List FieldValue) (r : LayerFields) → Has (layer_in after before) xs r → xs ≡ layer_fields r
unfolding layer_after
layer_is after before xs r h =
    field_step h λ code ys e f p h1.
    let t = layer_at_is (last_layout before) code (layout_of code) ys r refl p.0 h1 in
    rw (e, t.0, t.1) refl

pub scalable_is : (xs : List FieldValue) (r : List LayerFields) → Has scalable_config xs r → xs ≡ scalable_fields r
unfolding scalable_config
scalable_is xs r h =
    field_step h λ count ys e f p h1.
    field_step h1 λ reserved ys1 e1 f1 p1 h2.
    let list = each_is layer_in layer_fields layer_is count ys1 r h2 in
    rw (e, e1, list.0, list.1) refl

-- ---- no field asks for the bits before

layer_of_plain : (before : Option Layout) (now : Layout) → IsPlain (layer_of before now)
unfolding layer_of output_gain
layer_of_plain before now = λ has_gain recon reserved substreams coupled. (λ flags reserved' gain. tt, tt)

layer_at_plain : (before layout : Option Layout) → IsPlain (layer_at before layout)
layer_at_plain before None = layer_of_plain before Mono
layer_at_plain before (Some now) = layer_of_plain before now

layer_plain : (after : ℕ) (before : List LayerFields) → IsPlain (layer_in after before)
unfolding layer_after
layer_plain after before = λ code. layer_at_plain (last_layout before) (layout_of code)

pub scalable_plain : IsPlain scalable_config
unfolding scalable_config
scalable_plain = λ count reserved. plain_each layer_in layer_plain count []
