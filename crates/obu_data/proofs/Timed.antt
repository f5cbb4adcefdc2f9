-- The subblocks of a block that have durations of their own.
use Rattle.std.proofs.Common.{◌≡◌, ℕ, List, [], ◌∷◌, ◌++◌, ◌⊎◌, inl, inr, length, Some, Ok, Err, refl, sym, ap, ◌∙◌, append_assoc}
use Rattle.std.specs.Prelude.{sum}
use Rattle.std.specs.List.{zip}
use Rattle.std.proofs.lemmas.Bool.{eq-eqb, ne_eqb}
use Rattle.std.proofs.lemmas.Slice.Zip.{firsts-zip, seconds-zip}
use Rattle.spec_bits.specs.Form.{Leb128}
use Rattle.spec_bits.specs.Cursor.{Cursor, field_at}
use Rattle.spec_syntax.specs.Syntax.{each}
use Rattle.spec_syntax.specs.Reading.{read}
use Rattle.spec_syntax.proofs.Reading.{read_bind}
use Rattle.spec_blocks.specs.declared.fault.BlockFault.TheVariants as fault
use Rattle.spec_blocks.specs.ParameterBlock.{GainFields, Gain, timed_gain_in, timed_gains}
use Rattle.obu_data.specs.declared.gain_part.GainPart.{GainPart}
use Rattle.spec_bits.specs.Bits.{Bits}
use Rattle.spec_syntax.specs.Payload.{canon}
use Rattle.spec_syntax.specs.Repetition.{joined}
use Rattle.spec_blocks.specs.BlockFieldLists.{timed_gain_fields}
use Rattle.obu_data.specs.BlockView.{view_gain_part, pairs}
use Rattle.spec_syntax.specs.Fitting.{AllFit}
use Rattle.spec_syntax.proofs.Writing.{canon_append}
use Rattle.std.proofs.lemmas.List.{append-nil}
use Rattle.spec_syntax.proofs.Fitting.{fit_front, fit_rest}

pub timed_read : (duration count : ℕ) (c next last : Cursor) (ds : List ℕ) (gs : List GainFields) → field_at Leb128 c ≡ Ok (count, next) → (count ≡ 0 → ⊥)
    → read (λ f. fault.Field f) (each count timed_gain_in []) next ≡ Ok (zip ds gs, last) → length gs ≡ length ds → sum ds ≡ duration
    → read (λ f. fault.Field f) (timed_gains duration) c ≡ Ok (Gain (Some (record { duration = duration; constant_subblock_duration = 0; durations = ds })) gs, last)
unfolding timed_gains
timed_read duration count c next last ds gs e some e1 lengths adds =
    rw (e, ne_eqb count 0 some, read_bind (λ f. fault.Field f) (each count timed_gain_in []) _ next, e1, firsts-zip ds gs lengths, seconds-zip ds gs lengths, eq-eqb (sum ds) duration adds) refl

pub timed_refused : (duration count : ℕ) (c next last : Cursor) (ds : List ℕ) (gs : List GainFields) → field_at Leb128 c ≡ Ok (count, next) → (count ≡ 0 → ⊥)
    → read (λ f. fault.Field f) (each count timed_gain_in []) next ≡ Ok (zip ds gs, last) → length gs ≡ length ds → (sum ds ≡ duration → ⊥)
    → read (λ f. fault.Field f) (timed_gains duration) c ≡ Err fault.Subblocks
unfolding timed_gains
timed_refused duration count c next last ds gs e some e1 lengths adds =
    rw (e, ne_eqb count 0 some, read_bind (λ f. fault.Field f) (each count timed_gain_in []) _ next, e1, firsts-zip ds gs lengths, ne_eqb (sum ds) duration adds) refl

-- ---- subblocks and their durations, one pair after another

pub pair_fits : (xs : List ℕ) (ys : List GainPart) (d : ℕ) (part : GainPart) (ds : List ℕ) (ps : List GainPart) → xs ≡ d ∷ ds → ys ≡ part ∷ ps → AllFit (joined timed_gain_fields (pairs xs ys))
    → AllFit (timed_gain_fields (d, view_gain_part part)) × AllFit (joined timed_gain_fields (pairs ds ps))
pair_fits xs ys d part ds ps e e1 fits =
    let h : AllFit (timed_gain_fields (d, view_gain_part part) ++ joined timed_gain_fields (pairs ds ps)) = rw (e, e1) at fits in
    (fit_front (timed_gain_fields (d, view_gain_part part)) (joined timed_gain_fields (pairs ds ps)) h, fit_rest (timed_gain_fields (d, view_gain_part part)) (joined timed_gain_fields (pairs ds ps)) h)

pub pair_put : (xs : List ℕ) (ys : List GainPart) (d : ℕ) (part : GainPart) (ds : List ℕ) (ps : List GainPart) (now new all : Bits) → xs ≡ d ∷ ds → ys ≡ part ∷ ps → new ≡ now ++ canon (timed_gain_fields (d, view_gain_part part))
    → now ++ canon (joined timed_gain_fields (pairs xs ys)) ≡ all → new ++ canon (joined timed_gain_fields (pairs ds ps)) ≡ all
pair_put xs ys d part ds ps now new all e e1 more so_far =
    let one = timed_gain_fields (d, view_gain_part part) in
    let others = joined timed_gain_fields (pairs ds ps) in
    let h : now ++ canon (one ++ others) ≡ all = rw (e, e1) at so_far in
    ap (λ (b : Bits). b ++ canon others) more ∙ append_assoc now (canon one) (canon others) ∙ ap (λ (b : Bits). now ++ b) (sym (canon_append one others)) ∙ h

pub pairs_done : (xs : List ℕ) (ys : List GainPart) (now all : Bits) → (xs ≡ []) ⊎ (ys ≡ []) → now ++ canon (joined timed_gain_fields (pairs xs ys)) ≡ all → now ≡ all
pairs_done [] ys now all e so_far = sym (append-nil now) ∙ so_far
pairs_done (a ∷ xs) [] now all e so_far = sym (append-nil now) ∙ so_far
pairs_done (a ∷ xs) (b ∷ ys) now all (inl e) so_far = absurd cc
pairs_done (a ∷ xs) (b ∷ ys) now all (inr e) so_far = absurd cc
