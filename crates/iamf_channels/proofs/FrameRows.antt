-- The samples in the rows of a frame.
use Rattle.std.proofs.Common.{arith, ◌≡◌, ◌<◌, ◌*◌, ◌⊎◌, ℕ, zero, suc, ℤ, pos, Bool, true, false, if◌then◌else◌, List, [], ◌∷◌, take, drop, get_or, refl, ap, ◌∙◌}
use Rattle.std.specs.Prelude.{◌==◌}
use Rattle.std.proofs.Math.Logic.{⊎_elim}
use Rattle.std.proofs.lemmas.List.{get_or-take, get_or-drop}
use Rattle.iamf_bits.specs.Rows.{Rows, row_of, sample_of}
use Rattle.flac_sub.specs.FrameRows.{rows_of}
use Rattle.spec_flac.specs.declared.shape.FlacShape.{FlacShape}

row_sample : (planes : Rows) (c n count : ℕ) → n < count → n < planes.length → get_or (take count (row_of planes c)) n (pos 0) ≡ sample_of planes c n
row_sample planes c n count below within =
    get_or-take count (row_of planes c) n (pos 0) below ∙ get_or-take planes.length (drop (c * planes.length) planes.samples) n (pos 0) within ∙ get_or-drop (c * planes.length) planes.samples n (pos 0)

chosen : (b : Bool) (xs ys : List (List ℤ)) → b ≡ true → (if b then xs else ys) ≡ xs
chosen true xs ys e = refl
chosen false xs ys e = absurd (cc)

other : (b : Bool) (xs ys : List (List ℤ)) → b ≡ false → (if b then xs else ys) ≡ ys
other true xs ys e = absurd (cc)
other false xs ys e = refl

first_row : (planes : Rows) (c n count : ℕ) → c < 1 → n < count → n < planes.length → get_or (get_or (take count (row_of planes 0) ∷ []) c []) n (pos 0) ≡ sample_of planes c n
first_row planes zero n count one below within = row_sample planes 0 n count below within
first_row planes (suc c) n count one below within = absurd (omega arith)

two_rows : (planes : Rows) (c n count : ℕ) → c < 2 → n < count → n < planes.length → get_or (get_or (take count (row_of planes 0) ∷ take count (row_of planes 1) ∷ []) c []) n (pos 0) ≡ sample_of planes c n
two_rows planes zero n count two below within = row_sample planes 0 n count below within
two_rows planes (suc zero) n count two below within = row_sample planes 1 n count below within
two_rows planes (suc (suc c)) n count two below within = absurd (omega arith)

-- sample n of row c of a frame's rows is that of the planes
pub rows_sample : (shape : FlacShape) (planes : Rows) (c n : ℕ) → (shape.channels ≡ 1) ⊎ (shape.channels ≡ 2) → c < shape.channels → n < shape.length → n < planes.length
    → get_or (get_or (rows_of shape planes) c []) n (pos 0) ≡ sample_of planes c n
rows_sample shape planes c n few there below within =
    ⊎_elim
    (λ (one : shape.channels ≡ 1). let is : (shape.channels == 1) ≡ true = rw one refl in ap (λ rows. get_or (get_or rows c []) n (pos 0)) (chosen (shape.channels == 1) _ _ is) ∙ first_row planes c n shape.length (omega arith) below within)
    (λ (two : shape.channels ≡ 2). let is : (shape.channels == 1) ≡ false = rw two refl in ap (λ rows. get_or (get_or rows c []) n (pos 0)) (other (shape.channels == 1) _ _ is) ∙ two_rows planes c n shape.length (omega arith) below within)
    few
