-- A field with a sign holds the same bits as a number without one.
use Rattle.std.proofs.Common.{◌≡◌, ℕ, ℤ, Bool, true, false, ltb, length, take, Result, Ok, Err, refl, ap}
use Rattle.spec_bits.specs.declared.FieldFault.{FieldFault}
use Rattle.spec_bits.specs.declared.FieldFault.TheVariants.{Short}
use Rattle.spec_bits.specs.Bits.{Bits, number_of, signed_of}
use Rattle.spec_bits.specs.Form.{Number, Signed}
use Rattle.spec_bits.specs.Cursor.{Cursor, bits_left, moved, field_at, field_front}
use Rattle.spec_bits.proofs.Outcomes.{ok_is}

abbrev one_of : {A : Type 0} → Bool → A → Result A FieldFault
one_of b x = elim b [ true ↦ Err Short | false ↦ Ok x ]

-- the same bits as a number in two's complement
signed_same : (k : ℕ) (b : Bool) (front : Bits) (v : ℕ) (c d : Cursor) → one_of {A = ℕ × Cursor} b (number_of front, c) ≡ Ok (v, d) → one_of {A = ℤ × Cursor} b (signed_of k (number_of front), c) ≡ Ok (signed_of k v, d)
signed_same k true front v c d e = absurd cc
signed_same k false front v c d e = ap (λ (x : ℕ × Cursor). Ok (signed_of k x.0, x.1)) (ok_is {F = FieldFault} (number_of front, c) (v, d) e)

pub signed_there : (k v : ℕ) (c d : Cursor) → field_at (Number k) c ≡ Ok (v, d) → field_at (Signed k) c ≡ Ok (signed_of k v, d)
unfolding field_at field_front
signed_there k v c d e = go (ltb (length (bits_left c)) k) refl
  where
    go : (b : Bool) → ltb (length (bits_left c)) k ≡ b → field_at (Signed k) c ≡ Ok (signed_of k v, d)
    go true t = absurd (let no = rw t at e in cc)
    go false t = rw t (signed_same k false (take k (bits_left c)) v (moved c k) d (rw t at e))

pub signed_short : (k : ℕ) (c : Cursor) (f : FieldFault) → field_at (Number k) c ≡ Err f → field_at (Signed k) c ≡ Err f
unfolding field_at field_front
signed_short k c f e = go (ltb (length (bits_left c)) k) refl
  where
    go : (b : Bool) → ltb (length (bits_left c)) k ≡ b → field_at (Signed k) c ≡ Err f
    go true t = rw t (let same = rw t at e in cc)
    go false t = absurd (let no = rw t at e in cc)
