-- The fault that reading a header answers is the first one.
use Rattle.std.proofs.Common.{◌≡◌, ℕ, zero, suc, ◌+◌, ◌-◌, ◌^◌, ◌<◌, ◌≤◌, ◌⊎◌, inl, inr, Bool, true, false, nat_lt, if◌then◌else◌, List, ◌∷◌, length, take, drop, Result, Ok, Err, refl, sym, ap, subst, ◌∙◌, arith}
use Rattle.std.proofs.lemmas.List.{length-take, length-drop, take-append-drop, length-append}
use Rattle.std.proofs.lemmas.Bool.{cases_lt, lt-ltb, le-ltb, ltb-true, ltb-false}
use Rattle.std.proofs.Math.Seq.{take-append_seam, drop-append_seam}
use Rattle.spec_bits.specs.declared.FieldFault.{FieldFault}
use Rattle.spec_bits.specs.declared.FieldFault.TheVariants as field
use Rattle.spec_bits.specs.Leb.{IsLeb, leb_value}
use Rattle.spec_bits.specs.ByteReading.{leb_at, bytes_at}
use Rattle.spec_bits.proofs.Outcomes.{ok_is, ok_both_is}
use Rattle.spec_bits.proofs.LebLaws.{leb_read, leb_again, leb_fails, leb_fails_only}
use Rattle.spec_obu.specs.declared.HeaderFault.{HeaderFault}
use Rattle.spec_obu.specs.declared.HeaderFault.TheVariants.{Leb, ObuSize, Flags, HeaderSize, Cut}
use Rattle.spec_obu.specs.Header.{Head, flags_allowed}
use Rattle.spec_obu.specs.Reading.{Front, fields_at, finish, part, after_size, unread, header_at}
use Rattle.spec_obu.specs.Faults.{SizeIs, Has, rank, IsFirstFault}
use Rattle.spec_obu.specs.Laws.{HeaderFails, HeaderFailsOnly}
use Rattle.spec_obu.proofs.FieldLaws.{fields_fail, fields_fail_only}

-- ---- the size field

size_reads : (after : List ℕ) (n w : ℕ) → SizeIs after n w → (leb_at after ≡ Ok (w, drop n after)) ⊎ (leb_at after ≡ Err field.Leb)
size_reads after n w s =
    elim (cases_lt w (2 ^ 32)) [
      | inl lt ↦
          let is : IsLeb w (take n after) = record { ends = s.ends; short = omega (arith, length-take n after, s.few); value = s.value; below = lt } in
          inl (rw take-append-drop at (leb_again (take n after) (drop n after) w is))
      | inr le ↦ inr (leb_fails_only after field.Leb (inr (n, s.few, s.ends, rw s.value le)))
    ]

unsized : (after : List ℕ) → leb_at after ≡ Err field.Short → (n w : ℕ) → SizeIs after n w → ⊥
unsized after e n w s = elim (size_reads after n w s) [ inl a ↦ cc | inr b ↦ cc ]

-- the size that was read, and no other
pub record Sized (after rest : List ℕ) (v n : ℕ) : Type 0 where
  pub size : SizeIs after n v
  pub rest_is : drop n after ≡ rest
  pub len : n + length rest ≡ length after
  pub leb : leb_at after ≡ Ok (v, rest)

pub sized : (after rest : List ℕ) (v : ℕ) → leb_at after ≡ Ok (v, rest) → (n : ℕ) × Sized after rest v n
sized after rest v e =
    let l = leb_read after rest v e in
    let t : take (length l.0) after ≡ l.0 = ap (take (length l.0)) l.2 ∙ take-append_seam l.0 rest in
    let d : drop (length l.0) after ≡ rest = ap (drop (length l.0)) l.2 ∙ drop-append_seam l.0 rest in
    let len : length l.0 + length rest ≡ length after = omega (arith, ap length l.2, length-append l.0 rest) in (
      length l.0,
      record {
        size = record { few = l.1.short; there = omega arith; ends = rw t l.1.ends; value = ap leb_value t ∙ l.1.value };
        rest_is = d;
        len = len;
        leb = e;
      },
    )

absurd_leb : (after : List ℕ) (v : ℕ) (rest : List ℕ) → leb_at after ≡ Ok (v, rest) → leb_at after ≡ Err field.Leb → ⊥
absurd_leb after v rest a b = cc

pub one_size : (after rest : List ℕ) (v n m w : ℕ) → Sized after rest v n → SizeIs after m w → (w ≡ v) × (m ≡ n)
one_size after rest v n m w sz s =
    elim (size_reads after m w s) [
      | inl a ↦
          let same = ok_both_is {F = FieldFault} (w, drop m after) (v, rest) (sym a ∙ sz.leb) in
          (same.0, omega (arith, ap length same.1, length-drop m after, s.there, sz.len, sz.size.there))
      | inr b ↦ let no : ⊥ = absurd_leb after v rest sz.leb b in absurd no
    ]

-- ---- what a header that was read is

pub record Opened (x : ℕ) (after : List ℕ) (y : Front) : Type 0 where
  pub value : ℕ
  pub rest : List ℕ
  pub count : ℕ
  pub size : Sized after rest value count
  pub small : 1 + count + value ≤ 2 ^ 21
  pub flags : flags_allowed x ≡ true
  pub room : value ≤ length rest
  pub fields : fields_at x (take value rest) ≡ Ok (y.0, y.1)
  pub len : y.2 ≡ 1 + count + value

chosen : {X : Type 0} (b : Bool) (x y z : X) → (if b then x else y) ≡ z → ((b ≡ true) × (x ≡ z)) ⊎ ((b ≡ false) × (y ≡ z))
chosen true x y z e = inl (refl, e)
chosen false x y z e = inr (refl, e)

finish_ok : (len : ℕ) (r : Result (Head × List ℕ) FieldFault) (y : Front) → finish len r ≡ Ok y → (r ≡ Ok (y.0, y.1)) × (y.2 ≡ len)
finish_ok len (Ok r) y e =
    let same = ok_is {F = HeaderFault} (r.0, r.1, len) y e in
    (ap (λ (p : Front). Ok (p.0, p.1)) same, sym (ap (λ (p : Front). p.2) same))
finish_ok len (Err f) y e = absurd cc

open_part : (x : ℕ) (after rest : List ℕ) (v n : ℕ) (y : Front) → Sized after rest v n → 1 + n + v ≤ 2 ^ 21 → flags_allowed x ≡ true
    → part x (1 + n + v) (bytes_at v rest) ≡ Ok y → Opened x after y
unfolding bytes_at
open_part x after rest v n y sz small flags e =
    elim (cases_lt (length rest) v) [
      | inl lt ↦ let h = rw (lt-ltb (length rest) v lt) at e in absurd cc
      | inr le ↦
          let f = finish_ok (1 + n + v) (fields_at x (take v rest)) y (rw (le-ltb (length rest) v le) at e) in
          record { value = v; rest = rest; count = n; size = sz; small = small; flags = flags; room = le; fields = f.0; len = f.1 }
    ]

pub open_ok : (x : ℕ) (after : List ℕ) (r : Result (ℕ × List ℕ) FieldFault) (y : Front) → leb_at after ≡ r → after_size x after r ≡ Ok y → Opened x after y
open_ok x after (Ok q) y e read =
    let sz = sized after q.1 q.0 e in
    let k : 1 + (length after - length q.1) + q.0 ≡ 1 + sz.0 + q.0 = omega (arith, sz.1.len) in
    let h = rw k at read in
    elim (chosen (nat_lt (2 ^ 21) (1 + sz.0 + q.0)) (Err ObuSize) (if flags_allowed x then part x (1 + sz.0 + q.0) (bytes_at q.0 q.1) else Err Flags) (Ok y) h) [
      | inl p ↦ absurd cc
      | inr p ↦ elim (chosen (flags_allowed x) (part x (1 + sz.0 + q.0) (bytes_at q.0 q.1)) (Err Flags) (Ok y) p.1) [
        | inl w ↦ open_part x after q.1 q.0 sz.0 y sz.1 (ltb-false (2 ^ 21) (1 + sz.0 + q.0) p.0) w.0 w.1
        | inr w ↦ absurd cc
      ]
    ]
open_ok x after (Err f) y e read = absurd cc

-- ---- which faults are not there

no_leb : (x : ℕ) (after rest : List ℕ) (v n : ℕ) → Sized after rest v n → Has Leb x after → ⊥
no_leb x after rest v n sz h = absurd_leb after v rest sz.leb (leb_fails_only after field.Leb h)

no_large : (x : ℕ) (after rest : List ℕ) (v n : ℕ) → Sized after rest v n → 1 + n + v ≤ 2 ^ 21 → Has ObuSize x after → ⊥
no_large x after rest v n sz small h = let o = one_size after rest v n h.0 h.1 sz h.2 in omega (arith, o.0, o.1, h.3)

no_flags : (x : ℕ) (after : List ℕ) → flags_allowed x ≡ true → Has Flags x after → ⊥
no_flags x after allowed h = cc

no_cut : (x : ℕ) (after rest : List ℕ) (v n : ℕ) → Sized after rest v n → v ≤ length rest → Has Cut x after → ⊥
no_cut x after rest v n sz room (inl h) = h n v sz.size
no_cut x after rest v n sz room (inr h) = let o = one_size after rest v n h.0 h.1 sz h.2 in omega (arith, o.0, o.1, h.3, sz.len)

no_fields : (x : ℕ) (after rest : List ℕ) (v n : ℕ) (r : Head × List ℕ) → Sized after rest v n → fields_at x (take v rest) ≡ Ok r → Has HeaderSize x after → ⊥
no_fields x after rest v n r sz fields h =
    let o = one_size after rest v n h.0 h.1 sz h.2 in
    let same : take h.1 (drop h.0 after) ≡ take v rest = ap (λ (k : ℕ). take k (drop h.0 after)) o.0 ∙ ap (λ (k : ℕ). take v (drop k after)) o.1 ∙ ap (take v) sz.rest_is in
    let failed = fields_fail_only x (take h.1 (drop h.0 after)) h.3 in
    let other : fields_at x (take v rest) ≡ Err failed.0 = sym (ap (fields_at x) same) ∙ failed.1 in
    cc

pub no_fault : (x : ℕ) (after : List ℕ) (y : Front) → Opened x after y → (f : HeaderFault) → Has f x after → ⊥
no_fault x after y o Leb h = no_leb x after o.rest o.value o.count o.size h
no_fault x after y o ObuSize h = no_large x after o.rest o.value o.count o.size o.small h
no_fault x after y o Flags h = no_flags x after o.flags h
no_fault x after y o Cut h = no_cut x after o.rest o.value o.count o.size o.room h
no_fault x after y o HeaderSize h = no_fields x after o.rest o.value o.count (y.0, y.1) o.size o.fields h

-- no fault before the k-th
pub first_of : (x : ℕ) (after : List ℕ) (k : ℕ) → k ≤ 4 → (0 < k → Has Leb x after → ⊥) → (1 < k → Has ObuSize x after → ⊥) → (2 < k → Has Flags x after → ⊥) → (3 < k → Has Cut x after → ⊥)
    → (g : HeaderFault) → rank g < k → Has g x after → ⊥
first_of x after k few a b c d Leb lt h = a lt h
first_of x after k few a b c d ObuSize lt h = b lt h
first_of x after k few a b c d Flags lt h = c lt h
first_of x after k few a b c d Cut lt h = d lt h
first_of x after k few a b c d HeaderSize lt h = absurd (omega arith)

-- ---- the fault that is answered

unread_fails : (x : ℕ) (after : List ℕ) (d : FieldFault) (f : HeaderFault) → leb_at after ≡ Err d → unread d (flags_allowed x) ≡ f → IsFirstFault f (x ∷ after)
unread_fails x after field.Leb f e is =
    subst (λ (g : HeaderFault). IsFirstFault g (x ∷ after)) is (record {
      here = leb_fails after field.Leb e;
      first = first_of x after 0 (omega arith) (λ lt h. absurd (omega arith)) (λ lt h. absurd (omega arith)) (λ lt h. absurd (omega arith)) (λ lt h. absurd (omega arith));
    })
unread_fails x after field.Short f e is =
    let a : Has Leb x after → ⊥ = λ h. let g = leb_fails_only after field.Leb h in cc in
    let b : Has ObuSize x after → ⊥ = λ h. unsized after e h.0 h.1 h.2 in
    elim (chosen (flags_allowed x) Cut Flags f is) [
      | inl p ↦ subst (λ (g : HeaderFault). IsFirstFault g (x ∷ after)) p.1 (record {
        here = inl (unsized after e);
        first = first_of x after 3 (omega arith) (λ lt h. a h) (λ lt h. b h) (λ lt h. no_flags x after p.0 h) (λ lt h. absurd (omega arith));
      })
      | inr p ↦ subst (λ (g : HeaderFault). IsFirstFault g (x ∷ after)) p.1 (record {
        here = p.0;
        first = first_of x after 2 (omega arith) (λ lt h. a h) (λ lt h. b h) (λ lt h. absurd (omega arith)) (λ lt h. absurd (omega arith));
      })
    ]
unread_fails x after field.Text f e is = absurd (leb_fails after field.Text e)

finish_err : (len : ℕ) (r : Result (Head × List ℕ) FieldFault) (f : HeaderFault) → finish len r ≡ Err f → (d : FieldFault) × (r ≡ Err d) × (HeaderSize ≡ f)
finish_err len (Ok r) f e = absurd cc
finish_err len (Err d) f e = (d, refl, cc)

part_fails : (x : ℕ) (after rest : List ℕ) (v n : ℕ) (f : HeaderFault) → Sized after rest v n → 1 + n + v ≤ 2 ^ 21 → flags_allowed x ≡ true
    → part x (1 + n + v) (bytes_at v rest) ≡ Err f → IsFirstFault f (x ∷ after)
unfolding bytes_at
part_fails x after rest v n f sz small flags e =
    elim (cases_lt (length rest) v) [
      | inl lt ↦
          let h = rw (lt-ltb (length rest) v lt) at e in
          let is : Cut ≡ f = cc in
          subst (λ (g : HeaderFault). IsFirstFault g (x ∷ after)) is (record {
            here = inr (n, v, sz.size, omega (arith, sz.len));
            first = first_of x after 3 (omega arith) (λ lt h. no_leb x after rest v n sz h) (λ lt h. no_large x after rest v n sz small h) (λ lt h. no_flags x after flags h) (λ lt h. absurd (omega arith));
          })
      | inr le ↦
          let d = finish_err (1 + n + v) (fields_at x (take v rest)) f (rw (le-ltb (length rest) v le) at e) in
          subst (λ (g : HeaderFault). IsFirstFault g (x ∷ after)) d.2 (record {
            here = (n, v, sz.size, fields_fail x (take v (drop n after)) d.0 (ap (λ (t : List ℕ). fields_at x (take v t)) sz.rest_is ∙ d.1));
            first = first_of x after 4 (omega arith) (λ lt h. no_leb x after rest v n sz h) (λ lt h. no_large x after rest v n sz small h) (λ lt h. no_flags x after flags h) (λ lt h. no_cut x after rest v n sz le h);
          })
    ]

fails_of : (x : ℕ) (after : List ℕ) (r : Result (ℕ × List ℕ) FieldFault) (f : HeaderFault) → leb_at after ≡ r → after_size x after r ≡ Err f → IsFirstFault f (x ∷ after)
fails_of x after (Err d) f e read = unread_fails x after d f e cc
fails_of x after (Ok q) f e read =
    let sz = sized after q.1 q.0 e in
    let k : 1 + (length after - length q.1) + q.0 ≡ 1 + sz.0 + q.0 = omega (arith, sz.1.len) in
    let h = rw k at read in
    elim (chosen (nat_lt (2 ^ 21) (1 + sz.0 + q.0)) (Err ObuSize) (if flags_allowed x then part x (1 + sz.0 + q.0) (bytes_at q.0 q.1) else Err Flags) (Err f) h) [
      | inl p ↦
          let is : ObuSize ≡ f = cc in
          subst (λ (g : HeaderFault). IsFirstFault g (x ∷ after)) is (record {
            here = (sz.0, q.0, sz.1.size, ltb-true (2 ^ 21) (1 + sz.0 + q.0) p.0);
            first = first_of x after 1 (omega arith) (λ lt h. no_leb x after q.1 q.0 sz.0 sz.1 h) (λ lt h. absurd (omega arith)) (λ lt h. absurd (omega arith)) (λ lt h. absurd (omega arith));
          })
      | inr p ↦ elim (chosen (flags_allowed x) (part x (1 + sz.0 + q.0) (bytes_at q.0 q.1)) (Err Flags) (Err f) p.1) [
        | inl w ↦ part_fails x after q.1 q.0 sz.0 f sz.1 (ltb-false (2 ^ 21) (1 + sz.0 + q.0) p.0) w.0 w.1
        | inr w ↦
            let is : Flags ≡ f = cc in
            subst (λ (g : HeaderFault). IsFirstFault g (x ∷ after)) is (record {
              here = w.0;
              first = first_of x after 2 (omega arith) (λ lt h. no_leb x after q.1 q.0 sz.0 sz.1 h) (λ lt h. no_large x after q.1 q.0 sz.0 sz.1 (ltb-false (2 ^ 21) (1 + sz.0 + q.0) p.0) h) (λ lt h. absurd (omega arith)) (λ lt h. absurd (omega arith));
            })
      ]
    ]

pub header_fails : HeaderFails
unfolding header_at
header_fails x after f e = fails_of x after (leb_at after) f refl e

-- ---- there is one first fault

fault_at : ℕ → HeaderFault
fault_at zero = Leb
fault_at (suc zero) = ObuSize
fault_at (suc (suc zero)) = Flags
fault_at (suc (suc (suc zero))) = Cut
fault_at (suc (suc (suc (suc n)))) = HeaderSize

fault_at-rank : (f : HeaderFault) → fault_at (rank f) ≡ f
unfolding fault_at
fault_at-rank Leb = refl
fault_at-rank ObuSize = refl
fault_at-rank Flags = refl
fault_at-rank Cut = refl
fault_at-rank HeaderSize = refl

pub one_first : (b : List ℕ) (f g : HeaderFault) → IsFirstFault f b → IsFirstFault g b → f ≡ g
one_first b f g p q =
    elim (cases_lt (rank f) (rank g)) [
      | inl lt ↦ absurd (q.first f lt p.here)
      | inr le ↦ elim (cases_lt (rank g) (rank f)) [
        | inl lt ↦ absurd (p.first g lt q.here)
        | inr ge ↦ let same : rank f ≡ rank g = omega arith in sym (fault_at-rank f) ∙ ap fault_at same ∙ fault_at-rank g
      ]
    ]

only_of : (x : ℕ) (after : List ℕ) (f : HeaderFault) (r : Result Front HeaderFault) → header_at (x ∷ after) ≡ r → IsFirstFault f (x ∷ after) → r ≡ Err f
unfolding header_at
only_of x after f (Ok y) e p = absurd (no_fault x after y (open_ok x after (leb_at after) y refl e) f p.here)
only_of x after f (Err g) e p = ap (λ (k : HeaderFault). Err k) (one_first (x ∷ after) g f (header_fails x after g e) p)

pub header_fails_only : HeaderFailsOnly
header_fails_only x after f p = only_of x after f (header_at (x ∷ after)) refl p
