-- A fault that a header has in more than that it is cut off stays, whatever follows.
use Rattle.std.proofs.Common.{◌≡◌, ℕ, ◌+◌, ◌-◌, ◌^◌, ◌≤◌, ◌⊎◌, inl, inr, nat_lt, if◌then◌else◌, List, [], ◌∷◌, ◌++◌, length, take, drop, Result, Ok, Err, refl, sym, ap, ◌∙◌, arith, append_assoc, length-append}
use Rattle.std.proofs.lemmas.List.{length-take, take-append-drop, take-append-le}
use Rattle.std.proofs.Math.Seq.{take-append_seam}
use Rattle.std.proofs.lemmas.Bool.{cases_lt, lt-ltb, le-ltb}
use Rattle.spec_bits.specs.declared.FieldFault.{FieldFault}
use Rattle.spec_bits.specs.declared.FieldFault.TheVariants as field
use Rattle.spec_bits.specs.Leb.{IsLeb, AllGoOn, leb_value}
use Rattle.spec_bits.specs.ByteReading.{leb_at, bytes_at}
use Rattle.spec_bits.proofs.Outcomes.{err_is, cond_cases}
use Rattle.spec_bits.proofs.LebLaws.{leb_read, leb_again, leb_fails_only}
use Rattle.spec_obu.specs.declared.HeaderFault.{HeaderFault}
use Rattle.spec_obu.specs.declared.HeaderFault.TheVariants.{Leb, ObuSize, Flags, Cut}
use Rattle.spec_obu.specs.Header.{Head, Header, first_byte, flags_allowed}
use Rattle.spec_obu.specs.Faults.{SizeIs}
use Rattle.spec_obu.specs.Reading.{Front, fields_at, finish, part, after_size, header_at}
use Rattle.spec_obu.proofs.FaultLaws.{header_fails, header_fails_only}
use Rattle.spec_obu.proofs.OneHeader.{no_header}
use Rattle.spec_streams.specs.Front.{HasWholeSize}
use Rattle.spec_streams.specs.Laws.{SureFaultStays, PartialIsNotWhole}

-- ---- the size

-- more bytes after it leave a number as it is
pub leb_more : (after more rest : List ℕ) (v : ℕ) → leb_at after ≡ Ok (v, rest) → leb_at (after ++ more) ≡ Ok (v, rest ++ more)
leb_more after more rest v e =
    let l = leb_read after rest v e in
    let whole : after ++ more ≡ l.0 ++ (rest ++ more) = ap (λ (b : List ℕ). b ++ more) l.2 ∙ append_assoc l.0 rest more in
    rw whole (leb_again l.0 (rest ++ more) v l.1)

-- a whole size that is no number
abbrev pub WrongSize : List ℕ → Type 0
WrongSize after = ((n : ℕ) × (v : ℕ) × SizeIs after n v × (2 ^ 32 ≤ v)) ⊎ ((8 ≤ length after) × AllGoOn (take 8 after))

pub wrong_fails : (after : List ℕ) → WrongSize after → leb_at after ≡ Err field.Leb
wrong_fails after (inl s) = leb_fails_only after field.Leb (inr (s.0, s.2.few, s.2.ends, rw s.2.value s.3))
wrong_fails after (inr s) = leb_fails_only after field.Leb (inl s)

pub wrong_size : (after : List ℕ) (d : FieldFault) → HasWholeSize after → leb_at after ≡ Err d → WrongSize after
wrong_size after d (inl s) e =
    elim (cases_lt s.1 (2 ^ 32)) [
      | inl lt ↦
          let is : IsLeb s.1 (take s.0 after) = record { ends = s.2.ends; short = omega (arith, length-take s.0 after, s.2.few); value = s.2.value; below = lt } in
          let read : leb_at after ≡ Ok (s.1, drop s.0 after) = rw take-append-drop at (leb_again (take s.0 after) (drop s.0 after) s.1 is) in
          absurd cc
      | inr le ↦ inl (s.0, s.1, s.2, le)
    ]
wrong_size after d (inr s) e = inr s

size_more : (after more : List ℕ) (n v : ℕ) → SizeIs after n v → SizeIs (after ++ more) n v
size_more after more n v s =
    let same : take n (after ++ more) ≡ take n after = take-append-le n after more s.there in
    record { few = s.few; there = omega (arith, length-append after more, s.there); ends = rw same s.ends; value = ap leb_value same ∙ s.value }

go_on_more : (after more : List ℕ) → (8 ≤ length after) × AllGoOn (take 8 after) → (8 ≤ length (after ++ more)) × AllGoOn (take 8 (after ++ more))
go_on_more after more s = (omega (arith, length-append after more, s.0), rw (take-append-le 8 after more s.0) s.1)

pub whole_size_more : (after more : List ℕ) → HasWholeSize after → HasWholeSize (after ++ more)
whole_size_more after more (inl s) = inl (s.0, s.1, size_more after more s.0 s.1 s.2)
whole_size_more after more (inr s) = inr (go_on_more after more s)

wrong_size_more : (after more : List ℕ) → WrongSize after → WrongSize (after ++ more)
wrong_size_more after more (inl s) = inl (s.0, s.1, size_more after more s.0 s.1 s.2, s.3)
wrong_size_more after more (inr s) = inr (go_on_more after more s)

pub no_size : HasWholeSize [] → ⊥
no_size (inl s) = let none : s.0 ≡ 0 = omega (arith, s.2.there) in rw none at s.2.ends
no_size (inr s) = omega (arith, s.0)

-- ---- the header

-- it fails for more than that it is cut off, by what reading answers
record Fails (f : HeaderFault) (r : Result Front HeaderFault) : Type 0 where
  pub is : r ≡ Err f
  pub uncut : f ≡ Cut → ⊥

part_more : (x len v : ℕ) (rest more : List ℕ) (f : HeaderFault) → Fails f (part x len (bytes_at v rest)) → part x len (bytes_at v (rest ++ more)) ≡ Err f
unfolding bytes_at
part_more x len v rest more f h =
    elim (cases_lt (length rest) v) [
      | inl lt ↦ let cut : Err Cut ≡ Err f = rw (lt-ltb (length rest) v lt) at h.is in let no : ⊥ = h.uncut (sym (err_is {A = Front} Cut f cut)) in absurd no
      | inr le ↦
          let here : finish len (fields_at x (take v rest)) ≡ Err f = rw (le-ltb (length rest) v le) at h.is in
          rw (le-ltb (length (rest ++ more)) v (omega (arith, length-append rest more, le)), take-append-le v rest more le) here
    ]

size_then : (x : ℕ) (after more rest : List ℕ) (v : ℕ) (f : HeaderFault) → Fails f (after_size x after (Ok (v, rest))) → after_size x (after ++ more) (Ok (v, rest ++ more)) ≡ Err f
size_then x after more rest v f h =
    let len : 1 + (length (after ++ more) - length (rest ++ more)) + v ≡ 1 + (length after - length rest) + v = omega (arith, length-append after more, length-append rest more) in
    let k : ℕ = 1 + (length after - length rest) + v in
    rw len (elim (cond_cases (nat_lt (2 ^ 21) k) (Err ObuSize) (if flags_allowed x then part x k (bytes_at v rest) else Err Flags) (Err f) h.is) [
      | inl p ↦ rw p.0 p.1
      | inr p ↦ elim (cond_cases (flags_allowed x) (part x k (bytes_at v rest)) (Err Flags) (Err f) p.1) [
        | inl q ↦ rw (p.0, q.0) (part_more x k v rest more f (record { is = q.1; uncut = h.uncut }))
        | inr q ↦ rw (p.0, q.0) q.1
      ]
    ])

abbrev unsized : FieldFault → Result (ℕ × List ℕ) FieldFault
unsized d = Err d

after_more : (x : ℕ) (after more : List ℕ) (r : Result (ℕ × List ℕ) FieldFault) (f : HeaderFault) → leb_at after ≡ r → HasWholeSize after → Fails f (after_size x after r)
    → after_size x (after ++ more) (leb_at (after ++ more)) ≡ Err f
after_more x after more (Ok q) f e s h = rw (leb_more after more q.1 q.0 e) (size_then x after more q.1 q.0 f h)
after_more x after more (Err d) f e s h =
    let wrong : WrongSize after = wrong_size after d s e in
    let leb : unsized d ≡ unsized field.Leb = sym e ∙ wrong_fails after wrong in
    let same : after_size x after (unsized d) ≡ Err Leb = ap (after_size x after) leb in
    rw (wrong_fails (after ++ more) (wrong_size_more after more wrong)) (sym same ∙ h.is)

header_more : (x : ℕ) (after more : List ℕ) (f : HeaderFault) → HasWholeSize after → Fails f (header_at (x ∷ after)) → header_at (x ∷ (after ++ more)) ≡ Err f
unfolding header_at
header_more x after more f s h = after_more x after more (leb_at after) f refl s h

pub sure_stays : SureFaultStays
sure_stays [] more f s = let no : ⊥ = no_size s.sized in absurd no
sure_stays (x ∷ after) more f s = record {
  first = header_fails x (after ++ more) f (header_more x after more f s.sized (record { is = header_fails_only x after f s.first; uncut = s.uncut }));
  uncut = s.uncut;
  sized = whole_size_more after more s.sized;
}

pub partial_not_whole : PartialIsNotWhole
partial_not_whole [] p h = omega (arith, ap length h.parts, length-append h.front h.rest, ap length h.is.bytes)
partial_not_whole (x ∷ xs) p h = no_header h.head h.payload h.front h.rest (x ∷ xs) p.fault h.is p.first (omega arith) (sym h.parts)

-- ---- a whole OBU

pub obu_sized : (h : Head) (payload piece more : List ℕ) → Header h payload piece → HasWholeSize (drop 1 (piece ++ more))
obu_sized h payload piece more is =
    let body : List ℕ = is.trim ++ (is.extension ++ payload) in
    let whole : piece ++ more ≡ first_byte h ∷ (is.size ++ (body ++ more)) = ap (λ (b : List ℕ). b ++ more) is.bytes ∙ ap (λ (b : List ℕ). first_byte h ∷ b) (append_assoc is.size body more) in
    let same : take (length is.size) (is.size ++ (body ++ more)) ≡ is.size = take-append_seam is.size (body ++ more) in
    rw whole (inl (
      length is.size,
      length body,
      record { few = is.size_is.short; there = omega (arith, length-append is.size (body ++ more)); ends = rw same is.size_is.ends; value = ap leb_value same ∙ is.size_is.value },
    ))
