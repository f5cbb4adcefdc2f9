-- A header that is cut off waits for the bytes that its size says, and any other fault of it is sure.
use Rattle.std.proofs.Common.{◌≡◌, ℕ, zero, suc, ◌+◌, ◌-◌, ◌^◌, ◌<◌, ◌≤◌, inl, inr, true, false, nat_lt, if◌then◌else◌, List, [], ◌∷◌, ◌++◌, length, take, drop, Result, Ok, Err, refl, sym, ap, subst, ◌∙◌, arith, append-nil, length-append}
use Rattle.std.proofs.lemmas.List.{take_all}
use Rattle.std.proofs.lemmas.Bool.{cases_lt, lt-ltb, le-ltb, ltb-false}
use Rattle.spec_bits.specs.declared.FieldFault.{FieldFault}
use Rattle.spec_bits.specs.declared.FieldFault.TheVariants as field
use Rattle.spec_bits.specs.Leb.{LebFault, EndsAtLast, leb_value}
use Rattle.spec_bits.specs.ByteReading.{leb_at, bytes_at}
use Rattle.spec_bits.proofs.Outcomes.{err_is, cond_cases}
use Rattle.spec_bits.proofs.LebLaws.{leb_fails}
use Rattle.spec_obu.specs.declared.HeaderFault.{HeaderFault}
use Rattle.spec_obu.specs.declared.HeaderFault.TheVariants.{Leb, ObuSize, Flags, HeaderSize, Cut}
use Rattle.spec_obu.specs.Header.{Head, flags_allowed}
use Rattle.spec_obu.specs.Faults.{SizeIs, IsFirstFault}
use Rattle.spec_obu.specs.Reading.{Front, fields_at, finish, part, after_size, header_at}
use Rattle.spec_obu.proofs.FaultLaws.{first_of, Sized, sized, header_fails, header_fails_only}
use Rattle.spec_streams.specs.Front.{HasWholeSize, IsSure, IsPartial}
use Rattle.spec_streams.proofs.SureFaults.{WrongSize, wrong_size, wrong_fails, leb_more}
use Rattle.iamf_stream.specs.Waiting.{IsWaiting}
use Rattle.iamf_stream.specs.Front.{SizeSays}

abbrev failed : HeaderFault → Result Front HeaderFault
failed f = Err f

-- ---- a size that is whole

finish_not_cut : (len : ℕ) (r : Result (Head × List ℕ) FieldFault) → finish len r ≡ Err Cut → ⊥
finish_not_cut len (Ok r) e = cc
finish_not_cut len (Err f) e = let no : HeaderSize ≡ Cut = err_is {A = Front} HeaderSize Cut e in cc

-- what a header that is cut off after its size says of it
record CutAfterSize (x k v : ℕ) (rest : List ℕ) : Type 0 where
  pub small : k ≤ 2 ^ 21
  pub flags : flags_allowed x ≡ true
  pub short : length rest < v

cut_part : (x k v : ℕ) (rest : List ℕ) → part x k (bytes_at v rest) ≡ Err Cut → length rest < v
unfolding bytes_at
cut_part x k v rest e =
    elim (cases_lt (length rest) v) [
      | inl lt ↦ lt
      | inr le ↦ absurd (finish_not_cut k (fields_at x (take v rest)) (rw (le-ltb (length rest) v le) at e))
    ]

cut_parts : (x : ℕ) (after rest : List ℕ) (v : ℕ) → after_size x after (Ok (v, rest)) ≡ Err Cut → CutAfterSize x (1 + (length after - length rest) + v) v rest
cut_parts x after rest v e =
    let k : ℕ = 1 + (length after - length rest) + v in
    elim (cond_cases (nat_lt (2 ^ 21) k) (Err ObuSize) (if flags_allowed x then part x k (bytes_at v rest) else Err Flags) (Err Cut) e) [
      | inl p ↦ let no : ObuSize ≡ Cut = err_is {A = Front} ObuSize Cut p.1 in absurd cc
      | inr p ↦ elim (cond_cases (flags_allowed x) (part x k (bytes_at v rest)) (Err Flags) (Err Cut) p.1) [
        | inl q ↦ record { small = ltb-false (2 ^ 21) k p.0; flags = q.0; short = cut_part x k v rest q.1 }
        | inr q ↦ let no : Flags ≡ Cut = err_is {A = Front} Flags Cut q.1 in absurd cc
      ]
    ]

-- it is cut off as long as there are fewer bytes than the size says
still_cut : (x : ℕ) (after rest more : List ℕ) (v : ℕ) → leb_at after ≡ Ok (v, rest) → CutAfterSize x (1 + (length after - length rest) + v) v rest → length rest + length more < v
    → IsFirstFault Cut (x ∷ (after ++ more))
unfolding header_at bytes_at
still_cut x after rest more v e cut few =
    let len : 1 + (length (after ++ more) - length (rest ++ more)) + v ≡ 1 + (length after - length rest) + v = omega (arith, length-append after more, length-append rest more) in
    let fails : header_at (x ∷ (after ++ more)) ≡ Err Cut =
    rw (leb_more after more rest v e, len, le-ltb (2 ^ 21) (1 + (length after - length rest) + v) cut.small, cut.flags, lt-ltb (length (rest ++ more)) v (omega (arith, length-append rest more, few))) refl in
    header_fails x (after ++ more) Cut fails

is_cut : (x : ℕ) (after rest : List ℕ) (v : ℕ) → leb_at after ≡ Ok (v, rest) → IsFirstFault Cut (x ∷ after) → CutAfterSize x (1 + (length after - length rest) + v) v rest
unfolding header_at
is_cut x after rest v e first =
    cut_parts x after rest v (ap (after_size x after) (sym e) ∙ header_fails_only x after Cut first)

-- the rest is what comes after the size
pub size_len : (after rest : List ℕ) (v : ℕ) → leb_at after ≡ Ok (v, rest) → length rest ≤ length after
size_len after rest v e = let s = sized after rest v e in omega (arith, s.1.len)

pub cut_waits : (bytes : List ℕ) (count : ℕ) → 0 < length bytes → SizeSays bytes count → IsFirstFault Cut bytes → IsWaiting bytes count
cut_waits [] count some s first = absurd (omega arith)
cut_waits (x ∷ after) count some s first =
    let cut = is_cut x after s.rest s.size s.reads first in
    let left : length s.rest ≤ length after = size_len after s.rest s.size s.reads in
    record {
      short = omega (arith, s.count_is, cut.short, left);
      few = omega (arith, s.count_is, cut.small, left);
      partial = λ more few. record {
        fault = Cut;
        first = still_cut x after s.rest more s.size s.reads cut (omega (arith, few, length-append after more, s.count_is, left));
        unsure = λ sure. sure.uncut refl;
      };
    }

pub sized_is_sure : (bytes : List ℕ) (f : HeaderFault) (count : ℕ) → SizeSays bytes count → (f ≡ Cut → ⊥) → IsFirstFault f bytes → IsSure f bytes
sized_is_sure bytes f count s uncut first =
    let size = sized (drop 1 bytes) s.rest s.size s.reads in
    record { first = first; uncut = uncut; sized = inl (size.0, s.size, size.1.size) }

-- ---- a size that is not

short_size : (after : List ℕ) → leb_at after ≡ Err field.Short → HasWholeSize after → ⊥
short_size after e s =
    let leb = wrong_fails after (wrong_size after field.Short s e) in
    let no : field.Short ≡ field.Leb = err_is {A = ℕ × List ℕ} field.Short field.Leb (sym e ∙ leb) in
    cc

no_more : (more : List ℕ) → length more < 1 → more ≡ []
no_more [] few = refl
no_more (x ∷ xs) few = absurd (omega arith)

pub short_waits : (bytes : List ℕ) (f : HeaderFault) → 0 < length bytes → leb_at (drop 1 bytes) ≡ Err field.Short → IsFirstFault f bytes → IsWaiting bytes (length bytes + 1)
short_waits [] f some e first = absurd (omega arith)
short_waits (x ∷ after) f some e first = record {
  short = omega arith;
  few = let short = leb_fails after field.Short e in omega (arith, short.0);
  partial = λ more few.
      let none : more ≡ [] = no_more more (omega (arith, few, length-append after more)) in
      let same : (x ∷ after) ++ more ≡ x ∷ after = ap (λ (m : List ℕ). (x ∷ after) ++ m) none ∙ append-nil (x ∷ after) in
      subst IsPartial (sym same) (record { fault = f; first = first; unsure = λ sure. short_size after e sure.sized });
}

whole_of : (after : List ℕ) → LebFault field.Leb after → HasWholeSize after
whole_of after (inl s) = inr s
whole_of after (inr s) =
    elim (cases_lt (length after) s.0) [
      | inl lt ↦
          let same : take (length after) after ≡ take s.0 after = take_all (length after) after (omega arith) ∙ sym (take_all s.0 after (omega (arith, lt))) in
          inl (length after, leb_value (take (length after) after), record { few = omega (arith, lt, s.1); there = omega arith; ends = rw same s.2; value = refl })
      | inr le ↦ inl (s.0, leb_value (take s.0 after), record { few = s.1; there = le; ends = s.2; value = refl })
    ]

-- the fault of a size that is no number is the header's
leb_first : (x : ℕ) (after : List ℕ) (f : HeaderFault) → leb_at after ≡ Err field.Leb → IsFirstFault f (x ∷ after) → f ≡ Leb
unfolding header_at
leb_first x after f e first = sym (err_is {A = Front} Leb f (ap (after_size x after) (sym e) ∙ header_fails_only x after f first))

pub leb_is_sure : (bytes : List ℕ) (f : HeaderFault) → 0 < length bytes → leb_at (drop 1 bytes) ≡ Err field.Leb → IsFirstFault f bytes → IsSure f bytes
leb_is_sure [] f some e first = absurd (omega arith)
leb_is_sure (x ∷ after) f some e first =
    let is = leb_first x after f e first in
    record { first = first; uncut = λ cut. cc; sized = whole_of after (leb_fails after field.Leb e) }

no_text : (after : List ℕ) → leb_at after ≡ Err field.Text → ⊥
no_text after e = leb_fails after field.Text e

pub unsized_is_sure : (bytes : List ℕ) (f : HeaderFault) (d : FieldFault) → 0 < length bytes → leb_at (drop 1 bytes) ≡ Err d → (d ≡ field.Short → ⊥) → IsFirstFault f bytes → IsSure f bytes
unsized_is_sure bytes f field.Short some e long first = absurd (long refl)
unsized_is_sure bytes f field.Leb some e long first = leb_is_sure bytes f some e first
unsized_is_sure bytes f field.Text some e long first = absurd (no_text (drop 1 bytes) e)

-- ---- no bytes

no_end : (n : ℕ) → EndsAtLast (take {A = ℕ} n []) → ⊥
no_end zero ends = ends
no_end (suc n) ends = ends

unsized : (n v : ℕ) → SizeIs [] n v → ⊥
unsized n v s = no_end n s.ends

no_leb : LebFault field.Leb [] → ⊥
no_leb (inl h) = omega (arith, h.0)
no_leb (inr h) = no_end h.0 h.2

none_is_cut : IsFirstFault Cut []
none_is_cut = record {
  here = inl unsized;
  first = first_of 0 [] 3 (omega arith) (λ lt h. no_leb h) (λ lt h. unsized h.0 h.1 h.2) (λ lt h. let no : true ≡ false = h in cc) (λ lt h. absurd (omega arith));
}

-- they wait for a first one
pub none_waits : (bytes : List ℕ) → length bytes ≡ 0 → IsWaiting bytes 1
none_waits [] none = record {
  short = omega arith;
  few = omega arith;
  partial = λ more few. subst IsPartial (sym (no_more more few)) (record { fault = Cut; first = none_is_cut; unsure = λ sure. sure.uncut refl });
}
none_waits (x ∷ xs) none = absurd (omega arith)
