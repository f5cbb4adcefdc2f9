-- A payload says the same by the narrow rules, where it is no sequence header of another profile than Simple and Base.
use Rattle.std.proofs.Common.{◌≡◌, ◌≤◌, ℕ, List, [], ◌∷◌, refl, sym, ap, subst, le-ltb, arith}
use Rattle.std.proofs.lemmas.Bool.{ltb-false}
use Rattle.spec_bits.specs.Bits.{Bits}
use Rattle.spec_syntax.specs.Payload.{FieldValue, Stands}
use Rattle.spec_obu.specs.declared.obu_type.ObuType.{ObuType}
use Rattle.spec_obu.specs.declared.obu_type.ObuType.TheVariants.{SequenceHeader}
use Rattle.spec_descriptors.specs.SequenceHeader.{SequenceHeaderFields, sequence_header}
use Rattle.spec_values.specs.Content.{Content, Header, Context, Says}
use Rattle.spec_sequence.specs.Narrow.{narrow_header, NarrowlySays}

-- a sequence header's profile is Simple or Base
abbrev pub IsNarrow : Content → Type 0
IsNarrow (Header h) = h.primary_profile ≤ 1
IsNarrow _ = Unit {0}

abbrev pub IsHeader : Content → Type 0
IsHeader (Header h) = Unit {0}
IsHeader _ = ⊥

narrow_stands : (xs : List FieldValue) (r : SequenceHeaderFields) (bits : Bits) → r.primary_profile ≤ 1 → Stands sequence_header [] xs r bits → Stands narrow_header [] xs r bits
unfolding sequence_header narrow_header
narrow_stands [] r bits small s = s
narrow_stands (a ∷ []) r bits small s = s
narrow_stands (a ∷ b ∷ []) r bits small s = absurd s.7.7
narrow_stands (a ∷ b ∷ c ∷ d ∷ xs) r bits small s = absurd s.7.7.7
narrow_stands (a ∷ b ∷ c ∷ []) r bits small s =
    let p = s.7 in
    let is : p.0 ≡ r.primary_profile = ap (λ (h : SequenceHeaderFields). h.primary_profile) p.7.7.0 in
    (s.0, s.1, s.2, s.3, s.4, s.5, s.6, (p.0, p.1, p.2, p.3, p.4, p.5, (le-ltb 1 p.0 (subst (λ (n : ℕ). n ≤ 1) (sym is) small), tt), p.7))

wide_stands : (xs : List FieldValue) (r : SequenceHeaderFields) (bits : Bits) → Stands narrow_header [] xs r bits → Stands sequence_header [] xs r bits × (r.primary_profile ≤ 1)
unfolding sequence_header narrow_header
wide_stands [] r bits s = absurd s
wide_stands (a ∷ []) r bits s = absurd s.7
wide_stands (a ∷ b ∷ []) r bits s = absurd s.7.7
wide_stands (a ∷ b ∷ c ∷ d ∷ xs) r bits s = absurd s.7.7.7
wide_stands (a ∷ b ∷ c ∷ []) r bits s =
    let p = s.7 in
    let is : p.0 ≡ r.primary_profile = ap (λ (h : SequenceHeaderFields). h.primary_profile) p.7.7.0 in
    let small : p.0 ≤ 1 = ltb-false 1 p.0 p.6.0 in
    ((s.0, s.1, s.2, s.3, s.4, s.5, s.6, (p.0, p.1, p.2, p.3, p.4, p.5, (le-ltb 2 p.0 (omega (arith, small)), tt), p.7)), subst (λ (n : ℕ). n ≤ 1) is small)

pub narrow_says : (context : Context) (n : ℕ) (k : ObuType) (c : Content) (tail payload : List ℕ) → IsNarrow c → Says context n k c tail payload → NarrowlySays context n k c tail payload
narrow_says context n SequenceHeader (Header h) tail payload small s = record { spelling = s.spelling; stands = narrow_stands _ h s.spelling small s.stands; parts = s.parts }
narrow_says context n k c tail payload small s = s

pub wide_says : (context : Context) (n : ℕ) (k : ObuType) (c : Content) (tail payload : List ℕ) → NarrowlySays context n k c tail payload → Says context n k c tail payload × IsNarrow c
wide_says context n SequenceHeader (Header h) tail payload s =
    let w = wide_stands _ h s.spelling s.stands in
    (record { spelling = s.spelling; stands = w.0; parts = s.parts }, w.1)
wide_says context n k (Header h) tail payload s = absurd s
wide_says context n k c tail payload s = (s, tt)

pub header_type : (context : Context) (n : ℕ) (k : ObuType) (c : Content) (tail payload : List ℕ) → Says context n k c tail payload → IsHeader c → k ≡ SequenceHeader
header_type context n SequenceHeader c tail payload s is = refl
header_type context n k (Header h) tail payload s is = absurd s
header_type context n k c tail payload s is = absurd is
