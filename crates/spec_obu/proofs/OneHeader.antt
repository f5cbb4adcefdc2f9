-- Bytes that are not none begin with one header, or have one first fault.
use Rattle.std.proofs.Common.{◌≡◌, ℕ, ◌<◌, ◌⊎◌, inl, inr, List, [], ◌∷◌, ◌++◌, length, take, drop, Result, Ok, Err, refl, sym, ap, ◌∙◌, arith}
use Rattle.std.proofs.lemmas.List.{take-append-drop}
use Rattle.std.proofs.Math.Seq.{take-append_seam, drop-append_seam}
use Rattle.spec_bits.proofs.Outcomes.{ok_is}
use Rattle.spec_obu.specs.declared.HeaderFault.{HeaderFault}
use Rattle.spec_obu.specs.Header.{Head, Header}
use Rattle.spec_obu.specs.Faults.{IsFirstFault}
use Rattle.spec_obu.specs.Reading.{Front, header_at}
use Rattle.spec_obu.specs.Laws.{HasHeader, EitherHeaderOrFault, NotHeaderAndFault, OneValue}
use Rattle.spec_obu.proofs.HeaderLaws.{header_read, header_again}
use Rattle.spec_obu.proofs.FaultLaws.{header_fails, header_fails_only}

either_of : (x : ℕ) (after : List ℕ) (r : Result Front HeaderFault) → x < 256 → header_at (x ∷ after) ≡ r → HasHeader (x ∷ after) ⊎ ((f : HeaderFault) × IsFirstFault f (x ∷ after))
either_of x after (Ok y) small e =
    let is = header_read x after y.1 y.0 y.2 small e in
    inl (record { head = y.0; payload = y.1; front = take y.2 (x ∷ after); rest = drop y.2 (x ∷ after); is = is.1; parts = sym (take-append-drop y.2 (x ∷ after)) })
either_of x after (Err f) small e = inr (f, header_fails x after f e)

pub either : EitherHeaderOrFault
either [] are begun = absurd (omega arith)
either (x ∷ after) are begun = either_of x after (header_at (x ∷ after)) are.0 refl

-- no header where there is a fault
pub no_header : (h : Head) (p front rest other : List ℕ) (f : HeaderFault) → Header h p front → IsFirstFault f other → 0 < length other → front ++ rest ≡ other → ⊥
no_header h p front rest [] f a fault begun e = omega arith
no_header h p front rest (x ∷ xs) f a fault begun e =
    let no = sym (header_again h p front rest a) ∙ ap header_at e ∙ header_fails_only x xs f fault in
    cc

pub not_both : NotHeaderAndFault
not_both b f begun h fault = no_header h.head h.payload h.front h.rest b f h.is fault begun (sym h.parts)

-- two headers at the front of the same bytes
pub record Same (h h' : Head) (p p' front front' rest rest' : List ℕ) : Type 0 where
  pub head : h ≡ h'
  pub payload : p ≡ p'
  pub bytes : front ≡ front'
  pub after : rest ≡ rest'

pub same_front : (h h' : Head) (p p' front front' rest rest' : List ℕ) → Header h p front → Header h' p' front' → front ++ rest ≡ front' ++ rest' → Same h h' p p' front front' rest rest'
same_front h h' p p' front front' rest rest' a b e =
    let one = ok_is {F = HeaderFault} (h, p, length front) (h', p', length front') (sym (header_again h p front rest a) ∙ ap header_at e ∙ header_again h' p' front' rest' b) in
    let len : length front ≡ length front' = ap (λ (y : Front). y.2) one in
    record {
      head = ap (λ (y : Front). y.0) one;
      payload = ap (λ (y : Front). y.1) one;
      bytes = sym (take-append_seam front rest) ∙ ap (λ (n : ℕ). take n (front ++ rest)) len ∙ ap (take (length front')) e ∙ take-append_seam front' rest';
      after = sym (drop-append_seam front rest) ∙ ap (λ (n : ℕ). drop n (front ++ rest)) len ∙ ap (drop (length front')) e ∙ drop-append_seam front' rest';
    }

pub one_value : OneValue
one_value h k payload other front start rest after a b e =
    let s = same_front h k payload other front start rest after a b e in
    (s.head, s.payload, s.bytes)
