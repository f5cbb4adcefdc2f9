-- A checker that is fed the bare sequence of a track, piece by piece.
use Rattle.std.proofs.Common.{◌≡◌, ℕ, ◌+◌, ◌^◌, ◌≤◌, inl, List, [], ◌∷◌, ◌++◌, length, sym, ap, ap₂, subst, ◌∙◌, append_assoc, append-nil, length-append, arith}
use Rattle.std.specs.List.{flat_map}
use Rattle.spec_files.specs.Body.{marked}
use Rattle.iamf_stream.specs.CheckerView.{CheckerValue, Stands}
use Rattle.iamf_stream.specs.Feeding.{Knows}
use Rattle.iamf_stream.proofs.Fed.{Feeding}

-- the checker knows some of the bytes, and what is left are the units of these samples
pub record HasFed (c : CheckerValue) (left : List (List ℕ)) (all : List ℕ) : Type 0 where
  pub bytes : List ℕ
  pub knows : Knows c bytes
  pub fed : c.fed ≤ length bytes
  pub rest : bytes ++ flat_map marked left ≡ all

pub config_fed : (old new : CheckerValue) (piece config : List ℕ) (left samples : List (List ℕ)) → piece ≡ config → left ≡ samples → Stands old [] → old.fed ≡ 0 → Feeding old new piece → HasFed new left (config ++ flat_map marked samples)
config_fed old new piece config left samples is are stands none f =
    record { bytes = piece; knows = f.knows [] (inl stands); fed = omega (arith, f.fed, none); rest = ap₂ (λ (c : List ℕ) (ls : List (List ℕ)). c ++ flat_map marked ls) is are }

-- room for the next delimiter, and for the sample after it
pub fits : (c : CheckerValue) (left rest : List (List ℕ)) (sample all : List ℕ) → left ≡ sample ∷ rest → HasFed c left all → length all ≤ 2 ^ 40 → c.fed + (2 + length sample) ≤ 2 ^ 40
fits c left rest sample all is h small =
    let whole : h.bytes ++ (marked sample ++ flat_map marked rest) ≡ all = sym (ap (λ (ls : List (List ℕ)). h.bytes ++ flat_map marked ls) is) ∙ h.rest in
    omega (arith, h.fed, small, ap length whole, length-append h.bytes (marked sample ++ flat_map marked rest), length-append (marked sample) (flat_map marked rest))

pub sample_fed : (old middle new : CheckerValue) (left rest : List (List ℕ)) (sample all : List ℕ) → left ≡ sample ∷ rest → HasFed old left all → Feeding old middle (0x20 ∷ 0 ∷ []) → Feeding middle new sample → HasFed new rest all
sample_fed old middle new left rest sample all is h first next = record {
  bytes = (h.bytes ++ (0x20 ∷ 0 ∷ [])) ++ sample;
  knows = next.knows (h.bytes ++ (0x20 ∷ 0 ∷ [])) (first.knows h.bytes h.knows);
  fed = omega (arith, h.fed, first.fed, next.fed, length-append (h.bytes ++ (0x20 ∷ 0 ∷ [])) sample, length-append h.bytes (0x20 ∷ 0 ∷ []));
  rest = ap (λ (t : List ℕ). t ++ flat_map marked rest) (append_assoc h.bytes (0x20 ∷ 0 ∷ []) sample) ∙ append_assoc h.bytes (marked sample) (flat_map marked rest)
      ∙ sym (ap (λ (ls : List (List ℕ)). h.bytes ++ flat_map marked ls) is) ∙ h.rest;
}

pub all_fed : (c : CheckerValue) (left : List (List ℕ)) (all : List ℕ) → left ≡ [] → HasFed c left all → Knows c all
all_fed c left all none h = subst (Knows c) (sym (append-nil h.bytes) ∙ sym (ap (λ (ls : List (List ℕ)). h.bytes ++ flat_map marked ls) none) ∙ h.rest) h.knows
