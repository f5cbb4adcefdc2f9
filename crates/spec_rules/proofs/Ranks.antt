-- Descriptors stand in the order of their ranks, and before all data OBUs.
use Rattle.std.proofs.Common.{◌≡◌, ℕ, ◌<◌, false, ◌||◌, ltb, List, [], ◌∷◌, ◌++◌, refl, sym, ap, ◌∙◌, lt-ltb, true≢false, arith}
use Rattle.std.specs.List.{list_any, flat_map}
use Rattle.std.proofs.lemmas.Bool.{or_parts}
use Rattle.std.proofs.lemmas.Bool.Decides.{nat_tests}
use Rattle.spec_rules.specs.Role.{MixRole, Role, Ignored, SequenceHeader, CodecConfig, AudioElement, MixPresentation, Delimiter, ParameterBlock, AudioFrame}
use Rattle.spec_rules.specs.Descriptors.{rank, profiles, mix_of, mixes}
use Rattle.spec_rules.specs.Units.{is_none_of, is_data}
use Rattle.spec_rules.specs.Rules.{is_out_of_order}

pub order_parts : (l : List Role) (r : ℕ) → is_out_of_order l r ≡ false → (is_none_of (profiles l) ≡ false) × (list_any (λ e. ltb r (rank e)) l ≡ false)
unfolding is_out_of_order
order_parts l r h = or_parts (is_none_of (profiles l)) (list_any (λ e. ltb r (rank e)) l) h

-- no rank is above 5
pub rank-small : (l : List Role) → list_any (λ o. ltb 5 (rank o)) l ≡ false
rank-small [] = refl
rank-small (Ignored ∷ xs) = rank-small xs
rank-small (SequenceHeader p ∷ xs) = rank-small xs
rank-small (CodecConfig c ∷ xs) = rank-small xs
rank-small (AudioElement e ∷ xs) = rank-small xs
rank-small (MixPresentation m ∷ xs) = rank-small xs
rank-small (Delimiter ∷ xs) = rank-small xs
rank-small (ParameterBlock b ∷ xs) = rank-small xs
rank-small (AudioFrame f ∷ xs) = rank-small xs

-- a mix is of rank 4
pub no_mix : (r : ℕ) → r < 4 → (l : List Role) → list_any (λ e. ltb r (rank e)) l ≡ false → mixes l ≡ []
unfolding mixes
no_mix r small [] h = refl
no_mix r small (x ∷ xs) h = let parts : (ltb r (rank x) ≡ false) × (list_any (λ e. ltb r (rank e)) xs ≡ false) = or_parts (ltb r (rank x)) (list_any (λ e. ltb r (rank e)) xs) h in
    ap (λ (ms : List MixRole). ms ++ flat_map mix_of xs) (one x parts.0) ∙ no_mix r small xs parts.1
  where
    one : (o : Role) → ltb r (rank o) ≡ false → mix_of o ≡ []
    one (MixPresentation m) h = absurd (grind (arith, nat_tests))
    one Ignored h = refl
    one (SequenceHeader p) h = refl
    one (CodecConfig c) h = refl
    one (AudioElement e) h = refl
    one Delimiter h = refl
    one (ParameterBlock b) h = refl
    one (AudioFrame f) h = refl

-- a data OBU is of rank 5
rank_data : (r : ℕ) → r < 5 → (l : List Role) → list_any (λ e. ltb r (rank e)) l ≡ false → list_any is_data l ≡ false
rank_data r small [] h = refl
rank_data r small (x ∷ xs) h = let parts : (ltb r (rank x) ≡ false) × (list_any (λ e. ltb r (rank e)) xs ≡ false) = or_parts (ltb r (rank x)) (list_any (λ e. ltb r (rank e)) xs) h in
    one x parts.0 (rank_data r small xs parts.1) where
      one : (o : Role) → ltb r (rank o) ≡ false → list_any is_data xs ≡ false → (is_data o || list_any is_data xs) ≡ false
      one Delimiter high rest = absurd (true≢false (sym (lt-ltb r 5 small) ∙ high))
      one (ParameterBlock b) high rest = absurd (true≢false (sym (lt-ltb r 5 small) ∙ high))
      one (AudioFrame f) high rest = absurd (true≢false (sym (lt-ltb r 5 small) ∙ high))
      one Ignored high rest = rest
      one (SequenceHeader p) high rest = rest
      one (CodecConfig c) high rest = rest
      one (AudioElement e) high rest = rest
      one (MixPresentation m) high rest = rest

pub no_data-order : (l : List Role) (r : ℕ) → r < 5 → is_out_of_order l r ≡ false → list_any is_data l ≡ false
no_data-order l r small h = rank_data r small l (order_parts l r h).1
