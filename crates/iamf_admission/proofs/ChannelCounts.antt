-- Substreams have one channel or two.
use Rattle.std.proofs.Common.{◌≡◌, ℕ, zero, suc, ◌-◌, Bool, true, false, ◌==◌, ◌⊎◌, inl, inr, List, [], ◌∷◌, ◌++◌, refl, sym, ap, ◌∙◌}
use Rattle.std.specs.Prelude.{Option, Some, None, replicate, if◌then◌else◌}
use Rattle.std.specs.List.{flat_map, zip}
use Rattle.std.proofs.lemmas.Grind.{flat_map-append}
use Rattle.std.proofs.Common.{append-nil}
use Rattle.spec_descriptors.specs.Layers.{LayerFields}
use Rattle.spec_descriptors.specs.Ambisonics.{Mono, Projection}
use Rattle.spec_descriptors.specs.AudioElement.{ConfigFields, Scalable, Ambisonics, Other, coupled_first, layer_channels, substream_channels_of}
use Rattle.spec_rules.specs.Role.{Role}
use Rattle.spec_rules.specs.Descriptors.{channels_in, pairs_in, pairs_of, channels_of}
use Rattle.iamf_rules.specs.Coding.{IsChannels}
use Rattle.iamf_admission.specs.Standing.{AreChannels, AreAllChannels}

-- ---- of an element

are-append : (xs ys : List ℕ) → AreChannels xs → AreChannels ys → AreChannels (xs ++ ys)
are-append [] ys a b = b
are-append (x ∷ xs) ys a b = (a.0, are-append xs ys a.1 b)

are-replicate : (count n : ℕ) → IsChannels n → AreChannels (replicate count n)
are-replicate zero n is = tt
are-replicate (suc count) n is = (is, are-replicate count n is)

are-coupled : (substreams coupled : ℕ) → AreChannels (coupled_first substreams coupled)
are-coupled substreams coupled = are-append (replicate coupled 2) (replicate (substreams - coupled) 1) (are-replicate coupled 2 (inr refl)) (are-replicate (substreams - coupled) 1 (inl refl))

are-layers : (layers : List LayerFields) → AreChannels (layer_channels layers)
are-layers [] = tt
are-layers (layer ∷ layers) = are-append (coupled_first layer.substream_count layer.coupled_substream_count) (layer_channels layers) (are-coupled layer.substream_count layer.coupled_substream_count) (are-layers layers)

pub of_config : (config : ConfigFields) → AreAllChannels (substream_channels_of config)
of_config (Scalable layers) = are-layers layers
of_config (Ambisonics (Mono outputs substreams mapping)) = are-coupled substreams 0
of_config (Ambisonics (Projection outputs substreams coupled matrix)) = are-coupled substreams coupled
of_config (Other kind bytes) = tt

-- ---- of one of the substreams

in_zip : (ids channels : List ℕ) (s n : ℕ) → AreChannels channels → channels_in (zip ids channels) s ≡ Some n → IsChannels n
in_zip [] channels s n are e = absurd cc
in_zip (id ∷ ids) [] s n are e = absurd cc
in_zip (id ∷ ids) (c ∷ channels) s n are e = go (id == s) (λ h. in_zip ids channels s n are.1 h) e
  where
    go : (b : Bool) → (channels_in (zip ids channels) s ≡ Some n → IsChannels n) → (if b then Some c else channels_in (zip ids channels) s) ≡ Some n → IsChannels n
    go true later e = let same : c ≡ n = cc in rw (sym same) are.0
    go false later e = later e

pub in_pairs : (ids : List ℕ) (channels : Option (List ℕ)) (s n : ℕ) → AreAllChannels channels → channels_in (pairs_in ids channels) s ≡ Some n → IsChannels n
in_pairs ids None s n are e = absurd cc
in_pairs ids (Some channels) s n are e = in_zip ids channels s n are e

-- ---- of a list with one more

either : (ps qs : List (ℕ × ℕ)) (s n : ℕ) → channels_in (ps ++ qs) s ≡ Some n → (channels_in ps s ≡ Some n) ⊎ (channels_in qs s ≡ Some n)
either [] qs s n e = inr e
either (p ∷ ps) qs s n e = go (p.0 == s) (λ h. either ps qs s n h) e
  where
    go : (b : Bool) → (channels_in (ps ++ qs) s ≡ Some n → (channels_in ps s ≡ Some n) ⊎ (channels_in qs s ≡ Some n)) → (if b then Some p.1 else channels_in (ps ++ qs) s) ≡ Some n → ((if b then Some p.1 else channels_in ps s) ≡ Some n) ⊎ (channels_in qs s ≡ Some n)
    go true later e = inl e
    go false later e = later e

pub one_more : (l : List Role) (o : Role) (s n : ℕ) → channels_of (l ++ o ∷ []) s ≡ Some n → (channels_of l s ≡ Some n) ⊎ (channels_in (pairs_of o) s ≡ Some n)
unfolding channels_of
one_more l o s n e = either (flat_map pairs_of l) (pairs_of o) s n (ap (λ (ps : List (ℕ × ℕ)). channels_in ps s) (sym (flat_map-append pairs_of l (o ∷ []) ∙ ap (λ (ps : List (ℕ × ℕ)). flat_map pairs_of l ++ ps) (append-nil (pairs_of o)))) ∙ e)
