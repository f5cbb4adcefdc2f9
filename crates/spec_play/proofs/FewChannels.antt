-- A substream has one channel or two.
use Rattle.std.proofs.Common.{◌≡◌, ℕ, zero, suc, ◌-◌, List, [], ◌∷◌, refl, inl, inr}
use Rattle.std.specs.Prelude.{◌⊎◌, IfSome, Option, Some, None, replicate}
use Rattle.std.specs.List.{zip}
use Rattle.spec_descriptors.specs.Layers.{LayerFields}
use Rattle.spec_descriptors.specs.Ambisonics.{Mono, Projection}
use Rattle.spec_descriptors.specs.AudioElement.{ConfigFields, Scalable, Ambisonics, Other, AudioElementFields, coupled_first, layer_channels, substream_channels_of}
use Rattle.spec_rules.specs.Descriptors.{pairs_in}
use Rattle.spec_play.proofs.Tests.{Each, each_both}
use Rattle.spec_play.proofs.ChannelsOfSubstreams.{streams_of}

abbrev pub IsFew : ℕ → Type 0
IsFew n = (n ≡ 1) ⊎ (n ≡ 2)

each_replicate : (n x : ℕ) → IsFew x → Each IsFew (replicate n x)
each_replicate zero x few = tt
each_replicate (suc n) x few = (few, each_replicate n x few)

few_coupled : (substreams coupled : ℕ) → Each IsFew (coupled_first substreams coupled)
few_coupled substreams coupled =
    each_both IsFew (replicate coupled 2) (replicate (substreams - coupled) 1) (each_replicate coupled 2 (inr refl)) (each_replicate (substreams - coupled) 1 (inl refl))

few_layers : (layers : List LayerFields) → Each IsFew (layer_channels layers)
few_layers [] = tt
few_layers (layer ∷ layers) =
    each_both IsFew (coupled_first layer.substream_count layer.coupled_substream_count) (layer_channels layers) (few_coupled layer.substream_count layer.coupled_substream_count) (few_layers layers)

few_of_config : (config : ConfigFields) → IfSome (substream_channels_of config) (Each IsFew)
few_of_config (Scalable layers) = few_layers layers
few_of_config (Ambisonics (Mono outputs substreams mapping)) = few_coupled substreams 0
few_of_config (Ambisonics (Projection outputs substreams coupled matrix)) = few_coupled substreams coupled
few_of_config (Other audio_element_type bytes) = tt

few_zip : (ids channels : List ℕ) → Each IsFew channels → Each (λ p. IsFew p.1) (zip ids channels)
few_zip [] channels all = tt
few_zip (i ∷ ids) [] all = tt
few_zip (i ∷ ids) (n ∷ channels) all = (all.0, few_zip ids channels all.1)

few_pairs : (ids : List ℕ) (channels : Option (List ℕ)) → IfSome channels (Each IsFew) → Each (λ p. IsFew p.1) (pairs_in ids channels)
few_pairs ids None all = tt
few_pairs ids (Some channels) all = few_zip ids channels all

pub few_of_element : (e : AudioElementFields) → Each (λ p. IsFew p.1) (streams_of e)
few_of_element e = few_pairs e.audio_substream_ids (substream_channels_of e.config) (few_of_config e.config)
