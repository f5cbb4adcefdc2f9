-- In a sequence the layers of each element are an allowed chain.
use Rattle.std.proofs.Common.{ℕ, List, [], ◌∷◌, ◌++◌, Option, Some, None}
use Rattle.std.specs.Prelude.{IfSome}
use Rattle.spec_descriptors.specs.AudioElement.{ConfigFields, AudioElementFields}
use Rattle.spec_descriptors.specs.MixPresentation.{MixElementFields}
use Rattle.spec_descriptors.specs.MixGain.{MixGainFields}
use Rattle.spec_descriptors.proofs.ElementConfigs.{OfKinds, element_holds}
use Rattle.spec_descriptors.proofs.ReadLayers.{layers_read, layers_chain}
use Rattle.spec_values.specs.Value.{ObuValue}
use Rattle.spec_sequence.specs.Parts.{audio_elements}
use Rattle.spec_sequence.specs.Reading.{Reads}
use Rattle.spec_sequence.proofs.ReadParts.{each_element}
use Rattle.spec_play.specs.Mixes.{MixedElement, with_gain, mixed_element, mixed_elements}
use Rattle.spec_play.specs.Laws.{HasChain, HaveChains}
use Rattle.spec_play.proofs.Tests.{Each, each_found}

abbrev HasChainOf : ℕ → ConfigFields → Type 0
HasChainOf count config = HasChain config

chain_of_kinds : OfKinds HasChainOf
chain_of_kinds = record {
  scalable = λ count xs list h is. layers_chain list (layers_read xs list h);
  scene = λ count xs config h is. tt;
  other = λ count type bytes. tt;
}

abbrev IsChained : AudioElementFields → Type 0
IsChained e = HasChain e.config

sequence_chain : (bytes : List ℕ) (s : List ObuValue) → Reads bytes s → Each IsChained (audio_elements s)
sequence_chain bytes s reads = each_element IsChained (λ frame_length xs e h. element_holds HasChainOf frame_length xs e chain_of_kinds h) bytes s reads

-- ---- a mix of it

with_gain_chain : (gain : MixGainFields) (o : Option AudioElementFields) → IfSome o IsChained → HaveChains (with_gain gain o)
with_gain_chain gain None is = tt
with_gain_chain gain (Some e) is = (is, tt)

both_chains : (ms ns : List MixedElement) → HaveChains ms → HaveChains ns → HaveChains (ms ++ ns)
both_chains [] ns a b = b
both_chains (m ∷ ms) ns a b = (a.0, both_chains ms ns a.1 b)

mixed_chains : (elements : List AudioElementFields) (named : List MixElementFields) → Each IsChained elements → HaveChains (mixed_elements elements named)
mixed_chains elements [] all = tt
mixed_chains elements (m ∷ ms) all =
    both_chains (mixed_element elements m) (mixed_elements elements ms)
    (with_gain_chain m.element_mix_gain _ (each_found IsChained _ elements all))
    (mixed_chains elements ms all)

pub chains_of_mix : (bytes : List ℕ) (s : List ObuValue) (named : List MixElementFields) → Reads bytes s → HaveChains (mixed_elements (audio_elements s) named)
chains_of_mix bytes s named reads = mixed_chains (audio_elements s) named (sequence_chain bytes s reads)
