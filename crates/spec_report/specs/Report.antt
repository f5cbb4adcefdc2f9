-- The report on a sequence. Its form is this project's own.
use Rattle.std.specs.Prelude.{ℕ, zero, suc, ◌+◌, ◌-◌, ◌/◌, ◌%◌, ◌==◌, nat_lt, nat_le, ◌||◌, Bool, if◌then◌else◌, List, [], ◌∷◌, ◌++◌, map, length, sum, codes, Option, Some, None}
use Rattle.std.specs.List.{flat_map}
use Rattle.std.specs.Fmt.{decimal}
use Rattle.spec_descriptors.specs.SequenceHeader.{SequenceHeaderFields}
use Rattle.spec_descriptors.specs.AudioElement.{ConfigFields, Scalable, Ambisonics, Other, AudioElementFields, coded_channels_of}
use Rattle.spec_descriptors.specs.MixPresentation.{MixPresentationFields}
use Rattle.spec_descriptors.specs.Tags.{Tag, tags_of}
use Rattle.spec_values.specs.Value.{ObuValue}
use Rattle.spec_obu.specs.declared.trim.Trim.{Trim}
use Rattle.spec_rules.specs.declared.codec.Codec.{Codec}
use Rattle.spec_rules.specs.declared.codec.Codec.TheVariants as codec
use Rattle.spec_rules.specs.declared.codec_role.CodecRole.{CodecRole}
use Rattle.spec_rules.specs.Role.{Role}
use Rattle.spec_sequence.specs.ValueRole.{role_of_codec, mix_role}
use Rattle.spec_rules.specs.Descriptors.{frame_length}
use Rattle.spec_rules.specs.Profile.{fits}
use Rattle.spec_rules.specs.Units.{unit_count}
use Rattle.spec_rules.specs.Samples.{kept}
use Rattle.spec_sequence.specs.Parts.{roles_of, sequence_headers, codec_configs, audio_elements, MixValue, mix_values}

abbrev pub ended : List ℕ → List ℕ
ended text = text ++ 10 ∷ []

abbrev pub and_number : List ℕ → ℕ → List ℕ
and_number text n = text ++ 32 ∷ decimal n

abbrev pub header_line : SequenceHeaderFields → List ℕ
header_line h = ended (and_number (and_number (codes "profile") h.primary_profile) h.additional_profile)

abbrev pub codec_name : Codec → List ℕ
codec_name codec.Lpcm = codes "ipcm"
codec_name codec.Flac = codes "fLaC"

abbrev pub codec_line : CodecRole → List ℕ
codec_line c = ended (and_number (and_number (and_number (and_number (codes "codec") c.id ++ 32 ∷ codec_name c.codec) c.frame_length) c.rate) c.depth)

abbrev pub config_name : ConfigFields → List ℕ
config_name (Scalable layers) = codes "scalable"
config_name (Ambisonics config) = codes "scene"
config_name (Other audio_element_type bytes) = codes "other"

-- the number of coded channels, 0 where it is not known
abbrev pub known_channels : Option ℕ → ℕ
known_channels None = 0
known_channels (Some n) = n

abbrev pub element_line : AudioElementFields → List ℕ
element_line e =
    ended (and_number (and_number (and_number (codes "element") e.audio_element_id ++ 32 ∷ config_name e.config) (length e.audio_substream_ids)) (known_channels (coded_channels_of e.config)))

abbrev pub fits_mark : Bool → List ℕ
fits_mark fit = if fit then codes "fits" else codes "-"

-- its sub-mixes, the elements of all of them, and whether it fits
abbrev pub marked_line : Bool → MixPresentationFields → List ℕ
marked_line fit m =
    ended (and_number (and_number (and_number (codes "mix") m.mix_presentation_id) (length m.sub_mixes)) (sum (map (λ s. length s.elements) m.sub_mixes)) ++ 32 ∷ fits_mark fit)

abbrev pub mix_line : List Role → MixPresentationFields → List ℕ
mix_line l m = marked_line (fits l (mix_role m)) m

-- ---- tags

-- a digit of 16, in lower case
abbrev pub hex_digit : ℕ → ℕ
hex_digit n = if nat_lt n 10 then 48 + n else 87 + n

-- what separates words and lines, what is not printed, and the backslash itself
abbrev pub is_escaped : ℕ → Bool
is_escaped byte = nat_le byte 32 || byte == 127 || byte == 92

-- a backslash and two digits, or the byte itself
abbrev pub escaped : ℕ → List ℕ
escaped byte = if is_escaped byte then 92 ∷ hex_digit (byte / 16) ∷ hex_digit (byte % 16) ∷ [] else byte ∷ []

abbrev pub tag_line : Tag → List ℕ
tag_line t = ended (codes "tag" ++ 32 ∷ flat_map escaped t.name ++ 32 ∷ flat_map escaped t.value)

abbrev pub tags_or_none : Option (List Tag × List ℕ) → List Tag
tags_or_none None = []
tags_or_none (Some tags) = tags.0

-- a line for each tag of a mix, by its tail
abbrev pub tag_lines : List ℕ → List ℕ
tag_lines tail = flat_map tag_line (tags_or_none (tags_of tail))

-- the line of a mix, and then those of its tags
abbrev pub mix_lines : List Role → MixValue → List ℕ
mix_lines l m = mix_line l m.fields ++ tag_lines m.tail

-- ---- the whole

abbrev pub counts : List Role → List ℕ
counts l = ended (and_number (codes "units") (unit_count l)) ++ ended (and_number (codes "samples") (kept l))

-- a line each for the sequence header and the codec config, for each audio element, for each mix presentation what is
-- given here, in their order, and for the counts
abbrev pub report_with : (MixValue → List ℕ) → List ObuValue → List ℕ
report_with lines_of s =
    flat_map header_line (sequence_headers s)
    ++ (flat_map (λ c. codec_line (role_of_codec c)) (codec_configs s)
    ++ (flat_map element_line (audio_elements s) ++ (flat_map lines_of (mix_values s) ++ counts (roles_of s))))

unfoldable pub report : List ObuValue → List ℕ
report s = report_with (mix_lines (roles_of s)) s
