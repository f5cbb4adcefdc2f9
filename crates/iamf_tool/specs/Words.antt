-- What the words of the command line say.
use Rattle.std.specs.Prelude.{ℕ, ◌^◌, nat_lt, ◌&&◌, List, [], ◌∷◌, String, string_bytes, codes, Option, Some, None, if◌then◌else◌}
use Rattle.std.specs.Fmt.{decimal}
use Rattle.std.specs.Global.{Global}
use Rattle.std.specs.Str.{bytes_eq}
use Rattle.std.specs.Str.Parse.{digits_value}
use Rattle.spec_layouts.specs.declared.Layout.{Layout}
use Rattle.spec_layouts.specs.declared.Layout.TheVariants.{Mono, Stereo, L51, L512, L514, L71, L712, L714, L312}
use Rattle.spec_play.specs.declared.target.Target.{Target}
use Rattle.spec_play.specs.declared.target.Target.TheVariants.{Layer, Scene}
use Rattle.spec_play.specs.Laws.{IsHearable}
use Rattle.iamf_tool.specs.declared.command.Conversion.TheVariants as conversion
use Rattle.iamf_tool.specs.declared.command.Command.{Command}
use Rattle.iamf_tool.specs.declared.command.Command.TheVariants as command

-- a command that has no words after its name
abbrev pub alone : Command → List (String Global) → Option Command
alone c [] = Some c
alone c (word ∷ words) = None

-- a number below 2^32, in its decimal digits: no sign, and no zero before others
abbrev pub number_of : List ℕ → Option ℕ
number_of word = if bytes_eq word (decimal (digits_value 10 word)) && nat_lt (digits_value 10 word) (2 ^ 32) then Some (digits_value 10 word) else None

-- a layout of loudspeakers, by its numbers of surround, low-frequency and height channels
abbrev pub layout_of : List ℕ → Option Layout
layout_of word =
    if bytes_eq word (codes "mono") then Some Mono
    else if bytes_eq word (codes "stereo") then Some Stereo
    else if bytes_eq word (codes "3.1.2") then Some L312
    else if bytes_eq word (codes "5.1") then Some L51
    else if bytes_eq word (codes "5.1.2") then Some L512
    else if bytes_eq word (codes "5.1.4") then Some L514
    else if bytes_eq word (codes "7.1") then Some L71
    else if bytes_eq word (codes "7.1.2") then Some L712
    else if bytes_eq word (codes "7.1.4") then Some L714 else None

abbrev pub layer_of : Option Layout → Option Target
layer_of None = None
layer_of (Some layout) = Some (Layer layout)

-- a layout, or the channels of ambisonics in their order, which are called ACN
abbrev pub target_of : List ℕ → Option Target
target_of word = if bytes_eq word (codes "acn") then Some Scene else layer_of (layout_of word)

abbrev pub play_command : Option ℕ → Option Target → Option Command
play_command None target = None
play_command (Some mix) None = None
play_command (Some mix) (Some target) = Some (command.Play mix target)

-- the id of a mix and a target
abbrev pub play_with : List (String Global) → Option Command
play_with [] = None
play_with (mix ∷ []) = None
play_with (mix ∷ target ∷ []) = play_command (number_of (string_bytes mix)) (target_of (string_bytes target))
play_with (mix ∷ target ∷ word ∷ words) = None

-- the command of this name with these words after it
abbrev pub command_with : List ℕ → List (String Global) → Option Command
command_with name words =
    if bytes_eq name (codes "list") then alone (command.Convert conversion.List) words
    else if bytes_eq name (codes "check") then alone command.Check words
    else if bytes_eq name (codes "canon") then alone (command.Convert conversion.Canon) words
    else if bytes_eq name (codes "mux") then alone (command.Convert conversion.Mux) words
    else if bytes_eq name (codes "demux") then alone (command.Convert conversion.Demux) words
    else if bytes_eq name (codes "play") then play_with words else None

-- the command that the words say
abbrev pub command_of : List (String Global) → Option Command
command_of [] = None
command_of (name ∷ words) = command_with (string_bytes name) words

-- a mix is played for loudspeakers or as a scene
abbrev pub IsHearableCommand : Command → Type 0
IsHearableCommand (command.Play mix target) = IsHearable target
IsHearableCommand command.Check = Unit {0}
IsHearableCommand (command.Convert c) = Unit {0}
