-- On which channels a layer's output gain acts: IAMF 1.0.0, "Scalable Channel Layout Config Syntax and Semantics",
-- output_gain_flags. A flag acts on its channel where the layer transmits that channel and has one of the flag's layouts;
-- elsewhere it does nothing.
use Rattle.std.specs.Prelude.{ℕ, ◌^◌, ◌/◌, ◌%◌, ◌==◌, Bool, true, false, if◌then◌else◌, Option, Some, None}
use Rattle.std.specs.Option.{option_map_or}
use Rattle.spec_layouts.specs.declared.Layout.{Layout}
use Rattle.spec_layouts.specs.declared.Layout.TheVariants.{Stereo, L51, L512, L514, L712, L714, L312}
use Rattle.spec_layouts.specs.declared.Channel.{Channel}
use Rattle.spec_layouts.specs.declared.Channel.TheVariants.{M, L, R, Ls, Rs, Ltf, Rtf}
use Rattle.spec_demix.specs.declared.DemixLayer.{DemixLayer}

-- the six flags by their places, from the least significant
abbrev pub flag_of_left : ℕ
flag_of_left = 5

abbrev pub flag_of_right : ℕ
flag_of_right = 4

abbrev pub flag_of_left_surround : ℕ
flag_of_left_surround = 3

abbrev pub flag_of_right_surround : ℕ
flag_of_right_surround = 2

abbrev pub flag_of_left_top : ℕ
flag_of_left_top = 1

abbrev pub flag_of_right_top : ℕ
flag_of_right_top = 0

abbrev pub is_set : ℕ → ℕ → Bool
is_set flags k = flags / 2 ^ k % 2 == 1

-- the layouts in which the flags of left and right act
abbrev pub has_gained_front : Layout → Bool
has_gained_front Stereo = true
has_gained_front L312 = true
has_gained_front _ = false

-- those of the surrounds
abbrev pub has_gained_surround : Layout → Bool
has_gained_surround L51 = true
has_gained_surround L512 = true
has_gained_surround L514 = true
has_gained_surround _ = false

-- those of the tops
abbrev pub has_gained_top : Layout → Bool
has_gained_top L512 = true
has_gained_top L514 = true
has_gained_top L712 = true
has_gained_top L714 = true
has_gained_top L312 = true
has_gained_top _ = false

abbrev pub flag_if : Bool → ℕ → Option ℕ
flag_if true flag = Some flag
flag_if false flag = None

-- the flag that acts on a channel which a layer of this layout transmits; that of left acts on mono too
abbrev pub flag_on : Layout → Channel → Option ℕ
flag_on layout M = Some flag_of_left
flag_on layout L = flag_if (has_gained_front layout) flag_of_left
flag_on layout R = flag_if (has_gained_front layout) flag_of_right
flag_on layout Ls = flag_if (has_gained_surround layout) flag_of_left_surround
flag_on layout Rs = flag_if (has_gained_surround layout) flag_of_right_surround
flag_on layout Ltf = flag_if (has_gained_top layout) flag_of_left_top
flag_on layout Rtf = flag_if (has_gained_top layout) flag_of_right_top
flag_on layout _ = None

-- what a channel with this flag is multiplied by, in parts of 10^12
abbrev pub factor_of : DemixLayer → ℕ → ℕ
factor_of layer flag = if is_set layer.flags flag then layer.factor else 1000000000000

-- what a channel that this layer transmits is multiplied by, in parts of 10^12
abbrev pub factor_on : DemixLayer → Channel → ℕ
factor_on layer channel = option_map_or (λ flag. factor_of layer flag) (flag_on layer.layout channel) 1000000000000
