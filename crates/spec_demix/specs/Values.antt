-- Where a channel stands.
use Rattle.std.specs.Prelude.{ℤ, pos, if◌then◌else◌, nat_le}
use Rattle.spec_layouts.specs.declared.Channel.{Channel}
use Rattle.spec_layouts.specs.declared.Channel.TheVariants.{M, L, R, C, Lfe, Ls, Rs, Lss, Rss, Lrs, Rrs, Ltf, Rtf, Ltb, Rtb}
use Rattle.spec_demix.specs.declared.Kind.{Kind}
use Rattle.spec_demix.specs.Downmix.{Channels}
use Rattle.spec_demix.specs.declared.Side.{Side}
use Rattle.spec_demix.specs.declared.Tops.{Tops}
use Rattle.spec_demix.specs.declared.Bed.{Bed}

-- among the channels of one layout
abbrev pub channel_of : Channels → Channel → ℤ
channel_of x M = x.mono
channel_of x L = x.left.front
channel_of x R = x.right.front
channel_of x C = x.center
channel_of x Lfe = x.low
channel_of x Ls = x.left.surround
channel_of x Rs = x.right.surround
channel_of x Lss = x.left.side
channel_of x Rss = x.right.side
channel_of x Lrs = x.left.rear
channel_of x Rrs = x.right.rear
channel_of x Ltf = x.left.top
channel_of x Rtf = x.right.top
channel_of x Ltb = x.left.top_back
channel_of x Rtb = x.right.top_back

-- the left or right, and the top, of a layout with these counts
abbrev pub front_of : Kind → Side → ℤ
front_of kind v = if nat_le 5 kind.surround then v.five else (if nat_le 3 kind.surround then v.three else v.two)

abbrev pub top_of : Kind → Tops → ℤ
top_of kind v = if nat_le 4 kind.height then v.four else (if nat_le 5 kind.surround then v.two else v.three)

-- the channel of a layout with these counts, among the channels of all layouts
abbrev pub value_of : Kind → Bed → Channel → ℤ
value_of kind v M = v.mono
value_of kind v L = front_of kind v.left
value_of kind v R = front_of kind v.right
value_of kind v C = v.center
value_of kind v Lfe = v.low
value_of kind v Ls = v.left.surround
value_of kind v Rs = v.right.surround
value_of kind v Lss = v.left.side
value_of kind v Rss = v.right.side
value_of kind v Lrs = v.left.rear
value_of kind v Rrs = v.right.rear
value_of kind v Ltf = top_of kind v.left_top
value_of kind v Rtf = top_of kind v.right_top
value_of kind v Ltb = v.left_top.back
value_of kind v Rtb = v.right_top.back

-- a channel that a layer transmits as a single one: L is then that of stereo, in a layer of any layout
abbrev pub single_of : Bed → Channel → ℤ
single_of v M = v.mono
single_of v L = v.left.two
single_of v C = v.center
single_of v Lfe = v.low
single_of v _ = pos 0
