-- The counts of a layout, and what changes where they rise from one layer to the next.
use Rattle.std.specs.Prelude.{ℕ, ◌&&◌, Bool, nat_le, nat_lt}
use Rattle.spec_layouts.specs.declared.Layout.{Layout}
use Rattle.spec_layouts.specs.Layouts as layouts
use Rattle.spec_demix.specs.declared.Kind.{Kind}

abbrev pub kind_of : Layout → Kind
kind_of layout = record { surround = layouts.surround layout; height = layouts.height layout }

-- a count comes to a number, or past it
abbrev pub reaches : ℕ → ℕ → ℕ → Bool
reaches count before now = nat_lt before count && nat_le count now

-- 3.1.2 is the first layer with height channels
abbrev pub gives_three : Kind → Kind → Bool
gives_three before now = nat_lt before.height 2 && (nat_le 2 now.height && nat_lt now.surround 5)

-- another layout with two height channels is the first with any
abbrev pub gives_two : Kind → Kind → Bool
gives_two before now = nat_lt before.height 2 && (nat_le 2 now.height && (nat_lt now.height 4 && nat_le 5 now.surround))

-- 3.1.2 goes over to a layout with more surround channels
abbrev pub leaves_three : Kind → Kind → Bool
leaves_three before now = nat_le 3 before.surround && (nat_lt before.surround 5 && nat_le 5 now.surround)

-- there come to be four height channels
abbrev pub gives_four : Kind → Kind → Bool
gives_four before now = nat_lt before.height 4 && nat_le 4 now.height

-- four height channels come where there was none
abbrev pub gives_back : Kind → Kind → Bool
gives_back before now = nat_lt before.height 2 && nat_le 4 now.height

-- two height channels become four
abbrev pub splits_two : Kind → Kind → Bool
splits_two before now = nat_le 2 before.height && (nat_lt before.height 4 && nat_le 4 now.height)
