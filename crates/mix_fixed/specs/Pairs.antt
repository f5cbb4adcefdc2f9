-- The channels of each side.
use Rattle.spec_demix.specs.declared.Side.{Side}
use Rattle.spec_demix.specs.declared.Tops.{Tops}
use Rattle.mix_fixed.specs.declared.pairs.Ears.{Ears}
use Rattle.mix_fixed.specs.declared.pairs.Heights.{Heights}

abbrev pub left_side : Ears → Side
left_side e = record { two = e.two.left; three = e.three.left; five = e.five.left; surround = e.surround.left; side = e.side.left; rear = e.rear.left }

abbrev pub right_side : Ears → Side
right_side e = record { two = e.two.right; three = e.three.right; five = e.five.right; surround = e.surround.right; side = e.side.right; rear = e.rear.right }

abbrev pub left_tops : Heights → Tops
left_tops h = record { three = h.three.left; two = h.two.left; four = h.four.left; back = h.back.left }

abbrev pub right_tops : Heights → Tops
right_tops h = record { three = h.three.right; two = h.two.right; four = h.four.right; back = h.back.right }
