-- Each layer's coded samples are read in coded order.
use Rattle.std.proofs.Common.{arith, ◌≢◌, ◌≤◌, ℕ, ℤ, ◌+◌, refl, List, length}
use Rattle.std.specs.Prelude.{Some, None}
use Rattle.spec_layouts.specs.declared.Layout.{Layout}
use Rattle.spec_layouts.specs.declared.Layout.TheVariants.{Mono, Stereo, L51, L512, L514, L71, L712, L714, L312, Binaural}
use Rattle.spec_layouts.specs.Layouts.{channels, surround, height}
use Rattle.spec_layouts.specs.Transmitted.{transmitted, pairs_of, singles_of, both_of, first_pairs, first_singles, next_pairs, next_singles}
use Rattle.spec_demix.specs.Kinds.{kind_of}
use Rattle.spec_demix.specs.Values.{value_of, single_of}
use Rattle.spec_demix.specs.Sent.{bed_of, first_sent, next_sent}
use Rattle.spec_demix.specs.Laws.{AreRead, FirstIsRead, NextIsRead}
use Rattle.spec_demix.proofs.FirstCarried.{layer_with}

first_read : (layout : Layout) (flags factor : ℕ) (coded : List ℤ) → layout ≢ Binaural
    → AreRead (value_of (kind_of layout) (bed_of coded (first_sent (layer_with layout flags factor)))) (layer_with layout flags factor) coded 0 (transmitted None layout)
unfolding first_pairs first_singles
first_read Mono flags factor coded n = (refl, tt)
first_read Stereo flags factor coded n = (refl, (refl, tt))
first_read L51 flags factor coded n = (refl, (refl, (refl, (refl, (refl, (refl, tt))))))
first_read L512 flags factor coded n = (refl, (refl, (refl, (refl, (refl, (refl, (refl, (refl, tt))))))))
first_read L514 flags factor coded n = (refl, (refl, (refl, (refl, (refl, (refl, (refl, (refl, (refl, (refl, tt))))))))))
first_read L71 flags factor coded n = (refl, (refl, (refl, (refl, (refl, (refl, (refl, (refl, tt))))))))
first_read L712 flags factor coded n = (refl, (refl, (refl, (refl, (refl, (refl, (refl, (refl, (refl, (refl, tt))))))))))
first_read L714 flags factor coded n = (refl, (refl, (refl, (refl, (refl, (refl, (refl, (refl, (refl, (refl, (refl, (refl, tt))))))))))))
first_read L312 flags factor coded n = (refl, (refl, (refl, (refl, (refl, (refl, tt))))))
first_read Binaural flags factor coded n = absurd (n refl)

pub first_is_read : FirstIsRead
first_is_read layer coded n = first_read layer.layout layer.flags layer.factor coded n

next_read : (before now : Layout) (flags factor : ℕ) (coded : List ℤ) → before ≢ Binaural → now ≢ Binaural → surround before ≤ surround now → height before ≤ height now
    → AreRead (value_of (kind_of now) (bed_of coded (next_sent (kind_of before) (layer_with now flags factor) (length (channels before))))) (layer_with now flags factor) coded (length (channels before)) (both_of (pairs_of (Some before) now))
    × AreRead (single_of (bed_of coded (next_sent (kind_of before) (layer_with now flags factor) (length (channels before))))) (layer_with now flags factor) coded (length (channels before) + length (both_of (pairs_of (Some before) now))) (singles_of (Some before) now)
unfolding next_pairs next_singles
next_read Mono Mono flags factor coded m n x z = (tt, tt)
next_read Mono Stereo flags factor coded m n x z = (tt, (refl, tt))
next_read Mono L51 flags factor coded m n x z = ((refl, (refl, tt)), (refl, (refl, (refl, tt))))
next_read Mono L512 flags factor coded m n x z = ((refl, (refl, (refl, (refl, tt)))), (refl, (refl, (refl, tt))))
next_read Mono L514 flags factor coded m n x z = ((refl, (refl, (refl, (refl, (refl, (refl, tt)))))), (refl, (refl, (refl, tt))))
next_read Mono L71 flags factor coded m n x z = ((refl, (refl, (refl, (refl, tt)))), (refl, (refl, (refl, tt))))
next_read Mono L712 flags factor coded m n x z = ((refl, (refl, (refl, (refl, (refl, (refl, tt)))))), (refl, (refl, (refl, tt))))
next_read Mono L714 flags factor coded m n x z = ((refl, (refl, (refl, (refl, (refl, (refl, (refl, (refl, tt)))))))), (refl, (refl, (refl, tt))))
next_read Mono L312 flags factor coded m n x z = ((refl, (refl, tt)), (refl, (refl, (refl, tt))))
next_read Stereo Stereo flags factor coded m n x z = (tt, tt)
next_read Stereo L51 flags factor coded m n x z = ((refl, (refl, tt)), (refl, (refl, tt)))
next_read Stereo L512 flags factor coded m n x z = ((refl, (refl, (refl, (refl, tt)))), (refl, (refl, tt)))
next_read Stereo L514 flags factor coded m n x z = ((refl, (refl, (refl, (refl, (refl, (refl, tt)))))), (refl, (refl, tt)))
next_read Stereo L71 flags factor coded m n x z = ((refl, (refl, (refl, (refl, tt)))), (refl, (refl, tt)))
next_read Stereo L712 flags factor coded m n x z = ((refl, (refl, (refl, (refl, (refl, (refl, tt)))))), (refl, (refl, tt)))
next_read Stereo L714 flags factor coded m n x z = ((refl, (refl, (refl, (refl, (refl, (refl, (refl, (refl, tt)))))))), (refl, (refl, tt)))
next_read Stereo L312 flags factor coded m n x z = ((refl, (refl, tt)), (refl, (refl, tt)))
next_read L51 L51 flags factor coded m n x z = (tt, tt)
next_read L51 L512 flags factor coded m n x z = ((refl, (refl, tt)), tt)
next_read L51 L514 flags factor coded m n x z = ((refl, (refl, (refl, (refl, tt)))), tt)
next_read L51 L71 flags factor coded m n x z = ((refl, (refl, tt)), tt)
next_read L51 L712 flags factor coded m n x z = ((refl, (refl, (refl, (refl, tt)))), tt)
next_read L51 L714 flags factor coded m n x z = ((refl, (refl, (refl, (refl, (refl, (refl, tt)))))), tt)
next_read L512 L512 flags factor coded m n x z = (tt, tt)
next_read L512 L514 flags factor coded m n x z = ((refl, (refl, tt)), tt)
next_read L512 L712 flags factor coded m n x z = ((refl, (refl, tt)), tt)
next_read L512 L714 flags factor coded m n x z = ((refl, (refl, (refl, (refl, tt)))), tt)
next_read L514 L514 flags factor coded m n x z = (tt, tt)
next_read L514 L714 flags factor coded m n x z = ((refl, (refl, tt)), tt)
next_read L71 L71 flags factor coded m n x z = (tt, tt)
next_read L71 L712 flags factor coded m n x z = ((refl, (refl, tt)), tt)
next_read L71 L714 flags factor coded m n x z = ((refl, (refl, (refl, (refl, tt)))), tt)
next_read L712 L712 flags factor coded m n x z = (tt, tt)
next_read L712 L714 flags factor coded m n x z = ((refl, (refl, tt)), tt)
next_read L714 L714 flags factor coded m n x z = (tt, tt)
next_read L312 L512 flags factor coded m n x z = ((refl, (refl, tt)), tt)
next_read L312 L514 flags factor coded m n x z = ((refl, (refl, (refl, (refl, tt)))), tt)
next_read L312 L712 flags factor coded m n x z = ((refl, (refl, (refl, (refl, tt)))), tt)
next_read L312 L714 flags factor coded m n x z = ((refl, (refl, (refl, (refl, (refl, (refl, tt)))))), tt)
next_read L312 L312 flags factor coded m n x z = (tt, tt)
next_read Binaural now flags factor coded m n x z = absurd (m refl)
next_read before Binaural flags factor coded m n x z = absurd (n refl)
next_read before now flags factor coded m n x z = absurd (omega arith)

pub next_is_read : NextIsRead
next_is_read before layer coded s =
    next_read before layer.layout layer.flags layer.factor coded s.from_speakers s.to_speakers s.keeps_surround s.keeps_height
