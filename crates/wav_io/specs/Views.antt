-- What is seen of a shape.
use Rattle.spec_waves.specs.Wave.{Shape}
use Rattle.wav_io.specs.declared.shape.WaveShape.{WaveShape}

abbrev pub shape_of : WaveShape → Shape
shape_of s = record { channels = s.channels; mask = s.mask; rate = s.rate; depth = s.depth; frames = s.frames }
