use Rattle.spec_waves.proofs.Waves as law
use Rattle.spec_waves.proofs.wave_law.Goals as goal

pub returns : goal.returns
returns c = record { header = law.header_size; riff = law.riff_has; sample = law.spelled }
