use Rattle.std.proofs.Common.{length}
use Rattle.iamf_admission.proofs.definitions.+recon_flags.Given as goal

abbrev pub decreases-recon_flags : goal.decreases-recon_flags
decreases-recon_flags l = length l.layers.now
