use Rattle.iamf_admission.proofs.Defining.{adds_one}
use Rattle.iamf_admission.proofs.definitions.add.Goals as goal

pub returns : goal.returns
returns c = adds_one _ _ _ c.in_ok-push.ensures.items c.requires
