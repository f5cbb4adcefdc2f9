use Rattle.demix_layers.proofs.WholeScenes.{valid_are_whole}
use Rattle.demix_layers.proofs.scene.valid_scenes_are_whole.Goals as goal

pub returns : goal.returns
returns c = valid_are_whole
