use Rattle.spec_play.proofs.SelectedSequences.{selected_is_playable}
use Rattle.spec_play.proofs.laws.selected_mixes_are_playable.Goals as goal

pub returns : goal.returns
returns c = selected_is_playable
