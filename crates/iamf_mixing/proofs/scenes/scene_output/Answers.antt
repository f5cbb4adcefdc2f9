use Rattle.std.proofs.Common.{arith, ◌≡◌, to_z, of_z, ◌∙◌}
use Rattle.std.proofs.lemmas.Int.{ints}
use mir.Syntax.{w128}
use Rattle.iamf_mixing.proofs.SceneFloors.{output_is}
use Rattle.iamf_mixing.proofs.scenes.scene_output.Goals as goal

pub returns-clause-value : goal.returns-clause-value
returns-clause-value c =
    let same : to_z w128 (of_z w128 c.to_units.result) ≡ c.to_units.result = omega (arith, ints) in
    same ∙ c.to_units.ensures.value ∙ output_is c.args.config.now c.args.coded.now c.args.c c.scene_exact.result c.scene_exact.result.above_zero c.requires.played c.scene_exact.ensures.value
