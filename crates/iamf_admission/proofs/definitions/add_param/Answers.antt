use Rattle.std.proofs.Common.{map}
use Rattle.obu_element_config.specs.LayerView.{view_layer}
use Rattle.iamf_admission.proofs.Defining.{adds_none}
use Rattle.iamf_admission.proofs.definitions.add_param.Goals as goal

pub returns-in_ok-add_demixing-in-Demix : goal.returns-in_ok-add_demixing-in-Demix
returns-in_ok-add_demixing-in-Demix c = rw c.in-Demix.is (c.in_ok-add_demixing-in-Demix.ensures {u = tt} (map view_layer c.args.layers.now) c.in-Demix.mode c.in-Demix.weight)

pub returns-in-Other : goal.returns-in-Other
returns-in-Other c = rw c.in-Other.is (adds_none c.args.definitions.now.items)
