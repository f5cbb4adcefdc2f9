-- What a demixing definition of the code stands for.
use Rattle.spec_play.specs.DemixingOverTime as fields
use Rattle.iamf_elements.specs.declared.demixing.DemixingDefinition.{DemixingDefinition}

abbrev pub view_demixing : DemixingDefinition → fields.DemixingDefinition
view_demixing d = record { id = d.id; mode = d.mode; weight_index = d.weight_index }
