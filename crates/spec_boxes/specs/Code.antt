-- The numbers by which refusals of files are reported.
use Rattle.std.specs.Prelude.{ℕ}
use Rattle.spec_boxes.specs.declared.fault.BoxFault.{BoxFault}
use Rattle.spec_boxes.specs.declared.fault.BoxFault.TheVariants.{BoxSize, Missing, Twice, Table, Version, Descriptions, Chunk, Config, Roll, Sample, Fragmented}

abbrev pub code_of : BoxFault → ℕ
code_of BoxSize = 70
code_of (Missing kind) = 71
code_of (Twice kind) = 72
code_of (Version kind) = 73
code_of (Table kind) = 74
code_of Descriptions = 75
code_of Chunk = 76
code_of Config = 77
code_of Roll = 78
code_of Sample = 79
code_of Fragmented = 80
