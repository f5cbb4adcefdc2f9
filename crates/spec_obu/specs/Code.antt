-- The numbers by which refusals are reported.
use Rattle.std.specs.Prelude.{ℕ}
use Rattle.spec_obu.specs.declared.HeaderFault.{HeaderFault}
use Rattle.spec_obu.specs.declared.HeaderFault.TheVariants.{Leb, ObuSize, Flags, HeaderSize, Cut}

abbrev pub code_of : HeaderFault → ℕ
code_of Leb = 1
code_of ObuSize = 2
code_of Flags = 3
code_of HeaderSize = 4
code_of Cut = 5
