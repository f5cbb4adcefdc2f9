-- Delimiters in a list, and the unit that one ends.
use Rattle.std.proofs.Common.{◌≡◌, ◌-◌, true, false, List, [], ◌∷◌, refl, sym, ap, ◌∙◌, arith}
use Rattle.std.specs.List.{list_any}
use Rattle.spec_rules.specs.Role.{Role, Ignored, SequenceHeader, CodecConfig, AudioElement, MixPresentation, Delimiter, ParameterBlock, AudioFrame}
use Rattle.spec_rules.specs.Units.{is_data, is_delimiter, is_delimited, open_unit, unit_after}
use Rattle.spec_rules.proofs.Placing.{is_delimited-kept, unit_after-delimiter}
use Rattle.spec_rules.proofs.OpenUnits.{open_unit-with}

pub some_delimiter : (l : List Role) → is_delimited l ≡ true → list_any is_delimiter l ≡ true
unfolding is_delimited
some_delimiter [] h = absurd (grind arith)
some_delimiter (Delimiter ∷ xs) h = refl
some_delimiter (ParameterBlock b ∷ xs) h = absurd (grind arith)
some_delimiter (AudioFrame f ∷ xs) h = absurd (grind arith)
some_delimiter (Ignored ∷ xs) h = some_delimiter xs h
some_delimiter (SequenceHeader p ∷ xs) h = some_delimiter xs h
some_delimiter (CodecConfig c ∷ xs) h = some_delimiter xs h
some_delimiter (AudioElement e ∷ xs) h = some_delimiter xs h
some_delimiter (MixPresentation m ∷ xs) h = some_delimiter xs h

pub no_delimiter : (l : List Role) → list_any is_data l ≡ false → list_any is_delimiter l ≡ false
no_delimiter [] h = refl
no_delimiter (Delimiter ∷ xs) h = absurd (grind arith)
no_delimiter (ParameterBlock b ∷ xs) h = absurd (grind arith)
no_delimiter (AudioFrame f ∷ xs) h = absurd (grind arith)
no_delimiter (Ignored ∷ xs) h = no_delimiter xs h
no_delimiter (SequenceHeader p ∷ xs) h = no_delimiter xs h
no_delimiter (CodecConfig c ∷ xs) h = no_delimiter xs h
no_delimiter (AudioElement e ∷ xs) h = no_delimiter xs h
no_delimiter (MixPresentation m ∷ xs) h = no_delimiter xs h

-- the unit that a delimiter ends is the open one
pub ended_is : (l : List Role) → is_delimited l ≡ true → list_any is_data l ≡ true → unit_after l Delimiter - 1 ≡ open_unit l
ended_is l with has = ap (λ n. n - 1) (unit_after-delimiter l (is_delimited-kept l (Delimiter ∷ []) has ∙ with)) ∙ sym (open_unit-with l with)
