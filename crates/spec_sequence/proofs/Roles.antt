-- The roles of OBUs that stand one after the other.
use Rattle.std.proofs.Common.{◌≡◌, true, List, [], ◌∷◌, ◌++◌, refl, ap}
use Rattle.std.proofs.lemmas.List.{map-append}
use Rattle.spec_obu.specs.declared.obu_type.ObuType.{ObuType}
use Rattle.spec_obu.specs.declared.obu_type.ObuType.TheVariants.{TemporalDelimiter}
use Rattle.spec_values.specs.Value.{ObuValue}
use Rattle.spec_rules.specs.Role.{Role, Ignored, Delimiter}
use Rattle.spec_sequence.specs.ValueRole.{role_of_nothing, role}
use Rattle.spec_sequence.specs.Parts.{roles_of}
use Rattle.spec_sequence.specs.Reading.{Entry, values_of, roles}

pub roles-append : (past es : List Entry) → roles (past ++ es) ≡ roles past ++ roles es
roles-append past es = map-append (λ (e : Entry). role e.value) past es

pub roles_more : (past : List Entry) (e : Entry) → roles (past ++ e ∷ []) ≡ roles past ++ role e.value ∷ []
roles_more past e = roles-append past (e ∷ [])

pub values_more : (past : List Entry) (e : Entry) → values_of (past ++ e ∷ []) ≡ values_of past ++ e.value ∷ []
values_more past e = map-append (λ (x : Entry). x.value) past (e ∷ [])

pub roles_of_more : (s : List ObuValue) (o : ObuValue) → roles_of (s ++ o ∷ []) ≡ roles_of s ++ role o ∷ []
roles_of_more s o = map-append role s (o ∷ [])

pub roles_of_values : (past : List Entry) → roles_of (values_of past) ≡ roles past
roles_of_values [] = refl
roles_of_values (e ∷ es) = ap (λ (l : List Role). role e.value ∷ l) (roles_of_values es)

-- ---- one OBU

pub redundant_role : (o : ObuValue) → o.head.redundant ≡ true → role o ≡ Ignored
redundant_role o redundant = rw redundant refl

-- an OBU of nothing is a delimiter, or it counts for nothing
pub nothing_of : {X : Type 0} (part : Role → List X) → part Ignored ≡ [] → part Delimiter ≡ [] → (t : ObuType) → part (role_of_nothing t) ≡ []
nothing_of part ignored delimiter TemporalDelimiter = delimiter
nothing_of part ignored delimiter _ = ignored
