-- How many units are begun, as OBUs come.
use Rattle.std.proofs.Common.{◌≡◌, ◌+◌, Bool, true, false, not, cond, List, [], ◌∷◌, ◌++◌, refl, sym, ap, ◌∙◌, inl, inr, append-nil, ne_eqb, arith}
use Rattle.std.specs.List.{list_any}
use Rattle.std.proofs.lemmas.Bool.{cases_Bool}
use Rattle.spec_rules.specs.Role.{Role, Ignored, Delimiter, ParameterBlock, AudioFrame, BlockRole, FrameRole}
use Rattle.spec_rules.specs.Descriptors.{substreams}
use Rattle.spec_rules.specs.Units.{contains, is_none_of, is_data, is_delimited, open_unit, unit_after, in_unit, streams_in, unit_count}
use Rattle.spec_rules.proofs.Placing.{unit_count-push, unit_count-none, unit_after-other, unit_after-delimiter}
use Rattle.spec_rules.proofs.OpenUnits.{open_unit-none, open_unit-quiet, open_unit-delimiter}
use Rattle.spec_rules.proofs.UnitLists.{in_unit-push, in_unit-here, in_unit-none}
use Rattle.spec_rules.proofs.Balance.{IsBalanced, is_full, in_unit-later, open_unit-frame, some_streams}

-- the units before the open one, and that one once it is begun
abbrev pub IsCounted : List Role → Type 0
IsCounted l = unit_count l ≡ open_unit l + cond (is_none_of (in_unit (open_unit l) l)) 0 1

pub counted-none : (l : List Role) → list_any is_data l ≡ false → IsCounted l
counted-none l none = unit_count-none l none ∙ sym (ap (λ u. u + cond (is_none_of (in_unit (open_unit l) l)) 0 1) (open_unit-none l none) ∙ ap (λ (os : List Role). 0 + cond (is_none_of os) 0 1) (in_unit-none (open_unit l) l none))

-- an OBU that stands in the open unit after it
in_open : (l : List Role) (o : Role) → is_data o ≡ true → unit_after l o ≡ open_unit (l ++ o ∷ []) → IsCounted (l ++ o ∷ [])
in_open l o data_obu here =
    unit_count-push l o ∙ ap (λ b. cond b (unit_after l o + 1) (unit_count l)) data_obu ∙ ap (λ u. u + 1) here
    ∙ ap (λ b. open_unit (l ++ o ∷ []) + cond b 0 1) (flip (is_none_of (in_unit (open_unit (l ++ o ∷ [])) (l ++ o ∷ []))) (in_unit-here (open_unit (l ++ o ∷ [])) l o data_obu here))
  where
    flip : (b : Bool) → true ≡ not b → false ≡ b
    flip true e = sym e
    flip false e = refl

pub counted-ignored : (l : List Role) → IsCounted l → IsCounted (l ++ Ignored ∷ [])
counted-ignored l counted =
    unit_count-push l Ignored ∙ counted
    ∙ sym (ap (λ u. u + cond (is_none_of (in_unit u (l ++ Ignored ∷ []))) 0 1) (open_unit-quiet l Ignored refl refl refl)
    ∙ ap (λ (os : List Role). open_unit l + cond (is_none_of os) 0 1) (in_unit-push (open_unit l) l Ignored ∙ append-nil (in_unit (open_unit l) l)))

pub counted-block : (l : List Role) (b : BlockRole) → IsCounted (l ++ ParameterBlock b ∷ [])
counted-block l b = in_open l (ParameterBlock b) refl (unit_after-other l (ParameterBlock b) refl ∙ sym (open_unit-quiet l (ParameterBlock b) refl refl refl))

pub counted-delimiter : (l : List Role) → is_delimited (l ++ Delimiter ∷ []) ≡ true → IsCounted (l ++ Delimiter ∷ [])
counted-delimiter l with = in_open l Delimiter refl (unit_after-delimiter l with ∙ sym (open_unit-delimiter l with))

pub counted-frame : (l : List Role) (f : FrameRole) → IsBalanced l → contains (substreams l) f.substream ≡ true → contains (streams_in (open_unit l) l) f.substream ≡ false → IsCounted (l ++ AudioFrame f ∷ [])
counted-frame l f balanced known new = elim (cases_Bool (is_full l f.substream (streams_in (open_unit l) l))) [
  | inl full ↦ closes (moves ∙ ap (λ b. cond b (open_unit l + 1) (open_unit l)) full)
  | inr still ↦ in_open l o refl (here ∙ sym (moves ∙ ap (λ b. cond b (open_unit l + 1) (open_unit l)) still))
] where
  o : Role
  o = AudioFrame f

  here : unit_after l o ≡ open_unit l
  here = unit_after-other l o refl

  moves : open_unit (l ++ o ∷ []) ≡ cond (is_full l f.substream (streams_in (open_unit l) l)) (open_unit l + 1) (open_unit l)
  moves = open_unit-frame l f balanced (some_streams l f.substream known) new

  empty : in_unit (open_unit l + 1) (l ++ o ∷ []) ≡ []
  empty = in_unit-push (open_unit l + 1) l o
      ∙ rw (in_unit-later l (open_unit l + 1) balanced (omega arith), here, ne_eqb (open_unit l) (open_unit l + 1) (λ e. omega arith)) refl

  closes : open_unit (l ++ o ∷ []) ≡ open_unit l + 1 → IsCounted (l ++ o ∷ [])
  closes next =
      unit_count-push l o ∙ ap (λ u. u + 1) here
      ∙ sym (ap (λ u. u + cond (is_none_of (in_unit u (l ++ o ∷ []))) 0 1) next ∙ ap (λ (os : List Role). (open_unit l + 1) + cond (is_none_of os) 0 1) empty ∙ omega arith)
