-- What holds of the descriptors and of the open unit's frames of each list that is admitted.
use Rattle.std.proofs.Common.{◌≡◌, ℕ, ◌+◌, Bool, true, false, cond, List, [], ◌∷◌, ◌++◌, length, eqb, refl, sym, ap, ◌∙◌, inl, inr, append-nil}
use Rattle.std.specs.List.{flat_map, list_any, list_all}
use Rattle.std.proofs.lemmas.Bool.{cases_Bool}
use Rattle.std.proofs.lemmas.List.Folds.{list_all-append}
use Rattle.spec_rules.specs.Role.{Role, Ignored, Delimiter, ParameterBlock, AudioFrame, BlockRole, FrameRole}
use Rattle.spec_rules.specs.Descriptors.{profiles, mixes, substreams}
use Rattle.spec_rules.specs.Units.{contains, are_apart, is_none_of, is_data, is_delimited, open_unit, unit_after, stream_of, streams_in, is_complete}
use Rattle.spec_rules.proofs.Placing.{unit_after-other}
use Rattle.spec_rules.proofs.DescriptorLists.{profiles-push_none, mixes-push_none, substreams-push}
use Rattle.spec_rules.proofs.UnitLists.{streams_in-push, streams_in-none, complete_is}
use Rattle.spec_rules.proofs.OpenUnits.{open_unit-quiet}
use Rattle.spec_rules.proofs.DistinctIds.{all_by_count, apart_push}
use Rattle.spec_rules.proofs.Balance.{IsBalanced, IsNoDescriptor, is_full, streams_in-frame, streams_in-next, streams_in-fresh, open_unit-frame, some_streams}

pub record IsOrderly (l : List Role) : Type 0 where
  pub headed : is_none_of (profiles l) ≡ true → mixes l ≡ []
  pub apart : are_apart (substreams l) ≡ true
  pub frames_apart : are_apart (streams_in (open_unit l) l) ≡ true
  pub frames_known : list_all (contains (substreams l)) (streams_in (open_unit l) l) ≡ true

-- the open unit is complete where its frames are as many as the substreams
pub complete_by_count : (l : List Role) → IsOrderly l → is_complete (open_unit l) l ≡ eqb (length (streams_in (open_unit l) l)) (length (substreams l))
complete_by_count l orderly = complete_is (open_unit l) l ∙ all_by_count (substreams l) (streams_in (open_unit l) l) orderly.apart orderly.frames_apart orderly.frames_known

known_push : (ss seen : List ℕ) (s : ℕ) → list_all (contains ss) seen ≡ true → contains ss s ≡ true → list_all (contains ss) (seen ++ s ∷ []) ≡ true
known_push ss seen s known new = list_all-append (contains ss) seen (s ∷ []) ∙ rw (known, new) refl

-- one more frame of the open unit makes it complete where the frames are as many then
pub full_by_count : (l : List Role) (s : ℕ) → IsOrderly l → contains (substreams l) s ≡ true → contains (streams_in (open_unit l) l) s ≡ false
    → list_all (contains (streams_in (open_unit l) l ++ s ∷ [])) (substreams l) ≡ eqb (length (streams_in (open_unit l) l ++ s ∷ [])) (length (substreams l))
full_by_count l s orderly known new =
    all_by_count (substreams l) (streams_in (open_unit l) l ++ s ∷ []) orderly.apart (apart_push (streams_in (open_unit l) l) s orderly.frames_apart new) (known_push (substreams l) (streams_in (open_unit l) l) s orderly.frames_known known)

-- ---- without a data OBU

pub orderly-none : (l : List Role) → list_any is_data l ≡ false → (is_none_of (profiles l) ≡ true → mixes l ≡ []) → are_apart (substreams l) ≡ true → IsOrderly l
orderly-none l none headed apart = record {
  headed = headed;
  apart = apart;
  frames_apart = rw (streams_in-none (open_unit l) l none) refl;
  frames_known = rw (streams_in-none (open_unit l) l none) refl;
}

-- ---- one more OBU that is no descriptor

orderly-next : (l : List Role) (o : Role) (seen : List ℕ) → IsOrderly l → IsNoDescriptor o → streams_in (open_unit (l ++ o ∷ [])) (l ++ o ∷ []) ≡ seen → are_apart seen ≡ true → list_all (contains (substreams l)) seen ≡ true → IsOrderly (l ++ o ∷ [])
orderly-next l o seen orderly none are apart known = record {
  headed = λ h. mixes-push_none l o none.mix ∙ orderly.headed (ap (λ (ps : List ℕ). is_none_of ps) (sym (profiles-push_none l o none.profile)) ∙ h);
  apart = ap are_apart (substreams-push l o none.streams) ∙ orderly.apart;
  frames_apart = ap are_apart are ∙ apart;
  frames_known = ap (λ (ss : List ℕ). list_all (contains ss) (streams_in (open_unit (l ++ o ∷ [])) (l ++ o ∷ []))) (substreams-push l o none.streams) ∙ ap (λ (xs : List ℕ). list_all (contains (substreams l)) xs) are ∙ known;
}

pub orderly-ignored : (l : List Role) → IsOrderly l → IsOrderly (l ++ Ignored ∷ [])
orderly-ignored l orderly = orderly-next l Ignored (streams_in (open_unit l) l) orderly (record { profile = refl; codec = refl; element = refl; mix = refl; streams = refl })
    (ap (λ u. streams_in u (l ++ Ignored ∷ [])) (open_unit-quiet l Ignored refl refl refl) ∙ streams_in-push (open_unit l) l Ignored ∙ append-nil (streams_in (open_unit l) l))
    orderly.frames_apart orderly.frames_known

pub orderly-block : (l : List Role) (b : BlockRole) → IsOrderly l → IsOrderly (l ++ ParameterBlock b ∷ [])
orderly-block l b orderly = orderly-next l (ParameterBlock b) (streams_in (open_unit l) l) orderly (record { profile = refl; codec = refl; element = refl; mix = refl; streams = refl })
    (ap (λ u. streams_in u (l ++ ParameterBlock b ∷ [])) (open_unit-quiet l (ParameterBlock b) refl refl refl) ∙ streams_in-push (open_unit l) l (ParameterBlock b) ∙ one (eqb (unit_after l (ParameterBlock b)) (open_unit l)))
    orderly.frames_apart orderly.frames_known
  where
    one : (here : Bool) → streams_in (open_unit l) l ++ flat_map stream_of (cond here (ParameterBlock b ∷ []) []) ≡ streams_in (open_unit l) l
    one true = append-nil (streams_in (open_unit l) l)
    one false = append-nil (streams_in (open_unit l) l)

pub orderly-delimiter : (l : List Role) → IsBalanced l → IsOrderly l → is_delimited (l ++ Delimiter ∷ []) ≡ true → IsOrderly (l ++ Delimiter ∷ [])
orderly-delimiter l balanced orderly with = orderly-next l Delimiter [] orderly (record { profile = refl; codec = refl; element = refl; mix = refl; streams = refl }) (streams_in-fresh l balanced with) refl refl

pub orderly-frame : (l : List Role) (f : FrameRole) → IsBalanced l → IsOrderly l → contains (substreams l) f.substream ≡ true → contains (streams_in (open_unit l) l) f.substream ≡ false → IsOrderly (l ++ AudioFrame f ∷ [])
orderly-frame l f balanced orderly known new = elim (cases_Bool (is_full l f.substream (streams_in (open_unit l) l))) [
  | inl full ↦ orderly-next l o [] orderly none (ap (λ u. streams_in u (l ++ o ∷ [])) (moves ∙ ap (λ b. cond b (open_unit l + 1) (open_unit l)) full) ∙ streams_in-next l o balanced (unit_after-other l o refl)) refl refl
  | inr still ↦ orderly-next l o (streams_in (open_unit l) l ++ f.substream ∷ []) orderly none (ap (λ u. streams_in u (l ++ o ∷ [])) (moves ∙ ap (λ b. cond b (open_unit l + 1) (open_unit l)) still) ∙ streams_in-frame l f)
      (apart_push (streams_in (open_unit l) l) f.substream orderly.frames_apart new) (known_push (substreams l) (streams_in (open_unit l) l) f.substream orderly.frames_known known)
] where
  o : Role
  o = AudioFrame f

  none : IsNoDescriptor o
  none = record { profile = refl; codec = refl; element = refl; mix = refl; streams = refl }

  moves : open_unit (l ++ o ∷ []) ≡ cond (is_full l f.substream (streams_in (open_unit l) l)) (open_unit l + 1) (open_unit l)
  moves = open_unit-frame l f balanced (some_streams l f.substream known) new
