-- What it means that a file is read or refused, and what is known of it.
use Rattle.std.specs.Prelude.{◌≡◌, ℕ, ◌⊎◌, Bool, true, List, Some, None}
use Rattle.spec_boxes.specs.declared.fault.BoxFault.{BoxFault}
use Rattle.spec_boxes.specs.Tracks.{track_at}
use Rattle.spec_boxes.specs.Code.{code_of}
use Rattle.spec_boxes.specs.Rules.{first_of, answer, rules, track}

-- all rules hold of a file, which may be in fragments or not, and it has this configuration and these samples
abbrev pub HoldsIn : Bool → List ℕ → List ℕ → List (List ℕ) → Type 0
HoldsIn whole f config samples = (first_of (rules whole f) ≡ None) × ((track f).config ≡ config) × ((track f).samples ≡ samples)

-- the first rule that fails does so at this place, with this code
abbrev pub RefusesIn : Bool → List ℕ → ℕ → ℕ → Type 0
RefusesIn whole f at code = (fault : BoxFault) × (first_of (rules whole f) ≡ Some (record { at = at; fault = fault })) × (code_of fault ≡ code)

-- the same of whole files
abbrev pub Holds : List ℕ → List ℕ → List (List ℕ) → Type 0
Holds f config samples = HoldsIn true f config samples

abbrev pub BoxRefuses : List ℕ → ℕ → ℕ → Type 0
BoxRefuses f at code = RefusesIn true f at code

-- reading gives what the rules say
abbrev pub ReadingIsRules : Type 0
ReadingIsRules = (whole : Bool) (f : List ℕ) → track_at whole f ≡ answer (first_of (rules whole f)) (track f)

-- every file has one or the other, and not both
pub record OneAnswer (whole : Bool) (f : List ℕ) : Type 0 where
  pub some : ((config : List ℕ) × (samples : List (List ℕ)) × HoldsIn whole f config samples) ⊎ ((at : ℕ) × (code : ℕ) × RefusesIn whole f at code)
  pub exclusive : (config : List ℕ) (samples : List (List ℕ)) (at code : ℕ) → HoldsIn whole f config samples → RefusesIn whole f at code → ⊥
  pub one_track : (c d : List ℕ) (u v : List (List ℕ)) → HoldsIn whole f c u → HoldsIn whole f d v → (c ≡ d) × (u ≡ v)
  pub one_refusal : (at to code other : ℕ) → RefusesIn whole f at code → RefusesIn whole f to other → (at ≡ to) × (code ≡ other)

abbrev pub EachHasOne : Type 0
EachHasOne = (whole : Bool) (f : List ℕ) → OneAnswer whole f
