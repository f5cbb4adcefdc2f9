-- What holds of payloads and of OBUs.
use Rattle.std.specs.Prelude.{◌≡◌, ℕ, ◌≤◌, ◌⊎◌, List, [], ◌++◌, length}
use Rattle.spec_bits.specs.Bits.{AreBytes}
use Rattle.spec_values.specs.declared.fault.Fault.{Fault}
use Rattle.spec_values.specs.Content.{Content, Context, PayloadOf, PayloadFault}
use Rattle.spec_values.specs.Value.{ObuValue, Spells}
use Rattle.spec_values.specs.Canonical.{canonical_payload, canonical_obu}

-- Of any bytes exactly one holds, a payload of the type or a fault, for one content and one tail, or for one fault.
pub record IsExactPayload (context : Context) (obu_type : ℕ) : Type 0 where
  pub either : (payload : List ℕ) → AreBytes payload → ((content : Content) × (tail : List ℕ) × PayloadOf context obu_type content tail payload) ⊎ ((f : Fault) × PayloadFault context obu_type f payload)
  pub not_both : (payload tail : List ℕ) (content : Content) (f : Fault) → PayloadOf context obu_type content tail payload → PayloadFault context obu_type f payload → ⊥
  pub one_content : (payload t u : List ℕ) (c d : Content) → PayloadOf context obu_type c t payload → PayloadOf context obu_type d u payload → (c ≡ d) × (t ≡ u)
  pub one_fault : (payload : List ℕ) (f g : Fault) → PayloadFault context obu_type f payload → PayloadFault context obu_type g payload → f ≡ g

-- bytes spell one value, with one payload
abbrev pub OneValue : Type 0
OneValue = (context : Context) (o q : ObuValue) (p r bytes : List ℕ) → Spells context o p bytes → Spells context q r bytes → (o ≡ q) × (p ≡ r)

-- no spelling of an OBU is a proper prefix of another
abbrev pub NoPrefix : Type 0
NoPrefix = (context other : Context) (o q : ObuValue) (p r bytes more : List ℕ) → Spells context o p bytes → Spells other q r (bytes ++ more) → more ≡ []

-- the canonical spelling is one, and none is shorter
abbrev pub CanonicalSpells : Type 0
CanonicalSpells = (context : Context) (o : ObuValue) (p bytes : List ℕ) → Spells context o p bytes → Spells context o (canonical_payload o) (canonical_obu o)

abbrev pub NeverLonger : Type 0
NeverLonger = (context : Context) (o : ObuValue) (p bytes : List ℕ) → Spells context o p bytes → length (canonical_obu o) ≤ length bytes
