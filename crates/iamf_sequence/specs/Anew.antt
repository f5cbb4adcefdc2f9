-- Whether the spelling of an OBU is written anew.
use Rattle.std.specs.Prelude.{◌≡◌, ℕ, List, Option, Some, None, Vec}
use Rattle.std.specs.Global.{Global}
use Rattle.spec_values.specs.Content.{Context, PayloadOf}
use Rattle.spec_values.specs.Value.{ObuValue}
use Rattle.spec_values.specs.Canonical.{canonical_payload}

-- In an OBU of this type each payload is the canonical one.
abbrev pub HasNoFields : ℕ → Type 0
HasNoFields kind = (context : Context) (o : ObuValue) (payload : List ℕ) → o.head.kind ≡ kind → PayloadOf context o.head.kind o.content o.tail payload → canonical_payload o ≡ payload

-- the bytes that are there, or those that are written in their place
abbrev pub anew_or : List ℕ → Option (Vec ℕ Global) → List ℕ
anew_or there None = there
anew_or there (Some anew) = anew.items
