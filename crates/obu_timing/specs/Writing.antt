-- What the writers of parts give.
use Rattle.std.specs.Prelude.{◌≡◌, List, ◌++◌, Result, Ok, Err}
use Rattle.spec_syntax.specs.Payload.{FieldValue, canon}
use Rattle.iamf_bits.specs.Written.{Written}

-- unless memory ran out, the canonical spelling of the fields comes after the bits so far, and ends on a byte
abbrev pub Puts : {V E : Type 0} → Result V E → Written → Written → List FieldValue → Type 0
Puts (Ok v) old new fields = (new.bits ≡ old.bits ++ canon fields) × (new.used ≡ 0)
Puts (Err e) old new fields = Unit {0}
