-- What a look-up of the code found.
use Rattle.std.specs.Prelude.{◌≡◌, Option, Some, None}
use Rattle.std.specs.Borrow.{Bor}

-- it is this, as contracts see it
abbrev pub Finds : {A B : Type 0} → (A → B) → Option (Bor A) → Option B → Type 0
Finds view None found = found ≡ None
Finds view (Some a) found = found ≡ Some (view a.now)
