-- The temporal delimiter that stands before each unit.
use Rattle.std.proofs.Common.{◌≡◌, ℕ, List, [], ◌∷◌, ◌++◌, None, false, true, refl, sym, ap, ◌∙◌, arith, append_assoc}
use Rattle.spec_obu.specs.Header.{Head, Header}
use Rattle.spec_obu.specs.Listing.{Obu, joined}
use Rattle.spec_files.specs.Body.{is_delimiter}

-- The delimiter of no bytes.
unfoldable pub delimiter : Head
delimiter = record { kind = 4; redundant = false; trim = None; extension = None }

pub delimiter_is : Header delimiter [] (0x20 ∷ 0 ∷ [])
unfolding delimiter
delimiter_is = record {
  size = 0 ∷ [];
  trim = [];
  extension = [];
  bytes = refl;
  size_is = record { ends = omega arith; short = omega arith; value = refl; below = omega arith };
  trim_is = refl;
  extension_is = refl;
  kind_is = omega arith;
  allowed = refl;
  short = omega arith;
}

abbrev pub mark : Obu
mark = record { head = delimiter; payload = []; bytes = 0x20 ∷ 0 ∷ [] }

pub mark_is : is_delimiter mark ≡ true
unfolding delimiter
mark_is = refl

-- the OBUs of units, each after a delimiter
pub bytes-append : (xs ys : List Obu) → joined (xs ++ ys) ≡ joined xs ++ joined ys
bytes-append [] ys = refl
bytes-append (x ∷ xs) ys = ap (λ (b : List ℕ). x.bytes ++ b) (bytes-append xs ys) ∙ sym (append_assoc x.bytes (joined xs) (joined ys))
