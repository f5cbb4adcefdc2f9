-- What stands at the front of bytes.
use Rattle.std.specs.Prelude.{◌≡◌, ℕ, ◌+◌, ◌-◌, ◌<◌, ◌≤◌, List, length, take, drop, Result, Ok, Err}
use Rattle.spec_bits.specs.declared.FieldFault.{FieldFault}
use Rattle.spec_bits.specs.ByteReading.{leb_at}
use Rattle.spec_obu.specs.Header.{Header}
use Rattle.obu_header.specs.declared.view.ObuView.{ObuView}
use Rattle.obu_header.specs.View.{head_of}
use Rattle.spec_streams.specs.Front.{IsSure}
use Rattle.iamf_stream.specs.declared.front.Front.{Front}
use Rattle.iamf_stream.specs.declared.front.Front.TheVariants.{Obu, Partial, Fault}
use Rattle.iamf_stream.specs.Waiting.{IsWaiting}

-- the OBU is the first bytes, up to its end
pub record IsObu (bytes : List ℕ) (o : ObuView) : Type 0 where
  pub begins : 0 < o.end
  pub within : o.end ≤ length bytes
  pub header : Header (head_of o.head) o.payload.now (take o.end bytes)

abbrev pub IsFront : List ℕ → Front → Type 0
IsFront bytes (Obu o) = IsObu bytes o
IsFront bytes (Partial wanted) = IsWaiting bytes wanted
IsFront bytes (Fault f) = IsSure f bytes

-- the size after the first byte says that the OBU has so many bytes, first byte and size and all
pub record SizeSays (bytes : List ℕ) (count : ℕ) : Type 0 where
  pub size : ℕ
  pub rest : List ℕ
  pub reads : leb_at (drop 1 bytes) ≡ Ok (size, rest)
  pub count_is : count ≡ length bytes - length rest + size

abbrev pub IsLength : List ℕ → Result ℕ FieldFault → Type 0
IsLength bytes (Ok count) = SizeSays bytes count
IsLength bytes (Err f) = leb_at (drop 1 bytes) ≡ Err f
