-- One OBU as plain data, and its spellings.
use Rattle.std.specs.Prelude.{ℕ, List}
use Rattle.spec_obu.specs.Header.{Head, Header}
use Rattle.spec_values.specs.Content.{Content, Context, PayloadOf}

-- the fields of the header, what the payload says, and the bytes of the payload after that
pub record ObuValue : Type 0 where
  pub head : Head
  pub content : Content
  pub tail : List ℕ

-- The bytes are an OBU with this value, and this is its payload. Reserved bits may be any, and a leb128 longer than needed.
pub record Spells (context : Context) (o : ObuValue) (payload bytes : List ℕ) : Type 0 where
  pub header : Header o.head payload bytes
  pub payload_is : PayloadOf context o.head.kind o.content o.tail payload
