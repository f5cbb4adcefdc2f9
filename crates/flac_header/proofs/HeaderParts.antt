-- The parts of a header, read one after the other.
use Rattle.std.proofs.Common.{◌≡◌, ℕ, Ok, Err, ◌∙◌}
use Rattle.spec_bits.specs.Cursor.{Cursor}
use Rattle.spec_syntax.specs.Syntax.{Syntax, End, ◌>>=◌}
use Rattle.spec_syntax.specs.Reading.{read}
use Rattle.spec_syntax.proofs.Reading.{bind_ok, bind_err}
use Rattle.spec_flac.specs.declared.fault.FlacFault.{FlacFault}
use Rattle.spec_flac.specs.declared.shape.FlacShape.{FlacShape}
use Rattle.spec_flac.specs.Faults.{short}
use Rattle.spec_flac.specs.Header.{Codes, Kinds, Front, codes, kinds, coded_number, front, block_size, sample_rate, matches, numbers, header_crc, header}

abbrev front_of : Codes → Kinds → Syntax FlacFault Front
front_of a b = coded_number >>= λ _. End (record { codes = a; kinds = b })

front_two : (a : Codes) (b : Kinds) (c d e : Cursor) → read short codes c ≡ Ok (a, d) → read short kinds d ≡ Ok (b, e) → read short front c ≡ read short (front_of a b) e
unfolding front
front_two a b c d e one two = bind_ok short codes (λ x. kinds >>= λ y. front_of x y) c d a one ∙ bind_ok short kinds (λ y. front_of a y) d e b two

pub front_no_kinds : (a : Codes) (c d : Cursor) (f : FlacFault) → read short codes c ≡ Ok (a, d) → read short kinds d ≡ Err f → read short front c ≡ Err f
unfolding front
front_no_kinds a c d f one two = bind_ok short codes (λ x. kinds >>= λ y. front_of x y) c d a one ∙ bind_err short kinds (λ y. front_of a y) d f two

pub front_no_number : (a : Codes) (b : Kinds) (c d e : Cursor) (f : FlacFault) → read short codes c ≡ Ok (a, d) → read short kinds d ≡ Ok (b, e) → read short coded_number e ≡ Err f → read short front c ≡ Err f
front_no_number a b c d e f one two three = front_two a b c d e one two ∙ bind_err short coded_number (λ _. End (record { codes = a; kinds = b })) e f three

pub front_whole : (a : Codes) (b : Kinds) (c d e h : Cursor) → read short codes c ≡ Ok (a, d) → read short kinds d ≡ Ok (b, e) → read short coded_number e ≡ Ok (tt, h) → read short front c ≡ Ok (record { codes = a; kinds = b }, h)
front_whole a b c d e h one two three = front_two a b c d e one two ∙ bind_ok short coded_number (λ _. End (record { codes = a; kinds = b })) e h tt three

pub numbers_no_rate : (shape : FlacShape) (front : Front) (size : ℕ) (c d : Cursor) (f : FlacFault) → read short (block_size front.codes.block_size) c ≡ Ok (size, d) → read short (sample_rate shape front.codes.sample_rate) d ≡ Err f → read short (numbers shape front) c ≡ Err f
unfolding numbers
numbers_no_rate shape front size c d f one two =
    bind_ok short (block_size front.codes.block_size) (λ n. sample_rate shape front.codes.sample_rate >>= λ r. matches shape n r front.kinds) c d size one ∙ bind_err short (sample_rate shape front.codes.sample_rate) (λ r. matches shape size r front.kinds) d f two

pub numbers_then : (shape : FlacShape) (front : Front) (size rate : ℕ) (c d e : Cursor) → read short (block_size front.codes.block_size) c ≡ Ok (size, d) → read short (sample_rate shape front.codes.sample_rate) d ≡ Ok (rate, e) → read short (numbers shape front) c ≡ read short (matches shape size rate front.kinds) e
unfolding numbers
numbers_then shape front size rate c d e one two =
    bind_ok short (block_size front.codes.block_size) (λ n. sample_rate shape front.codes.sample_rate >>= λ r. matches shape n r front.kinds) c d size one ∙ bind_ok short (sample_rate shape front.codes.sample_rate) (λ r. matches shape size r front.kinds) d e rate two

abbrev header_of : FlacShape → Front → Syntax FlacFault ℕ
header_of shape x = numbers shape x >>= λ _. (header_crc >>= λ _. End x.kinds.channels)

pub header_no_numbers : (shape : FlacShape) (x : Front) (c d : Cursor) (f : FlacFault) → read short front c ≡ Ok (x, d) → read short (numbers shape x) d ≡ Err f → read short (header shape) c ≡ Err f
unfolding header
header_no_numbers shape x c d f one two = bind_ok short front (header_of shape) c d x one ∙ bind_err short (numbers shape x) (λ _. (header_crc >>= λ _. End x.kinds.channels)) d f two

pub header_no_crc : (shape : FlacShape) (x : Front) (c d e : Cursor) (f : FlacFault) → read short front c ≡ Ok (x, d) → read short (numbers shape x) d ≡ Ok (tt, e) → read short header_crc e ≡ Err f → read short (header shape) c ≡ Err f
unfolding header
header_no_crc shape x c d e f one two three =
    bind_ok short front (header_of shape) c d x one ∙ bind_ok short (numbers shape x) (λ _. (header_crc >>= λ _. End x.kinds.channels)) d e tt two ∙ bind_err short header_crc (λ _. End x.kinds.channels) e f three

pub header_whole : (shape : FlacShape) (x : Front) (c d e h : Cursor) → read short front c ≡ Ok (x, d) → read short (numbers shape x) d ≡ Ok (tt, e) → read short header_crc e ≡ Ok (tt, h) → read short (header shape) c ≡ Ok (x.kinds.channels, h)
unfolding header
header_whole shape x c d e h one two three =
    bind_ok short front (header_of shape) c d x one ∙ bind_ok short (numbers shape x) (λ _. (header_crc >>= λ _. End x.kinds.channels)) d e tt two ∙ bind_ok short header_crc (λ _. End x.kinds.channels) e h tt three
