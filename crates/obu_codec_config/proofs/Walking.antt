-- A walk over metadata blocks: what is said of the blocks that follow is said of all.
use Rattle.std.proofs.Common.{◌≡◌, ℕ, ◌+◌, ◌-◌, ◌*◌, ◌/◌, ◌<◌, ◌≤◌, List, [], ◌++◌, length, take, drop, slice_index, Result, Ok, Err, refl, sym, ap, subst, ◌∙◌, arith, append_assoc, length-append}
use Rattle.std.specs.Prelude.{slice_range}
use Rattle.std.proofs.lemmas.List.{take_at}
use Rattle.spec_bits.specs.declared.FieldFault.{FieldFault}
use Rattle.spec_bits.specs.declared.FieldFault.TheVariants.{Short}
use Rattle.spec_bits.specs.Bits.{Bits, AreBytes, all_bits}
use Rattle.spec_bits.specs.Blocks.{AreBlocks, last, more, body_size, EndsInBlock, in_head, in_body, after}
use Rattle.spec_bits.specs.ByteReading.{◌>>=◌, bytes_at}
use Rattle.spec_bits.specs.Form.{Bytes, Blocks}
use Rattle.spec_bits.specs.Fault.{InBytes}
use Rattle.spec_bits.specs.Cursor.{Cursor, IsOnByte, bits_left, bytes_left, bytes_of, moved, field_at, field_front}
use Rattle.spec_bits.proofs.BitsLaws.{length-all_bits, all_bits-append, split}
use Rattle.spec_bits.proofs.BlocksLaws.{bytes_read}
use Rattle.spec_bits.proofs.ByteForms.{AreBytes-append}
use Rattle.spec_bits.proofs.FormLaws.{form_reads}
use Rattle.spec_syntax.proofs.Places.{field_takes, field_fails, cursor_is}

-- these bytes stand between two places
pub record Between (c d : Cursor) (v : List ℕ) : Type 0 where
  pub are : AreBytes v
  pub parts : bits_left c ≡ all_bits v ++ bits_left d
  pub whole : bytes_left c ≡ v ++ bytes_left d
  pub same : d.bytes ≡ c.bytes
  pub ends : d.place ≡ c.place + 8 * length v

between_join : (c d e : Cursor) (v w : List ℕ) → Between c d v → Between d e w → Between c e (v ++ w)
between_join c d e v w a b = record {
  are = AreBytes-append v w a.are b.are;
  parts = a.parts ∙ ap (λ (z : Bits). all_bits v ++ z) b.parts ∙ sym (append_assoc (all_bits v) (all_bits w) (bits_left e)) ∙ ap (λ (z : Bits). z ++ bits_left e) (sym (all_bits-append v w));
  whole = a.whole ∙ ap (λ (z : List ℕ). v ++ z) b.whole ∙ sym (append_assoc v w (bytes_left e));
  same = b.same ∙ a.same;
  ends = omega (arith, a.ends, b.ends, length-append v w);
}

-- so many bytes that were taken
pub record TakenBytes (n : ℕ) (c d : Cursor) (v : List ℕ) : Type 0 where
  pub size : length v ≡ n
  pub between : Between c d v

pub taken_bytes : (n : ℕ) (c d : Cursor) (v : List ℕ) → field_at (Bytes n) c ≡ Ok (v, d) → bytes_at n (bytes_left c) ≡ Ok (v, bytes_left d) → TakenBytes n c d v
taken_bytes n c d v e g =
    let t = field_takes (Bytes n) c (v, d) e in
    let b = bytes_read n (bytes_left c) (v, bytes_left d) g in
    record {
      size = b.0;
      between = record {
        are = t.spells.1;
        parts = t.parts ∙ ap (λ (z : Bits). z ++ bits_left d) t.spells.2;
        whole = b.1;
        same = t.same;
        ends = omega (arith, t.ends, ap length t.spells.2, length-all_bits v);
      };
    }

-- whole blocks, none of which is the last, stand between two places
pub record Walked (c d : Cursor) (front : List ℕ) : Type 0 where
  pub between : Between c d front
  pub blocks : (v : List ℕ) → AreBlocks v → AreBlocks (front ++ v)
  pub cut : (b : List ℕ) → EndsInBlock b → EndsInBlock (front ++ b)

pub walk_starts : (c : Cursor) → Walked c c []
unfolding all_bits
walk_starts c = record {
  between = record { are = tt; parts = refl; whole = refl; same = refl; ends = omega arith };
  blocks = λ v h. h;
  cut = λ b h. h;
}

pub walk_goes_on : (c d e f : Cursor) (front head body : List ℕ) → Walked c d front → TakenBytes 4 d e head → TakenBytes (body_size head) e f body → slice_index head 0 < 128 → Walked c f (front ++ (head ++ body))
walk_goes_on c d e f front head body w h b flag = record {
  between = between_join c d f front (head ++ body) w.between (between_join d e f head body h.between b.between);
  blocks = λ v are. subst AreBlocks (sym (append_assoc front (head ++ body) v)) (w.blocks ((head ++ body) ++ v) (more head body v h.size b.size flag are));
  cut = λ v ends. subst EndsInBlock (sym (append_assoc front (head ++ body) v)) (w.cut ((head ++ body) ++ v) (after head body v h.size b.size flag ends));
}

-- ---- how the walk ends

blocks_there : (c d : Cursor) (v : List ℕ) → Between c d v → AreBlocks v → field_at Blocks c ≡ Ok (v, d)
unfolding field_at
blocks_there c d v b are =
    let found = ap (field_front Blocks) b.parts ∙ (form_reads Blocks).again (all_bits v) (bits_left d) v (are, b.are, refl) in
    let place : d.place ≡ c.place + length (all_bits v) = omega (arith, b.ends, length-all_bits v) in
    ap (λ (r : Result (List ℕ × ℕ) FieldFault). r >>= λ x. Ok (x.0, moved c x.1)) found ∙ ap (λ (x : Cursor). Ok (v, x)) (sym (cursor_is d c (length (all_bits v)) b.same place))

pub walk_ends : (c d e f : Cursor) (front head body : List ℕ) → Walked c d front → TakenBytes 4 d e head → TakenBytes (body_size head) e f body → 128 ≤ slice_index head 0
    → (field_at Blocks c ≡ Ok (front ++ (head ++ body), f)) × Between c f (front ++ (head ++ body))
walk_ends c d e f front head body w h b flag =
    let all = between_join c d f front (head ++ body) w.between (between_join d e f head body h.between b.between) in
    (blocks_there c f (front ++ (head ++ body)) all (w.blocks (head ++ body) (last head body h.size b.size flag)), all)

no_blocks : (c : Cursor) (f : FieldFault) (front b : List ℕ) (rest left : Bits) → f ≡ Short → bits_left c ≡ all_bits front ++ left → left ≡ all_bits b ++ rest → AreBytes front → AreBytes b → length rest < 8 → EndsInBlock (front ++ b) → field_at Blocks c ≡ Err f
unfolding field_at
no_blocks c f front b rest left is parts split are are' few ends =
    let whole : bits_left c ≡ all_bits (front ++ b) ++ rest =
    parts ∙ ap (λ (z : Bits). all_bits front ++ z) split ∙ sym (append_assoc (all_bits front) (all_bits b) rest) ∙ ap (λ (z : Bits). z ++ rest) (sym (all_bits-append front b)) in
    let fault : InBytes EndsInBlock (bits_left c) = record { bytes = front ++ b; rest = rest; are = AreBytes-append front b are are'; parts = whole; few = few; has = ends } in
    ap (λ (r : Result (List ℕ × ℕ) FieldFault). r >>= λ x. Ok (x.0, moved c x.1)) ((form_reads Blocks).only (bits_left c) f (is, fault))

pub head_is_cut : (c d : Cursor) (front : List ℕ) (f : FieldFault) → Walked c d front → field_at (Bytes 4) d ≡ Err f → field_at Blocks c ≡ Err f
head_is_cut c d front f w e =
    let short = field_fails (Bytes 4) d f e in
    let s = split (length (bits_left d)) (bits_left d) (omega arith) in
    let few : length (bytes_of (bits_left d)) < 4 = omega (arith, short.1, ap length s.parts, length-append (all_bits (bytes_of (bits_left d))) s.rest, length-all_bits (bytes_of (bits_left d))) in
    no_blocks c f front (bytes_of (bits_left d)) s.rest (bits_left d) short.0 w.between.parts s.parts w.between.are s.are s.few (w.cut (bytes_of (bits_left d)) (in_head (bytes_of (bits_left d)) few))

pub body_is_cut : (c d e : Cursor) (front head : List ℕ) (f : FieldFault) → Walked c d front → TakenBytes 4 d e head → field_at (Bytes (body_size head)) e ≡ Err f → field_at Blocks c ≡ Err f
body_is_cut c d e front head f w h g =
    let short = field_fails (Bytes (body_size head)) e f g in
    let s = split (length (bits_left e)) (bits_left e) (omega arith) in
    let rest_bytes : List ℕ = bytes_of (bits_left e) in
    let few : length rest_bytes < body_size head = omega (arith, short.1, ap length s.parts, length-append (all_bits rest_bytes) s.rest, length-all_bits rest_bytes) in
    let all : List ℕ = head ++ rest_bytes in
    let front_is : take 4 all ≡ head = take_at head rest_bytes 4 h.size in
    let long : 4 ≤ length all = omega (arith, length-append head rest_bytes, h.size) in
    let short_all : length all < 4 + body_size (take 4 all) = rw front_is (omega (arith, length-append head rest_bytes, h.size, few)) in
    let parts : bits_left d ≡ all_bits all ++ s.rest =
    h.between.parts ∙ ap (λ (z : Bits). all_bits head ++ z) s.parts ∙ sym (append_assoc (all_bits head) (all_bits rest_bytes) s.rest) ∙ ap (λ (z : Bits). z ++ s.rest) (sym (all_bits-append head rest_bytes)) in
    no_blocks c f front all s.rest (bits_left d) short.0 w.between.parts parts w.between.are (AreBytes-append head rest_bytes h.between.are s.are) s.few (w.cut all (in_body all long short_all))

-- ---- the bytes between two places, as the buffer has them

pub between_is : (c d : Cursor) (v : List ℕ) (start end : ℕ) → Between c d v → IsOnByte c → start ≡ c.place / 8 → end ≡ d.place / 8 → slice_range d.bytes start end ≡ v
between_is c d v start end b on is is' =
    let size : end - start ≡ length v = omega (arith, b.ends, on, is, is') in
    ap (λ (xs : List ℕ). slice_range xs start end) b.same ∙ ap (λ (i : ℕ). take (end - start) (drop i c.bytes)) is ∙ ap (take (end - start)) b.whole ∙ take_at v (bytes_left d) (end - start) (sym size)

pub on_byte_after : (c d : Cursor) (v : List ℕ) → IsOnByte c → Between c d v → IsOnByte d
on_byte_after c d v on b = omega (arith, on, b.ends)

pub two_shorter : (c d e : Cursor) (n : ℕ) (v w : List ℕ) → TakenBytes 4 c d v → TakenBytes n d e w → length (bytes_left e) < length (bytes_left c)
two_shorter c d e n v w a b =
    omega (arith, ap length a.between.whole, length-append v (bytes_left d), a.size, ap length b.between.whole, length-append w (bytes_left e))
