-- The tags at the front of a tail: read one after the other, and written so that they are read again.
use Rattle.std.proofs.Common.{◌≡◌, ℕ, suc, ◌+◌, ◌-◌, ◌<◌, ◌≤◌, List, [], ◌∷◌, ◌++◌, length, get_or, take, drop, map, Option, Some, None, Result, Ok, Err, refl, sym, ap, subst, ◌∙◌, arith, append_assoc}
use Rattle.std.specs.List.{All, flat_map}
use Rattle.std.proofs.lemmas.List.{append-nil, length-map, get_or-map, take_all, take_more, flat_map_more}
use Rattle.std.proofs.lemmas.List.Elements.{All-nil, All-cons, All-get_or}
use Rattle.std.proofs.lemmas.Option.{same_Some}
use Rattle.spec_bits.specs.declared.FieldFault.{FieldFault}
use Rattle.spec_bits.specs.Bits.{Bits, AreBytes, bits_of, all_bits}
use Rattle.spec_bits.proofs.BitsLaws.{all_bits-append}
use Rattle.spec_bits.specs.Text.{IsText}
use Rattle.spec_bits.specs.ByteReading.{◌>>=◌, text_at}
use Rattle.spec_bits.specs.Cursor.{Cursor, bytes_left}
use Rattle.spec_descriptors.specs.Tags.{Tag, AreTags, HasTags, IsTag, tag_bytes, tags_at, some_of, tags_of, tail_with}
use Rattle.spec_descriptors.proofs.TagReading.{tags_reads, tags_written, tags_same}
use Rattle.obu_mix.specs.declared.tag.Tag.{Tag as Record}
use Rattle.obu_mix.specs.TagView.{view_tag, tags_bytes, IsTagged, CanBeTagged}

abbrev Tags : Type 0
Tags = List Tag × List ℕ

-- ---- one tag after the other

-- these tags, and what is read after them
abbrev pub after : List Tag → Result Tags FieldFault → Result Tags FieldFault
after ts (Ok r) = Ok (ts ++ r.0, r.1)
after ts (Err f) = Err f

pub after_none : (r : Result Tags FieldFault) → r ≡ after [] r
after_none (Ok r) = refl
after_none (Err f) = refl

after_more : (ts : List Tag) (t : Tag) (r : Result Tags FieldFault) → after ts (r >>= λ tags. Ok (t ∷ tags.0, tags.1)) ≡ after (ts ++ t ∷ []) r
after_more ts t (Ok r) = ap (λ (xs : List Tag). Ok (xs, r.1)) (sym (append_assoc ts (t ∷ []) r.0))
after_more ts t (Err f) = refl

abbrev tag_of : List ℕ → List ℕ → Tag
tag_of name value = record { name = name; value = value }

pub tag_read : (n i : ℕ) (b b1 b2 name value : List ℕ) (ts : List Tag) (all : Result Tags FieldFault) → i < n → text_at b ≡ Ok (name, b1) → text_at b1 ≡ Ok (value, b2)
    → all ≡ after ts (tags_at (n - i) b) → all ≡ after (ts ++ tag_of name value ∷ []) (tags_at (n - (i + 1)) b2)
unfolding tags_at
tag_read n i b b1 b2 name value ts all more reads_name reads_value so_far =
    let e : n - i ≡ suc (n - (i + 1)) = omega arith in
    so_far ∙ rw (e, reads_name, reads_value) (after_more ts (tag_of name value) (tags_at (n - (i + 1)) b2))

pub name_fails : (n i : ℕ) (b : List ℕ) (f : FieldFault) (ts : List Tag) (all : Result Tags FieldFault) → i < n → text_at b ≡ Err f → all ≡ after ts (tags_at (n - i) b) → all ≡ Err f
unfolding tags_at
name_fails n i b f ts all more fails so_far =
    let e : n - i ≡ suc (n - (i + 1)) = omega arith in
    so_far ∙ rw (e, fails) refl

pub value_fails : (n i : ℕ) (b b1 name : List ℕ) (f : FieldFault) (ts : List Tag) (all : Result Tags FieldFault) → i < n → text_at b ≡ Ok (name, b1) → text_at b1 ≡ Err f
    → all ≡ after ts (tags_at (n - i) b) → all ≡ Err f
unfolding tags_at
value_fails n i b b1 name f ts all more reads_name fails so_far =
    let e : n - i ≡ suc (n - (i + 1)) = omega arith in
    so_far ∙ rw (e, reads_name, fails) refl

pub all_read : (n i : ℕ) (b : List ℕ) (ts : List Tag) (all : Result Tags FieldFault) → n ≤ i → all ≡ after ts (tags_at (n - i) b) → all ≡ Ok (ts, b)
unfolding tags_at
all_read n i b ts all done so_far =
    let e : n - i ≡ 0 = omega arith in
    so_far ∙ rw (e, append-nil) refl

-- ---- a tail with tags, or without

pub tagged : (tail rest : List ℕ) (ts : List Tag) → tags_of tail ≡ Some (ts, rest) → IsTagged (Some ts) rest tail
tagged tail rest ts e = record { parts = tags_same tail ts rest ((tags_reads tail ts rest).0 e); reads = e }

pub split_read : (tail rest left : List ℕ) (c : Cursor) (ts : List Tag) → 1 ≤ length tail → c ≡ record { bytes = take (length tail - 1) (drop 1 tail); place = 0 } → tags_at (get_or tail 0 0) (bytes_left c) ≡ Ok (ts, left) → rest ≡ left → IsTagged (Some ts) rest tail
split_read [] rest left c ts some is read same = absurd (omega arith)
split_read (x ∷ xs) rest left c ts some is read same =
    let bytes : bytes_left c ≡ xs = ap bytes_left is ∙ take_all (length (x ∷ xs) - 1) xs (omega arith) in
    let e : tags_at x xs ≡ Ok (ts, rest) = ap (tags_at x) (sym bytes) ∙ read ∙ ap (λ (l : List ℕ). Ok (ts, l)) (sym same) in
    tagged (x ∷ xs) rest ts (ap some_of e)

pub untagged : (tail : List ℕ) → tags_of tail ≡ None → IsTagged None tail tail
untagged tail e = record { parts = refl; reads = e }

pub one_tagged : (tags others : Option (List Tag)) (rest more tail : List ℕ) → IsTagged tags rest tail → IsTagged others more tail → (tags ≡ others) × (rest ≡ more)
one_tagged None None rest more tail h k = (refl, sym h.parts ∙ k.parts)
one_tagged None (Some ts) rest more tail h k = absurd (let e = sym h.reads ∙ k.reads in cc)
one_tagged (Some ts) None rest more tail h k = absurd (let e = sym h.reads ∙ k.reads in cc)
one_tagged (Some ts) (Some us) rest more tail h k =
    let same : (ts, rest) ≡ (us, more) = same_Some (ts, rest) (us, more) (sym h.reads ∙ k.reads) in
    (ap (λ (p : Tags). Some p.0) same, ap (λ (p : Tags). p.1) same)

-- ---- what can be written

pub is_tagged : (tags : Option (List Tag)) (rest : List ℕ) → CanBeTagged tags rest → IsTagged tags rest (tags_bytes tags ++ rest)
is_tagged None rest none = record { parts = refl; reads = none }
is_tagged (Some ts) rest can = record { parts = refl; reads = (tags_reads (tail_with ts rest) ts rest).1 (tags_written ts rest can.1) }

are_texts : (ts : List Tag) (b : List ℕ) → AreTags ts b → All IsTag ts
are_texts [] b are = All-nil IsTag
are_texts (t ∷ ts) b are =
    All-cons IsTag t ts (subst (λ (x : List ℕ). IsText t.name x) are.3.bytes are.3, subst (λ (x : List ℕ). IsText t.value x) are.4.bytes are.4) (are_texts ts are.2 are.5)

pub can_be_tagged : (tags : Option (List Tag)) (rest tail : List ℕ) → IsTagged tags rest tail → AreBytes tail → CanBeTagged tags rest
can_be_tagged None rest tail h are = subst (λ (x : List ℕ). tags_of x ≡ None) h.parts h.reads
can_be_tagged (Some ts) rest tail h are =
    let has : HasTags ts rest tail = (tags_reads tail ts rest).0 h.reads in
    let bytes : AreBytes (length ts ∷ has.bytes ++ rest) = subst AreBytes has.parts are in
    let count : length ts < 256 = bytes.0 in
    (omega (arith, count), are_texts ts has.bytes has.are)

-- ---- tags that are put

pub two_texts : (o0 o1 o2 : Bits) (name value : List ℕ) → o1 ≡ o0 ++ all_bits (name ++ 0 ∷ []) → o2 ≡ o1 ++ all_bits (value ++ 0 ∷ []) → o2 ≡ o0 ++ all_bits ((name ++ 0 ∷ []) ++ (value ++ 0 ∷ []))
two_texts o0 o1 o2 name value e1 e2 =
    e2 ∙ ap (λ (b : Bits). b ++ all_bits (value ++ 0 ∷ [])) e1 ∙ append_assoc o0 (all_bits (name ++ 0 ∷ [])) (all_bits (value ++ 0 ∷ [])) ∙ ap (λ (b : Bits). o0 ++ b) (sym (all_bits-append (name ++ 0 ∷ []) (value ++ 0 ∷ [])))

abbrev pub no_tag : Record
no_tag = record { name = record { ref_ptr = (0, 0); now = [] }; value = record { ref_ptr = (0, 0); now = [] } }

pub tag_at : (tags : List Record) (i : ℕ) → i < length tags → All IsTag (map view_tag tags) → IsTag (view_tag (get_or tags i no_tag))
tag_at tags i there all =
    let more : i < length (map view_tag tags) = omega (arith, there, length-map tags view_tag) in
    subst IsTag (get_or-map view_tag tags i no_tag (view_tag no_tag) there) (All-get_or IsTag (map view_tag tags) i (view_tag no_tag) more all)

pub tags_put : (tags : List Record) (i : ℕ) (start now new : Bits) → i < length tags → now ≡ start ++ all_bits (flat_map (λ t. tag_bytes (view_tag t)) (take i tags)) → new ≡ now ++ all_bits (tag_bytes (view_tag (get_or tags i no_tag)))
    → new ≡ start ++ all_bits (flat_map (λ t. tag_bytes (view_tag t)) (take (i + 1) tags))
tags_put tags i start now new there so_far more =
    let one = tag_bytes (view_tag (get_or tags i no_tag)) in
    let before = flat_map (λ (t : Record). tag_bytes (view_tag t)) (take i tags) in
    let all : before ++ one ≡ flat_map (λ (t : Record). tag_bytes (view_tag t)) (take (i + 1) tags) =
    flat_map_more (λ (t : Record). tag_bytes (view_tag t)) [] (take i tags) (get_or tags i no_tag) ∙ ap (λ (ts : List Record). flat_map (λ (t : Record). tag_bytes (view_tag t)) ts) (sym (take_more tags i no_tag there)) in
    more ∙ ap (λ (b : Bits). b ++ all_bits one) so_far ∙ append_assoc start (all_bits before) (all_bits one) ∙ ap (λ (b : Bits). start ++ b) (sym (all_bits-append before one)) ∙ ap (λ (xs : List ℕ). start ++ all_bits xs) all

pub none_put : (o : Bits) → o ≡ o ++ all_bits []
unfolding all_bits
none_put o = sym (append-nil o)

flat_map-map : (tags : List Record) → flat_map tag_bytes (map view_tag tags) ≡ flat_map (λ t. tag_bytes (view_tag t)) tags
flat_map-map [] = refl
flat_map-map (t ∷ ts) = ap (λ (xs : List ℕ). tag_bytes (view_tag t) ++ xs) (flat_map-map ts)

pub list_put : (o o1 o2 : Bits) (n : ℕ) (tags items : List Record) (list : Option (List Tag)) → n ≡ length items → tags ≡ items → list ≡ Some (map view_tag items) → o1 ≡ o ++ bits_of 8 n → o2 ≡ o1 ++ all_bits (flat_map (λ t. tag_bytes (view_tag t)) tags)
    → o2 ≡ o ++ all_bits (tags_bytes list)
unfolding all_bits
list_put o o1 o2 n tags items list count same is e1 e2 =
    rw (e2, e1, same, count, is, length-map items view_tag, flat_map-map items) (append_assoc o (bits_of 8 (length items)) (all_bits (flat_map (λ (t : Record). tag_bytes (view_tag t)) items)))

pub no_list_put : (o : Bits) (list : Option (List Tag)) → list ≡ None → o ≡ o ++ all_bits (tags_bytes list)
no_list_put o list is = rw is (none_put o)
