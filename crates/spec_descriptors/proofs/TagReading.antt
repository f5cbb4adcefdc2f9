-- Tags are read exactly where they are spelled.
use Rattle.std.proofs.Common.{◌≡◌, ℕ, zero, suc, List, [], ◌∷◌, ◌++◌, length, Result, Ok, Err, Option, Some, refl, sym, ap, ap₂, subst, ◌∙◌, arith, append_assoc}
use Rattle.std.specs.Prelude.{All}
use Rattle.std.proofs.lemmas.Option.{same_Some}
use Rattle.std.specs.List.{flat_map}
use Rattle.spec_bits.specs.declared.FieldFault.{FieldFault}
use Rattle.spec_bits.specs.ByteReading.{◌>>=◌, text_at}
use Rattle.spec_bits.proofs.Outcomes.{ok_is, bind_ok}
use Rattle.spec_bits.proofs.TextLaws.{text_read, text_again}
use Rattle.spec_descriptors.specs.TagLaws.{TagsAreRead, OneListOfTags, WrittenHasTags, TagsAreWritten}
use Rattle.spec_descriptors.specs.Tags.{Tag, AreTags, HasTags, tags_at, some_of, tags_of, IsTag, tag_bytes}

-- ---- so many tags

record TagsRead (n : ℕ) (b : List ℕ) (tags : List Tag) (rest : List ℕ) : Type 0 where
  front : List ℕ
  are : AreTags tags front
  count : length tags ≡ n
  parts : b ≡ front ++ rest

abbrev Tags : Type 0
Tags = List Tag × List ℕ

tags_read : (n : ℕ) (b : List ℕ) (y : Tags) → tags_at n b ≡ Ok y → TagsRead n b y.0 y.1
unfolding tags_at
tags_read zero b y e = subst (λ (p : Tags). TagsRead zero b p.0 p.1) (ok_is {F = FieldFault} ([], b) y e) (record { front = []; are = refl; count = refl; parts = refl })
tags_read (suc n) b y e =
    let a = bind_ok (text_at b) (λ name. text_at name.1 >>= λ value. tags_at n value.1 >>= λ tags. Ok (record { name = name.0; value = value.0 } ∷ tags.0, tags.1)) y e in
    let c = bind_ok (text_at a.0.1) (λ value. tags_at n value.1 >>= λ tags. Ok (record { name = a.0.0; value = value.0 } ∷ tags.0, tags.1)) y a.2 in
    let d = bind_ok (tags_at n c.0.1) (λ tags. Ok (record { name = a.0.0; value = c.0.0 } ∷ tags.0, tags.1)) y c.2 in
    let name = text_read b a.0.1 a.0.0 a.1 in
    let value = text_read a.0.1 c.0.1 c.0.0 c.1 in
    let others : TagsRead n c.0.1 d.0.0 d.0.1 = tags_read n c.0.1 d.0 d.1 in
    let made : Tags = (record { name = a.0.0; value = c.0.0 } ∷ d.0.0, d.0.1) in
    let parts : b ≡ (name.0 ++ (value.0 ++ others.front)) ++ d.0.1 = rw (append_assoc name.0 (value.0 ++ others.front) d.0.1, append_assoc value.0 others.front d.0.1, ← others.parts, ← value.2) name.2 in
    subst (λ (p : Tags). TagsRead (suc n) b p.0 p.1) (ok_is {F = FieldFault} made y d.2)
    (record { front = name.0 ++ (value.0 ++ others.front); are = (name.0, value.0, others.front, name.1, value.1, others.are, refl); count = ap suc others.count; parts = parts })

tags_again : (tags : List Tag) (front rest : List ℕ) → AreTags tags front → tags_at (length tags) (front ++ rest) ≡ Ok (tags, rest)
unfolding tags_at
tags_again [] front rest are = rw are refl
tags_again (t ∷ ts) front rest are =
    let name = are.0 in
    let value = are.1 in
    let more = are.2 in
    let parts : front ++ rest ≡ name ++ (value ++ (more ++ rest)) = ap (λ (b : List ℕ). b ++ rest) are.6 ∙ append_assoc name (value ++ more) rest ∙ ap (λ (b : List ℕ). name ++ b) (append_assoc value more rest) in
    rw (parts, text_again name (value ++ (more ++ rest)) t.name are.3, text_again value (more ++ rest) t.value are.4, tags_again ts more rest are.5) refl

-- ---- tails

some_is : (r : Result Tags FieldFault) (y : Tags) → some_of r ≡ Some y → r ≡ Ok y
some_is (Ok x) y e = cc
some_is (Err f) y e = absurd cc

has_tags : (tail : List ℕ) (tags : List Tag) (rest : List ℕ) → tags_of tail ≡ Some (tags, rest) → HasTags tags rest tail
has_tags [] tags rest e = absurd cc
has_tags (count ∷ b) tags rest e =
    let r : TagsRead count b tags rest = tags_read count b (tags, rest) (some_is (tags_at count b) (tags, rest) e) in
    record { bytes = r.front; are = r.are; parts = ap₂ (λ (n : ℕ) (xs : List ℕ). n ∷ xs) (sym r.count) r.parts }

tags_has : (tail : List ℕ) (tags : List Tag) (rest : List ℕ) → HasTags tags rest tail → tags_of tail ≡ Some (tags, rest)
tags_has tail tags rest h = ap tags_of h.parts ∙ ap some_of (tags_again tags h.bytes rest h.are)

pub tags_reads : TagsAreRead
tags_reads tail tags rest = (has_tags tail tags rest, tags_has tail tags rest)

some_both : (tags others : List Tag) (rest more : List ℕ) → (let x : Option Tags = Some (tags, rest) in x ≡ Some (others, more)) → (tags ≡ others) × (rest ≡ more)
some_both tags others rest more e =
    let same = same_Some (tags, rest) (others, more) e in
    (ap (λ (p : Tags). p.0) same, ap (λ (p : Tags). p.1) same)

pub one_tags : OneListOfTags
one_tags tail tags others rest more h k = some_both tags others rest more (sym (tags_has tail tags rest h) ∙ tags_has tail others more k)

-- ---- writing

are_written : (tags : List Tag) → All IsTag tags → AreTags tags (flat_map tag_bytes tags)
are_written [] all = refl
are_written (t ∷ ts) all = (
  t.name ++ 0 ∷ [],
  t.value ++ 0 ∷ [],
  flat_map tag_bytes ts,
  (all 0 t (omega arith)).0,
  (all 0 t (omega arith)).1,
  are_written ts (λ k d lt. all (suc k) d (omega (arith, lt))),
  append_assoc (t.name ++ 0 ∷ []) (t.value ++ 0 ∷ []) (flat_map tag_bytes ts),
)

pub tags_written : WrittenHasTags
tags_written tags rest all = record { bytes = flat_map tag_bytes tags; are = are_written tags all; parts = refl }

same_bytes : (tags : List Tag) (b : List ℕ) → AreTags tags b → b ≡ flat_map tag_bytes tags
same_bytes [] b are = are
same_bytes (t ∷ ts) b are = rw (append_assoc (t.name ++ 0 ∷ []) (t.value ++ 0 ∷ []) (flat_map tag_bytes ts), ← are.3.bytes, ← are.4.bytes, ← same_bytes ts are.2 are.5) are.6

pub tags_same : TagsAreWritten
tags_same tail tags rest h = h.parts ∙ ap (λ (b : List ℕ). length tags ∷ b ++ rest) (same_bytes tags h.bytes h.are)
