-- What each plain test finds is the fault, and what they find in their order is the first.
use Rattle.std.proofs.Common.{◌≡◌, ℕ, suc, ◌+◌, ◌-◌, ◌^◌, ◌<◌, ◌≤◌, ◌↔◌, inl, inr, Bool, true, false, nat_lt, nat_le, List, [], ◌∷◌, ◌++◌, length, take, drop, slice_index, Option, Some, None, Ok, refl, sym, ap, subst, ◌∙◌, arith, append_assoc}
use Rattle.std.specs.Prelude.{IsTrue}
use Rattle.std.proofs.lemmas.List.{length-drop, take-append-drop, drop-drop}
use Rattle.std.proofs.lemmas.Bool.{lt-ltb, le-leb, ltb-true, leb-true, false≢true}
use Rattle.spec_bits.specs.declared.FieldFault.{FieldFault}
use Rattle.spec_bits.specs.Bits.{AreBytes}
use Rattle.spec_bits.specs.Leb.{IsLeb, AllGoOn, leb_value}
use Rattle.spec_bits.specs.ByteReading.{leb_at}
use Rattle.spec_bits.proofs.Outcomes.{ok_is}
use Rattle.spec_bits.proofs.LebLaws.{leb_again, leb_fails_only}
use Rattle.spec_obu.specs.declared.HeaderFault.{HeaderFault}
use Rattle.spec_obu.specs.declared.HeaderFault.TheVariants.{Leb, ObuSize, Flags, HeaderSize, Cut}
use Rattle.spec_obu.specs.declared.trim.Trim.{Trim}
use Rattle.spec_obu.specs.Header.{is_trimmed, is_extended}
use Rattle.spec_obu.specs.Faults.{SizeIs, NumberFails, AfterNumber, TrimsFail, ExtensionFails, AfterTrims, FieldsFail, SizeFails, IsTooLong, FlagsFail, IsCut, BodyFails, IsFirstFault}
use Rattle.spec_obu.specs.Reading.{trim_at}
use Rattle.spec_obu.specs.Laws.{HasHeader}
use Rattle.spec_obu.proofs.FieldLaws.{trim_fails_only, trims_at}
use Rattle.spec_obu.proofs.FaultLaws.{first_of, one_first}
use Rattle.spec_obu.proofs.OneHeader.{either, not_both}
use Rattle.spec_obu.proofs.PlainLaws.{no_size, ends_not, ends_same, same_size}

-- ---- the size

large : (b : List ℕ) (n v : ℕ) → SizeIs b n v → SizeFails b → 2 ^ 32 ≤ v
large b n v s (inl g) = absurd (no_size b g.1 n v s)
large b n v s (inr g) = let e : leb_value (take g.0 b) ≡ v = ap leb_value (ends_same b g.0 n g.2 s.ends) ∙ s.value in rw e at g.3

pub size_fails_some : (b : List ℕ) (n v : ℕ) → SizeIs b n v → IsTrue (nat_le (2 ^ 32) v) ↔ SizeFails b
size_fails_some b n v s = (λ t. inr (n, s.few, s.ends, rw s.value (leb-true (2 ^ 32) v t)), λ h. le-leb (2 ^ 32) v (large b n v s h))

pub size_fails_none : (b : List ℕ) → AllGoOn (take 8 b) → IsTrue (nat_le 8 (length b)) ↔ SizeFails b
size_fails_none b all = (λ t. inl (leb-true 8 (length b) t, all), λ h. elim h [ inl g ↦ le-leb 8 (length b) g.0 | inr g ↦ absurd (ends_not b 8 g.0 all g.1 g.2) ])

pub too_long_some : (b : List ℕ) (n v : ℕ) → SizeIs b n v → IsTrue (nat_lt (2 ^ 21) (1 + n + v)) ↔ IsTooLong b
too_long_some b n v s = (
  λ t. (n, v, s, ltb-true (2 ^ 21) (1 + n + v) t),
  λ h. let same = same_size b n v h.0 h.1 s h.2 in lt-ltb (2 ^ 21) (1 + n + v) (omega (arith, same.0, same.1, h.3)),
)

pub too_long_none : (b : List ℕ) → AllGoOn (take 8 b) → IsTrue false ↔ IsTooLong b
too_long_none b all = (λ t. absurd (false≢true t), λ h. absurd (no_size b all h.0 h.1 h.2))

cut_of : (b : List ℕ) (n v : ℕ) → SizeIs b n v → IsCut b → length b < n + v
cut_of b n v s (inl none) = absurd (none n v s)
cut_of b n v s (inr h) = let same = same_size b n v h.0 h.1 s h.2 in omega (arith, same.0, same.1, h.3)

pub cut_some : (b : List ℕ) (n v : ℕ) → SizeIs b n v → IsTrue (nat_lt (length b) (n + v)) ↔ IsCut b
cut_some b n v s = (λ t. inr (n, v, s, ltb-true (length b) (n + v) t), λ h. lt-ltb (length b) (n + v) (cut_of b n v s h))

pub cut_none : (b : List ℕ) → AllGoOn (take 8 b) → IsTrue true ↔ IsCut b
cut_none b all = (λ t. inl (no_size b all), λ h. refl)

pub body_some : (x : ℕ) (b : List ℕ) (n v : ℕ) (r : Bool) → SizeIs b n v → (IsTrue r ↔ FieldsFail x (take v (drop n b))) → IsTrue r ↔ BodyFails x b
body_some x b n v r s e = (
  λ t. (n, v, s, e.0 t),
  λ h.
      let same = same_size b h.0 h.1 n v h.2 s in
      e.1 (subst (λ (p : ℕ × ℕ). FieldsFail x (take p.1 (drop p.0 b))) (pair h.0 n h.1 v same.0 same.1) h.3),
)
  where
    pair : (n m v w : ℕ) → n ≡ m → v ≡ w → ◌≡◌ {A = ℕ × ℕ} (n, v) (m, w)
    pair n m v w p q = cc

pub body_none : (x : ℕ) (b : List ℕ) → AllGoOn (take 8 b) → IsTrue false ↔ BodyFails x b
body_none x b all = (λ t. absurd (false≢true t), λ h. absurd (no_size b all h.0 h.1 h.2))

-- ---- the trims and the extension

spelled : (b : List ℕ) (n v : ℕ) → IsLeb v (take n b) → leb_at b ≡ Ok (v, drop n b)
spelled b n v is = rw take-append-drop at (leb_again (take n b) (drop n b) v is)

not_failed : (b : List ℕ) (n v : ℕ) → IsLeb v (take n b) → NumberFails b → ⊥
not_failed b n v is f = let e = sym (spelled b n v is) ∙ leb_fails_only b f.0 f.1 in cc

after_spelled : (P : ℕ → List ℕ → Type 0) (b : List ℕ) (n v : ℕ) → IsLeb v (take n b) → AfterNumber P b → P v (drop n b)
after_spelled P b n v is a =
    let read : leb_at b ≡ Ok (a.value, a.rest) = rw a.parts (leb_again a.front a.rest a.value a.is) in
    subst (λ (p : ℕ × List ℕ). P p.0 p.1) (ok_is {F = FieldFault} (a.value, a.rest) (v, drop n b) (sym read ∙ spelled b n v is)) a.has

lacks : (b : List ℕ) (n v : ℕ) → IsLeb v (take n b) → ExtensionFails b → length (drop n b) < v
lacks b n v is (inl f) = absurd (not_failed b n v is f)
lacks b n v is (inr a) = after_spelled (λ size rest. length rest < size) b n v is a

pub extension_some : (b : List ℕ) (n v : ℕ) → IsLeb v (take n b) → IsTrue (nat_lt (length b - n) v) ↔ ExtensionFails b
extension_some b n v is = (
  λ t. inr (record { value = v; front = take n b; rest = drop n b; is = is; parts = sym (take-append-drop n b); has = omega (arith, length-drop n b, ltb-true (length b - n) v t) }),
  λ h. lt-ltb (length b - n) v (omega (arith, length-drop n b, lacks b n v is h)),
)

pub trims_some : (trimmed : Bool) (b : List ℕ) (m k e s : ℕ) → trimmed ≡ true → IsLeb e (take m b) → IsLeb s (take k (drop m b)) → AfterTrims trimmed (λ rest. rest ≡ drop (m + k) b) b
trims_some trimmed b m k e s there a c = record {
  trim = Some (record { end = e; start = s });
  front = take m b ++ take k (drop m b);
  rest = drop (m + k) b;
  there = sym there;
  is = (take m b, take k (drop m b), a, c, refl);
  parts = sym (append_assoc (take m b) (take k (drop m b)) (drop (m + k) b) ∙ ap (λ (t : List ℕ). take m b ++ (take k (drop m b) ++ t)) (sym (drop-drop k m b))
      ∙ ap (λ (t : List ℕ). take m b ++ t) (take-append-drop k (drop m b)) ∙ take-append-drop m b);
  has = refl;
}

trims_excluded : (b rest : List ℕ) (trimmed : Bool) → trimmed ≡ true → AfterTrims trimmed (λ r. r ≡ rest) b → TrimsFail b → ⊥
trims_excluded b rest trimmed there a f =
    let failed = trim_fails_only b f in
    let read = trims_at trimmed (λ r. r ≡ rest) b a in
    let same : trim_at true b ≡ trim_at trimmed b = ap (λ (t : Bool). trim_at t b) (sym there) in
    let no = sym failed.1 ∙ same ∙ read in
    cc

one_rest : (b rest : List ℕ) (trimmed : Bool) (a : AfterTrims trimmed (λ r. r ≡ rest) b) (c : AfterTrims trimmed ExtensionFails b) → c.rest ≡ rest
one_rest b rest trimmed a c =
    let same = ok_is {F = FieldFault} (c.trim, c.rest) (a.trim, a.rest) (sym (trims_at trimmed ExtensionFails b c) ∙ trims_at trimmed (λ r. r ≡ rest) b a) in
    ap (λ (p : Option Trim × List ℕ). p.1) same ∙ a.has

after_trims : (x : ℕ) (b rest : List ℕ) → AfterTrims (is_trimmed x) (λ r. r ≡ rest) b → FieldsFail x b → (is_extended x ≡ true) × ExtensionFails rest
after_trims x b rest a (inl s) = absurd (trims_excluded b rest (is_trimmed x) s.0 a s.1)
after_trims x b rest a (inr s) =
    let c : AfterTrims (is_trimmed x) ExtensionFails b = s.1 in
    (s.0, subst ExtensionFails (one_rest b rest (is_trimmed x) a c) c.has)

extended_fails : (x : ℕ) (b rest : List ℕ) → is_extended x ≡ true → AfterTrims (is_trimmed x) (λ r. r ≡ rest) b → ExtensionFails rest → FieldsFail x b
extended_fails x b rest there a f = inr (there, record { trim = a.trim; front = a.front; rest = a.rest; there = a.there; is = a.is; parts = a.parts; has = subst ExtensionFails (sym a.has) f })

pub fields_extended : (x : ℕ) (b rest : List ℕ) (r : Bool) → is_extended x ≡ true → AfterTrims (is_trimmed x) (λ r. r ≡ rest) b → (IsTrue r ↔ ExtensionFails rest) → IsTrue r ↔ FieldsFail x b
fields_extended x b rest r there a e = (λ t. extended_fails x b rest there a (e.0 t), λ h. e.1 (after_trims x b rest a h).1)

pub fields_plain : (x : ℕ) (b rest : List ℕ) → is_extended x ≡ false → AfterTrims (is_trimmed x) (λ r. r ≡ rest) b → IsTrue (is_extended x) ↔ FieldsFail x b
fields_plain x b rest there a = (λ t. absurd (false≢true (sym there ∙ t)), λ h. (after_trims x b rest a h).0)

-- ---- the first

-- a test that found nothing
never : {P : Type 0} → (IsTrue false ↔ P) → P → ⊥
never e p = false≢true (e.1 p)

pub first_is_leb : (b : List ℕ) → (IsTrue true ↔ SizeFails (drop 1 b)) → IsFirstFault Leb b
first_is_leb b leb = record { here = leb.0 refl; first = first_of (slice_index b 0) (drop 1 b) 0 (omega arith) (λ lt h. absurd (omega arith)) (λ lt h. absurd (omega arith)) (λ lt h. absurd (omega arith)) (λ lt h. absurd (omega arith)) }

pub first_is_size : (b : List ℕ) → (IsTrue false ↔ SizeFails (drop 1 b)) → (IsTrue true ↔ IsTooLong (drop 1 b)) → IsFirstFault ObuSize b
first_is_size b leb size = record { here = size.0 refl; first = first_of (slice_index b 0) (drop 1 b) 1 (omega arith) (λ lt h. never leb h) (λ lt h. absurd (omega arith)) (λ lt h. absurd (omega arith)) (λ lt h. absurd (omega arith)) }

pub first_is_flags : (b : List ℕ) → (IsTrue false ↔ SizeFails (drop 1 b)) → (IsTrue false ↔ IsTooLong (drop 1 b)) → (IsTrue true ↔ FlagsFail (slice_index b 0)) → IsFirstFault Flags b
first_is_flags b leb size flags = record { here = flags.0 refl; first = first_of (slice_index b 0) (drop 1 b) 2 (omega arith) (λ lt h. never leb h) (λ lt h. never size h) (λ lt h. absurd (omega arith)) (λ lt h. absurd (omega arith)) }

pub first_is_cut : (b : List ℕ) → (IsTrue false ↔ SizeFails (drop 1 b)) → (IsTrue false ↔ IsTooLong (drop 1 b)) → (IsTrue false ↔ FlagsFail (slice_index b 0)) → (IsTrue true ↔ IsCut (drop 1 b)) → IsFirstFault Cut b
first_is_cut b leb size flags cut = record { here = cut.0 refl; first = first_of (slice_index b 0) (drop 1 b) 3 (omega arith) (λ lt h. never leb h) (λ lt h. never size h) (λ lt h. never flags h) (λ lt h. absurd (omega arith)) }

pub first_is_fields : (b : List ℕ) → (IsTrue false ↔ SizeFails (drop 1 b)) → (IsTrue false ↔ IsTooLong (drop 1 b)) → (IsTrue false ↔ FlagsFail (slice_index b 0)) → (IsTrue false ↔ IsCut (drop 1 b))
    → (IsTrue true ↔ BodyFails (slice_index b 0) (drop 1 b)) → IsFirstFault HeaderSize b
first_is_fields b leb size flags cut body = record { here = body.0 refl; first = first_of (slice_index b 0) (drop 1 b) 4 (omega arith) (λ lt h. never leb h) (λ lt h. never size h) (λ lt h. never flags h) (λ lt h. never cut h) }

pub none_is : (b : List ℕ) → (IsTrue false ↔ SizeFails (drop 1 b)) → (IsTrue false ↔ IsTooLong (drop 1 b)) → (IsTrue false ↔ FlagsFail (slice_index b 0)) → (IsTrue false ↔ IsCut (drop 1 b))
    → (IsTrue false ↔ BodyFails (slice_index b 0) (drop 1 b)) → (f : HeaderFault) → IsFirstFault f b → ⊥
none_is b leb size flags cut body Leb p = never leb p.here
none_is b leb size flags cut body ObuSize p = never size p.here
none_is b leb size flags cut body Flags p = never flags p.here
none_is b leb size flags cut body Cut p = never cut p.here
none_is b leb size flags cut body HeaderSize p = never body p.here

-- ---- the answer

abbrev some : HeaderFault → Option HeaderFault
some f = Some f

some_is : (f g : HeaderFault) → some f ≡ some g → f ≡ g
some_is f g e = cc

pub refused_by : (b : List ℕ) (f g : HeaderFault) → IsFirstFault f b → (some f ≡ some g) ↔ IsFirstFault g b
refused_by b f g p = (λ e. subst (λ (k : HeaderFault). IsFirstFault k b) (some_is f g e) p, λ q. ap some (one_first b f g p q))

pub refused_header : (b : List ℕ) (f : HeaderFault) → 0 < length b → IsFirstFault f b → (true ≡ false) ↔ HasHeader b
refused_header b f begun p = (λ e. absurd (false≢true (sym e)), λ h. absurd (not_both b f begun h p))

pub passed_by : (b : List ℕ) → ((f : HeaderFault) → IsFirstFault f b → ⊥) → (g : HeaderFault) → (None ≡ some g) ↔ IsFirstFault g b
passed_by b none g = (λ e. absurd cc, λ q. absurd (none g q))

pub passed_header : (b : List ℕ) → AreBytes b → 0 < length b → ((f : HeaderFault) → IsFirstFault f b → ⊥) → HasHeader b
passed_header b are begun none = elim (either b are begun) [ inl h ↦ h | inr f ↦ absurd (none f.0 f.1) ]

pub are_bytes : (b : List ℕ) → ((i : ℕ) → slice_index b i < 256) → AreBytes b
are_bytes [] small = tt
are_bytes (x ∷ b) small = (small 0, are_bytes b (λ i. small (suc i)))
