-- Texts that are written piece by piece, of which some bytes wait.
use Rattle.std.proofs.Common.{◌≡◌, ℕ, zero, suc, ◌+◌, ◌<◌, List, [], ◌∷◌, ◌++◌, length, take, drop, get_or, Option, Result, Ok, Err, refl, sym, ap, subst, ◌∙◌, append_assoc, append-nil, arith}
use Rattle.std.specs.Prelude.{OnOk, OnErr}
use Rattle.std.specs.Borrow.{Bor}
use Rattle.std.specs.List.{flat_map}
use Rattle.std.specs.Io.KnownBytes.{Appends}
use Rattle.std.proofs.KnownBytes.{Appends-nil}
use Rattle.iamf_io.specs.Causes.{HasCause}
use Rattle.iamf_io.specs.Whole.{AppendsFront}
use Rattle.spec_files.specs.Body.{marked}
use Rattle.mp4_file.specs.Slices.{joined}
use Rattle.iamf_io.specs.declared.traits.Failed.{Failed}
use Rattle.iamf_tool.specs.Ends.{Side, Wrote, WroteFront, Writes}
use Rattle.iamf_tool.specs.Waiting.{Passed, Passes}
use Rattle.iamf_tool.proofs.Pieces.{between, wrote_more, failed_more, failed_after}

-- nothing yet
pub none_passed : (a : Option (List ℕ)) (m : ℕ) (waited : List ℕ) → Passed waited [] waited (between a a m m)
none_passed a m waited = record { front = []; wrote = record { grown = Appends-nil a; same = refl }; all = sym (append-nil waited) }

-- all of it waits
pub all_wait : (a : Option (List ℕ)) (m : ℕ) (waited text waiting : List ℕ) → waiting ≡ waited ++ text → Passed waited text waiting (between a a m m)
all_wait a m waited text waiting is = record { front = []; wrote = record { grown = Appends-nil a; same = refl }; all = is }

-- what waited is written, and then the text
pub none_wait : (a b c : Option (List ℕ)) (m n k : ℕ) (waited text waiting : List ℕ) → Wrote (between a b m n) waited → Wrote (between b c n k) text → waiting ≡ [] → Passed waited text waiting (between a c m k)
none_wait a b c m n k waited text waiting first next is = record {
  front = waited ++ text;
  wrote = wrote_more a b c m n k waited text first next;
  all = ap (λ (w : List ℕ). (waited ++ text) ++ w) is ∙ append-nil (waited ++ text);
}

pub writes_after : (r : Result (Unit {0}) Failed) (a b c : Option (List ℕ)) (m n k : ℕ) (waited text waiting : List ℕ) → Wrote (between a b m n) waited → waiting ≡ [] → OnOk r (Appends b c text) → OnErr r (AppendsFront b c text) → HasCause n k r
    → Passes r waited text waiting (between a c m k)
writes_after (Ok u) a b c m n k waited text waiting first none all front cause = none_wait a b c m n k waited text waiting first (record { grown = all; same = cause.kept }) none
writes_after (Err e) a b c m n k waited text waiting first none all front cause = failed_after a b c m n k waited text first (record { grown = front; rose = cause.failed })

-- a text, and then another
seam : (f g w u v x y : List ℕ) → f ++ w ≡ u ++ x → g ++ v ≡ w ++ y → (f ++ g) ++ v ≡ u ++ (x ++ y)
seam f g w u v x y is more = append_assoc f g v ∙ ap (λ (t : List ℕ). f ++ t) more ∙ sym (append_assoc f w y) ∙ ap (λ (t : List ℕ). t ++ y) is ∙ append_assoc u x y

pub passed_more : (a b c : Option (List ℕ)) (m n k : ℕ) (waited text middle more waiting : List ℕ) → Passed waited text middle (between a b m n) → Passed middle more waiting (between b c n k)
    → Passed waited (text ++ more) waiting (between a c m k)
passed_more a b c m n k waited text middle more waiting first next = record {
  front = first.front ++ next.front;
  wrote = wrote_more a b c m n k first.front next.front first.wrote next.wrote;
  all = seam first.front next.front middle waited waiting text more first.all next.all;
}

pub failed_then : (a b c : Option (List ℕ)) (m n k : ℕ) (waited text middle more : List ℕ) → Passed waited text middle (between a b m n) → WroteFront (between b c n k) (middle ++ more)
    → WroteFront (between a c m k) (waited ++ (text ++ more))
failed_then a b c m n k waited text middle more first next =
    subst (λ (t : List ℕ). WroteFront (between a c m k) t) (sym (append_assoc first.front middle more) ∙ ap (λ (t : List ℕ). t ++ more) first.all ∙ append_assoc waited text more)
    (failed_after a b c m n k first.front (middle ++ more) first.wrote next)

pub failed_before : (a b : Option (List ℕ)) (m n : ℕ) (waited text more : List ℕ) → WroteFront (between a b m n) (waited ++ text) → WroteFront (between a b m n) (waited ++ (text ++ more))
failed_before a b m n waited text more first =
    subst (λ (t : List ℕ). WroteFront (between a b m n) t) (append_assoc waited text more) (failed_more a b m n (waited ++ text) more first)

-- by the answer to the second
pub passes_more : (r : Result (Unit {0}) Failed) (a b c : Option (List ℕ)) (m n k : ℕ) (waited text middle more waiting : List ℕ) → Passed waited text middle (between a b m n) → Passes r middle more waiting (between b c n k)
    → Passes r waited (text ++ more) waiting (between a c m k)
passes_more (Ok u) a b c m n k waited text middle more waiting first next = passed_more a b c m n k waited text middle more waiting first next
passes_more (Err e) a b c m n k waited text middle more waiting first next = failed_then a b c m n k waited text middle more first next

-- one of some texts, with those before it and those after it
pub failed_among : (a b c : Option (List ℕ)) (m n k : ℕ) (waited done middle piece rest all : List ℕ) → Passed waited done middle (between a b m n) → WroteFront (between b c n k) (middle ++ piece) → done ++ (piece ++ rest) ≡ all
    → WroteFront (between a c m k) (waited ++ all)
failed_among a b c m n k waited done middle piece rest all first next is =
    subst (λ (t : List ℕ). WroteFront (between a c m k) (waited ++ t)) (append_assoc done piece rest ∙ is)
    (failed_before a c m k waited (done ++ piece) rest (failed_then a b c m n k waited done middle piece first next))

-- ---- the bytes of slices

pub joined_is : (us : List (Bor (List ℕ))) → joined us ≡ flat_map (λ (u : Bor (List ℕ)). u.now) us
joined_is [] = refl
joined_is (u ∷ us) = ap (λ (t : List ℕ). u.now ++ t) (joined_is us)

pub pieces_around : (us : List (Bor (List ℕ))) (i : ℕ) (d : Bor (List ℕ)) → i < length us → joined (take i us) ++ ((get_or us i d).now ++ joined (drop (i + 1) us)) ≡ joined us
pieces_around [] i d less = absurd (omega arith)
pieces_around (u ∷ us) zero d less = refl
pieces_around (u ∷ us) (suc i) d less =
    let e : suc i + 1 ≡ suc (i + 1) = omega arith in
    rw e (append_assoc u.now (joined (take i us)) ((get_or us i d).now ++ joined (drop (i + 1) us)) ∙ ap (λ (t : List ℕ). u.now ++ t) (pieces_around us i d (omega arith)))

one_more : (us : List (Bor (List ℕ))) (i : ℕ) (d : Bor (List ℕ)) → i < length us → joined (take i us) ++ (get_or us i d).now ≡ joined (take (i + 1) us)
one_more [] i d less = absurd (omega arith)
one_more (u ∷ us) zero d less = sym (append-nil u.now)
one_more (u ∷ us) (suc i) d less =
    let e : suc i + 1 ≡ suc (i + 1) = omega arith in
    rw e (append_assoc u.now (joined (take i us)) (get_or us i d).now ∙ ap (λ (t : List ℕ). u.now ++ t) (one_more us i d (omega arith)))

pub piece_more : (s : Side) (us : List (Bor (List ℕ))) (i : ℕ) (d : Bor (List ℕ)) (waited waiting : List ℕ) → i < length us → Passed waited (joined (take i us) ++ (get_or us i d).now) waiting s → Passed waited (joined (take (i + 1) us)) waiting s
piece_more s us i d waited waiting less first = subst (λ (t : List ℕ). Passed waited t waiting s) (one_more us i d less) first

-- ---- samples, each after a delimiter

-- some of the samples were passed, and these are left
pub record HasPassedSamples (samples left : List (List ℕ)) (waited waiting : List ℕ) (s : Side) : Type 0 where
  pub text : List ℕ
  pub passed : Passed waited text waiting s
  pub all : text ++ flat_map marked left ≡ flat_map marked samples

pub no_samples_passed : (a : Option (List ℕ)) (m : ℕ) (samples : List (List ℕ)) (waited : List ℕ) → HasPassedSamples samples samples waited waited (between a a m m)
no_samples_passed a m samples waited = record { text = []; passed = none_passed a m waited; all = refl }

pub sample_passed : (a b c : Option (List ℕ)) (m n k : ℕ) (samples left rest : List (List ℕ)) (sample waited middle waiting : List ℕ) → left ≡ sample ∷ rest → HasPassedSamples samples left waited middle (between a b m n)
    → Passed middle (marked sample) waiting (between b c n k) → HasPassedSamples samples rest waited waiting (between a c m k)
sample_passed a b c m n k samples left rest sample waited middle waiting is h next = record {
  text = h.text ++ marked sample;
  passed = passed_more a b c m n k waited h.text middle (marked sample) waiting h.passed next;
  all = append_assoc h.text (marked sample) (flat_map marked rest) ∙ sym (ap (λ (ls : List (List ℕ)). h.text ++ flat_map marked ls) is) ∙ h.all;
}

pub sample_failed : (a b c : Option (List ℕ)) (m n k : ℕ) (samples left rest : List (List ℕ)) (sample waited middle : List ℕ) → left ≡ sample ∷ rest → HasPassedSamples samples left waited middle (between a b m n)
    → WroteFront (between b c n k) (middle ++ marked sample) → WroteFront (between a c m k) (waited ++ flat_map marked samples)
sample_failed a b c m n k samples left rest sample waited middle is h failed =
    failed_among a b c m n k waited h.text middle (marked sample) (flat_map marked rest) (flat_map marked samples) h.passed failed
    (sym (ap (λ (ls : List (List ℕ)). h.text ++ flat_map marked ls) is) ∙ h.all)

pub samples_passed : (s : Side) (samples left : List (List ℕ)) (waited waiting : List ℕ) → left ≡ [] → HasPassedSamples samples left waited waiting s → Passed waited (flat_map marked samples) waiting s
samples_passed s samples left waited waiting none h =
    subst (λ (t : List ℕ). Passed waited t waiting s) (sym (append-nil h.text) ∙ sym (ap (λ (ls : List (List ℕ)). h.text ++ flat_map marked ls) none) ∙ h.all) h.passed

-- ---- two texts, before which nothing waits, and after which what waits is written

pub first_failed : (a b : Option (List ℕ)) (m n : ℕ) (waited piece text more : List ℕ) → waited ≡ [] → piece ≡ text → WroteFront (between a b m n) (waited ++ piece) → WroteFront (between a b m n) (text ++ more)
first_failed a b m n waited piece text more none is first = rw (none, is) at (failed_before a b m n waited piece more first)

pub second_failed : (a b c : Option (List ℕ)) (m n k : ℕ) (waited piece text middle next more : List ℕ) → waited ≡ [] → piece ≡ text → next ≡ more → Passed waited piece middle (between a b m n) → WroteFront (between b c n k) (middle ++ next)
    → WroteFront (between a c m k) (text ++ more)
second_failed a b c m n k waited piece text middle next more none is are first failed = rw (none, is, are) at (failed_then a b c m n k waited piece middle next first failed)

ends : (r : Result (Unit {0}) Failed) (a b c : Option (List ℕ)) (m n k : ℕ) (text waiting : List ℕ) → Passed [] text waiting (between a b m n) → Writes r waiting (between b c n k) → Writes r text (between a c m k)
ends (Ok u) a b c m n k text waiting first last = subst (λ (t : List ℕ). Wrote (between a c m k) t) first.all (wrote_more a b c m n k first.front waiting first.wrote last)
ends (Err e) a b c m n k text waiting first last = subst (λ (t : List ℕ). WroteFront (between a c m k) t) first.all (failed_after a b c m n k first.front waiting first.wrote last)

pub both_written : (r : Result (Unit {0}) Failed) (a b c d : Option (List ℕ)) (m n k j : ℕ) (waited piece text middle next more waiting : List ℕ) → waited ≡ [] → piece ≡ text → next ≡ more → Passed waited piece middle (between a b m n)
    → Passed middle next waiting (between b c n k) → Writes r waiting (between c d k j) → Writes r (text ++ more) (between a d m j)
both_written r a b c d m n k j waited piece text middle next more waiting none is are first second last =
    let both : Passed [] (text ++ more) waiting (between a c m k) = rw (none, is, are) at (passed_more a b c m n k waited piece middle next waiting first second) in
    ends r a c d m k j (text ++ more) waiting both last

-- ---- one text, before which nothing waits

pub alone_failed : (a b : Option (List ℕ)) (m n : ℕ) (waited text : List ℕ) → waited ≡ [] → WroteFront (between a b m n) (waited ++ text) → WroteFront (between a b m n) text
alone_failed a b m n waited text none first = rw none at first

pub alone_written : (r : Result (Unit {0}) Failed) (a b c : Option (List ℕ)) (m n k : ℕ) (waited text waiting : List ℕ) → waited ≡ [] → Passed waited text waiting (between a b m n) → Writes r waiting (between b c n k)
    → Writes r text (between a c m k)
alone_written r a b c m n k waited text waiting none first last =
    let all : Passed [] text waiting (between a b m n) = rw none at first in
    ends r a b c m n k text waiting all last
