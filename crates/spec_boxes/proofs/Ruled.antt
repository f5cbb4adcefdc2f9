-- Reading a file gives what its rules say.
use Rattle.std.proofs.Common.{◌≡◌, ℕ, ◌-◌, Bool, true, false, nat_lt, List, [], ◌∷◌, ◌++◌, length, get_or, Option, Some, None, Result, Ok, Err, refl, ap, ◌∙◌, arith, append_assoc}
use Rattle.std.specs.Prelude.{nat_le, if◌then◌else◌, find, filter, is_some, is_none}
use Rattle.std.proofs.lemmas.Bool.{lt-ltb, le-ltb, le-leb, lt-leb, leb-true, leb-false}
use Rattle.spec_boxes.specs.declared.kinds.TheConstants.{MOOV, MOOF, MVEX, TRAK, MDIA, MINF, STBL, STSD, IAMF}
use Rattle.spec_boxes.specs.declared.fault.BoxFault.{BoxFault}
use Rattle.spec_boxes.specs.declared.fault.BoxFault.TheVariants.{Missing, Fragmented}
use Rattle.spec_boxes.specs.declared.fault.BoxRefusal.{BoxRefusal}
use Rattle.spec_bits.specs.ByteReading.{◌>>=◌}
use Rattle.spec_boxes.specs.Boxes.{Box, ◌>>◌, refuse, tiles, boxes_in}
use Rattle.spec_boxes.specs.Parts.{kind_is, either_is, exactly_one, fragment, none_of, children}
use Rattle.spec_boxes.specs.Paths.{Way, go_on, by_entry, walk_at, or_else, audio_in, must, only_if, found_at}
use Rattle.spec_boxes.specs.Rules.{Test, test, first_of, answer, fault_in, nothing, or_nothing, within, tiling, once_of, once, absent, only, on_box, on_way, or_no_way, top, moov, top_rules, walk_tests, path, walks, audio, in_moov, way_rules, config_of, way}

-- what the tests of a part say, and then those of the rest
after : {A B : Type 0} (g : A → Result B BoxRefusal) (xs ys : List Test) (v : A) (w : B) → g v ≡ answer (first_of ys) w → (answer (first_of xs) v >>= g) ≡ answer (first_of (xs ++ ys)) w
after g [] ys v w h = h
after g (None ∷ xs) ys v w h = after g xs ys v w h
after g (Some e ∷ xs) ys v w h = refl

pub then_tests : {A B : Type 0} (r : Result A BoxRefusal) (g : A → Result B BoxRefusal) (xs ys : List Test) (v : A) (w : B) → r ≡ answer (first_of xs) v → g v ≡ answer (first_of ys) w → (r >>= g) ≡ answer (first_of (xs ++ ys)) w
then_tests {A} r g xs ys v w is h = ap (λ (s : Result A BoxRefusal). s >>= g) is ∙ after g xs ys v w h

next : {B : Type 0} (s : Result B BoxRefusal) (xs ys : List Test) (w : B) → s ≡ answer (first_of ys) w → (answer (first_of xs) tt >> s) ≡ answer (first_of (xs ++ ys)) w
next s [] ys w h = h
next s (None ∷ xs) ys w h = next s xs ys w h
next s (Some e ∷ xs) ys w h = refl

pub and_tests : {B : Type 0} (r : Result (Unit {0}) BoxRefusal) (s : Result B BoxRefusal) (xs ys : List Test) (w : B) → r ≡ answer (first_of xs) tt → s ≡ answer (first_of ys) w → (r >> s) ≡ answer (first_of (xs ++ ys)) w
and_tests r s xs ys w is h = ap (λ (q : Result (Unit {0}) BoxRefusal). q >> s) is ∙ next s xs ys w h

-- one test
pub holds : {A : Type 0} (b : Bool) (at : ℕ) (fault : BoxFault) (x : A) → (if b then Ok x else refuse at fault) ≡ answer (first_of (test b at fault ∷ [])) x
holds true at fault x = refl
holds false at fault x = refl

lacks_by : {A : Type 0} (t : Bool) (a b at : ℕ) (fault : BoxFault) (x : A) → nat_le b a ≡ t → (if nat_lt a b then refuse at fault else Ok x) ≡ answer (first_of (test (nat_le b a) at fault ∷ [])) x
lacks_by true a b at fault x h = let l : nat_lt a b ≡ false = le-ltb a b (leb-true b a h) in rw (h, l) refl
lacks_by false a b at fault x h = let l : nat_lt a b ≡ true = lt-ltb a b (leb-false b a h) in rw (h, l) refl

pub lacks : {A : Type 0} (a b at : ℕ) (fault : BoxFault) (x : A) → (if nat_lt a b then refuse at fault else Ok x) ≡ answer (first_of (test (nat_le b a) at fault ∷ [])) x
lacks a b at fault x = lacks_by (nat_le b a) a b at fault x refl

lacks_then_by : {A : Type 0} (t : Bool) (a b at : ℕ) (fault : BoxFault) (r : Result A BoxRefusal) (ts : List Test) (x : A) → nat_le b a ≡ t → r ≡ answer (first_of ts) x → (if nat_lt a b then refuse at fault else r) ≡ answer (first_of (test (nat_le b a) at fault ∷ ts)) x
lacks_then_by true a b at fault r ts x h is = let l : nat_lt a b ≡ false = le-ltb a b (leb-true b a h) in rw (h, l) is
lacks_then_by false a b at fault r ts x h is = let l : nat_lt a b ≡ true = lt-ltb a b (leb-false b a h) in rw (h, l) refl

pub lacks_then : {A : Type 0} (a b at : ℕ) (fault : BoxFault) (r : Result A BoxRefusal) (ts : List Test) (x : A) → r ≡ answer (first_of ts) x → (if nat_lt a b then refuse at fault else r) ≡ answer (first_of (test (nat_le b a) at fault ∷ ts)) x
lacks_then a b at fault r ts x is = lacks_then_by (nat_le b a) a b at fault r ts x refl is

pub covered : (r : Result (List Box) BoxRefusal) → r ≡ answer (first_of (fault_in r ∷ [])) (boxes_in r)
covered (Ok bs) = refl
covered (Err e) = refl

pub configured : (r : Result (List ℕ) BoxRefusal) → r ≡ answer (first_of (fault_in r ∷ [])) (config_of r)
configured (Ok bs) = refl
configured (Err e) = refl

-- one box of two kinds
pub one_of : (place : ℕ) (kind : List ℕ) (them : List Box) → exactly_one place kind them ≡ answer (first_of (once_of place kind them)) (get_or them 0 nothing)
one_of place kind [] = refl
one_of place kind (b ∷ []) = refl
one_of place kind (b ∷ c ∷ more) =
    let some : nat_le 1 (length (b ∷ c ∷ more)) ≡ true = le-leb _ _ (omega arith) in
    let many : nat_le (length (b ∷ c ∷ more)) 1 ≡ false = lt-leb _ _ (omega arith) in
    rw (some, many) refl

none_by : (o : Option Box) → fragment o ≡ answer (first_of (test (is_none o) (or_nothing o).at Fragmented ∷ [])) tt
none_by None = refl
none_by (Some b) = refl

-- Rules 1 and 2.
pub on_first : (o : Option Box) (next : Box → Result (Option Way) BoxRefusal) (ts : Box → List Test) (v : Box → Option Way) → ((b : Box) → next b ≡ answer (first_of (ts b)) (v b)) → go_on o next ≡ answer (first_of (on_box [] o ts)) (on_box None o v)
on_first None next ts v h = refl
on_first (Some b) next ts v h = h b

short_entry : (t : Bool) (f : List ℕ) (stsd : Box) (by : List Box → Option Way) → (if t then Ok None else (children f stsd 8 >>= λ entries. Ok (by entries))) ≡ answer (first_of (if t then [] else tiling f stsd 8 ∷ [])) (if t then None else by (within f stsd 8))
short_entry true f stsd by = refl
short_entry false f stsd by = then_tests (children f stsd 8) (λ entries. Ok (by entries)) (tiling f stsd 8 ∷ []) [] (within f stsd 8) (by (within f stsd 8)) (covered (children f stsd 8)) refl

walk_is : (f : List ℕ) (trak : Box) → walk_at f trak ≡ answer (first_of (walk_tests f trak)) (path f trak)
unfolding walk_at
walk_is f trak =
    then_tests (children f trak 0) _ (tiling f trak 0 ∷ []) _ (within f trak 0) (path f trak) (covered (children f trak 0)) (on_first (find (kind_is MDIA) (within f trak 0)) _ _ _ (λ mdia.
    then_tests (children f mdia 0) _ (tiling f mdia 0 ∷ []) _ (within f mdia 0) _ (covered (children f mdia 0)) (on_first (find (kind_is MINF) (within f mdia 0)) _ _ _ (λ minf.
    then_tests (children f minf 0) _ (tiling f minf 0 ∷ []) _ (within f minf 0) _ (covered (children f minf 0)) (on_first (find (kind_is STBL) (within f minf 0)) _ _ _ (λ stbl.
    then_tests (children f stbl 0) _ (tiling f stbl 0 ∷ []) _ (within f stbl 0) _ (covered (children f stbl 0)) (on_first (find (kind_is STSD) (within f stbl 0)) _ _ _ (λ stsd.
    short_entry (nat_lt (stsd.end - stsd.start) 8) f stsd (by_entry trak (within f trak 0) stbl (within f stbl 0))))))))))

or_is : (o : Option Way) (r : Result (Option Way) BoxRefusal) (ts : List Test) (v : Option Way) → r ≡ answer (first_of ts) v → or_else o r ≡ answer (first_of (on_way ts o (λ w. []))) (on_way v o (λ w. Some w))
or_is None r ts v h = h
or_is (Some w) r ts v h = refl

if_trak : (t : Bool) (r s : Result (Option Way) BoxRefusal) (xs ys : List Test) (v w : Option Way) → r ≡ answer (first_of xs) v → s ≡ answer (first_of ys) w → (if t then r else s) ≡ answer (first_of (if t then xs else ys)) (if t then v else w)
if_trak true r s xs ys v w h k = h
if_trak false r s xs ys v w h k = k

audio_is : (f : List ℕ) (bs : List Box) → audio_in f bs ≡ answer (first_of (walks f bs)) (audio f bs)
audio_is f [] = refl
audio_is f (b ∷ bs) =
    if_trak (kind_is TRAK b) (walk_at f b >>= λ w. or_else w (audio_in f bs)) (audio_in f bs) (walk_tests f b ++ on_way (walks f bs) (path f b) (λ w. [])) (walks f bs) (on_way (audio f bs) (path f b) (λ w. Some w)) (audio f bs)
    (then_tests (walk_at f b) (λ w. or_else w (audio_in f bs)) (walk_tests f b) (on_way (walks f bs) (path f b) (λ w. [])) (path f b) (on_way (audio f bs) (path f b) (λ w. Some w)) (walk_is f b) (or_is (path f b) (audio_in f bs) (walks f bs) (audio f bs) (audio_is f bs)))
    (audio_is f bs)

only_is : (whole : Bool) (r : Result (Unit {0}) BoxRefusal) (t : Test) → r ≡ answer (first_of (t ∷ [])) tt → only_if whole r ≡ answer (first_of (only whole t ∷ [])) tt
only_is true r t h = h
only_is false r t h = refl

must_is : (b : Box) (o : Option Way) → must b o ≡ answer (first_of (test (is_some o) b.at (Missing IAMF) ∷ [])) (or_no_way o)
must_is b None = refl
must_is b (Some w) = refl

pub found_is : (whole : Bool) (f : List ℕ) → found_at whole f ≡ answer (first_of (top_rules whole f ++ way_rules whole f)) (way f)
unfolding found_at
found_is whole f =
    rw (append_assoc (once 0 MOOV MOOV (top f)) (only whole (absent MOOF (top f)) ∷ []) (way_rules whole f))
    (then_tests (tiles true f 0 (length f)) _ (fault_in (tiles true f 0 (length f)) ∷ []) _ (top f) (way f) (covered (tiles true f 0 (length f)))
    (then_tests (exactly_one 0 MOOV (filter (either_is MOOV MOOV) (top f))) _ (once 0 MOOV MOOV (top f)) _ (moov f) (way f) (one_of 0 MOOV (filter (either_is MOOV MOOV) (top f)))
    (and_tests (only_if whole (none_of MOOF (top f))) _ (only whole (absent MOOF (top f)) ∷ []) _ (way f) (only_is whole (none_of MOOF (top f)) (absent MOOF (top f)) (none_by (find (kind_is MOOF) (top f))))
    (then_tests (children f (moov f) 0) _ (tiling f (moov f) 0 ∷ []) _ (in_moov f) (way f) (covered (children f (moov f) 0))
    (and_tests (only_if whole (none_of MVEX (in_moov f))) _ (only whole (absent MVEX (in_moov f)) ∷ []) _ (way f) (only_is whole (none_of MVEX (in_moov f)) (absent MVEX (in_moov f)) (none_by (find (kind_is MVEX) (in_moov f))))
    (then_tests (audio_in f (in_moov f)) _ (walks f (in_moov f)) _ (audio f (in_moov f)) (way f) (audio_is f (in_moov f)) (must_is (moov f) (audio f (in_moov f)))))))))
