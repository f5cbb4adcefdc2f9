-- How many bytes the bare sequence of a file has at most.
use Rattle.std.proofs.Common.{◌≡◌, ℕ, ◌+◌, ◌-◌, ◌*◌, ◌≤◌, ◌<◌, ◌^◌, Bool, true, false, cond, List, [], ◌∷◌, ◌++◌, length, take, drop, map, Some, None, Ok, Err, Result, refl, sym, ap, ◌∙◌, length-append, arith}
use Rattle.std.specs.Prelude.{nat_lt, nat_le, not, ◌==◌, slice_index}
use Rattle.std.specs.List.{flat_map}
use Rattle.std.proofs.lemmas.List.{length-take}
use Rattle.std.proofs.lemmas.Bool.{ltb-true, leb-true}
use Rattle.spec_bits.specs.declared.FieldFault.{FieldFault}
use Rattle.spec_bits.specs.declared.FieldFault.TheVariants.{Leb, Short}
use Rattle.spec_bits.specs.ByteReading.{leb_at, groups_at, bytes_at, ◌>>=◌}
use Rattle.spec_boxes.specs.declared.fault.BoxFault.{BoxFault}
use Rattle.spec_boxes.specs.declared.fault.BoxFault.TheVariants.{Config, Chunk}
use Rattle.spec_boxes.specs.Boxes.{Box, refuse}
use Rattle.spec_boxes.specs.Tables.{payload}
use Rattle.spec_boxes.specs.ObuLists.{are_obus, in_config}
use Rattle.spec_boxes.specs.Configuration.{sized_config, config_size, config_in}
use Rattle.spec_boxes.specs.Spans.{Span, in_file}
use Rattle.spec_boxes.specs.Tracks.{sample_bytes, spans_of}
use Rattle.spec_boxes.specs.Paths.{Way}
use Rattle.spec_boxes.specs.Rules.{Test, test, first_of, iacb, config_of, bytes_in, sample_rules, config_rules, roll_rules, edit_rules, count_rules, description_rules, version_rules, table_rules, tables_among, rules_on, tables_on, top_rules, way_rules, rules, way, track}
use Rattle.spec_boxes.specs.Laws.{Holds}
use Rattle.spec_boxes.proofs.Rows.{sum-cons}
use Rattle.spec_files.specs.Body.{marked, rebuilt}
use Rattle.spec_bodies.proofs.OneMore.{size}

-- ---- the configuration

chosen : (b : Box) (t : Bool) (bytes : List ℕ) → length bytes < 2 ^ 32 → length (config_of (cond t (Ok bytes) (refuse b.at Config))) < 2 ^ 32
chosen b true bytes small = small
chosen b false bytes small = omega arith

no_more : (b : Box) (n : ℕ) (rest : List ℕ) → n < 2 ^ 32 → length (config_of (sized_config b (bytes_at n rest))) < 2 ^ 32
unfolding bytes_at
no_more b n rest small = one (nat_lt (length rest) n) where
  one : (t : Bool) → length (config_of (sized_config b (cond t (Err Short) (Ok (take n rest, drop n rest))))) < 2 ^ 32
  one true = omega arith
  one false = chosen b (are_obus in_config (take n rest)) (take n rest) (omega (arith, length-take n rest, small))

by_size : (b : Box) (r : Result (ℕ × List ℕ) FieldFault) → length (config_of (config_size b (r >>= λ x. cond (nat_lt x.0 (2 ^ 32)) (Ok x) (Err Leb)))) < 2 ^ 32
by_size b (Err e) = omega arith
by_size b (Ok r) = one (nat_lt r.0 (2 ^ 32)) refl where
  one : (t : Bool) → nat_lt r.0 (2 ^ 32) ≡ t → length (config_of (config_size b (cond t (Ok r) (Err Leb)))) < 2 ^ 32
  one true e = no_more b r.0 r.1 (ltb-true r.0 (2 ^ 32) e)
  one false e = omega arith

config_small : (b : Box) (p : List ℕ) → length (config_of (config_in b p)) < 2 ^ 32
unfolding config_in leb_at
config_small b p = one (not (slice_index p 0 == 1)) where
  one : (t : Bool) → length (config_of (cond t (refuse b.at Config) (config_size b (leb_at (drop 1 p))))) < 2 ^ 32
  one true = omega arith
  one false = by_size b (groups_at 8 (drop 1 p))

-- ---- the samples

samples_size : (f : List ℕ) (ss : List Span) → size (map (sample_bytes f) ss) ≤ bytes_in ss
samples_size f [] = omega arith
samples_size f (s ∷ ss) =
    omega (arith, length-append (sample_bytes f s) (flat_map (λ (u : List ℕ). u) (map (sample_bytes f) ss)), samples_size f ss, sum-cons s.1 (map (λ (x : Span). x.1) ss), length-take (s.0 + s.1 - s.0) (drop s.0 f))

right_none : (xs ys : List Test) → first_of (xs ++ ys) ≡ None → first_of ys ≡ None
right_none [] ys h = h
right_none (None ∷ xs) ys h = right_none xs ys h
right_none (Some e ∷ xs) ys h = absurd cc

first_none : (t : Test) (ts : List Test) → first_of (t ∷ ts) ≡ None → (t ≡ None) × (first_of ts ≡ None)
first_none None ts h = (refl, h)
first_none (Some e) ts h = absurd cc

passed : (t : Bool) (at : ℕ) (fault : BoxFault) → test t at fault ≡ None → t ≡ true
passed true at fault h = refl
passed false at fault h = absurd cc

on_way : (f : List ℕ) (w : Way) → first_of (rules_on f w) ≡ None → bytes_in (spans_of (tables_on f w)) ≤ length f
on_way f w h =
    let a = right_none (table_rules w.stbl.at w.in_stbl) _ h in
    let b = right_none (version_rules f (tables_among w.in_stbl)) _ a in
    let c = right_none (description_rules f (tables_among w.in_stbl)) _ b in
    let d = right_none (count_rules f (tables_among w.in_stbl)) _ c in
    let e = right_none (edit_rules f w.in_trak) _ d in
    let g = right_none (roll_rules f (tables_on f w).sizes.count w.in_stbl) _ e in
    let k = right_none (config_rules f w.entry) _ g in
    let ss = spans_of (tables_on f w) in
    let at = (tables_among w.in_stbl).chunks.at in
    let fits : Test = test (nat_le (bytes_in ss) (length f)) at Chunk in
    let rows = first_none fits (sample_rules f ss) (first_none (test (in_file (length f) ss) at Chunk) (fits ∷ sample_rules f ss) k).1 in
    leb-true (bytes_in ss) (length f) (passed (nat_le (bytes_in ss) (length f)) at Chunk rows.0)

-- ---- the bare sequence

marked_size : (us : List (List ℕ)) → length (flat_map marked us) ≡ size us + 2 * length us
marked_size [] = refl
marked_size (u ∷ us) = omega (arith, length-append (marked u) (flat_map marked us), length-append u (flat_map (λ (x : List ℕ). x) us), marked_size us)

track_config : (f : List ℕ) → (track f).config ≡ config_of (config_in (iacb f (way f).entry) (payload f (iacb f (way f).entry)))
unfolding track
track_config f = refl

track_samples : (f : List ℕ) → (track f).samples ≡ map (sample_bytes f) (spans_of (tables_on f (way f)))
unfolding track
track_samples f = refl

rows_on : (f : List ℕ) → first_of (rules true f) ≡ None → first_of (rules_on f (way f)) ≡ None
unfolding rules
rows_on f h = right_none (way_rules true f) _ (right_none (top_rules true f) _ h)

rebuilt_size : (config : List ℕ) (samples : List (List ℕ)) → length (rebuilt config samples) ≡ length config + (size samples + 2 * length samples)
unfolding rebuilt
rebuilt_size config samples = length-append config (flat_map marked samples) ∙ ap (λ n. length config + n) (marked_size samples)

pub bare_small : (f config : List ℕ) (samples : List (List ℕ)) → length f ≤ 2 ^ 30 → length samples < 2 ^ 32 → Holds f config samples → length (rebuilt config samples) ≤ 2 ^ 40
bare_small f config samples small few h =
    let b = iacb f (way f).entry in
    let config_is : length config < 2 ^ 32 = omega (arith, ap length (sym (track_config f) ∙ h.1), config_small b (payload f b)) in
    let samples_are : size samples ≤ length f =
    omega (arith, ap size (sym (track_samples f) ∙ h.2), samples_size f (spans_of (tables_on f (way f))), on_way f (way f) (rows_on f h.0)) in
    omega (arith, rebuilt_size config samples, config_is, samples_are, few, small)
