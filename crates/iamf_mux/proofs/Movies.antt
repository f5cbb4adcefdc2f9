-- What is written of a sequence.
use Rattle.std.proofs.Common.{◌≡◌, ℕ, ◌+◌, ◌≤◌, ◌^◌, List, [], ◌∷◌, length, map, refl, sym, ap, ap₂, subst, ◌∙◌, arith}
use Rattle.std.specs.Prelude.{sum}
use Rattle.std.specs.List.{flat_map}
use Rattle.std.specs.Borrow.{Bor}
use Rattle.std.proofs.lemmas.List.{length-map}
use Rattle.std.proofs.Math.Seq.{take-append_seam, drop-append_seam}
use Rattle.spec_rules.specs.Descriptors.{codecs, frame_length}
use Rattle.spec_rules.specs.Rules.{rate_of}
use Rattle.spec_boxes.specs.Laws.{Holds}
use Rattle.spec_files.specs.MovieFile as written
use Rattle.spec_bodies.specs.Spelled.{Spelled, roles_of}
use Rattle.spec_bodies.specs.SequenceBody.{units, descriptors, HasSequenceBody}
use Rattle.spec_bodies.specs.SequenceFile.{movie_of, IsFileOf}
use Rattle.spec_bodies.proofs.BodyLaws.{unit_count_is, written_holds}
use Rattle.spec_bodies.proofs.Rebuilding.{rebuilds}
use Rattle.mp4_file.specs.Slices.{joined, cut}
use Rattle.iamf_mux.specs.declared.body.Body.{Body}
use Rattle.iamf_mux.specs.BodyView.{slices_in, IsBodyOf}
use Rattle.iamf_mux.specs.Gathering.{Slices, IsGathered}
use Rattle.iamf_mux.proofs.Gathers.{total}

-- units that are joined and cut again
cut_again : (us : List (List ℕ)) → cut (map length us) (flat_map (λ (u : List ℕ). u) us) ≡ us
cut_again [] = refl
cut_again (u ∷ us) =
    let rest : List ℕ = flat_map (λ (x : List ℕ). x) us in
    ap₂ (λ (x : List ℕ) (xs : List (List ℕ)). x ∷ xs) (take-append_seam u rest) (ap (cut (map length us)) (drop-append_seam u rest) ∙ cut_again us)

-- ---- the movie

abbrev pub made : List ℕ → List (List ℕ) → ℕ → ℕ → ℕ → ℕ → written.Movie
made d u n r t k = record { descriptors = d; units = u; frame_length = n; sample_rate = r; trimmed = t; kept = k }

units_are : (s : Slices) (os : List Spelled) → IsGathered s os → cut s.unit_lengths s.units ≡ units os
units_are s os g = ap₂ cut g.lengths_are g.units_are ∙ cut_again (units os)

-- what is written of a body, where these are its slices
pub movie_is : (b : Body) (bytes : List ℕ) (h : IsBodyOf b bytes) (ds us : List (Bor (List ℕ))) (ns : List ℕ) → ds ≡ b.descriptors.items → us ≡ b.units.items → ns ≡ b.unit_lengths.items
    → made (joined ds) (cut ns (joined us)) b.frame_length b.sample_rate b.trimmed b.kept ≡ movie_of h.obus
movie_is b bytes h ds us ns d u l =
    let os = h.obus in
    let units_of : cut ns (joined us) ≡ units os = ap₂ cut l (ap joined u) ∙ units_are (slices_in b) os h.gathered in
    ap₂ (λ (x : List ℕ) (y : List (List ℕ)). made x y b.frame_length b.sample_rate b.trimmed b.kept) (ap joined d ∙ h.gathered.descriptors_are) units_of
    ∙ ap₂ (λ (x y : ℕ). made (descriptors os) (units os) x y b.trimmed b.kept) h.frame_length_is h.sample_rate_is
    ∙ ap₂ (made (descriptors os) (units os) (frame_length (roles_of os)) (rate_of (codecs (roles_of os)))) h.trimmed_is h.kept_is

-- what a movie has to keep
pub whole_is : (s : Slices) (os : List Spelled) → IsGathered s os → sum s.unit_lengths ≡ length s.units
whole_is s os g = total s os g ∙ sym (ap length g.units_are)

small_is : (b : Body) (bytes : List ℕ) (h : IsBodyOf b bytes) → let s = slices_in b in (length s.descriptors + length s.units ≤ 2 ^ 30) × (length s.unit_lengths ≤ 2 ^ 29)
small_is b bytes h =
    let os = h.obus in
    let g = h.gathered in
    let r = (rebuilds os h.are.admitted).1 in (
      omega (arith, r.small, h.short, ap length h.bytes_are, ap length g.descriptors_are, ap length g.units_are),
      omega (arith, r.few, h.short, ap length h.bytes_are, ap length g.lengths_are, length-map (units os) length, unit_count_is os),
    )

pub movie_whole : (b : Body) (bytes : List ℕ) → IsBodyOf b bytes → (us : List (Bor (List ℕ))) (ns : List ℕ) → us ≡ b.units.items → ns ≡ b.unit_lengths.items → sum ns ≡ length (joined us)
movie_whole b bytes h us ns u n = ap (λ (xs : List ℕ). sum xs) n ∙ whole_is (slices_in b) h.obus h.gathered ∙ sym (ap (λ (xs : List (Bor (List ℕ))). length (joined xs)) u)

pub movie_small : (b : Body) (bytes : List ℕ) → IsBodyOf b bytes → (ds us : List (Bor (List ℕ))) (ns : List ℕ) → ds ≡ b.descriptors.items → us ≡ b.units.items → ns ≡ b.unit_lengths.items
    → (length (joined ds) + length (joined us) ≤ 2 ^ 30) × (length ns ≤ 2 ^ 29)
movie_small b bytes h ds us ns d u n =
    let r = small_is b bytes h in
    (omega (arith, r.0, ap (λ (xs : List (Bor (List ℕ))). length (joined xs)) d, ap (λ (xs : List (Bor (List ℕ))). length (joined xs)) u), omega (arith, r.1, ap length n))

pub file_holds_body : (bytes f : List ℕ) → length bytes ≤ 2 ^ 30 → IsFileOf bytes f → (d : List ℕ) × (u : List (List ℕ)) × HasSequenceBody bytes d u × Holds f d u
file_holds_body bytes f small is =
    let os = is.obus in
    let holds = written_holds os is.are (subst (λ (b : List ℕ). length b ≤ 2 ^ 30) is.bytes_are small) in
    (descriptors os, units os, record { obus = os; bytes_are = is.bytes_are; are = is.are; descriptors_are = refl; units_are = refl }, subst (λ (g : List ℕ). Holds g (descriptors os) (units os)) (sym is.written_is) holds.0)
