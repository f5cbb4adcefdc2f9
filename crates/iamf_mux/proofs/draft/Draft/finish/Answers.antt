use Rattle.std.proofs.Common.{◌≡◌, ◌+◌, ℕ, List, length, sym, ap, subst, ◌∙◌, arith}
use Rattle.std.specs.Prelude.{Option, unwrap_or, sum}
use Rattle.std.proofs.Math.Seq.{take-length}
use Rattle.spec_values.specs.Value.{ObuValue}
use Rattle.spec_rules.specs.Role.{Role}
use Rattle.spec_rules.specs.Descriptors.{codecs, frame_length}
use Rattle.spec_rules.specs.Rules.{rate_of}
use Rattle.spec_rules.specs.Samples.{kept}
use Rattle.spec_sequence.specs.Parts.{temporal_units}
use Rattle.spec_sequence.specs.Reading.{values_of, roles}
use Rattle.spec_bodies.specs.Spelled.{roles_of}
use Rattle.spec_bodies.specs.SequenceFile.{starts}
use Rattle.spec_bodies.specs.SequenceFile as file
use Rattle.spec_bodies.proofs.Sequences.{values_are, ended}
use Rattle.spec_bodies.proofs.SpelledRoles.{roles_are}
use Rattle.mp4_file.specs.Slices.{joined}
use Rattle.iamf_mux.specs.Gathering.{Slices, IsGathered}
use Rattle.iamf_mux.specs.Ranges.{AreRanges, parts}
use Rattle.iamf_mux.proofs.Ranges.{past_more}
use Rattle.iamf_mux.proofs.Runs.{slices, all_closed}
use Rattle.iamf_mux.proofs.ToldNumbers.{rate_is}
use Rattle.iamf_mux.proofs.draft.Draft.finish.Goals as goal

pub returns : goal.returns
returns c = λ bytes l walked is.
    let g = c.close.new.self in
    let h = is.gathered in
    let os = h.obus in
    let seen : slices (joined g.descriptors.items) (joined g.units.items) g.unit_lengths.items ≡ _ =
    ap (λ (u : List ℕ). slices (joined g.descriptors.items) u g.unit_lengths.items) (sym (all_closed (joined g.units.items) g.bytes.now g.start g.end c.in_ok-close.ensures.closed)) ∙ c.in_ok-close.ensures.kept in
    let all = c.in_ok-close.ensures.sliced h.sliced.0 in
    let roles_same : roles l ≡ roles_of os = ap roles (sym h.entries_are) ∙ roles_are os in
    let values_same : values_of l ≡ file.values_of os = ap values_of (sym h.entries_are) ∙ values_are os in
    record {
      short = is.short;
      obus = os;
      bytes_are = sym (h.bytes_are ∙ take-length bytes);
      are = record { admitted = h.admitted; ended = ended os l h.entries_are walked.read.whole };
      gathered = subst (λ (s : Slices). IsGathered s os) (sym seen) h.gathered;
      sliced = subst (λ (b : List ℕ). AreRanges b 0 (parts g.units.items) (length b + 1)) (c.close.ensures.same ∙ h.same)
          (past_more g.bytes.now 0 (parts g.units.items) (g.end + 1) (length g.bytes.now + 1) all (omega (arith, g.within.1)));
      frame_length_is = c.from.ensures ∙ c.frame_length.ensures l walked.stands ∙ ap frame_length roles_same;
      sample_rate_is = c.unwrap_or.ensures ∙ ap (λ (r : Option ℕ). unwrap_or r 0) is.numbers.rate ∙ rate_is (codecs (roles l)) ∙ ap (λ (m : List Role). rate_of (codecs m)) roles_same;
      trimmed_is = is.numbers.starts_are.trimmed ∙ ap (λ (s : List ObuValue). sum (starts (temporal_units s))) values_same;
      kept_is = c.samples.ensures l walked.stands ∙ ap kept roles_same;
    }
