-- A source whose bytes are checked as they come in.
use Rattle.std.proofs.Common.{◌≡◌, ℕ, ◌+◌, ◌^◌, ◌<◌, ◌≤◌, inl, List, [], ◌++◌, length, Option, Result, refl, ap, ◌∙◌, arith, append-nil, length-append}
use Rattle.std.specs.Io.KnownBytes.{Consumes, IsAtEnd}
use Rattle.std.proofs.KnownBytes.{Consumes-nil, Consumes-trans}
use Rattle.iamf_report.specs.Lines.{Facts}
use Rattle.iamf_sequence.specs.declared.refusal.DecodeError.{DecodeError}
use Rattle.iamf_stream.specs.CheckerView.{CheckerValue, Stands}
use Rattle.iamf_stream.specs.Feeding.{Knows}
use Rattle.iamf_stream.proofs.Fed.{IsFed, knows_more, fed_more, IsFinished, tells}
use Rattle.iamf_tool.specs.Ends.{Side}
use Rattle.iamf_tool.specs.Checks.{ChecksAll, GaveTooMany}

-- what the reading loop keeps
pub record IsHalfChecked (old new : Option (List ℕ)) (before now : ℕ) (checker : CheckerValue) (read : ℕ) : Type 0 where
  pub bytes : List ℕ
  pub count : length bytes ≡ read
  pub few : read ≤ 2 ^ 30
  pub taken : Consumes old new bytes
  pub same : now ≡ before
  pub fed : checker.fed ≤ read
  pub knows : Knows checker bytes

pub half_start : (old : Option (List ℕ)) (now : ℕ) (checker : CheckerValue) → Stands checker [] → checker.fed ≡ 0 → IsHalfChecked old old now now checker 0
half_start old now checker stands none = record {
  bytes = [];
  count = refl;
  few = omega arith;
  taken = Consumes-nil old;
  same = refl;
  fed = omega (arith, none);
  knows = inl stands;
}

-- ---- one more piece

pub half_more : (a b c : Option (List ℕ)) (before mid now : ℕ) (old new : CheckerValue) (result : Result (Unit {0}) DecodeError) (read count : ℕ) (piece given : List ℕ) → IsHalfChecked a b before mid old read → Consumes b c piece
    → count ≡ length piece → now ≡ mid → read + count ≤ 2 ^ 30 → given ≡ piece → IsFed old new result given → IsHalfChecked a c before now new (read + count)
half_more a b c before mid now old new result read count piece given h consumes len same few is fed = record {
  bytes = h.bytes ++ piece;
  count = omega (arith, length-append h.bytes piece, h.count, len);
  few = few;
  taken = Consumes-trans a b c h.bytes piece h.taken consumes;
  same = same ∙ h.same;
  fed = omega (arith, fed_more old.fed new.fed (length given) result fed.more fed.no_more, h.fed, len, ap length is);
  knows = rw (← is) (knows_more old new result given h.bytes fed h.knows);
}

-- ---- the end

pub half_ends : (source : Side) (b : Option (List ℕ)) (mid : ℕ) (checker : CheckerValue) (read : ℕ) (result : Result Facts DecodeError) → IsHalfChecked source.before b source.count_before mid checker read
    → Consumes b source.after [] → IsAtEnd source.after → source.count_after ≡ mid → IsFinished checker result → ChecksAll result source
half_ends source b mid checker read result h consumes end same finished =
    let taken = Consumes-trans source.before b source.after h.bytes [] h.taken consumes in
    record {
      bytes = h.bytes;
      all = record { within = omega (arith, h.count, h.few); taken = rw append-nil at taken; end = end };
      same = same ∙ h.same;
      tells = tells checker result h.bytes finished h.knows;
    }

pub half_too_many : (source : Side) (b : Option (List ℕ)) (mid : ℕ) (checker : CheckerValue) (read count : ℕ) (piece : List ℕ) → IsHalfChecked source.before b source.count_before mid checker read → Consumes b source.after piece
    → count ≡ length piece → source.count_after ≡ mid → read + count ≤ 2 ^ 30 + 1 → 2 ^ 30 < read + count → GaveTooMany source
half_too_many source b mid checker read count piece h consumes len same most many = record {
  taken = record { bytes = h.bytes ++ piece; counted = omega (arith, length-append h.bytes piece, h.count, len, most, many); taken = Consumes-trans source.before b source.after h.bytes piece h.taken consumes };
  same = same ∙ h.same;
}
