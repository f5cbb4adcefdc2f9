-- What was read is a header, or its first fault.
use Rattle.std.proofs.Common.{ℕ, suc, ◌-◌, ◌<◌, List, length, get_or, take, drop, Result, Ok, Err, sym, ap, subst, ◌∙◌, drop-cons}
use Rattle.std.specs.Prelude.{IfOk, IfErr}
use Rattle.spec_obu.specs.declared.HeaderFault.{HeaderFault}
use Rattle.spec_obu.specs.Header.{Header}
use Rattle.spec_obu.specs.Faults.{IsFirstFault}
use Rattle.spec_obu.specs.Reading.{header_at}
use Rattle.spec_obu.proofs.HeaderLaws.{header_read}
use Rattle.spec_obu.proofs.FaultLaws.{header_fails}
use Rattle.obu_header.specs.declared.view.ObuView.{ObuView}
use Rattle.obu_header.specs.View.{head_of, ReadsAt}

pub is_header : (xs : List ℕ) (at : ℕ) (r : Result ObuView HeaderFault) → at < length xs → get_or xs at 0 < 256 → ReadsAt at r (header_at (drop at xs))
    → IfOk r (λ o. Header (head_of o.head) o.payload.now (take (o.end - at) (drop at xs)))
is_header xs at (Ok o) here byte read =
    let e = drop-cons xs at 0 here in
    let found = header_read (get_or xs at 0) (drop (suc at) xs) o.payload.now (head_of o.head) (o.end - at) byte (ap header_at (sym e) ∙ read) in
    subst (λ (ys : List ℕ). Header (head_of o.head) o.payload.now (take (o.end - at) ys)) (sym e) found.1
is_header xs at (Err f) here byte read = tt

pub is_fault : (xs : List ℕ) (at : ℕ) (r : Result ObuView HeaderFault) → at < length xs → ReadsAt at r (header_at (drop at xs))
    → IfErr r (λ f. IsFirstFault f (drop at xs))
is_fault xs at (Ok o) here read = tt
is_fault xs at (Err f) here read =
    let e = drop-cons xs at 0 here in
    subst (λ (ys : List ℕ). IsFirstFault f ys) (sym e) (header_fails (get_or xs at 0) (drop (suc at) xs) f (ap header_at (sym e) ∙ read))
