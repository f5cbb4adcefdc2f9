-- Walking over the OBUs of some bytes.
use Rattle.std.proofs.Common.{◌≡◌, ℕ, suc, ◌+◌, ◌-◌, ◌^◌, ◌<◌, ◌≤◌, List, [], ◌∷◌, ◌++◌, length, take, drop, Ok, refl, sym, ap, subst, ◌∙◌, arith, add_assoc, length-append, length-drop}
use Rattle.std.proofs.lemmas.List.{take_all, drop-drop}
use Rattle.spec_obu.specs.declared.HeaderFault.TheVariants.{Cut}
use Rattle.spec_streams.specs.Front.{IsPartial}
use Rattle.iamf_admission.specs.AdmissionView.{AdmissionValue}
use Rattle.iamf_stream.specs.declared.walk.Step.{Step}
use Rattle.iamf_stream.specs.declared.walk.Step.TheVariants as step
use Rattle.iamf_stream.specs.Waiting.{IsWaiting}
use Rattle.iamf_stream.specs.Standing.{Passed}
use Rattle.iamf_stream.specs.Steps.{Admits, Waits, Steps, WalksOver}
use Rattle.iamf_stream.proofs.Fronts.{none_waits}

-- all bytes from a place on
pub rest_all : (bytes : List ℕ) (at : ℕ) → take (length bytes - at) (drop at bytes) ≡ drop at bytes
rest_all bytes at = take_all (length bytes - at) (drop at bytes) (omega (arith, length-drop at bytes))

-- a step over them
pub step_at : (a b : AdmissionValue) (done : Step) (place at : ℕ) (bytes stream : List ℕ)
    → ((s : List ℕ) → Passed a (place + at) (take (length bytes - at) (drop at bytes)) s → Steps b (Ok done) (place + at) (take (length bytes - at) (drop at bytes)) s)
    → Passed a (place + at) (drop at bytes) stream → Steps b (Ok done) (place + at) (drop at bytes) stream
step_at a b done place at bytes stream steps p =
    subst (λ (rest : List ℕ). Steps b (Ok done) (place + at) rest stream) (rest_all bytes at) (steps stream (subst (λ (rest : List ℕ). Passed a (place + at) rest stream) (sym (rest_all bytes at)) p))

-- ---- after some of the bytes

pub walk_on : (a : AdmissionValue) (done : Step) (count place at : ℕ) (bytes stream : List ℕ) → done ≡ step.Admitted count → at ≤ length bytes → Steps a (Ok done) (place + at) (drop at bytes) stream
    → (0 < count) × (at + count ≤ length bytes) × Passed a (place + (at + count)) (drop (at + count) bytes) stream
walk_on a done count place at bytes stream is within steps =
    let s : Admits a count (place + at) (drop at bytes) stream = rw is at steps in (
      s.some,
      omega (arith, s.within, length-drop at bytes, within),
      subst (λ (b : List ℕ). Passed a (place + (at + count)) b stream) (drop-drop count at bytes) (subst (λ (p : ℕ). Passed a p (drop count (drop at bytes)) stream) (add_assoc place at count) s.passed),
    )

pub walk_waits : (a : AdmissionValue) (done : Step) (wanted place at : ℕ) (bytes stream : List ℕ) → done ≡ step.Partial wanted → at ≤ length bytes → Steps a (Ok done) (place + at) (drop at bytes) stream
    → WalksOver a (record { admitted = at; wanted = wanted }) place bytes stream
walk_waits a done wanted place at bytes stream is within steps =
    record { within = within; left = rw is at steps }

pub walk_ends : (a : AdmissionValue) (place at : ℕ) (bytes stream : List ℕ) → at ≤ length bytes → length bytes ≤ at → Passed a (place + at) (drop at bytes) stream
    → WalksOver a (record { admitted = at; wanted = 1 }) place bytes stream
walk_ends a place at bytes stream within all passed =
    record { within = within; left = record { waits = none_waits (drop at bytes) (omega (arith, length-drop at bytes, all)); passed = passed } }

-- the bytes are some of the stream
pub within_stream : (a : AdmissionValue) (place n : ℕ) (bytes stream : List ℕ) → Passed a place bytes stream → n ≤ length bytes → place + n ≤ length stream
within_stream a place n bytes stream p few = omega (arith, ap length p.splits, length-append p.good bytes, p.place_is, few)
