-- Frames: what their rows are to their fields, and that there is one frame or one fault.
use Rattle.std.proofs.Common.{◌≡◌, ℕ, ◌⊎◌, ℤ, List, [], ◌∷◌, ◌++◌, length, refl, sym, ap, subst, ◌∙◌, arith, inl, inr}
use Rattle.std.proofs.lemmas.Bool.{eqb-true, ltb-true, ltb-false}
use Rattle.std.proofs.lemmas.List.{append-nil}
use Rattle.spec_bits.specs.Bits.{Bits, all_bits}
use Rattle.spec_syntax.specs.Payload.{FieldValue, Payload}
use Rattle.spec_syntax.proofs.Fields.{Has, end_step, choice_step, check_step, bind_step}
use Rattle.spec_syntax.proofs.SyntaxLaws.{is_exact}
use Rattle.spec_flac.specs.declared.fault.FlacFault.{FlacFault}
use Rattle.spec_flac.specs.declared.fault.FlacFault.TheVariants as fault
use Rattle.spec_flac.specs.declared.shape.FlacShape.{FlacShape}
use Rattle.spec_flac.specs.Faults.{short}
use Rattle.spec_flac.specs.Header.{header}
use Rattle.spec_flac.specs.Subframe.{subframe}
use Rattle.spec_flac.specs.Frame.{frame, channels, one_channel, two_channels, left_and_right, frame_end, first_depth, second_depth, IsFrame, HasTail, IsFault}
use Rattle.spec_flac.specs.Equations.{Spelled}
use Rattle.spec_flac.specs.FrameLaws.{MeetsChannels, one, apart, joint, MeetsFrame, IsExactFrame}
use Rattle.spec_flac.proofs.Following.{subframe_meets}

two_meet : (shape : FlacShape) (code : ℕ) (xs : List FieldValue) (rows : List (List ℤ)) → Has (two_channels shape code) xs rows → MeetsChannels shape code xs rows
unfolding two_channels left_and_right
two_meet shape code xs rows h =
    bind_step (subframe (first_depth shape code) shape.length) _ h λ front others first e has1 h1.
    bind_step (subframe (second_depth shape code) shape.length) _ h1 λ own more second e1 has2 h2.
    let m1 = subframe_meets (first_depth shape code) shape.length front first (has1.before, has1.bits, has1.stands) in
    let m2 = subframe_meets (second_depth shape code) shape.length own second (has2.before, has2.bits, has2.stands) in
    choice_step h2
    (λ below h3. end_step h3 λ none is.
    let all : xs ≡ front ++ own = e ∙ ap (λ (z : List FieldValue). front ++ z) (e1 ∙ ap (λ (z : List FieldValue). own ++ z) none ∙ append-nil own) in
    subst (λ (y : List FieldValue). MeetsChannels shape code y rows) (sym all) (subst (λ (y : List (List ℤ)). MeetsChannels shape code (front ++ own) y) is (apart front own first second (ltb-true code 8 below) m1 m2)))
    (λ above h3. check_step h3 λ fits h4. end_step h4 λ none is.
    let all : xs ≡ front ++ own = e ∙ ap (λ (z : List FieldValue). front ++ z) (e1 ∙ ap (λ (z : List FieldValue). own ++ z) none ∙ append-nil own) in
    subst (λ (y : List FieldValue). MeetsChannels shape code y rows) (sym all) (subst (λ (y : List (List ℤ)). MeetsChannels shape code (front ++ own) y) is (joint front own first second (ltb-false code 8 above) m1 m2)))

one_meets : (shape : FlacShape) (code : ℕ) (xs : List FieldValue) (rows : List (List ℤ)) → shape.channels ≡ 1 → Has (one_channel shape) xs rows → MeetsChannels shape code xs rows
unfolding one_channel
one_meets shape code xs rows single h =
    bind_step (subframe shape.depth shape.length) _ h λ own more row e has h1.
    end_step h1 λ none is.
    let m = subframe_meets shape.depth shape.length own row (has.before, has.bits, has.stands) in
    let all : xs ≡ own = e ∙ ap (λ (z : List FieldValue). own ++ z) none ∙ append-nil own in
    subst (λ (y : List FieldValue). MeetsChannels shape code y rows) (sym all) (subst (λ (y : List (List ℤ)). MeetsChannels shape code own y) is (one own row single m))

channels_meet : (shape : FlacShape) (code : ℕ) (xs : List FieldValue) (rows : List (List ℤ)) → Has (channels shape code) xs rows → MeetsChannels shape code xs rows
unfolding channels
channels_meet shape code xs rows h = choice_step h (λ single h1. one_meets shape code xs rows (eqb-true shape.channels 1 single) h1) (λ more h1. two_meet shape code xs rows h1)

pub frame_meets : (shape : FlacShape) (xs : List FieldValue) (rows : List (List ℤ)) → Spelled (frame shape) xs rows → MeetsFrame shape xs rows
unfolding frame
frame_meets shape xs rows h =
    let has : Has (frame shape) xs rows = record { before = h.0; bits = h.1; stands = h.2 } in
    bind_step (header shape) _ has λ front others code e has1 h1.
    bind_step (channels shape code) _ h1 λ middle rest found e1 has2 h2.
    bind_step frame_end _ h2 λ own more u e2 has3 h3.
    end_step h3 λ none is.
    let all : rest ≡ own = e2 ∙ ap (λ (z : List FieldValue). own ++ z) none ∙ append-nil own in
    record {
      code = code;
      front = front;
      middle = middle;
      others = own;
      parts = e ∙ ap (λ (z : List FieldValue). front ++ z) (e1 ∙ ap (λ (z : List FieldValue). middle ++ z) all);
      head = (has1.before, has1.bits, has1.stands);
      channels = subst (λ (y : List (List ℤ)). MeetsChannels shape code middle y) is (channels_meet shape code middle found has2);
      end = (has3.before, has3.bits, has3.stands);
    }

-- ---- one frame or one fault

by_tail : (shape : FlacShape) (bytes : List ℕ) (fields : List FieldValue) (rows : List (List ℤ)) (tail : Bits) → Payload (frame shape) fields rows tail (all_bits bytes) → ((rows : List (List ℤ)) × IsFrame shape bytes rows) ⊎ ((f : FlacFault) × IsFault shape bytes f)
by_tail shape bytes fields rows [] p = inl (rows, record { fields = fields; payload = p })
by_tail shape bytes fields rows (b ∷ tail) p = inr (fault.Tail, inr (refl, record { fields = fields; rows = rows; tail = b ∷ tail; more = omega arith; payload = p }))

no_tail : (shape : FlacShape) (bytes : List ℕ) (rows : List (List ℤ)) → IsFrame shape bytes rows → HasTail shape bytes → ⊥
no_tail shape bytes rows a b =
    let same = ((is_exact short (frame shape)).one_value (all_bits bytes) a.fields b.fields rows b.rows [] b.tail a.payload b.payload).2 in
    absurd (omega (arith, b.more, ap (λ (t : Bits). length t) same))

pub exact_frame : (shape : FlacShape) → IsExactFrame shape
exact_frame shape = record {
  either = λ bytes. elim ((is_exact short (frame shape)).either (all_bits bytes)) [ inl p ↦ by_tail shape bytes p.0 p.1 p.2 p.3 | inr q ↦ inr (q.0, inl q.1) ];
  not_both = λ bytes rows f a b. elim b [ inl q ↦ (is_exact short (frame shape)).not_both (all_bits bytes) a.fields rows [] f a.payload q | inr t ↦ no_tail shape bytes rows a t.1 ];
  one_frame = λ bytes rows rows' a b. ((is_exact short (frame shape)).one_value (all_bits bytes) a.fields b.fields rows rows' [] [] a.payload b.payload).1;
  one_fault = λ bytes f g a b. both shape bytes f g a b;
}
  where
    both : (shape : FlacShape) (bytes : List ℕ) (f g : FlacFault) → IsFault shape bytes f → IsFault shape bytes g → f ≡ g
    both shape bytes f g (inl p) (inl q) = (is_exact short (frame shape)).one_fault (all_bits bytes) f g p q
    both shape bytes f g (inl p) (inr t) = absurd ((is_exact short (frame shape)).not_both (all_bits bytes) (t.1).fields (t.1).rows (t.1).tail f (t.1).payload p)
    both shape bytes f g (inr t) (inl q) = absurd ((is_exact short (frame shape)).not_both (all_bits bytes) (t.1).fields (t.1).rows (t.1).tail g (t.1).payload q)
    both shape bytes f g (inr t) (inr u) = t.0 ∙ sym (u.0)
