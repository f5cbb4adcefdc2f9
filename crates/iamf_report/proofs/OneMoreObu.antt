-- The lines of the report on one more OBU.
use Rattle.std.proofs.Common.{◌≡◌, ◌⊎◌, ℕ, Bool, true, false, true≢false, cond, List, [], ◌∷◌, ◌++◌, Vec, Global, map, refl, sym, ap, ap₂, subst, ◌∙◌, inl, inr, append-nil, arith}
use Rattle.std.specs.Prelude.{Option, Some, None, option_map, unwrap_or}
use Rattle.std.specs.List.{flat_map}
use Rattle.std.proofs.lemmas.List.{map-append}
use Rattle.spec_descriptors.specs.SequenceHeader.{SequenceHeaderFields}
use Rattle.spec_descriptors.specs.CodecConfig.{CodecConfigFields}
use Rattle.spec_descriptors.specs.AudioElement.{AudioElementFields}
use Rattle.spec_descriptors.specs.MixPresentation.{MixPresentationFields}
use Rattle.spec_descriptors.specs.Tags.{Tag, tags_of}
use Rattle.spec_values.specs.Content as content
use Rattle.spec_values.specs.Content.{Content}
use Rattle.spec_values.specs.Value.{ObuValue}
use Rattle.spec_rules.specs.declared.codec_role.CodecRole.{CodecRole}
use Rattle.spec_rules.specs.Role.{ElementRole, Role, SequenceHeader, CodecConfig, AudioElement, MixPresentation}
use Rattle.spec_rules.specs.Descriptors.{profiles, elements, mixes}
use Rattle.spec_rules.specs.Profile.{first_profile, fits_sub_mixes, fits}
use Rattle.spec_rules.specs.Units.{is_none_of, unit_count}
use Rattle.spec_rules.specs.Rules.{is_out_of_order}
use Rattle.spec_rules.specs.Admitted.{HasNoFault}
use Rattle.spec_rules.proofs.Basics.{flat_map-push, none_of, unmapped}
use Rattle.spec_rules.proofs.NoFault.{header_before, codec_before, element_before, mix_before, codec_none}
use Rattle.spec_rules.proofs.Ranks.{order_parts, no_mix}
use Rattle.spec_sequence.specs.ValueRole.{role, role_of_codec, element_role, mix_role}
use Rattle.spec_sequence.specs.Parts.{roles_of, of_plain, header_in, codec_in, element_in, mix_in, sequence_headers, codec_configs, audio_elements, mix_presentations, MixValue, mix_with, mix_of, mix_values}
use Rattle.spec_sequence.proofs.RolesOfParts.{profiles_are, codecs_are, elements_are, mixes_are}
use Rattle.spec_report.specs.Report.{tags_or_none}
use Rattle.spec_rules.specs.Samples.{kept}
use Rattle.iamf_report.specs.declared.line.HeaderLine.{HeaderLine}
use Rattle.iamf_report.specs.declared.line.CodecLine.{CodecLine}
use Rattle.iamf_report.specs.declared.line.ElementLine.{ElementLine}
use Rattle.iamf_report.specs.declared.line.MixLine.{MixLine}
use Rattle.iamf_report.specs.declared.line.MixLines.{MixLines}
use Rattle.iamf_report.specs.declared.line.Lines.{Lines}
use Rattle.iamf_report.specs.Lines.{MixFacts, DescriptorFacts, Facts, element_facts, marked_mix, mix_facts, descriptor_facts, facts_of}
use Rattle.iamf_report.specs.LinesView.{view_header, view_codec, view_tag, view_mix, view_lines}
use Rattle.iamf_report.specs.Standing.{AreLines, Says, IsDescriptor, IsOther}

-- ---- what one OBU adds to the lists of descriptors

record Adds (o : ObuValue) (hs : List SequenceHeaderFields) (cs : List CodecConfigFields) (es : List AudioElementFields) (ms : List MixValue) : Type 0 where
  headers : of_plain header_in o ≡ hs
  codecs : of_plain codec_in o ≡ cs
  elements : of_plain element_in o ≡ es
  mixes : mix_of o ≡ ms

headers-push : (s : List ObuValue) (o : ObuValue) → sequence_headers (s ++ o ∷ []) ≡ sequence_headers s ++ of_plain header_in o
unfolding sequence_headers
headers-push s o = flat_map-push (of_plain header_in) s o

codecs-push : (s : List ObuValue) (o : ObuValue) → codec_configs (s ++ o ∷ []) ≡ codec_configs s ++ of_plain codec_in o
unfolding codec_configs
codecs-push s o = flat_map-push (of_plain codec_in) s o

elements-push : (s : List ObuValue) (o : ObuValue) → audio_elements (s ++ o ∷ []) ≡ audio_elements s ++ of_plain element_in o
unfolding audio_elements
elements-push s o = flat_map-push (of_plain element_in) s o

mixes-push : (s : List ObuValue) (o : ObuValue) → mix_values (s ++ o ∷ []) ≡ mix_values s ++ mix_of o
unfolding mix_values
mixes-push s o = flat_map-push mix_of s o

-- ---- which mixes fit

facts_same : (l k : List Role) → profiles k ≡ profiles l → elements k ≡ elements l → (ms : List MixValue) → map (mix_facts k) ms ≡ map (mix_facts l) ms
unfolding fits
facts_same l k same_profiles same_elements ms =
    ap₂ (λ (ps : List ℕ) (es : List ElementRole). map (λ (m : MixValue). let r = mix_role m.fields in let f : MixFacts = record { mix = marked_mix (fits_sub_mixes (first_profile ps) es r.sub_mixes r.elements) m.fields; tags = tags_or_none (tags_of m.tail) } in f) ms)
    same_profiles same_elements

-- mixes fit as before where no header and no element is added
marks_stay : (s t : List ObuValue) → sequence_headers t ≡ sequence_headers s → audio_elements t ≡ audio_elements s → (ms : List MixValue) → map (mix_facts (roles_of t)) ms ≡ map (mix_facts (roles_of s)) ms
marks_stay s t headers elements ms =
    facts_same (roles_of s) (roles_of t) (profiles_are t ∙ ap (map (λ h. h.primary_profile)) headers ∙ sym (profiles_are s)) (elements_are t ∙ ap (map element_role) elements ∙ sym (elements_are s)) ms

-- ---- one step

four : (a p : List SequenceHeaderFields) (b q : List CodecRole) (c r : List ElementLine) (d t : List MixFacts) → a ≡ p → b ≡ q → c ≡ r → d ≡ t
    → let x : DescriptorFacts = record { headers = a; codecs = b; elements = c; mixes = d } in let y : DescriptorFacts = record { headers = p; codecs = q; elements = r; mixes = t } in x ≡ y
four a p b q c r d t ap bq cr dt = cc

-- the lines with those of one more OBU
record AreMore (old new : Lines) (l : List Role) (hs : List SequenceHeaderFields) (cs : List CodecConfigFields) (es : List AudioElementFields) (ms : List MixValue) : Type 0 where
  headers : (view_lines new).headers ≡ (view_lines old).headers ++ hs
  codecs : (view_lines new).codecs ≡ (view_lines old).codecs ++ map role_of_codec cs
  elements : (view_lines new).elements ≡ (view_lines old).elements ++ map element_facts es
  mixes : (view_lines new).mixes ≡ (view_lines old).mixes ++ map (mix_facts l) ms

are_more : (old new : Lines) (s : List ObuValue) (o : ObuValue) (hs : List SequenceHeaderFields) (cs : List CodecConfigFields) (es : List AudioElementFields) (ms : List MixValue)
    → Adds o hs cs es ms → view_lines old ≡ descriptor_facts s → AreMore old new (roles_of s) hs cs es ms
    → map (mix_facts (roles_of (s ++ o ∷ []))) (mix_values s ++ ms) ≡ map (mix_facts (roles_of s)) (mix_values s ++ ms)
    → view_lines new ≡ descriptor_facts (s ++ o ∷ [])
unfolding descriptor_facts
are_more old new s o hs cs es ms adds are more marks =
    four _ _ _ _ _ _ _ _
    (more.headers ∙ ap (λ (f : DescriptorFacts). f.headers ++ hs) are ∙ sym (headers-push s o ∙ ap (λ xs. sequence_headers s ++ xs) adds.headers))
    (more.codecs ∙ ap (λ (f : DescriptorFacts). f.codecs ++ map role_of_codec cs) are ∙ sym (map-append role_of_codec (codec_configs s) cs) ∙ ap (map role_of_codec) (sym (codecs-push s o ∙ ap (λ xs. codec_configs s ++ xs) adds.codecs)))
    (more.elements ∙ ap (λ (f : DescriptorFacts). f.elements ++ map element_facts es) are ∙ sym (map-append element_facts (audio_elements s) es) ∙ ap (map element_facts) (sym (elements-push s o ∙ ap (λ xs. audio_elements s ++ xs) adds.elements)))
    (more.mixes ∙ ap (λ (f : DescriptorFacts). f.mixes ++ map (mix_facts (roles_of s)) ms) are ∙ sym (map-append (mix_facts (roles_of s)) (mix_values s) ms) ∙ sym marks
    ∙ ap (map (mix_facts (roles_of (s ++ o ∷ [])))) (sym (mixes-push s o ∙ ap (λ xs. mix_values s ++ xs) adds.mixes)))

-- ---- headers come first

none_before : {A : Type 0} (xs ys : List A) → xs ++ ys ≡ [] → xs ≡ []
none_before [] ys e = refl
none_before (x ∷ xs) ys e = absurd cc

none_after : {A : Type 0} (xs ys : List A) → xs ++ ys ≡ [] → ys ≡ []
none_after [] ys e = e
none_after (x ∷ xs) ys e = absurd cc

-- there is a header where an OBU is in order
some_header : (s : List ObuValue) (r : ℕ) → is_out_of_order (roles_of s) r ≡ false → sequence_headers s ≡ [] → ⊥
some_header s r order none =
    true≢false (sym (ap is_none_of (profiles_are s ∙ ap (map (λ h. h.primary_profile)) none)) ∙ (order_parts (roles_of s) r order).0)

headed_before : (s : List ObuValue) (o : ObuValue) → (sequence_headers s ≡ [] → ⊥) → sequence_headers (s ++ o ∷ []) ≡ [] → mix_values (s ++ o ∷ []) ≡ []
headed_before s o some none = absurd (some (none_before (sequence_headers s) (of_plain header_in o) (sym (headers-push s o) ∙ none)))

mixes_are_values : (s : List ObuValue) → mix_presentations s ≡ map (λ m. m.fields) (mix_values s)
unfolding mix_presentations mix_values
mixes_are_values [] = refl
mixes_are_values (o ∷ os) =
    ap₂ (λ (xs ys : List MixPresentationFields). xs ++ ys) (one o.head.redundant o.content) (mixes_are_values os) ∙ sym (map-append (λ m. m.fields) (mix_of o) (flat_map mix_of os))
  where
    one : (redundant : Bool) (c : Content) → cond redundant [] (mix_in c) ≡ map (λ m. m.fields) (cond redundant [] (mix_with c o.tail))
    one true c = refl
    one false (content.Header x) = refl
    one false (content.Codec x) = refl
    one false (content.Element x) = refl
    one false (content.Mix x) = refl
    one false (content.Block x) = refl
    one false (content.Frame x) = refl
    one false content.Nothing = refl

no_values : (s : List ObuValue) → mixes (roles_of s) ≡ [] → mix_values s ≡ []
no_values s none = unmapped (λ m. m.fields) (mix_values s) (sym (mixes_are_values s) ∙ unmapped mix_role (mix_presentations s) (sym (mixes_are s) ∙ none))

-- ---- no OBU

pub no_lines : (elements : Vec ElementLine Global) (mixes : Vec MixLines Global) → elements.items ≡ [] → mixes.items ≡ [] → AreLines (record { header = None; codec = None; elements = elements; mixes = mixes }) []
unfolding descriptor_facts sequence_headers codec_configs audio_elements mix_values
no_lines es ms no_elements no_mixes = record {
  are = four [] _ [] _ _ _ _ _ refl refl no_elements (ap (map view_mix) no_mixes);
  headed = λ none. refl;
}

-- ---- one OBU of each type

same_headers : (s : List ObuValue) (o : ObuValue) → of_plain header_in o ≡ [] → sequence_headers (s ++ o ∷ []) ≡ sequence_headers s
same_headers s o none = headers-push s o ∙ ap (λ xs. sequence_headers s ++ xs) none ∙ append-nil (sequence_headers s)

same_elements : (s : List ObuValue) (o : ObuValue) → of_plain element_in o ≡ [] → audio_elements (s ++ o ∷ []) ≡ audio_elements s
same_elements s o none = elements-push s o ∙ ap (λ xs. audio_elements s ++ xs) none ∙ append-nil (audio_elements s)

no_marks : (l k : List Role) (ms : List MixValue) → ms ≡ [] → map (mix_facts k) ms ≡ map (mix_facts l) ms
no_marks l k ms none = ap (map (mix_facts k)) none ∙ sym (ap (map (mix_facts l)) none)

headers_of : (s : List ObuValue) → (descriptor_facts s).headers ≡ sequence_headers s
unfolding descriptor_facts
headers_of s = refl

codecs_of : (s : List ObuValue) → (descriptor_facts s).codecs ≡ map role_of_codec (codec_configs s)
unfolding descriptor_facts
codecs_of s = refl

pub header_added : (lines : Lines) (line : HeaderLine) (h : SequenceHeaderFields) (s : List ObuValue) (o : ObuValue) → view_header line ≡ h → AreLines lines s → Says o (content.Header h) → HasNoFault (roles_of s) (role o)
    → AreLines (record lines { header = Some line }) (s ++ o ∷ [])
header_added lines line h s o is stands says fine =
    let role_is : role o ≡ SequenceHeader h.primary_profile = rw (says.plain, says.content_is) refl in
    let none : profiles (roles_of s) ≡ [] = none_of (profiles (roles_of s)) (header_before (roles_of s) ((subst (HasNoFault (roles_of s)) role_is fine).early)) in
    let no_header : sequence_headers s ≡ [] = unmapped (λ h. h.primary_profile) (sequence_headers s) (sym (profiles_are s) ∙ none) in
    let old_none : (view_lines lines).headers ≡ [] = ap (λ (f : DescriptorFacts). f.headers) stands.are ∙ headers_of s ∙ no_header in
    let adds : Adds o (h ∷ []) [] [] [] = record { headers = rw (says.plain, says.content_is) refl; codecs = rw (says.plain, says.content_is) refl; elements = rw (says.plain, says.content_is) refl; mixes = rw (says.plain, says.content_is) refl } in
    record {
      are = are_more lines (record lines { header = Some line }) s o (h ∷ []) [] [] [] adds stands.are
          (record {
            headers = ap (λ (x : SequenceHeaderFields). x ∷ []) is ∙ sym (ap (λ (xs : List SequenceHeaderFields). xs ++ h ∷ []) old_none);
            codecs = sym (append-nil (view_lines lines).codecs);
            elements = sym (append-nil (view_lines lines).elements);
            mixes = sym (append-nil (view_lines lines).mixes);
          })
          (no_marks (roles_of s) (roles_of (s ++ o ∷ [])) (mix_values s ++ []) (append-nil (mix_values s) ∙ stands.headed no_header));
      headed = λ empty. absurd (never (none_after (sequence_headers s) (h ∷ []) (sym (headers-push s o ∙ ap (λ xs. sequence_headers s ++ xs) adds.headers) ∙ empty)));
    }
  where
    never : h ∷ [] ≡ [] → ⊥
    never e = cc

pub codec_added : (lines : Lines) (line : CodecLine) (c : CodecConfigFields) (s : List ObuValue) (o : ObuValue) → view_codec line ≡ role_of_codec c → AreLines lines s → Says o (content.Codec c) → HasNoFault (roles_of s) (role o)
    → AreLines (record lines { codec = Some line }) (s ++ o ∷ [])
codec_added lines line c s o is stands says fine =
    let role_is : role o ≡ CodecConfig (role_of_codec c) = rw (says.plain, says.content_is) refl in
    let no_fault : HasNoFault (roles_of s) (CodecConfig (role_of_codec c)) = subst (HasNoFault (roles_of s)) role_is fine in
    let old_none : (view_lines lines).codecs ≡ [] = ap (λ (f : DescriptorFacts). f.codecs) stands.are ∙ codecs_of s ∙ sym (codecs_are s) ∙ codec_none (roles_of s) (role_of_codec c) no_fault.late in
    let adds : Adds o [] (c ∷ []) [] [] = record { headers = rw (says.plain, says.content_is) refl; codecs = rw (says.plain, says.content_is) refl; elements = rw (says.plain, says.content_is) refl; mixes = rw (says.plain, says.content_is) refl } in
    record {
      are = are_more lines (record lines { codec = Some line }) s o [] (c ∷ []) [] [] adds stands.are
          (record {
            headers = sym (append-nil (view_lines lines).headers);
            codecs = ap (λ (x : CodecRole). x ∷ []) is ∙ sym (ap (λ (xs : List CodecRole). xs ++ role_of_codec c ∷ []) old_none);
            elements = sym (append-nil (view_lines lines).elements);
            mixes = sym (append-nil (view_lines lines).mixes);
          })
          (marks_stay s (s ++ o ∷ []) (same_headers s o adds.headers) (same_elements s o adds.elements) (mix_values s ++ []));
      headed = headed_before s o (some_header s 2 (codec_before (roles_of s) no_fault.early));
    }

pub element_added : (lines : Lines) (new : Vec ElementLine Global) (line : ElementLine) (e : AudioElementFields) (s : List ObuValue) (o : ObuValue) → new.items ≡ lines.elements.items ++ line ∷ [] → line ≡ element_facts e
    → AreLines lines s → Says o (content.Element e) → HasNoFault (roles_of s) (role o) → AreLines (record lines { elements = new }) (s ++ o ∷ [])
element_added lines new line e s o more is stands says fine =
    let role_is : role o ≡ AudioElement (element_role e) = rw (says.plain, says.content_is) refl in
    let order : is_out_of_order (roles_of s) 3 ≡ false = element_before (roles_of s) ((subst (HasNoFault (roles_of s)) role_is fine).early) in
    let no_mixes : mix_values s ≡ [] = no_values s (no_mix 3 (omega arith) (roles_of s) (order_parts (roles_of s) 3 order).1) in
    let adds : Adds o [] [] (e ∷ []) [] = record { headers = rw (says.plain, says.content_is) refl; codecs = rw (says.plain, says.content_is) refl; elements = rw (says.plain, says.content_is) refl; mixes = rw (says.plain, says.content_is) refl } in
    record {
      are = are_more lines (record lines { elements = new }) s o [] [] (e ∷ []) [] adds stands.are
          (record {
            headers = sym (append-nil (view_lines lines).headers);
            codecs = sym (append-nil (view_lines lines).codecs);
            elements = more ∙ ap (λ (x : ElementLine). lines.elements.items ++ x ∷ []) is;
            mixes = sym (append-nil (view_lines lines).mixes);
          })
          (no_marks (roles_of s) (roles_of (s ++ o ∷ [])) (mix_values s ++ []) (append-nil (mix_values s) ∙ no_mixes));
      headed = headed_before s o (some_header s 3 order);
    }

-- the tags that a tail is read as
pub tags_read : (tags : Option (List Tag)) (rest tail : List ℕ) → tags_of tail ≡ option_map (λ (ts : List Tag). (ts, rest)) tags → unwrap_or tags [] ≡ tags_or_none (tags_of tail)
tags_read None rest tail reads = rw reads refl
tags_read (Some ts) rest tail reads = rw reads refl

pub mix_added : (lines : Lines) (new : Vec MixLines Global) (line : MixLines) (fit : Bool) (m : MixPresentationFields) (s : List ObuValue) (o : ObuValue) → new.items ≡ lines.mixes.items ++ line ∷ []
    → line.mix ≡ marked_mix fit m → map view_tag line.tags.items ≡ tags_or_none (tags_of o.tail) → fit ≡ fits (roles_of s) (mix_role m)
    → AreLines lines s → Says o (content.Mix m) → HasNoFault (roles_of s) (role o) → AreLines (record lines { mixes = new }) (s ++ o ∷ [])
mix_added lines new line fit m s o more is tags fits_is stands says fine =
    let role_is : role o ≡ MixPresentation (mix_role m) = rw (says.plain, says.content_is) refl in
    let order : is_out_of_order (roles_of s) 4 ≡ false = mix_before (roles_of s) ((subst (HasNoFault (roles_of s)) role_is fine).early) in
    let value : MixValue = record { fields = m; tail = o.tail } in
    let adds : Adds o [] [] [] (value ∷ []) = record { headers = rw (says.plain, says.content_is) refl; codecs = rw (says.plain, says.content_is) refl; elements = rw (says.plain, says.content_is) refl; mixes = rw (says.plain, says.content_is) refl } in
    let viewed : view_mix line ≡ mix_facts (roles_of s) value = facts_by (line.mix) (marked_mix (fits (roles_of s) (mix_role m)) m) (map view_tag line.tags.items) (tags_or_none (tags_of o.tail)) (is ∙ ap (λ b. marked_mix b m) fits_is) tags in
    record {
      are = are_more lines (record lines { mixes = new }) s o [] [] [] (value ∷ []) adds stands.are
          (record {
            headers = sym (append-nil (view_lines lines).headers);
            codecs = sym (append-nil (view_lines lines).codecs);
            elements = sym (append-nil (view_lines lines).elements);
            mixes = ap (map view_mix) more ∙ map-append view_mix lines.mixes.items (line ∷ []) ∙ ap (λ (x : MixFacts). map view_mix lines.mixes.items ++ x ∷ []) viewed;
          })
          (marks_stay s (s ++ o ∷ []) (same_headers s o adds.headers) (same_elements s o adds.elements) (mix_values s ++ value ∷ []));
      headed = headed_before s o (some_header s 4 order);
    }
  where
    facts_by : (a b : MixLine) (x y : List Tag) → a ≡ b → x ≡ y → let p : MixFacts = record { mix = a; tags = x } in let q : MixFacts = record { mix = b; tags = y } in p ≡ q
    facts_by a b x y ab xy = cc

-- ---- redundant copies and OBUs that are no descriptors

no_descriptor : (redundant : Bool) (c : Content) (tail : List ℕ) → (redundant ≡ true) ⊎ (IsDescriptor c → ⊥)
    → (cond redundant [] (header_in c) ≡ []) × (cond redundant [] (codec_in c) ≡ []) × (cond redundant [] (element_in c) ≡ []) × (cond redundant [] (mix_with c tail) ≡ [])
no_descriptor true c tail other = (refl, refl, refl, refl)
no_descriptor false c tail (inl copy) = absurd cc
no_descriptor false (content.Header x) tail (inr none) = absurd (none tt)
no_descriptor false (content.Codec x) tail (inr none) = absurd (none tt)
no_descriptor false (content.Element x) tail (inr none) = absurd (none tt)
no_descriptor false (content.Mix x) tail (inr none) = absurd (none tt)
no_descriptor false (content.Block x) tail (inr none) = (refl, refl, refl, refl)
no_descriptor false (content.Frame x) tail (inr none) = (refl, refl, refl, refl)
no_descriptor false content.Nothing tail (inr none) = (refl, refl, refl, refl)

pub other_added : (lines : Lines) (s : List ObuValue) (o : ObuValue) → AreLines lines s → IsOther o → AreLines lines (s ++ o ∷ [])
other_added lines s o stands other =
    let none = no_descriptor o.head.redundant o.content o.tail other in
    let adds : Adds o [] [] [] [] = record { headers = none.0; codecs = none.1; elements = none.2; mixes = none.3 } in
    record {
      are = are_more lines lines s o [] [] [] [] adds stands.are
          (record {
            headers = sym (append-nil (view_lines lines).headers);
            codecs = sym (append-nil (view_lines lines).codecs);
            elements = sym (append-nil (view_lines lines).elements);
            mixes = sym (append-nil (view_lines lines).mixes);
          })
          (marks_stay s (s ++ o ∷ []) (same_headers s o adds.headers) (same_elements s o adds.elements) (mix_values s ++ []));
      headed = λ empty. mixes-push s o ∙ ap (λ xs. mix_values s ++ xs) adds.mixes ∙ append-nil (mix_values s) ∙ stands.headed (sym (same_headers s o adds.headers) ∙ empty);
    }

-- ---- the end

pub finished : (lines : Lines) (units samples : ℕ) (s : List ObuValue) → AreLines lines s → units ≡ unit_count (roles_of s) → samples ≡ kept (roles_of s)
    → let f : Facts = record { descriptors = view_lines lines; units = units; samples = samples } in f ≡ facts_of s
unfolding facts_of
finished lines units samples s stands units_are samples_are = by (view_lines lines) (descriptor_facts s) units (unit_count (roles_of s)) samples (kept (roles_of s)) stands.are units_are samples_are where
  by : (a b : DescriptorFacts) (m n x y : ℕ) → a ≡ b → m ≡ n → x ≡ y → let p : Facts = record { descriptors = a; units = m; samples = x } in let q : Facts = record { descriptors = b; units = n; samples = y } in p ≡ q
  by a b m n x y ab mn xy = cc
