use Rattle.std.proofs.Common.{◌∷◌, [], ◌++◌, List, ℕ, length, sym, ap, not, ◌∙◌, arith}
use Rattle.spec_descriptors.specs.AudioElement.{substream_channels_of}
use Rattle.obu_element_config.specs.ConfigView.{view_config}
use Rattle.obu_descriptors.specs.ElementView.{view_element}
use Rattle.iamf_admission.proofs.Channels.{one_more, no_more, all_known, none_known, some_known}
use Rattle.iamf_admission.proofs.parts.channels_of.Goals.{in-Some+in_ok-push, in_default}
use Rattle.iamf_admission.proofs.parts.channels_of.Goals as goal

pub loop-i-preserved : goal.loop-i-preserved
loop-i-preserved c =
    let known = substream_channels_of (view_config (length c.args.element.now.substreams.items) c.args.element.now.config) in
    elim c.match-substream_channels.branch [
      | in-Some+in_ok-push w ↦ rw w.channels-is (w.in_ok-push.ensures.items ∙ ap (λ (cs : List ℕ). cs ++ w.in-Some.count ∷ []) c.loop-i.invariant ∙ sym (one_more known c.loop-i.i w.in-Some.count w.in-Some.ensures))
      | in_default w ↦ rw w.channels-is (c.loop-i.invariant ∙ sym (no_more known c.loop-i.i w.in_default.ensures))
    ]

pub returns-then-is_none : goal.returns-then-is_none
returns-then-is_none c = none_known _ _ c.coded_channels.ensures (c.is_none.ensures ∙ ap not c.if-is_none.true)

pub returns : goal.returns
returns c =
    let known = substream_channels_of (view_config (length c.args.element.now.substreams.items) c.args.element.now.config) in
    some_known known c.loop-i.channels.items _ c.coded_channels.ensures (c.is_none.ensures ∙ ap not c.if-is_none.false)
    (c.loop-i.invariant ∙ all_known c.requires.0 c.loop-i.i (view_element c.args.element.now) c.requires.1 (omega (arith, c.loop-i-test.false, c.len-i-end.ensures.value)))
