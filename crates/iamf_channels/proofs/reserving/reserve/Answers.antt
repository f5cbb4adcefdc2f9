use Rattle.std.proofs.Common.{arith, ◌≡◌, ◌<◌, ◌≤◌, ◌+◌, ℕ, List, [], ◌∷◌, ◌++◌, length, length-append, map, take, get_or, sym, subst, ap, ◌∙◌}
use Rattle.std.specs.Prelude.{sum, sum_by}
use Rattle.std.specs.List.{All}
use Rattle.std.proofs.lemmas.List.{take_all, take_more}
use Rattle.std.proofs.lemmas.List.Sums.{sum_by_push}
use Rattle.iamf_bits.specs.Rows.{Rows}
use Rattle.spec_descriptors.specs.AudioElement.{substream_channels_of}
use Rattle.obu_descriptors.specs.ElementView.{view_element}
use Rattle.iamf_channels.specs.Needed.{stream_channels}
use Rattle.iamf_channels.proofs.StreamCounts.{few_channels, none_there, some_there, list_count, total_is}
use Rattle.iamf_channels.proofs.CodedRows.{sum_is}
use Rattle.iamf_channels.proofs.RowLists.{map_pushed, all_pushed}
use Rattle.iamf_channels.proofs.reserving.reserve.Goals as goal

pub new-requires-clause-channels : goal.new-requires-clause-channels
new-requires-clause-channels c =
    omega (arith, few_channels (view_element c.args.element.now).config c.loop-i.i c.in-Some.channels (sym c.substream_channels.ensures ∙ c.in-Some.is))

pub unreachable-requires : goal.unreachable-requires
unreachable-requires c =
    let element = view_element c.args.element.now in
    let count = list_count c.requires.valid.0 element c.requires.valid.1 c.requires.known in
    let below : c.loop-i.i < length (stream_channels element.config) = omega arith in
    none_there (substream_channels_of element.config) c.loop-i.i c.requires.known below (sym c.substream_channels.ensures ∙ c.in-None.is)

pub overflow_add-total : goal.overflow_add-total
overflow_add-total c = omega (arith, few_channels (view_element c.args.element.now).config c.loop-i.i c.in-Some.channels (sym c.substream_channels.ensures ∙ c.in-Some.is))

pub loop-i-preserved : goal.loop-i-preserved
loop-i-preserved c =
    let element = view_element c.args.element.now in
    let channels = stream_channels element.config in
    let i = c.loop-i.i in
    let old = c.loop-i.planes.items in
    let rows = c.in_ok-new-in-Some.field-0 in
    let items : c.push.new.self.items ≡ old ++ rows ∷ [] = c.in_ok-push-in-Some.ensures.items in
    let count = list_count c.requires.valid.0 element c.requires.valid.1 c.requires.known in
    let below : i < length channels = omega arith in
    let one : rows.channels ≡ get_or channels i 0 = c.in_ok-new-in-Some.ensures.channels ∙ sym (some_there (substream_channels_of element.config) i c.in-Some.channels (sym c.substream_channels.ensures ∙ c.in-Some.is)) in
    let wide : rows.channels ≡ c.in-Some.channels = c.in_ok-new-in-Some.ensures.channels in
    let more : sum_by (λ (q : Rows). q.channels) (old ++ rows ∷ []) ≡ sum_by (λ (q : Rows). q.channels) old + rows.channels = sum_by_push (λ (q : Rows). q.channels) old rows in
    let total : c.loop-i.total + c.in-Some.channels ≡ sum_by (λ (q : Rows). q.channels) (old ++ rows ∷ []) = let so_far = c.loop-i.invariant.sum in omega arith in
    record {
      count = ap (λ (xs : List Rows). length xs) items ∙ length-append old (rows ∷ []) ∙ omega arith;
      channels = ap (map (λ (q : Rows). q.channels)) items ∙ map_pushed (λ (q : Rows). q.channels) old rows (get_or channels i 0) (take i channels) c.loop-i.invariant.channels one ∙ sym (take_more channels i 0 below);
      lengths = subst (λ (xs : List Rows). All (λ (q : Rows). q.length ≡ c.args.frame_length) xs) (sym items) (all_pushed (λ (q : Rows). q.length ≡ c.args.frame_length) old rows c.loop-i.invariant.lengths c.in_ok-new-in-Some.ensures.length);
      sum = total ∙ sym (ap (λ (xs : List Rows). sum_by (λ (q : Rows). q.channels) xs) items);
    }

pub returns-clause-enough : goal.returns-clause-enough
returns-clause-enough c =
    let element = view_element c.args.element.now in
    let channels = stream_channels element.config in
    let planes = c.loop-i.planes.items in
    let count = list_count c.requires.valid.0 element c.requires.valid.1 c.requires.known in
    let past : length channels ≤ c.loop-i.i = omega arith in
    let so_far = c.loop-i.invariant.sum in
    let all : sum_by (λ (q : Rows). q.channels) planes ≡ sum channels = sym (sum_is planes) ∙ ap (λ (cs : List ℕ). sum cs) (c.loop-i.invariant.channels ∙ take_all c.loop-i.i channels past) in
    let total = total_is element.config in
    omega arith
