use Rattle.std.proofs.Common.{◌≡◌, ◌-◌, length, rules}
use Rattle.std.specs.Prelude.{None, slice_range}
use Rattle.spec_bits.specs.Leb.{leb_bytes}
use Rattle.obu_header.specs.View.{head_of}
use Rattle.iamf_sequence.proofs.ShortestHeaders.{shortest}
use Rattle.iamf_sequence.proofs.spelling.has_shortest_header.Goals as goal

pub returns : goal.returns
returns c = λ yes.
    let b = c.args.spelling.now in
    let payload = c.args.view.now.payload.now in
    let no_trim : (head_of c.args.view.now.head).trim ≡ None = search rules in
    let no_extension : (head_of c.args.view.now.head).extension ≡ None = search rules in
    let size : leb_bytes (length payload) ≡ slice_range b 1 (length b - length payload) = search (rules, yes) in
    shortest (head_of c.args.view.now.head) payload b no_trim no_extension c.requires size
