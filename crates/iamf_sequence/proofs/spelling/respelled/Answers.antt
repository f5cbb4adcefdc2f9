use Rattle.std.proofs.Common.{◌≡◌, rules, sym, ◌∙◌, subst, ℕ, List}
use Rattle.spec_obu.specs.Header.{Header}
use Rattle.obu_header.specs.View.{head_of}
use Rattle.iamf_sequence.proofs.AdmittedContents.{already}
use Rattle.iamf_sequence.proofs.spelling.respelled.Goals as goal

pub has_shortest_header-requires : goal.has_shortest_header-requires
has_shortest_header-requires c =
    let r = c.requires in
    subst (λ (b : List ℕ). Header (head_of c.args.view.now.head) c.args.view.now.payload.now b) (sym r.5) r.4.next.header

pub returns-then-has_shortest_header : goal.returns-then-has_shortest_header
returns-then-has_shortest_header c = λ bytes at l e one there.
    already bytes at c.args.admission.now c.args.view.now c.args.obu.now l e c.args.spelling.now one (c.has_no_fields.ensures c.if-has_no_fields.true) (c.has_shortest_header.ensures c.if-has_shortest_header.true)

pub returns-then-eq : goal.returns-then-eq
returns-then-eq c = λ bytes at l e one there.
    let same : c.in_ok-canonical.canonical.items ≡ c.args.spelling.now = search rules in
    sym same ∙ c.in_ok-canonical.ensures bytes at l e one
