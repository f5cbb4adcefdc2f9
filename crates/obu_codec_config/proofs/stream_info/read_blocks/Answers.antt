use Rattle.std.proofs.Common.{rules, ◌≡◌, [], ◌++◌, refl, arith}
use Rattle.std.proofs.lemmas.Result.{err_from_is_err_and}
use Rattle.spec_bits.specs.Blocks.{body_size}
use Rattle.obu_codec_config.proofs.Walking.{taken_bytes, walk_starts, walk_goes_on, walk_ends, head_is_cut, body_is_cut, between_is, two_shorter, on_byte_after}
use Rattle.obu_codec_config.proofs.stream_info.read_blocks.Goals as goal

pub block-init : goal.block-init
block-init c = (c.requires, c.at-start.ensures.place, ([], walk_starts c.args.view.now))

pub bounds-head-1 : goal.bounds-head-1
bounds-head-1 c = let size = (taken_bytes 4 _ _ _ c.in_ok-head.ensures.takes c.in_ok-head.ensures.bytes).size in search rules

pub bounds-head-2 : goal.bounds-head-2
bounds-head-2 c = let size = (taken_bytes 4 _ _ _ c.in_ok-head.ensures.takes c.in_ok-head.ensures.bytes).size in search rules

pub bounds-head-3 : goal.bounds-head-3
bounds-head-3 c = let size = (taken_bytes 4 _ _ _ c.in_ok-head.ensures.takes c.in_ok-head.ensures.bytes).size in search rules

pub bounds-head-0 : goal.bounds-head-0
bounds-head-0 c = let size = (taken_bytes 4 _ _ _ c.in_ok-head.ensures.takes c.in_ok-head.ensures.bytes).size in search rules

pub returns-in_err-head-clause-gives : goal.returns-in_err-head-clause-gives
returns-in_err-head-clause-gives c =
    let p = err_from_is_err_and c.from_residual.result c.from_residual.ensures.1 in
    let w = c.block.invariant.2 in
    rw (p.1, p.2, head_is_cut _ _ w.0 _ w.1 c.in_err-head.ensures.takes.0) refl

pub returns-in_err-take_bytes-clause-gives : goal.returns-in_err-take_bytes-clause-gives
returns-in_err-take_bytes-clause-gives c =
    let p = err_from_is_err_and c.from_residual-in_err-take_bytes.result c.from_residual-in_err-take_bytes.ensures.1 in
    let w = c.block.invariant.2 in
    let head = taken_bytes 4 _ _ _ c.in_ok-head.ensures.takes c.in_ok-head.ensures.bytes in
    let size : c.from_be_bytes-size.result ≡ body_size c.in_ok-head.head.now = omega (arith, c.from_be_bytes-size.ensures) in
    rw (p.1, p.2, body_is_cut _ _ _ w.0 _ _ w.1 head (rw size at c.in_err-take_bytes.ensures.takes.0)) refl

pub returns-then-head-ge128-clause-gives : goal.returns-then-head-ge128-clause-gives
returns-then-head-ge128-clause-gives c =
    let w = c.block.invariant.2 in
    let head = taken_bytes 4 _ _ _ c.in_ok-head.ensures.takes c.in_ok-head.ensures.bytes in
    let size : c.from_be_bytes-size.result ≡ body_size c.in_ok-head.head.now = omega (arith, c.from_be_bytes-size.ensures) in
    let body = taken_bytes (body_size c.in_ok-head.head.now) _ _ _ (rw size at c.in_ok-take_bytes.ensures.takes) (rw size at c.in_ok-take_bytes.ensures.bytes) in
    let end = walk_ends _ _ _ _ w.0 _ _ w.1 head body c.if-head-ge128.true in
    let bytes = between_is _ _ _ _ _ end.1 c.requires c.block.invariant.1 refl in
    rw (end.0, c.since.ensures.range, bytes) refl

pub block-smaller : goal.block-smaller
block-smaller c =
    let head = taken_bytes 4 _ _ _ c.in_ok-head.ensures.takes c.in_ok-head.ensures.bytes in
    let body = taken_bytes c.from_be_bytes-size.result _ _ _ c.in_ok-take_bytes.ensures.takes c.in_ok-take_bytes.ensures.bytes in
    two_shorter _ _ _ _ _ _ head body

pub block-preserved : goal.block-preserved
block-preserved c =
    let w = c.block.invariant.2 in
    let head = taken_bytes 4 _ _ _ c.in_ok-head.ensures.takes c.in_ok-head.ensures.bytes in
    let size : c.from_be_bytes-size.result ≡ body_size c.in_ok-head.head.now = omega (arith, c.from_be_bytes-size.ensures) in
    let body = taken_bytes (body_size c.in_ok-head.head.now) _ _ _ (rw size at c.in_ok-take_bytes.ensures.takes) (rw size at c.in_ok-take_bytes.ensures.bytes) in
    let goes = walk_goes_on _ _ _ _ w.0 _ _ w.1 head body c.if-head-ge128.false in
    (on_byte_after _ _ _ c.requires goes.between, c.block.invariant.1, (w.0 ++ (c.in_ok-head.head.now ++ c.in_ok-take_bytes.field-0.now), goes))
