use Rattle.std.proofs.Common.{ap, length, length-append, arith}
use Rattle.std.specs.List.{flat_map}
use Rattle.spec_files.specs.Body.{marked, rebuilt}
use Rattle.mp4_boxes.specs.TrackViews.{track_seen, samples_left}
use Rattle.iamf_mux.specs.Demuxing.{bare}
use Rattle.iamf_stream.specs.Feeding.{Tells}
use Rattle.iamf_stream.proofs.Fed.{tells, reads_told, refusal_told}
use Rattle.iamf_mux.proofs.FedTracks.{config_fed, fits, sample_fed, all_fed}
use Rattle.iamf_mux.proofs.demuxing.check.Goals.{in-Ok, in-Err}
use Rattle.iamf_mux.proofs.demuxing.check.Goals as goal

pub feed-requires : goal.feed-requires
unfolding rebuilt
feed-requires c =
    let t = track_seen c.args.track.now in
    omega (arith, c.requires, c.new-checker.ensures.none, ap length c.config.ensures, length-append t.config (flat_map marked t.samples))

pub loop-bytes-init : goal.loop-bytes-init
unfolding rebuilt
loop-bytes-init c =
    let t = track_seen c.args.track.now in
    config_fed c.new-checker.result c.feed.new.checker c.config.result.now t.config (samples_left c.samples-samples.result) t.samples c.config.ensures c.samples-samples.ensures c.new-checker.ensures.stands c.new-checker.ensures.none
    (record { knows = c.feed.ensures.knows; fed = c.feed.ensures.fed })

pub feed-requires-in-Some : goal.feed-requires-in-Some
feed-requires-in-Some c =
    omega (arith, fits c.loop-bytes.checker (samples_left c.loop-bytes.samples) (samples_left c.next_sample.new.self) _ (bare c.args.track.now) c.in-Some.ensures.next c.loop-bytes.invariant c.requires)

pub feed-requires-in-Some-2 : goal.feed-requires-in-Some-2
feed-requires-in-Some-2 c =
    omega (arith, c.feed-in-Some.ensures.fed, fits c.loop-bytes.checker (samples_left c.loop-bytes.samples) (samples_left c.next_sample.new.self) c.in-Some.bytes.now (bare c.args.track.now) c.in-Some.ensures.next c.loop-bytes.invariant c.requires)

pub loop-bytes-preserved : goal.loop-bytes-preserved
loop-bytes-preserved c =
    sample_fed c.loop-bytes.checker c.feed-in-Some.new.checker c.feed-in-Some-2.new.checker (samples_left c.loop-bytes.samples) (samples_left c.next_sample.new.self) c.in-Some.bytes.now (bare c.args.track.now) c.in-Some.ensures.next c.loop-bytes.invariant
    (record { knows = c.feed-in-Some.ensures.knows; fed = c.feed-in-Some.ensures.fed }) (record { knows = c.feed-in-Some-2.ensures.knows; fed = c.feed-in-Some-2.ensures.fed })

told : (c : goal.Joined-finish-2) → Tells c.finish.result (bare c.args.track.now)
told c =
    tells c.loop-bytes.checker c.finish.result (bare c.args.track.now) (record { finishes = c.finish.ensures.finishes; spent = c.finish.ensures.spent })
    (all_fed c.loop-bytes.checker (samples_left c.loop-bytes.samples) (bare c.args.track.now) c.in_default.ensures.none c.loop-bytes.invariant)

pub returns-clause-reads : goal.returns-clause-reads
returns-clause-reads c = elim c.match-finish.branch [
  | in-Ok w ↦ rw w.result-is (reads_told c.finish.result _ (bare c.args.track.now) w.in-Ok.is (told c))
  | in-Err w ↦ rw w.result-is tt
]

pub returns-clause-refused : goal.returns-clause-refused
returns-clause-refused c = elim c.match-finish.branch [
  | in-Ok w ↦ rw w.result-is tt
  | in-Err w ↦ rw w.result-is (refusal_told c.finish.result _ (bare c.args.track.now) w.in-Err.is (told c))
]
