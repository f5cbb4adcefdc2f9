use Rattle.spec_descriptors.proofs.TagReading.{tags_reads, one_tags, tags_written, tags_same}
use Rattle.spec_descriptors.proofs.tag_laws.one_reading_of_tags.Goals as goal

pub returns-clause-reads : goal.returns-clause-reads
returns-clause-reads c = tags_reads

pub returns-clause-one : goal.returns-clause-one
returns-clause-one c = one_tags

pub returns-clause-written : goal.returns-clause-written
returns-clause-written c = tags_written

pub returns-clause-same : goal.returns-clause-same
returns-clause-same c = tags_same
