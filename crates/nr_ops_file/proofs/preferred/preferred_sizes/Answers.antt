use Rattle.nr_ops_file.proofs.PreferredSizes as sizes
use Rattle.nr_ops_file.proofs.preferred.preferred_sizes.Goals as goal

pub returns-clause-read : goal.returns-clause-read
returns-clause-read c = sizes.read_all

pub returns-clause-read_above : goal.returns-clause-read_above
returns-clause-read_above c = sizes.read_most

pub returns-clause-write : goal.returns-clause-write
returns-clause-write c = sizes.write_all

pub returns-clause-write_above : goal.returns-clause-write_above
returns-clause-write_above c = sizes.write_most

pub returns-clause-limits : goal.returns-clause-limits
returns-clause-limits c = sizes.are_limits

pub returns-clause-preferred : goal.returns-clause-preferred
returns-clause-preferred c = sizes.are_preferred

pub returns-clause-multiples : goal.returns-clause-multiples
returns-clause-multiples c = sizes.are_multiples

pub returns-clause-file : goal.returns-clause-file
returns-clause-file c = sizes.file_short

pub returns-clause-write_within : goal.returns-clause-write_within
returns-clause-write_within c = sizes.write_within

pub returns-clause-write_past : goal.returns-clause-write_past
returns-clause-write_past c = sizes.write_past

pub returns-clause-size_within : goal.returns-clause-size_within
returns-clause-size_within c = sizes.size_within

pub returns-clause-size_past : goal.returns-clause-size_past
returns-clause-size_past c = sizes.size_past
