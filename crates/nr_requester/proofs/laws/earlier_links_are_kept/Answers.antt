use Rattle.nr_requester.proofs.EarlierBeside.{earlier_beside, earlier_drains, earlier_feeds, earlier_reopens, earlier_runs_out, earlier_submits}
use Rattle.nr_requester.proofs.EarlierLinks.{earlier_counts, earlier_counts_stopped, earlier_goes, earlier_stays_on}
use Rattle.nr_requester.proofs.laws.earlier_links_are_kept.Goals as goal

pub returns-clause-goes : goal.returns-clause-goes
returns-clause-goes c = earlier_goes

pub returns-clause-counts : goal.returns-clause-counts
returns-clause-counts c = earlier_counts

pub returns-clause-counts_stopped : goal.returns-clause-counts_stopped
returns-clause-counts_stopped c = earlier_counts_stopped

pub returns-clause-stays : goal.returns-clause-stays
returns-clause-stays c = earlier_stays_on

pub returns-clause-submit : goal.returns-clause-submit
returns-clause-submit c = earlier_submits

pub returns-clause-drain : goal.returns-clause-drain
returns-clause-drain c = earlier_drains

pub returns-clause-feed : goal.returns-clause-feed
returns-clause-feed c = earlier_feeds

pub returns-clause-runs_out : goal.returns-clause-runs_out
returns-clause-runs_out c = earlier_runs_out

pub returns-clause-reopen : goal.returns-clause-reopen
returns-clause-reopen c = earlier_reopens

pub returns-clause-beside : goal.returns-clause-beside
returns-clause-beside c = earlier_beside
