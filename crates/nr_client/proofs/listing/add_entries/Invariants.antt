use Rattle.nr_client.proofs.Listings.{Adding}
use Rattle.nr_client.proofs.listing.add_entries.Given as goal

abbrev pub invariant-loop-entry : goal.invariant-loop-entry
invariant-loop-entry l = Adding l.fn.listed.names l.fn.listed.cookie l.entries l.entry-index l.listed.names l.listed.cookie
