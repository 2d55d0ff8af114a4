-- Over any list of calls no change of a numbered client has two entries: only a new call adds an entry, and a call is new if and only if the
-- journal has none of its client and xid.
use Rattle.std.proofs.Common.{◌<◌, List, [], ◌∷◌, ◌++◌, length, arith, sym, subst}
use Rattle.nr_reduce.specs.declared.mark.TaggedEntry.{TaggedEntry}
use Rattle.nr_reduce.specs.NumberedJournal.{HasNoEntryTwice}
use Rattle.nr_plain.proofs.EntriesApart.{added_apart, none_twice}
use Rattle.nr_plain.specs.Added.{entries_of_call}
use Rattle.nr_plain.specs.History.{xid_in}
use Rattle.nr_plain.specs.Numbered.{ChangesOnce, NumberedCall, added_for, journal_after}
use Rattle.nr_plain.specs.Setup.{Setup}
use Rattle.nr_plain.proofs.OneEntry.{one_at_most}
use Rattle.nr_plain.proofs.Standings.{added_same}

below_two : (c : NumberedCall) → length (entries_of_call c.moment c.payload c.reply) < 2
below_two c = (let few = one_at_most c.moment c.payload c.reply in omega (arith, few))

pub one_call : (s : Setup) (T : List TaggedEntry) (c : NumberedCall) → HasNoEntryTwice T → HasNoEntryTwice (T ++ added_for s T c)
one_call s T c is =
    subst (λ (added : List TaggedEntry). HasNoEntryTwice (T ++ added)) (sym (added_same s T c))
    (added_apart T c.client (xid_in c.payload) (entries_of_call c.moment c.payload c.reply) (below_two c) is)

all_calls : (s : Setup) (T : List TaggedEntry) (calls : List NumberedCall) → HasNoEntryTwice T → HasNoEntryTwice (journal_after s T calls)
all_calls s T [] is = is
all_calls s T (c ∷ calls) is = all_calls s (T ++ added_for s T c) calls (one_call s T c is)

pub changes_once_lem : ChangesOnce
changes_once_lem s calls = all_calls s [] calls none_twice
