use Rattle.std.proofs.Common.{◌≡◌, ◌<◌, [], ◌∷◌, length, arith, sym, subst}
use Rattle.std.specs.List.{All}
use Rattle.std.proofs.lemmas.List.Elements.{All-append}
use Rattle.nr_client.specs.private.JobReads.{AreFetched}
use Rattle.nr_client.proofs.JobCalls.{all_first, all_one}
use Rattle.nr_client.proofs.Tickets.{front}
use Rattle.nr_client.proofs.jobs.take_next.Goals as goal

pub returns-in-Ok-clause-lists : goal.returns-in-Ok-clause-lists
returns-in-Ok-clause-lists c uid gid size file mine seen all =
    let old = c.args.lists.now.items in let rest = c.remove-list.new.self.items in
    let one : 0 < length old = grind arith in
    let is : old ≡ c.remove-list.result ∷ rest = front old rest c.remove-list.result one c.remove-list.ensures.value c.remove-list.ensures.items in
    let both = all_first (λ l. AreFetched uid gid file size seen mine l.items) c.remove-list.result rest (subst (All (λ l. AreFetched uid gid file size seen mine l.items)) is all) in
    subst (All (λ l. AreFetched uid gid file size seen mine l.items)) (sym c.in-Ok.ensures.items)
    (All-append (λ l. AreFetched uid gid file size seen mine l.items) rest (c.take_first-outcome.new.list ∷ []) both.1 (all_one (λ l. AreFetched uid gid file size seen mine l.items) c.take_first-outcome.new.list (c.take_first-outcome.ensures.list uid gid size file mine seen both.0)))
