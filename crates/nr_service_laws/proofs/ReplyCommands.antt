-- Each command whose outcomes are replies ends by them.
use Rattle.std.proofs.Common.{◌≡◌, ℕ, List, [], Result, Ok, Err, inl, inr, sym, subst}
use Rattle.nr_outside.specs.Faults.{Rises}
use Rattle.nr_outside.specs.Streams.{SinkAt, SourceAt}
use Rattle.nr_words.specs.Lines.{Text}
use Rattle.nr_words.specs.declared.commands.Action.{Action}
use Rattle.nr_words.specs.declared.commands.Action.TheVariants as actions
use Rattle.nr_reduce.specs.declared.call.Outcome.{Outcome}
use Rattle.nr_client.specs.declared.client_end.ClientEnd.{ClientEnd}
use Rattle.nr_client.specs.declared.client_end.ClientEnd.TheVariants as client
use Rattle.nr_client.specs.Listing.{list_next}
use Rattle.nr_client.specs.Requests.{create_result, getattr_call, getattr_result, mkdir_call, readlink_call, readlink_result, remove_call, remove_result}
use Rattle.nr_client.specs.Views.{LinkView}
use Rattle.nr_commands.specs.Commands.{Finds, FindsParent, Gets, Lists, MakesDirectory, MakesSymlink, Mounts, MountsAndPrints, Puts, ReadsLink, Removes, Stats, Symlinks}
use Rattle.nr_commands.specs.Printed.{attributes_text, handle_text, names_text, path_text}
use Rattle.nr_commands.specs.Running.{IsPrinted, text_of}
use Rattle.nr_commands.specs.Running.Runs.{NotOpened, Opened}
use Rattle.nr_commands.specs.Sessions.{CountsFaults, Request, Requests, SessionAt, Text as Prints, Then}
use Rattle.nr_service_laws.specs.CommandEnds.{RepliesExcludeEnds}
use Rattle.nr_service_laws.specs.Exchanges.{outcomes_in, tells_finds, tells_finds_parent, tells_get, tells_list, tells_make_directory, tells_make_symlink, tells_mount, tells_mounts, tells_none, tells_put, tells_read_link, tells_reads_out, tells_remove, tells_request, tells_requests, tells_stat, tells_symlinks, tells_text, tells_then, tells_writes_in}
use Rattle.nr_service_laws.proofs.AnyOutcomes.{PeerEnd, given_by_peer}
use Rattle.nr_service_laws.proofs.Judged.{Any}
use Rattle.nr_service_laws.proofs.JudgedParts.{GivenIs}
use Rattle.nr_service_laws.proofs.ReplyRequests.{create_fine, getattr_fine, list_fine, readlink_fine, remove_fine}
use Rattle.nr_service_laws.proofs.ReplyParts.{IsFine, PartFine, counts_as, counts_then, fine_as, part_finds, part_finds_parent, part_mounts, part_reads_out, part_request, part_requests, part_symlinks, part_text, part_then, part_writes_in, replies_made}

command_mount : (uid gid : ℕ) (export : List ℕ) → PartFine (MountsAndPrints uid gid export) (tells_mount uid gid export)
command_mount uid gid export =
    part_then (Mounts uid gid export) (λ root. Prints (handle_text root)) (tells_mounts uid gid export) (λ root. tells_none (Prints (handle_text root)))
    (part_mounts uid gid export) (λ root. part_text (handle_text root))

command_list : (uid gid : ℕ) (export path : List ℕ) → PartFine (Lists uid gid export path) (tells_list uid gid export path)
command_list uid gid export path =
    part_then (Finds uid gid export path) (λ dir. Then (Requests (list_next uid gid dir)) (λ names. Prints (names_text names))) (tells_finds uid gid export path)
    (λ dir. tells_then (Requests (list_next uid gid dir)) (λ names. Prints (names_text names)) (tells_requests (list_next uid gid dir)) (λ names. tells_none (Prints (names_text names))))
    (part_finds uid gid export path)
    (λ dir. part_then (Requests (list_next uid gid dir)) (λ names. Prints (names_text names)) (tells_requests (list_next uid gid dir)) (λ names. tells_none (Prints (names_text names)))
    (part_requests (list_next uid gid dir) (list_fine uid gid dir)) (λ names. part_text (names_text names)))

command_stat : (uid gid : ℕ) (export path : List ℕ) → PartFine (Stats uid gid export path) (tells_stat uid gid export path)
command_stat uid gid export path =
    part_then (Finds uid gid export path) (λ file. Then (Request getattr_result (getattr_call uid gid file)) (λ attributes. Prints (attributes_text attributes)))
    (tells_finds uid gid export path)
    (λ file. tells_then (Request getattr_result (getattr_call uid gid file)) (λ attributes. Prints (attributes_text attributes))
    (tells_request getattr_result (getattr_call uid gid file)) (λ attributes. tells_none (Prints (attributes_text attributes))))
    (part_finds uid gid export path)
    (λ file. part_then (Request getattr_result (getattr_call uid gid file)) (λ attributes. Prints (attributes_text attributes))
    (tells_request getattr_result (getattr_call uid gid file)) (λ attributes. tells_none (Prints (attributes_text attributes)))
    (part_request getattr_result (getattr_call uid gid file) getattr_fine) (λ attributes. part_text (attributes_text attributes)))

command_read_link : (uid gid : ℕ) (export path : List ℕ) → PartFine (ReadsLink uid gid export path) (tells_read_link uid gid export path)
command_read_link uid gid export path =
    part_then (Finds uid gid export path) (λ file. Then (Request readlink_result (readlink_call uid gid file)) (λ link. Prints (path_text link.path)))
    (tells_finds uid gid export path)
    (λ file. tells_then (Request readlink_result (readlink_call uid gid file)) (λ link. Prints (path_text link.path))
    (tells_request readlink_result (readlink_call uid gid file)) (λ link. tells_none (Prints (path_text link.path))))
    (part_finds uid gid export path)
    (λ file. part_then (Request readlink_result (readlink_call uid gid file)) (λ link. Prints (path_text link.path))
    (tells_request readlink_result (readlink_call uid gid file)) (λ link. tells_none (Prints (path_text link.path)))
    (part_request readlink_result (readlink_call uid gid file) readlink_fine) (λ link. part_text (path_text link.path)))

command_make_directory : (uid gid : ℕ) (export path : List ℕ) → PartFine (MakesDirectory uid gid export path) (tells_make_directory uid gid export path)
command_make_directory uid gid export path =
    part_then (FindsParent uid gid export path) (λ place. Then (Request create_result (mkdir_call uid gid place.0 place.1)) (λ made. Prints []))
    (tells_finds_parent uid gid export path)
    (λ place. tells_then (Request create_result (mkdir_call uid gid place.0 place.1)) (λ made. Prints [])
    (tells_request create_result (mkdir_call uid gid place.0 place.1)) (λ made. tells_none (Prints [])))
    (part_finds_parent uid gid export path)
    (λ place. part_then (Request create_result (mkdir_call uid gid place.0 place.1)) (λ made. Prints [])
    (tells_request create_result (mkdir_call uid gid place.0 place.1)) (λ made. tells_none (Prints []))
    (part_request create_result (mkdir_call uid gid place.0 place.1) create_fine) (λ made. part_text []))

command_remove : (uid gid : ℕ) (export path : List ℕ) → PartFine (Removes uid gid export path) (tells_remove uid gid export path)
command_remove uid gid export path =
    part_then (FindsParent uid gid export path) (λ place. Then (Request remove_result (remove_call uid gid place.0 place.1)) (λ removed. Prints []))
    (tells_finds_parent uid gid export path)
    (λ place. tells_then (Request remove_result (remove_call uid gid place.0 place.1)) (λ removed. Prints [])
    (tells_request remove_result (remove_call uid gid place.0 place.1)) (λ removed. tells_none (Prints [])))
    (part_finds_parent uid gid export path)
    (λ place. part_then (Request remove_result (remove_call uid gid place.0 place.1)) (λ removed. Prints [])
    (tells_request remove_result (remove_call uid gid place.0 place.1)) (λ removed. tells_none (Prints []))
    (part_request remove_result (remove_call uid gid place.0 place.1) remove_fine) (λ removed. part_text []))

command_make_symlink : (uid gid : ℕ) (export path target : List ℕ) → PartFine (MakesSymlink uid gid export path target) (tells_make_symlink uid gid export path target)
command_make_symlink uid gid export path target =
    part_then (FindsParent uid gid export path) (λ place. Then (Symlinks uid gid place.0 place.1 target) (λ made. Prints []))
    (tells_finds_parent uid gid export path)
    (λ place. tells_then (Symlinks uid gid place.0 place.1 target) (λ made. Prints []) (tells_symlinks uid gid place.0 place.1 target) (λ made. tells_none (Prints [])))
    (part_finds_parent uid gid export path)
    (λ place. part_then (Symlinks uid gid place.0 place.1 target) (λ made. Prints []) (tells_symlinks uid gid place.0 place.1 target) (λ made. tells_none (Prints []))
    (part_symlinks uid gid place.0 place.1 target) (λ made. part_text []))

command_get : (uid gid : ℕ) (export path : List ℕ) (out out' : SinkAt) → PartFine (Gets uid gid export path out out') (tells_get uid gid export path out out')
command_get uid gid export path out out' s s' text (inl (file, (mid, (finds, reads)))) =
    let one = part_finds uid gid export path s mid (Ok file) finds in
    let two = part_reads_out uid gid file out out' mid s' text reads in (
      counts_then {A = List ℕ} {B = List ℕ} s mid s' file text one.0 two.0,
      λ are. two.1 (replies_made (tells_finds uid gid export path s mid (Ok file) finds).made (tells_reads_out uid gid file out out' mid s' text reads).made are).1,
    )
command_get uid gid export path out out' s s' text (inr (end, (finds, (same, kept)))) =
    fine_as (List ℕ) (List ℕ) (outcomes_in (tells_finds uid gid export path s s' (Err end) finds).made) s s' end text same (part_finds uid gid export path s s' (Err end) finds)

command_put : (uid gid : ℕ) (export path : List ℕ) (input input' : SourceAt) → PartFine (Puts uid gid export path input input') (tells_put uid gid export path input input')
command_put uid gid export path input input' s s' text (inl (place, (mid, (finds, writes)))) =
    let one = part_finds_parent uid gid export path s mid (Ok place) finds in
    let two = part_writes_in uid gid place.0 place.1 input input' mid s' text writes in (
      counts_then {A = List ℕ × List ℕ} {B = List ℕ} s mid s' place text one.0 two.0,
      λ are. two.1 (replies_made (tells_finds_parent uid gid export path s mid (Ok place) finds).made (tells_writes_in uid gid place.0 place.1 input input' mid s' text writes).made are).1,
    )
command_put uid gid export path input input' s s' text (inr (end, (finds, (same, kept)))) =
    fine_as (List ℕ × List ℕ) (List ℕ) (outcomes_in (tells_finds_parent uid gid export path s s' (Err end) finds).made) s s' end text same (part_finds_parent uid gid export path s s' (Err end) finds)

command_text : (uid gid : ℕ) (export : List ℕ) (action : Action Text) (input input' : SourceAt) (out out' : SinkAt)
    → PartFine (text_of uid gid export action input input' out out') (tells_text uid gid export action input input' out out')
command_text uid gid export actions.Mount input input' out out' s s' text is = command_mount uid gid export s s' text is.0
command_text uid gid export (actions.List path) input input' out out' s s' text is = command_list uid gid export path s s' text is.0
command_text uid gid export (actions.Stat path) input input' out out' s s' text is = command_stat uid gid export path s s' text is.0
command_text uid gid export (actions.ReadLink path) input input' out out' s s' text is = command_read_link uid gid export path s s' text is.0
command_text uid gid export (actions.MakeDirectory path) input input' out out' s s' text is = command_make_directory uid gid export path s s' text is.0
command_text uid gid export (actions.Remove path) input input' out out' s s' text is = command_remove uid gid export path s s' text is.0
command_text uid gid export (actions.Link path target) input input' out out' s s' text is = command_make_symlink uid gid export path target s s' text is.0
command_text uid gid export (actions.Put path) input input' out out' s s' text is = command_put uid gid export path input input' s s' text is.0
command_text uid gid export (actions.Get path) input input' out out' s s' text is = command_get uid gid export path out out' s s' text is.0

-- ---- Up to what is printed

ok_printed : (handed_over : List Outcome) (text : List ℕ) (result : Result (Unit {0}) ClientEnd) (out out' : SinkAt) (s s' : SessionAt) → IsPrinted (Ok text) result out out' → CountsFaults {A = List ℕ} s s' (Ok text)
    → IsFine handed_over s s' result
ok_printed handed_over text (Ok done) out out' s s' prints counts = (counts, λ are. tt)
ok_printed handed_over text (Err client.OutputFault) out out' s s' prints counts = (counts, λ are. tt)
ok_printed handed_over text (Err client.DialFault) out out' s s' prints counts = absurd prints
ok_printed handed_over text (Err (client.Link end)) out out' s s' prints counts = absurd prints
ok_printed handed_over text (Err (client.Rpc kind code)) out out' s s' prints counts = absurd prints
ok_printed handed_over text (Err (client.Mount status)) out out' s s' prints counts = absurd prints
ok_printed handed_over text (Err (client.Nfs status)) out out' s s' prints counts = absurd prints
ok_printed handed_over text (Err client.Chunk) out out' s s' prints counts = absurd prints
ok_printed handed_over text (Err (client.Version low high)) out out' s s' prints counts = absurd prints
ok_printed handed_over text (Err (client.BadReply at reason)) out out' s s' prints counts = absurd prints
ok_printed handed_over text (Err (client.BadPath at)) out out' s s' prints counts = absurd prints
ok_printed handed_over text (Err client.InputFault) out out' s s' prints counts = absurd prints
ok_printed handed_over text (Err (client.Budget count)) out out' s s' prints counts = absurd prints
ok_printed handed_over text (Err client.Memory) out out' s s' prints counts = absurd prints

printed_fine : (handed_over : List Outcome) (text : Result (List ℕ) ClientEnd) (result : Result (Unit {0}) ClientEnd) (out out' : SinkAt) (s s' : SessionAt) → IsPrinted text result out out' → IsFine handed_over s s' text
    → IsFine handed_over s s' result
printed_fine handed_over (Ok text) result out out' s s' prints one = ok_printed handed_over text result out out' s s' prints one.0
printed_fine handed_over (Err why) (Ok done) out out' s s' prints one = absurd prints
printed_fine handed_over (Err why) (Err end) out out' s s' (is, same) one =
    subst (λ (e : ClientEnd). IsFine handed_over {A = Unit {0}} s s' (Err e)) (sym is) (counts_as (List ℕ) (Unit {0}) s s' why one.0, one.1)

-- no session ends for its dialer
not_dial : (F : ClientEnd → Type 0) (result : Result (Unit {0}) ClientEnd) (b : LinkView) → GivenIs Any F result b → result ≡ Err client.DialFault → ⊥
not_dial F result b is same = subst (λ (r : Result (Unit {0}) ClientEnd). GivenIs Any F r b) same is

pub replies_exclude_ends_lem : RepliesExcludeEnds
replies_exclude_ends_lem c before after input input' out out' result (NotOpened end is fails same_input same_out) = tt
replies_exclude_ends_lem c before after input input' out out' result (Opened dialed s s' opens prints closes) =
    let made = (tells_text c.uid c.gid c.export c.action input input' out prints.written s s' prints.text prints.made).made in
    let fine = printed_fine (outcomes_in made) prints.text result prints.written out' s s' prints.prints (command_text c.uid c.gid c.export c.action input input' out prints.written s s' prints.text prints.made) in (
      fine.0,
      not_dial (PeerEnd c input made (Rises input.faults input'.faults) (Rises out.faults out'.faults)) result s' (given_by_peer c before dialed s s' input input' out out' result opens prints),
      fine.1,
    )
