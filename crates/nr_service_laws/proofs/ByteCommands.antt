-- Each call of a command that names bytes is of bytes, if the outcomes that were handed over before it are bytes.
use Rattle.std.specs.Prelude.{IfSome, nat_lt}
use Rattle.std.proofs.Common.{◌≡◌, ℕ, List, [], ◌++◌, length, Option, None, Some, Result, Ok, Err, inl, inr, refl, sym, ap, subst, ◌∙◌}
use Rattle.std.specs.Io.KnownBytes.{Consumes}
use Rattle.nr_xdr.specs.Item.{IsBytes}
use Rattle.nr_outside.specs.Streams.{SinkAt, SourceAt}
use Rattle.nr_nfs_base.specs.Limits.{link_target_max}
use Rattle.nr_words.specs.Limits.{mount_path_max}
use Rattle.nr_words.specs.Lines.{Text}
use Rattle.nr_words.specs.declared.commands.Action.{Action}
use Rattle.nr_words.specs.declared.commands.Action.TheVariants as actions
use Rattle.nr_reduce.specs.declared.call.Outcome.{Outcome}
use Rattle.nr_client.specs.declared.client_end.ClientEnd.{ClientEnd}
use Rattle.nr_client.specs.declared.client_end.ClientEnd.TheVariants as client
use Rattle.nr_client.specs.Listing.{list_next}
use Rattle.nr_client.specs.Requests.{create_result, getattr_call, getattr_result, mkdir_call, mnt_call, mnt_result, readlink_call, readlink_result, remove_call, remove_result, symlink_call}
use Rattle.nr_client.specs.Walking.{parent_next, walk_next}
use Rattle.nr_commands.specs.Commands.{Finds, FindsParent, Gets, Lists, MakesDirectory, MakesSymlink, Mounts, MountsAndPrints, Puts, ReadsLink, Removes, Stats, Symlinks, WritesIn}
use Rattle.nr_commands.specs.Printed.{attributes_text, handle_text, names_text, path_text}
use Rattle.nr_commands.specs.Running.{text_of}
use Rattle.nr_commands.specs.Sessions.{Fails, Request, Requests, SessionAt, Text as Prints, Then}
use Rattle.nr_service_laws.specs.Exchanges.{read_exchanges, tells_finds, tells_finds_parent, tells_get, tells_list, tells_make_directory, tells_make_symlink, tells_mount, tells_mounts, tells_none, tells_put, tells_read_link, tells_remove, tells_request, tells_requests, tells_stat, tells_symlinks, tells_text, tells_then, write_exchanges}
use Rattle.nr_service_laws.specs.TypedCommands.{NamesBytes}
use Rattle.nr_service_laws.proofs.ByteCalls.{AreWords, getattr_is, mkdir_is, mnt_is, readlink_is, remove_is, symlink_is}
use Rattle.nr_service_laws.proofs.ByteExchanges.{CallsAreBytes, PartBytes, both_calls, none_bytes, read_calls, request_bytes, requests_bytes, then_bytes, within_bytes, write_calls}
use Rattle.nr_service_laws.proofs.ByteRequests.{Any, PairOfBytes, lists, walks, walks_to_parent}
use Rattle.nr_service_laws.proofs.ByteResults.{ReadsBytes, mnt_bytes}

reads_any : {A : Type 0} (reads : Outcome → Result A ClientEnd) → ReadsBytes Any reads
reads_any reads outcome value o e = tt

-- ---- Files and directories

mounts_bytes : (uid gid : ℕ) (export : List ℕ) → AreWords uid gid → IsBytes export → PartBytes IsBytes (Mounts uid gid export) (tells_mounts uid gid export)
mounts_bytes uid gid export words e s s' result is =
    within_bytes IsBytes (nat_lt mount_path_max (length export)) (Fails (client.Budget mount_path_max) s s' result) (Request mnt_result (mnt_call uid gid export) s s' result)
    (tells_request mnt_result (mnt_call uid gid export) s s' result) is result (λ fails. (client.Budget mount_path_max, fails.1))
    (λ asked. request_bytes IsBytes mnt_result (mnt_call uid gid export) (mnt_is uid gid export words e) mnt_bytes s s' result asked)

symlinks_bytes : (uid gid : ℕ) (dir name target : List ℕ) → AreWords uid gid → IsBytes dir → IsBytes name → IsBytes target → PartBytes Any (Symlinks uid gid dir name target) (tells_symlinks uid gid dir name target)
symlinks_bytes uid gid dir name target words d n t s s' result is =
    within_bytes Any (nat_lt link_target_max (length target)) (Fails (client.Budget link_target_max) s s' result) (Request create_result (symlink_call uid gid dir name target) s s' result)
    (tells_request create_result (symlink_call uid gid dir name target) s s' result) is result (λ fails. (client.Budget link_target_max, fails.1))
    (λ asked. request_bytes Any create_result (symlink_call uid gid dir name target) (symlink_is uid gid dir name target words d n t) (reads_any create_result) s s' result asked)

pub finds_bytes : (uid gid : ℕ) (export path : List ℕ) → AreWords uid gid → IsBytes export → IsBytes path → PartBytes IsBytes (Finds uid gid export path) (tells_finds uid gid export path)
finds_bytes uid gid export path words e p =
    then_bytes IsBytes IsBytes (Mounts uid gid export) (λ root. Requests (walk_next uid gid root path)) (tells_mounts uid gid export) (λ root. tells_requests (walk_next uid gid root path))
    (mounts_bytes uid gid export words e) (λ root r. requests_bytes IsBytes (walk_next uid gid root path) (walks uid gid root path words r p))

pub parents_bytes : (uid gid : ℕ) (export path : List ℕ) → AreWords uid gid → IsBytes export → IsBytes path → PartBytes PairOfBytes (FindsParent uid gid export path) (tells_finds_parent uid gid export path)
parents_bytes uid gid export path words e p =
    then_bytes IsBytes PairOfBytes (Mounts uid gid export) (λ root. Requests (parent_next uid gid root path)) (tells_mounts uid gid export) (λ root. tells_requests (parent_next uid gid root path))
    (mounts_bytes uid gid export words e) (λ root r. requests_bytes PairOfBytes (parent_next uid gid root path) (walks_to_parent uid gid root path words r p))

-- ---- Commands

mount_bytes : (uid gid : ℕ) (export : List ℕ) → AreWords uid gid → IsBytes export → PartBytes Any (MountsAndPrints uid gid export) (tells_mount uid gid export)
mount_bytes uid gid export words e =
    then_bytes IsBytes Any (Mounts uid gid export) (λ root. Prints (handle_text root)) (tells_mounts uid gid export) (λ root. tells_none (Prints (handle_text root))) (mounts_bytes uid gid export words e)
    (λ root r. none_bytes (Prints (handle_text root)))

list_bytes : (uid gid : ℕ) (export path : List ℕ) → AreWords uid gid → IsBytes export → IsBytes path → PartBytes Any (Lists uid gid export path) (tells_list uid gid export path)
list_bytes uid gid export path words e p =
    then_bytes IsBytes Any (Finds uid gid export path) (λ dir. Then (Requests (list_next uid gid dir)) (λ names. Prints (names_text names))) (tells_finds uid gid export path)
    (λ dir. tells_then (Requests (list_next uid gid dir)) (λ names. Prints (names_text names)) (tells_requests (list_next uid gid dir)) (λ names. tells_none (Prints (names_text names))))
    (finds_bytes uid gid export path words e p)
    (λ dir d. then_bytes Any Any (Requests (list_next uid gid dir)) (λ names. Prints (names_text names)) (tells_requests (list_next uid gid dir)) (λ names. tells_none (Prints (names_text names)))
    (requests_bytes Any (list_next uid gid dir) (lists uid gid dir words d)) (λ names n. none_bytes (Prints (names_text names))))

stat_bytes : (uid gid : ℕ) (export path : List ℕ) → AreWords uid gid → IsBytes export → IsBytes path → PartBytes Any (Stats uid gid export path) (tells_stat uid gid export path)
stat_bytes uid gid export path words e p =
    then_bytes IsBytes Any (Finds uid gid export path) (λ file. Then (Request getattr_result (getattr_call uid gid file)) (λ attributes. Prints (attributes_text attributes))) (tells_finds uid gid export path)
    (λ file. tells_then (Request getattr_result (getattr_call uid gid file)) (λ attributes. Prints (attributes_text attributes)) (tells_request getattr_result (getattr_call uid gid file))
    (λ attributes. tells_none (Prints (attributes_text attributes))))
    (finds_bytes uid gid export path words e p)
    (λ file f. then_bytes Any Any (Request getattr_result (getattr_call uid gid file)) (λ attributes. Prints (attributes_text attributes)) (tells_request getattr_result (getattr_call uid gid file))
    (λ attributes. tells_none (Prints (attributes_text attributes)))
    (request_bytes Any getattr_result (getattr_call uid gid file) (getattr_is uid gid file words f) (reads_any getattr_result)) (λ attributes a. none_bytes (Prints (attributes_text attributes))))

link_bytes : (uid gid : ℕ) (export path : List ℕ) → AreWords uid gid → IsBytes export → IsBytes path → PartBytes Any (ReadsLink uid gid export path) (tells_read_link uid gid export path)
link_bytes uid gid export path words e p =
    then_bytes IsBytes Any (Finds uid gid export path) (λ file. Then (Request readlink_result (readlink_call uid gid file)) (λ link. Prints (path_text link.path))) (tells_finds uid gid export path)
    (λ file. tells_then (Request readlink_result (readlink_call uid gid file)) (λ link. Prints (path_text link.path)) (tells_request readlink_result (readlink_call uid gid file))
    (λ link. tells_none (Prints (path_text link.path))))
    (finds_bytes uid gid export path words e p)
    (λ file f. then_bytes Any Any (Request readlink_result (readlink_call uid gid file)) (λ link. Prints (path_text link.path)) (tells_request readlink_result (readlink_call uid gid file))
    (λ link. tells_none (Prints (path_text link.path)))
    (request_bytes Any readlink_result (readlink_call uid gid file) (readlink_is uid gid file words f) (reads_any readlink_result)) (λ link l. none_bytes (Prints (path_text link.path))))

directory_bytes : (uid gid : ℕ) (export path : List ℕ) → AreWords uid gid → IsBytes export → IsBytes path → PartBytes Any (MakesDirectory uid gid export path) (tells_make_directory uid gid export path)
directory_bytes uid gid export path words e p =
    then_bytes PairOfBytes Any (FindsParent uid gid export path) (λ place. Then (Request create_result (mkdir_call uid gid place.0 place.1)) (λ made. Prints [])) (tells_finds_parent uid gid export path)
    (λ place. tells_then (Request create_result (mkdir_call uid gid place.0 place.1)) (λ made. Prints []) (tells_request create_result (mkdir_call uid gid place.0 place.1)) (λ made. tells_none (Prints [])))
    (parents_bytes uid gid export path words e p)
    (λ place d. then_bytes Any Any (Request create_result (mkdir_call uid gid place.0 place.1)) (λ made. Prints []) (tells_request create_result (mkdir_call uid gid place.0 place.1)) (λ made. tells_none (Prints []))
    (request_bytes Any create_result (mkdir_call uid gid place.0 place.1) (mkdir_is uid gid place.0 place.1 words d.0 d.1) (reads_any create_result)) (λ made m. none_bytes (Prints [])))

remove_bytes : (uid gid : ℕ) (export path : List ℕ) → AreWords uid gid → IsBytes export → IsBytes path → PartBytes Any (Removes uid gid export path) (tells_remove uid gid export path)
remove_bytes uid gid export path words e p =
    then_bytes PairOfBytes Any (FindsParent uid gid export path) (λ place. Then (Request remove_result (remove_call uid gid place.0 place.1)) (λ removed. Prints [])) (tells_finds_parent uid gid export path)
    (λ place. tells_then (Request remove_result (remove_call uid gid place.0 place.1)) (λ removed. Prints []) (tells_request remove_result (remove_call uid gid place.0 place.1)) (λ removed. tells_none (Prints [])))
    (parents_bytes uid gid export path words e p)
    (λ place d. then_bytes Any Any (Request remove_result (remove_call uid gid place.0 place.1)) (λ removed. Prints []) (tells_request remove_result (remove_call uid gid place.0 place.1))
    (λ removed. tells_none (Prints []))
    (request_bytes Any remove_result (remove_call uid gid place.0 place.1) (remove_is uid gid place.0 place.1 words d.0 d.1) (reads_any remove_result)) (λ removed r. none_bytes (Prints [])))

symlink_bytes : (uid gid : ℕ) (export path target : List ℕ) → AreWords uid gid → IsBytes export → IsBytes path → IsBytes target → PartBytes Any (MakesSymlink uid gid export path target) (tells_make_symlink uid gid export path target)
symlink_bytes uid gid export path target words e p t =
    then_bytes PairOfBytes Any (FindsParent uid gid export path) (λ place. Then (Symlinks uid gid place.0 place.1 target) (λ made. Prints [])) (tells_finds_parent uid gid export path)
    (λ place. tells_then (Symlinks uid gid place.0 place.1 target) (λ made. Prints []) (tells_symlinks uid gid place.0 place.1 target) (λ made. tells_none (Prints [])))
    (parents_bytes uid gid export path words e p)
    (λ place d. then_bytes Any Any (Symlinks uid gid place.0 place.1 target) (λ made. Prints []) (tells_symlinks uid gid place.0 place.1 target) (λ made. tells_none (Prints []))
    (symlinks_bytes uid gid place.0 place.1 target words d.0 d.1 t) (λ made m. none_bytes (Prints [])))

get_bytes : (uid gid : ℕ) (export path : List ℕ) (out out' : SinkAt) → AreWords uid gid → IsBytes export → IsBytes path → (s s' : SessionAt) (text : Result (List ℕ) ClientEnd) (is : Gets uid gid export path out out' s s' text)
    → CallsAreBytes (tells_get uid gid export path out out' s s' text is).made
get_bytes uid gid export path out out' words e p s s' text (inl (file, (mid, (finds, (done, ((reads, counts), silent)))))) =
    let one = finds_bytes uid gid export path words e p s mid (Ok file) finds in
    both_calls (tells_finds uid gid export path s mid (Ok file) finds).made
    (read_exchanges uid gid file mid s' out.taken out'.taken done reads).made one.0
    (λ all. read_calls uid gid file words (one.1 all file refl) mid s' out.taken out'.taken done reads)
get_bytes uid gid export path out out' words e p s s' text (inr (end, (finds, same))) = (finds_bytes uid gid export path words e p s s' (Err end) finds).0

all_input : (known : List ℕ) (after : Option (List ℕ)) (handed rest : List ℕ) → IsBytes known → Consumes (Some known) after handed → IfSome after (λ left. rest ≡ left) → IsBytes (handed ++ rest)
all_input known None handed rest h takes is = absurd takes
all_input known (Some left) handed rest h takes is = subst IsBytes (takes ∙ ap (λ (l : List ℕ). handed ++ l) (sym is)) h

-- the calls of a `put` that found its directory, if what it read of its input and what it left are bytes
pub put_calls : (uid gid : ℕ) (export path : List ℕ) (input input' : SourceAt) → AreWords uid gid → IsBytes export → IsBytes path → (s s' : SessionAt) (text : Result (List ℕ) ClientEnd) (place : List ℕ × List ℕ) (mid : SessionAt)
    (finds : FindsParent uid gid export path s mid (Ok place)) (writes : WritesIn uid gid place.0 place.1 input input' mid s' text) → IsBytes (writes.1.0.0.handed ++ writes.1.0.0.rest)
    → CallsAreBytes (tells_put uid gid export path input input' s s' text (inl (place, (mid, (finds, writes))))).made
put_calls uid gid export path input input' words e p s s' text place mid finds (done, ((writes, counts), silent)) input_is =
    let one = parents_bytes uid gid export path words e p s mid (Ok place) finds in
    both_calls (tells_finds_parent uid gid export path s mid (Ok place) finds).made
    (write_exchanges uid gid place.0 place.1 mid s' input.left input.given input'.left input'.given done writes).made one.0
    (λ all. let pair = one.1 all place refl in
    write_calls uid gid place.0 place.1 writes.handed writes.rest words pair.0 pair.1 input_is mid s' done writes.calls)

put_bytes : (uid gid : ℕ) (export path : List ℕ) (input input' : SourceAt) → AreWords uid gid → IsBytes export → IsBytes path → (known : List ℕ) → input.left ≡ Some known → IsBytes known → (s s' : SessionAt)
    (text : Result (List ℕ) ClientEnd) (is : Puts uid gid export path input input' s s' text) → CallsAreBytes (tells_put uid gid export path input input' s s' text is).made
put_bytes uid gid export path input input' words e p known is_known i s s' text (inl (place, (mid, (finds, (done, ((writes, counts), silent)))))) =
    put_calls uid gid export path input input' words e p s s' text place mid finds (done, ((writes, counts), silent))
    (all_input known input'.left writes.handed writes.rest i (subst (λ (o : Option (List ℕ)). Consumes o input'.left writes.handed) is_known writes.hands_out.from_left) writes.is_rest)
put_bytes uid gid export path input input' words e p known is_known i s s' text (inr (end, (finds, same))) = (parents_bytes uid gid export path words e p s s' (Err end) finds).0

pub command_calls : (uid gid : ℕ) (export : List ℕ) (action : Action Text) (input input' : SourceAt) (out out' : SinkAt) (s s' : SessionAt) (text : Result (List ℕ) ClientEnd)
    (is : text_of uid gid export action input input' out out' s s' text) → AreWords uid gid → IsBytes export → NamesBytes action input
    → CallsAreBytes (tells_text uid gid export action input input' out out' s s' text is).made
command_calls uid gid export actions.Mount input input' out out' s s' text is words e names = (mount_bytes uid gid export words e s s' text is.0).0
command_calls uid gid export (actions.List path) input input' out out' s s' text is words e names = (list_bytes uid gid export path words e names s s' text is.0).0
command_calls uid gid export (actions.Stat path) input input' out out' s s' text is words e names = (stat_bytes uid gid export path words e names s s' text is.0).0
command_calls uid gid export (actions.ReadLink path) input input' out out' s s' text is words e names = (link_bytes uid gid export path words e names s s' text is.0).0
command_calls uid gid export (actions.MakeDirectory path) input input' out out' s s' text is words e names = (directory_bytes uid gid export path words e names s s' text is.0).0
command_calls uid gid export (actions.Remove path) input input' out out' s s' text is words e names = (remove_bytes uid gid export path words e names s s' text is.0).0
command_calls uid gid export (actions.Link path target) input input' out out' s s' text is words e names = (symlink_bytes uid gid export path target words e names.0 names.1 s s' text is.0).0
command_calls uid gid export (actions.Put path) input input' out out' s s' text is words e names =
    put_bytes uid gid export path input input' words e names.0 (names.1).0 ((names.1).1).0 ((names.1).1).1 s s' text is.0
command_calls uid gid export (actions.Get path) input input' out out' s s' text is words e names = get_bytes uid gid export path out out' words e names s s' text is.0
