-- The end of each command over a shared requester.
use Rattle.std.proofs.Common.{◌≡◌, ◌<◌, ℕ, List, [], ◌++◌, length, ltb-true, Result, Ok, Err, inl, inr, refl, sym, subst}
use Rattle.std.specs.Prelude.{IfSome, nat_lt}
use Rattle.nr_outside.specs.Faults.{Rises}
use Rattle.nr_outside.specs.Streams.{SinkAt, SourceAt}
use Rattle.nr_outside.specs.Whole.{input_max}
use Rattle.nr_nfs_base.specs.Limits.{link_target_max}
use Rattle.nr_words.specs.Limits.{mount_path_max}
use Rattle.nr_words.specs.Lines.{Text}
use Rattle.nr_words.specs.declared.commands.Action.{Action}
use Rattle.nr_words.specs.declared.commands.Action.TheVariants as actions
use Rattle.nr_reduce.specs.declared.call.Call.{Call}
use Rattle.nr_reduce.specs.declared.call.Outcome.{Outcome}
use Rattle.nr_client.specs.declared.client_end.ClientEnd.{ClientEnd}
use Rattle.nr_client.specs.declared.client_end.ClientEnd.TheVariants as client
use Rattle.nr_client.specs.CallerViews.{CallerView, shared_relations}
use Rattle.nr_client.specs.Listing.{list_next}
use Rattle.nr_client.specs.Paths.{path_names}
use Rattle.nr_client.specs.Requests.{create_result, getattr_call, getattr_result, mkdir_call, mnt_call, mnt_result, readlink_call, readlink_result, remove_call, remove_result, symlink_call}
use Rattle.nr_client.specs.Walking.{parent_next, walk_next}
use Rattle.nr_client.specs.Writing.{EndsWritingOver, writing}
use Rattle.nr_client.specs.Writing.EndsWritingOver.{FollowsInput, InputFails}
use Rattle.nr_client.proofs.CallerTickets.{IsKnown}
use Rattle.nr_commands.specs.Commands.{FindsOver, FindsParentOver, GetsOver, ListsOver, MakesDirectoryOver, MakesSymlinkOver, MountsAndPrintsOver, MountsOver, PutsOver, ReadsLinkOver, RemovesOver, StatsOver, SymlinksOver}
use Rattle.nr_commands.specs.Printed.{attributes_text, handle_text, names_text, path_text}
use Rattle.nr_commands.specs.Running.{text_of_over}
use Rattle.nr_commands.specs.Sessions.{FailsOver, RequestOver, RequestsOver, TextOver, ThenOver}
use Rattle.nr_service_laws.proofs.Judged.{Any, BadParent, Judgement, ResultIs, list_is, parent_is, reading_is, walk_is, writing_is}
use Rattle.nr_service_laws.proofs.JudgedCommands.{WordsGive}
use Rattle.nr_top_laws.proofs.CallerExchanges.{grows_both}
use Rattle.nr_top_laws.proofs.CallerParts.{Does, GivenIn, PartIn, R, asks_in, does_silent, follows_in, input_rose, made_moves, output_rose, reads_in, requests_in, stays_in, text_in, then_in, whole_input, within_in}

module _ (u : CallerView) (V : List ℕ → Type 0) (F : ClientEnd → Type 0) (uid gid : ℕ) (judge : Judgement (R u) V F uid gid) where
  abbrev LongExport : List ℕ → Type 0
  LongExport export = mount_path_max < length export → F (client.Budget mount_path_max)

  abbrev BadPath : List ℕ → Type 0
  BadPath path = (at : ℕ) → path_names path ≡ Err (client.BadPath at) → F (client.BadPath at)

  abbrev Place : List ℕ × List ℕ → Type 0
  Place p = V p.0

  fails_in : {A : Type 0} (W : A → Type 0) (H : Type 0) (count : ℕ) → F (client.Budget count) → PartIn {A = A} H u W F (FailsOver (client.Budget count))
  fails_in {A} W H count over v w result (same, is) known = stays_in H u W F v w result same known (subst (λ (r : Result A ClientEnd). GivenIn W F r w) (sym is) over)

  mounts_in : (H : Type 0) (export : List ℕ) → LongExport export → PartIn H u V F (MountsOver shared_relations uid gid export)
  mounts_in H export over v w result is known =
      within_in (nat_lt mount_path_max (length export)) (FailsOver (client.Budget mount_path_max) v w result) (RequestOver shared_relations mnt_result (mnt_call uid gid export) v w result) (Does H u V F v w result)
      (λ above fails. fails_in V H mount_path_max (over (ltb-true mount_path_max (length export) above)) v w result fails known)
      (λ made. asks_in u V F mnt_result (mnt_call uid gid export) H (λ h. judge.mounted export) v w result made known) is

  symlinks_in : (H : Type 0) (dir name target : List ℕ) → (link_target_max < length target → F (client.Budget link_target_max)) → PartIn H u Any F (SymlinksOver shared_relations uid gid dir name target)
  symlinks_in H dir name target over v w result is known =
      within_in (nat_lt link_target_max (length target)) (FailsOver (client.Budget link_target_max) v w result) (RequestOver shared_relations create_result (symlink_call uid gid dir name target) v w result) (Does H u Any F v w result)
      (λ above fails. fails_in Any H link_target_max (over (ltb-true link_target_max (length target) above)) v w result fails known)
      (λ made. asks_in u Any F create_result (symlink_call uid gid dir name target) H (λ h. judge.link_made dir name target) v w result made known) is

  finds_in : (H : Type 0) (export path : List ℕ) → LongExport export → BadPath path → PartIn H u V F (FindsOver shared_relations uid gid export path)
  finds_in H export path over bad =
      then_in H u V V F (MountsOver shared_relations uid gid export) (λ root. RequestsOver shared_relations (walk_next uid gid root path)) (mounts_in H export over)
      (λ root. requests_in u V F (walk_next uid gid root path) (V root) (λ holds. walk_is (R u) V F uid gid judge root path holds bad))

  finds_parent_in : (H : Type 0) (export path : List ℕ) → LongExport export → BadParent F path → PartIn H u Place F (FindsParentOver shared_relations uid gid export path)
  finds_parent_in H export path over bad =
      then_in H u V Place F (MountsOver shared_relations uid gid export) (λ root. RequestsOver shared_relations (parent_next uid gid root path)) (mounts_in H export over)
      (λ root. requests_in u Place F (parent_next uid gid root path) (V root) (λ holds. parent_is (R u) V F uid gid judge root path holds bad))

  -- a request of a file or a directory that was found, and its text
  asked_in : {A B : Type 0} (value : B) (W : B → Type 0) (reads : Outcome → Result A ClientEnd) (call : Call) (text : A → List ℕ) → ((o : Outcome) → R u call o → ResultIs Any F (reads o))
      → PartIn (W value) u Any F (ThenOver (RequestOver shared_relations reads call) (λ results. TextOver (text results)))
  asked_in value W reads call text judged =
      then_in (W value) u Any Any F (RequestOver shared_relations reads call) (λ results. TextOver (text results)) (asks_in u Any F reads call (W value) (λ h. judged)) (λ results. text_in (Any results) u F (text results))

  mount_in : (export : List ℕ) → LongExport export → PartIn (Unit {0}) u Any F (MountsAndPrintsOver shared_relations uid gid export)
  mount_in export over = then_in (Unit {0}) u V Any F (MountsOver shared_relations uid gid export) (λ root. TextOver (handle_text root)) (mounts_in (Unit {0}) export over) (λ root. text_in (V root) u F (handle_text root))

  lists_in : (export path : List ℕ) → LongExport export → BadPath path → PartIn (Unit {0}) u Any F (ListsOver shared_relations uid gid export path)
  lists_in export path over bad =
      then_in (Unit {0}) u V Any F (FindsOver shared_relations uid gid export path) (λ dir. ThenOver (RequestsOver shared_relations (list_next uid gid dir)) (λ names. TextOver (names_text names))) (finds_in (Unit {0}) export path over bad)
      (λ dir. then_in (V dir) u Any Any F (RequestsOver shared_relations (list_next uid gid dir)) (λ names. TextOver (names_text names))
      (requests_in u Any F (list_next uid gid dir) (V dir) (λ holds. list_is (R u) V F uid gid judge dir)) (λ names. text_in (Any names) u F (names_text names)))

  stats_in : (export path : List ℕ) → LongExport export → BadPath path → PartIn (Unit {0}) u Any F (StatsOver shared_relations uid gid export path)
  stats_in export path over bad =
      then_in (Unit {0}) u V Any F (FindsOver shared_relations uid gid export path) (λ file. ThenOver (RequestOver shared_relations getattr_result (getattr_call uid gid file)) (λ attributes. TextOver (attributes_text attributes)))
      (finds_in (Unit {0}) export path over bad) (λ file. asked_in file V getattr_result (getattr_call uid gid file) (λ attributes. attributes_text attributes) (judge.attributes file))

  reads_link_in : (export path : List ℕ) → LongExport export → BadPath path → PartIn (Unit {0}) u Any F (ReadsLinkOver shared_relations uid gid export path)
  reads_link_in export path over bad =
      then_in (Unit {0}) u V Any F (FindsOver shared_relations uid gid export path) (λ file. ThenOver (RequestOver shared_relations readlink_result (readlink_call uid gid file)) (λ link. TextOver (path_text link.path)))
      (finds_in (Unit {0}) export path over bad) (λ file. asked_in file V readlink_result (readlink_call uid gid file) (λ link. path_text link.path) (judge.link_read file))

  makes_directory_in : (export path : List ℕ) → LongExport export → BadParent F path → PartIn (Unit {0}) u Any F (MakesDirectoryOver shared_relations uid gid export path)
  makes_directory_in export path over bad =
      then_in (Unit {0}) u Place Any F (FindsParentOver shared_relations uid gid export path) (λ place. ThenOver (RequestOver shared_relations create_result (mkdir_call uid gid place.0 place.1)) (λ made. TextOver []))
      (finds_parent_in (Unit {0}) export path over bad) (λ place. asked_in place Place create_result (mkdir_call uid gid place.0 place.1) (λ made. []) (judge.directory_made place.0 place.1))

  removes_in : (export path : List ℕ) → LongExport export → BadParent F path → PartIn (Unit {0}) u Any F (RemovesOver shared_relations uid gid export path)
  removes_in export path over bad =
      then_in (Unit {0}) u Place Any F (FindsParentOver shared_relations uid gid export path) (λ place. ThenOver (RequestOver shared_relations remove_result (remove_call uid gid place.0 place.1)) (λ removed. TextOver []))
      (finds_parent_in (Unit {0}) export path over bad) (λ place. asked_in place Place remove_result (remove_call uid gid place.0 place.1) (λ removed. []) (judge.removed place.0 place.1))

  makes_symlink_in : (export path target : List ℕ) → LongExport export → BadParent F path → (link_target_max < length target → F (client.Budget link_target_max)) → PartIn (Unit {0}) u Any F (MakesSymlinkOver shared_relations uid gid export path target)
  makes_symlink_in export path target over bad long =
      then_in (Unit {0}) u Place Any F (FindsParentOver shared_relations uid gid export path) (λ place. ThenOver (SymlinksOver shared_relations uid gid place.0 place.1 target) (λ made. TextOver [])) (finds_parent_in (Unit {0}) export path over bad)
      (λ place. then_in (Place place) u Any Any F (SymlinksOver shared_relations uid gid place.0 place.1 target) (λ made. TextOver []) (symlinks_in (Place place) place.0 place.1 target long) (λ made. text_in (Any made) u F []))

  gets_in : (export path : List ℕ) (out out' : SinkAt) → LongExport export → BadPath path → (Rises out.faults out'.faults → F client.OutputFault) → PartIn (Unit {0}) u Any F (GetsOver shared_relations uid gid export path out out')
  gets_in export path out out' over bad fault v w text (inl (file, (mid, (finds, (done, ((reads, counts), silent)))))) known =
      let d = finds_in (Unit {0}) export path over bad v mid (Ok file) finds known in
      let e = does_silent u (V file) F mid w done text silent
      (reads_in u F uid gid file mid w out.taken out'.taken done reads (λ is. fault (output_rose u done out.faults out'.faults counts.0 is)) (V file) (λ holds. reading_is (R u) V F uid gid judge file holds) d.known) in
      record { grows = grows_both v mid w d.grows e.grows; known = e.known; given = λ h g. e.given (d.given h (grows_both mid w u e.grows g)) g }
  gets_in export path out out' over bad fault v w text (inr (end, (finds, (same, kept)))) known =
      let d = finds_in (Unit {0}) export path over bad v w (Err end) finds known in
      record { grows = d.grows; known = d.known; given = λ h g. subst (λ (r : Result (List ℕ) ClientEnd). GivenIn Any F r w) (sym same) (d.given h g) }

  writes_in : (H : Type 0) (dir name handed rest : List ℕ) (v w : CallerView) (result : Result (Unit {0}) ClientEnd) → EndsWritingOver shared_relations uid gid dir name handed rest v w result
      → (input_max < length (handed ++ rest) → F (client.Budget input_max)) → (result ≡ Err client.InputFault → F client.InputFault) → IsKnown v → Does H u Any F v w result
  writes_in H dir name handed rest v w result (FollowsInput follows count ahead) over fault known =
      follows_in u Any F (writing uid gid dir name (handed ++ rest)) H (λ h. writing_is (R u) V F uid gid judge dir name (handed ++ rest) over) v w result follows known
  writes_in H dir name handed rest v w result (InputFails outcomes is made ahead) over fault known =
      let m = made_moves u (writing uid gid dir name (handed ++ rest)) outcomes v w made known in
      record { grows = m.0; known = m.1; given = λ h g. subst (λ (r : Result (Unit {0}) ClientEnd). GivenIn Any F r w) (sym is) (fault is) }

  puts_in : (export path : List ℕ) (input input' : SourceAt) → LongExport export → BadParent F path → (IfSome input.left (λ known. input_max < length known) → F (client.Budget input_max)) → (Rises input.faults input'.faults → F client.InputFault)
      → PartIn (Unit {0}) u Any F (PutsOver shared_relations uid gid export path input input')
  puts_in export path input input' over bad long fault v w text (inl (place, (mid, (finds, (done, ((writes, counts), silent)))))) known =
      let d = finds_parent_in (Unit {0}) export path over bad v mid (Ok place) finds known in
      let e = does_silent u (Place place) F mid w done text silent
      (writes_in (Place place) place.0 place.1 writes.handed writes.rest mid w done writes.calls (λ more. long (whole_input u writes.handed writes.rest input.left input'.left writes.hands_out.from_left writes.is_rest more))
      (λ is. fault (input_rose u done input.faults input'.faults counts.0 is)) d.known) in
      record { grows = grows_both v mid w d.grows e.grows; known = e.known; given = λ h g. e.given (d.given h (grows_both mid w u e.grows g)) g }
  puts_in export path input input' over bad long fault v w text (inr (end, (finds, (same, kept)))) known =
      let d = finds_parent_in (Unit {0}) export path over bad v w (Err end) finds known in
      record { grows = d.grows; known = d.known; given = λ h g. subst (λ (r : Result (List ℕ) ClientEnd). GivenIn Any F r w) (sym same) (d.given h g) }

  pub command_in : (export : List ℕ) (action : Action Text) (input input' : SourceAt) (out out' : SinkAt) → WordsGive F export action input → (Rises input.faults input'.faults → F client.InputFault) → (Rises out.faults out'.faults → F client.OutputFault)
      → PartIn (Unit {0}) u Any F (text_of_over shared_relations uid gid export action input input' out out')
  command_in export actions.Mount input input' out out' give input_fault output_fault v w text is known = mount_in export give.export_long v w text is.0 known
  command_in export (actions.List path) input input' out out' give input_fault output_fault v w text is known = lists_in export path give.export_long give.path_bad v w text is.0 known
  command_in export (actions.Stat path) input input' out out' give input_fault output_fault v w text is known = stats_in export path give.export_long give.path_bad v w text is.0 known
  command_in export (actions.ReadLink path) input input' out out' give input_fault output_fault v w text is known = reads_link_in export path give.export_long give.path_bad v w text is.0 known
  command_in export (actions.MakeDirectory path) input input' out out' give input_fault output_fault v w text is known = makes_directory_in export path give.export_long give.path_bad v w text is.0 known
  command_in export (actions.Remove path) input input' out out' give input_fault output_fault v w text is known = removes_in export path give.export_long give.path_bad v w text is.0 known
  command_in export (actions.Link path target) input input' out out' give input_fault output_fault v w text is known = makes_symlink_in export path target give.export_long give.path_bad (give.target_long path target refl) v w text is.0 known
  command_in export (actions.Put path) input input' out out' give input_fault output_fault v w text is known = puts_in export path input input' give.export_long give.path_bad (give.input_long path refl) input_fault v w text is.0 known
  command_in export (actions.Get path) input input' out out' give input_fault output_fault v w text is known = gets_in export path out out' give.export_long give.path_bad output_fault v w text is.0 known
