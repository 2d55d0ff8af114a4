-- The end of each command whose outcomes are judged call by call, with its cause if a call has no answer.
use Rattle.std.proofs.Common.{◌≡◌, ◌<◌, ℕ, List, [], ◌++◌, length, Result, Ok, Err, inl, inr, refl, sym, ap, subst}
use Rattle.std.specs.Prelude.{IfSome}
use Rattle.nr_outside.specs.Faults.{Rises}
use Rattle.nr_outside.specs.Streams.{SinkAt, SourceAt}
use Rattle.nr_outside.specs.Whole.{input_max}
use Rattle.nr_nfs_base.specs.Limits.{link_target_max}
use Rattle.nr_words.specs.Limits.{mount_path_max}
use Rattle.nr_words.specs.Lines.{Text}
use Rattle.nr_words.specs.declared.commands.Action.{Action}
use Rattle.nr_words.specs.declared.commands.Action.TheVariants as actions
use Rattle.nr_words.specs.declared.commands.Client.{Client}
use Rattle.nr_reduce.specs.declared.call.Call.{Call}
use Rattle.nr_reduce.specs.declared.call.Outcome.{Outcome}
use Rattle.nr_reduce.specs.declared.mark.LinkParameters.{LinkParameters}
use Rattle.nr_reduce.specs.Opening.{IsOpened, ClientOpened}
use Rattle.nr_client.specs.declared.client_end.ClientEnd.{ClientEnd}
use Rattle.nr_client.specs.declared.client_end.ClientEnd.TheVariants as client
use Rattle.nr_client.specs.Dialing.{DialerAt, session_credits}
use Rattle.nr_client.specs.Listing.{list_next}
use Rattle.nr_client.specs.Paths.{path_names}
use Rattle.nr_client.specs.Reading.{OutputFaults}
use Rattle.nr_client.specs.Requests.{create_result, getattr_call, getattr_result, mkdir_call, readlink_call, readlink_result, remove_call, remove_result}
use Rattle.nr_commands.specs.Commands.{Finds, FindsParent, Gets, IsSilent, Lists, MakesDirectory, MakesSymlink, Mounts, MountsAndPrints, Puts, ReadsLink, Removes, Stats, Symlinks}
use Rattle.nr_commands.specs.Printed.{attributes_text, handle_text, names_text, path_text}
use Rattle.nr_commands.specs.Running.{IsPrinted, Opens, Prints as PrintsAll, terms_of, text_of}
use Rattle.nr_commands.specs.Sessions.{Request, Requests, SessionAt, Text as Prints, Then}
use Rattle.nr_service_laws.specs.Exchanges.{tells_finds, tells_finds_parent, tells_get, tells_list, tells_make_directory, tells_make_symlink, tells_mount, tells_mounts, tells_none, tells_put, tells_read_link, tells_reads_out, tells_remove, tells_request, tells_requests, tells_stat, tells_symlinks, tells_text, tells_then, tells_writes_in}
use Rattle.nr_service_laws.proofs.Commands.{sessions_begin_lem}
use Rattle.nr_service_laws.specs.PeerEnds.{IsBadPath}
use Rattle.nr_service_laws.proofs.Judged.{Any, BadParent, Judgement, list_is}
use Rattle.nr_service_laws.proofs.JudgedParts.{AreJudged, EndsAs, GivenIs, PartIs, finds_is, finds_parent_is, judged_both, live_after, mounts_is, reads_after, reads_out_is, request_is, requests_is, symlinks_is, text_is, then_is, writes_in_is}
use Rattle.nr_service_laws.proofs.Parts.{has_finds, has_finds_parent, has_mounts, has_request, has_requests, has_symlinks}

-- what an end says that the words of a command give, or its input
pub record WordsGive (F : ClientEnd → Type 0) (export : List ℕ) (action : Action Text) (input : SourceAt) : Type 0 where
  pub export_long : mount_path_max < length export → F (client.Budget mount_path_max)
  pub path_bad : (at : ℕ) → IsBadPath action at → F (client.BadPath at)
  pub target_long : (path target : List ℕ) → action ≡ actions.Link path target → link_target_max < length target → F (client.Budget link_target_max)
  pub input_long : (path : List ℕ) → action ≡ actions.Put path → IfSome input.left (λ known. input_max < length known) → F (client.Budget input_max)

module _ (R : Call → Outcome → Type 0) (V : List ℕ → Type 0) (F : ClientEnd → Type 0) (uid gid : ℕ) (judge : Judgement R V F uid gid) where
  abbrev LongExport : List ℕ → Type 0
  LongExport export = mount_path_max < length export → F (client.Budget mount_path_max)

  abbrev BadPath : List ℕ → Type 0
  BadPath path = (at : ℕ) → path_names path ≡ Err (client.BadPath at) → F (client.BadPath at)

  mount_is : (export : List ℕ) → LongExport export → PartIs R Any F (MountsAndPrints uid gid export) (tells_mount uid gid export)
  mount_is export over =
      then_is R V Any F (Mounts uid gid export) (λ root. Prints (handle_text root)) (tells_mounts uid gid export) (λ root. tells_none (Prints (handle_text root)))
      (has_mounts uid gid export) (mounts_is R V F uid gid judge export over) (λ root holds. text_is R F (handle_text root))

  list_is_one : (export path : List ℕ) → LongExport export → BadPath path → PartIs R Any F (Lists uid gid export path) (tells_list uid gid export path)
  list_is_one export path over bad =
      then_is R V Any F (Finds uid gid export path) (λ dir. Then (Requests (list_next uid gid dir)) (λ names. Prints (names_text names))) (tells_finds uid gid export path)
      (λ dir. tells_then (Requests (list_next uid gid dir)) (λ names. Prints (names_text names)) (tells_requests (list_next uid gid dir)) (λ names. tells_none (Prints (names_text names))))
      (has_finds uid gid export path) (finds_is R V F uid gid judge export path over bad)
      (λ dir holds. then_is R Any Any F (Requests (list_next uid gid dir)) (λ names. Prints (names_text names)) (tells_requests (list_next uid gid dir)) (λ names. tells_none (Prints (names_text names)))
      (has_requests (list_next uid gid dir)) (requests_is R Any F (list_next uid gid dir) (list_is R V F uid gid judge dir)) (λ names is. text_is R F (names_text names)))

  stat_is : (export path : List ℕ) → LongExport export → BadPath path → PartIs R Any F (Stats uid gid export path) (tells_stat uid gid export path)
  stat_is export path over bad =
      then_is R V Any F (Finds uid gid export path) (λ file. Then (Request getattr_result (getattr_call uid gid file)) (λ attributes. Prints (attributes_text attributes))) (tells_finds uid gid export path)
      (λ file. tells_then (Request getattr_result (getattr_call uid gid file)) (λ attributes. Prints (attributes_text attributes))
      (tells_request getattr_result (getattr_call uid gid file)) (λ attributes. tells_none (Prints (attributes_text attributes))))
      (has_finds uid gid export path) (finds_is R V F uid gid judge export path over bad)
      (λ file holds. then_is R Any Any F (Request getattr_result (getattr_call uid gid file)) (λ attributes. Prints (attributes_text attributes))
      (tells_request getattr_result (getattr_call uid gid file)) (λ attributes. tells_none (Prints (attributes_text attributes)))
      (has_request getattr_result (getattr_call uid gid file)) (request_is R Any F getattr_result (getattr_call uid gid file) (judge.attributes file)) (λ attributes is. text_is R F (attributes_text attributes)))

  read_link_is : (export path : List ℕ) → LongExport export → BadPath path → PartIs R Any F (ReadsLink uid gid export path) (tells_read_link uid gid export path)
  read_link_is export path over bad =
      then_is R V Any F (Finds uid gid export path) (λ file. Then (Request readlink_result (readlink_call uid gid file)) (λ link. Prints (path_text link.path))) (tells_finds uid gid export path)
      (λ file. tells_then (Request readlink_result (readlink_call uid gid file)) (λ link. Prints (path_text link.path))
      (tells_request readlink_result (readlink_call uid gid file)) (λ link. tells_none (Prints (path_text link.path))))
      (has_finds uid gid export path) (finds_is R V F uid gid judge export path over bad)
      (λ file holds. then_is R Any Any F (Request readlink_result (readlink_call uid gid file)) (λ link. Prints (path_text link.path))
      (tells_request readlink_result (readlink_call uid gid file)) (λ link. tells_none (Prints (path_text link.path)))
      (has_request readlink_result (readlink_call uid gid file)) (request_is R Any F readlink_result (readlink_call uid gid file) (judge.link_read file)) (λ link is. text_is R F (path_text link.path)))

  make_directory_is : (export path : List ℕ) → LongExport export → BadParent F path → PartIs R Any F (MakesDirectory uid gid export path) (tells_make_directory uid gid export path)
  make_directory_is export path over bad =
      then_is R (λ (p : List ℕ × List ℕ). V p.0) Any F (FindsParent uid gid export path) (λ place. Then (Request create_result (mkdir_call uid gid place.0 place.1)) (λ made. Prints []))
      (tells_finds_parent uid gid export path)
      (λ place. tells_then (Request create_result (mkdir_call uid gid place.0 place.1)) (λ made. Prints [])
      (tells_request create_result (mkdir_call uid gid place.0 place.1)) (λ made. tells_none (Prints [])))
      (has_finds_parent uid gid export path) (finds_parent_is R V F uid gid judge export path over bad)
      (λ place holds. then_is R Any Any F (Request create_result (mkdir_call uid gid place.0 place.1)) (λ made. Prints [])
      (tells_request create_result (mkdir_call uid gid place.0 place.1)) (λ made. tells_none (Prints []))
      (has_request create_result (mkdir_call uid gid place.0 place.1)) (request_is R Any F create_result (mkdir_call uid gid place.0 place.1) (judge.directory_made place.0 place.1)) (λ made is. text_is R F []))

  remove_is : (export path : List ℕ) → LongExport export → BadParent F path → PartIs R Any F (Removes uid gid export path) (tells_remove uid gid export path)
  remove_is export path over bad =
      then_is R (λ (p : List ℕ × List ℕ). V p.0) Any F (FindsParent uid gid export path) (λ place. Then (Request remove_result (remove_call uid gid place.0 place.1)) (λ removed. Prints []))
      (tells_finds_parent uid gid export path)
      (λ place. tells_then (Request remove_result (remove_call uid gid place.0 place.1)) (λ removed. Prints [])
      (tells_request remove_result (remove_call uid gid place.0 place.1)) (λ removed. tells_none (Prints [])))
      (has_finds_parent uid gid export path) (finds_parent_is R V F uid gid judge export path over bad)
      (λ place holds. then_is R Any Any F (Request remove_result (remove_call uid gid place.0 place.1)) (λ removed. Prints [])
      (tells_request remove_result (remove_call uid gid place.0 place.1)) (λ removed. tells_none (Prints []))
      (has_request remove_result (remove_call uid gid place.0 place.1)) (request_is R Any F remove_result (remove_call uid gid place.0 place.1) (judge.removed place.0 place.1)) (λ removed is. text_is R F []))

  make_symlink_is : (export path target : List ℕ) → LongExport export → BadParent F path → (link_target_max < length target → F (client.Budget link_target_max)) → PartIs R Any F (MakesSymlink uid gid export path target) (tells_make_symlink uid gid export path target)
  make_symlink_is export path target over bad long =
      then_is R (λ (p : List ℕ × List ℕ). V p.0) Any F (FindsParent uid gid export path) (λ place. Then (Symlinks uid gid place.0 place.1 target) (λ made. Prints []))
      (tells_finds_parent uid gid export path)
      (λ place. tells_then (Symlinks uid gid place.0 place.1 target) (λ made. Prints []) (tells_symlinks uid gid place.0 place.1 target) (λ made. tells_none (Prints [])))
      (has_finds_parent uid gid export path) (finds_parent_is R V F uid gid judge export path over bad)
      (λ place holds. then_is R Any Any F (Symlinks uid gid place.0 place.1 target) (λ made. Prints []) (tells_symlinks uid gid place.0 place.1 target) (λ made. tells_none (Prints []))
      (has_symlinks uid gid place.0 place.1 target) (symlinks_is R V F uid gid judge place.0 place.1 target long) (λ made is. text_is R F []))

  -- a part that ends before the bytes of a file move
  ends_before : {A : Type 0} (W : A → Type 0) (s' : SessionAt) (end : ClientEnd) (result : Result (List ℕ) ClientEnd) → result ≡ Err end → GivenIs W F (Err end) s' → GivenIs Any F result s'
  ends_before W s' end result same is = subst (λ (r : Result (List ℕ) ClientEnd). GivenIs Any F r s') (sym same) is

  get_is : (export path : List ℕ) (out out' : SinkAt) → LongExport export → BadPath path → (Rises out.faults out'.faults → F client.OutputFault) → PartIs R Any F (Gets uid gid export path out out') (tells_get uid gid export path out out')
  get_is export path out out' over bad fault s s' text (inl (file, (mid, (finds, reads)))) before opened link run fine live are =
      let made = (tells_finds uid gid export path s mid (Ok file) finds).made in
      let both = judged_both R before made (tells_reads_out uid gid file out out' mid s' text reads).made are in
      let holds = finds_is R V F uid gid judge export path over bad s mid (Ok file) finds before opened link run fine live both.0 in
      let done = has_finds uid gid export path s mid (Ok file) finds opened link run fine live in
      reads_out_is R V F uid gid judge file out out' fault holds mid s' text reads (reads_after before made) opened link (run ++ done.more) fine
      (live_after {A = List ℕ} file opened link mid.requester done.ahead (run ++ done.more) done.stands) both.1
  get_is export path out out' over bad fault s s' text (inr (end, (finds, (same, kept)))) before opened link run fine live are =
      ends_before {A = List ℕ} V s' end text same (finds_is R V F uid gid judge export path over bad s s' (Err end) finds before opened link run fine live are)

  put_is : (export path : List ℕ) (input input' : SourceAt) → LongExport export → BadParent F path → (IfSome input.left (λ known. input_max < length known) → F (client.Budget input_max)) → (Rises input.faults input'.faults → F client.InputFault) → PartIs R Any F (Puts uid gid export path input input') (tells_put uid gid export path input input')
  put_is export path input input' over bad long fault s s' text (inl (place, (mid, (finds, writes)))) before opened link run fine live are =
      let made = (tells_finds_parent uid gid export path s mid (Ok place) finds).made in
      let both = judged_both R before made (tells_writes_in uid gid place.0 place.1 input input' mid s' text writes).made are in
      let done = has_finds_parent uid gid export path s mid (Ok place) finds opened link run fine live in
      writes_in_is R V F uid gid judge place.0 place.1 input input' long fault mid s' text writes (reads_after before made) opened link (run ++ done.more) fine
      (live_after {A = List ℕ × List ℕ} place opened link mid.requester done.ahead (run ++ done.more) done.stands) both.1
  put_is export path input input' over bad long fault s s' text (inr (end, (finds, (same, kept)))) before opened link run fine live are =
      ends_before {A = List ℕ × List ℕ} (λ (p : List ℕ × List ℕ). V p.0) s' end text same (finds_parent_is R V F uid gid judge export path over bad s s' (Err end) finds before opened link run fine live are)

  command_is : (export : List ℕ) (action : Action Text) (input input' : SourceAt) (out out' : SinkAt) → WordsGive F export action input → (Rises input.faults input'.faults → F client.InputFault) → (Rises out.faults out'.faults → F client.OutputFault)
      → PartIs R Any F (text_of uid gid export action input input' out out') (tells_text uid gid export action input input' out out')
  command_is export actions.Mount input input' out out' give input_fault output_fault s s' text is before opened link run fine live are = mount_is export give.export_long s s' text is.0 before opened link run fine live are
  command_is export (actions.List path) input input' out out' give input_fault output_fault s s' text is before opened link run fine live are = list_is_one export path give.export_long give.path_bad s s' text is.0 before opened link run fine live are
  command_is export (actions.Stat path) input input' out out' give input_fault output_fault s s' text is before opened link run fine live are = stat_is export path give.export_long give.path_bad s s' text is.0 before opened link run fine live are
  command_is export (actions.ReadLink path) input input' out out' give input_fault output_fault s s' text is before opened link run fine live are = read_link_is export path give.export_long give.path_bad s s' text is.0 before opened link run fine live are
  command_is export (actions.MakeDirectory path) input input' out out' give input_fault output_fault s s' text is before opened link run fine live are = make_directory_is export path give.export_long give.path_bad s s' text is.0 before opened link run fine live are
  command_is export (actions.Remove path) input input' out out' give input_fault output_fault s s' text is before opened link run fine live are = remove_is export path give.export_long give.path_bad s s' text is.0 before opened link run fine live are
  command_is export (actions.Link path target) input input' out out' give input_fault output_fault s s' text is before opened link run fine live are = make_symlink_is export path target give.export_long give.path_bad (give.target_long path target refl) s s' text is.0 before opened link run fine live are
  command_is export (actions.Put path) input input' out out' give input_fault output_fault s s' text is before opened link run fine live are = put_is export path input input' give.export_long give.path_bad (give.input_long path refl) input_fault s s' text is.0 before opened link run fine live are
  command_is export (actions.Get path) input input' out out' give input_fault output_fault s s' text is before opened link run fine live are = get_is export path out out' give.export_long give.path_bad output_fault s s' text is.0 before opened link run fine live are

-- ---- Up to what is printed

ok_printed : (F : ClientEnd → Type 0) (text : List ℕ) (result : Result (Unit {0}) ClientEnd) (out out' : SinkAt) (s' : SessionAt) → (Rises out.faults out'.faults → F client.OutputFault) → IsPrinted (Ok text) result out out' → GivenIs Any F result s'
ok_printed F text (Ok done) out out' s' fault prints = tt
ok_printed F text (Err client.OutputFault) out out' s' fault prints = fault prints.rose
ok_printed F text (Err client.DialFault) out out' s' fault prints = absurd prints
ok_printed F text (Err (client.Link end)) out out' s' fault prints = absurd prints
ok_printed F text (Err (client.Rpc kind code)) out out' s' fault prints = absurd prints
ok_printed F text (Err (client.Mount status)) out out' s' fault prints = absurd prints
ok_printed F text (Err (client.Nfs status)) out out' s' fault prints = absurd prints
ok_printed F text (Err client.Chunk) out out' s' fault prints = absurd prints
ok_printed F text (Err (client.Version low high)) out out' s' fault prints = absurd prints
ok_printed F text (Err (client.BadReply at reason)) out out' s' fault prints = absurd prints
ok_printed F text (Err (client.BadPath at)) out out' s' fault prints = absurd prints
ok_printed F text (Err client.InputFault) out out' s' fault prints = absurd prints
ok_printed F text (Err (client.Budget count)) out out' s' fault prints = absurd prints
ok_printed F text (Err client.Memory) out out' s' fault prints = absurd prints

-- an output is as before if the text was not ended by a fault of it
output_kept : (uid gid : ℕ) (export : List ℕ) (action : Action Text) (input input' : SourceAt) (out out' : SinkAt) (s s' : SessionAt) (text : List ℕ) → text_of uid gid export action input input' out out' s s' (Ok text)
    → out'.faults ≡ out.faults
output_kept uid gid export actions.Mount input input' out out' s s' text is = ap (λ (o : SinkAt). o.faults) is.1.1
output_kept uid gid export (actions.List path) input input' out out' s s' text is = ap (λ (o : SinkAt). o.faults) is.1.1
output_kept uid gid export (actions.Stat path) input input' out out' s s' text is = ap (λ (o : SinkAt). o.faults) is.1.1
output_kept uid gid export (actions.ReadLink path) input input' out out' s s' text is = ap (λ (o : SinkAt). o.faults) is.1.1
output_kept uid gid export (actions.MakeDirectory path) input input' out out' s s' text is = ap (λ (o : SinkAt). o.faults) is.1.1
output_kept uid gid export (actions.Remove path) input input' out out' s s' text is = ap (λ (o : SinkAt). o.faults) is.1.1
output_kept uid gid export (actions.Link path target) input input' out out' s s' text is = ap (λ (o : SinkAt). o.faults) is.1.1
output_kept uid gid export (actions.Put path) input input' out out' s s' text is = ap (λ (o : SinkAt). o.faults) is.1
output_kept uid gid export (actions.Get path) input input' out out' s s' text is = by is.0
  where
    read : (done : Result (Unit {0}) ClientEnd) → IsSilent done (Ok text) → OutputFaults done out.faults out'.faults → out'.faults ≡ out.faults
    read (Ok done) silent counts = counts
    read (Err end) silent counts = absurd silent

    by : Gets uid gid export path out out' s s' (Ok text) → out'.faults ≡ out.faults
    by (inl (file, (mid, (finds, (done, ((reads, counts), silent)))))) = read done silent counts.0
    by (inr (end, (finds, (same, kept)))) = absurd (let wrong = same in cc)

-- what a command gives that opened a session
pub opened_is : (R : Call → Outcome → Type 0) (V : List ℕ → Type 0) (F : ClientEnd → Type 0) (c : Client Text) (before dialed : DialerAt) (s s' : SessionAt) (input input' : SourceAt) (out out' : SinkAt) (result : Result (Unit {0}) ClientEnd)
    (opens : Opens c.addr (terms_of c) before dialed s) (prints : PrintsAll c s s' input input' out out' result) (opened : LinkParameters) (link : ℕ) → Judgement R V F c.uid c.gid → WordsGive F c.export c.action input → (Rises input.faults input'.faults → F client.InputFault)
    → (Rises out.faults out'.faults → F client.OutputFault) → IsOpened opened → opened.first_xid ≡ 1 → opened.first_stag ≡ 1 → ClientOpened opened session_credits (terms_of c)
    → AreJudged R [] (tells_text c.uid c.gid c.export c.action input input' out prints.written s s' prints.text prints.made).made → GivenIs Any F result s'
opened_is R V F c before dialed s s' input input' out out' result opens prints opened link judge give input_fault output_fault fine xid stag wished are = by prints.text result prints.made prints.prints are
  where
    by : (text : Result (List ℕ) ClientEnd) (given : Result (Unit {0}) ClientEnd) (made : text_of c.uid c.gid c.export c.action input input' out prints.written s s' text) → IsPrinted text given prints.written out'
        → AreJudged R [] (tells_text c.uid c.gid c.export c.action input input' out prints.written s s' text made).made → GivenIs Any F given s'
    by (Ok text) given made printed judged =
        ok_printed F text given prints.written out' s'
        (λ rose. output_fault (subst (λ (n : ℕ). Rises n out'.faults) (output_kept c.uid c.gid c.export c.action input input' out prints.written s s' text made) rose)) printed
    by (Err why) (Ok done) made printed judged = absurd printed
    by (Err why) (Err end) made (same, kept) judged =
        subst (λ (e : ClientEnd). EndsAs F e s') (sym same)
        (command_is R V F c.uid c.gid judge c.export c.action input input' out prints.written give input_fault (λ rose. output_fault (subst (λ (o : SinkAt). Rises out.faults o.faults) (sym kept) rose)) s s' (Err why) made [] opened
        link [] fine (sessions_begin_lem c.addr (terms_of c) before dialed s opened link opens xid stag wished) judged)
