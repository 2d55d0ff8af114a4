-- A command is one run of its link.
use Rattle.std.proofs.Common.{◌≡◌, ℕ, List, [], ◌++◌, Option, None, Some, Result, Ok, Err, arith, inl, inr, ap, ◌∙◌}
use Rattle.std.specs.Prelude.{IfSome}
use Rattle.std.specs.Io.KnownBytes.{Appends}
use Rattle.nr_outside.specs.Streams.{SinkAt, SourceAt}
use Rattle.nr_wire.specs.declared.hello.Side.TheVariants.{Initiator}
use Rattle.nr_reduce.specs.declared.mark.LinkParameters.{LinkParameters}
use Rattle.nr_reduce.specs.declared.mark.Mark.{Mark}
use Rattle.nr_reduce.specs.Asked.{AskedSoFar}
use Rattle.nr_reduce.specs.Opening.{IsFirstLink}
use Rattle.nr_reduce.specs.Credits.{KeepsGrant}
use Rattle.nr_reduce.specs.History.{bytes_received}
use Rattle.nr_requester.specs.RequesterState.{RequesterSide}
use Rattle.nr_words.specs.Lines.{Text}
use Rattle.nr_words.specs.declared.commands.Action.{Action}
use Rattle.nr_words.specs.declared.commands.Action.TheVariants as actions
use Rattle.nr_client.specs.declared.client_end.ClientEnd.{ClientEnd}
use Rattle.nr_client.specs.Dialing.{DialerAt}
use Rattle.nr_client.specs.Listing.{list_next}
use Rattle.nr_client.specs.Requests.{create_result, getattr_call, getattr_result, mkdir_call, readlink_call, readlink_result, remove_call, remove_result}
use Rattle.nr_client.proofs.CallsMade.{end_in}
use Rattle.nr_commands.specs.Commands.{Finds, FindsParent, Gets, Lists, MakesDirectory, MakesSymlink, Mounts, MountsAndPrints, Puts, ReadsLink, Removes, Stats, Symlinks}
use Rattle.nr_commands.specs.Printed.{attributes_text, handle_text, names_text, path_text}
use Rattle.nr_link.specs.declared.agreement.SideTerms.{SideTerms}
use Rattle.nr_commands.specs.Running.{Closes, IsPrinted, Opens, terms_of, text_of}
use Rattle.nr_commands.specs.Running.Runs.{NotOpened, Opened}
use Rattle.nr_commands.specs.Sessions.{Request, Requests, SessionAt, Text as Prints, Then}
use Rattle.nr_service_laws.specs.CommandRuns.{CommandsHaveARun, IsCommandRun}
use Rattle.nr_service_laws.specs.ClientMarks.{StandsAt}
use Rattle.nr_service_laws.specs.Exchanges.{Exchanges, tells_finds, tells_finds_parent, tells_get, tells_list, tells_make_directory, tells_make_symlink, tells_mount, tells_mounts, tells_none, tells_put, tells_read_link, tells_reads_out, tells_remove, tells_request, tells_requests, tells_stat, tells_symlinks, tells_text, tells_then, tells_writes_in}
use Rattle.nr_service_laws.specs.SessionMarks.{SessionsBegin, Does, HasDone}
use Rattle.nr_service_laws.proofs.Extending.{does_as, does_both}
use Rattle.nr_service_laws.proofs.CallsInOrder.{calls_are, outcomes_are}
use Rattle.nr_service_laws.proofs.Parts.{Has, has_finds, has_finds_parent, has_mounts, has_reads_out, has_request, has_requests, has_symlinks, has_text, has_then, has_writes_in}

has_mount : (uid gid : ℕ) (export : List ℕ) → Has (MountsAndPrints uid gid export) (tells_mount uid gid export)
has_mount uid gid export =
    has_then (Mounts uid gid export) (λ root. Prints (handle_text root)) (tells_mounts uid gid export) (λ root. tells_none (Prints (handle_text root)))
    (has_mounts uid gid export) (λ root. has_text (handle_text root))

has_list : (uid gid : ℕ) (export path : List ℕ) → Has (Lists uid gid export path) (tells_list uid gid export path)
has_list uid gid export path =
    has_then (Finds uid gid export path) (λ dir. Then (Requests (list_next uid gid dir)) (λ names. Prints (names_text names))) (tells_finds uid gid export path)
    (λ dir. tells_then (Requests (list_next uid gid dir)) (λ names. Prints (names_text names)) (tells_requests (list_next uid gid dir)) (λ names. tells_none (Prints (names_text names))))
    (has_finds uid gid export path)
    (λ dir. has_then (Requests (list_next uid gid dir)) (λ names. Prints (names_text names)) (tells_requests (list_next uid gid dir)) (λ names. tells_none (Prints (names_text names)))
    (has_requests (list_next uid gid dir)) (λ names. has_text (names_text names)))

has_stat : (uid gid : ℕ) (export path : List ℕ) → Has (Stats uid gid export path) (tells_stat uid gid export path)
has_stat uid gid export path =
    has_then (Finds uid gid export path) (λ file. Then (Request getattr_result (getattr_call uid gid file)) (λ attributes. Prints (attributes_text attributes)))
    (tells_finds uid gid export path)
    (λ file. tells_then (Request getattr_result (getattr_call uid gid file)) (λ attributes. Prints (attributes_text attributes))
    (tells_request getattr_result (getattr_call uid gid file)) (λ attributes. tells_none (Prints (attributes_text attributes))))
    (has_finds uid gid export path)
    (λ file. has_then (Request getattr_result (getattr_call uid gid file)) (λ attributes. Prints (attributes_text attributes))
    (tells_request getattr_result (getattr_call uid gid file)) (λ attributes. tells_none (Prints (attributes_text attributes)))
    (has_request getattr_result (getattr_call uid gid file)) (λ attributes. has_text (attributes_text attributes)))

has_read_link : (uid gid : ℕ) (export path : List ℕ) → Has (ReadsLink uid gid export path) (tells_read_link uid gid export path)
has_read_link uid gid export path =
    has_then (Finds uid gid export path) (λ file. Then (Request readlink_result (readlink_call uid gid file)) (λ link. Prints (path_text link.path)))
    (tells_finds uid gid export path)
    (λ file. tells_then (Request readlink_result (readlink_call uid gid file)) (λ link. Prints (path_text link.path))
    (tells_request readlink_result (readlink_call uid gid file)) (λ link. tells_none (Prints (path_text link.path))))
    (has_finds uid gid export path)
    (λ file. has_then (Request readlink_result (readlink_call uid gid file)) (λ link. Prints (path_text link.path))
    (tells_request readlink_result (readlink_call uid gid file)) (λ link. tells_none (Prints (path_text link.path)))
    (has_request readlink_result (readlink_call uid gid file)) (λ link. has_text (path_text link.path)))

has_make_directory : (uid gid : ℕ) (export path : List ℕ) → Has (MakesDirectory uid gid export path) (tells_make_directory uid gid export path)
has_make_directory uid gid export path =
    has_then (FindsParent uid gid export path) (λ place. Then (Request create_result (mkdir_call uid gid place.0 place.1)) (λ made. Prints []))
    (tells_finds_parent uid gid export path)
    (λ place. tells_then (Request create_result (mkdir_call uid gid place.0 place.1)) (λ made. Prints [])
    (tells_request create_result (mkdir_call uid gid place.0 place.1)) (λ made. tells_none (Prints [])))
    (has_finds_parent uid gid export path)
    (λ place. has_then (Request create_result (mkdir_call uid gid place.0 place.1)) (λ made. Prints [])
    (tells_request create_result (mkdir_call uid gid place.0 place.1)) (λ made. tells_none (Prints []))
    (has_request create_result (mkdir_call uid gid place.0 place.1)) (λ made. has_text []))

has_remove : (uid gid : ℕ) (export path : List ℕ) → Has (Removes uid gid export path) (tells_remove uid gid export path)
has_remove uid gid export path =
    has_then (FindsParent uid gid export path) (λ place. Then (Request remove_result (remove_call uid gid place.0 place.1)) (λ removed. Prints []))
    (tells_finds_parent uid gid export path)
    (λ place. tells_then (Request remove_result (remove_call uid gid place.0 place.1)) (λ removed. Prints [])
    (tells_request remove_result (remove_call uid gid place.0 place.1)) (λ removed. tells_none (Prints [])))
    (has_finds_parent uid gid export path)
    (λ place. has_then (Request remove_result (remove_call uid gid place.0 place.1)) (λ removed. Prints [])
    (tells_request remove_result (remove_call uid gid place.0 place.1)) (λ removed. tells_none (Prints []))
    (has_request remove_result (remove_call uid gid place.0 place.1)) (λ removed. has_text []))

has_make_symlink : (uid gid : ℕ) (export path target : List ℕ) → Has (MakesSymlink uid gid export path target) (tells_make_symlink uid gid export path target)
has_make_symlink uid gid export path target =
    has_then (FindsParent uid gid export path) (λ place. Then (Symlinks uid gid place.0 place.1 target) (λ made. Prints []))
    (tells_finds_parent uid gid export path)
    (λ place. tells_then (Symlinks uid gid place.0 place.1 target) (λ made. Prints []) (tells_symlinks uid gid place.0 place.1 target) (λ made. tells_none (Prints [])))
    (has_finds_parent uid gid export path)
    (λ place. has_then (Symlinks uid gid place.0 place.1 target) (λ made. Prints []) (tells_symlinks uid gid place.0 place.1 target) (λ made. tells_none (Prints []))
    (has_symlinks uid gid place.0 place.1 target) (λ made. has_text []))

-- a part that ends before the bytes of a file move
does_err : {A B : Type 0} (end : ClientEnd) (result : Result B ClientEnd) (s s' : SessionAt) (exchanges : Exchanges) → result ≡ Err end
    → HasDone {A = A} (Err end) s s' exchanges → HasDone result s s' exchanges
does_err {A} {B} end result s s' exchanges same does =
    does_as {A = A} {B = B} (Err end) result s s' exchanges (λ e is. same ∙ ap (λ (x : ClientEnd). Err x) (ap (end_in {A = A}) is)) does

has_get : (uid gid : ℕ) (export path : List ℕ) (out out' : SinkAt) → Has (Gets uid gid export path out out') (tells_get uid gid export path out out')
has_get uid gid export path out out' s s' text (inl (file, (mid, (finds, reads)))) =
    does_both {A = List ℕ} file text s mid s' (tells_finds uid gid export path s mid (Ok file) finds)
    (tells_reads_out uid gid file out out' mid s' text reads) (has_finds uid gid export path s mid (Ok file) finds) (has_reads_out uid gid file out out' mid s' text reads)
has_get uid gid export path out out' s s' text (inr (end, (finds, (same, kept)))) =
    does_err {A = List ℕ} end text s s' (tells_finds uid gid export path s s' (Err end) finds) same (has_finds uid gid export path s s' (Err end) finds)

has_put : (uid gid : ℕ) (export path : List ℕ) (input input' : SourceAt) → Has (Puts uid gid export path input input') (tells_put uid gid export path input input')
has_put uid gid export path input input' s s' text (inl (place, (mid, (finds, writes)))) =
    does_both {A = List ℕ × List ℕ} place text s mid s' (tells_finds_parent uid gid export path s mid (Ok place) finds)
    (tells_writes_in uid gid place.0 place.1 input input' mid s' text writes) (has_finds_parent uid gid export path s mid (Ok place) finds)
    (has_writes_in uid gid place.0 place.1 input input' mid s' text writes)
has_put uid gid export path input input' s s' text (inr (end, (finds, (same, kept)))) =
    does_err {A = List ℕ × List ℕ} end text s s' (tells_finds_parent uid gid export path s s' (Err end) finds) same (has_finds_parent uid gid export path s s' (Err end) finds)

has_text_of : (uid gid : ℕ) (export : List ℕ) (action : Action Text) (input input' : SourceAt) (out out' : SinkAt)
    → Has (text_of uid gid export action input input' out out') (tells_text uid gid export action input input' out out')
has_text_of uid gid export actions.Mount input input' out out' s s' text is = has_mount uid gid export s s' text is.0
has_text_of uid gid export (actions.List path) input input' out out' s s' text is = has_list uid gid export path s s' text is.0
has_text_of uid gid export (actions.Stat path) input input' out out' s s' text is = has_stat uid gid export path s s' text is.0
has_text_of uid gid export (actions.ReadLink path) input input' out out' s s' text is = has_read_link uid gid export path s s' text is.0
has_text_of uid gid export (actions.MakeDirectory path) input input' out out' s s' text is = has_make_directory uid gid export path s s' text is.0
has_text_of uid gid export (actions.Remove path) input input' out out' s s' text is = has_remove uid gid export path s s' text is.0
has_text_of uid gid export (actions.Link path target) input input' out out' s s' text is = has_make_symlink uid gid export path target s s' text is.0
has_text_of uid gid export (actions.Put path) input input' out out' s s' text is = has_put uid gid export path input input' s s' text is.0
has_text_of uid gid export (actions.Get path) input input' out out' s s' text is = has_get uid gid export path out out' s s' text is.0

-- ---- From its opening to its end

printed_end : (text : Result (List ℕ) ClientEnd) (result : Result (Unit {0}) ClientEnd) (out out' : SinkAt) (end : ClientEnd) → IsPrinted text result out out' → text ≡ Err end → result ≡ Err end
printed_end (Ok text) result out out' end prints is = absurd (let wrong = is in cc)
printed_end (Err why) (Ok done) out out' end prints is = absurd prints
printed_end (Err why) (Err same) out out' end prints is = ap (λ (x : ClientEnd). Err x) (prints.0 ∙ ap (end_in {A = List ℕ}) is)

then_are : (known known' : Option (List ℕ)) (bytes : List ℕ) → IfSome known (λ l. l ≡ []) → Appends known known' bytes → IfSome known (λ nothing. known' ≡ Some bytes)
then_are None known' bytes fresh appends = tt
then_are (Some l) None bytes fresh appends = absurd appends
then_are (Some l) (Some m) bytes fresh appends = ap (λ (x : List ℕ). Some x) (appends ∙ ap (λ (x : List ℕ). x ++ bytes) fresh)

asked_of : {A : Type 0} (result : Result A ClientEnd) (opened : LinkParameters) (link : ℕ) (h : RequesterSide) (ahead : List ℕ) (run : List Mark) → StandsAt result opened link h ahead run
    → AskedSoFar opened link run × KeepsGrant opened link run
asked_of result opened link h ahead run (inl (live, fed)) = (live.asked, live.granted)
asked_of result opened link h ahead run (inr (is, out)) = (out.asked, out.granted)

is_run : (opened : LinkParameters) (link : ℕ) (s s' : SessionAt) (addr : List ℕ) (terms : SideTerms) (before dialed after : DialerAt) (result : Result (Unit {0}) ClientEnd) (exchanges : Exchanges)
    → IsFirstLink opened → opened.client.number ≡ 0 → (opens : Opens addr terms before dialed s) → Closes opens.number s' dialed after → Does result opened link [] s.bytes s'.bytes s'.requester exchanges
    → IsCommandRun opened link s s' dialed.ended after.ended result exchanges
is_run opened link s s' addr terms before dialed after result exchanges first none opens closes done =
    let laws = asked_of result opened link s'.requester done.ahead done.more done.stands in
    record {
      run = done.more;
      first_link = first;
      unnumbered = none;
      own = done.extends.own;
      asked = laws.0;
      granted = laws.1;
      first = done.extends.first;
      written = done.written;
      lacks = done.lacks;
      whole = done.whole;
      marks_are = done.extends.marks_are;
      calls = calls_are link done.more exchanges.made done.extends.marks_are;
      outcomes = outcomes_are link done.more exchanges.made done.extends.marks_are;
      ahead = done.ahead;
      given = then_are s.bytes.given s'.bytes.given (bytes_received link Initiator done.more ++ done.ahead) opens.fresh.nothing_given done.extends.handed.to_given;
      left = done.extends.handed.from_left;
      taken = then_are s.bytes.taken s'.bytes.taken _ opens.fresh.nothing_taken done.extends.taken;
      count = (let none = opens.nothing_read in let all = done.extends.count in omega (arith, none, all));
      told = opens.told;
      number = opens.number;
      hung_up = closes.ends;
      stands = done.stands;
    }

pub sessions_begin_lem : SessionsBegin
sessions_begin_lem addr terms before after s opened link opens xid stag wished = record { stands = opens.stands opened link xid stag wished; asked = tt; granted = tt }

pub commands_have_a_run_lem : CommandsHaveARun
commands_have_a_run_lem c before after input input' out out' result (NotOpened end is fails same_input same_out) opened link fine xid stag wished = tt
commands_have_a_run_lem c before after input input' out out' result (Opened dialed s s' opens prints closes) opened link fine xid stag wished =
    let exchanges = tells_text c.uid c.gid c.export c.action input input' out prints.written s s' prints.text prints.made in
    let has = has_text_of c.uid c.gid c.export c.action input input' out prints.written s s' prints.text prints.made in
    let does = does_as {A = List ℕ} {B = Unit {0}} prints.text result s s' exchanges
    (λ end is. printed_end prints.text result prints.written out' end prints.prints is) has in
    is_run opened link s s' c.addr (terms_of c) before dialed after result exchanges wished.1.1 (ap (λ (t : SideTerms). t.number) wished.1.0) opens closes (does opened link [] fine (sessions_begin_lem c.addr (terms_of c) before dialed s opened link opens xid stag wished))
