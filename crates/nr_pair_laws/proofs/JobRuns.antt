-- A `get` by several jobs is one run of its link.
use Rattle.std.proofs.Common.{◌≡◌, ◌≢◌, ℕ, suc, Bool, true, false, List, [], ◌∷◌, ◌++◌, Option, None, Some, is_some, ◌+◌, length, Result, Ok, Err, inl, inr, refl, sym, ap, subst, ◌∙◌, append-nil}
use Rattle.std.specs.Prelude.{IfSome}
use Rattle.std.specs.List.{AllByRecursion, flat_map}
use Rattle.std.specs.Io.KnownBytes.{Appends}
use Rattle.std.proofs.KnownBytes.{Appends-trans}
use Rattle.nr_outside.specs.Content.{HandsOut}
use Rattle.nr_outside.specs.Streams.{SinkAt, SourceAt}
use Rattle.nr_outside.proofs.Moves.{HandsOut_append}
use Rattle.nr_link.specs.Agreement.{terms_with}
use Rattle.nr_link.specs.declared.agreement.SideTerms.{SideTerms}
use Rattle.nr_link.specs.declared.end.End.TheVariants as ends
use Rattle.nr_wire.specs.declared.hello.Side.TheVariants.{Initiator, Responder}
use Rattle.nr_nfs_base.specs.declared.attributes.Attributes.{Attributes}
use Rattle.nr_reduce.specs.declared.call.Call.{Call}
use Rattle.nr_reduce.specs.declared.call.Form.{Form}
use Rattle.nr_reduce.specs.declared.call.Form.TheVariants as forms
use Rattle.nr_reduce.specs.declared.call.Outcome.{Outcome}
use Rattle.nr_reduce.specs.declared.call.Submission.TheVariants as submissions
use Rattle.nr_reduce.specs.declared.mark.LinkParameters.{LinkParameters}
use Rattle.nr_reduce.specs.declared.mark.Mark.{Mark}
use Rattle.nr_reduce.specs.declared.mark.Mark.TheVariants as marks
use Rattle.nr_reduce.specs.Asked.{AskedSoFar}
use Rattle.nr_reduce.specs.Opening.{IsFirstLink}
use Rattle.nr_reduce.specs.Credits.{KeepsGrant}
use Rattle.nr_reduce.specs.History.{bytes_received, bytes_sent}
use Rattle.nr_laws.proofs.Basics.{each_append, some_is_lem}
use Rattle.nr_requester.specs.RequesterState.{RequesterSide}
use Rattle.nr_turnstile.specs.Rule.{Begins}
use Rattle.nr_shared.specs.declared.entry.Entry.{Entry}
use Rattle.nr_shared.specs.declared.entry.Entry.TheVariants as entries
use Rattle.nr_shared.specs.declared.entry.InitialState.{InitialState}
use Rattle.nr_shared.specs.Histories.{Allows, AreAllowed, bytes_fed, bytes_written, initial_of, rejoins, stop_of, tries_in}
use Rattle.nr_shared.specs.OneLink.{FitsOneState, mark_at, run_of}
use Rattle.nr_shared.specs.LinkRuns.{FitsInitialState, LinkRun, OnLinks}
use Rattle.nr_shared.specs.LinkStanding.{IsLiveOn, IsOutOn}
use Rattle.nr_shared.specs.Marks.{IsLive as IsSharedLive}
use Rattle.nr_shared.specs.Standing.{OnHistory, RejoinsWithin, RepresentsHistoryIf, is_out_of_memory}
use Rattle.nr_shared.proofs.Histories.{initial_more}
use Rattle.nr_shared.proofs.OneLink.{on_one_link}
use Rattle.nr_shared.specs.declared.call_end.CallEnd.TheVariants as calls
use Rattle.nr_client.specs.declared.client_end.ClientEnd.{ClientEnd}
use Rattle.nr_client.specs.declared.client_end.ClientEnd.TheVariants as client
use Rattle.nr_client.specs.Dialing.{DialerAt}
use Rattle.nr_client.specs.Jobs.{FileReads, GetsAttributes, GetsNoAttributes, LinkAt, ReadsFileByJobs, ReadsShared, view_at}
use Rattle.nr_client.specs.Jobs.ReadsFileByJobs.{NoAttributes, Shared}
use Rattle.nr_client.specs.Requests.{getattr_call, getattr_result}
use Rattle.nr_client.specs.Steps.{IsLive}
use Rattle.nr_client.specs.Transfers.{link_bytes}
use Rattle.nr_client.proofs.CallsMade.{end_in}
use Rattle.nr_commands.specs.ByJobs.{link_of}
use Rattle.nr_commands.specs.ByJobs.GetsByJobs.{Found, NotFound, NotOpened}
use Rattle.nr_commands.specs.Commands.{Finds}
use Rattle.nr_commands.specs.Running.{Closes, HangsUp, Opens}
use Rattle.nr_commands.specs.Sessions.{SessionAt, sink_of, source_of}
use Rattle.nr_service_laws.specs.ClientMarks.{IsOwn, StandsAt}
use Rattle.nr_service_laws.specs.CommandRuns.{AreThen}
use Rattle.nr_service_laws.specs.CompleteCommands.{IsSession}
use Rattle.nr_service_laws.specs.Exchanges.{Exchange, Exchanges, and_then, asked_exchanges, one, tells_finds}
use Rattle.nr_service_laws.specs.Exchanges.Exchange.{Answered}
use Rattle.nr_service_laws.specs.SessionMarks.{Does}
use Rattle.nr_service_laws.proofs.Commands.{sessions_begin_lem}
use Rattle.nr_service_laws.proofs.Extending.{does_as, does_both}
use Rattle.nr_service_laws.proofs.OneCall.{does_answers}
use Rattle.nr_service_laws.proofs.Parts.{has_finds, has_request}
use Rattle.nr_pair_laws.specs.JobRuns.{IsJobMark, IsJobsRun, JobsHaveARun, SaysOfFile}
use Rattle.nr_pair_laws.proofs.FaultCounts.{counts_of_both}
use Rattle.nr_pair_laws.proofs.JobBytes.{history_fed, history_received, history_sent}
use Rattle.nr_pair_laws.proofs.OneBack.{moved_over_one}

-- ---- Its marks

job_mark : (link : ℕ) (m : Mark) → IsOwn link m → IsJobMark link m
job_mark link (marks.Wrote l Initiator bytes) own = own
job_mark link (marks.Fed l Initiator bytes) own = own
job_mark link (marks.Submit l call forms.Auto (submissions.Accepted xid)) own = own
job_mark link (marks.Done l xid outcome) own = own
job_mark link (marks.Forget l xid) own = own
job_mark link (marks.Wrote l Responder bytes) own = absurd own
job_mark link (marks.Fed l Responder bytes) own = absurd own
job_mark link (marks.Submit l call forms.Auto (submissions.Refused why)) own = absurd own
job_mark link (marks.Submit l call forms.Auto submissions.Dropped) own = absurd own
job_mark link (marks.Submit l call forms.Inline answer) own = absurd own
job_mark link (marks.Submit l call forms.Chunk answer) own = absurd own
job_mark link (marks.Submit l call forms.Long answer) own = absurd own
job_mark link (marks.Submit l call (forms.Given offer) answer) own = absurd own
job_mark link (marks.Execute l xid moment payload place reply) own = absurd own
job_mark link (marks.Lost l xid) own = absurd own
job_mark link (marks.Revoke l xid bytes) own = absurd own
job_mark link (marks.Drop l) own = absurd own
job_mark link (marks.Told l what) own = absurd own

pub job_marks : (link : ℕ) (run : List Mark) → AllByRecursion (IsOwn link) run → AllByRecursion (IsJobMark link) run
job_marks link [] own = tt
job_marks link (m ∷ run) own = (job_mark link m own.0, job_marks link run own.1)

-- an entry whose call is made in the form Auto
entry_marks : (n link : ℕ) (allows : Call → Form → Type 0) → ((call : Call) (form : Form) → allows call form → form ≡ forms.Auto) → (e : Entry) → Allows allows e → AllByRecursion (IsJobMark link) (mark_at n link e)
entry_marks n link allows auto (entries.Submit call form xid) is =
    (subst (λ (f : Form). IsJobMark link (marks.Submit link call f (submissions.Accepted xid))) (sym (auto call form is)) refl, tt)
entry_marks n link allows auto (entries.Initial initial) is = tt
entry_marks n link allows auto (entries.Wrote bytes) is = (refl, tt)
entry_marks n link allows auto (entries.Fed bytes previous) is = (refl, tt)
entry_marks n link allows auto (entries.Done xid outcome submit) is = (refl, tt)
entry_marks n link allows auto (entries.Lost xid submit) is = (refl, tt)
entry_marks n link allows auto (entries.Forget xid submit) is = (refl, tt)
entry_marks n link allows auto (entries.Revoke xid bytes submit) is = (refl, tt)
entry_marks n link allows auto entries.WriteFailed is = tt
entry_marks n link allows auto (entries.Stopped cause previous) is = tt
entry_marks n link allows auto (entries.OutOfMemory piece previous) is = (refl, tt)
entry_marks n link allows auto (entries.Rejoin sink previous) is = tt

history_marks : (n link : ℕ) (allows : Call → Form → Type 0) → ((call : Call) (form : Form) → allows call form → form ≡ forms.Auto) → (history : List Entry) → AreAllowed allows history
    → AllByRecursion (IsJobMark link) (flat_map (mark_at n link) history)
history_marks n link allows auto [] all = tt
history_marks n link allows auto (e ∷ history) all =
    each_append (IsJobMark link) (mark_at n link e) (flat_map (mark_at n link) history) (entry_marks n link allows auto e (all 0 e refl))
    (history_marks n link allows auto history (λ k x at. all (suc k) x at))

marks_of_run : (alone : List Mark) (n link : ℕ) (history : List Entry) → AllByRecursion (IsJobMark link) alone → AllByRecursion (IsJobMark link) (flat_map (mark_at n link) history)
    → AllByRecursion (IsJobMark link) (run_of alone n link history)
unfolding run_of
marks_of_run alone n link history first later = each_append (IsJobMark link) alone (flat_map (mark_at n link) history) first later

-- ---- Its law

-- the marks of the history after others, with how many bytes were fed of the piece at which memory ran out
record KeepsLaws (opened : LinkParameters) (link : ℕ) (alone : List Mark) (history : List Entry) : Type 0 where
  fed : ℕ
  asked : AskedSoFar opened link (run_of alone fed link history)
  granted : KeepsGrant opened link (run_of alone fed link history)

-- what is said of the links of a history, if that has this initial state
on_links : (n : ℕ) (initial : InitialState) (history : List Entry) (Says : LinkRun → Type 0) → initial_of history ≡ Some initial → OnHistory n initial history Says → OnLinks n history Says
on_links n initial history Says is on opened numbers before (other, other_is, fits) =
    on opened numbers before (subst (λ (x : InitialState). FitsInitialState x (rejoins history) opened numbers before) (some_is_lem other initial (sym other_is ∙ is)) fits)

keeps_laws : (b : Bool) (initial : InitialState) (r : RequesterSide) (history : List Entry) (opened : LinkParameters) (link : ℕ) (alone : List Mark) → initial_of history ≡ Some initial → rejoins history ≡ 0
    → RepresentsHistoryIf b initial r history → FitsOneState initial opened link alone → KeepsLaws opened link alone history
keeps_laws false initial r history opened link alone is none (runs, live) fits =
    let l = on_one_link (λ (x : LinkRun). IsLiveOn x r) 0 history none (on_links 0 initial history (λ (x : LinkRun). IsLiveOn x r) is (live 0)) opened link alone (initial, is, fits) in
    record { fed = 0; asked = l.law.asked; granted = l.law.granted }
keeps_laws true initial r history opened link alone is none (runs, (n, out)) fits =
    let o = on_one_link (λ (x : LinkRun). IsOutOn x r) n history none (on_links n initial history (λ (x : LinkRun). IsOutOn x r) is out) opened link alone (initial, is, fits) in
    record { fed = n; asked = o.law.asked; granted = o.law.granted }

same_initial : (seen history : List Entry) (a b : InitialState) → Begins seen history → initial_of seen ≡ Some a → initial_of history ≡ Some b → a ≡ b
same_initial seen history a b begins first second =
    some_is_lem a b (sym (ap (λ (h : List Entry). initial_of h) begins.1 ∙ initial_more seen begins.0 a first) ∙ second)

-- ---- The run

then_are : (known known' : Option (List ℕ)) (bytes : List ℕ) → IfSome known (λ l. l ≡ []) → Appends known known' bytes → AreThen known known' bytes
then_are None known' bytes fresh appends = tt
then_are (Some l) None bytes fresh appends = absurd appends
then_are (Some l) (Some m) bytes fresh appends = ap (λ (x : List ℕ). Some x) (appends ∙ ap (λ (x : List ℕ). x ++ bytes) fresh)

-- a session went on so far, and its requester stands for these marks
stands_live : (opened : LinkParameters) (link : ℕ) (h : RequesterSide) (ahead : List ℕ) (run : List Mark) → StandsAt {A = Unit {0}} (Ok tt) opened link h ahead run → IsLive opened link h run × (ahead ≡ [])
stands_live opened link h ahead run (inl stands) = stands
stands_live opened link h ahead run (inr (wrong, out)) = absurd (let w = wrong in cc)

jobs_run : (opened : LinkParameters) (link : ℕ) (addr : List ℕ) (units : ℕ) (invalidates : Bool) (uid gid : ℕ) (export path file : List ℕ) (before dialed after : DialerAt) (s s' : SessionAt)
    (opens : Opens addr (terms_with units invalidates) before dialed s) (finds : Finds uid gid export path s s' (Ok file)) (source : SourceAt) (sink : SinkAt) (mid : LinkAt) (outcome : Outcome) (attributes : Attributes)
    (answered : GetsAttributes uid gid file outcome attributes (link_of s') mid) (taken taken' : Option (List ℕ)) (result : Result (Unit {0}) ClientEnd)
    (shared : ReadsShared uid gid file outcome attributes.size mid source sink taken taken' result) → HangsUp opens.number source sink dialed after → IsSession opened (terms_with units invalidates)
    → IsJobsRun opened link s source sink dialed.ended after.ended result ((tells_finds uid gid export path s s' (Ok file) finds).made ++ Answered (getattr_call uid gid file) outcome ∷ []) shared.back.history
jobs_run opened link addr units invalidates uid gid export path file before dialed after s s' opens finds source sink mid outcome attributes answered taken taken' result shared hangs session =
    let back = shared.back in
    let history = back.history in
    let has = does_both {A = List ℕ} {B = Unit {0}} file (Ok tt) s s' (view_at mid) (tells_finds uid gid export path s s' (Ok file) finds)
    (one (Answered (getattr_call uid gid file) outcome)) (has_finds uid gid export path s s' (Ok file) finds)
    (does_answers {A = Unit {0}} tt (getattr_call uid gid file) outcome s' (view_at mid) answered.answers) in
    let done = has opened link [] session.fine (sessions_begin_lem addr (terms_with units invalidates) before dialed s opened link opens session.first_xid session.first_stag session.wished) in
    let alone = done.more in
    let live = stands_live opened link mid.requester done.ahead alone done.stands in
    let same = same_initial shared.seen history shared.initial back.initial back.begins shared.is_initial back.is_initial in
    let requester : mid.requester ≡ back.initial.requester = sym shared.of_requester ∙ ap (λ (i : InitialState). i.requester) same in
    let fits : FitsOneState back.initial opened link alone = record {
      opens = session.fine;
      live = subst (λ (h : RequesterSide). IsSharedLive opened link h alone) requester (record { stands = live.0.stands; asked = live.0.asked; granted = live.0.granted });
    } in
    let once : back.initial.tries ≡ None = sym (ap (λ (i : InitialState). i.tries) same) ∙ shared.once in
    let none : rejoins history ≡ 0 = subst (λ (o : Option ℕ). RejoinsWithin o (rejoins history)) once back.within_tries in
    let laws = keeps_laws (is_out_of_memory (stop_of history)) back.initial shared.requester history opened link alone back.is_initial none back.represents fits in
    let over = moved_over_one {I = SourceAt} {O = SinkAt} (λ x. shared.number) (λ x. x.left) (λ x. x.given) (λ x. x.faults) (λ x. shared.number) (λ x. x.taken) (λ x. x.faults) (is_some back.initial.tries) false mid.source
    (mid.read + length (bytes_fed history)) source sink history back.initial back.is_initial back.in_order none back.link_is in
    let fed = history_fed laws.fed link history back.may_follow (ap tries_in back.is_initial ∙ once) in
    let received = history_received alone laws.fed link history fed in
    let sent = history_sent alone laws.fed link history in
    let first : HandsOut s.bytes.left s.bytes.given mid.source.left mid.source.given (bytes_received link Initiator alone) =
    subst (λ (l : List ℕ). HandsOut s.bytes.left s.bytes.given mid.source.left mid.source.given l) (ap (λ (l : List ℕ). bytes_received link Initiator alone ++ l) live.1 ∙ append-nil (bytes_received link Initiator alone)) done.extends.handed in
    let moved = HandsOut_append s.bytes.left s.bytes.given mid.source.left mid.source.given source.left source.given (bytes_received link Initiator alone) (bytes_fed history) first over.gave in
    let all = subst (λ (l : List ℕ). HandsOut s.bytes.left s.bytes.given source.left source.given l) (sym received) moved in
    let initial_taken : back.initial.sink.taken ≡ mid.sink.taken = sym (ap (λ (i : InitialState). i.sink.taken) same) ∙ shared.of_sink.0 in
    let wrote : Appends mid.sink.taken sink.taken (bytes_written history) = subst (λ (o : Option (List ℕ)). Appends o sink.taken (bytes_written history)) initial_taken over.took in
    let took = Appends-trans s.bytes.taken mid.sink.taken sink.taken (bytes_sent link Initiator alone) (bytes_written history) done.extends.taken wrote in
    record {
      run = run_of alone laws.fed link history;
      first_link = session.wished.1.1;
      unnumbered = ap (λ (t : SideTerms). t.number) session.wished.1.0;
      own = marks_of_run alone laws.fed link history (job_marks link alone done.extends.own)
          (history_marks laws.fed link (FileReads uid gid file attributes.size) (λ call form allowed. allowed.1) history back.allowed);
      asked = laws.asked;
      granted = laws.granted;
      alone = alone;
      fed = laws.fed;
      run_is = refl;
      marks_are = done.extends.marks_are;
      ahead = fed.ahead;
      all_fed = λ other not_out. fed.all other;
      given = then_are s.bytes.given source.given (bytes_received link Initiator (run_of alone laws.fed link history) ++ fed.ahead) opens.fresh.nothing_given all.to_given;
      left = all.from_left;
      taken = then_are s.bytes.taken sink.taken (bytes_sent link Initiator (run_of alone laws.fed link history)) opens.fresh.nothing_taken (subst (λ (l : List ℕ). Appends s.bytes.taken sink.taken l) (sym sent) took);
      told = opens.told;
      number = opens.number;
      hung_up = hangs.ends;
    }

-- the end of one request is the end of all
same_end : {A : Type 0} (result : Result (Unit {0}) ClientEnd) (end e : ClientEnd) → result ≡ Err end → ◌≡◌ {A = Result A ClientEnd} (Err end) (Err e) → result ≡ Err e
same_end {A} result end e is ended = is ∙ ap (λ (x : ClientEnd). Err x) (ap (end_in {A = A}) ended)

-- a run whose requester wasn't shared
run_alone : (alone : List Mark) (link : ℕ) → alone ≡ run_of alone 0 link []
unfolding run_of
run_alone alone link = sym (append-nil alone)

alone_asked : (opened : LinkParameters) (link : ℕ) (h : RequesterSide) (ahead : List ℕ) (run : List Mark) (result : Result (Unit {0}) ClientEnd) → StandsAt result opened link h ahead run
    → AskedSoFar opened link run × KeepsGrant opened link run
alone_asked opened link h ahead run result (inl (live, fed)) = (live.asked, live.granted)
alone_asked opened link h ahead run result (inr (is, out)) = (out.asked, out.granted)

alone_fed : (opened : LinkParameters) (link : ℕ) (h : RequesterSide) (ahead : List ℕ) (run : List Mark) (result : Result (Unit {0}) ClientEnd) → StandsAt result opened link h ahead run
    → result ≢ Err (client.Link (calls.Ended ends.Memory)) → ahead ≡ []
alone_fed opened link h ahead run result (inl (live, fed)) other = fed
alone_fed opened link h ahead run result (inr (is, out)) other = absurd (other is)

alone_run : (opened : LinkParameters) (link : ℕ) (addr : List ℕ) (terms : SideTerms) (before dialed after : DialerAt) (s : SessionAt) (opens : Opens addr terms before dialed s) (source : SourceAt) (sink : SinkAt) (read : ℕ) (h : RequesterSide)
    (result : Result (Unit {0}) ClientEnd) (exchanges : Exchanges) → IsFirstLink opened → opened.client.number ≡ 0 → Does result opened link [] s.bytes (link_bytes source.left source.given sink.taken read) h exchanges → HangsUp opens.number source sink dialed after
    → IsJobsRun opened link s source sink dialed.ended after.ended result exchanges.made []
alone_run opened link addr terms before dialed after s opens source sink read h result exchanges first none done hangs =
    let laws = alone_asked opened link h done.ahead done.more result done.stands in
    record {
      run = done.more;
      first_link = first;
      unnumbered = none;
      own = job_marks link done.more done.extends.own;
      asked = laws.0;
      granted = laws.1;
      alone = done.more;
      fed = 0;
      run_is = run_alone done.more link;
      marks_are = done.extends.marks_are;
      ahead = done.ahead;
      all_fed = λ other not_out. alone_fed opened link h done.ahead done.more result done.stands not_out;
      given = then_are s.bytes.given source.given (bytes_received link Initiator done.more ++ done.ahead) opens.fresh.nothing_given done.extends.handed.to_given;
      left = done.extends.handed.from_left;
      taken = then_are s.bytes.taken sink.taken (bytes_sent link Initiator done.more) opens.fresh.nothing_taken done.extends.taken;
      told = opens.told;
      number = opens.number;
      hung_up = hangs.ends;
    }

-- no file was found
not_found_run : (opened : LinkParameters) (link : ℕ) (addr : List ℕ) (units : ℕ) (invalidates : Bool) (uid gid : ℕ) (export path : List ℕ) (before dialed after : DialerAt) (s s' : SessionAt) (end : ClientEnd)
    (opens : Opens addr (terms_with units invalidates) before dialed s) (finds : Finds uid gid export path s s' (Err end)) (result : Result (Unit {0}) ClientEnd) → result ≡ Err end → Closes opens.number s' dialed after
    → IsSession opened (terms_with units invalidates) → IsJobsRun opened link s (source_of s') (sink_of s') dialed.ended after.ended result (tells_finds uid gid export path s s' (Err end) finds).made []
not_found_run opened link addr units invalidates uid gid export path before dialed after s s' end opens finds result is closes session =
    let exchanges = tells_finds uid gid export path s s' (Err end) finds in
    let has = does_as {A = List ℕ} {B = Unit {0}} (Err end) result s s' exchanges (λ e ended. same_end {A = List ℕ} result end e is ended) (has_finds uid gid export path s s' (Err end) finds) in
    let done = has opened link [] session.fine (sessions_begin_lem addr (terms_with units invalidates) before dialed s opened link opens session.first_xid session.first_stag session.wished) in
    alone_run opened link addr (terms_with units invalidates) before dialed after s opens (source_of s') (sink_of s') s'.bytes.read s'.requester result exchanges session.wished.1.1 (ap (λ (t : SideTerms). t.number) session.wished.1.0) done closes

-- the session of a link
abbrev pub session_of : LinkAt → SessionAt
session_of mid = view_at mid

-- GETATTR gave no size
no_size_run : (opened : LinkParameters) (link : ℕ) (addr : List ℕ) (units : ℕ) (invalidates : Bool) (uid gid : ℕ) (export path file : List ℕ) (before dialed after : DialerAt) (s s' : SessionAt) (opens : Opens addr (terms_with units invalidates) before dialed s)
    (finds : Finds uid gid export path s s' (Ok file)) (mid : LinkAt) (end : ClientEnd) (gets : GetsNoAttributes uid gid file end (link_of s') mid) (result : Result (Unit {0}) ClientEnd) → result ≡ Err end
    → HangsUp opens.number mid.source mid.sink dialed after → IsSession opened (terms_with units invalidates)
    → IsJobsRun opened link s mid.source mid.sink dialed.ended after.ended result
    ((tells_finds uid gid export path s s' (Ok file) finds).made
    ++ (asked_exchanges getattr_result (getattr_call uid gid file) (view_at (link_of s')) (view_at mid) (Err end) gets.asks).made) []
no_size_run opened link addr units invalidates uid gid export path file before dialed after s s' opens finds mid end gets result is hangs session =
    let call = getattr_call uid gid file in
    let found = tells_finds uid gid export path s s' (Ok file) finds in
    let asked = asked_exchanges getattr_result call (view_at (link_of s')) (view_at mid) (Err end) gets.asks in
    let second = does_as {A = Attributes} {B = Unit {0}} (Err end) result s' (view_at mid) asked (λ e ended. same_end {A = Attributes} result end e is ended)
    (has_request getattr_result call s' (session_of mid) (Err end) (gets.asks, counts_of_both {A = Attributes} (Err end) s' (session_of mid) gets.source_count gets.sink_count)) in
    let has = does_both {A = List ℕ} {B = Unit {0}} file result s s' (view_at mid) found asked (has_finds uid gid export path s s' (Ok file) finds) second in
    let done = has opened link [] session.fine (sessions_begin_lem addr (terms_with units invalidates) before dialed s opened link opens session.first_xid session.first_stag session.wished) in
    alone_run opened link addr (terms_with units invalidates) before dialed after s opens mid.source mid.sink mid.read mid.requester result (and_then found asked) session.wished.1.1 (ap (λ (t : SideTerms). t.number) session.wished.1.0) done hangs

pub jobs_have_a_run_lem : JobsHaveARun
jobs_have_a_run_lem get before after out out' result (NotOpened end is fails same) opened link session = tt
jobs_have_a_run_lem get before after out out' result (NotFound dialed s s' end opens finds is same closes) opened link session =
    not_found_run opened link get.addr get.units get.invalidates get.uid get.gid get.export get.path before dialed after s s' end opens finds result is closes session
jobs_have_a_run_lem get before after out out' result (Found dialed s s' file opens finds hangs) opened link session = by hangs.reads
  where
    found : List Exchange
    found = (tells_finds get.uid get.gid get.export get.path s s' (Ok file) finds).made

    by : (reads : ReadsFileByJobs get.uid get.gid file (link_of s') hangs.source hangs.sink out.taken out'.taken result)
        → SaysOfFile (λ source sink made history. IsJobsRun opened link s source sink dialed.ended after.ended result made history) (tells_finds get.uid get.gid get.export get.path s s' (Ok file) finds).made
        get.uid get.gid file s' hangs.source hangs.sink out.taken out'.taken result reads
    by (NoAttributes mid end gets is same none) =
        let made = found ++ (asked_exchanges getattr_result (getattr_call get.uid get.gid file) (view_at (link_of s')) (view_at mid) (Err end) gets.asks).made in
        let hung : HangsUp opens.number mid.source mid.sink dialed after =
        subst (λ (i : SourceAt). HangsUp opens.number i mid.sink dialed after) same.0 (subst (λ (o : SinkAt). HangsUp opens.number hangs.source o dialed after) same.1 hangs.hangs_up) in
        let run = no_size_run opened link get.addr get.units get.invalidates get.uid get.gid get.export get.path file before dialed after s s' opens finds mid end gets result is hung session in
        subst (λ (i : SourceAt). IsJobsRun opened link s i hangs.sink dialed.ended after.ended result made []) (sym same.0)
        (subst (λ (o : SinkAt). IsJobsRun opened link s mid.source o dialed.ended after.ended result made []) (sym same.1) run)
    by (Shared mid outcome attributes gets shared) =
        jobs_run opened link get.addr get.units get.invalidates get.uid get.gid get.export get.path file before dialed after s s' opens finds hangs.source hangs.sink mid outcome attributes gets
        out.taken out'.taken result shared hangs.hangs_up session
