-- What the status of a command of a client with a number says, whatever its server does.
use Rattle.std.proofs.Common.{◌≡◌, ◌≤◌, ℕ, arith, List, [], ◌∷◌, ◌++◌, Option, None, Some, Result, Ok, Err, inl, inr, refl, sym, ap, subst, ◌∙◌, append_assoc}
use Rattle.nr_outside.specs.Faults.{Rises}
use Rattle.nr_outside.specs.Streams.{SinkAt, SourceAt}
use Rattle.nr_link.specs.declared.end.End.{End}
use Rattle.nr_link.specs.declared.end.End.TheVariants as ends
use Rattle.nr_turnstile.specs.Rule.{Begins}
use Rattle.nr_words.specs.Lines.{Text}
use Rattle.nr_words.specs.declared.commands.Action.{Action}
use Rattle.nr_words.specs.declared.commands.Action.TheVariants as actions
use Rattle.nr_words.specs.declared.commands.NumberedClient.{NumberedClient}
use Rattle.nr_shared.specs.declared.call_end.CallEnd.{CallEnd}
use Rattle.nr_shared.specs.declared.call_end.CallEnd.TheVariants as calls
use Rattle.nr_shared.specs.declared.entry.Entry.{Entry}
use Rattle.nr_shared.specs.declared.entry.Entry.TheVariants as entries
use Rattle.nr_shared.specs.declared.entry.InitialState.{InitialState}
use Rattle.nr_shared.specs.declared.entry.Stop.TheVariants as causes
use Rattle.nr_shared.specs.Ending.{LossEnds}
use Rattle.nr_shared.specs.Histories.{stop_of, tries_of}
use Rattle.nr_shared.specs.Output.{EntriesMayFollow}
use Rattle.nr_client.specs.declared.client_end.ClientEnd.{ClientEnd}
use Rattle.nr_client.specs.declared.client_end.ClientEnd.TheVariants as client
use Rattle.nr_client.specs.CallerViews.{CallerView, shared_relations}
use Rattle.nr_client.specs.Dialing.{DialerAt}
use Rattle.nr_client.specs.Numbered.{HangsUpLast}
use Rattle.nr_client.specs.Reading.{OutputFaults}
use Rattle.nr_commands.specs.Commands.{GetsOver, IsSilent}
use Rattle.nr_commands.specs.NumberedRuns.{ClosesLast, OpensFirst, OpensNone, PrintsShared, SinkView, SourceView}
use Rattle.nr_commands.specs.NumberedRuns.RunsNumbered.{FirstOpened, NoneOpened}
use Rattle.nr_commands.specs.Running.{IsPrinted, text_of_over}
use Rattle.nr_service_laws.proofs.AnyOutcomes.{PeerEnd, peer_judgement, words_give}
use Rattle.nr_service_laws.proofs.Judged.{Any}
use Rattle.nr_top.specs.Clients.{ReportsEnd, status_of}
use Rattle.nr_top.specs.Clients.NumberedEnds.{NumberedDone, NumberedNotDone}
use Rattle.nr_top.specs.Statuses as statuses
use Rattle.nr_top_laws.specs.NumberedStatuses.{HasCause, NumberedLinesAreRead, NumberedStatusSays, NumberedStatusesHaveCauses, answered_calls, last_view}
use Rattle.nr_top_laws.specs.NumberedStatuses.NumberedStatusSays.{AtLimit, BadPath, DialFails, Fault, LostAgain, NfsFailed, NoMemory, OverBudget, Refused, ReplyBad, SideEnded, TransportError}
use Rattle.nr_top_laws.proofs.CallerExchanges.{grows_not}
use Rattle.nr_top_laws.proofs.CallerCommands.{command_in}
use Rattle.nr_top_laws.proofs.CallerParts.{EndsIn}
use Rattle.nr_top_laws.proofs.FirstHistories.{first_tries, known_first}
use Rattle.nr_top_laws.proofs.KeptEnds.{dial_fault_stays}

-- ---- The end of a call

-- the tries of the history by which a call ended
module _ (tries : ℕ) (v : CallerView) (c : InitialState) (rest : List Entry) (seen : v.seen ≡ entries.Initial c ∷ rest) (has_tries : c.tries ≡ Some tries) where
  lost_by : (end : CallEnd) (h : List Entry) → Begins h v.seen → LossEnds (tries_of h) end h → (LossEnds None end [] → ⊥) → LossEnds (Some tries) end h
  lost_by end h begins ended never =
      subst (λ (o : Option ℕ). LossEnds o end h)
      (first_tries h begins.0 rest c (sym begins.1 ∙ seen) (λ (l : List Entry). LossEnds (tries_of l) end l) ended never ∙ has_tries) ended

  not_read : HasCause calls.LinkRead v → ⊥
  not_read (call, (h, (i, (first, (begins, is))))) = lost_by calls.LinkRead h begins is (λ wrong. let e = wrong in cc)

  not_written : HasCause calls.LinkWrite v → ⊥
  not_written (call, (h, (i, (first, (begins, is))))) = lost_by calls.LinkWrite h begins is (λ wrong. let e = wrong in cc)

  not_closed : HasCause calls.Closed v → ⊥
  not_closed (call, (h, (i, (first, (begins, is))))) = lost_by calls.Closed h begins is (λ wrong. let e = wrong in cc)

  all_tries : (n : ℕ) → HasCause (calls.Tries n) v → n ≡ tries
  all_tries n (call, (h, (i, (first, (begins, is))))) = (lost_by (calls.Tries n) h begins is (λ wrong. wrong)).0

  dial_failed : HasCause calls.DialFault v → (h : List Entry) × (Begins h v.seen × (stop_of h ≡ Some causes.DialFault))
  dial_failed (call, (h, (i, (first, (begins, is))))) = (h, (begins, lost_by calls.DialFault h begins is (λ wrong. wrong)))

-- ---- The status of an end

module _ (c : NumberedClient Text) (dialer dialer' : DialerAt) (input input' : SourceAt) (out out' err err' : SinkAt) where
  ended_says : (end : End) (v : CallerView) → HasCause (calls.Ended end) v → NumberedStatusSays c (status_of (client.Link (calls.Ended end))) (client.Link (calls.Ended end)) dialer dialer' input input' out out' err err' (Some v)
  ended_says ends.Memory v has = NoMemory refl
  ended_says (ends.Bad at reason) v has = SideEnded refl (ends.Bad at reason) (λ wrong. let e = wrong in cc) refl has
  ended_says (ends.Denied stag offset why) v has = SideEnded refl (ends.Denied stag offset why) (λ wrong. let e = wrong in cc) refl has
  ended_says (ends.NoBuffer msn) v has = SideEnded refl (ends.NoBuffer msn) (λ wrong. let e = wrong in cc) refl has
  ended_says (ends.Terminated reason) v has = SideEnded refl (ends.Terminated reason) (λ wrong. let e = wrong in cc) refl has

  says : (end : ClientEnd) (v : CallerView) (first : InitialState) (rest : List Entry) → v.seen ≡ entries.Initial first ∷ rest → first.tries ≡ Some c.tries
      → ((h : List Entry) → Begins h v.seen → stop_of h ≡ Some causes.DialFault → Rises dialer.faults dialer'.faults)
      → EndsIn (PeerEnd c.client input (answered_calls v) (Rises input.faults input'.faults) (Rises out.faults out'.faults)) end v
      → NumberedStatusSays c (status_of end) end dialer dialer' input input' out out' err err' (Some v)
  says client.DialFault v first rest seen tries rises is = absurd is
  says (client.Link (calls.Ended end)) v first rest seen tries rises is = ended_says end v is
  says (client.Link calls.LinkRead) v first rest seen tries rises is = absurd (not_read c.tries v first rest seen tries is)
  says (client.Link calls.LinkWrite) v first rest seen tries rises is = absurd (not_written c.tries v first rest seen tries is)
  says (client.Link calls.Closed) v first rest seen tries rises is = absurd (not_closed c.tries v first rest seen tries is)
  says (client.Link (calls.Tries n)) v first rest seen tries rises is =
      let same = all_tries c.tries v first rest seen tries n is in
      LostAgain refl (ap (λ (k : ℕ). client.Link (calls.Tries k)) same) (subst (λ (k : ℕ). HasCause (calls.Tries k) v) same is)
  says (client.Link calls.DialFault) v first rest seen tries rises is = let (h, (begins, stopped)) = dial_failed c.tries v first rest seen tries is in DialFails refl (rises h begins stopped)
  says (client.Link (calls.Spent left_over need)) v first rest seen tries rises is = AtLimit refl (calls.Spent left_over need) tt refl is
  says (client.Link (calls.TooLarge need room)) v first rest seen tries rises is = AtLimit refl (calls.TooLarge need room) tt refl is
  says (client.Link (calls.Budget count)) v first rest seen tries rises is = AtLimit refl (calls.Budget count) tt refl is
  says (client.Link calls.Memory) v first rest seen tries rises is = NoMemory refl
  says (client.Rpc kind code) v first rest seen tries rises is = Refused refl (inl (kind, (code, refl))) is
  says (client.Mount status) v first rest seen tries rises is = Refused refl (inr (status, refl)) is
  says (client.Nfs status) v first rest seen tries rises is = NfsFailed refl status refl is
  says client.Chunk v first rest seen tries rises is = TransportError refl (inl refl) is
  says (client.Version low high) v first rest seen tries rises is = TransportError refl (inr (low, (high, refl))) is
  says (client.BadReply at reason) v first rest seen tries rises is = ReplyBad refl at reason refl is
  says (client.BadPath at) v first rest seen tries rises is = BadPath refl at refl is
  says client.InputFault v first rest seen tries rises is = Fault refl (inl is)
  says client.OutputFault v first rest seen tries rises is = Fault refl (inr (inl is))
  says (client.Budget count) v first rest seen tries rises is = OverBudget refl count refl is
  says client.Memory v first rest seen tries rises is = NoMemory refl

  -- no session was opened
  none_says : (end : ClientEnd) → OpensNone end c dialer dialer' → NumberedStatusSays c (status_of end) end dialer dialer' input input' out out' err err' None
  none_says client.DialFault fails = DialFails refl fails.1.1
  none_says client.Memory fails = NoMemory refl
  none_says (client.Link end) fails = absurd fails
  none_says (client.Rpc kind code) fails = absurd fails
  none_says (client.Mount status) fails = absurd fails
  none_says (client.Nfs status) fails = absurd fails
  none_says client.Chunk fails = absurd fails
  none_says (client.Version low high) fails = absurd fails
  none_says (client.BadReply at reason) fails = absurd fails
  none_says (client.BadPath at) fails = absurd fails
  none_says client.InputFault fails = absurd fails
  none_says client.OutputFault fails = absurd fails
  none_says (client.Budget count) fails = absurd fails

  -- what was reported: the status of the end, or memory ran out for its text, or what reports failed
  reported : (status : ℕ) (end : ClientEnd) (last : Option CallerView) → ReportsEnd end status err err' → NumberedStatusSays c (status_of end) end dialer dialer' input input' out out' err err' last
      → NumberedStatusSays c status end dialer dialer' input input' out out' err err' last
  reported status end last (inl (inl (is, writes))) said = subst (λ (n : ℕ). NumberedStatusSays c n end dialer dialer' input input' out out' err err' last) (sym is) said
  reported status end last (inl (inr (is, cut))) said = Fault is (inr (inr cut.rose))
  reported status end last (inr (inl (is, writes))) said = NoMemory is
  reported status end last (inr (inr (is, cut))) said = Fault is (inr (inr cut.rose))

  -- no status is 1
  not_bad : (status : ℕ) (end : ClientEnd) (last : Option CallerView) → NumberedStatusSays c status end dialer dialer' input input' out out' err err' last → status ≡ statuses.bad_arguments → ⊥
  not_bad status end last (NoMemory is) one = omega (arith, is, one)
  not_bad status end last (DialFails is rises) one = omega (arith, is, one)
  not_bad status end last (LostAgain is same cause) one = omega (arith, is, one)
  not_bad status end last (SideEnded is why apart same cause) one = omega (arith, is, one)
  not_bad status end last (ReplyBad is at reason same cause) one = omega (arith, is, one)
  not_bad status end last (Refused is same cause) one = omega (arith, is, one)
  not_bad status end last (NfsFailed is why same cause) one = omega (arith, is, one)
  not_bad status end last (TransportError is same cause) one = omega (arith, is, one)
  not_bad status end last (Fault is cause) one = omega (arith, is, one)
  not_bad status end last (BadPath is at same cause) one = omega (arith, is, one)
  not_bad status end last (OverBudget is count same cause) one = omega (arith, is, one)
  not_bad status end last (AtLimit is cause limit same has) one = omega (arith, is, one)

-- ---- Up to what is printed

-- an output is as before if the text was not ended by a fault of it
output_kept : (uid gid : ℕ) (export : List ℕ) (action : Action Text) (input input' : SourceAt) (out out' : SinkAt) (v w : CallerView) (text : List ℕ) → text_of_over shared_relations uid gid export action input input' out out' v w (Ok text)
    → out'.faults ≡ out.faults
output_kept uid gid export actions.Mount input input' out out' v w text is = ap (λ (o : SinkAt). o.faults) is.1.1
output_kept uid gid export (actions.List path) input input' out out' v w text is = ap (λ (o : SinkAt). o.faults) is.1.1
output_kept uid gid export (actions.Stat path) input input' out out' v w text is = ap (λ (o : SinkAt). o.faults) is.1.1
output_kept uid gid export (actions.ReadLink path) input input' out out' v w text is = ap (λ (o : SinkAt). o.faults) is.1.1
output_kept uid gid export (actions.MakeDirectory path) input input' out out' v w text is = ap (λ (o : SinkAt). o.faults) is.1.1
output_kept uid gid export (actions.Remove path) input input' out out' v w text is = ap (λ (o : SinkAt). o.faults) is.1.1
output_kept uid gid export (actions.Link path target) input input' out out' v w text is = ap (λ (o : SinkAt). o.faults) is.1.1
output_kept uid gid export (actions.Put path) input input' out out' v w text is = ap (λ (o : SinkAt). o.faults) is.1
output_kept uid gid export (actions.Get path) input input' out out' v w text is = by is.0
  where
    read : (done : Result (Unit {0}) ClientEnd) → IsSilent done (Ok text) → OutputFaults done out.faults out'.faults → out'.faults ≡ out.faults
    read (Ok done) silent counts = counts
    read (Err end) silent counts = absurd silent

    by : GetsOver shared_relations uid gid export path out out' v w (Ok text) → out'.faults ≡ out.faults
    by (inl (file, (mid, (finds, (done, ((reads, counts), silent)))))) = read done silent counts.0
    by (inr (end, (finds, (same, kept)))) = absurd (let wrong = same in cc)

-- ---- A session

module _ (c : NumberedClient Text) (dialer dialer' dialed : DialerAt) (input input' : SourceAt) (out out' : SinkAt) (source : SourceView) (v v' : CallerView) (result : Result (Unit {0}) ClientEnd)
    (opens : OpensFirst c dialer dialed source v) (prints : PrintsShared c v v' input input' out out' result) (closes : ClosesLast c source dialed v' dialer') where
  abbrev first : InitialState
  first = record { requester = opens.requester; sink = opens.sink; tries = Some c.tries }

  abbrev F : ClientEnd → Type 0
  F = PeerEnd c.client input (answered_calls v') (Rises input.faults input'.faults) (Rises out.faults out'.faults)

  abbrev Last : ClientEnd → SinkAt → SinkAt → Type 0
  Last end err err' = NumberedStatusSays c (status_of end) end dialer dialer' input input' out out' err err' (Some v')

  -- a dial that failed is counted
  dials : (h : List Entry) → Begins h v'.seen → stop_of h ≡ Some causes.DialFault → Rises dialer.faults dialer'.faults
  dials h begins stopped =
      let whole = closes.back in
      let later = begins.0 ++ whole.begins.0 in
      let all : whole.history ≡ h ++ later = whole.begins.1 ∙ (ap (λ (l : List Entry). l ++ whole.begins.0) begins.1 ∙ append_assoc h begins.0 whole.begins.0) in
      let ended : stop_of whole.history ≡ Some causes.DialFault = ap (λ (l : List Entry). stop_of l) all ∙ dial_fault_stays h later (subst EntriesMayFollow all whole.may_follow) stopped in
      subst (λ (n : ℕ). Rises n dialer'.faults) opens.unfailing (subst (λ (n : ℕ). Rises dialed.faults n) (sym (last closes.link closes.hung_up)) (whole.dialer_is.failed ended))
    where
      last : (link : Option (SourceView × SinkView))
          → HangsUpLast {I = SourceView} {O = SinkView} {D = DialerAt} (λ s. s.link) (λ s. s.left) (λ s. s.given) (λ s. s.faults) (λ k. k.taken) (λ k. k.faults) (λ d. d.asked) (λ d. d.ended) (λ d. d.lost) (λ d. d.faults) link closes.between dialer'
          → dialer'.faults ≡ closes.between.faults
      last None same = ap (λ (d : DialerAt). d.faults) same
      last (Some (source_half, sink_half)) ends = ends.1.1.1

  session_says : (err err' : SinkAt) → c.tries ≤ 16 → (text : Result (List ℕ) ClientEnd) (given : Result (Unit {0}) ClientEnd)
      → text_of_over shared_relations c.client.uid c.client.gid c.client.export c.client.action input input' out prints.written v v' text → IsPrinted text given prints.written out' → (end : ClientEnd) → given ≡ Err end → Last end err err'
  session_says err err' few (Ok text) given made printed end is =
      of_output end (subst (λ (r : Result (Unit {0}) ClientEnd). IsPrinted (Ok text) r prints.written out') is printed)
    where
      rose : Rises prints.written.faults out'.faults → Rises out.faults out'.faults
      rose r = subst (λ (n : ℕ). Rises n out'.faults) (output_kept c.client.uid c.client.gid c.client.export c.client.action input input' out prints.written v v' text made) r

      of_output : (x : ClientEnd) → IsPrinted (Ok text) (Err x) prints.written out' → Last x err err'
      of_output client.OutputFault cut = Fault refl (inr (inl (rose cut.rose)))
      of_output client.DialFault wrong = absurd wrong
      of_output (client.Link why) wrong = absurd wrong
      of_output (client.Rpc kind code) wrong = absurd wrong
      of_output (client.Mount status) wrong = absurd wrong
      of_output (client.Nfs status) wrong = absurd wrong
      of_output client.Chunk wrong = absurd wrong
      of_output (client.Version low high) wrong = absurd wrong
      of_output (client.BadReply at reason) wrong = absurd wrong
      of_output (client.BadPath at) wrong = absurd wrong
      of_output client.InputFault wrong = absurd wrong
      of_output (client.Budget count) wrong = absurd wrong
      of_output client.Memory wrong = absurd wrong
  session_says err err' few (Err why) (Ok done) made printed end is = absurd printed
  session_says err err' few (Err why) (Err given) made (same, kept) end is =
      let I = Rises input.faults input'.faults in
      let O = Rises out.faults out'.faults in
      let d = command_in v' Any F c.client.uid c.client.gid (peer_judgement c.client input (answered_calls v') I O) c.client.export c.client.action input input' out prints.written (words_give c.client input (answered_calls v') I O)
      (λ rose. rose) (λ rose. subst (λ (o : SinkAt). Rises out.faults o.faults) (sym kept) rose) v v' (Err why) made (known_first v first opens.seen opens.mine (omega arith, few)) in
      subst (λ (x : ClientEnd). Last x err err') (sym same ∙ ap (end_in why) is)
      (says c dialer dialer' input input' out out' err err' why v' first d.grows.seen.0 (d.grows.seen.1 ∙ ap (λ (l : List Entry). l ++ d.grows.seen.0) opens.seen) refl dials (d.given tt (grows_not v' v' refl)))
    where
      end_in : ClientEnd → Result (Unit {0}) ClientEnd → ClientEnd
      end_in other (Ok done) = other
      end_in other (Err x) = x

-- ---- The laws

pub numbered_statuses_have_causes_lem : NumberedStatusesHaveCauses
numbered_statuses_have_causes_lem c status dialer dialer' input input' out out' err err' few (NumberedDone is runs same) = is
numbered_statuses_have_causes_lem c status dialer dialer' input input' out out' err err' few (NumberedNotDone end (NoneOpened why is fails same_input same_out) reports) =
    reported c dialer dialer' input input' out out' err err' status end None reports
    (none_says c dialer dialer' input input' out out' err err' end (subst (λ (e : ClientEnd). OpensNone e c dialer dialer') (sym (ap end_of is)) fails))
  where
    end_of : Result (Unit {0}) ClientEnd → ClientEnd
    end_of (Ok done) = why
    end_of (Err x) = x
numbered_statuses_have_causes_lem c status dialer dialer' input input' out out' err err' few (NumberedNotDone end (FirstOpened dialed source v v' opens prints closes) reports) =
    reported c dialer dialer' input input' out out' err err' status end (Some v') reports
    (session_says c dialer dialer' dialed input input' out out' source v v' (Err end) opens prints closes err err' few prints.text (Err end) prints.made prints.prints end refl)

pub numbered_lines_are_read_lem : NumberedLinesAreRead
numbered_lines_are_read_lem c status dialer dialer' input input' out out' err err' few (NumberedDone is runs same) one = omega (arith, is, one)
numbered_lines_are_read_lem c status dialer dialer' input input' out out' err err' few (NumberedNotDone end runs reports) one =
    not_bad c dialer dialer' input input' out out' err err' status end (last_view c dialer dialer' input input' out out' (Err end) runs)
    (numbered_statuses_have_causes_lem c status dialer dialer' input input' out out' err err' few (NumberedNotDone end runs reports)) one
