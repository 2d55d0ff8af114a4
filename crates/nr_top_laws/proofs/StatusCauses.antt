-- What the status of a command of a client says, whatever its server does.
use Rattle.std.proofs.Common.{◌≡◌, ℕ, ltb, Bool, true, false, ◌||◌, List, Option, Some, Result, Ok, Err, inl, inr, refl, sym, ap, subst, arith, lt-ltb}
use Rattle.std.specs.Prelude.{◌⊎◌, MatchBool}
use Rattle.nr_outside.specs.Faults.{Rises}
use Rattle.nr_outside.specs.Streams.{SinkAt, SourceAt}
use Rattle.nr_link.specs.declared.end.End.{End}
use Rattle.nr_link.specs.declared.end.End.TheVariants as ends
use Rattle.nr_reduce.specs.declared.call.Refused.TheVariants as refusals
use Rattle.nr_words.specs.Lines.{Text}
use Rattle.nr_words.specs.declared.commands.Client.{Client}
use Rattle.nr_shared.specs.declared.call_end.CallEnd.TheVariants as calls
use Rattle.nr_client.specs.declared.client_end.ClientEnd.{ClientEnd}
use Rattle.nr_client.specs.declared.client_end.ClientEnd.TheVariants as client
use Rattle.nr_client.specs.Dialing.{DialerAt, OpenFails}
use Rattle.nr_commands.specs.Running.Runs.{NotOpened, Opened}
use Rattle.nr_commands.specs.Sessions.{SessionAt}
use Rattle.nr_service_laws.specs.Exchanges.{Exchange}
use Rattle.nr_service_laws.specs.PeerEnds.{EndSays}
use Rattle.nr_service_laws.proofs.PeerEnds.{ends_say_lem}
use Rattle.nr_top.specs.Clients.{ReportsEnd, status_of}
use Rattle.nr_top.specs.Clients.ClientEnds.{Done, NotDone}
use Rattle.nr_top.specs.Statuses as statuses
use Rattle.nr_top_laws.specs.StatusCauses.{LinesAreRead, StatusSays, StatusesHaveCauses, exchanges_of, last_session}
use Rattle.nr_top_laws.specs.StatusCauses.StatusSays.{BadPath, Fault, LinkBroken, LinkClosed, LinkFault, LinkIsRead, NfsFailed, NoMemory, NotSubmitted, OverBudget, Refused, ReplyBad, TransportError}

-- ---- A link that was hung up with a fault is lost

some_faulty : (a b : Bool) (before after : ℕ) → MatchBool (a || b) (Rises before after) (after ≡ before) → (a ≡ true) ⊎ (b ≡ true) → Rises before after
some_faulty true b before after counts faulty = counts
some_faulty false true before after counts faulty = counts
some_faulty false false before after counts (inl wrong) = absurd (let e = wrong in cc)
some_faulty false false before after counts (inr wrong) = absurd (let e = wrong in cc)

risen : (before after : ℕ) → before ≡ 0 → Rises before after → ltb 0 after ≡ true
risen before after none (inl more) = lt-ltb 0 after (omega (arith, none, more))
risen before after none (inr last) = lt-ltb 0 after (omega (arith, none, last))

-- ---- The status of an end

module _ (c : Client Text) (dialer dialer' : DialerAt) (input input' : SourceAt) (out out' err err' : SinkAt) where
  ended_says : (end : End) (s' : SessionAt) (made : List Exchange) → (end ≡ ends.Memory) ⊎ (s'.requester.state.side.ended ≡ Some end)
      → StatusSays c (status_of (client.Link (calls.Ended end))) (client.Link (calls.Ended end)) dialer dialer' input input' out out' err err' (Some s') made
  ended_says ends.Memory s' made cause = NoMemory refl
  ended_says (ends.Bad at reason) s' made (inl wrong) = absurd (let e = wrong in cc)
  ended_says (ends.Bad at reason) s' made (inr ended) = LinkBroken refl (ends.Bad at reason) (λ wrong. let e = wrong in cc) refl ended
  ended_says (ends.Denied stag offset why) s' made (inl wrong) = absurd (let e = wrong in cc)
  ended_says (ends.Denied stag offset why) s' made (inr ended) = LinkBroken refl (ends.Denied stag offset why) (λ wrong. let e = wrong in cc) refl ended
  ended_says (ends.NoBuffer msn) s' made (inl wrong) = absurd (let e = wrong in cc)
  ended_says (ends.NoBuffer msn) s' made (inr ended) = LinkBroken refl (ends.NoBuffer msn) (λ wrong. let e = wrong in cc) refl ended
  ended_says (ends.Terminated reason) s' made (inl wrong) = absurd (let e = wrong in cc)
  ended_says (ends.Terminated reason) s' made (inr ended) = LinkBroken refl (ends.Terminated reason) (λ wrong. let e = wrong in cc) refl ended

  says : (end : ClientEnd) (s s' : SessionAt) (made : List Exchange) → EndSays c made s s' input input' out out' end
      → (Rises s.source_faults s'.source_faults → Rises dialer.lost dialer'.lost) → (Rises s.sink_faults s'.sink_faults → Rises dialer.lost dialer'.lost)
      → StatusSays c (status_of end) end dialer dialer' input input' out out' err err' (Some s') made
  says client.DialFault s s' made is source sink = absurd is
  says (client.Link (calls.Ended end)) s s' made is source sink = ended_says end s' made is
  says (client.Link calls.LinkRead) s s' made is source sink = LinkFault refl (inr (source is.0))
  says (client.Link calls.LinkWrite) s s' made is source sink = LinkFault refl (inr (sink is))
  says (client.Link calls.Closed) s s' made is source sink = LinkClosed refl refl (is.1.0, is.1.1.1.0)
  says (client.Link (calls.Tries n)) s s' made is source sink = absurd is
  says (client.Link calls.DialFault) s s' made is source sink = absurd is
  says (client.Link (calls.Spent left_over need)) s s' made is source sink = NotSubmitted refl (refusals.Spent left_over need) refl is
  says (client.Link (calls.TooLarge need room)) s s' made is source sink = NotSubmitted refl (refusals.TooLarge need room) refl is
  says (client.Link (calls.Budget count)) s s' made is source sink = LinkIsRead refl (ap (λ (n : ℕ). client.Link (calls.Budget n)) is.1.0) is.1.1
  says (client.Link calls.Memory) s s' made is source sink = NoMemory refl
  says (client.Rpc kind code) s s' made is source sink = Refused refl (inl (kind, (code, refl))) is
  says (client.Mount status) s s' made is source sink = Refused refl (inr (status, refl)) is
  says (client.Nfs status) s s' made is source sink = NfsFailed refl status refl is
  says client.Chunk s s' made is source sink = TransportError refl (inl refl) is
  says (client.Version low high) s s' made is source sink = TransportError refl (inr (low, (high, refl))) is
  says (client.BadReply at reason) s s' made is source sink = ReplyBad refl at reason refl is
  says (client.BadPath at) s s' made is source sink = BadPath refl at refl is
  says client.InputFault s s' made is source sink = Fault refl (inl is)
  says client.OutputFault s s' made is source sink = Fault refl (inr (inl is))
  says (client.Budget count) s s' made is source sink = OverBudget refl count refl is
  says client.Memory s s' made is source sink = NoMemory refl

  opens : (end : ClientEnd) (addr : List ℕ) (last : Option SessionAt) (made : List Exchange) → OpenFails end addr dialer dialer'
      → StatusSays c (status_of end) end dialer dialer' input input' out out' err err' last made
  opens client.DialFault addr last made fails = LinkFault refl (inl fails.failed)
  opens client.Memory addr last made fails = NoMemory refl
  opens (client.Link end) addr last made fails = absurd fails
  opens (client.Rpc kind code) addr last made fails = absurd fails
  opens (client.Mount status) addr last made fails = absurd fails
  opens (client.Nfs status) addr last made fails = absurd fails
  opens client.Chunk addr last made fails = absurd fails
  opens (client.Version low high) addr last made fails = absurd fails
  opens (client.BadReply at reason) addr last made fails = absurd fails
  opens (client.BadPath at) addr last made fails = absurd fails
  opens client.InputFault addr last made fails = absurd fails
  opens client.OutputFault addr last made fails = absurd fails
  opens (client.Budget count) addr last made fails = absurd fails

  -- what was reported: the status of the end, or memory ran out for its text, or what reports failed
  reported : (status : ℕ) (end : ClientEnd) (last : Option SessionAt) (made : List Exchange) → ReportsEnd end status err err'
      → StatusSays c (status_of end) end dialer dialer' input input' out out' err err' last made → StatusSays c status end dialer dialer' input input' out out' err err' last made
  reported status end last made (inl (inl (is, writes))) said = subst (λ (n : ℕ). StatusSays c n end dialer dialer' input input' out out' err err' last made) (sym is) said
  reported status end last made (inl (inr (is, cut))) said = Fault is (inr (inr cut.rose))
  reported status end last made (inr (inl (is, writes))) said = NoMemory is
  reported status end last made (inr (inr (is, cut))) said = Fault is (inr (inr cut.rose))

  -- no status is 1
  not_bad : (status : ℕ) (end : ClientEnd) (last : Option SessionAt) (made : List Exchange) → StatusSays c status end dialer dialer' input input' out out' err err' last made → status ≡ statuses.bad_arguments → ⊥
  not_bad status end last made (NoMemory is) one = omega (arith, is, one)
  not_bad status end last made (LinkFault is cause) one = omega (arith, is, one)
  not_bad status end last made (LinkClosed is same cause) one = omega (arith, is, one)
  not_bad status end last made (LinkBroken is why apart same cause) one = omega (arith, is, one)
  not_bad status end last made (ReplyBad is at reason same cause) one = omega (arith, is, one)
  not_bad status end last made (Refused is same cause) one = omega (arith, is, one)
  not_bad status end last made (NfsFailed is why same cause) one = omega (arith, is, one)
  not_bad status end last made (TransportError is same cause) one = omega (arith, is, one)
  not_bad status end last made (Fault is cause) one = omega (arith, is, one)
  not_bad status end last made (BadPath is at same cause) one = omega (arith, is, one)
  not_bad status end last made (OverBudget is count same cause) one = omega (arith, is, one)
  not_bad status end last made (NotSubmitted is why same cause) one = omega (arith, is, one)
  not_bad status end last made (LinkIsRead is same cause) one = omega (arith, is, one)

-- ---- The law

pub statuses_have_causes_lem : StatusesHaveCauses
statuses_have_causes_lem c status dialer dialer' input input' out out' err err' (Done is runs same) = is
statuses_have_causes_lem c status dialer dialer' input input' out out' err err' (NotDone end (NotOpened why is fails same_input same_out) reports) =
    reported c dialer dialer' input input' out out' err err' status end
    (last_session c dialer dialer' input input' out out' (Err end) (NotOpened why is fails same_input same_out)) (exchanges_of c dialer dialer' input input' out out' (Err end) (NotOpened why is fails same_input same_out)) reports
    (opens c dialer dialer' input input' out out' err err' end c.addr
    (last_session c dialer dialer' input input' out out' (Err end) (NotOpened why is fails same_input same_out)) (exchanges_of c dialer dialer' input input' out out' (Err end) (NotOpened why is fails same_input same_out))
    (subst (λ (e : ClientEnd). OpenFails e c.addr dialer dialer') (sym (ap end_of is)) fails))
  where
    end_of : Result (Unit {0}) ClientEnd → ClientEnd
    end_of (Ok done) = why
    end_of (Err x) = x
statuses_have_causes_lem c status dialer dialer' input input' out out' err err' (NotDone end (Opened dialed s s' opens prints closes) reports) =
    let last = last_session c dialer dialer' input input' out out' (Err end) (Opened dialed s s' opens prints closes) in
    let made = exchanges_of c dialer dialer' input input' out out' (Err end) (Opened dialed s s' opens prints closes) in
    reported c dialer dialer' input input' out out' err err' status end last made reports
    (says c dialer dialer' input input' out out' err err' end s s' made (ends_say_lem c dialer dialer' input input' out out' (Err end) (Opened dialed s s' opens prints closes) end refl)
    (λ rose. lost (inl (risen s.source_faults s'.source_faults opens.fresh.no_source_fault rose))) (λ rose. lost (inr (risen s.sink_faults s'.sink_faults opens.fresh.no_sink_fault rose))))
  where
    lost : (ltb 0 s'.source_faults ≡ true) ⊎ (ltb 0 s'.sink_faults ≡ true) → Rises dialer.lost dialer'.lost
    lost faulty = subst (λ (n : ℕ). Rises n dialer'.lost) opens.none_lost (some_faulty (ltb 0 s'.source_faults) (ltb 0 s'.sink_faults) dialed.lost dialer'.lost closes.lost faulty)

pub lines_are_read_lem : LinesAreRead
lines_are_read_lem c status dialer dialer' input input' out out' err err' (Done is runs same) one = omega (arith, is, one)
lines_are_read_lem c status dialer dialer' input input' out out' err err' (NotDone end runs reports) one =
    not_bad c dialer dialer' input input' out out' err err' status end (last_session c dialer dialer' input input' out out' (Err end) runs) (exchanges_of c dialer dialer' input input' out out' (Err end) runs)
    (statuses_have_causes_lem c status dialer dialer' input input' out out' err err' (NotDone end runs reports)) one
