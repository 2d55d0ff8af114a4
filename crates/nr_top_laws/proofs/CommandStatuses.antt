-- The status of a command of a client whose server is a plain one that keeps its law.
use Rattle.std.proofs.Common.{◌≡◌, ℕ, ltb, Bool, true, false, ◌||◌, List, Option, Result, Ok, Err, inl, inr, refl, sym, ap, subst, ◌∙◌, arith, ltb-false}
use Rattle.std.specs.Prelude.{◌⊎◌, MatchBool}
use Rattle.std.specs.Io.KnownBytes.{IsAtEnd}
use Rattle.nr_outside.specs.Faults.{Rises}
use Rattle.nr_outside.specs.Streams.{SinkAt}
use Rattle.nr_shared.specs.declared.call_end.CallEnd.TheVariants as calls
use Rattle.nr_client.specs.declared.client_end.ClientEnd.{ClientEnd}
use Rattle.nr_client.specs.declared.client_end.ClientEnd.TheVariants as client
use Rattle.nr_commands.specs.Running.Runs.{NotOpened, Opened}
use Rattle.nr_service_laws.specs.CompleteCommands.{IsComplete, IsUndisturbed}
use Rattle.nr_service_laws.proofs.CompleteCommands.{served_commands_complete_lem}
use Rattle.nr_top.specs.Clients.{ReportsEnd, link_status, status_of}
use Rattle.nr_top.specs.Clients.ClientEnds.{Done, NotDone}
use Rattle.nr_top.specs.Ends.{Reported}
use Rattle.nr_top.specs.Statuses as statuses
use Rattle.nr_top_laws.specs.CommandStatuses.{IsAnsweredStatus, IsCompleteStatus, ServedCommandsHaveStatuses}

-- ---- The status of an end

status_by : (end : ClientEnd) (left : Option (List ℕ)) → IsComplete (Err end) left → IsAnsweredStatus (status_of end) ⊎ ((end ≡ client.Link calls.Closed) × IsAtEnd left)
status_by client.DialFault left is = absurd is
status_by (client.Link (calls.Ended end)) left is = inl (inr (inl (ap link_status is)))
status_by (client.Link calls.LinkRead) left is = absurd is
status_by (client.Link calls.LinkWrite) left is = absurd is
status_by (client.Link calls.Closed) left is = inr (refl, is)
status_by (client.Link (calls.Tries n)) left is = absurd is
status_by (client.Link calls.DialFault) left is = absurd is
status_by (client.Link (calls.Spent left_over need)) left is = inl (inr (inr (inr (inr (inr refl)))))
status_by (client.Link (calls.TooLarge need room)) left is = inl (inr (inr (inr (inr (inr refl)))))
status_by (client.Link (calls.Budget count)) left is = inl (inr (inr (inr (inr (inr refl)))))
status_by (client.Link calls.Memory) left is = inl (inr (inl refl))
status_by (client.Rpc kind code) left is = inl (inr (inr (inl refl)))
status_by (client.Mount status) left is = inl (inr (inr (inl refl)))
status_by (client.Nfs status) left is = inl (inr (inr (inr (inl refl))))
status_by client.Chunk left is = absurd is
status_by (client.Version low high) left is = absurd is
status_by (client.BadReply at reason) left is = absurd is
status_by (client.BadPath at) left is = inl (inr (inr (inr (inr (inl refl)))))
status_by client.InputFault left is = absurd is
status_by client.OutputFault left is = absurd is
status_by (client.Budget count) left is = inl (inr (inr (inr (inr (inr refl)))))
status_by client.Memory left is = inl (inr (inl refl))

status_complete : (end : ClientEnd) (left : Option (List ℕ)) → IsComplete (Err end) left → IsCompleteStatus (status_of end) left
status_complete end left is = by (status_by end left is)
  where
    by : IsAnsweredStatus (status_of end) ⊎ ((end ≡ client.Link calls.Closed) × IsAtEnd left) → IsCompleteStatus (status_of end) left
    by (inl answered) = inl answered
    by (inr (closed, at_end)) = inr (ap status_of closed, at_end)

status_answered : (end : ClientEnd) (left : Option (List ℕ)) → IsComplete (Err end) left → (◌≡◌ {A = Result (Unit {0}) ClientEnd} (Err end) (Err (client.Link calls.Closed)) → ⊥) → IsAnsweredStatus (status_of end)
status_answered end left is apart = by (status_by end left is)
  where
    by : IsAnsweredStatus (status_of end) ⊎ ((end ≡ client.Link calls.Closed) × IsAtEnd left) → IsAnsweredStatus (status_of end)
    by (inl answered) = answered
    by (inr (closed, at_end)) = absurd (apart (ap (λ (e : ClientEnd). Err e) closed))

-- what was reported, if what reports has no fault
pub reported_is : (due status : ℕ) (text : List ℕ) (err err' : SinkAt) → (Rises err.faults err'.faults → ⊥) → Reported due text status err err' → status ≡ due
reported_is due status text err err' calm (inl (is, writes)) = is
reported_is due status text err err' calm (inr (is, cut)) = absurd (calm cut.rose)

status_is : (end : ClientEnd) (status : ℕ) (err err' : SinkAt) → (Rises err.faults err'.faults → ⊥) → ReportsEnd end status err err' → (status ≡ status_of end) ⊎ (status ≡ statuses.no_memory)
status_is end status err err' calm (inl reported) = inl (reported_is (status_of end) status _ err err' calm reported)
status_is end status err err' calm (inr reported) = inr (reported_is statuses.no_memory status _ err err' calm reported)

-- ---- A link that isn't lost

none_faulty : (a b : Bool) (before after : ℕ) → MatchBool (a || b) (Rises before after) (after ≡ before) → (Rises before after → ⊥) → (a ≡ false) × (b ≡ false)
none_faulty false false before after counts calm = (refl, refl)
none_faulty false true before after counts calm = absurd (calm counts)
none_faulty true b before after counts calm = absurd (calm counts)

none_rose : (before after : ℕ) → before ≡ 0 → ltb 0 after ≡ false → Rises before after → ⊥
none_rose before after none calm (inl more) = let few = ltb-false 0 after calm in omega (arith, few, more)
none_rose before after none calm (inr last) = let few = ltb-false 0 after calm in omega (arith, few, last)

-- ---- The law

pub served_commands_have_statuses_lem : ServedCommandsHaveStatuses
served_commands_have_statuses_lem setup opened link c status dialer dialer' input input' out out' err err' (Done is runs same) sane session = is
served_commands_have_statuses_lem setup opened link c status dialer dialer' input input' out out' err err' (NotDone end (NotOpened why is fails same_input same_out) reports) sane session = λ calm.
    by (status_is end status err err' calm.error_writes reports)
    (served_commands_complete_lem setup opened link c dialer dialer' input input' out out' (Err end) (NotOpened why is fails same_input same_out) sane session calm.dials)
  where
    end_of : Result (Unit {0}) ClientEnd → ClientEnd
    end_of (Ok done) = client.Memory
    end_of (Err x) = x

    by : (status ≡ status_of end) ⊎ (status ≡ statuses.no_memory) → ◌≡◌ {A = Result (Unit {0}) ClientEnd} (Err end) (Err client.Memory) → status ≡ statuses.no_memory
    by (inl same) memory = same ∙ ap (λ (r : Result (Unit {0}) ClientEnd). status_of (end_of r)) memory
    by (inr same) memory = same
served_commands_have_statuses_lem setup opened link c status dialer dialer' input input' out out' err err' (NotDone end (Opened dialed s s' opens prints closes) reports) sane session = λ ran both served calm.
    let lost = none_faulty (ltb 0 s'.source_faults) (ltb 0 s'.sink_faults) dialed.lost dialer'.lost closes.lost (λ rose. calm.lost (subst (λ (n : ℕ). Rises n dialer'.lost) opens.none_lost rose)) in
    let undisturbed : IsUndisturbed s s' input input' out out' = record {
      source = none_rose s.source_faults s'.source_faults opens.fresh.no_source_fault lost.0;
      sink = none_rose s.sink_faults s'.sink_faults opens.fresh.no_sink_fault lost.1;
      input_reads = calm.input_reads;
      output_writes = calm.output_writes;
    } in
    let reported = status_is end status err err' calm.error_writes reports in
    let complete = served_commands_complete_lem setup opened link c dialer dialer' input input' out out' (Err end) (Opened dialed s s' opens prints closes) sane session ran both served undisturbed in
    (by s'.bytes.left reported complete.0, λ owes. answered s'.bytes.left reported complete.0 (complete.1 owes))
  where
    by : (left : Option (List ℕ)) → (status ≡ status_of end) ⊎ (status ≡ statuses.no_memory) → IsComplete (Err end) left → IsCompleteStatus status left
    by left (inl same) complete = subst (λ (n : ℕ). IsCompleteStatus n left) (sym same) (status_complete end left complete)
    by left (inr same) complete = inl (inr (inl same))

    answered : (left : Option (List ℕ)) → (status ≡ status_of end) ⊎ (status ≡ statuses.no_memory) → IsComplete (Err end) left
        → (◌≡◌ {A = Result (Unit {0}) ClientEnd} (Err end) (Err (client.Link calls.Closed)) → ⊥) → IsAnsweredStatus status
    answered left (inl same) complete apart = subst IsAnsweredStatus (sym same) (status_answered end left complete apart)
    answered left (inr same) complete apart = inr (inl same)
