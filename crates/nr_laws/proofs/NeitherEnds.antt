-- Neither side of a matched link ends: of the first marks by which one has ended, the last is fed to that side alone.
use Rattle.std.proofs.Common.{◌≡◌, ℕ, eqb, List, [], ◌∷◌, ◌++◌, Option, Some, None, refl, sym, ap, subst, ◌∙◌, append_assoc, append-nil, inl, inr, ◌⊎◌}
use Rattle.nr_wire.specs.declared.hello.Side.TheVariants.{Initiator, Responder}
use Rattle.nr_link.specs.declared.end.End.{End}
use Rattle.nr_reduce.specs.declared.call.Submission.TheVariants as submissions
use Rattle.nr_outside.specs.declared.moment.Moment.{Moment}
use Rattle.nr_reduce.specs.declared.mark.Entry.{Entry}
use Rattle.nr_reduce.specs.declared.mark.Mark.{Mark}
use Rattle.nr_reduce.specs.declared.mark.Mark.TheVariants as marks
use Rattle.nr_reduce.specs.declared.mark.LinkParameters.{LinkParameters}
use Rattle.nr_reduce.specs.Opening.{IsOpened}
use Rattle.nr_reduce.specs.KeepsReplyLimits.{KeepsReplyLimits}
use Rattle.nr_reduce.specs.Events.{RunEvent, events, events_at}
use Rattle.nr_reduce.specs.EndRules.{EndState, end_state_after}
use Rattle.nr_reduce.specs.ClientState.{ClientState}
use Rattle.nr_reduce.specs.ServerState.{ServerState}
use Rattle.nr_reduce.specs.Client.{client_rules}
use Rattle.nr_reduce.specs.Server.{server_rules}
use Rattle.nr_reduce.specs.Run.{client, server, end_of_side}
use Rattle.nr_reduce.proofs.Steps.{AtEachMark_first, client_one, server_one}
use Rattle.nr_laws.specs.EndCauses.{KeepLaws, IsReplyEnd, IsDenied, AgreesAgain, HasNoOldCall, NotOldMark}
use Rattle.nr_laws.specs.PlainLinks.{server_with, HasPlainReplies, PlainReplyMark}
use Rattle.nr_laws.specs.Stays.{NotRevokedMark, HasNoRevoke, ConveyedMark, AreConveyedOrRefused, MatchedLinksStayOpen, MatchedCallsComplete, NoAccessIsDenied, ClientsStayOpen}
use Rattle.nr_laws.specs.Typed.{TypedMark, IsTyped}
use Rattle.nr_laws.proofs.AgreeingRuns.{other_events}
use Rattle.nr_laws.proofs.LawsBefore.{laws_kept_before}
use Rattle.nr_laws.proofs.LawsSoFar.{laws_so_far_lem}
use Rattle.nr_laws.proofs.NotDenied.{client_not_denied}
use Rattle.nr_laws.proofs.ReadCalls.{server_stays_lem}
use Rattle.nr_laws.proofs.ReadReplies.{client_reads_replies, client_ends_for_replies}
use Rattle.nr_laws.proofs.SettledLinks.{calls_complete_lem}
use Rattle.nr_laws.proofs.Basics.{none_some_lem}

-- ---- A mark is an event of one side

one_side : (link : ℕ) (before : List Mark) (mark : Mark) → (events_at link Initiator before mark ≡ []) ⊎ (events_at link Responder before mark ≡ [])
one_side link before (marks.Submit l call form (submissions.Accepted xid)) = inr (other_events (eqb l link) _)
one_side link before (marks.Submit l call form (submissions.Refused why)) = inl refl
one_side link before (marks.Submit l call form submissions.Dropped) = inl refl
one_side link before (marks.Wrote l Initiator bytes) = inr (other_events (eqb l link) _)
one_side link before (marks.Wrote l Responder bytes) = inl (other_events (eqb l link) _)
one_side link before (marks.Fed l Initiator bytes) = inr (other_events (eqb l link) _)
one_side link before (marks.Fed l Responder bytes) = inl (other_events (eqb l link) _)
one_side link before (marks.Execute l xid moment payload place reply) = inl (other_events (eqb l link) _)
one_side link before (marks.Done l xid outcome) = inl refl
one_side link before (marks.Lost l xid) = inl refl
one_side link before (marks.Forget l xid) = inl refl
one_side link before (marks.Revoke l xid bytes) = inr (other_events (eqb l link) _)
one_side link before (marks.Drop l) = inl refl
one_side link before (marks.Told l what) = inl (other_events (eqb l link) _)

client_same : (opened : LinkParameters) (link : ℕ) (before : List Mark) (mark : Mark) → events_at link Initiator before mark ≡ [] → (client opened link (before ++ mark ∷ [])).ended ≡ (client opened link before).ended
client_same opened link before mark none =
    ap (λ (r : EndState ClientState). r.ended) (client_one opened link before mark ∙ ap (λ (es : List RunEvent). end_state_after (client_rules opened) (client opened link before) es) none)

server_same : (opened : LinkParameters) (link : ℕ) (before : List Mark) (mark : Mark) → events_at link Responder before mark ≡ [] → (server opened link (before ++ mark ∷ [])).ended ≡ (server opened link before).ended
server_same opened link before mark none =
    ap (λ (r : EndState ServerState). r.ended) (server_one opened link before mark ∙ ap (λ (es : List RunEvent). end_state_after (server_rules opened) (server opened link before) es) none)

-- ---- What is asked of a run

record AreAsked (reply_to : List Entry → Moment → List ℕ → Option (List ℕ)) (adds : Moment → List ℕ → List ℕ → List Entry) (opened : LinkParameters) (link : ℕ) (run : List Mark) : Type 0 where
  typed : IsTyped run
  laws : KeepLaws opened link run
  fresh : HasNoOldCall link run
  kept : HasNoRevoke link run
  conveyed : AreConveyedOrRefused opened link run
  plain_replies : HasPlainReplies (server_with reply_to adds) link run

asked_before_lem : (reply_to : List Entry → Moment → List ℕ → Option (List ℕ)) (adds : Moment → List ℕ → List ℕ → List Entry) (opened : LinkParameters) (link : ℕ) (run more : List Mark) → AreAsked reply_to adds opened link (run ++ more) → AreAsked reply_to adds opened link run
asked_before_lem reply_to adds opened link run more h = record {
  typed = AtEachMark_first TypedMark [] run more h.typed;
  laws = laws_kept_before opened link run more h.laws;
  fresh = AtEachMark_first (NotOldMark link) [] run more h.fresh;
  kept = AtEachMark_first (NotRevokedMark link) [] run more h.kept;
  conveyed = AtEachMark_first (ConveyedMark opened link) [] run more h.conveyed;
  plain_replies = AtEachMark_first (PlainReplyMark (server_with reply_to adds) link) [] run more h.plain_replies;
}

-- ---- From mark to mark

module _ (reply_to : List Entry → Moment → List ℕ → Option (List ℕ)) (adds : Moment → List ℕ → List ℕ → List Entry) (plain : KeepsReplyLimits (server_with reply_to adds)) (opened : LinkParameters) (link : ℕ) (opens : IsOpened opened) (again : AgreesAgain opened) where
  client_stays_lem : (run : List Mark) → AreAsked reply_to adds opened link run → end_of_side opened link Responder run ≡ None → (end : End) → end_of_side opened link Initiator run ≡ Some end → ⊥
  client_stays_lem run h down end up = by (client_ends_for_replies opened link run opens again h.typed h.laws down end up)
    where
      by : IsReplyEnd end ⊎ IsDenied end → ⊥
      by (inl (at, reason, is, own)) = client_reads_replies reply_to adds opened link run opens h.typed (laws_so_far_lem opened link run h.laws.client h.laws.server h.laws.matched) h.plain_replies plain at reason own (up ∙ ap (λ (x : End). Some x) is)
      by (inr (stag, offset, why, is)) = client_not_denied opened link run opens again h.typed h.laws h.kept down stag offset why (up ∙ ap (λ (x : End). Some x) is)

  mark_stays : (before : List Mark) (mark : Mark) → AreAsked reply_to adds opened link (before ++ mark ∷ []) → (client opened link before).ended ≡ None → (server opened link before).ended ≡ None
      → ((client opened link (before ++ mark ∷ [])).ended ≡ None) × ((server opened link (before ++ mark ∷ [])).ended ≡ None)
  unfolding end_of_side
  mark_stays before mark h up down = by (client opened link (before ++ mark ∷ [])).ended refl (server opened link (before ++ mark ∷ [])).ended refl
    where
      run : List Mark
      run = before ++ mark ∷ []

      both : (a b : End) → (client opened link run).ended ≡ Some a → (server opened link run).ended ≡ Some b → (events_at link Initiator before mark ≡ []) ⊎ (events_at link Responder before mark ≡ []) → ⊥
      both a b is own (inl none) = none_some_lem a (client opened link run).ended (client_same opened link before mark none ∙ up) is
      both a b is own (inr none) = none_some_lem b (server opened link run).ended (server_same opened link before mark none ∙ down) own

      by : (o : Option End) → (client opened link run).ended ≡ o → (p : Option End) → (server opened link run).ended ≡ p → ((client opened link run).ended ≡ None) × ((server opened link run).ended ≡ None)
      by None is None own = (is, own)
      by None is (Some end) own = absurd (server_stays_lem opened link run opens h.typed h.laws h.fresh h.conveyed is end own)
      by (Some end) is None own = absurd (client_stays_lem run h own end is)
      by (Some a) is (Some b) own = absurd (both a b is own (one_side link before mark))

  run_stays : (run before : List Mark) → AreAsked reply_to adds opened link (before ++ run) → (client opened link before).ended ≡ None → (server opened link before).ended ≡ None
      → ((client opened link (before ++ run)).ended ≡ None) × ((server opened link (before ++ run)).ended ≡ None)
  run_stays [] before h up down =
      (ap (λ (r : List Mark). (client opened link r).ended) (append-nil before) ∙ up, ap (λ (r : List Mark). (server opened link r).ended) (append-nil before) ∙ down)
  run_stays (m ∷ run) before h up down =
      let assoc : (before ++ m ∷ []) ++ run ≡ before ++ m ∷ run = append_assoc before (m ∷ []) run in
      let all = subst (AreAsked reply_to adds opened link) (sym assoc) h in
      let one = mark_stays before m (asked_before_lem reply_to adds opened link (before ++ m ∷ []) run all) up down in
      let rest = run_stays run (before ++ m ∷ []) all one.0 one.1 in
      (ap (λ (r : List Mark). (client opened link r).ended) (sym assoc) ∙ rest.0, ap (λ (r : List Mark). (server opened link r).ended) (sym assoc) ∙ rest.1)

client_nothing : (opened : LinkParameters) (link : ℕ) → (client opened link []).ended ≡ None
unfolding client events
client_nothing opened link = refl

server_nothing : (opened : LinkParameters) (link : ℕ) → (server opened link []).ended ≡ None
unfolding server events
server_nothing opened link = refl

pub links_stay : MatchedLinksStayOpen
unfolding end_of_side
links_stay reply_to adds opened link run opens again typed laws fresh kept conveyed plain plain_replies =
    run_stays reply_to adds plain opened link opens again run [] (record { typed = typed; laws = laws; fresh = fresh; kept = kept; conveyed = conveyed; plain_replies = plain_replies }) (client_nothing opened link) (server_nothing opened link)

pub matched_calls_complete : MatchedCallsComplete
matched_calls_complete reply_to adds opened link run opens again typed full fresh kept conveyed plain plain_replies nothing_waits =
    let laws : KeepLaws opened link run = record { client = full.asked.each; server = full.served.each; matched = full.matched; grant = full.grant } in
    let stays = links_stay reply_to adds opened link run opens again typed laws fresh kept conveyed plain plain_replies in
    calls_complete_lem opened link run typed full.asked full.served full.matched (record { client_stays = stays.0; server_stays = stays.1; nothing_waits = nothing_waits })

pub no_access_denied : NoAccessIsDenied
no_access_denied opened link run opens again typed laws kept down end up = by (client_ends_for_replies opened link run opens again typed laws down end up)
  where
    by : IsReplyEnd end ⊎ IsDenied end → IsReplyEnd end
    by (inl reply) = reply
    by (inr (stag, offset, why, is)) = absurd (client_not_denied opened link run opens again typed laws kept down stag offset why (up ∙ ap (λ (x : End). Some x) is))

pub clients_stay : ClientsStayOpen
clients_stay reply_to adds opened link run opens again typed laws kept plain plain_replies down = by (end_of_side opened link Initiator run) refl
  where
    ends : (end : End) → end_of_side opened link Initiator run ≡ Some end → IsReplyEnd end → ⊥
    ends end up (at, reason, is, own) = client_reads_replies reply_to adds opened link run opens typed (laws_so_far_lem opened link run laws.client laws.server laws.matched) plain_replies plain at reason own (up ∙ ap (λ (x : End). Some x) is)

    by : (o : Option End) → end_of_side opened link Initiator run ≡ o → end_of_side opened link Initiator run ≡ None
    by None e = e
    by (Some end) e = absurd (ends end e (no_access_denied opened link run opens again typed laws kept down end e))
