-- A server's side that was told that a call is old has ended for that.
use Rattle.std.proofs.Common.{◌≡◌, ℕ, Bool, true, cond, eqb, List, [], ◌∷◌, ◌++◌, Option, None, Some, refl, sym, ap, subst, ◌∙◌, append_assoc, append-nil}
use Rattle.std.specs.Prelude.{◌&&◌, slice_get}
use Rattle.std.specs.List.{flat_map}
use Rattle.nr_wire.specs.declared.hello.Side.TheVariants.{Initiator, Responder}
use Rattle.nr_link.specs.Reasons.{REASON_OLD}
use Rattle.nr_link.specs.declared.end.End.{End}
use Rattle.nr_link.specs.declared.end.End.TheVariants.{Bad}
use Rattle.nr_reduce.specs.declared.mark.LinkParameters.{LinkParameters}
use Rattle.nr_reduce.specs.declared.mark.Mark.{Mark}
use Rattle.nr_reduce.specs.declared.mark.Mark.TheVariants as marks
use Rattle.nr_reduce.specs.declared.mark.Told.TheVariants.{Granted, Old}
use Rattle.nr_reduce.specs.AtEachMark.{AtEachMark}
use Rattle.nr_reduce.specs.EndRules.{EndState, end_state_after, next_end_state, next_end_state_by, next_end_state_in}
use Rattle.nr_reduce.specs.Events.{RunEvent, events_at, if_own}
use Rattle.nr_reduce.specs.Events.RunEvent.{ServerTold}
use Rattle.nr_reduce.specs.Matched.{IsPrefixOf}
use Rattle.nr_reduce.specs.Run.{server}
use Rattle.nr_reduce.specs.Served.{IsRefusedAsOld, ServedMark, first_ready, next_call}
use Rattle.nr_reduce.specs.Server.{old_end, server_end, server_rules}
use Rattle.nr_reduce.specs.ServerState.{ReadyCall, ServerState}
use Rattle.nr_reduce.proofs.Standing.{itself}
use Rattle.nr_reduce.proofs.Steps.{server_one}
use Rattle.nr_host.specs.Connections.{IsOwn, refusal_of, refusals_of}
use Rattle.nr_host_laws.proofs.WholeWrites.{stays}

-- a server whose next call is ready lives
next_is : (ready : List ReadyCall) (ended : Option End) (call : ReadyCall) → first_ready ready ended ≡ Some call → (ended ≡ None) × ((first : ReadyCall) × ((rest : List ReadyCall) × (ready ≡ first ∷ rest)))
next_is ready (Some end) call is = absurd cc
next_is [] None call is = absurd (let wrong : None ≡ Some call = is in cc)
next_is (r ∷ ready) None call is = (refl, (r, (ready, refl)))

ended_told : (opened : LinkParameters) (e : EndState ServerState) (xid at : ℕ) (first : ReadyCall) (rest : List ReadyCall) → e.ended ≡ None → e.state.ready ≡ first ∷ rest
    → (next_end_state (server_rules opened) e (ServerTold (Old xid at))).ended ≡ Some (Bad at REASON_OLD)
unfolding server_end
ended_told opened e xid at first rest live ready =
    ap (λ (x : EndState ServerState). x.ended)
    ((λ i. next_end_state_in (server_rules opened) e.state (ServerTold (Old xid at)) (live i)) ∙ (λ i. next_end_state_by (server_rules opened) e.state (ServerTold (Old xid at)) (old_end at (ready i))))

told_at : (opened : LinkParameters) (link : ℕ) (before : List Mark) (xid at : ℕ) → IsRefusedAsOld opened link before xid at → (server opened link (before ++ marks.Told link (Old xid at) ∷ [])).ended ≡ Some (Bad at REASON_OLD)
unfolding next_call
told_at opened link before xid at refused =
    let n = next_is (server opened link before).state.ready (server opened link before).ended refused.call refused.is_next in
    let its : events_at link Responder before (marks.Told link (Old xid at)) ≡ ServerTold (Old xid at) ∷ [] = rw (itself link) refl in
    ap (λ (e : EndState ServerState). e.ended) (server_one opened link before (marks.Told link (Old xid at)) ∙ ap (λ (es : List RunEvent). end_state_after (server_rules opened) (server opened link before) es) its)
    ∙ ended_told opened (server opened link before) xid at n.1.0 n.1.1.0 n.0 n.1.1.1

-- it stays so
ended_along : (opened : LinkParameters) (link : ℕ) (run more : List Mark) (end : End) → (server opened link run).ended ≡ Some end → (server opened link (run ++ more)).ended ≡ Some end
ended_along opened link run [] end is = subst (λ (r : List Mark). (server opened link r).ended ≡ Some end) (sym (append-nil run)) is
ended_along opened link run (mark ∷ more) end is =
    subst (λ (r : List Mark). (server opened link r).ended ≡ Some end) (append_assoc run (mark ∷ []) more)
    (ended_along opened link (run ++ mark ∷ []) more end (ap (λ (e : EndState ServerState). e.ended) (stays opened link run mark end is) ∙ is))

abbrev HasEnded : LinkParameters → ℕ → List Mark → Type 0
HasEnded opened link run = (at : ℕ) × ((server opened link run).ended ≡ Some (Bad at REASON_OLD))

later : (opened : LinkParameters) (link : ℕ) (before run : List Mark) (mark : Mark) → HasEnded opened link ((before ++ mark ∷ []) ++ run) → HasEnded opened link (before ++ mark ∷ run)
later opened link before run mark h = subst (λ (r : List Mark). HasEnded opened link r) (append_assoc before (mark ∷ []) run) h

ends_from : (opened : LinkParameters) (link : ℕ) (before run : List Mark) → AtEachMark (λ earlier mark. IsOwn link mark) before run → AtEachMark (ServedMark IsPrefixOf opened link) before run → (xid : ℕ) (xids : List ℕ)
    → flat_map refusal_of run ≡ xid ∷ xids → HasEnded opened link (before ++ run)
ends_from opened link before [] own served xid xids some = absurd (let wrong : [] ≡ xid ∷ xids = some in cc)
ends_from opened link before (marks.Fed l Responder bytes ∷ run) own served xid xids some =
    later opened link before run (marks.Fed l Responder bytes) (ends_from opened link (before ++ marks.Fed l Responder bytes ∷ []) run own.1 served.1 xid xids some)
ends_from opened link before (marks.Wrote l Responder bytes ∷ run) own served xid xids some =
    later opened link before run (marks.Wrote l Responder bytes) (ends_from opened link (before ++ marks.Wrote l Responder bytes ∷ []) run own.1 served.1 xid xids some)
ends_from opened link before (marks.Execute l own_xid moment payload place reply ∷ run) own served xid xids some =
    later opened link before run (marks.Execute l own_xid moment payload place reply)
    (ends_from opened link (before ++ marks.Execute l own_xid moment payload place reply ∷ []) run own.1 served.1 xid xids some)
ends_from opened link before (marks.Told l (Old old at) ∷ run) own served xid xids some =
    let told : (server opened link (before ++ marks.Told l (Old old at) ∷ [])).ended ≡ Some (Bad at REASON_OLD) =
    subst (λ (n : ℕ). (server opened link (before ++ marks.Told n (Old old at) ∷ [])).ended ≡ Some (Bad at REASON_OLD)) (sym own.0) (told_at opened link before old at (served.0 own.0)) in
    later opened link before run (marks.Told l (Old old at)) (at, ended_along opened link (before ++ marks.Told l (Old old at) ∷ []) run (Bad at REASON_OLD) told)
ends_from opened link before (marks.Fed l Initiator bytes ∷ run) own served xid xids some = absurd own.0
ends_from opened link before (marks.Wrote l Initiator bytes ∷ run) own served xid xids some = absurd own.0
ends_from opened link before (marks.Submit l call form answer ∷ run) own served xid xids some = absurd own.0
ends_from opened link before (marks.Done l own_xid outcome ∷ run) own served xid xids some = absurd own.0
ends_from opened link before (marks.Lost l own_xid ∷ run) own served xid xids some = absurd own.0
ends_from opened link before (marks.Forget l own_xid ∷ run) own served xid xids some = absurd own.0
ends_from opened link before (marks.Revoke l own_xid bytes ∷ run) own served xid xids some = absurd own.0
ends_from opened link before (marks.Drop l ∷ run) own served xid xids some = absurd own.0
ends_from opened link before (marks.Told l (Granted credits) ∷ run) own served xid xids some = absurd own.0

pub ends_for_old : (opened : LinkParameters) (link : ℕ) (run : List Mark) → AtEachMark (λ earlier mark. IsOwn link mark) [] run → AtEachMark (ServedMark IsPrefixOf opened link) [] run → (xid : ℕ) (xids : List ℕ)
    → refusals_of run ≡ xid ∷ xids → HasEnded opened link run
unfolding refusals_of
ends_for_old opened link run own served xid xids some = ends_from opened link [] run own served xid xids some
