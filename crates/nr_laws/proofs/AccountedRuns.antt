-- Each call that a client accepted in a run is outstanding, has an outcome, or was given up, while the client hasn't ended.
use Rattle.std.proofs.Common.{◌≡◌, ◌≢◌, ℕ, Bool, true, false, cond, ◌&&◌, eqb, List, [], ◌∷◌, ◌++◌, length, map, None, refl, sym, ap, subst, ◌∙◌, append_assoc, append-nil}
use Rattle.std.specs.List.{list_any}
use Rattle.std.proofs.lemmas.Bool.{eq-eqb}
use Rattle.std.proofs.lemmas.List.{map-append}
use Rattle.nr_wire.specs.declared.hello.Side.TheVariants.{Initiator, Responder}
use Rattle.nr_link.specs.Frames.{Frame, frames_completed}
use Rattle.nr_reduce.specs.declared.call.Submission.TheVariants as submissions
use Rattle.nr_reduce.specs.declared.mark.Mark.{Mark}
use Rattle.nr_reduce.specs.declared.mark.Mark.TheVariants as marks
use Rattle.nr_reduce.specs.declared.mark.LinkParameters.{LinkParameters}
use Rattle.nr_reduce.specs.History.{AcceptedCall, accepted_calls, accepted_at, bytes_received, abandons, is_abandoned}
use Rattle.nr_reduce.specs.Events.{RunEvent, if_own, events_at, events}
use Rattle.nr_reduce.specs.Events.RunEvent.{FrameReceived, CallSubmitted, MemoryRevoked, QueueWritten, ServerTold}
use Rattle.nr_reduce.specs.EndRules.{EndState, live, end_state_after}
use Rattle.nr_reduce.specs.ClientState.{ClientState}
use Rattle.nr_reduce.specs.Client.{client_rules, client_state_after}
use Rattle.nr_reduce.specs.Run.{client}
use Rattle.nr_reduce.proofs.Steps.{client_one}
use Rattle.nr_laws.proofs.DistinctKeys.{any_append, or_left_lem, or_right_lem}
use Rattle.nr_laws.proofs.ServerFrames.{lives}
use Rattle.nr_laws.proofs.AgreeingRuns.{other_events}
use Rattle.nr_laws.proofs.AgreeingMarks.{client_event}
use Rattle.nr_laws.proofs.EachRun.{client_unended, no_events_lem}
use Rattle.nr_laws.proofs.AccountedCalls.{CallsAccounted, frame_accounts, accounts_gone, written_accounts, revoked_accounts, submit_accounts, waits_first}
use Rattle.nr_reduce.proofs.Waiting.{accepted_one}

abbrev pub gone_in : ℕ → List Mark → ℕ → Bool
gone_in link run xid = is_abandoned link xid run

abbrev pub xids_in : ℕ → List Mark → List ℕ
xids_in link run = map (λ (a : AcceptedCall). a.xid) (accepted_calls link run)

xids_one : (link : ℕ) (run : List Mark) (mark : Mark) → xids_in link (run ++ mark ∷ []) ≡ xids_in link run ++ map (λ (a : AcceptedCall). a.xid) (accepted_at link mark)
xids_one link run mark = ap (λ (xs : List AcceptedCall). map (λ (a : AcceptedCall). a.xid) xs) (accepted_one link run mark) ∙ map-append (λ (a : AcceptedCall). a.xid) (accepted_calls link run) (accepted_at link mark)

gone_more : (link : ℕ) (run : List Mark) (mark : Mark) (x : ℕ) → gone_in link run x ≡ true → gone_in link (run ++ mark ∷ []) x ≡ true
gone_more link run mark x e = any_append (abandons link x) run (mark ∷ []) ∙ or_left_lem (gone_in link run x) (list_any (abandons link x) (mark ∷ [])) e

gone_new : (link : ℕ) (run : List Mark) (mark : Mark) (x : ℕ) → abandons link x mark ≡ true → gone_in link (run ++ mark ∷ []) x ≡ true
gone_new link run mark x e = any_append (abandons link x) run (mark ∷ []) ∙ or_right_lem (gone_in link run x) (list_any (abandons link x) (mark ∷ [])) (or_left_lem (abandons link x mark) false e)

-- ---- Frames

frames_account : (opened : LinkParameters) (gone : ℕ → Bool) (xids : List ℕ) (fs : List Frame) (k : ClientState) → (end_state_after (client_rules opened) (live k) (map FrameReceived fs)).ended ≡ None → CallsAccounted gone xids k
    → CallsAccounted gone xids (end_state_after (client_rules opened) (live k) (map FrameReceived fs)).state
frames_account opened gone xids [] k e h = h
frames_account opened gone xids (f ∷ fs) k e h =
    let rules = client_rules opened in
    let a = lives rules k (FrameReceived f) (map FrameReceived fs) e in
    let after = client_state_after opened k (FrameReceived f) in
    let goes_on : (end_state_after rules (live after) (map FrameReceived fs)).ended ≡ None = ap (λ (x : EndState ClientState). (end_state_after rules x (map FrameReceived fs)).ended) (sym a.next) ∙ e in
    subst (λ (x : EndState ClientState). CallsAccounted gone xids (end_state_after rules x (map FrameReceived fs)).state) (sym a.next)
    (frames_account opened gone xids fs after goes_on (frame_accounts opened gone xids k f a.stays h))

-- ---- A mark

-- what a mark makes of a client's state
abbrev after_mark : LinkParameters → ℕ → List Mark → Mark → ClientState → ClientState
after_mark opened link run mark k = (end_state_after (client_rules opened) (live k) (events_at link Initiator run mark)).state

abbrev Accounted : LinkParameters → ℕ → List Mark → Mark → ClientState → Type 0
Accounted opened link run mark k = CallsAccounted (gone_in link (run ++ mark ∷ [])) (xids_in link (run ++ mark ∷ [])) (after_mark opened link run mark k)

by_state : (opened : LinkParameters) (link : ℕ) (run : List Mark) (mark : Mark) (k : ClientState) → accepted_at link mark ≡ [] → CallsAccounted (gone_in link run) (xids_in link run) (after_mark opened link run mark k) → Accounted opened link run mark k
by_state opened link run mark k none h =
    let same : xids_in link (run ++ mark ∷ []) ≡ xids_in link run =
    xids_one link run mark ∙ ap (λ (xs : List AcceptedCall). xids_in link run ++ map (λ (a : AcceptedCall). a.xid) xs) none ∙ append-nil (xids_in link run) in
    subst (λ (xs : List ℕ). CallsAccounted (gone_in link (run ++ mark ∷ [])) xs (after_mark opened link run mark k)) (sym same)
    (accounts_gone (gone_in link run) (gone_in link (run ++ mark ∷ [])) (xids_in link run) (after_mark opened link run mark k) (gone_more link run mark) h)

nothing : (opened : LinkParameters) (link : ℕ) (run : List Mark) (mark : Mark) (k : ClientState) → accepted_at link mark ≡ [] → events_at link Initiator run mark ≡ [] → CallsAccounted (gone_in link run) (xids_in link run) k → Accounted opened link run mark k
nothing opened link run mark k none quiet h =
    by_state opened link run mark k none
    (subst (λ (es : List RunEvent). CallsAccounted (gone_in link run) (xids_in link run) (end_state_after (client_rules opened) (live k) es).state) (sym quiet) h)

one_event_state : (opened : LinkParameters) (k : ClientState) (event : RunEvent) → ((f : Frame) → event ≢ FrameReceived f) → (end_state_after (client_rules opened) (live k) (event ∷ [])).state ≡ client_state_after opened k event
one_event_state opened k event other = ap (λ (x : EndState ClientState). x.state) (client_event opened k event other).state

accepted_other : (b : Bool) (calls : List AcceptedCall) → b ≡ false → cond b calls [] ≡ []
accepted_other true calls e = absurd cc
accepted_other false calls e = refl

account_mark : (opened : LinkParameters) (link : ℕ) (run : List Mark) (mark : Mark) (k : ClientState) → (end_state_after (client_rules opened) (live k) (events_at link Initiator run mark)).ended ≡ None
    → CallsAccounted (gone_in link run) (xids_in link run) k → Accounted opened link run mark k
account_mark opened link run (marks.Submit l call form (submissions.Accepted xid)) k e h = by (eqb l link) refl
  where
    a : AcceptedCall
    a = record { xid = xid; call = call; form = form }

    mark : Mark
    mark = marks.Submit l call form (submissions.Accepted xid)

    place : ℕ
    place = length (bytes_received link Initiator run)

    by : (b : Bool) → eqb l link ≡ b → Accounted opened link run (marks.Submit l call form (submissions.Accepted xid)) k
    by true is =
        let es : events_at link Initiator run mark ≡ CallSubmitted place a ∷ [] = ap (λ (b : Bool). if_own (b && true) (CallSubmitted place a ∷ [])) is in
        let xs : xids_in link (run ++ mark ∷ []) ≡ xids_in link run ++ xid ∷ [] =
        xids_one link run mark ∙ ap (λ (b : Bool). xids_in link run ++ map (λ (c : AcceptedCall). c.xid) (cond b (a ∷ []) [])) is in
        subst (λ (ns : List ℕ). CallsAccounted (gone_in link (run ++ mark ∷ [])) ns (after_mark opened link run mark k)) (sym xs)
        (subst (λ (evs : List RunEvent). CallsAccounted (gone_in link (run ++ mark ∷ [])) (xids_in link run ++ xid ∷ []) (end_state_after (client_rules opened) (live k) evs).state) (sym es)
        (subst (λ (t : ClientState). CallsAccounted (gone_in link (run ++ mark ∷ [])) (xids_in link run ++ xid ∷ []) t) (sym (one_event_state opened k (CallSubmitted place a) (λ f x. absurd cc)))
        (accounts_gone (gone_in link run) (gone_in link (run ++ mark ∷ [])) (xids_in link run ++ xid ∷ []) (client_state_after opened k (CallSubmitted place a)) (gone_more link run mark)
        (submit_accounts opened (gone_in link run) (xids_in link run) k place a h))))
    by false is = nothing opened link run mark k (accepted_other (eqb l link) (a ∷ []) is) (no_events_lem (eqb l link) true _ is) h
account_mark opened link run (marks.Submit l call form (submissions.Refused why)) k e h = nothing opened link run (marks.Submit l call form (submissions.Refused why)) k (by (eqb l link)) refl h
  where
    by : (b : Bool) → cond {A = List AcceptedCall} b [] [] ≡ []
    by true = refl
    by false = refl
account_mark opened link run (marks.Submit l call form submissions.Dropped) k e h = nothing opened link run (marks.Submit l call form submissions.Dropped) k (by (eqb l link)) refl h
  where
    by : (b : Bool) → cond {A = List AcceptedCall} b [] [] ≡ []
    by true = refl
    by false = refl
account_mark opened link run (marks.Wrote l Initiator bytes) k e h = by (eqb l link) refl
  where
    mark : Mark
    mark = marks.Wrote l Initiator bytes

    by : (b : Bool) → eqb l link ≡ b → Accounted opened link run (marks.Wrote l Initiator bytes) k
    by true is =
        by_state opened link run mark k refl
        (subst (λ (evs : List RunEvent). CallsAccounted (gone_in link run) (xids_in link run) (end_state_after (client_rules opened) (live k) evs).state) (sym (ap (λ (b : Bool). if_own (b && true) (QueueWritten (length bytes) ∷ [])) is))
        (subst (λ (t : ClientState). CallsAccounted (gone_in link run) (xids_in link run) t) (sym (one_event_state opened k (QueueWritten (length bytes)) (λ f x. absurd cc))) (written_accounts (length bytes) opened (gone_in link run) (xids_in link run) k h)))
    by false is = nothing opened link run mark k refl (no_events_lem (eqb l link) true _ is) h
account_mark opened link run (marks.Wrote l Responder bytes) k e h = nothing opened link run (marks.Wrote l Responder bytes) k refl (other_events (eqb l link) (QueueWritten (length bytes) ∷ [])) h
account_mark opened link run (marks.Fed l Initiator bytes) k e h = by (eqb l link) refl
  where
    mark : Mark
    mark = marks.Fed l Initiator bytes

    fs : List Frame
    fs = frames_completed Responder (bytes_received link Initiator run) bytes

    by : (b : Bool) → eqb l link ≡ b → Accounted opened link run (marks.Fed l Initiator bytes) k
    by true is =
        let es : events_at link Initiator run mark ≡ map FrameReceived fs = ap (λ (b : Bool). if_own (b && true) (map FrameReceived fs)) is in
        by_state opened link run mark k refl
        (subst (λ (evs : List RunEvent). CallsAccounted (gone_in link run) (xids_in link run) (end_state_after (client_rules opened) (live k) evs).state) (sym es)
        (frames_account opened (gone_in link run) (xids_in link run) fs k (ap (λ (evs : List RunEvent). (end_state_after (client_rules opened) (live k) evs).ended) (sym es) ∙ e) h))
    by false is = nothing opened link run mark k refl (no_events_lem (eqb l link) true _ is) h
account_mark opened link run (marks.Fed l Responder bytes) k e h = nothing opened link run (marks.Fed l Responder bytes) k refl (other_events (eqb l link) _) h
account_mark opened link run (marks.Execute l xid moment payload place reply) k e h = nothing opened link run (marks.Execute l xid moment payload place reply) k refl (other_events (eqb l link) _) h
account_mark opened link run (marks.Done l xid outcome) k e h = nothing opened link run (marks.Done l xid outcome) k refl refl h
account_mark opened link run (marks.Lost l xid) k e h = nothing opened link run (marks.Lost l xid) k refl refl h
account_mark opened link run (marks.Forget l xid) k e h = nothing opened link run (marks.Forget l xid) k refl refl h
account_mark opened link run (marks.Revoke l xid bytes) k e h = by (eqb l link) refl
  where
    mark : Mark
    mark = marks.Revoke l xid bytes

    place : ℕ
    place = length (bytes_received link Initiator run)

    by : (b : Bool) → eqb l link ≡ b → Accounted opened link run (marks.Revoke l xid bytes) k
    by true is =
        let es : events_at link Initiator run mark ≡ MemoryRevoked place xid ∷ [] = ap (λ (b : Bool). if_own (b && true) (MemoryRevoked place xid ∷ [])) is in
        let gone : gone_in link (run ++ mark ∷ []) xid ≡ true = gone_new link run mark xid (λ i. is i && eq-eqb xid xid refl i) in
        let same : xids_in link (run ++ mark ∷ []) ≡ xids_in link run = xids_one link run mark ∙ append-nil (xids_in link run) in
        subst (λ (xs : List ℕ). CallsAccounted (gone_in link (run ++ mark ∷ [])) xs (after_mark opened link run mark k)) (sym same)
        (subst (λ (evs : List RunEvent). CallsAccounted (gone_in link (run ++ mark ∷ [])) (xids_in link run) (end_state_after (client_rules opened) (live k) evs).state) (sym es)
        (subst (λ (t : ClientState). CallsAccounted (gone_in link (run ++ mark ∷ [])) (xids_in link run) t) (sym (one_event_state opened k (MemoryRevoked place xid) (λ f x. absurd cc)))
        (revoked_accounts opened (gone_in link (run ++ mark ∷ [])) (xids_in link run) k place xid gone
        (accounts_gone (gone_in link run) (gone_in link (run ++ mark ∷ [])) (xids_in link run) k (gone_more link run mark) h))))
    by false is = nothing opened link run mark k refl (no_events_lem (eqb l link) true _ is) h
account_mark opened link run (marks.Drop l) k e h = nothing opened link run (marks.Drop l) k refl refl h
account_mark opened link run (marks.Told l what) k e h = nothing opened link run (marks.Told l what) k refl (other_events (eqb l link) (ServerTold what ∷ [])) h

-- ---- A run

accounts_from : (opened : LinkParameters) (link : ℕ) (run before : List Mark) → (client opened link (before ++ run)).ended ≡ None → CallsAccounted (gone_in link before) (xids_in link before) (client opened link before).state
    → CallsAccounted (gone_in link (before ++ run)) (xids_in link (before ++ run)) (client opened link (before ++ run)).state
accounts_from opened link [] before e h = subst (λ (r : List Mark). CallsAccounted (gone_in link r) (xids_in link r) (client opened link r).state) (sym (append-nil before)) h
accounts_from opened link (m ∷ run) before e h =
    let assoc : (before ++ m ∷ []) ++ run ≡ before ++ m ∷ run = append_assoc before (m ∷ []) run in
    let all : (client opened link ((before ++ m ∷ []) ++ run)).ended ≡ None = ap (λ (r : List Mark). (client opened link r).ended) assoc ∙ e in
    let k : ClientState = (client opened link before).state in
    let stays : (client opened link before).ended ≡ None = client_unended opened link before (m ∷ run) e in
    let is : client opened link before ≡ live k = λ i. record { state = k; ended = stays i } in
    let next : client opened link (before ++ m ∷ []) ≡ end_state_after (client_rules opened) (live k) (events_at link Initiator before m) =
    client_one opened link before m ∙ ap (λ (r : EndState ClientState). end_state_after (client_rules opened) r (events_at link Initiator before m)) is in
    let unended = ap (λ (r : EndState ClientState). r.ended) (sym next) ∙ client_unended opened link (before ++ m ∷ []) run all in
    let one = account_mark opened link before m k unended h in
    subst (λ (r : List Mark). CallsAccounted (gone_in link r) (xids_in link r) (client opened link r).state) assoc
    (accounts_from opened link run (before ++ m ∷ []) all
    (subst (λ (r : EndState ClientState). CallsAccounted (gone_in link (before ++ m ∷ [])) (xids_in link (before ++ m ∷ [])) r.state) (sym next) one))

accounts_first : (opened : LinkParameters) (link : ℕ) → CallsAccounted (gone_in link []) (xids_in link []) (client opened link []).state
unfolding client events accepted_calls
accounts_first opened link = record { each = tt; revoked = tt; waits = waits_first (gone_in link []) opened.first_stag opened.resumed }

pub accounts : (opened : LinkParameters) (link : ℕ) (run : List Mark) → (client opened link run).ended ≡ None → CallsAccounted (gone_in link run) (xids_in link run) (client opened link run).state
accounts opened link run e = accounts_from opened link run [] e (accounts_first opened link)
