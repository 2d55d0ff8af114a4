-- What the client of a run wrote: its hello, and the message of each call that it accepted.
use Rattle.std.proofs.Common.{◌≡◌, ℕ, suc, Bool, true, false, cond, ◌&&◌, eqb, List, [], ◌∷◌, ◌++◌, length, drop, map, Option, None, Some, Result, refl, sym, ap, subst, ◌∙◌, arith, append_assoc, append-nil, length-append, inl, eqb-true}
use Rattle.nr_wire.specs.declared.hello.Side.TheVariants.{Initiator, Responder}
use Rattle.nr_link.specs.declared.end.End.{End as Stop}
use Rattle.nr_link.specs.Frames.{Frame, frames_completed}
use Rattle.nr_reduce.specs.Hellos.{client_hello}
use Rattle.nr_reduce.proofs.OwnLimits.{client_limits_of}
use Rattle.nr_reduce.specs.declared.call.Call.{Call}
use Rattle.nr_reduce.specs.declared.call.Form.{Form}
use Rattle.nr_reduce.specs.declared.call.Submission.TheVariants as submissions
use Rattle.nr_reduce.specs.declared.mark.Mark.{Mark}
use Rattle.nr_reduce.specs.declared.mark.Mark.TheVariants as marks
use Rattle.nr_reduce.specs.declared.mark.LinkParameters.{LinkParameters}
use Rattle.nr_reduce.specs.declared.outline.Plan.{Plan}
use Rattle.nr_reduce.specs.History.{AcceptedCall, bytes_received, same_side}
use Rattle.nr_reduce.specs.AtEachMark.{AtEachMark}
use Rattle.nr_reduce.specs.Matched.{IsPrefixOf}
use Rattle.nr_reduce.specs.Events.{RunEvent, events, events_at, if_own}
use Rattle.nr_reduce.specs.Events.RunEvent.{FrameReceived, CallSubmitted, MemoryRevoked, CallExecuted, QueueWritten, ServerTold}
use Rattle.nr_reduce.specs.EndRules.{EndState, next_end_state, end_state_after, output_for, output_for_by, output_for_in, output_for_all}
use Rattle.nr_reduce.specs.Plans.{TooLarge, call_message}
use Rattle.nr_reduce.specs.ClientState.{ClientState, OutstandingCall, call_payload, stag_for}
use Rattle.nr_reduce.specs.Client.{client_rules, client_end, initial_client, outstanding_of, plan_or}
use Rattle.nr_reduce.specs.Run.{client, output_due}
use Rattle.nr_reduce.specs.Asked.{AskedMark, AskedSoFar, IsAccepted}
use Rattle.nr_reduce.proofs.Steps.{events_one, output_for_all_append, end_state_after_append}
use Rattle.nr_reduce.proofs.Standing.{AtEachMark_more}
use Rattle.nr_laws.specs.Typed.{TypedMark, IsTyped}
use Rattle.nr_laws.proofs.Completions.{completed_from, completes_none}
use Rattle.nr_laws.proofs.EventOutputs.{IsNext, Goes, each_preserves, nothing_preserves, FirstGood, along, outputs_by, outputs_in, outputs_for, outputs_all, place_after, places_after, whole_bytes}
use Rattle.nr_laws.proofs.Outputs.{Output, bytes_of_all, bytes_append, message_of_call, client_says, client_said, final_outputs, final_said}
use Rattle.nr_laws.proofs.ClientSays.{ClientGood, accepted_in, asked, asked_quiet, asked_submit, asked_count, ClientSays, Says}
use Rattle.nr_laws.proofs.ClientAlong.{client_step}
use Rattle.nr_laws.proofs.Basics.{first_is_lem}

pub each_both : (P Q : List Mark → Mark → Type 0) (before run : List Mark) → AtEachMark P before run → AtEachMark Q before run → AtEachMark (λ b m. P b m × Q b m) before run
each_both P Q before [] h g = tt
each_both P Q before (m ∷ run) h g = ((h.0, g.0), each_both P Q (before ++ m ∷ []) run h.1 g.1)

abbrev ClientMark : LinkParameters → ℕ → List Mark → Mark → Type 0
ClientMark opened link before mark = AskedMark IsPrefixOf opened link before mark × TypedMark before mark

first_good : (opened : LinkParameters) (link : ℕ) (before : List Mark) (mark : Mark) → ClientMark opened link before mark → FirstGood (ClientGood opened) (client opened link before) (events_at link Initiator before mark)
first_good opened link before (marks.Submit l call form (submissions.Accepted xid)) h = by (eqb l link) refl
  where
    a : AcceptedCall
    a = record { xid = xid; call = call; form = form }

    by : (b : Bool) → eqb l link ≡ b → FirstGood (ClientGood opened) (client opened link before) (if_own (b && true) (CallSubmitted (length (bytes_received link Initiator before)) a ∷ []))
    by false is = tt
    by true is =
        let goes = h.0 (eqb-true l link is) in
        record { stays = goes.stays; next = goes.next; resent = goes.resent; plan = goes.plan; planned = goes.planned; xids = goes.xids; stags = goes.stags; writable = goes.writable; bytes = h.1.0; form = h.1.1; limits = client_limits_of opened link before }
first_good opened link before (marks.Submit l call form (submissions.Refused why)) h = tt
first_good opened link before (marks.Submit l call form submissions.Dropped) h = tt
first_good opened link before (marks.Fed l s bytes) h = by (eqb l link && same_side s Initiator) (frames_completed Responder (bytes_received link Initiator before) bytes)
  where
    by : (b : Bool) (fs : List Frame) → FirstGood (ClientGood opened) (client opened link before) (if_own b (map FrameReceived fs))
    by true [] = tt
    by true (f ∷ fs) = tt
    by false fs = tt
first_good opened link before (marks.Wrote l s bytes) h = by (eqb l link && same_side s Initiator)
  where
    by : (b : Bool) → FirstGood (ClientGood opened) (client opened link before) (if_own b (QueueWritten (length bytes) ∷ []))
    by true = tt
    by false = tt
first_good opened link before (marks.Execute l xid moment payload place reply) h = by (eqb l link && false)
  where
    by : (b : Bool) → FirstGood (ClientGood opened) (client opened link before) (if_own b (CallExecuted (record { xid = xid; moment = moment; payload = payload; place = place; reply = reply }) ∷ []))
    by true = tt
    by false = tt
first_good opened link before (marks.Revoke l xid bytes) h = by (eqb l link && true)
  where
    by : (b : Bool) → FirstGood (ClientGood opened) (client opened link before) (if_own b (MemoryRevoked (length (bytes_received link Initiator before)) xid ∷ []))
    by true = tt
    by false = tt
first_good opened link before (marks.Done l xid outcome) h = tt
first_good opened link before (marks.Lost l xid) h = tt
first_good opened link before (marks.Forget l xid) h = tt
first_good opened link before (marks.Drop l) h = tt
first_good opened link before (marks.Told l what) h = by (eqb l link && false)
  where
    by : (b : Bool) → FirstGood (ClientGood opened) (client opened link before) (if_own b (ServerTold what ∷ []))
    by true = tt
    by false = tt

pub client_goes : (opened : LinkParameters) (link : ℕ) (run : List Mark) → IsTyped run → AskedSoFar opened link run → Goes (client_rules opened) (ClientGood opened) (initial_client opened) link Initiator run
unfolding client
client_goes opened link run typed asked =
    each_preserves (client_rules opened) (ClientGood opened) (λ r f h. tt) (initial_client opened) link Initiator (ClientMark opened link) (first_good opened link) [] run typed
    (each_both (AskedMark IsPrefixOf opened link) TypedMark [] run asked typed) (nothing_preserves (client_rules opened) (ClientGood opened) (initial_client opened) link Initiator)

-- ---- The output of a run

unfoldable pub client_outs : LinkParameters → ℕ → List Mark → List Output
client_outs opened link run = outputs_all (client_rules opened) (client_says opened) final_outputs (initial_client opened) (events link Initiator run)

record Tells (opened : LinkParameters) (es : List RunEvent) (place : ℕ) (r : EndState ClientState) (outs : List Output) : Type 0 where
  says : Says opened es place r outs
  state : r ≡ end_state_after (client_rules opened) (initial_client opened) es
  bytes : output_for_all (client_rules opened) (initial_client opened) es ≡ bytes_of_all outs

bytes_by_lem : (opened : LinkParameters) (k : ClientState) (ended : Option Stop) (e : RunEvent) → output_for_in (client_rules opened) k e ended ≡ bytes_of_all (outputs_in (client_rules opened) (client_says opened) final_outputs k e ended)
bytes_by_lem opened k (Some end) e = refl
bytes_by_lem opened k None e = by (client_end k e)
  where
    by : (o : Option Stop) → output_for_by (client_rules opened) k e o ≡ bytes_of_all (outputs_by (client_rules opened) (client_says opened) final_outputs k e o)
    by None = client_said opened k e
    by (Some end) = final_said end

tells_step : (opened : LinkParameters) (es : List RunEvent) (place : ℕ) (r : EndState ClientState) (outs : List Output) (e : RunEvent) → IsNext place e → ClientGood opened r e → Tells opened es place r outs
    → Tells opened (es ++ e ∷ []) (place_after place e) (next_end_state (client_rules opened) r e) (outs ++ outputs_for (client_rules opened) (client_says opened) final_outputs r e)
tells_step opened es place r outs e next good t =
    let rules = client_rules opened in
    record {
      says = client_step opened es place r.state r.ended outs e (ap (λ (x : EndState ClientState). x.state) t.state) next good t.says;
      state = ap (λ (x : EndState ClientState). next_end_state rules x e) t.state ∙ sym (end_state_after_append rules (initial_client opened) es (e ∷ []));
      bytes = output_for_all_append rules (initial_client opened) es (e ∷ [])
          ∙ (λ i. t.bytes i ++ (append-nil (output_for rules (sym t.state i) e) i))
          ∙ ap (λ (xs : List ℕ). bytes_of_all outs ++ xs) (bytes_by_lem opened r.state r.ended e)
          ∙ sym (bytes_append outs (outputs_for rules (client_says opened) final_outputs r e));
    }

tells_nothing : (opened : LinkParameters) → Tells opened [] 0 (initial_client opened) []
tells_nothing opened = record {
  says = record { short = tt; count = refl; greeted = λ e. inl (refl, refl); waits = λ e. refl; words = tt; completes = completes_none };
  state = refl;
  bytes = refl;
}

pub record ClientTells (opened : LinkParameters) (link : ℕ) (run : List Mark) : Type 0 where
  pub says : ClientSays opened (events link Initiator run) (whole_bytes link Initiator run) (client opened link run).state (client opened link run).ended (client_outs opened link run)
  pub bytes : output_due opened link Initiator run ≡ client_hello opened ++ bytes_of_all (client_outs opened link run)

pub client_outputs : (opened : LinkParameters) (link : ℕ) (run : List Mark) → IsTyped run → AskedSoFar opened link run → ClientTells opened link run
unfolding client output_due client_outs
client_outputs opened link run typed asked =
    let g = client_goes opened link run typed asked in
    let es = events link Initiator run in
    let t : Tells opened es (places_after 0 es) (end_state_after (client_rules opened) (initial_client opened) es) (client_outs opened link run) =
    along (client_rules opened) (client_says opened) final_outputs (ClientGood opened) (Tells opened) (tells_step opened) [] 0 (initial_client opened) [] es g.goes (tells_nothing opened) in
    record {
      says = subst (λ (p : ℕ). ClientSays opened es p (client opened link run).state (client opened link run).ended (client_outs opened link run)) g.place t.says;
      bytes = ap (λ (xs : List ℕ). client_hello opened ++ xs) t.bytes;
    }

-- ---- Each of its messages is that of an accepted call

pub record SubmittedCall (opened : LinkParameters) (link : ℕ) (run : List Mark) (index : ℕ) (o : OutstandingCall) : Type 0 where
  pub earlier : List Mark
  pub later : List Mark
  pub call : Call
  pub form : Form
  pub xid : ℕ
  pub is : run ≡ earlier ++ marks.Submit link call form (submissions.Accepted xid) ∷ later
  pub accepted : IsAccepted opened link earlier call form xid
  pub counted : (client opened link earlier).state.sends ≡ index
  pub own_xid : o.xid ≡ xid
  pub own_call : o.call ≡ call
  pub own_plan : o.plan ≡ accepted.plan
  pub own_stag : o.stag ≡ stag_for (client opened link earlier).state xid

pub record WasSubmitted (opened : LinkParameters) (link : ℕ) (run : List Mark) (index : ℕ) (message : List ℕ) : Type 0 where
  pub earlier : List Mark
  pub later : List Mark
  pub call : Call
  pub form : Form
  pub xid : ℕ
  pub is : run ≡ earlier ++ marks.Submit link call form (submissions.Accepted xid) ∷ later
  pub accepted : IsAccepted opened link earlier call form xid
  pub counted : (client opened link earlier).state.sends ≡ index
  pub message_is : message ≡ call_message xid opened.wished (stag_for (client opened link earlier).state xid) accepted.plan

submitted_later : (opened : LinkParameters) (link : ℕ) (run : List Mark) (mark : Mark) (index : ℕ) (o : OutstandingCall) → SubmittedCall opened link run index o → SubmittedCall opened link (run ++ mark ∷ []) index o
submitted_later opened link run mark index o w = record {
  earlier = w.earlier;
  later = w.later ++ mark ∷ [];
  call = w.call;
  form = w.form;
  xid = w.xid;
  is = ap (λ (r : List Mark). r ++ mark ∷ []) w.is ∙ append_assoc w.earlier (marks.Submit link w.call w.form (submissions.Accepted w.xid) ∷ w.later) (mark ∷ []);
  accepted = w.accepted;
  counted = w.counted;
  own_xid = w.own_xid;
  own_call = w.own_call;
  own_plan = w.own_plan;
  own_stag = w.own_stag;
}

-- a list with one more element at its end, split at one of its elements
pub data Parted {X : Type 0} (xs : List X) (y : X) (pre : List X) (m : X) (post : List X) : Type 0 where
  Within : (more : List X) → xs ≡ pre ++ m ∷ more → Parted xs y pre m post
  Last : xs ≡ pre → m ≡ y → Parted xs y pre m post

parted_more : {X : Type 0} (x z : X) (xs : List X) (y : X) (pre : List X) (m : X) (post : List X) → x ≡ z → Parted xs y pre m post → Parted (x ∷ xs) y (z ∷ pre) m post
parted_more x z xs y pre m post e (Within more is) = Within more (λ i. e i ∷ is i)
parted_more x z xs y pre m post e (Last is same) = Last (λ i. e i ∷ is i) same

pub parted : {X : Type 0} (xs : List X) (y : X) (pre : List X) (m : X) (post : List X) → xs ++ y ∷ [] ≡ pre ++ m ∷ post → Parted xs y pre m post
parted [] y [] m post e = Last refl (first_is_lem m y post [] (sym e))
parted [] y (p ∷ pre) m post e = absurd (let l = ap (λ (zs : List _). length zs) e in let n = length-append pre (m ∷ post) in omega (arith, l, n))
parted (x ∷ xs) y [] m post e = Within xs (λ i. first_is_lem x m (xs ++ y ∷ []) post e i ∷ xs)
parted (x ∷ xs) y (p ∷ pre) m post e = parted_more x p xs y pre m post (first_is_lem x p (xs ++ y ∷ []) (pre ++ m ∷ post) e) (parted xs y pre m post (ap (λ (zs : List _). drop 1 zs) e))

abbrev pub asked_calls : LinkParameters → ℕ → List Mark → List OutstandingCall
asked_calls opened link run = asked opened (events link Initiator run)

abbrev EachSubmitted : LinkParameters → ℕ → List Mark → Type 0
EachSubmitted opened link run = (pre : List OutstandingCall) (o : OutstandingCall) (post : List OutstandingCall) → asked_calls opened link run ≡ pre ++ o ∷ post → SubmittedCall opened link run (length pre) o

quiet_mark : (opened : LinkParameters) (link : ℕ) (before : List Mark) (mark : Mark) → accepted_in (events_at link Initiator before mark) ≡ [] → EachSubmitted opened link before → EachSubmitted opened link (before ++ mark ∷ [])
quiet_mark opened link before mark none each pre o post e =
    let same : asked_calls opened link (before ++ mark ∷ []) ≡ asked_calls opened link before =
    ap (λ (es : List RunEvent). asked opened es) (events_one link Initiator before mark) ∙ asked_quiet opened (events link Initiator before) (events_at link Initiator before mark) none in
    submitted_later opened link before mark (length pre) o (each pre o post (sym same ∙ e))

pub none_if : (b : Bool) (e : RunEvent) → accepted_in (e ∷ []) ≡ [] → accepted_in (if_own b (e ∷ [])) ≡ []
none_if true e h = h
none_if false e h = refl

none_frames : (fs : List Frame) → accepted_in (map FrameReceived fs) ≡ []
none_frames [] = refl
none_frames (f ∷ fs) = none_frames fs

pub none_fed : (b : Bool) (fs : List Frame) → accepted_in (if_own b (map FrameReceived fs)) ≡ []
none_fed true fs = none_frames fs
none_fed false fs = refl

pub by_part : {X W : Type 0} {xs : List X} {y : X} {pre : List X} {m : X} {post : List X} → Parted xs y pre m post → ((more : List X) → xs ≡ pre ++ m ∷ more → W) → (xs ≡ pre → m ≡ y → W) → W
by_part (Within more is) f g = f more is
by_part (Last is same) f g = g is same

submit_mark : (opened : LinkParameters) (link : ℕ) (before : List Mark) (call : Call) (form : Form) (xid : ℕ) → ClientTells opened link before → IsAccepted opened link before call form xid → EachSubmitted opened link before
    → EachSubmitted opened link (before ++ marks.Submit link call form (submissions.Accepted xid) ∷ [])
unfolding client
submit_mark opened link before call form xid tells h each pre o post e =
    let mark = marks.Submit link call form (submissions.Accepted xid) in
    let a : AcceptedCall = record { xid = xid; call = call; form = form } in
    let k : ClientState = (client opened link before).state in
    let es : List RunEvent = events link Initiator before in
    let place : ℕ = length (bytes_received link Initiator before) in
    let own : OutstandingCall = outstanding_of k a in
    let here : events_at link Initiator before mark ≡ CallSubmitted place a ∷ [] =
    ap (λ (b : Bool). if_own (b && true) (CallSubmitted place a ∷ [])) (Rattle.std.proofs.Common.eq-eqb link link refl) in
    let all : events link Initiator (before ++ mark ∷ []) ≡ es ++ CallSubmitted place a ∷ [] =
    events_one link Initiator before mark ∙ ap (λ (xs : List RunEvent). es ++ xs) here in
    let whole : asked_calls opened link before ++ own ∷ [] ≡ pre ++ o ∷ post =
    sym (asked_submit opened es place a k refl) ∙ ap (λ (xs : List RunEvent). asked opened xs) (sym all) ∙ e in
    let same : own.plan ≡ h.plan = ap (λ (r : Result Plan TooLarge). plan_or (call_payload xid call) r) h.planned in
    by_part (parted (asked_calls opened link before) own pre o post whole)
    (λ more is. submitted_later opened link before mark (length pre) o (each pre o more is))
    (λ is last. record {
      earlier = before;
      later = [];
      call = call;
      form = form;
      xid = xid;
      is = refl;
      accepted = h;
      counted = tells.says.count ∙ sym (asked_count opened es) ∙ ap (λ (os : List OutstandingCall). length os) is;
      own_xid = ap (λ (x : OutstandingCall). x.xid) last;
      own_call = ap (λ (x : OutstandingCall). x.call) last;
      own_plan = ap (λ (x : OutstandingCall). x.plan) last ∙ same;
      own_stag = ap (λ (x : OutstandingCall). x.stag) last;
    })

each_mark : (opened : LinkParameters) (link : ℕ) (before : List Mark) (mark : Mark) → ClientTells opened link before → AskedMark IsPrefixOf opened link before mark → EachSubmitted opened link before → EachSubmitted opened link (before ++ mark ∷ [])
each_mark opened link before (marks.Submit l call form (submissions.Accepted xid)) tells h each = by (eqb l link) refl
  where
    a : AcceptedCall
    a = record { xid = xid; call = call; form = form }

    by : (b : Bool) → eqb l link ≡ b → EachSubmitted opened link (before ++ marks.Submit l call form (submissions.Accepted xid) ∷ [])
    by true is =
        let same : l ≡ link = eqb-true l link is in
        subst (λ (n : ℕ). EachSubmitted opened link (before ++ marks.Submit n call form (submissions.Accepted xid) ∷ [])) (sym same) (submit_mark opened link before call form xid tells (h same) each)
    by false is = quiet_mark opened link before (marks.Submit l call form (submissions.Accepted xid))
        (ap (λ (b : Bool). accepted_in (if_own (b && true) (CallSubmitted (length (bytes_received link Initiator before)) a ∷ []))) is) each
each_mark opened link before (marks.Submit l call form (submissions.Refused why)) tells h each = quiet_mark opened link before (marks.Submit l call form (submissions.Refused why)) refl each
each_mark opened link before (marks.Submit l call form submissions.Dropped) tells h each = quiet_mark opened link before (marks.Submit l call form submissions.Dropped) refl each
each_mark opened link before (marks.Fed l s bytes) tells h each = quiet_mark opened link before (marks.Fed l s bytes) (none_fed (eqb l link && same_side s Initiator) (frames_completed Responder (bytes_received link Initiator before) bytes)) each
each_mark opened link before (marks.Wrote l s bytes) tells h each = quiet_mark opened link before (marks.Wrote l s bytes) (none_if (eqb l link && same_side s Initiator) (QueueWritten (length bytes)) refl) each
each_mark opened link before (marks.Execute l xid moment payload place reply) tells h each = quiet_mark opened link before (marks.Execute l xid moment payload place reply)
    (none_if (eqb l link && false) (CallExecuted (record { xid = xid; moment = moment; payload = payload; place = place; reply = reply })) refl) each
each_mark opened link before (marks.Revoke l xid bytes) tells h each = quiet_mark opened link before (marks.Revoke l xid bytes) (none_if (eqb l link && true) (MemoryRevoked (length (bytes_received link Initiator before)) xid) refl) each
each_mark opened link before (marks.Done l xid outcome) tells h each = quiet_mark opened link before (marks.Done l xid outcome) refl each
each_mark opened link before (marks.Lost l xid) tells h each = quiet_mark opened link before (marks.Lost l xid) refl each
each_mark opened link before (marks.Forget l xid) tells h each = quiet_mark opened link before (marks.Forget l xid) refl each
each_mark opened link before (marks.Drop l) tells h each = quiet_mark opened link before (marks.Drop l) refl each
each_mark opened link before (marks.Told l what) tells h each = quiet_mark opened link before (marks.Told l what) (none_if (eqb l link && false) (ServerTold what) refl) each

each_from : (opened : LinkParameters) (link : ℕ) (before run : List Mark) → IsTyped before → AskedSoFar opened link before → AtEachMark (ClientMark opened link) before run → EachSubmitted opened link before → EachSubmitted opened link (before ++ run)
each_from opened link before [] typed asked all each = subst (λ (b : List Mark). EachSubmitted opened link b) (sym (append-nil before)) each
each_from opened link before (mark ∷ run) typed asked all each =
    subst (λ (b : List Mark). EachSubmitted opened link b) (append_assoc before (mark ∷ []) run)
    (each_from opened link (before ++ mark ∷ []) run (AtEachMark_more TypedMark [] before mark typed all.0.1) (AtEachMark_more (AskedMark IsPrefixOf opened link) [] before mark asked all.0.0) all.1
    (each_mark opened link before mark (client_outputs opened link before typed asked) all.0.0 each))

none_before : {X : Type 0} (pre : List X) (m : X) (post : List X) → [] ≡ pre ++ m ∷ post → ⊥
none_before [] m post e = absurd cc
none_before (x ∷ pre) m post e = absurd cc

pub each_submitted : (opened : LinkParameters) (link : ℕ) (run : List Mark) → IsTyped run → AskedSoFar opened link run → (pre : List OutstandingCall) (o : OutstandingCall) (post : List OutstandingCall) → asked_calls opened link run ≡ pre ++ o ∷ post → SubmittedCall opened link run (length pre) o
unfolding events
each_submitted opened link run typed asked =
    each_from opened link [] run tt tt (each_both (AskedMark IsPrefixOf opened link) TypedMark [] run asked typed) (λ pre o post e. absurd (none_before pre o post e))

if_messages : (b : Bool) (ms : List (List ℕ)) (pre : List (List ℕ)) (m : List ℕ) (post : List (List ℕ)) → cond b ms [] ≡ pre ++ m ∷ post → ms ≡ pre ++ m ∷ post
if_messages true ms pre m post e = e
if_messages false ms pre m post e = absurd (none_before pre m post e)

record MappedAt (opened : LinkParameters) (os : List OutstandingCall) (pre : List (List ℕ)) (m : List ℕ) : Type 0 where
  front : List OutstandingCall
  own : OutstandingCall
  back : List OutstandingCall
  is : os ≡ front ++ own ∷ back
  as_long : length front ≡ length pre
  message : m ≡ message_of_call opened own

head_same : (a b : List ℕ) (xs ys : List (List ℕ)) → a ∷ xs ≡ b ∷ ys → b ≡ a
head_same a b xs ys e = (let s : a ≡ b = cc in sym s)

mapped_at : (opened : LinkParameters) (os : List OutstandingCall) (pre : List (List ℕ)) (m : List ℕ) (post : List (List ℕ)) → map (message_of_call opened) os ≡ pre ++ m ∷ post → MappedAt opened os pre m
mapped_at opened [] pre m post e = absurd (none_before pre m post e)
mapped_at opened (o ∷ os) [] m post e = record { front = []; own = o; back = os; is = refl; as_long = refl; message = head_same (message_of_call opened o) m (map (message_of_call opened) os) post e }
mapped_at opened (o ∷ os) (p ∷ pre) m post e =
    let r = mapped_at opened os pre m post (ap (λ (xs : List (List ℕ)). Rattle.std.proofs.Common.drop 1 xs) e) in
    record { front = o ∷ r.front; own = r.own; back = r.back; is = ap (λ (xs : List OutstandingCall). o ∷ xs) r.is; as_long = ap (λ (n : ℕ). suc n) r.as_long; message = r.message }

-- each message that a client wrote is that of a call that it accepted, counted from 0
pub message_submitted : (opened : LinkParameters) (link : ℕ) (run : List Mark) → IsTyped run → AskedSoFar opened link run → (pre : List (List ℕ)) (m : List ℕ) (post : List (List ℕ)) → completed_from None (client_outs opened link run) ≡ pre ++ m ∷ post
    → WasSubmitted opened link run (length pre) m
message_submitted opened link run typed asked pre m post e =
    let t = client_outputs opened link run typed asked in
    let at = mapped_at opened (asked_calls opened link run) pre m post (if_messages (client opened link run).state.has_hello (map (message_of_call opened) (asked_calls opened link run)) pre m post (sym t.says.completes.completed ∙ e)) in
    let w = each_submitted opened link run typed asked at.front at.own at.back at.is in
    record {
      earlier = w.earlier;
      later = w.later;
      call = w.call;
      form = w.form;
      xid = w.xid;
      is = w.is;
      accepted = w.accepted;
      counted = w.counted ∙ at.as_long;
      message_is = at.message ∙ (λ i. call_message (w.own_xid i) opened.wished (w.own_stag i) (w.own_plan i));
    }
