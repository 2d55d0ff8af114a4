-- The offer that a server keeps of a pending call is the one of its client's plan.
use Rattle.std.proofs.Common.{◌≡◌, ℕ, Bool, true, false, cond, eqb, List, [], ◌∷◌, ◌++◌, Option, None, Some, refl, sym, ap, subst, ◌∙◌, arith, append_assoc, eqb-true}
use Rattle.std.specs.List.{find}
use Rattle.nr_xdr.specs.Item.{IsBytes}
use Rattle.nr_xdr.specs.Fields.{word_at}
use Rattle.nr_header.specs.Reading.{header_of}
use Rattle.nr_wire.specs.declared.hello.Side.TheVariants.{Responder}
use Rattle.nr_laws.proofs.WaitingCalls.{accepted_stags, accepted_plan}
use Rattle.nr_reduce.specs.declared.call.Submission.TheVariants as submissions
use Rattle.nr_reduce.specs.declared.mark.Mark.{Mark}
use Rattle.nr_reduce.specs.declared.mark.Mark.TheVariants as marks
use Rattle.nr_reduce.specs.declared.mark.LinkParameters.{LinkParameters}
use Rattle.nr_reduce.specs.declared.outline.Plan.{Plan}
use Rattle.nr_reduce.specs.Events.{RunEvent, events}
use Rattle.nr_reduce.specs.Events.RunEvent.{FrameReceived}
use Rattle.nr_reduce.specs.EndRules.{end_state_after}
use Rattle.nr_reduce.specs.Plans.{lists_of}
use Rattle.nr_reduce.specs.ChunkBytes.{IsOffer, lists_by}
use Rattle.nr_reduce.specs.ClientState.{call_payload, stag_for}
use Rattle.nr_reduce.specs.Asked.{AskedSoFar}
use Rattle.nr_reduce.specs.Run.{client}
use Rattle.nr_reduce.specs.ServerState.{ServerState, PendingCall}
use Rattle.nr_reduce.specs.Server.{server_rules, initial_server, offer_by, offer_of}
use Rattle.nr_reduce.specs.RunLaws.{server_by, IsReceivedCall}
use Rattle.nr_reduce.proofs.Conveyed.{Each, Known, known_from}
use Rattle.nr_laws.specs.MatchedSoFar.{MatchedSoFar}
use Rattle.nr_laws.specs.Typed.{TypedMark, IsTyped}
use Rattle.nr_laws.specs.Payloads.{HasPlan}
use Rattle.nr_laws.proofs.ReceivedMessages.{live_first}
use Rattle.nr_laws.proofs.HeaderXid.{header_xid, call_xid_lem}
use Rattle.nr_laws.proofs.OnceByXid.{at_mark}
use Rattle.nr_laws.proofs.ExecutedCalls.{received_message}
use Rattle.nr_laws.proofs.SubmittedPlans.{own_submit}
use Rattle.nr_laws.proofs.InlineReplies.{no_chunks}
use Rattle.nr_laws.proofs.ConveyedCalls.{planned_fits, plan_reads}
use Rattle.nr_laws.proofs.OfferedLists.{read_offer, received_bytes}

pub data KeptOffer (k : ServerState) (xid stag : ℕ) (plan : Plan) : Type 0 where
  Kept : offer_of k xid ≡ lists_of stag plan → IsOffer (lists_of stag plan) → KeptOffer k xid stag plan
  NotKept : offer_of k xid ≡ no_chunks → KeptOffer k xid stag plan

record FoundCall (P : PendingCall → Type 0) (xid : ℕ) (c : PendingCall) : Type 0 where
  holds : P c
  own : c.xid ≡ xid

found_call : (P : PendingCall → Type 0) (xid : ℕ) (calls : List PendingCall) (c : PendingCall) → Each P calls → find (λ (x : PendingCall). eqb x.xid xid) calls ≡ Some c → FoundCall P xid c
found_call P xid [] c h e = absurd cc
found_call P xid (x ∷ calls) c h e = by (eqb x.xid xid) refl e (λ f. found_call P xid calls c h.1 f)
  where
    by : (b : Bool) → eqb x.xid xid ≡ b → cond b (Some x) (find (λ (y : PendingCall). eqb y.xid xid) calls) ≡ Some c → (find (λ (y : PendingCall). eqb y.xid xid) calls ≡ Some c → FoundCall P xid c) → FoundCall P xid c
    by true is e more = subst (FoundCall P xid) (let t : Some x ≡ Some c = e in cc) (record { holds = h.0; own = eqb-true x.xid xid is })
    by false is e more = more e

-- a pending call has the lists of its plan
pub record PendingOffer (c : PendingCall) (stag : ℕ) (plan : Plan) : Type 0 where
  pub lists : c.lists ≡ lists_of stag plan
  pub offer : IsOffer (lists_of stag plan)

pub pending_offer : (opened : LinkParameters) (link : ℕ) (run before : List Mark) (mark : Mark) (after : List Mark) (xid : ℕ) (plan : Plan) → IsTyped before → MatchedSoFar opened link before → AskedSoFar opened link run → run ≡ before ++ mark ∷ after
    → (h : HasPlan opened link run xid plan) → (es rest : List RunEvent) → events link Responder before ≡ es ++ rest → (end_state_after (server_rules opened) (initial_server opened) es).ended ≡ None
    → (c : PendingCall) → find (λ (x : PendingCall). eqb x.xid xid) (server_by opened es).calls ≡ Some c → PendingOffer c (stag_for (client opened link h.before).state xid) plan
pending_offer opened link run before mark after xid plan typed far asked_so is h es rest all live c there =
    let known : Known opened es (server_by opened es) = known_from opened [] es (record { calls = tt; ready = tt }) in
    let found = found_call (IsReceivedCall opened es) xid (server_by opened es).calls c known.calls there in
    let own = found.holds in
    let w = received_message opened link before typed far.asked far.matched c rest es all own live in
    let stag = (stag_for (client opened link w.earlier).state w.xid) in
    let p = w.accepted.plan in
    let fits = w.accepted.xids in
    let stags = accepted_stags opened link w.earlier w.call w.form w.xid w.accepted in
    let formed = accepted_plan opened link w.earlier w.call w.form w.xid p w.accepted w.accepted.planned in
    let xid_is : w.xid ≡ xid = sym (call_xid_lem w.xid opened.wished stag p (omega (arith, fits))) ∙ ap (λ (m : List ℕ). word_at 0 m) (sym w.message_is) ∙ sym (header_xid own.message own.header own.is_header) ∙ sym own.xid ∙ found.own in
    let o = own_submit opened link run before mark after xid plan asked_so is h w.earlier w.later w.call w.form w.xid w.is w.accepted xid_is in
    let typed_at : TypedMark w.earlier (marks.Submit link w.call w.form (submissions.Accepted w.xid)) =
    at_mark TypedMark before w.earlier (marks.Submit link w.call w.form (submissions.Accepted w.xid)) w.later w.is typed in
    let whole : events link Responder before ≡ own.earlier ++ FrameReceived own.frame ∷ (own.later ++ rest) =
    all ∙ ap (λ (xs : List RunEvent). xs ++ rest) own.is_received ∙ append_assoc own.earlier (FrameReceived own.frame ∷ own.later) rest in
    let not_yet : (end_state_after (server_rules opened) (initial_server opened) own.earlier).ended ≡ None =
    live_first (server_rules opened) (initial_server opened) own.earlier (FrameReceived own.frame ∷ own.later) (ap (λ (xs : List RunEvent). (end_state_after (server_rules opened) (initial_server opened) xs).ended) (sym own.is_received) ∙ live) in
    let bytes : IsBytes own.message = received_bytes opened link before typed far.asked far.served far.matched own.earlier own.frame (own.later ++ rest) own.segment own.message whole own.behind_hello own.is_segment own.whole not_yet in
    let reads : lists_by own.header.body ≡ lists_of stag p =
    (let fine = planned_fits (call_payload w.xid w.call) w.form formed.up formed.down stag p formed.up_fits formed.planned typed_at.0 typed_at.1 (omega (arith, stags)) in
    (plan_reads w.xid opened.wished stag p own.header fine.0 fine.1 (omega (arith, fits)) (ap header_of (sym w.message_is) ∙ own.is_header)).lists) in
    let moved : lists_of stag p ≡ lists_of (stag_for (client opened link h.before).state xid) plan = (λ i. lists_of (stag_for (client opened link (o.place i)).state (xid_is i)) (o.plan_is i)) in
    record { lists = own.lists ∙ reads ∙ moved; offer = subst IsOffer (reads ∙ moved) (read_offer own.message own.header bytes own.is_header) }

pub kept_offer : (opened : LinkParameters) (link : ℕ) (run before : List Mark) (mark : Mark) (after : List Mark) (xid : ℕ) (plan : Plan) → IsTyped before → MatchedSoFar opened link before → AskedSoFar opened link run → run ≡ before ++ mark ∷ after
    → (h : HasPlan opened link run xid plan) → (es rest : List RunEvent) → events link Responder before ≡ es ++ rest → (end_state_after (server_rules opened) (initial_server opened) es).ended ≡ None
    → KeptOffer (server_by opened es) xid (stag_for (client opened link h.before).state xid) plan
kept_offer opened link run before mark after xid plan typed far asked_so is h es rest all live = by (find (λ (c : PendingCall). eqb c.xid xid) (server_by opened es).calls) refl
  where
    by : (o : Option PendingCall) → find (λ (c : PendingCall). eqb c.xid xid) (server_by opened es).calls ≡ o → KeptOffer (server_by opened es) xid (stag_for (client opened link h.before).state xid) plan
    by None there = NotKept (ap offer_by there)
    by (Some c) there = (let p = pending_offer opened link run before mark after xid plan typed far asked_so is h es rest all live c there in Kept (ap offer_by there ∙ p.lists) p.offer)
