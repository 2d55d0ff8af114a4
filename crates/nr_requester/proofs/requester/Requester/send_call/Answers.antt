use Rattle.std.proofs.Common.{◌≡◌, ℕ, ◌+◌, ◌^◌, ◌<◌, ◌≤◌, false, List, [], ◌∷◌, ◌++◌, length, map, None, Some, refl, sym, ap, subst, ◌∙◌, arith}
use Rattle.std.proofs.lemmas.List.{length-map}
use Rattle.nr_endpoint.specs.LinkState.{LinkSide}
use Rattle.nr_endpoint.specs.Calls.{with_state}
use Rattle.nr_endpoint.specs.Offering.{claims_of}
use Rattle.nr_reduce.specs.declared.outline.Plan.{Plan}
use Rattle.nr_reduce.specs.Plans.{regions_needed, call_message, buffers, total, lists_of}
use Rattle.nr_requester.specs.AfterCalls.{submitted}
use Rattle.nr_requester.specs.Sending.{IsPlan, offered_of}
use Rattle.nr_reduce.specs.CallOutlines.{outline_plan}
use Rattle.nr_requester.specs.declared.outstanding.OutstandingCall.{OutstandingCall}
use Rattle.nr_requester.specs.RequesterState.{RequesterSide}
use Rattle.nr_requester.specs.Views.{stored_view, given_stags}
use Rattle.nr_requester.specs.RequesterState.{stags_of}
use Rattle.nr_endpoint.specs.declared.offering.Claims.{Claims}
use Rattle.nr_requester.proofs.Sent.{stags_are_lem}
use Rattle.nr_requester.proofs.HeldRegions.{own_room, sent_sound}
use Rattle.nr_reduce.specs.PlansByLists.{plan_by_lists}
use Rattle.nr_reduce.specs.ClientState.{call_payload}
use Rattle.nr_requester.specs.HeldClaims.{OffersOwn}
use Rattle.nr_requester.proofs.Within.{sent_within}
use Rattle.nr_requester.proofs.OfferedRooms.{room_offered}
use Rattle.nr_requester.specs.HeldBytes.{reply_room}
use Rattle.nr_header.specs.declared.header.ChunkLists.{ChunkLists}
use Rattle.nr_requester.specs.AfterCalls.{after_submit}
use Rattle.nr_requester.proofs.Views.{sent_view}
use Rattle.nr_requester.proofs.requester.Requester.send_call.Goals as goal

pub send_with_room-requires-clause-stags : goal.send_with_room-requires-clause-stags
send_with_room-requires-clause-stags c =
    let next = ap (λ (h : RequesterSide). h.state.side.memory.next) c.self.view_is in
    let fits = c.requires.numbers.stags in
    let same = ap (λ (args : List ℕ). regions_needed (outline_plan (c.args.head.now ++ args) c.args.outline)) c.as_slice.ensures in
    omega (arith, next, fits, same)

pub send_with_room-requires-clause-receive : goal.send_with_room-requires-clause-receive
send_with_room-requires-clause-receive c = c.self.invariant.1.0.link.receive

pub invariant_of-self-2 : goal.invariant_of-self-2
invariant_of-self-2 c =
    let number = ap (λ (h : RequesterSide). h.state.next_xid) c.self.view_is in
    let count = ap (λ (h : RequesterSide). length h.state.outstanding) c.self.view_is in
    let grant = ap (λ (h : RequesterSide). h.state.grant) c.self.view_is in
    let xid = c.requires.numbers.xid in
    let credit = c.requires.numbers.credit in
    let len = length-map c.self.inside.outstanding.items stored_view in
    let queue : c.send_with_room.new.endpoint.link.state.receive_queue ≡ c.self.inside.endpoint.link.state.receive_queue = ap (λ (l : LinkSide). l.state.receive_queue) c.in-Ok.ensures.link in
    let o : OutstandingCall = record { xid = c.self.inside.next_xid; send = c.self.inside.sends; call = Some c.args.call; is_forgotten = false; read_at = c.read_position-read_at.result; offered = c.in-Ok.sent.sent.lists; given = c.given_by-given.result; claims = c.in-Ok.sent.sent.claims; room = c.in-Ok.sent.room } in
    let plan : Plan = outline_plan (c.args.head.now ++ c.args.call.args) c.args.outline in
    let same : outline_plan (c.args.head.now ++ c.as_slice.result.now) c.args.outline ≡ plan = ap (λ (args : List ℕ). outline_plan (c.args.head.now ++ args) c.args.outline) c.as_slice.ensures in
    let planned : IsPlan plan = c.requires.planned in
    let lives : c.self.inside.endpoint.link.state.ended ≡ None = ap (λ (h : RequesterSide). h.state.side.ended) c.self.view_is ∙ c.requires.live in
    let unheld : length c.self.inside.endpoint.link.state.send_queue.held ≡ 0 = ap (λ (h : RequesterSide). length h.state.side.send_queue.held) c.self.view_is ∙ c.requires.numbers.none_held in
    let next = ap (λ (h : RequesterSide). h.state.side.memory.next) c.self.view_is in
    let fits = c.requires.numbers.stags in
    let stags : c.self.inside.endpoint.link.state.memory.next + regions_needed plan ≤ 2 ^ 32 = omega (arith, next, fits) in
    let s = c.self.inside.endpoint.link.state in
    let link_is : c.send_with_room.new.endpoint.link ≡ with_state (submitted s (call_message c.self.inside.next_xid c.self.inside.wished s.memory.next plan) (buffers s.memory.next plan)) c.self.inside.endpoint.link =
    c.in-Ok.ensures.link ∙ ap (λ (p : Plan). with_state (submitted s (call_message c.self.inside.next_xid c.self.inside.wished s.memory.next p) (buffers s.memory.next p)) c.self.inside.endpoint.link) same in
    let claims_are : c.in-Ok.sent.sent.claims ≡ claims_of s.memory (offered_of plan) = c.in-Ok.ensures.claims ∙ ap (λ (p : Plan). claims_of s.memory (offered_of p)) same in
    let room_is = subst (λ (p : Plan). (c.in-Ok.sent.room.len ≡ c.self.inside.receive_length + (total p.write + (total p.reply + 3))) × (c.in-Ok.sent.room.len < 2 ^ 32)) same c.in-Ok.ensures.room in
    let lists_are : c.in-Ok.sent.sent.lists ≡ lists_of s.memory.next plan = c.in-Ok.ensures.lists ∙ ap (λ (p : Plan). lists_of s.memory.next p) same in
    let listed : c.in-Ok.sent.sent.lists ≡ lists_of c.args.self.now.state.side.memory.next plan = lists_are ∙ ap (λ (n : ℕ). lists_of n plan) next in
    let again : plan_by_lists (call_payload c.self.inside.next_xid c.args.call) c.read_position-read_at.result c.in-Ok.sent.sent.lists ≡ plan_by_lists (call_payload c.args.self.now.state.next_xid c.args.call) plan.read_at (lists_of c.args.self.now.state.side.memory.next plan) =
    λ i. plan_by_lists (call_payload (number i) c.args.call) (c.read_position-read_at.ensures (c.args.head.now ++ c.args.call.args) i) (listed i) in
    let own : OffersOwn o = record { offer = c.in-Ok.ensures.offer; cred = c.requires.cred; plan = subst IsPlan (sym again) c.requires.again } in
    let offered : c.in-Ok.sent.room.len ≡ reply_room c.self.inside.receive_length c.in-Ok.sent.sent.lists = room_is.0 ∙ (sym (room_offered c.self.inside.receive_length s.memory.next plan) ∙ ap (λ (l : ChunkLists). reply_room c.self.inside.receive_length l) (sym lists_are)) in (
      sent_sound c.self.inside.endpoint.link c.send_with_room.new.endpoint.link c.self.inside.receive_length c.self.inside.next_xid c.self.inside.grant _ _ c.self.inside.outstanding.items c.push_reserved.new.self.items c.self.inside.answered.items c.make_room.new.answered.items o
          c.self.invariant.0 c.in-Ok.ensures.held queue own (own_room c.self.inside.receive_length s.memory plan o claims_are room_is) (ap (λ (l : LinkSide). l.state.reads) c.in-Ok.ensures.link) (omega (arith, xid, number)) (omega (arith, count, credit, grant, len))
          (c.push_reserved.ensures.items ∙ ap (λ (xs : List OutstandingCall). xs ++ o ∷ []) c.make_room.ensures.outstanding) c.make_room.ensures.answered refl c.in_default.ensures.answer,
      (
        sent_within c.self.inside.endpoint c.send_with_room.new.endpoint c.self.inside.receive_length c.self.inside.sends c.self.inside.next_xid c.self.inside.next_xid c.self.inside.wished c.self.inside.outstanding.items c.push_reserved.new.self.items c.self.inside.answered.items c.make_room.new.answered.items o plan c.self.invariant.1.0
            c.send_with_room.ensures.staging c.in-Ok.ensures.outside link_is planned lives unheld stags claims_are lists_are c.requires.small c.in-Ok.ensures.empty offered (let len = room_is.0 in omega (arith, len)) refl
            (c.push_reserved.ensures.items ∙ ap (λ (xs : List OutstandingCall). xs ++ o ∷ []) c.make_room.ensures.outstanding) c.make_room.ensures.answered,
        subst (λ (l : LinkSide). c.self.inside.sent ≤ l.state.send_queue.sends_left) (sym link_is) c.self.invariant.1.1,
      ),
    )

pub returns-clause-state : goal.returns-clause-state
returns-clause-state c =
    let plan : Plan = outline_plan (c.args.head.now ++ c.as_slice.result.now) c.args.outline in
    let o : OutstandingCall = record { xid = c.self.inside.next_xid; send = c.self.inside.sends; call = Some c.args.call; is_forgotten = false; read_at = c.read_position-read_at.result; offered = c.in-Ok.sent.sent.lists; given = c.given_by-given.result; claims = c.in-Ok.sent.sent.claims; room = c.in-Ok.sent.room } in
    let m = c.self.inside.endpoint.link.state.memory in
    let given : given_stags c.given_by-given.result ≡ map (λ b. b.stag) (buffers m.next plan) = c.given_by-given.ensures ∙ ap (λ (x : Claims). stags_of x) c.in-Ok.ensures.claims ∙ stags_are_lem m plan in
    sent_view c.args.self.now c.self.inside.endpoint.link c.send_with_room.new.endpoint.link c.self.inside.sent c.self.inside.wished c.self.inside.sends c.self.inside.next_xid c.self.inside.grant c.self.inside.local_releases c.self.inside.outstanding.items c.push_reserved.new.self.items
    c.self.inside.answered.items c.make_room.new.answered.items c.args.call plan o c.self.inside.endpoint.staging c.send_with_room.new.endpoint.staging c.self.inside.marks c.marks_if-self-inside.result c.self.view_is c.in-Ok.ensures.link (c.push_reserved.ensures.items ∙ ap (λ (xs : List OutstandingCall). xs ++ o ∷ []) c.make_room.ensures.outstanding) c.make_room.ensures.answered
    (λ i. record { xid = c.self.inside.next_xid; send = c.self.inside.sends; call = Some c.args.call; is_forgotten = false; read_at = c.read_position-read_at.ensures (c.args.head.now ++ c.as_slice.result.now) i; offered = c.in-Ok.ensures.lists i; given = given i; claims = c.in-Ok.ensures.claims i }) c.send_with_room.ensures.staging c.marks_if-self-inside.ensures
    ∙ ap (λ (args : List ℕ). after_submit c.args.self.now c.args.call (outline_plan (c.args.head.now ++ args) c.args.outline)) c.as_slice.ensures
