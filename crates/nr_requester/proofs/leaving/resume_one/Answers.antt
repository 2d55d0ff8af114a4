use Rattle.std.proofs.Common.{◌≡◌, ℕ, List, length, map, Option, None, Some, false, sym, ap, subst, ◌∙◌}
use Rattle.nr_endpoint.specs.declared.offering.Claims.{Claims}
use Rattle.nr_reduce.specs.declared.call.Call.{Call}
use Rattle.nr_reduce.specs.declared.outline.Plan.{Plan}
use Rattle.nr_reduce.specs.ClientState.{call_payload}
use Rattle.nr_reduce.specs.Plans.{buffers}
use Rattle.nr_requester.specs.declared.outstanding.OutstandingCall.{OutstandingCall}
use Rattle.nr_requester.specs.RequesterState.{stags_of}
use Rattle.nr_requester.specs.Reopening.{plan_again}
use Rattle.nr_requester.specs.Views.{given_stags, stored_view}
use Rattle.nr_requester.specs.private.Resuming.{IsMadeAgain, MadeOne}
use Rattle.nr_requester.proofs.Resuming.{read_again}
use Rattle.nr_requester.proofs.Sent.{stags_are_lem}
use Rattle.nr_requester.proofs.leaving.resume_one.Goals as goal

pub returns : goal.returns
returns c =
    let stored = c.args.stored.now in
    let call : Call = c.in-Some.call.now in
    let m = c.args.endpoint.now.link.state.memory in
    let plan : Plan = plan_again (stored_view stored) call in
    let made = c.in_ok-lists.field-0 in
    let one : OutstandingCall = record { xid = stored.xid; send = length c.as_slice.result.now; call = None; is_forgotten = false; read_at = stored.read_at; offered = made.sent.lists; given = c.given_by-given.result; claims = made.sent.claims; room = made.room } in
    let given : given_stags c.given_by-given.result ≡ map (λ b. b.stag) (buffers m.next plan) = c.given_by-given.ensures ∙ ap (λ (x : Claims). stags_of x) c.in_ok-lists.ensures.claims ∙ stags_are_lem m plan in
    let is : MadeOne c.args.credit c.args.receive_length stored call c.args.endpoint.now c.resume_call.new.endpoint c.args.made.now.items c.push.new.self.items = record {
      one = one;
      more = c.in_ok-push.ensures.items;
      stored = λ i. record { xid = stored.xid; send = length (c.as_slice.ensures.value i); call = Some call; is_forgotten = false; read_at = sym (read_again (call_payload stored.xid call) stored.read_at stored.offered) i; offered = c.in_ok-lists.ensures.lists i; given = given i; claims = c.in_ok-lists.ensures.claims i };
      link = c.in_ok-lists.ensures.link;
      staging = c.resume_call.ensures.staging;
      outside = c.in_ok-lists.ensures.outside;
      held = c.in_ok-lists.ensures.held;
      offer = c.in_ok-lists.ensures.offer;
      room = c.in_ok-lists.ensures.room;
      empty = c.in_ok-lists.ensures.empty;
    } in
    subst (λ (o : Option Call). IsMadeAgain c.args.credit c.args.receive_length stored o c.args.endpoint.now c.resume_call.new.endpoint c.args.made.now.items c.push.new.self.items) c.in-Some.ensures is
