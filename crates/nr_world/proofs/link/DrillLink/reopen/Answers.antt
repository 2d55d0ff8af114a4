use Rattle.std.specs.Prelude.{is_err}
use Rattle.std.proofs.Common.{◌≡◌, ◌∙◌, arith, true, false, List, map, refl, ap, sym, subst}
use Rattle.nr_requester.specs.Fed.{fed_bytes}
use Rattle.nr_requester.specs.OpenCalls.{open_call}
use Rattle.nr_requester.specs.Reopening.{ReopenStands}
use Rattle.nr_requester.specs.RequesterState.{RequesterSide}
use Rattle.nr_world.specs.declared.awaited.AwaitedCall.{AwaitedCall}
use Rattle.nr_world.specs.DrillLinkState.{DrillLinkState}
use Rattle.nr_world.specs.Views.{call_view, held_view}
use Rattle.nr_world.specs.private.Working.{begun_link}
use Rattle.nr_world.proofs.Answering.{of_err, of_ok}
use Rattle.nr_world.proofs.NextLinks.{reopened_live, reopens}
use Rattle.nr_world.proofs.OpenTickets.{kept_open}
use Rattle.nr_world.proofs.Outputs.{client_kept}
use Rattle.nr_world.proofs.Standing.{on_ok}
use Rattle.nr_world.proofs.link.DrillLink.reopen.Goals as goal

pub reopen-requires : goal.reopen-requires
reopen-requires c = omega (arith, c.client.ensures, c.if-client-eq0.false)

pub invariant_of-self : goal.invariant_of-self
invariant_of-self c =
    let failed : is_err c.reopen.result ≡ true = sym c.is_err.ensures.value ∙ c.if-is_err.true in
    let same : c.reopen.new.self ≡ c.self.inside.client = of_err c.reopen.result _ failed c.reopen.ensures.err in
    client_kept _ _ _ c.self.inside.client c.reopen.new.self c.self.inside.fed_down c.self.inside.awaited.items (ap (λ (h : RequesterSide). fed_bytes h) same) (λ xid. ap (λ (h : RequesterSide). open_call xid h.state) same)
    c.self.invariant

pub invariant_of-self-2 : goal.invariant_of-self-2
invariant_of-self-2 c =
    let ok : is_err c.reopen.result ≡ false = sym c.is_err.ensures.value ∙ c.if-is_err.false in (
      c.self.invariant.0,
      (
        c.self.invariant.1.0,
        (
          omega (arith, of_ok c.reopen.result _ ok c.reopen.ensures.fed),
          (
            c.self.invariant.1.1.1.0,
            kept_open c.self.inside.client.state c.reopen.new.self.state c.self.inside.awaited.items (of_ok c.reopen.result _ ok c.reopen.ensures.tickets) c.self.invariant.1.1.1.1,
          ),
        ),
      ),
    )

pub begin-requires-clause-serves : goal.begin-requires-clause-serves
begin-requires-clause-serves c = c.in-Ok.ensures.fed

pub begin-requires-clause-asks : goal.begin-requires-clause-asks
begin-requires-clause-asks c =
    let ok : is_err c.reopen.result ≡ false = sym c.is_err.ensures.value ∙ c.if-is_err.false in
    of_ok c.reopen.result _ ok c.reopen.ensures.fed

pub same-self : goal.same-self
same-self c = refl

pub returns : goal.returns
returns c =
    let ok : is_err c.reopen.result ≡ false = sym c.is_err.ensures.value ∙ c.if-is_err.false in
    let held : map held_view c.in-Ok-held_calls.held.items ≡ c.args.self.now.calls =
    c.in-Ok-held_calls.ensures ∙ ap (λ (calls : List AwaitedCall). map call_view calls) c.as_slice.ensures.value ∙ ap (λ (v : DrillLinkState). v.calls) c.self.view_is in
    on_ok c.exchange.result _ _
    (reopens c.args.number c.args.opening c.args.self.now c.begin.new.self c.exchange.new.self c.reopen.new.self c.in-Ok.server.side c.args.marks.now c.exchange.new.marks (record {
      goes_on = subst (λ (v : DrillLinkState). ReopenStands v.client c.reopen.new.self) c.self.view_is (of_ok c.reopen.result _ ok c.reopen.ensures.stands);
      client_live = reopened_live _ _ _ (of_ok c.reopen.result _ ok c.reopen.ensures.reopened);
      server_live = c.in-Ok.ensures.live;
      server = c.in-Ok.ensures.stands;
      link_is = c.begin.ensures ∙ (λ i. begun_link (record (c.self.view_is i) { client = c.reopen.new.self }) c.args.number c.in-Ok.server.side (held i));
    }))
    c.exchange.ensures

pub same-self-in-Err : goal.same-self-in-Err
same-self-in-Err c = refl

pub same-self-in-Err-held_calls : goal.same-self-in-Err-held_calls
same-self-in-Err-held_calls c = refl

pub same-server : goal.same-server
same-server c = refl
