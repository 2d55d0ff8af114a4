use Rattle.std.proofs.Common.{ℕ, List, [], length, map, sym, ap, subst, ◌∙◌, arith, None}
use Rattle.std.proofs.lemmas.List.Elements.{All-nil}
use Rattle.nr_responder.specs.ResponderState.{ResponderSide}
use Rattle.nr_responder.specs.Standing.{ResponderRepresents}
use Rattle.nr_responder.specs.declared.call.Pending.{Pending}
use Rattle.nr_responder.specs.declared.call.Ready.{Ready}
use Rattle.nr_responder.specs.Views.{call_view}
use Rattle.nr_responder.specs.Sound.{fetching_of, xids_of}
use Rattle.nr_endpoint.proofs.FedBytes.{open_fed}
use Rattle.nr_wire.specs.declared.hello.Side.TheVariants.{Responder}
use Rattle.nr_responder.proofs.HeldSinks.{empty_fetched, fetched_first}
use Rattle.nr_responder.proofs.Opened.{opened_stands_lem, opened_lives, opened_length, opened_queues, own_limit}
use Rattle.nr_responder.proofs.OutputBounds.{opened_out}
use Rattle.nr_responder.proofs.ReadBounds.{opened_reads}
use Rattle.nr_responder.proofs.StepBounds.{opened_fits}
use Rattle.nr_responder.proofs.ReadWindows.{empty_windows}
use Rattle.nr_responder.proofs.server_end.ServerEnd.open.Goals as goal
use Rattle.nr_link.specs.Agreement.{IsSendLimit}

pub returns-clause-sound : goal.returns-clause-sound
returns-clause-sound c =
    let l = opened_queues c.in_ok-endpoint.endpoint.link c.args.credits c.args.terms c.in_ok-endpoint.ensures.state in
    let used = ap (λ (xs : List (List ℕ)). length xs) c.in_ok-used.ensures.items in
    let calls = ap (λ (xs : List Pending). length xs) c.in_ok-calls.ensures.items in
    let ready = ap (λ (xs : List Ready). length xs) c.in_ok-ready.ensures.items in (
      record {
        unsent_is = used ∙ sym (ap (λ (xs : List ℕ). length xs) l.1.1);
        lent = omega (arith, l.0, used, calls);
        few = omega (arith, ready);
        bufs = rw c.in_ok-calls.ensures.items (All-nil _);
        used_bufs = rw c.in_ok-used.ensures.items (All-nil _);
        calls_fit = omega (arith, l.1.0, c.in_ok-calls.ensures.capacity);
        ready_fit = omega (arith, l.1.0, c.in_ok-ready.ensures.capacity);
        used_fit = omega (arith, l.1.0, c.in_ok-used.ensures.capacity);
        limit = subst IsSendLimit (sym (opened_length c.in_ok-endpoint.endpoint.link c.args.credits c.args.terms c.in_ok-endpoint.ensures.state)) (own_limit c.args.terms);
      },
      empty_fetched c.in_ok-endpoint.endpoint c.in_ok-calls.calls.items c.new.result.items c.new-2.result.items c.new.ensures.items c.new-2.ensures.items (fetched_first c.in_ok-endpoint.endpoint c.args.credits c.args.terms c.in_ok-calls.calls.items c.in_ok-endpoint.ensures.state c.in_ok-endpoint.ensures.outside c.in_ok-calls.ensures.items),
    )

pub returns-clause-stands : goal.returns-clause-stands
returns-clause-stands c = λ opened link same.
    subst (λ (v : ResponderSide). ResponderRepresents opened link [] v)
    (λ i. record {
      link = c.in_ok-endpoint.endpoint.link;
      calls = map call_view (sym c.in_ok-calls.ensures.items i);
      ready = xids_of (sym c.in_ok-ready.ensures.items i);
      credits = sym c.opened.ensures i;
      fetching = fetching_of (sym c.new.ensures.items i) (sym c.new-2.ensures.items i) (sym c.in_ok-ready.ensures.items i);
    })
    (opened_stands_lem opened link c.args.credits c.args.low c.args.terms c.in_ok-endpoint.endpoint.link same c.in_ok-endpoint.ensures.state)

pub returns-clause-state : goal.returns-clause-state
returns-clause-state c = λ i. record {
  link = c.in_ok-endpoint.ensures.state i;
  calls = map call_view (c.in_ok-calls.ensures.items i);
  ready = xids_of (c.in_ok-ready.ensures.items i);
  credits = c.opened.ensures i;
  fetching = fetching_of (c.new.ensures.items i) (c.new-2.ensures.items i) (c.in_ok-ready.ensures.items i);
}

pub returns-clause-live : goal.returns-clause-live
returns-clause-live c = opened_lives c.in_ok-endpoint.endpoint.link c.args.credits c.args.terms c.in_ok-endpoint.ensures.state

pub returns-clause-fed : goal.returns-clause-fed
returns-clause-fed c = open_fed c.in_ok-endpoint.endpoint.link Responder c.args.credits 1 c.args.terms None c.in_ok-endpoint.ensures.state

pub returns-clause-bounded : goal.returns-clause-bounded
returns-clause-bounded c = record { sinks = opened_fits _ c.args.credits c.args.low c.args.terms (returns-clause-state c); output = opened_out _ c.args.credits c.args.low c.args.terms (returns-clause-state c); reads = opened_reads _ c.args.credits c.args.low c.args.terms (returns-clause-state c) }

pub returns-clause-windows : goal.returns-clause-windows
returns-clause-windows c = λ live. empty_windows c.in_ok-calls.calls.items c.new.result.items c.in_ok-calls.ensures.items
