use Rattle.std.proofs.Common.{◌≡◌, ℕ, ◌-◌, [], ◌∷◌, ◌++◌, length, take, sym, ap, subst, ◌∙◌, arith}
use Rattle.nr_endpoint.specs.LinkState.{LinkSide}
use Rattle.nr_endpoint.specs.FedBytes.{fed_bytes}
use Rattle.nr_endpoint.proofs.FedBytes.{drain_fed}
use Rattle.nr_endpoint.specs.ReceiveQueue.{ReceiveQueue}
use Rattle.nr_endpoint.specs.SendQueue.{SendQueue}
use Rattle.nr_responder.specs.ResponderState.{ResponderSide, drained_posted, left_by, after_drain, may_write}
use Rattle.nr_responder.specs.Standing.{ResponderRepresents}
use Rattle.nr_wire.specs.declared.hello.Side.TheVariants.{Responder}
use Rattle.nr_reduce.specs.declared.mark.Mark.TheVariants as marks
use Rattle.nr_responder.specs.Sound.{state_of}
use Rattle.nr_responder.proofs.Drained.{drained_link, drained_queues, drained_stands}
use Rattle.nr_responder.proofs.Executed.{fewer_wait}
use Rattle.nr_responder.proofs.HeldSinks.{fetched_as}
use Rattle.nr_responder.proofs.Sounds.{sound_drained, used_as}
use Rattle.nr_responder.proofs.OutputBounds.{drained_out}
use Rattle.nr_responder.proofs.ReadBounds.{drained_reads}
use Rattle.nr_responder.proofs.StepBounds.{drained_fits}
use Rattle.nr_responder.proofs.server_end.ServerEnd.drain_into.Goals as goal

pub post_until-requires-clause-left : goal.post_until-requires-clause-left
post_until-requires-clause-left g c =
    let t = c.drain_into-result.ensures.taken in
    let q = drained_queues c.args.self.now.endpoint.link c.drain_into-result.new.self.link t.0 t.3 in
    omega (arith, c.sends_waiting-left.ensures, ap (λ (x : SendQueue). length x.send_ends) q.1, fewer_wait c.args.self.now.endpoint.link.state t.0, c.requires.sound.0.unsent_is)

pub post_until-requires-clause-lent : goal.post_until-requires-clause-lent
post_until-requires-clause-lent g c =
    let t = c.drain_into-result.ensures.taken in
    let q = drained_queues c.args.self.now.endpoint.link c.drain_into-result.new.self.link t.0 t.3 in
    omega (arith, ap (λ (x : ReceiveQueue). x.lent) q.0, c.requires.sound.0.lent)

pub post_until-requires-clause-bufs : goal.post_until-requires-clause-bufs
post_until-requires-clause-bufs g c =
    let t = c.drain_into-result.ensures.taken in
    let q = drained_queues c.args.self.now.endpoint.link c.drain_into-result.new.self.link t.0 t.3 in
    used_as _ _ _ (ap (λ (x : ReceiveQueue). x.receive_length) q.0) c.requires.sound.0.used_bufs

pub returns-clause-taken : goal.returns-clause-taken
returns-clause-taken g c =
    let t = c.drain_into-result.ensures.taken in
    let v : ResponderSide = state_of c.args.self.now in
    let m : LinkSide = c.drain_into-result.new.self.link in
    let q = drained_queues c.args.self.now.endpoint.link m t.0 t.3 in
    let posts : length c.args.self.now.used.items - c.sends_waiting-left.result ≡ left_by c.args.self.now.endpoint.link.state t.0 =
    omega (arith, c.sends_waiting-left.ensures, ap (λ (x : SendQueue). length x.send_ends) q.1, c.requires.sound.0.unsent_is) in
    let link = c.post_until.ensures.posted ∙ drained_link c.args.self.now.endpoint.link m t.0 (length c.args.self.now.used.items - c.sends_waiting-left.result) t.3
    ∙ ap (λ (k : ℕ). record { awaited = v.link.awaited; rest = v.link.rest; state = drained_posted v.link.state t.0 k }) posts in
    let state : record { link = c.post_until.new.endpoint.link; calls = v.calls; ready = v.ready; credits = v.credits; fetching = v.fetching } ≡ after_drain v t.0 = λ i. record { link = link i; calls = v.calls; ready = v.ready; credits = v.credits; fetching = v.fetching } in (
      t.0,
      (
        record {
          within = t.1;
          taken = t.2;
          state = state;
          stands = λ opened l run h. subst (λ (w : ResponderSide). ResponderRepresents opened l (run ++ marks.Wrote l Responder (take t.0 (may_write v)) ∷ []) w) (sym state) (drained_stands opened l run v t.0 t.1 h);
        },
        t.5,
      ),
    )

pub returns-clause-sound : goal.returns-clause-sound
returns-clause-sound g c =
    let t = c.drain_into-result.ensures.taken in
    let m : LinkSide = c.drain_into-result.new.self.link in
    let q = drained_queues c.args.self.now.endpoint.link m t.0 t.3 in
    let posts : length c.args.self.now.used.items - c.sends_waiting-left.result ≡ left_by c.args.self.now.endpoint.link.state t.0 =
    omega (arith, c.sends_waiting-left.ensures, ap (λ (x : SendQueue). length x.send_ends) q.1, c.requires.sound.0.unsent_is) in
    let link = c.post_until.ensures.posted ∙ drained_link c.args.self.now.endpoint.link m t.0 (length c.args.self.now.used.items - c.sends_waiting-left.result) t.3
    ∙ ap (λ (k : ℕ). record { awaited = c.args.self.now.endpoint.link.awaited; rest = c.args.self.now.endpoint.link.rest; state = drained_posted c.args.self.now.endpoint.link.state t.0 k }) posts in (
      sound_drained c.args.self.now.endpoint.link.state c.post_until.new.endpoint.link.state t.0 c.args.self.now.calls.items c.args.self.now.ready.items c.args.self.now.used.items _ _ _ _ _ (ap (λ (x : LinkSide). x.state) link)
          (c.post_until.ensures.left ∙ c.sends_waiting-left.ensures ∙ ap (λ (x : SendQueue). length x.send_ends) q.1) (used_as _ _ _ (sym (ap (λ (x : ReceiveQueue). x.receive_length) q.0)) c.post_until.ensures.bufs) c.post_until.ensures.room c.requires.sound.0,
      fetched_as c.args.self.now.endpoint c.post_until.new.endpoint c.args.self.now.calls.items c.args.self.now.reads.items c.args.self.now.sinks.items (ap (λ (x : LinkSide). x.state.memory) link) (c.post_until.ensures.outside ∙ c.drain_into-result.ensures.outside) c.requires.sound.1,
    )

pub returns-clause-fed : goal.returns-clause-fed
returns-clause-fed g c =
    let t = c.drain_into-result.ensures.taken in
    ap (λ (x : LinkSide). fed_bytes x) c.post_until.ensures.posted ∙ ap (λ (x : LinkSide). fed_bytes x) t.3 ∙ drain_fed c.args.self.now.endpoint.link t.0

pub returns-clause-bounded : goal.returns-clause-bounded
returns-clause-bounded g c = λ fit. (let t = returns-clause-taken g c in record { sinks = drained_fits _ _ t.0 t.1.0.state fit.sinks; output = drained_out _ _ t.0 t.1.0.state fit.output; reads = drained_reads _ _ t.0 t.1.0.state fit.reads })

pub returns-clause-windows : goal.returns-clause-windows
returns-clause-windows g c = λ live.
    let t = c.drain_into-result.ensures.taken in
    let link = c.post_until.ensures.posted ∙ drained_link c.args.self.now.endpoint.link c.drain_into-result.new.self.link t.0 (length c.args.self.now.used.items - c.sends_waiting-left.result) t.3 in
    c.requires.windows (sym (ap (λ (x : LinkSide). x.state.ended) link) ∙ live)
