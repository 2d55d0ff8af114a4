use Rattle.std.proofs.Common.{◌≡◌, ℕ, List, None, true, false, sym, ap, subst, ◌∙◌}
use Rattle.nr_header.specs.declared.header.ChunkLists.{ChunkLists}
use Rattle.nr_header.specs.declared.header.MessageKind.{MessageKind}
use Rattle.nr_header.specs.ReadInto.{body_with}
use Rattle.nr_reduce.specs.Chunks.{answers_offer, reply_moved, reply_stream}
use Rattle.nr_reduce.specs.KeptCalls.{kept_body}
use Rattle.nr_reduce.specs.KeptClient.{bytes_under}
use Rattle.nr_requester.specs.Judged.{WriteComesBack, ReplyComesBack, by_stream, kept_view}
use Rattle.nr_requester.proofs.Views.{if_ok, if_err}
use Rattle.nr_requester.proofs.MessageBodies.{write_back, reply_back, body_msg, body_nomsg, refused_msg, refused_nomsg, revoked_msg, revoked_nomsg}
use Rattle.nr_requester.proofs.judging.found.Goals as goal

pub returns-then-not-answers_offer-clause-err : goal.returns-then-not-answers_offer-clause-err
returns-then-not-answers_offer-clause-err c =
    let memory : ℕ → List ℕ = bytes_under c.args.regions.now.memory in
    let refused : answers_offer false c.args.call.now.offered c.args.lists.now ≡ false = sym (c.answers_offer.ensures ∙ (λ i. answers_offer false (c.as_slices.ensures i) (c.as_slices-back.ensures i))) ∙ c.if-not-answers_offer.true in
    λ sent. let e = refused_msg sent c.args.call.now memory c.args.message.now c.args.lists.now c.in-Msg.stream_at refused in (ap (λ (k : MessageKind). kept_body (kept_view sent c.args.call.now) memory c.args.message.now (body_with k c.args.lists.now)) c.in-Msg.is ∙ e.0, e.1)

pub returns-in_default-clause-ok : goal.returns-in_default-clause-ok
returns-in_default-clause-ok c =
    let memory : ℕ → List ℕ = bytes_under c.args.regions.now.memory in
    let fits : answers_offer false c.args.call.now.offered c.args.lists.now ≡ true = sym (c.answers_offer.ensures ∙ (λ i. answers_offer false (c.as_slices.ensures i) (c.as_slices-back.ensures i))) ∙ c.if-not-answers_offer.false in
    λ sent. ap (λ (k : MessageKind). kept_body (kept_view sent c.args.call.now) memory c.args.message.now (body_with k c.args.lists.now)) c.in-Msg.is ∙ revoked_msg sent c.args.call.now memory c.args.message.now c.args.lists.now c.in-Msg.stream_at fits c.in_default.ensures

pub reply_found-requires-clause-written : goal.reply_found-requires-clause-written
reply_found-requires-clause-written c =
    let fits : answers_offer false c.args.call.now.offered c.args.lists.now ≡ true = sym (c.answers_offer.ensures ∙ (λ i. answers_offer false (c.as_slices.ensures i) (c.as_slices-back.ensures i))) ∙ c.if-not-answers_offer.false in
    subst (λ (ls : ChunkLists). WriteComesBack c.args.regions.now.memory c.args.call.now.claims.write ls.write) (sym c.as_slices-back.ensures)
    (write_back false c.args.regions.now.memory c.args.call.now c.in-Some.ensures.0 c.args.lists.now c.requires.held c.requires.offers c.in-Some.ensures.1.0 fits)

pub returns-in-Some-clause-ok : goal.returns-in-Some-clause-ok
returns-in-Some-clause-ok c =
    let memory : ℕ → List ℕ = bytes_under c.args.regions.now.memory in
    let fits : answers_offer false c.args.call.now.offered c.args.lists.now ≡ true = sym (c.answers_offer.ensures ∙ (λ i. answers_offer false (c.as_slices.ensures i) (c.as_slices-back.ensures i))) ∙ c.if-not-answers_offer.false in
    if_ok c.reply_found.result
    (λ f w sent.
    ap (λ (k : MessageKind). kept_body (kept_view sent c.args.call.now) memory c.args.message.now (body_with k c.args.lists.now)) c.in-Msg.is
    ∙ body_msg sent c.args.call.now c.in-Some.ensures.0 memory c.args.message.now c.split_at.result.1.now c.args.lists.now c.in-Msg.stream_at fits c.in-Some.ensures.1.0 c.split_at.ensures.back
    ∙ ap (λ (ls : ChunkLists). by_stream c.args.call.now.xid c.in-Some.ensures.0 c.split_at.result.1.now (reply_moved memory ls.write)) (sym c.as_slices-back.ensures)
    ∙ w c.in-Some.ensures.0 c.in-Some.ensures.1.0) c.reply_found.ensures.ok

pub returns-in-Some-clause-err : goal.returns-in-Some-clause-err
returns-in-Some-clause-err c =
    let memory : ℕ → List ℕ = bytes_under c.args.regions.now.memory in
    let fits : answers_offer false c.args.call.now.offered c.args.lists.now ≡ true = sym (c.answers_offer.ensures ∙ (λ i. answers_offer false (c.as_slices.ensures i) (c.as_slices-back.ensures i))) ∙ c.if-not-answers_offer.false in
    if_err c.reply_found.result
    (λ reason w sent. (
      ap (λ (k : MessageKind). kept_body (kept_view sent c.args.call.now) memory c.args.message.now (body_with k c.args.lists.now)) c.in-Msg.is
          ∙ body_msg sent c.args.call.now c.in-Some.ensures.0 memory c.args.message.now c.split_at.result.1.now c.args.lists.now c.in-Msg.stream_at fits c.in-Some.ensures.1.0 c.split_at.ensures.back
          ∙ ap (λ (ls : ChunkLists). by_stream c.args.call.now.xid c.in-Some.ensures.0 c.split_at.result.1.now (reply_moved memory ls.write)) (sym c.as_slices-back.ensures)
          ∙ (w c.in-Some.ensures.0 c.in-Some.ensures.1.0).0,
      (w c.in-Some.ensures.0 c.in-Some.ensures.1.0).1,
    )) c.reply_found.ensures.err

pub returns-then-not-answers_offer-2-clause-err : goal.returns-then-not-answers_offer-2-clause-err
returns-then-not-answers_offer-2-clause-err c =
    let memory : ℕ → List ℕ = bytes_under c.args.regions.now.memory in
    let refused : answers_offer true c.args.call.now.offered c.args.lists.now ≡ false = sym (c.answers_offer-in-Nomsg.ensures ∙ (λ i. answers_offer true (c.as_slices-in-Nomsg.ensures i) (c.as_slices-back-in-Nomsg.ensures i))) ∙ c.if-not-answers_offer-2.true in
    λ sent. let e = refused_nomsg sent c.args.call.now memory c.args.message.now c.args.lists.now refused in (ap (λ (k : MessageKind). kept_body (kept_view sent c.args.call.now) memory c.args.message.now (body_with k c.args.lists.now)) c.in-Nomsg.is ∙ e.0, e.1)

pub returns-in_default-of_call-clause-ok : goal.returns-in_default-of_call-clause-ok
returns-in_default-of_call-clause-ok c =
    let memory : ℕ → List ℕ = bytes_under c.args.regions.now.memory in
    let fits : answers_offer true c.args.call.now.offered c.args.lists.now ≡ true = sym (c.answers_offer-in-Nomsg.ensures ∙ (λ i. answers_offer true (c.as_slices-in-Nomsg.ensures i) (c.as_slices-back-in-Nomsg.ensures i))) ∙ c.if-not-answers_offer-2.false in
    λ sent. ap (λ (k : MessageKind). kept_body (kept_view sent c.args.call.now) memory c.args.message.now (body_with k c.args.lists.now)) c.in-Nomsg.is ∙ revoked_nomsg sent c.args.call.now memory c.args.message.now c.args.lists.now fits c.in_default-of_call.ensures

pub reply_found-requires-in-Nomsg-clause-written : goal.reply_found-requires-in-Nomsg-clause-written
reply_found-requires-in-Nomsg-clause-written c =
    let fits : answers_offer true c.args.call.now.offered c.args.lists.now ≡ true = sym (c.answers_offer-in-Nomsg.ensures ∙ (λ i. answers_offer true (c.as_slices-in-Nomsg.ensures i) (c.as_slices-back-in-Nomsg.ensures i))) ∙ c.if-not-answers_offer-2.false in
    subst (λ (ls : ChunkLists). WriteComesBack c.args.regions.now.memory c.args.call.now.claims.write ls.write) (sym c.as_slices-back-in-Nomsg.ensures)
    (write_back true c.args.regions.now.memory c.args.call.now c.in-Some-of_call.ensures.0 c.args.lists.now c.requires.held c.requires.offers c.in-Some-of_call.ensures.1.0 fits)

pub long_stream-stream-requires : goal.long_stream-stream-requires
long_stream-stream-requires c =
    let fits : answers_offer true c.args.call.now.offered c.args.lists.now ≡ true = sym (c.answers_offer-in-Nomsg.ensures ∙ (λ i. answers_offer true (c.as_slices-in-Nomsg.ensures i) (c.as_slices-back-in-Nomsg.ensures i))) ∙ c.if-not-answers_offer-2.false in
    subst (λ (ls : ChunkLists). ReplyComesBack c.args.regions.now.memory c.args.call.now.claims.reply ls.reply) (sym c.as_slices-back-in-Nomsg.ensures)
    (reply_back c.args.regions.now.memory c.args.call.now c.in-Some-of_call.ensures.0 c.args.lists.now c.requires.held c.requires.offers c.in-Some-of_call.ensures.1.0 fits)

pub returns-in-Some-of_call-clause-ok : goal.returns-in-Some-of_call-clause-ok
returns-in-Some-of_call-clause-ok c =
    let memory : ℕ → List ℕ = bytes_under c.args.regions.now.memory in
    let fits : answers_offer true c.args.call.now.offered c.args.lists.now ≡ true = sym (c.answers_offer-in-Nomsg.ensures ∙ (λ i. answers_offer true (c.as_slices-in-Nomsg.ensures i) (c.as_slices-back-in-Nomsg.ensures i))) ∙ c.if-not-answers_offer-2.false in
    if_ok c.reply_found-in-Nomsg.result
    (λ f w sent.
    ap (λ (k : MessageKind). kept_body (kept_view sent c.args.call.now) memory c.args.message.now (body_with k c.args.lists.now)) c.in-Nomsg.is
    ∙ body_nomsg sent c.args.call.now c.in-Some-of_call.ensures.0 memory c.args.message.now c.long_stream-stream.result.now c.args.lists.now fits c.in-Some-of_call.ensures.1.0 (c.long_stream-stream.ensures.bytes ∙ ap (λ (ls : ChunkLists). reply_stream memory None ls.reply) c.as_slices-back-in-Nomsg.ensures)
    ∙ ap (λ (ls : ChunkLists). by_stream c.args.call.now.xid c.in-Some-of_call.ensures.0 c.long_stream-stream.result.now (reply_moved memory ls.write)) (sym c.as_slices-back-in-Nomsg.ensures)
    ∙ w c.in-Some-of_call.ensures.0 c.in-Some-of_call.ensures.1.0) c.reply_found-in-Nomsg.ensures.ok

pub returns-in-Some-of_call-clause-err : goal.returns-in-Some-of_call-clause-err
returns-in-Some-of_call-clause-err c =
    let memory : ℕ → List ℕ = bytes_under c.args.regions.now.memory in
    let fits : answers_offer true c.args.call.now.offered c.args.lists.now ≡ true = sym (c.answers_offer-in-Nomsg.ensures ∙ (λ i. answers_offer true (c.as_slices-in-Nomsg.ensures i) (c.as_slices-back-in-Nomsg.ensures i))) ∙ c.if-not-answers_offer-2.false in
    if_err c.reply_found-in-Nomsg.result
    (λ reason w sent. (
      ap (λ (k : MessageKind). kept_body (kept_view sent c.args.call.now) memory c.args.message.now (body_with k c.args.lists.now)) c.in-Nomsg.is
          ∙ body_nomsg sent c.args.call.now c.in-Some-of_call.ensures.0 memory c.args.message.now c.long_stream-stream.result.now c.args.lists.now fits c.in-Some-of_call.ensures.1.0 (c.long_stream-stream.ensures.bytes ∙ ap (λ (ls : ChunkLists). reply_stream memory None ls.reply) c.as_slices-back-in-Nomsg.ensures)
          ∙ ap (λ (ls : ChunkLists). by_stream c.args.call.now.xid c.in-Some-of_call.ensures.0 c.long_stream-stream.result.now (reply_moved memory ls.write)) (sym c.as_slices-back-in-Nomsg.ensures)
          ∙ (w c.in-Some-of_call.ensures.0 c.in-Some-of_call.ensures.1.0).0,
      (w c.in-Some-of_call.ensures.0 c.in-Some-of_call.ensures.1.0).1,
    )) c.reply_found-in-Nomsg.ensures.err
