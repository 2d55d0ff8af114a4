use Rattle.std.proofs.Common.{◌≡◌, ℕ, Bool, true, false, List, Some, None, drop, take, refl, sym, ap, ◌∙◌}
use Rattle.nr_reduce.specs.ServerMessages.{by_payload}
use Rattle.nr_responder.specs.private.CallsRead.{payload_at_once, verdict_by}
use Rattle.nr_responder.specs.Views.{call_view, inline_of}
use Rattle.nr_responder.proofs.JoinedPayloads.{alone_as, ends_by, no_stream_ends, stream_conveyed}
use Rattle.nr_responder.proofs.payloads.judge_at_once.Goals as goal

pub returns-then-not-call-clause-ends : goal.returns-then-not-call-clause-ends
returns-then-not-call-clause-ends c =
    let call = c.args.call.now in
    no_stream_ends (call_view call) (ap (λ (b : Bool). inline_of b (drop call.stream_at (take call.len call.buf))) c.if-not-call.true)

pub returns-then-not-is_stream_alone-clause-ends : goal.returns-then-not-is_stream_alone-clause-ends
returns-then-not-is_stream_alone-clause-ends c =
    let call = c.args.call.now in
    let stream : List ℕ = drop call.stream_at (take call.len call.buf) in
    stream_conveyed (call_view call) stream None (ap (λ (b : Bool). inline_of b stream) c.if-not-call.false)
    (alone_as stream c.stream_of-stream.result.now (call_view call).lists.read c.args.read.now c.is_stream_alone.result false c.stream_of-stream.ensures c.requires.read c.is_stream_alone.ensures c.if-not-is_stream_alone.true)

pub returns-clause-alone : goal.returns-clause-alone
returns-clause-alone c = λ none.
    let call = c.args.call.now in
    let stream : List ℕ = drop call.stream_at (take call.len call.buf) in
    let inline : (call_view call).inline ≡ Some stream = ap (λ (b : Bool). inline_of b stream) c.if-not-call.false in
    record {
      payload = stream;
      inline = inline;
      judged =
          stream_conveyed (call_view call) stream (Some stream) inline
          (alone_as stream c.stream_of-stream.result.now (call_view call).lists.read c.args.read.now c.is_stream_alone.result true c.stream_of-stream.ensures c.requires.read c.is_stream_alone.ensures c.if-not-is_stream_alone.false)
          ∙ ap (λ (s : List ℕ). by_payload (call_view call) (Some s)) (sym c.stream_of-stream.ensures)
          ∙ c.judge_bytes.ensures.verdict (call_view call) c.stream_of-stream.result.now refl refl
          ∙ (λ i. verdict_by (call_view call) (c.stream_of-stream.ensures i) (none i));
    }

pub returns-clause-ends : goal.returns-clause-ends
returns-clause-ends c =
    let call = c.args.call.now in
    let stream : List ℕ = drop call.stream_at (take call.len call.buf) in
    ends_by (call_view call) c.stream_of-stream.result.now c.judge_bytes.result (by_payload (call_view call) (payload_at_once (call_view call)))
    (stream_conveyed (call_view call) stream (Some stream) (ap (λ (b : Bool). inline_of b stream) c.if-not-call.false)
    (alone_as stream c.stream_of-stream.result.now (call_view call).lists.read c.args.read.now c.is_stream_alone.result true c.stream_of-stream.ensures c.requires.read c.is_stream_alone.ensures c.if-not-is_stream_alone.false)
    ∙ ap (λ (s : List ℕ). by_payload (call_view call) (Some s)) (sym c.stream_of-stream.ensures)
    ∙ c.judge_bytes.ensures.verdict (call_view call) c.stream_of-stream.result.now refl refl)
