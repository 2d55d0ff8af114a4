use Rattle.std.proofs.Common.{◌≡◌, sym, ap, ◌∙◌, false, true, Result, Ok}
use Rattle.nr_header.specs.declared.header.ChunkLists.{ChunkLists}
use Rattle.nr_header.specs.Reading.{header_of}
use Rattle.nr_header.specs.ReadInto.{body_with}
use Rattle.nr_header.specs.Slices.{lists_of_slices}
use Rattle.nr_header.specs.declared.fault.HeaderFault.{HeaderFault}
use Rattle.nr_header.specs.declared.header.Header.{Header}
use Rattle.nr_xdr.specs.Fields.{word_at}
use Rattle.nr_reduce.specs.ServerMessages.{by_header}
use Rattle.nr_responder.proofs.Judged.{verdict_version, verdict_done, verdict_error, verdict_open, header_verdict, is_open_lem, body_judged}
use Rattle.nr_responder.proofs.judging.judge.Goals as goal

pub returns-then-word_at-ne-VERSION-clause-judged : goal.returns-then-word_at-ne-VERSION-clause-judged
returns-then-word_at-ne-VERSION-clause-judged c = λ k same few. verdict_version k c.args.message.now (λ e. c.if-word_at-ne-VERSION.true (c.word_at.ensures ∙ e))

pub returns-then-kind-eq-DONE-clause-judged : goal.returns-then-kind-eq-DONE-clause-judged
returns-then-kind-eq-DONE-clause-judged c = λ k same few. verdict_done k c.args.message.now (sym c.word_at.ensures ∙ c.if-word_at-ne-VERSION.false) (sym c.word_at-kind.ensures ∙ c.if-kind-eq-DONE.true)

pub returns-then-kind-eq-ERROR-clause-judged : goal.returns-then-kind-eq-ERROR-clause-judged
returns-then-kind-eq-ERROR-clause-judged c = λ k same few. verdict_error k c.args.message.now (sym c.word_at.ensures ∙ c.if-word_at-ne-VERSION.false) (sym c.word_at-kind.ensures ∙ c.if-kind-eq-ERROR.true)

pub returns-then-has_xid-clause-judged : goal.returns-then-has_xid-clause-judged
returns-then-has_xid-clause-judged c = λ k same few.
    verdict_open k c.args.message.now (sym c.word_at.ensures ∙ c.if-word_at-ne-VERSION.false) (λ e. c.if-kind-eq-DONE.false (c.word_at-kind.ensures ∙ e)) (λ e. c.if-kind-eq-ERROR.false (c.word_at-kind.ensures ∙ e))
    (is_open_lem k c.args.calls.now (word_at 0 c.args.message.now) c.word_at-2.result true same c.word_at-2.ensures (sym c.has_xid.ensures ∙ c.if-has_xid.true))

pub returns-in-Ok-clause-judged : goal.returns-in-Ok-clause-judged
returns-in-Ok-clause-judged c = λ k same few.
    let lists = lists_of_slices c.as_slices.result in
    let h : Header = record { xid = c.in-Ok.fields.xid; credit = c.in-Ok.fields.credit; body = body_with c.in-Ok.fields.kind lists } in
    let read : header_of c.args.message.now ≡ Ok h =
    sym c.in-Ok.ensures.exact ∙ ap (λ (l : ChunkLists). Ok (record { xid = c.in-Ok.fields.xid; credit = c.in-Ok.fields.credit; body = body_with c.in-Ok.fields.kind l })) (sym c.as_slices.ensures) in
    body_judged k c.args.message.now h lists c.judge_kind.result c.requires.fixed (sym c.word_at.ensures ∙ c.if-word_at-ne-VERSION.false) (λ e. c.if-kind-eq-DONE.false (c.word_at-kind.ensures ∙ e)) (λ e. c.if-kind-eq-ERROR.false (c.word_at-kind.ensures ∙ e))
    (is_open_lem k c.args.calls.now (word_at 0 c.args.message.now) c.word_at-2.result false same c.word_at-2.ensures (sym c.has_xid.ensures ∙ c.if-has_xid.false)) few read (c.as_slices.ensures ∙ c.in-Ok.ensures.lists) c.judge_kind.ensures.body

pub returns-in-Err-clause-judged : goal.returns-in-Err-clause-judged
returns-in-Err-clause-judged c = λ k same few.
    header_verdict k c.args.message.now (sym c.word_at.ensures ∙ c.if-word_at-ne-VERSION.false) (λ e. c.if-kind-eq-DONE.false (c.word_at-kind.ensures ∙ e)) (λ e. c.if-kind-eq-ERROR.false (c.word_at-kind.ensures ∙ e))
    (is_open_lem k c.args.calls.now (word_at 0 c.args.message.now) c.word_at-2.result false same c.word_at-2.ensures (sym c.has_xid.ensures ∙ c.if-has_xid.false))
    ∙ ap (λ (r : Result Header HeaderFault). by_header k c.args.message.now r) (sym c.in-Err.ensures.exact)
