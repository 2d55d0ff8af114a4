use Rattle.std.proofs.Common.{◌≡◌, ℕ, List, drop, take, Ok, sym, ap, ◌∙◌, refl}
use Rattle.nr_rpc.specs.Reading.{call_of, xid_of_call}
use Rattle.nr_xdr.specs.Fields.{word_at}
use Rattle.nr_responder.specs.private.Handling.ReadsXid.{ReadsNoCall, ReadsOther, ReadsOwn}
use Rattle.nr_responder.proofs.Begun.{no_head_lem, some_head}
use Rattle.nr_responder.proofs.server_end.own_xid.Goals as goal

pub returns-in-None : goal.returns-in-None
returns-in-None c =
    let none = no_head_lem (drop c.args.stream_at (take c.args.len c.args.buf.now)) (c.in-None.ensures ∙ ap (λ (bytes : List ℕ). xid_of_call (call_of bytes)) c.stream_of-2.ensures) in
    record { xid = ReadsNoCall none.0 none.1 refl }

pub returns-then-found-xid : goal.returns-then-found-xid
returns-then-found-xid c =
    let head = some_head (drop c.args.stream_at (take c.args.len c.args.buf.now)) c.in-Some.found (c.in-Some.ensures ∙ ap (λ (bytes : List ℕ). xid_of_call (call_of bytes)) c.stream_of-2.ensures) in
    let xid : c.word_at-xid.result ≡ word_at 0 (take c.args.len c.args.buf.now) = c.word_at-xid.ensures ∙ ap (λ (bytes : List ℕ). word_at 0 bytes) c.stream_of.ensures in
    record { xid = ReadsOther head.head head.reads (λ e. c.if-found-xid.true (sym head.own ∙ e ∙ sym xid)) refl }

pub returns-else-found-xid : goal.returns-else-found-xid
returns-else-found-xid c =
    let head = some_head (drop c.args.stream_at (take c.args.len c.args.buf.now)) c.in-Some.found (c.in-Some.ensures ∙ ap (λ (bytes : List ℕ). xid_of_call (call_of bytes)) c.stream_of-2.ensures) in
    let xid : c.word_at-xid.result ≡ word_at 0 (take c.args.len c.args.buf.now) = c.word_at-xid.ensures ∙ ap (λ (bytes : List ℕ). word_at 0 bytes) c.stream_of.ensures in
    record { xid = ReadsOwn head.head head.reads (head.own ∙ c.if-found-xid.false ∙ xid) (ap (λ (x : ℕ). Ok x) xid) }
