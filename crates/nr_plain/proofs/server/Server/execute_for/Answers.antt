use Rattle.std.proofs.Common.{◌≡◌, ℕ, ap, sym, subst, ◌∙◌, refl, false, Option, arith}
use Rattle.std.proofs.lemmas.Bool.{false≢true, not-false, not-true}
use Rattle.std.proofs.lemmas.Result.{IfErr-weaker, IfOk-weaker, err_from_is_err_and}
use Rattle.nr_rpc.specs.Reading.{call_of}
use Rattle.nr_cache.specs.Caches.{found_by}
use Rattle.nr_cache.specs.Entries.Finding.{KeptCall, NewCall}
use Rattle.nr_plain.specs.History.{xid_in}
use Rattle.nr_plain.specs.Numbered.{IsNumberedCause, may_change}
use Rattle.nr_plain.specs.private.Executing.{IsFound, IsShort}
use Rattle.nr_plain.specs.declared.server.Reply.{Reply}
use Rattle.nr_plain.proofs.Executed.{cache_same}
use Rattle.nr_plain.proofs.NumberedAnswers.{kept_answers, leaves_room, leaves_same, new_answers, plain_cause, quiet_executes, refused_cause, unnumbered_executes, unnumbered_new}
use Rattle.nr_plain.proofs.NumberedCalls.{unchanging}
use Rattle.nr_plain.proofs.Remembering.{finding_is}
use Rattle.nr_plain.proofs.Serving.{any_ok}
use Rattle.nr_plain.proofs.server.Server.execute_for.Goals as goal

-- a client without a number

pub returns-then-client-eq0-clause-answered : goal.returns-then-client-eq0-clause-answered
returns-then-client-eq0-clause-answered c =
    let zero = c.if-client-eq0.true in
    let after = c.execute_now.new.self in
    IfOk-weaker c.execute_now.result _ _
    (λ r x s T is.
    new_answers s T c.args.client c.args.now c.args.payload.now r.payload r.place c.args.self.now after (unnumbered_new s T c.args.client (xid_in c.args.payload.now) zero)
    (unnumbered_executes c.args.now c.args.payload.now r.payload r.place c.args.self.now after x s T c.args.client is zero))
    c.execute_now.ensures.executed

pub returns-then-client-eq0-clause-cause : goal.returns-then-client-eq0-clause-cause
returns-then-client-eq0-clause-cause c =
    IfErr-weaker c.execute_now.result _ _ (λ e f s T is. plain_cause e s T c.args.client c.args.payload.now f) c.execute_now.ensures.cause

pub returns-then-client-eq0-clause-err : goal.returns-then-client-eq0-clause-err
returns-then-client-eq0-clause-err c = IfErr-weaker c.execute_now.result _ _ (λ e same. leaves_same e c.args.self.now c.execute_now.new.self same) c.execute_now.ensures.err

pub returns-then-client-eq0-clause-room : goal.returns-then-client-eq0-clause-room
returns-then-client-eq0-clause-room c unchanging =
    cache_same c.args.self.now c.execute_now.new.self c.args.now c.args.payload.now c.execute_now.result c.execute_now.ensures.executed c.execute_now.ensures.err

pub returns-then-client-eq0-clause-unnumbered : goal.returns-then-client-eq0-clause-unnumbered
returns-then-client-eq0-clause-unnumbered c zero =
    cache_same c.args.self.now c.execute_now.new.self c.args.now c.args.payload.now c.execute_now.result c.execute_now.ensures.executed c.execute_now.ensures.err

-- a payload without a call head

pub returns-in_err-asked-clause-cause : goal.returns-in_err-asked-clause-cause
returns-in_err-asked-clause-cause c =
    let p = err_from_is_err_and c.from_residual.result c.from_residual.ensures.1 in
    rw (p.1, p.2) (λ s T is. plain_cause c.in_err-asked.field-0.0 s T c.args.client c.args.payload.now c.in_err-asked.ensures.cause)

pub returns-in_err-asked-clause-err : goal.returns-in_err-asked-clause-err
returns-in_err-asked-clause-err c =
    let p = err_from_is_err_and c.from_residual.result c.from_residual.ensures.1 in
    rw (p.1, p.2) (leaves_same c.in_err-asked.field-0.0 c.args.self.now c.args.self.now refl)

-- a call that is old, and a reply for which there is no memory

pub returns-in_err-reply-clause-cause : goal.returns-in_err-reply-clause-cause
returns-in_err-reply-clause-cause c =
    let p = err_from_is_err_and c.from_residual-in_err-reply.result c.from_residual-in_err-reply.ensures.1 in
    rw (p.1, p.2)
    (λ s T is.
    refused_cause c.in_err-reply.field-0.0 s T c.args.client c.args.payload.now c.in_ok-asked.ensures.call
    (found_by c.args.self.now.cache c.args.client c.in_ok-asked.asked.xid)
    (finding_is s T c.args.client (xid_in c.args.payload.now) c.args.self.now c.if-client-eq0.false is
    ∙ ap (λ (n : ℕ). found_by c.args.self.now.cache c.args.client n) (sym c.in_ok-asked.ensures.xid))
    c.in_err-reply.ensures.refused)

pub returns-in_err-reply-clause-err : goal.returns-in_err-reply-clause-err
returns-in_err-reply-clause-err c =
    let p = err_from_is_err_and c.from_residual-in_err-reply.result c.from_residual-in_err-reply.ensures.1 in
    rw (p.1, p.2) (leaves_same c.in_err-reply.field-0.0 c.args.self.now c.args.self.now refl)

-- a call that is kept

pub returns-in-Some-clause-answered : goal.returns-in-Some-clause-answered
returns-in-Some-clause-answered c s T is =
    let found : found_by c.args.self.now.cache c.args.client c.in_ok-asked.asked.xid ≡ KeptCall c.in-Some.reply.place c.in-Some.reply.payload =
    subst (λ (o : Option Reply). IsFound o (found_by c.args.self.now.cache c.args.client c.in_ok-asked.asked.xid)) c.in-Some.is c.in_ok-reply.ensures.found in
    kept_answers s T c.args.client c.args.now c.args.payload.now c.in-Some.reply.payload c.in-Some.reply.place c.args.self.now c.args.self.now
    (finding_is s T c.args.client (xid_in c.args.payload.now) c.args.self.now c.if-client-eq0.false is
    ∙ ap (λ (n : ℕ). found_by c.args.self.now.cache c.args.client n) (sym c.in_ok-asked.ensures.xid)
    ∙ found)
    refl is

pub returns-in-Some-clause-limit : goal.returns-in-Some-clause-limit
returns-in-Some-clause-limit c =
    let short = subst (λ (o : Option Reply). IsShort o) c.in-Some.is c.in_ok-reply.ensures.short in
    omega (arith, short)

-- a new call of a procedure that doesn't change the tree

pub returns-then-not-asked-clause-answered : goal.returns-then-not-asked-clause-answered
returns-then-not-asked-clause-answered c =
    let after = c.execute_now-then-not-asked.new.self in
    let found : found_by c.args.self.now.cache c.args.client c.in_ok-asked.asked.xid ≡ NewCall =
    subst (λ (o : Option Reply). IsFound o (found_by c.args.self.now.cache c.args.client c.in_ok-asked.asked.xid)) c.in_default.is c.in_ok-reply.ensures.found in
    let reads : may_change (call_of c.args.payload.now) ≡ false = sym c.in_ok-asked.ensures.changes ∙ not-true c.in_ok-asked.asked.changes c.if-not-asked.true in
    IfOk-weaker c.execute_now-then-not-asked.result _ _
    (λ r x s T is.
    new_answers s T c.args.client c.args.now c.args.payload.now r.payload r.place c.args.self.now after
    (finding_is s T c.args.client (xid_in c.args.payload.now) c.args.self.now c.if-client-eq0.false is
    ∙ ap (λ (n : ℕ). found_by c.args.self.now.cache c.args.client n) (sym c.in_ok-asked.ensures.xid)
    ∙ found)
    (quiet_executes c.args.now c.args.payload.now r.payload r.place c.args.self.now after x s T c.args.client is (unchanging c.args.now c.args.payload.now r.payload reads)))
    c.execute_now-then-not-asked.ensures.executed

pub returns-then-not-asked-clause-cause : goal.returns-then-not-asked-clause-cause
returns-then-not-asked-clause-cause c =
    IfErr-weaker c.execute_now-then-not-asked.result _ _ (λ e f s T is. plain_cause e s T c.args.client c.args.payload.now f) c.execute_now-then-not-asked.ensures.cause

pub returns-then-not-asked-clause-err : goal.returns-then-not-asked-clause-err
returns-then-not-asked-clause-err c =
    IfErr-weaker c.execute_now-then-not-asked.result _ _ (λ e same. leaves_same e c.args.self.now c.execute_now-then-not-asked.new.self same)
    c.execute_now-then-not-asked.ensures.err

pub returns-then-not-asked-clause-room : goal.returns-then-not-asked-clause-room
returns-then-not-asked-clause-room c reads =
    cache_same c.args.self.now c.execute_now-then-not-asked.new.self c.args.now c.args.payload.now c.execute_now-then-not-asked.result
    c.execute_now-then-not-asked.ensures.executed c.execute_now-then-not-asked.ensures.err

pub returns-then-not-asked-clause-unnumbered : goal.returns-then-not-asked-clause-unnumbered
returns-then-not-asked-clause-unnumbered c zero = absurd (c.if-client-eq0.false zero)

-- a new call that may be a change

pub execute_change-requires-clause-new : goal.execute_change-requires-clause-new
execute_change-requires-clause-new c =
    subst (λ (o : Option Reply). IsFound o (found_by c.args.self.now.cache c.args.client c.in_ok-asked.asked.xid)) c.in_default.is c.in_ok-reply.ensures.found

pub returns-clause-call : goal.returns-clause-call
returns-clause-call c = any_ok c.execute_change.result _ c.in_ok-asked.ensures.call

pub returns-clause-cause : goal.returns-clause-cause
returns-clause-cause c =
    IfErr-weaker c.execute_change.result _ _ (λ e memory s T is. subst (IsNumberedCause s T c.args.client c.args.payload.now) (sym memory) tt) c.execute_change.ensures.cause

pub returns-clause-err : goal.returns-clause-err
returns-clause-err c = leaves_room c.execute_change.result c.args.self.now c.execute_change.new.self c.execute_change.ensures.cause c.execute_change.ensures.err

pub returns-clause-room : goal.returns-clause-room
returns-clause-room c reads = absurd (false≢true (sym reads ∙ sym c.in_ok-asked.ensures.changes ∙ not-false c.in_ok-asked.asked.changes c.if-not-asked.false))

pub returns-clause-unnumbered : goal.returns-clause-unnumbered
returns-clause-unnumbered c zero = absurd (c.if-client-eq0.false zero)
