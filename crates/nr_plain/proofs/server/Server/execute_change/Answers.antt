use Rattle.std.proofs.Common.{◌≡◌, ℕ, ◌<◌, ◌≤◌, List, ◌++◌, ◌∷◌, [], length, ap, sym, subst, ◌∙◌, arith}
use Rattle.std.proofs.lemmas.Result.{err_from_is_err_and}
use Rattle.nr_rpc.specs.Reading.{call_of}
use Rattle.nr_cache.specs.Caches.{Clients, HasClient, RemembersAll, found_by}
use Rattle.nr_cache.specs.Entries.{KeptEntry}
use Rattle.nr_cache.specs.Entries.Finding.{NewCall}
use Rattle.nr_plain.specs.History.{xid_in}
use Rattle.nr_plain.specs.Numbered.{IsSameButRoom, RepresentsTagged, finding}
use Rattle.nr_plain.specs.ReplySizes.{reply_max}
use Rattle.nr_plain.specs.private.Executing.{ExecutesTagged}
use Rattle.nr_plain.proofs.NumberedAnswers.{any_err, cache_stays, grown_short, kept_executes, memory_alone, new_answers, same_stands, unmoved_executes}
use Rattle.nr_plain.proofs.Remembering.{finding_is}
use Rattle.nr_plain.proofs.server.Server.execute_change.Goals.{else-count-reply, then-count-reply}
use Rattle.nr_plain.proofs.server.Server.execute_change.Goals as goal

pub returns-in_err-make_ready-clause-err : goal.returns-in_err-make_ready-clause-err
returns-in_err-make_ready-clause-err c = any_err c.from_residual.result _ c.make_ready.ensures.same

pub returns-in_err-room-clause-err : goal.returns-in_err-room-clause-err
returns-in_err-room-clause-err c = any_err c.from_residual-in_err-room.result _ c.make_ready.ensures.same

pub returns-in_err-reply-clause-cause : goal.returns-in_err-reply-clause-cause
returns-in_err-reply-clause-cause c =
    let p = err_from_is_err_and c.from_residual-in_err-reply.result c.from_residual-in_err-reply.ensures.1 in
    rw (p.1, p.2) (memory_alone c.in_err-reply.field-0.0 (call_of c.args.payload.now) c.requires.call c.in_err-reply.ensures.cause)

pub returns-in_err-reply-clause-err : goal.returns-in_err-reply-clause-err
returns-in_err-reply-clause-err c =
    any_err c.from_residual-in_err-reply.result _ (subst (IsSameButRoom c.args.self.now) (sym c.in_err-reply.ensures.err) c.make_ready.ensures.same)

pub filled-kept-requires-clause-fits : goal.filled-kept-requires-clause-fits
filled-kept-requires-clause-fits c =
    let more : c.in_ok-reply.reply.place < c.execute_now.new.self.count = omega (arith, c.if-count-reply.true, c.count.ensures) in
    let short = grown_short c.args.now c.args.payload.now c.in_ok-reply.reply.payload c.in_ok-reply.reply.place c.make_ready.new.self c.execute_now.new.self c.in_ok-reply.ensures.executed more in
    let bytes = ap length c.as_slice.ensures in
    omega (arith, short, bytes, c.in_ok-room.ensures.1)

pub keep-requires-clause-room : goal.keep-requires-clause-room
keep-requires-clause-room c =
    subst (λ (C : Clients). HasClient C c.args.client)
    (sym (cache_stays c.args.now c.args.payload.now c.in_ok-reply.reply.payload c.in_ok-reply.reply.place c.make_ready.new.self c.execute_now.new.self c.in_ok-reply.ensures.executed))
    c.in_ok-make_ready.ensures.room

pub keep-requires-clause-new : goal.keep-requires-clause-new
keep-requires-clause-new c =
    subst (λ (C : Clients). found_by C c.args.client c.args.xid ≡ NewCall)
    (sym (cache_stays c.args.now c.args.payload.now c.in_ok-reply.reply.payload c.in_ok-reply.reply.place c.make_ready.new.self c.execute_now.new.self c.in_ok-reply.ensures.executed))
    (c.make_ready.ensures.new c.args.xid c.requires.new)

pub keep-requires-clause-short : goal.keep-requires-clause-short
keep-requires-clause-short c =
    let more : c.in_ok-reply.reply.place < c.execute_now.new.self.count = omega (arith, c.if-count-reply.true, c.count.ensures) in
    let short = grown_short c.args.now c.args.payload.now c.in_ok-reply.reply.payload c.in_ok-reply.reply.place c.make_ready.new.self c.execute_now.new.self c.in_ok-reply.ensures.executed more in
    subst (λ (r : List ℕ). length r ≤ reply_max) (sym (c.filled-kept.ensures ∙ c.as_slice.ensures)) short

pub returns-clause-answered : goal.returns-clause-answered
returns-clause-answered c s T is =
    let before = c.args.self.now in
    let ready = c.make_ready.new.self in
    let mid = c.execute_now.new.self in
    let reply = c.in_ok-reply.reply in
    let m = c.args.now in
    let payload = c.args.payload.now in
    let x = c.in_ok-reply.ensures.executed in
    let stood : RepresentsTagged s T ready = same_stands s T before ready c.make_ready.ensures.same is in
    let new : finding s T c.args.client (xid_in payload) ≡ NewCall =
    finding_is s T c.args.client (xid_in payload) before c.requires.number is ∙ ap (λ (n : ℕ). found_by before.cache c.args.client n) (sym c.requires.xid) ∙ c.requires.new in
    let executes : ExecutesTagged s T c.args.client m payload reply.payload reply.place c.if-count-reply.self = elim c.if-count-reply.branch [
      | then-count-reply w ↦
          let more : reply.place < mid.count = omega (arith, w.if-count-reply.true, c.count.ensures) in
          let bytes : w.filled-kept.result ≡ reply.payload = w.filled-kept.ensures ∙ w.as_slice.ensures in
          subst (ExecutesTagged s T c.args.client m payload reply.payload reply.place) (sym w.self-is)
          (kept_executes m payload reply.payload reply.place ready mid x s T c.args.client stood w.keep.new.self c.requires.number more w.keep.ensures.rest
          (λ E r. subst (λ (k : KeptEntry). RemembersAll (E ++ k ∷ []) w.keep.new.self.cache) (λ i. record { client = c.args.client; xid = c.requires.xid i; place = reply.place; reply = bytes i })
          (w.keep.ensures.kept E r)))
      | else-count-reply w ↦
          subst (ExecutesTagged s T c.args.client m payload reply.payload reply.place) (sym w.self-is)
          (unmoved_executes m payload reply.payload reply.place ready mid x s T c.args.client stood (λ more. omega (arith, w.if-count-reply.false, c.count.ensures, more)))
    ] in
    new_answers s T c.args.client m payload reply.payload reply.place before c.if-count-reply.self new executes
