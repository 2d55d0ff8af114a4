-- Each executed call that adds an entry is answered by its reply, whatever was offered.
use Rattle.std.proofs.Common.{◌≡◌, ◌≢◌, List, [], ◌∷◌, ◌++◌, Option, None, Some, refl, sym, ◌∙◌, append-nil, inl, inr, ◌⊎◌}
use Rattle.nr_wire.specs.declared.hello.Side.TheVariants.{Responder}
use Rattle.nr_reduce.proofs.OwnLimits.{server_limits_of}
use Rattle.nr_reduce.specs.declared.call.Outcome.TheVariants as outcomes
use Rattle.nr_reduce.specs.declared.mark.Entry.{Entry}
use Rattle.nr_reduce.specs.declared.mark.Mark.{Mark}
use Rattle.nr_reduce.specs.declared.mark.Mark.TheVariants as marks
use Rattle.nr_reduce.specs.Holds.{Answer}
use Rattle.nr_reduce.specs.Matched.{IsPrefixOf}
use Rattle.nr_reduce.specs.Events.{events}
use Rattle.nr_reduce.specs.ServerState.{ServerState}
use Rattle.nr_reduce.specs.Server.{offer_of}
use Rattle.nr_reduce.specs.Run.{server}
use Rattle.nr_reduce.specs.Served.{ServedMark, IsExecuted}
use Rattle.nr_reduce.proofs.Calls.{execute_answered}
use Rattle.nr_laws.specs.Typed.{TypedMark}
use Rattle.nr_laws.specs.MarkAt.{MarkAt}
use Rattle.nr_laws.specs.PlainLinks.{server_with, PlainReplyMark}
use Rattle.nr_laws.specs.RefusedMessages.{HasRefusedMessage}
use Rattle.nr_laws.specs.ChunkOutcomes.{answer_held, ChangesAreAnswered, ChunkAddsNothing}
use Rattle.nr_laws.proofs.OnceByXid.{at_mark, before_mark}
use Rattle.nr_laws.proofs.Following.{far_before, executed_before}
use Rattle.nr_laws.proofs.ServerOutputs.{found_fits}
use Rattle.nr_laws.proofs.KeptAtServer.{kept_at_server}
use Rattle.nr_laws.proofs.RefusedMessages.{refused_not_executed}
use Rattle.nr_laws.proofs.ChunkCauses.{ExecuteNotHeld, one_execute, chunk_caused}

pub some_of : (o : Option Answer) → o ≢ None → (a : Answer) × (o ≡ Some a)
some_of None h = absurd (h refl)
some_of (Some a) h = (a, refl)

pub changes_are_answered : ChangesAreAnswered
unfolding server
changes_are_answered reply_to adds opened link run before xid moment payload place reply plain plain_replies typed served at more =
    let mark : Mark = marks.Execute link xid moment payload place reply in
    let x : IsExecuted opened link before xid payload = at_mark (ServedMark IsPrefixOf opened link) run before mark at.after at.is served refl in
    let first = before_mark TypedMark run before mark at.after at.is typed in
    let kept = before_mark (ServedMark IsPrefixOf opened link) run before mark at.after at.is served in
    let es = events link Responder before in
    let k : ServerState = (server opened link before).state in
    let holds = kept_at_server opened link before first kept es [] (sym (append-nil es)) in
    let replied = at_mark (PlainReplyMark (server_with reply_to adds) link) run before mark at.after at.is plain_replies refl in
    let down = (server_limits_of opened link before).down in
    let held = plain.change replied.0 moment payload reply (offer_of k xid) k.down_max replied.1 more (found_fits xid k.calls holds.fit).within down.0 in
    let a = some_of (answer_held opened link before xid payload reply) held in
    record { answer = a.0; is_held = a.1; due = (execute_answered opened link before xid moment payload place reply x).0 a.0 a.1 }

pub chunk_adds_nothing : ChunkAddsNothing
chunk_adds_nothing reply_to adds opened link run before done xid moment payload place reply plain plain_replies typed far at chunk = by (adds moment payload reply) refl
  where
    mark : Mark
    mark = marks.Execute link xid moment payload place reply

    then : (mid : List Mark) × (done ≡ before ++ mark ∷ mid)
    then = executed_before opened link run done chunk.after before at.after xid outcomes.Chunk moment payload place reply typed far chunk.is at.is

    there : MarkAt done before mark
    there = record { after = then.0; is = then.1 }

    none : HasRefusedMessage opened link done xid ⊎ ExecuteNotHeld opened link done xid → adds moment payload reply ≢ [] → ⊥
    none (inl refused) more =
        refused_not_executed opened link done before xid moment payload place reply (before_mark TypedMark run done (marks.Done link xid outcomes.Chunk) chunk.after chunk.is typed)
        (far_before opened link run done (marks.Done link xid outcomes.Chunk) chunk.after chunk.is far) refused there
    none (inr u) more =
        let s = one_execute opened link done before u.before xid moment u.moment payload u.payload place u.place reply u.reply (before_mark TypedMark run done (marks.Done link xid outcomes.Chunk) chunk.after chunk.is typed)
        (far_before opened link run done (marks.Done link xid outcomes.Chunk) chunk.after chunk.is far) there u.at in
        let a = changes_are_answered reply_to adds opened link run before xid moment payload place reply plain plain_replies typed far.served at more in
        let wrong : Some a.answer ≡ None = sym a.is_held ∙ (λ i. answer_held opened link (s.place i) xid (s.payload_is i) (s.reply_is i)) ∙ u.none in
        absurd cc

    by : (entries : List Entry) → adds moment payload reply ≡ entries → adds moment payload reply ≡ []
    by [] is = is
    by (entry ∷ entries) is = absurd (none (chunk_caused opened link run done chunk.after xid typed far chunk.is) (λ e. (let wrong : entry ∷ entries ≡ [] = sym is ∙ e in cc)))
