-- Why an outcome is no reply: the Send of its call was refused, or the offer doesn't hold the reply. None says another version.
use Rattle.std.proofs.Common.{◌≡◌, ℕ, ◌+◌, Bool, true, false, cond, ◌&&◌, ◌||◌, not, eqb, ltb, List, [], ◌∷◌, ◌++◌, length, drop, Option, None, Some, Result, Ok, Err, refl, sym, ap, subst, ◌∙◌, arith, eq-eqb}
use Rattle.nr_xdr.specs.Item.{word}
use Rattle.nr_xdr.specs.Fields.{word_at}
use Rattle.nr_wire.specs.declared.hello.Side.TheVariants.{Responder}
use Rattle.nr_header.specs.declared.header.ChunkLists.{ChunkLists}
use Rattle.nr_header.specs.declared.header.Body.{Body}
use Rattle.nr_header.specs.declared.header.Body.TheVariants.{Msg, Nomsg, ErrVers, ErrChunk}
use Rattle.nr_header.specs.declared.header.Header.{Header}
use Rattle.nr_header.specs.declared.fault.HeaderFault.{HeaderFault}
use Rattle.nr_header.specs.Reading.{header_of}
use Rattle.nr_reduce.specs.declared.call.Outcome.{Outcome}
use Rattle.nr_reduce.specs.declared.call.Outcome.TheVariants as outcomes
use Rattle.nr_reduce.specs.declared.mark.Mark.{Mark}
use Rattle.nr_reduce.specs.declared.mark.Mark.TheVariants as marks
use Rattle.nr_reduce.specs.declared.mark.LinkParameters.{LinkParameters}
use Rattle.nr_reduce.specs.declared.outline.Plan.{Plan}
use Rattle.nr_reduce.specs.Plans.{call_message, lists_of}
use Rattle.nr_reduce.specs.Plans as plans
use Rattle.nr_reduce.specs.Events.{events}
use Rattle.nr_reduce.specs.ClientState.{ClientState, OutstandingCall, stag_for}
use Rattle.nr_reduce.specs.ClientMessages as client_messages
use Rattle.nr_reduce.specs.ClientMessages.ReplyVerdict.{GivesOutcome}
use Rattle.nr_reduce.specs.Limits.{numbers_end}
use Rattle.nr_link.specs.Reasons.{REASON_KIND, REASON_CALL, REASON_STAGS}
use Rattle.nr_reduce.specs.ServerReads.{chunks_of}
use Rattle.nr_reduce.specs.Chunks.{is_read_chunk_of_item}
use Rattle.nr_reduce.specs.ServerState.{ServerState, PendingCall, credit_word, next_stag, is_pending}
use Rattle.nr_reduce.specs.ServerMessages.{Verdict, verdict, by_need, by_stream, by_body, by_header, no_stream, has_position}
use Rattle.nr_reduce.specs.ServerMessages.Verdict.{EndsLink, OtherVersion, BadChunks, MakesPending}
use Rattle.nr_reduce.specs.Holds.{chunk_error}
use Rattle.nr_reduce.specs.RunLaws.{server_by}
use Rattle.nr_laws.specs.MatchedSoFar.{MatchedSoFar}
use Rattle.nr_reduce.specs.Run.{client}
use Rattle.nr_laws.specs.ChunkOutcomes.{NoOtherVersion}
use Rattle.nr_laws.specs.Typed.{IsTyped}
use Rattle.nr_laws.proofs.HeaderXid.{chunk_error_xid, first_word_lem}
use Rattle.nr_laws.proofs.ExecutedCalls.{frame_message}
use Rattle.nr_laws.proofs.ServerAlong.{Said, SaidError, SaidNoAnswer}
use Rattle.nr_laws.proofs.ServerAlong.Said.{IsRefusal, IsAnswer, IsNoAnswer}
use Rattle.nr_laws.proofs.ServerOutputs.IsError.{OfChunks}
use Rattle.nr_laws.proofs.RefusedCalls.{Cause, RefusedSubmit, refused_submit, cause}
use Rattle.nr_laws.proofs.RefusedCalls.Cause.{ByVersion, ByChunks, ByStream}
use Rattle.nr_laws.proofs.Outcomes.{client_by}
use Rattle.nr_laws.proofs.DoneCalls.{gives_by, AnsweredBy, answered_by_lem, verdict_xid}
use Rattle.nr_laws.proofs.Following.{DoneAt, done_at}
use Rattle.nr_laws.proofs.Replied.{word_behind_lem, error_kind, error_read}
use Rattle.nr_laws.proofs.ReplyStreams.{IsStreamBody, IsReply, IsServerMessage, is_server_message, answer_is_server_message, plain_reply_lem}
use Rattle.nr_laws.proofs.ReplyStreams.IsStreamBody.{Inline, Long}

-- ---- A call of these clients is of version 1

call_stream_lem : (o : Option ℕ) (lists : ChunkLists) → IsStreamBody (plans.body_by o lists)
call_stream_lem None lists = Inline lists 0
call_stream_lem (Some position) lists = by (eqb position 0)
  where
    by : (b : Bool) → IsStreamBody (cond b (Nomsg lists) (Msg lists 0))
    by true = Long lists
    by false = Inline lists 0

pub call_is_server_message : (xid credit stag : ℕ) (p : Plan) → IsServerMessage (call_message xid credit stag p)
unfolding call_message
call_is_server_message xid credit stag p = is_server_message xid credit (plans.body_by p.read_at (lists_of stag p)) p.inline (call_stream_lem p.read_at (lists_of stag p))

abbrev NotOther : Verdict → Type 0
NotOther (EndsLink reason) = Unit {0}
NotOther OtherVersion = ⊥
NotOther BadChunks = Unit {0}
NotOther (MakesPending c) = Unit {0}

need_not : (k : ServerState) (c : PendingCall) → NotOther (by_need k c)
need_not k c = by (ltb numbers_end (next_stag k + length (chunks_of c.lists)))
  where
    by : (b : Bool) → NotOther (cond b (EndsLink REASON_STAGS) (MakesPending c))
    by true = tt
    by false = tt

stream_not : (k : ServerState) (lists : ChunkLists) (xid : ℕ) (o : Option (List ℕ)) → NotOther (by_stream k lists xid o)
stream_not k lists xid None = need_not k (record { number = k.received.sends + 1; xid = xid; lists = lists; inline = None })
stream_not k lists xid (Some stream) = by (is_read_chunk_of_item stream lists.read)
  where
    by : (b : Bool) → NotOther (cond b (by_need k (record { number = k.received.sends + 1; xid = xid; lists = lists; inline = Some stream })) BadChunks)
    by true = need_not k (record { number = k.received.sends + 1; xid = xid; lists = lists; inline = Some stream })
    by false = tt

body_not : (k : ServerState) (xid : ℕ) (m : List ℕ) (b : Body) → NotOther (by_body k xid m b)
body_not k xid m (Msg lists at) = stream_not k lists xid (Some (drop at m))
body_not k xid m (Nomsg lists) = by (has_position lists.read)
  where
    by : (b : Bool) → NotOther (cond b (by_stream k lists xid (no_stream lists.read)) BadChunks)
    by true = stream_not k lists xid (no_stream lists.read)
    by false = tt
body_not k xid m (ErrVers version low high) = tt
body_not k xid m (ErrChunk version) = tt

header_not : (k : ServerState) (m : List ℕ) (r : Result Header HeaderFault) → NotOther (by_header k m r)
header_not k m (Ok h) = body_not k h.xid m h.body
header_not k m (Err fault) = tt

-- so it isn't refused for its version
pub version_not : (k : ServerState) (m : List ℕ) → word_at 4 m ≡ 1 → verdict k m ≡ OtherVersion → ⊥
unfolding verdict
version_not k m own e = subst NotOther (ap (λ (b : Bool). cond (not b) OtherVersion rest) (sym (eq-eqb (word_at 4 m) 1 own)) ∙ e) (by (eqb (word_at 12 m) 3 || eqb (word_at 12 m) 4) (is_pending k (word_at 0 m)))
  where
    rest : Verdict
    rest = cond (eqb (word_at 12 m) 3 || eqb (word_at 12 m) 4) (EndsLink REASON_KIND) (cond (is_pending k (word_at 0 m)) (EndsLink REASON_CALL) (by_header k m (header_of m)))

    by : (b c : Bool) → NotOther (cond b (EndsLink REASON_KIND) (cond c (EndsLink REASON_CALL) (by_header k m (header_of m))))
    by true c = tt
    by false true = tt
    by false false = header_not k m (header_of m)

-- ---- An error message for chunks

chunk_words : (xid credit : ℕ) → (word_at 12 (chunk_error xid credit) ≡ 4) × (word_at 16 (chunk_error xid credit) ≡ 2)
unfolding chunk_error
chunk_words xid credit = (
  error_kind (chunk_error xid credit) (OfChunks xid credit refl),
  word_behind_lem xid 16 12 (word 1 ++ (word credit ++ (word 4 ++ (word 2 ++ [])))) (omega arith)
      ∙ word_behind_lem 1 12 8 (word credit ++ (word 4 ++ (word 2 ++ []))) (omega arith)
      ∙ word_behind_lem credit 8 4 (word 4 ++ (word 2 ++ [])) (omega arith)
      ∙ word_behind_lem 4 4 0 (word 2 ++ []) (omega arith) ∙ first_word_lem 2 [] (omega arith),
)

pub data IsChunk : Outcome → Type 0 where
  AChunk : IsChunk outcomes.Chunk

-- it brings Chunk alone
pub chunk_brings : (k : ClientState) (place : ℕ) (m : List ℕ) (xid : ℕ) (outcome : Outcome) (x credit : ℕ) → m ≡ chunk_error x credit → client_messages.reply_verdict k place m ≡ GivesOutcome xid (Some outcome) → IsChunk outcome
chunk_brings k place m xid outcome x credit is e =
    let g = gives_by k place m xid (Some outcome) e in
    let w = chunk_words x credit in
    let read = error_read m g.header (ap (λ (y : List ℕ). word_at 12 y) is ∙ w.0) g.is_header in
    by g.call g.header.body (eqb (length m) 28) (eqb (length m) 20) (ap (λ (n : ℕ). cond (eqb (length m) 28 && eqb n 1) (Some (ErrVers (word_at 4 m) (word_at 20 m) (word_at 24 m))) (cond (eqb (length m) 20 && eqb n 2) (Some (ErrChunk (word_at 4 m))) None)) (sym (ap (λ (y : List ℕ). word_at 16 y) is ∙ w.1)) ∙ read) g.by_its_body
  where
    give : (o : OutstandingCall) (v : ℕ) (b : Body) → ErrChunk v ≡ b → client_messages.reply_by_body k place o m b ≡ GivesOutcome xid (Some outcome) → IsChunk outcome
    give o v b same e =
        let f = ap (λ (y : Body). client_messages.reply_by_body k place o m y) same ∙ e in
        subst IsChunk (let s : ◌≡◌ {A = client_messages.ReplyVerdict} (GivesOutcome o.xid (Some outcomes.Chunk)) (GivesOutcome xid (Some outcome)) = f in cc) AChunk

    by : (o : OutstandingCall) (b : Body) (c d : Bool) → cond (c && false) (Some (ErrVers (word_at 4 m) (word_at 20 m) (word_at 24 m))) (cond (d && true) (Some (ErrChunk (word_at 4 m))) None) ≡ Some b
        → client_messages.reply_by_body k place o m b ≡ GivesOutcome xid (Some outcome) → IsChunk outcome
    by o b true true r e = give o (word_at 4 m) b (let s : Some (ErrChunk (word_at 4 m)) ≡ Some b = r in cc) e
    by o b true false r e = absurd cc
    by o b false true r e = give o (word_at 4 m) b (let s : Some (ErrChunk (word_at 4 m)) ≡ Some b = r in cc) e
    by o b false false r e = absurd cc

-- ---- Outcomes that are no replies

-- why a call completes with Chunk: its Send was refused, or its offer doesn't hold the reply
pub data ChunkCause (opened : LinkParameters) (link : ℕ) (before : List Mark) (xid : ℕ) (m : List ℕ) : Type 0 where
  SendRefused : (s : SaidError opened (events link Responder before) m) → (r : RefusedSubmit opened link before m s) → r.submitted.xid ≡ xid → ChunkCause opened link before xid m
  NotHeld : (s : SaidNoAnswer opened (events link Responder before) m) → AnsweredBy opened link before s.call s.earlier → s.call.xid ≡ xid → ChunkCause opened link before xid m

pub data OutcomeCause (opened : LinkParameters) (link : ℕ) (before : List Mark) (xid : ℕ) (m : List ℕ) (outcome : Outcome) : Type 0 where
  OfAnswer : IsReply outcome → OutcomeCause opened link before xid m outcome
  OfChunk : IsChunk outcome → ChunkCause opened link before xid m → OutcomeCause opened link before xid m outcome

pub outcome_cause : (opened : LinkParameters) (link : ℕ) (run before after : List Mark) (xid : ℕ) (outcome : Outcome) → (typed : IsTyped run) → (far : MatchedSoFar opened link run) → (is : run ≡ before ++ marks.Done link xid outcome ∷ after)
    → OutcomeCause opened link before xid (done_at opened link run before after xid outcome typed far is).said.given.message outcome
outcome_cause opened link run before after xid outcome typed far is = by d.said.said
  where
    d : DoneAt opened link before xid outcome
    d = done_at opened link run before after xid outcome typed far is

    m : List ℕ
    m = d.said.given.message

    k : ClientState
    k = (client_by opened d.said.given.earlier).state

    place : ℕ
    place = d.said.given.frame.end

    own_xid : xid ≡ word_at 0 m
    own_xid = verdict_xid k place m xid (Some outcome) d.said.given.given

    refused : (s : SaidError opened (events link Responder before) m) → Cause (server_by opened s.earlier) s.frame s.segment m → OutcomeCause opened link before xid m outcome
    refused s (ByVersion message whole bad own) =
        let w = frame_message opened link before d.typed d.far.asked d.far.matched s.earlier s.frame s.later s.segment message s.is s.behind s.is_segment whole s.live in
        absurd (version_not (server_by opened s.earlier) message
        (ap (λ (y : List ℕ). word_at 4 y) w.message_is ∙ (call_is_server_message w.xid opened.wished (stag_for (client opened link w.earlier).state w.xid) w.accepted.plan).version) bad)
    refused s (ByChunks message whole bad own) =
        let r = refused_submit opened link before d.typed d.far.asked d.far.matched m s in
        OfChunk (chunk_brings k place m xid outcome (word_at 0 message) (credit_word (server_by opened s.earlier)) own d.said.given.given) (SendRefused s r (sym r.xid ∙ sym own_xid))
    refused s (ByStream c stream own) =
        let r = refused_submit opened link before d.typed d.far.asked d.far.matched m s in
        OfChunk (chunk_brings k place m xid outcome c.xid (credit_word (server_by opened s.earlier)) own d.said.given.given) (SendRefused s r (sym r.xid ∙ sym own_xid))

    by : Said opened (events link Responder before) d.said.before m → OutcomeCause opened link before xid m outcome
    by (IsRefusal s) = refused s (cause (server_by opened s.earlier) s.frame s.segment m s.is_segment s.errors)
    by (IsNoAnswer s) =
        let a = answered_by_lem opened link before d.typed d.far s.earlier s.call s.later s.is in
        let f = a.fits in
        OfChunk (chunk_brings k place m xid outcome s.call.xid (credit_word (server_by opened s.earlier)) s.message d.said.given.given)
        (NotHeld s a (sym (chunk_error_xid s.call.xid (credit_word (server_by opened s.earlier)) (omega (arith, f))) ∙ ap (λ (x : List ℕ). word_at 0 x) (sym s.message) ∙ sym own_xid))
    by (IsAnswer s) =
        let p = answer_is_server_message s.call.xid (credit_word (server_by opened s.earlier)) (Rattle.nr_reduce.specs.Server.offer_of (server_by opened s.earlier) s.call.xid) s.answer in
        OfAnswer (plain_reply_lem k place m xid outcome (subst (λ (y : List ℕ). Rattle.nr_laws.proofs.ReplyStreams.IsPlainKind (word_at 12 y)) (sym s.message) p.kind) d.said.given.given)

-- no call completes with Version
pub version_never : (opened : LinkParameters) (link : ℕ) (run before after : List Mark) (xid low high : ℕ) → IsTyped run → MatchedSoFar opened link run → run ≡ before ++ marks.Done link xid (outcomes.Version low high) ∷ after → ⊥
version_never opened link run before after xid low high typed far is = by (outcomes.Version low high) refl (outcome_cause opened link run before after xid (outcomes.Version low high) typed far is)
  where
    m : List ℕ
    m = (done_at opened link run before after xid (outcomes.Version low high) typed far is).said.given.message

    reply : (o : Outcome) → o ≡ outcomes.Version low high → IsReply o → ⊥
    reply (outcomes.Reply p) e (Rattle.nr_laws.proofs.ReplyStreams.IsReply.AReply q) = absurd cc
    reply outcomes.Chunk e w = absurd cc
    reply (outcomes.Version l h) e w = elim w [ ]

    chunk : (o : Outcome) → o ≡ outcomes.Version low high → IsChunk o → ⊥
    chunk (outcomes.Reply p) e w = absurd cc
    chunk outcomes.Chunk e AChunk = absurd cc
    chunk (outcomes.Version l h) e w = elim w [ ]

    by : (o : Outcome) → o ≡ outcomes.Version low high → OutcomeCause opened link before xid m o → ⊥
    by o e (OfAnswer r) = reply o e r
    by o e (OfChunk c w) = chunk o e c

pub no_other_version : NoOtherVersion
no_other_version opened link run before xid low high typed far at = version_never opened link run before at.after xid low high typed far at.is
