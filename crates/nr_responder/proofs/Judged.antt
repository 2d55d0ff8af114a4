-- The verdict on a message, one question after the other.
use Rattle.std.proofs.Common.{◌&&◌, ◌≡◌, ◌≢◌, ℕ, ◌+◌, ◌≤◌, Bool, true, false, not, ◌||◌, eqb, cond, List, [], ◌∷◌, length, drop, map, Option, Some, None, Result, Ok, Err, refl, sym, ap, subst, ◌∙◌, arith, inl, inr}
use Rattle.std.specs.Prelude.{◌⊎◌, IsOk}
use Rattle.std.specs.List.{list_any, filter}
use Rattle.std.proofs.lemmas.Bool.{ne_eqb, eq-eqb, le-ltb}
use Rattle.nr_header.specs.Constants.{FIXED_LEN}
use Rattle.nr_header.specs.declared.fault.HeaderFault.{HeaderFault}
use Rattle.nr_header.specs.declared.fault.HeaderFault.TheVariants.{Short}
use Rattle.nr_header.specs.declared.header.RdmaSegment.{RdmaSegment}
use Rattle.nr_header.specs.declared.header.ReadSegment.{ReadSegment}
use Rattle.nr_header.specs.declared.header.ChunkLists.{ChunkLists}
use Rattle.nr_header.specs.declared.header.Body.{Body}
use Rattle.nr_header.specs.declared.header.Body.TheVariants.{Msg, Nomsg}
use Rattle.nr_header.specs.declared.header.Header.{Header}
use Rattle.nr_header.specs.WithinLimits.{CanRead, ListsWithin, StreamWithin, read_total, stream_after}
use Rattle.nr_header.specs.Constants.{PAYLOAD_MAX}
use Rattle.std.proofs.lemmas.List.{drop_all}
use Rattle.nr_header.specs.Reading.{header_of, header_by, body_by, error_by}
use Rattle.nr_header.specs.ReadInto.{lists_in}
use Rattle.nr_xdr.specs.Fields.{word_at}
use Rattle.nr_reduce.specs.Chunks.{is_read_chunk_of_item, item_position, total_at, positions}
use Rattle.nr_reduce.specs.ServerState.{PendingCall, ServerState, credit_word, is_pending, next_stag}
use Rattle.nr_reduce.specs.ServerReads.{chunks_of, is_read}
use Rattle.nr_reduce.specs.ServerMessages.{Verdict, verdict, by_header, by_body, by_stream, by_need, has_position, no_stream}
use Rattle.nr_reduce.specs.ServerMessages.Verdict.{EndsLink, OtherVersion, BadChunks, MakesPending}
use Rattle.nr_rpc.specs.declared.head.CallHead.{CallHead}
use Rattle.nr_rpc.specs.Reading.{call_of, head_xid}
use Rattle.nr_reduce.specs.Holds.{chunk_error, version_error}
use Rattle.nr_reduce.specs.ServerMessages.{by_head}
use Rattle.nr_reduce.specs.ServerMessages.CallVerdict.{Refuses, IsReady}
use Rattle.nr_reduce.specs.ServerFrames.{FrameEffect, by_message, message_effect, with_verdict}
use Rattle.nr_responder.specs.private.Handling.{inline_call, refused_effect}
use Rattle.nr_responder.proofs.ServerSteps.{inline_message_lem, pending_effect}
use Rattle.nr_responder.specs.declared.call.Pending.{Pending}
use Rattle.nr_responder.specs.declared.heads.StreamHead.{StreamHead}
use Rattle.nr_responder.specs.declared.judging.Judged.{Judged}
use Rattle.nr_responder.specs.declared.judging.Judged.TheVariants as judged
use Rattle.nr_responder.specs.Views.{call_view, call_with, inline_of, HasLists, HasStream, IsCall, IsOfReads, Judges, JudgesBody, PutsLists, brings_stream, fits_stream, reads_if}

pub verdict_version : (k : ServerState) (m : List ℕ) → word_at 4 m ≢ 1 → verdict k m ≡ OtherVersion
unfolding verdict
verdict_version k m ne =
    ap (λ (b : Bool). cond (not b) OtherVersion (cond (eqb (word_at 12 m) 3 || eqb (word_at 12 m) 4) (EndsLink 17) (cond (is_pending k (word_at 0 m)) (EndsLink 20) (by_header k m (header_of m))))) (ne_eqb (word_at 4 m) 1 ne)

verdict_later : (k : ServerState) (m : List ℕ) → word_at 4 m ≡ 1 →
    verdict k m ≡ cond (eqb (word_at 12 m) 3 || eqb (word_at 12 m) 4) (EndsLink 17) (cond (is_pending k (word_at 0 m)) (EndsLink 20) (by_header k m (header_of m)))
unfolding verdict
verdict_later k m is =
    ap (λ (b : Bool). cond (not b) OtherVersion (cond (eqb (word_at 12 m) 3 || eqb (word_at 12 m) 4) (EndsLink 17) (cond (is_pending k (word_at 0 m)) (EndsLink 20) (by_header k m (header_of m))))) (eq-eqb (word_at 4 m) 1 is)

pub verdict_done : (k : ServerState) (m : List ℕ) → word_at 4 m ≡ 1 → word_at 12 m ≡ 3 → verdict k m ≡ EndsLink 17
verdict_done k m is kind =
    verdict_later k m is ∙ ap (λ (b : Bool). cond (b || eqb (word_at 12 m) 4) (EndsLink 17) (cond (is_pending k (word_at 0 m)) (EndsLink 20) (by_header k m (header_of m)))) (eq-eqb (word_at 12 m) 3 kind)

pub verdict_error : (k : ServerState) (m : List ℕ) → word_at 4 m ≡ 1 → word_at 12 m ≡ 4 → verdict k m ≡ EndsLink 17
verdict_error k m is kind =
    verdict_later k m is
    ∙ ap (λ (n : ℕ). cond (eqb n 3 || eqb n 4) (EndsLink 17) (cond (is_pending k (word_at 0 m)) (EndsLink 20) (by_header k m (header_of m)))) kind

pub verdict_kinds : (k : ServerState) (m : List ℕ) → word_at 4 m ≡ 1 → word_at 12 m ≢ 3 → word_at 12 m ≢ 4 → verdict k m ≡ cond (is_pending k (word_at 0 m)) (EndsLink 20) (by_header k m (header_of m))
verdict_kinds k m is done error =
    verdict_later k m is
    ∙ (λ i. cond (ne_eqb (word_at 12 m) 3 done i || ne_eqb (word_at 12 m) 4 error i) (EndsLink 17) (cond (is_pending k (word_at 0 m)) (EndsLink 20) (by_header k m (header_of m))))

pub pending_view : (xid : ℕ) (calls : List Pending) → list_any (λ c. eqb c.xid xid) (map call_view calls) ≡ list_any (λ c. eqb c.xid xid) calls
pending_view xid [] = refl
pending_view xid (c ∷ calls) = ap (λ (b : Bool). eqb c.xid xid || b) (pending_view xid calls)

xid_by : (xid credit : ℕ) (r : Result Body HeaderFault) (h : Header) → header_by xid credit r ≡ Ok h → h.xid ≡ xid
xid_by xid credit (Ok body) h is = ap (λ (x : Header). x.xid) (let same : h ≡ record { xid = xid; credit = credit; body = body } = cc in same)
xid_by xid credit (Err fault) h is = absurd cc

pub header_xid : (m : List ℕ) (h : Header) → FIXED_LEN ≤ length m → header_of m ≡ Ok h → h.xid ≡ word_at 0 m
unfolding header_of
header_xid m h long is =
    let body : Result Body HeaderFault = body_by (error_by (word_at 12 m) m) (word_at 4 m) (word_at 12 m) m in
    xid_by (word_at 0 m) (word_at 8 m) body h
    (sym (ap (λ (b : Bool). cond b (Err Short) (header_by (word_at 0 m) (word_at 8 m) body)) (le-ltb (length m) FIXED_LEN long)) ∙ is)

-- a call without a read list is pending, as long as STags are numbers
no_chunks_lem : (k : ServerState) (c : PendingCall) → c.lists.read ≡ [] → next_stag k ≤ 4294967296 → by_need k c ≡ MakesPending c
no_chunks_lem k c none few =
    let need : length (chunks_of c.lists) ≡ 0 = ap (λ (read : List ReadSegment). length (filter (λ p. not (eqb (total_at p read) 0)) (positions read))) none in
    ap (λ (b : Bool). cond b (EndsLink 30) (MakesPending c)) (le-ltb 4294967296 (next_stag k + length (chunks_of c.lists)) (omega (arith, few, need)))

item_nil : (stream : List ℕ) → is_read_chunk_of_item stream [] ≡ true
unfolding is_read_chunk_of_item item_position
item_nil stream = refl

pub call_stream_lem : (k : ServerState) (lists : ChunkLists) (xid : ℕ) (stream : List ℕ) → lists.read ≡ [] → next_stag k ≤ 4294967296 →
    by_stream k lists xid (Some stream) ≡ MakesPending (record { number = k.received.sends + 1; xid = xid; lists = lists; inline = Some stream })
call_stream_lem k lists xid stream none few =
    let c : PendingCall = record { number = k.received.sends + 1; xid = xid; lists = lists; inline = Some stream } in
    ap (λ (b : Bool). cond b (by_need k c) BadChunks) (ap (is_read_chunk_of_item stream) none ∙ item_nil stream) ∙ no_chunks_lem k c none few

pub header_verdict : (k : ServerState) (m : List ℕ) → word_at 4 m ≡ 1 → word_at 12 m ≢ 3 → word_at 12 m ≢ 4 → is_pending k (word_at 0 m) ≡ false → verdict k m ≡ by_header k m (header_of m)
header_verdict k m is done error new = verdict_kinds k m is done error ∙ ap (λ (b : Bool). cond b (EndsLink 20) (by_header k m (header_of m))) new

-- a call has the lists that were read
pub puts_lists : (m : List ℕ) (lists : ChunkLists) (j : Judged) → lists ≡ lists_in m → PutsLists m lists j
puts_lists m lists judged.Kind is = tt
puts_lists m lists judged.Open is = tt
puts_lists m lists judged.OtherVersion is = tt
puts_lists m lists judged.BadChunks is = tt
puts_lists m lists (judged.Call stream_at) is = is
puts_lists m lists (judged.Reads stream_at inline head) is = is

-- what is judged of a body is judged of its message
pub body_judged : (k : ServerState) (m : List ℕ) (h : Header) (lists : ChunkLists) (j : Judged) → FIXED_LEN ≤ length m → word_at 4 m ≡ 1 → word_at 12 m ≢ 3 → word_at 12 m ≢ 4 → is_pending k (word_at 0 m) ≡ false →
    next_stag k ≤ 4294967296 → header_of m ≡ Ok h → lists ≡ lists_in m → JudgesBody m h.body lists j → Judges k m j
body_judged k m h lists j long is done error new few read puts judges = by j judges
  where
    verdict_is : verdict k m ≡ by_body k h.xid m h.body
    verdict_is = header_verdict k m is done error new ∙ ap (by_header k m) read

    by : (j : Judged) → JudgesBody m h.body lists j → Judges k m j
    by judged.Kind b = absurd b
    by judged.Open b = absurd b
    by judged.OtherVersion b = absurd b
    by judged.BadChunks b = verdict_is ∙ b k h.xid
    by (judged.Call stream_at) b = subst (λ (l : ChunkLists). IsCall k m l stream_at) puts (record {
      no_reads = b.1;
      own = new;
      pending =
          verdict_is ∙ ap (by_body k h.xid m) b.0 ∙ call_stream_lem k lists h.xid (drop stream_at m) b.1 few
          ∙ ap (λ (x : ℕ). MakesPending (record { number = k.received.sends + 1; xid = x; lists = lists; inline = Some (drop stream_at m) })) (header_xid m h long read);
    })
    by (judged.Reads stream_at inline head) b = subst (λ (l : ChunkLists). IsOfReads k m l stream_at inline) puts (record {
      some = b.0;
      own = new;
      needs = verdict_is ∙ b.1.0 k h.xid ∙ ap (λ (x : ℕ). by_need k (call_with (k.received.sends + 1) x lists (inline_of inline (drop stream_at m)))) (header_xid m h long read);
    })

pub verdict_open : (k : ServerState) (m : List ℕ) → word_at 4 m ≡ 1 → word_at 12 m ≢ 3 → word_at 12 m ≢ 4 → is_pending k (word_at 0 m) ≡ true → verdict k m ≡ EndsLink 20
verdict_open k m is done error new = verdict_kinds k m is done error ∙ ap (λ (b : Bool). cond b (EndsLink 20) (by_header k m (header_of m))) new

pub is_open_lem : (k : ServerState) (calls : List Pending) (xid found : ℕ) (b : Bool) → k.calls ≡ map call_view calls → found ≡ xid → list_any (λ c. eqb c.xid found) calls ≡ b → is_pending k xid ≡ b
is_open_lem k calls xid found b same is any =
    ap (λ (cs : List PendingCall). list_any (λ c. eqb c.xid xid) cs) same
    ∙ pending_view xid calls
    ∙ ap (λ (x : ℕ). list_any (λ c. eqb c.xid x) calls) (sym is)
    ∙ any

-- ---- What a verdict makes of the server

pub ends_refusal : (k : ServerState) (m : List ℕ) (reason place : ℕ) → verdict k m ≡ EndsLink reason → (by_message k place (Some m)).refusal ≡ Some reason
ends_refusal k m reason place is = ap (λ (v : Verdict). (message_effect k place m v).refusal) is

pub version_refused : (k : ServerState) (m : List ℕ) (credit place : ℕ) → verdict k m ≡ OtherVersion → credit_word k ≡ credit → by_message k place (Some m) ≡ refused_effect k (version_error (word_at 0 m) (word_at 4 m) credit)
version_refused k m credit place is same =
    ap (λ (v : Verdict). message_effect k place m v) is ∙ ap (λ (n : ℕ). refused_effect k (version_error (word_at 0 m) (word_at 4 m) n)) same

pub chunks_refused : (k : ServerState) (m : List ℕ) (credit place : ℕ) → verdict k m ≡ BadChunks → credit_word k ≡ credit → by_message k place (Some m) ≡ refused_effect k (chunk_error (word_at 0 m) credit)
chunks_refused k m credit place is same =
    ap (λ (v : Verdict). message_effect k place m v) is ∙ ap (λ (n : ℕ). refused_effect k (chunk_error (word_at 0 m) n)) same

-- a pending call without a read chunk, whose stream is no call, or one of another xid
pub no_call_refused : (k : ServerState) (m : List ℕ) (place xid at : ℕ) (write : List (List RdmaSegment)) (reply : Option (List RdmaSegment)) (stream : List ℕ) → is_read k.reads (k.received.sends + 1) ≡ true → verdict k m ≡ MakesPending (inline_call k xid write reply stream) → call_of stream ≡ Err at →
    (by_message k place (Some m)).refusal ≡ Some 18
no_call_refused k m place xid at write reply stream none is reads =
    let c : PendingCall = inline_call k xid write reply stream in
    ap (λ (s : FrameEffect). s.refusal) (inline_message_lem k place m xid write reply stream none is)
    ∙ ap (λ (r : Result CallHead ℕ). (with_verdict (by_head c stream r) (pending_effect k c)).refusal) reads

pub other_call_refused : (k : ServerState) (m : List ℕ) (place xid : ℕ) (write : List (List RdmaSegment)) (reply : Option (List RdmaSegment)) (stream : List ℕ) (head : CallHead) → is_read k.reads (k.received.sends + 1) ≡ true → verdict k m ≡ MakesPending (inline_call k xid write reply stream) → call_of stream ≡ Ok head → head_xid head ≢ xid →
    (by_message k place (Some m)).refusal ≡ Some 19
other_call_refused k m place xid write reply stream head none is reads other =
    let c : PendingCall = inline_call k xid write reply stream in
    ap (λ (s : FrameEffect). s.refusal) (inline_message_lem k place m xid write reply stream none is)
    ∙ ap (λ (r : Result CallHead ℕ). (with_verdict (by_head c stream r) (pending_effect k c)).refusal) reads
    ∙ ap (λ (b : Bool). (with_verdict (cond b (IsReady (record { number = c.number; xid = xid; payload = stream })) (Refuses 19)) (pending_effect k c)).refusal) (ne_eqb (head_xid head) xid other)

-- the lists of a call without a read list
pub plain_lists_lem : (k : ServerState) (xid : ℕ) (lists : ChunkLists) (stream : List ℕ) → lists.read ≡ [] →
    record { number = k.received.sends + 1; xid = xid; lists = lists; inline = Some stream } ≡ inline_call k xid lists.write lists.reply stream
plain_lists_lem k xid lists stream none = λ i. record { number = k.received.sends + 1; xid = xid; lists = record { read = none i; write = lists.write; reply = lists.reply }; inline = Some stream }

-- the lists and the stream of a call that is judged by its body
has_lists : (m : List ℕ) (h : Header) (lists : ChunkLists) → header_of m ≡ Ok h → lists ≡ lists_in m → ListsWithin lists → HasLists m
has_lists m h lists read puts within = record {
  read = subst IsOk (sym read) refl;
  within = subst ListsWithin puts within;
}

pub has_stream : (m : List ℕ) (h : Header) (lists : ChunkLists) (j : Judged) → header_of m ≡ Ok h → lists ≡ lists_in m → JudgesBody m h.body lists j → StreamWithin h.body (length m) → CanRead h.body (stream_after h.body m) → HasStream m j
has_stream m h lists judged.Kind read puts b within can = tt
has_stream m h lists judged.Open read puts b within can = tt
has_stream m h lists judged.OtherVersion read puts b within can = tt
has_stream m h lists judged.BadChunks read puts b within can = tt
has_stream m h lists (judged.Call stream_at) read puts b within can =
    (subst (λ (x : Body). StreamWithin x (length m)) b.0 within, has_lists m h lists read puts (subst (λ (x : Body). CanRead x (stream_after x m)) b.0 can).0)
has_stream m h lists (judged.Reads stream_at inline head) read puts b within can = by b.1.1
  where
    by : (h.body ≡ Msg lists stream_at) ⊎ ((h.body ≡ Nomsg lists) × (stream_at ≡ length m)) → (stream_at ≤ length m) × (HasLists m × (read_total (lists_in m).read ≤ PAYLOAD_MAX))
    by (inl msg) =
        let c : CanRead (Msg lists stream_at) (stream_after (Msg lists stream_at) m) = subst (λ (x : Body). CanRead x (stream_after x m)) msg can in
        let all = c.2 in
        (subst (λ (x : Body). StreamWithin x (length m)) msg within, (has_lists m h lists read puts c.0, subst (λ (l : ChunkLists). read_total l.read ≤ PAYLOAD_MAX) puts (omega (arith, all))))
    by (inr nomsg) =
        let c : CanRead (Nomsg lists) (stream_after (Nomsg lists) m) = subst (λ (x : Body). CanRead x (stream_after x m)) nomsg.0 can in
        let at = nomsg.1 in
        (omega (arith, at), (has_lists m h lists read puts c.1, subst (λ (l : ChunkLists). read_total l.read ≤ PAYLOAD_MAX) puts c.2))

-- ---- A read list that is refused

refused_stream : (k : ServerState) (lists : ChunkLists) (xid : ℕ) (o : Option (List ℕ)) → fits_stream o lists.read ≡ false → by_stream k lists xid o ≡ BadChunks
refused_stream k lists xid None is = absurd cc
refused_stream k lists xid (Some stream) is = ap (λ (b : Bool). cond b (by_need k (record { number = k.received.sends + 1; xid = xid; lists = lists; inline = Some stream })) BadChunks) is

refused_nomsg : (k : ServerState) (lists : ChunkLists) (xid : ℕ) → brings_stream lists.read ≡ false → cond (has_position lists.read) (by_stream k lists xid (no_stream lists.read)) BadChunks ≡ BadChunks
refused_nomsg k lists xid is = by (has_position lists.read) is
  where
    by : (b : Bool) → (b && fits_stream (no_stream lists.read) lists.read) ≡ false → cond b (by_stream k lists xid (no_stream lists.read)) BadChunks ≡ BadChunks
    by true e = refused_stream k lists xid (no_stream lists.read) e
    by false e = refl

-- a body by RDMA_MSG with a read list
pub msg_judged : (message : List ℕ) (lists : ChunkLists) (stream_at : ℕ) (b : Bool) (head : Option StreamHead) → lists.read ≢ [] → b ≡ is_read_chunk_of_item (drop stream_at message) lists.read → JudgesBody message (Msg lists stream_at) lists (reads_if b stream_at true head)
msg_judged message lists stream_at true head some is =
    (some, (λ k xid. ap (λ (b : Bool). cond b (by_need k (call_with (k.received.sends + 1) xid lists (Some (drop stream_at message)))) BadChunks) (sym is), inl refl))
msg_judged message lists stream_at false head some is = λ k xid. refused_stream k lists xid (Some (drop stream_at message)) (sym is)

no_position : (read : List ReadSegment) → brings_stream read ≡ true → read ≢ []
no_position read is none = (let two : false ≡ true = ap brings_stream (sym none) ∙ is in absurd cc)

-- and by RDMA_NOMSG: a stream without bytes isn't read
nothing_after : (message : List ℕ) (b : Bool) → inline_of b (drop (length message) message) ≡ cond b (Some []) None
nothing_after message true = ap (λ (xs : List ℕ). Some xs) (drop_all (length message) message (omega arith))
nothing_after message false = refl

brought : (k : ServerState) (lists : ChunkLists) (xid : ℕ) (o : Option (List ℕ)) → fits_stream o lists.read ≡ true → by_stream k lists xid o ≡ by_need k (call_with (k.received.sends + 1) xid lists o)
brought k lists xid None is = refl
brought k lists xid (Some stream) is = ap (λ (b : Bool). cond b (by_need k (call_with (k.received.sends + 1) xid lists (Some stream))) BadChunks) is

brings : (k : ServerState) (lists : ChunkLists) (xid : ℕ) → brings_stream lists.read ≡ true → cond (has_position lists.read) (by_stream k lists xid (no_stream lists.read)) BadChunks ≡ by_need k (call_with (k.received.sends + 1) xid lists (no_stream lists.read))
brings k lists xid is = by (has_position lists.read) is
  where
    by : (b : Bool) → (b && fits_stream (no_stream lists.read) lists.read) ≡ true → cond b (by_stream k lists xid (no_stream lists.read)) BadChunks ≡ by_need k (call_with (k.received.sends + 1) xid lists (no_stream lists.read))
    by true e = brought k lists xid (no_stream lists.read) e
    by false e = absurd cc

pub nomsg_judged : (message : List ℕ) (lists : ChunkLists) (b : Bool) (total : ℕ) (head : Option StreamHead) → b ≡ brings_stream lists.read → total ≡ total_at 0 lists.read → JudgesBody message (Nomsg lists) lists (reads_if b (length message) (eqb total 0) head)
nomsg_judged message lists true total head is empty = (no_position lists.read (sym is), (λ k xid. brings k lists xid (sym is) ∙ ap (λ (o : Option (List ℕ)). by_need k (call_with (k.received.sends + 1) xid lists o)) (sym (nothing_after message (eqb total 0) ∙ ap (λ (n : ℕ). cond (eqb n 0) (Some []) None) empty)), inr (refl, refl)))
nomsg_judged message lists false total head is empty = λ k xid. refused_nomsg k lists xid (sym is)
