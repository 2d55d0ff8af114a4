-- An answer brings a reply, or nothing: its kind is that of a message with a stream, in it or in chunks.
use Rattle.std.proofs.Common.{◌≡◌, ℕ, ◌<◌, Bool, true, false, cond, eqb, ltb, List, [], ◌++◌, length, drop, Option, None, Some, Result, Ok, Err, sym, ap, subst, ◌∙◌, arith, append_assoc}
use Rattle.nr_xdr.specs.Item.{word}
use Rattle.nr_xdr.specs.Fields.{word_at}
use Rattle.nr_xdr.specs.Reading.{Cursor}
use Rattle.nr_header.specs.declared.header.ChunkLists.{ChunkLists}
use Rattle.nr_header.specs.declared.header.Body.{Body}
use Rattle.nr_header.specs.declared.header.Body.TheVariants.{Msg, Nomsg, ErrVers, ErrChunk}
use Rattle.nr_header.specs.declared.header.Header.{Header}
use Rattle.nr_header.specs.declared.fault.HeaderFault.{HeaderFault}
use Rattle.nr_header.specs.declared.fault.HeaderFault.TheVariants as faults
use Rattle.nr_header.specs.Header.{header_encoding, lists_items}
use Rattle.nr_xdr.specs.Items.{encodings}
use Rattle.nr_header.specs.Reading.{header_of, header_by, body_by, error_by, version1_of, in_lists, msg_at, nomsg_at, lists_at, sums_pass, msg_body, nomsg_body}
use Rattle.nr_rpc.specs.declared.head.ReplyHead.{ReplyHead}
use Rattle.nr_rpc.specs.Reading.{reply_of}
use Rattle.nr_reduce.specs.declared.call.Outcome.{Outcome}
use Rattle.nr_reduce.specs.declared.call.Outcome.TheVariants as outcomes
use Rattle.nr_reduce.specs.ClientState.{ClientState, OutstandingCall, client_memory_at}
use Rattle.nr_reduce.specs.Plans.{lists_of}
use Rattle.nr_reduce.specs.Chunks.{answers_offer, reply_conveyed}
use Rattle.nr_reduce.specs.ClientMessages.{ReplyVerdict, reply_verdict, reply_by_body, by_lists, reply_by_payload, reply_by_head, reply_xid}
use Rattle.nr_reduce.specs.ClientMessages.ReplyVerdict.{EndsLink, GivesOutcome}
use Rattle.nr_reduce.specs.Holds.{Answer, answer_message, answer_body, answer_lists}
use Rattle.nr_laws.proofs.DoneCalls.{gives_by}
use Rattle.nr_laws.proofs.Replied.{word_behind_lem, kind_word, same_body_lem}
use Rattle.nr_laws.proofs.HeaderXid.{first_word_lem}

-- ---- A message with a stream, or one in a chunk

pub data IsStreamBody : Body → Type 0 where
  Inline : (lists : ChunkLists) (at : ℕ) → IsStreamBody (Msg lists at)
  Long : (lists : ChunkLists) → IsStreamBody (Nomsg lists)

pub data IsPlainKind (n : ℕ) : Type 0 where
  OfMsg : n ≡ 0 → IsPlainKind n
  OfNomsg : n ≡ 1 → IsPlainKind n

quad : (a b c d r s : List ℕ) → (a ++ (b ++ (c ++ (d ++ r)))) ++ s ≡ a ++ (b ++ (c ++ (d ++ (r ++ s))))
quad a b c d r s =
    append_assoc a (b ++ (c ++ (d ++ r))) s
    ∙ ap (λ (x : List ℕ). a ++ x) (append_assoc b (c ++ (d ++ r)) s ∙ ap (λ (x : List ℕ). b ++ x) (append_assoc c (d ++ r) s ∙ ap (λ (x : List ℕ). c ++ x) (append_assoc d r s)))

pub record IsServerMessage (m : List ℕ) : Type 0 where
  pub version : word_at 4 m ≡ 1
  pub kind : IsPlainKind (word_at 12 m)

words : (a c d : ℕ) (r s : List ℕ) → d < 4294967296 → (word_at 4 ((word a ++ (word 1 ++ (word c ++ (word d ++ r)))) ++ s) ≡ 1) × (word_at 12 ((word a ++ (word 1 ++ (word c ++ (word d ++ r)))) ++ s) ≡ d)
words a c d r s fits =
    let e = quad (word a) (word 1) (word c) (word d) r s in (
      ap (λ (x : List ℕ). word_at 4 x) e ∙ word_behind_lem a 4 0 (word 1 ++ (word c ++ (word d ++ (r ++ s)))) (omega arith) ∙ first_word_lem 1 (word c ++ (word d ++ (r ++ s))) (omega arith),
      ap (λ (x : List ℕ). word_at 12 x) e ∙ kind_word a 1 c d (r ++ s) fits,
    )

pub is_server_message : (xid credit : ℕ) (b : Body) (s : List ℕ) → IsStreamBody b → IsServerMessage (header_encoding (record { xid = xid; credit = credit; body = b }) ++ s)
is_server_message xid credit (Msg lists at) s (Inline l a) = (let w = words xid credit 0 (encodings (lists_items lists)) s (omega arith) in record { version = w.0; kind = OfMsg w.1 })
is_server_message xid credit (Nomsg lists) s (Long l) = (let w = words xid credit 1 (encodings (lists_items lists)) s (omega arith) in record { version = w.0; kind = OfNomsg w.1 })
is_server_message xid credit (ErrVers version low high) s w = elim w [ ]
is_server_message xid credit (ErrChunk version) s w = elim w [ ]

answer_stream : (offer : ChunkLists) (a : Answer) → IsStreamBody (answer_body offer a)
answer_stream offer a = by a.long
  where
    by : (b : Bool) → IsStreamBody (cond b (Nomsg (answer_lists offer a)) (Msg (answer_lists offer a) 0))
    by true = Long (answer_lists offer a)
    by false = Inline (answer_lists offer a) 0

pub answer_is_server_message : (xid credit : ℕ) (offer : ChunkLists) (a : Answer) → IsServerMessage (answer_message xid credit offer a)
unfolding answer_message
answer_is_server_message xid credit offer a = is_server_message xid credit (answer_body offer a) (cond a.long [] a.stream) (answer_stream offer a)

-- ---- Its header

header_body : (x credit : ℕ) (r : Result Body HeaderFault) (h : Header) → header_by x credit r ≡ Ok h → r ≡ Ok h.body
header_body x credit (Ok b) h e = ap (λ (y : Body). Ok y) (same_body_lem x credit b h e)
header_body x credit (Err fault) h e = absurd cc

msg_is_lem : (c : Cursor) (b : Body) → in_lists (msg_at c) ≡ Ok b → IsStreamBody b
unfolding msg_at
msg_is_lem c b e = by (lists_at false c) e
  where
    sums : (l : ChunkLists) (at : ℕ) (d : Bool) → in_lists (cond d (Err at) (Ok (Msg l at))) ≡ Ok b → IsStreamBody b
    sums l at true e = absurd cc
    sums l at false e = subst IsStreamBody (let s : ◌≡◌ {A = Result Body HeaderFault} (Ok (Msg l at)) (Ok b) = e in cc) (Inline l at)

    by : (r : Result (ChunkLists × Cursor) ℕ) → in_lists (Rattle.nr_xdr.specs.Sequencing.◌>>=◌ r (λ lists. msg_body lists.0 lists.1.place (length lists.1.rest))) ≡ Ok b → IsStreamBody b
    by (Ok l) e = sums l.0 l.1.place (sums_pass l.0 (length l.1.rest)) e
    by (Err at) e = absurd cc

nomsg_is_lem : (c : Cursor) (b : Body) → in_lists (nomsg_at c) ≡ Ok b → IsStreamBody b
unfolding nomsg_at
nomsg_is_lem c b e = by (lists_at true c) e
  where
    sums : (l : ChunkLists) (at : ℕ) (d : Bool) → in_lists (cond d (Err at) (Ok (Nomsg l))) ≡ Ok b → IsStreamBody b
    sums l at true e = absurd cc
    sums l at false e = subst IsStreamBody (let s : ◌≡◌ {A = Result Body HeaderFault} (Ok (Nomsg l)) (Ok b) = e in cc) (Long l)

    by : (r : Result (ChunkLists × Cursor) ℕ) → in_lists (Rattle.nr_xdr.specs.Sequencing.◌>>=◌ r (λ lists. nomsg_body lists.0 lists.1.place (length lists.1.rest))) ≡ Ok b → IsStreamBody b
    by (Ok l) e = sums l.0 l.1.place (Rattle.std.proofs.Common.◌||◌ (sums_pass l.0 0) (ltb 0 (length l.1.rest))) e
    by (Err at) e = absurd cc

version1_is_lem : (kind : ℕ) (m : List ℕ) (b : Body) → IsPlainKind kind → version1_of kind m ≡ Ok b → IsStreamBody b
unfolding version1_of
version1_is_lem kind m b (OfMsg is) e = msg_is_lem (record { place = 16; rest = drop 16 m }) b (ap (λ (k : ℕ). version1_of k m) (sym is) ∙ e)
version1_is_lem kind m b (OfNomsg is) e = nomsg_is_lem (record { place = 16; rest = drop 16 m }) b (ap (λ (k : ℕ). version1_of k m) (sym is) ∙ e)

no_error_lem : (kind : ℕ) (m : List ℕ) → IsPlainKind kind → error_by kind m ≡ None
no_error_lem kind m (OfMsg is) = ap (λ (k : ℕ). error_by k m) is
no_error_lem kind m (OfNomsg is) = ap (λ (k : ℕ). error_by k m) is

pub plain_header : (m : List ℕ) (h : Header) → IsPlainKind (word_at 12 m) → header_of m ≡ Ok h → IsStreamBody h.body
unfolding header_of body_by
plain_header m h kind is = by (ltb (length m) 16) is
  where
    by_version : (b : Bool) → cond b (version1_of (word_at 12 m) m) (Err (faults.Version (word_at 4 m))) ≡ Ok h.body → IsStreamBody h.body
    by_version true e = version1_is_lem (word_at 12 m) m h.body kind e
    by_version false e = absurd cc

    by : (b : Bool) → cond b (Err faults.Short) (header_by (word_at 0 m) (word_at 8 m) (body_by (error_by (word_at 12 m) m) (word_at 4 m) (word_at 12 m) m)) ≡ Ok h → IsStreamBody h.body
    by true e = absurd cc
    by false e = by_version (eqb (word_at 4 m) 1)
        (ap (λ (o : Option Body). body_by o (word_at 4 m) (word_at 12 m) m) (sym (no_error_lem (word_at 12 m) m kind))
        ∙ header_body (word_at 0 m) (word_at 8 m) (body_by (error_by (word_at 12 m) m) (word_at 4 m) (word_at 12 m) m) h e)

-- ---- What it brings

pub data IsReply : Outcome → Type 0 where
  AReply : (p : List ℕ) → IsReply (outcomes.Reply p)

lists_reply : (k : ClientState) (place : ℕ) (o : OutstandingCall) (inline : Option (List ℕ)) (lists : ChunkLists) (b : Bool) (xid : ℕ) (outcome : Outcome) → by_lists k place o inline lists b ≡ GivesOutcome xid (Some outcome) → IsReply outcome
lists_reply k place o inline lists false xid outcome e = absurd cc
lists_reply k place o inline lists true xid outcome e = by o.is_revoked e
  where
    same : (p : List ℕ) (x : ℕ) → GivesOutcome x (Some (outcomes.Reply p)) ≡ GivesOutcome xid (Some outcome) → IsReply outcome
    same p x e = subst IsReply (let s : ◌≡◌ {A = ReplyVerdict} (GivesOutcome x (Some (outcomes.Reply p))) (GivesOutcome xid (Some outcome)) = e in cc) (AReply p)

    by_reply : (p : List ℕ) (r : Result ReplyHead ℕ) → reply_by_head o.xid p r ≡ GivesOutcome xid (Some outcome) → IsReply outcome
    by_reply p (Ok head) e = by_eq (eqb (reply_xid head) o.xid) e
      where
        by_eq : (b : Bool) → cond b (GivesOutcome o.xid (Some (outcomes.Reply p))) (EndsLink Rattle.nr_link.specs.Reasons.REASON_XID) ≡ GivesOutcome xid (Some outcome) → IsReply outcome
        by_eq true e = same p o.xid e
        by_eq false e = absurd cc
    by_reply p (Err at) e = absurd cc

    by_out : (r : Option (List ℕ)) → reply_by_payload o.xid r ≡ GivesOutcome xid (Some outcome) → IsReply outcome
    by_out None e = absurd cc
    by_out (Some p) e = by_reply p (reply_of p) e

    by : (b : Bool) → cond b (GivesOutcome o.xid None) (reply_by_payload o.xid (reply_conveyed o.call.prog o.call.vers o.call.proc inline lists (client_memory_at k place))) ≡ GivesOutcome xid (Some outcome) → IsReply outcome
    by true e = absurd cc
    by false e = by_out (reply_conveyed o.call.prog o.call.vers o.call.proc inline lists (client_memory_at k place)) e

-- such a message brings a reply, or nothing
pub plain_reply_lem : (k : ClientState) (place : ℕ) (m : List ℕ) (xid : ℕ) (outcome : Outcome) → IsPlainKind (word_at 12 m) → reply_verdict k place m ≡ GivesOutcome xid (Some outcome) → IsReply outcome
plain_reply_lem k place m xid outcome kind e =
    let g = gives_by k place m xid (Some outcome) e in
    by g.call g.header.body (plain_header m g.header kind g.is_header) g.by_its_body
  where
    by : (o : OutstandingCall) (b : Body) → IsStreamBody b → reply_by_body k place o m b ≡ GivesOutcome xid (Some outcome) → IsReply outcome
    by o (Msg lists at) (Inline l a) e = lists_reply k place o (Some (drop at m)) lists (answers_offer false (lists_of o.stag o.plan) lists) xid outcome e
    by o (Nomsg lists) (Long l) e = lists_reply k place o None lists (answers_offer true (lists_of o.stag o.plan) lists) xid outcome e
    by o (ErrVers version low high) w e = elim w [ ]
    by o (ErrChunk version) w e = elim w [ ]
