-- A message that makes a call pending: what its header is, and what the call has of it.
use Rattle.std.proofs.Common.{◌≡◌, ℕ, ◌+◌, ◌≤◌, Bool, true, false, cond, not, ◌||◌, eqb, ltb, List, length, drop, Option, Some, None, IfSome, Result, Ok, Err, refl, sym, subst}
use Rattle.std.proofs.lemmas.Bool.{ltb-false}
use Rattle.nr_xdr.specs.Fields.{word_at}
use Rattle.nr_header.specs.declared.fault.HeaderFault.{HeaderFault}
use Rattle.nr_header.specs.declared.header.ChunkLists.{ChunkLists}
use Rattle.nr_header.specs.declared.header.Body.{Body}
use Rattle.nr_header.specs.declared.header.Body.TheVariants.{Msg, Nomsg, ErrVers, ErrChunk}
use Rattle.nr_header.specs.declared.header.Header.{Header}
use Rattle.nr_header.specs.Reading.{header_of}
use Rattle.nr_reduce.specs.Chunks.{is_read_chunk_of_item}
use Rattle.nr_reduce.specs.RunLaws.{known_stream}
use Rattle.nr_reduce.specs.ChunkBytes.{lists_by}
use Rattle.nr_reduce.specs.ServerState.{PendingCall, ServerState, next_stag, is_pending}
use Rattle.nr_reduce.specs.ServerReads.{chunks_of}
use Rattle.nr_reduce.specs.ServerMessages.{verdict, by_header, by_body, by_stream, by_need, has_position, no_stream}
use Rattle.nr_reduce.specs.ServerMessages.Verdict.{EndsLink, OtherVersion, BadChunks, MakesPending}
use Rattle.nr_reduce.proofs.Opens.{IsCall}

-- the call suits its read list, if its stream is in the message
abbrev pub Suits : PendingCall → Type 0
Suits c = IfSome c.inline (λ stream. is_read_chunk_of_item stream c.lists.read ≡ true)

abbrev new_call : ServerState → ℕ → ChunkLists → Option (List ℕ) → PendingCall
new_call k xid lists stream = record { number = k.received.sends + 1; xid = xid; lists = lists; inline = stream }

record IsNewCall (k : ServerState) (d c : PendingCall) : Type 0 where
  is : c ≡ d
  few : next_stag k + length (chunks_of c.lists) ≤ 4294967296

need_made : (k : ServerState) (d c : PendingCall) → by_need k d ≡ MakesPending c → IsNewCall k d c
need_made k d c e = by (ltb 4294967296 (next_stag k + length (chunks_of d.lists))) refl e
  where
    same : (d c : PendingCall) → MakesPending d ≡ MakesPending c → c ≡ d
    same d c e = cc

    by : (b : Bool) → ltb 4294967296 (next_stag k + length (chunks_of d.lists)) ≡ b → cond b (EndsLink 30) (MakesPending d) ≡ MakesPending c → IsNewCall k d c
    by true is e = absurd cc
    by false is e =
        let own = same d c e in
        record { is = own; few = subst (λ (x : PendingCall). next_stag k + length (chunks_of x.lists) ≤ 4294967296) (sym own) (ltb-false 4294967296 (next_stag k + length (chunks_of d.lists)) is) }

record OfStream (k : ServerState) (d c : PendingCall) : Type 0 where
  own : IsNewCall k d c
  suits : Suits c

stream_made : (k : ServerState) (lists : ChunkLists) (xid : ℕ) (stream : Option (List ℕ)) (c : PendingCall) → by_stream k lists xid stream ≡ MakesPending c → OfStream k (new_call k xid lists stream) c
stream_made k lists xid None c e = (let n = need_made k (new_call k xid lists None) c e in record { own = n; suits = subst Suits (sym n.is) tt })
stream_made k lists xid (Some stream) c e = by (is_read_chunk_of_item stream lists.read) refl e
  where
    by : (b : Bool) → is_read_chunk_of_item stream lists.read ≡ b → cond b (by_need k (new_call k xid lists (Some stream))) BadChunks ≡ MakesPending c → OfStream k (new_call k xid lists (Some stream)) c
    by true is e = (let n = need_made k (new_call k xid lists (Some stream)) c e in record { own = n; suits = subst Suits (sym n.is) is })
    by false is e = absurd cc

record OfBody (k : ServerState) (xid : ℕ) (message : List ℕ) (body : Body) (c : PendingCall) : Type 0 where
  is_call : IsCall body
  made : OfStream k (new_call k xid (lists_by body) (known_stream message body)) c

body_made : (k : ServerState) (xid : ℕ) (message : List ℕ) (body : Body) (c : PendingCall) → by_body k xid message body ≡ MakesPending c → OfBody k xid message body c
body_made k xid message (Msg lists at) c e = record { is_call = tt; made = stream_made k lists xid (Some (drop at message)) c e }
body_made k xid message (Nomsg lists) c e = by (has_position lists.read) e
  where
    by : (b : Bool) → cond b (by_stream k lists xid (no_stream lists.read)) BadChunks ≡ MakesPending c → OfBody k xid message (Nomsg lists) c
    by true e = record { is_call = tt; made = stream_made k lists xid (no_stream lists.read) c e }
    by false e = absurd cc
body_made k xid message (ErrVers version low high) c e = absurd cc
body_made k xid message (ErrChunk version) c e = absurd cc

pub record MadePending (k : ServerState) (message : List ℕ) (c : PendingCall) : Type 0 where
  pub version : not (eqb (word_at 4 message) 1) ≡ false
  pub kind : (eqb (word_at 12 message) 3 || eqb (word_at 12 message) 4) ≡ false
  pub free : is_pending k (word_at 0 message) ≡ false
  pub header : Header
  pub is_header : header_of message ≡ Ok header
  pub is_call : IsCall header.body
  pub is : c ≡ record { number = k.received.sends + 1; xid = header.xid; lists = lists_by header.body; inline = known_stream message header.body }
  pub few : next_stag k + length (chunks_of c.lists) ≤ 4294967296
  pub suits : Suits c

pub made_pending : (k : ServerState) (message : List ℕ) (c : PendingCall) → verdict k message ≡ MakesPending c → MadePending k message c
unfolding verdict
made_pending k message c e = by (not (eqb (word_at 4 message) 1)) refl (eqb (word_at 12 message) 3 || eqb (word_at 12 message) 4) refl (is_pending k (word_at 0 message)) refl (header_of message) refl e
  where
    by : (other : Bool) → not (eqb (word_at 4 message) 1) ≡ other → (kind : Bool) → (eqb (word_at 12 message) 3 || eqb (word_at 12 message) 4) ≡ kind → (again : Bool) → is_pending k (word_at 0 message) ≡ again
        → (r : Result Header HeaderFault) → header_of message ≡ r → cond other OtherVersion (cond kind (EndsLink 17) (cond again (EndsLink 20) (by_header k message r))) ≡ MakesPending c → MadePending k message c
    by true v kind o again p r h e = absurd cc
    by false v true o again p r h e = absurd cc
    by false v false o true p r h e = absurd cc
    by false v false o false p (Err fault) h e = absurd cc
    by false v false o false p (Ok header) h e =
        let b = body_made k header.xid message header.body c e in
        record { version = v; kind = o; free = p; header = header; is_header = h; is_call = b.is_call; is = b.made.own.is; few = b.made.own.few; suits = b.made.suits }
