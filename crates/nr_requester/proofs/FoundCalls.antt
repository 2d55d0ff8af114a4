-- The call of an xid among the outstanding ones.
use Rattle.std.proofs.Common.{◌≡◌, ℕ, Bool, true, false, cond, ◌&&◌, eqb, List, [], ◌∷◌, map, Option, None, Some, Result, Ok, Err, refl, sym, ap, subst, ◌∙◌}
use Rattle.std.specs.Prelude.{is_some, is_none}
use Rattle.std.specs.List.{AllByRecursion, find}
use Rattle.std.proofs.lemmas.Bool.{eqb-true}
use Rattle.nr_xdr.specs.Fields.{word_at}
use Rattle.nr_header.specs.declared.fault.HeaderFault.{HeaderFault}
use Rattle.nr_header.specs.declared.fault.HeaderFault.TheVariants as faults
use Rattle.nr_header.specs.declared.header.ChunkLists.{ChunkLists}
use Rattle.nr_header.specs.declared.header.Body.{Body}
use Rattle.nr_header.specs.declared.header.Body.TheVariants.{Msg, Nomsg, ErrVers, ErrChunk}
use Rattle.nr_header.specs.declared.header.Header.{Header}
use Rattle.nr_header.specs.Reading.{header_of, header_by, body_by, error_by}
use Rattle.nr_link.specs.Reasons.{REASON_XID, REASON_INVALIDATED}
use Rattle.nr_rpc.specs.declared.head.ReplyHead.{ReplyHead}
use Rattle.nr_rpc.specs.Reading.{reply_of}
use Rattle.nr_reduce.specs.declared.call.Call.{Call}
use Rattle.nr_reduce.specs.declared.call.Outcome.{Outcome}
use Rattle.nr_reduce.specs.declared.call.Outcome.TheVariants as outcomes
use Rattle.nr_reduce.specs.Plans.{buffers}
use Rattle.nr_reduce.specs.Chunks.{Bytes, answers_offer, reply_conveyed}
use Rattle.nr_reduce.specs.ClientState.{ClientState, OutstandingCall}
use Rattle.nr_reduce.specs.ClientMessages.{ReplyVerdict, reply_xid, reply_by_head, reply_by_payload}
use Rattle.nr_reduce.specs.ClientMessages.ReplyVerdict.{EndsLink, GivesOutcome}
use Rattle.nr_reduce.specs.KeptCalls.{KeptCall, IsKeptCall, AreKept, stags_unless, kept_payload, kept_lists, kept_body, kept_call as by_kept_call, kept_by, kept_header, kept_verdict, kept_invalidates_another, kept_message_verdict}
use Rattle.nr_requester.specs.RequesterState.{StoredCall, stags_of, kept_call}
use Rattle.nr_requester.specs.CallRegions.{call_stags, OffersPlan}
use Rattle.nr_requester.specs.AfterPiece.{call_of}

abbrev or_call : StoredCall → Option StoredCall → StoredCall
or_call c None = c
or_call c (Some d) = d

some_same : (d c : StoredCall) → Some d ≡ Some c → d ≡ c
some_same d c e = ap (or_call d) e

-- the call that is found
pub found_one : (P : StoredCall → Type 0) (xid : ℕ) (c : StoredCall) (cs : List StoredCall) → AllByRecursion P cs → find (λ d. eqb d.xid xid) cs ≡ Some c → P c
found_one P xid c [] h there = absurd (let wrong : None ≡ Some c = there in cc)
found_one P xid c (d ∷ cs) h there = by (eqb d.xid xid) (λ e. found_one P xid c cs h.1 e) there
  where
    by : (b : Bool) → (find (λ d. eqb d.xid xid) cs ≡ Some c → P c) → cond b (Some d) (find (λ d. eqb d.xid xid) cs) ≡ Some c → P c
    by true rest e = subst P (some_same d c e) h.0
    by false rest e = rest e

pub found_xid : (xid : ℕ) (c : StoredCall) (cs : List StoredCall) → find (λ d. eqb d.xid xid) cs ≡ Some c → c.xid ≡ xid
found_xid xid c [] there = absurd (let wrong : None ≡ Some c = there in cc)
found_xid xid c (d ∷ cs) there = by (eqb d.xid xid) refl (λ e. found_xid xid c cs e) there
  where
    by : (b : Bool) → eqb d.xid xid ≡ b → (find (λ d. eqb d.xid xid) cs ≡ Some c → c.xid ≡ xid) → cond b (Some d) (find (λ d. eqb d.xid xid) cs) ≡ Some c → c.xid ≡ xid
    by true is rest e = ap (λ (x : StoredCall). x.xid) (sym (some_same d c e)) ∙ eqb-true d.xid xid is
    by false is rest e = rest e

not_revoked : (x : Option Call) → is_some x ≡ true → is_none x ≡ false
not_revoked None e = absurd cc
not_revoked (Some call) e = refl

-- the STags that are kept of a call
pub stags_in_state : (k : ClientState) (next sent xid : ℕ) (c : StoredCall) (cs : List StoredCall) (os : List OutstandingCall) → AllByRecursion (OffersPlan next k.regions) os → AreKept k (map (kept_call sent) cs) os →
    find (λ d. eqb d.xid xid) cs ≡ Some c → is_some c.call ≡ true → stags_of c.claims ≡ call_stags xid k.regions
stags_in_state k next sent xid c [] os offers kept there has = absurd (let wrong : None ≡ Some c = there in cc)
stags_in_state k next sent xid c (d ∷ cs) [] offers kept there has = absurd kept
stags_in_state k next sent xid c (d ∷ cs) (o ∷ os) offers kept there has = by (eqb d.xid xid) refl (λ e. stags_in_state k next sent xid c cs os offers.1 kept.1 e has) there
  where
    is : IsKeptCall k (kept_call sent d) o
    is = kept.0

    by : (b : Bool) → eqb d.xid xid ≡ b → (find (λ d. eqb d.xid xid) cs ≡ Some c → stags_of c.claims ≡ call_stags xid k.regions) → cond b (Some d) (find (λ d. eqb d.xid xid) cs) ≡ Some c → stags_of c.claims ≡ call_stags xid k.regions
    by false e rest found = rest found
    by true e rest found =
        let same : d ≡ c = some_same d c found in
        let live : o.is_revoked ≡ false = sym is.revoked ∙ not_revoked d.call (ap (λ (x : StoredCall). is_some x.call) same ∙ has) in
        let own : o.xid ≡ xid = sym is.xid ∙ eqb-true d.xid xid e in
        ap (λ (x : StoredCall). stags_of x.claims) (sym same)
        ∙ is.stags
        ∙ ap (λ (b : Bool). stags_unless b (buffers o.stag o.plan)) live
        ∙ sym offers.0.1
        ∙ ap (λ (x : ℕ). call_stags x k.regions) own

-- ---- The xid of a message

header_by_lem : (xid credit : ℕ) (r : Result Body HeaderFault) (h : Header) → header_by xid credit r ≡ Ok h → xid ≡ h.xid
header_by_lem xid credit (Ok body) h e = (let s : ◌≡◌ {A = Result Header HeaderFault} (Ok (record { xid = xid; credit = credit; body = body })) (Ok h) = e in cc)
header_by_lem xid credit (Err fault) h e = absurd cc

pub header_xid : (message : List ℕ) (h : Header) → header_of message ≡ Ok h → h.xid ≡ word_at 0 message
unfolding header_of
header_xid message h e = by _ (body_by (error_by (word_at 12 message) message) (word_at 4 message) (word_at 12 message) message) e
  where
    by : (b : Bool) (r : Result Body HeaderFault) → cond b (Err faults.Short) (header_by (word_at 0 message) (word_at 8 message) r) ≡ Ok h → h.xid ≡ word_at 0 message
    by true r e = absurd cc
    by false r e = sym (header_by_lem (word_at 0 message) (word_at 8 message) r h e)

-- ---- A verdict that gives an outcome is on an outstanding call

pub record IsOfCall (calls : List StoredCall) (message : List ℕ) (xid : ℕ) : Type 0 where
  pub call : StoredCall
  pub own : xid ≡ word_at 0 message
  pub found : call_of (word_at 0 message) calls ≡ Some call

record FindsCall (calls : List StoredCall) (xid : ℕ) (c : KeptCall) : Type 0 where
  call : StoredCall
  own : c.xid ≡ xid
  found : call_of xid calls ≡ Some call

abbrev or_kept : KeptCall → Option KeptCall → KeptCall
or_kept c None = c
or_kept c (Some d) = d

finds_call : (sent : ℕ) (calls : List StoredCall) (xid : ℕ) (c : KeptCall) → kept_by (map (kept_call sent) calls) xid ≡ Some c → FindsCall calls xid c
finds_call sent [] xid c e = absurd (let wrong : None ≡ Some c = e in cc)
finds_call sent (d ∷ calls) xid c e = by (eqb d.xid xid) refl (kept_call sent d).is_sent (λ g. finds_call sent calls xid c g) e
  where
    by : (b : Bool) → eqb d.xid xid ≡ b → (sent_one : Bool) → (kept_by (map (kept_call sent) calls) xid ≡ Some c → FindsCall calls xid c) →
        cond (b && sent_one) (Some (kept_call sent d)) (kept_by (map (kept_call sent) calls) xid) ≡ Some c → FindsCall (d ∷ calls) xid c
    by true is true rest g =
        let same : kept_call sent d ≡ c = ap (λ (o : Option KeptCall). or_kept (kept_call sent d) o) g in
        record { call = d; own = ap (λ (x : KeptCall). x.xid) (sym same) ∙ eqb-true d.xid xid is; found = ap (λ (x : Bool). cond x (Some d) (call_of xid calls)) is }
    by true is false rest g = (let f = rest g in record { call = d; own = f.own; found = ap (λ (x : Bool). cond x (Some d) (call_of xid calls)) is })
    by false is s rest g = (let f = rest g in record { call = f.call; own = f.own; found = ap (λ (x : Bool). cond x (Some d) (call_of xid calls)) is ∙ f.found })

abbrev verdict_xid : ReplyVerdict → ℕ → ℕ
verdict_xid (EndsLink reason) d = d
verdict_xid (GivesOutcome xid outcome) d = xid

abbrev Gives : ReplyVerdict → ℕ → Type 0
Gives v x = (xid : ℕ) (outcome : Option Outcome) → v ≡ GivesOutcome xid outcome → xid ≡ x

gives_itself : (x : ℕ) (outcome : Option Outcome) → Gives (GivesOutcome x outcome) x
gives_itself x o xid outcome e = sym (ap (λ (v : ReplyVerdict). verdict_xid v x) e)

ends_gives : (reason x : ℕ) → Gives (EndsLink reason) x
ends_gives reason x xid outcome e = absurd cc

head_gives : (x : ℕ) (payload : List ℕ) (r : Result ReplyHead ℕ) → Gives (reply_by_head x payload r) x
head_gives x payload (Ok head) = by (eqb (reply_xid head) x)
  where
    by : (b : Bool) → Gives (cond b (GivesOutcome x (Some (outcomes.Reply payload))) (EndsLink REASON_XID)) x
    by true = gives_itself x (Some (outcomes.Reply payload))
    by false = ends_gives REASON_XID x
head_gives x payload (Err at) = ends_gives _ x

payload_gives : (x : ℕ) (p : Option (List ℕ)) → Gives (reply_by_payload x p) x
payload_gives x None = ends_gives _ x
payload_gives x (Some payload) = head_gives x payload (reply_of payload)

call_gives : (x : ℕ) (call : Option Call) (inline : Option (List ℕ)) (lists : ChunkLists) (memory : Bytes) → Gives (kept_payload x call inline lists memory) x
call_gives x None inline lists memory = gives_itself x None
call_gives x (Some call) inline lists memory = payload_gives x (reply_conveyed call.prog call.vers call.proc inline lists memory)

lists_give : (c : KeptCall) (inline : Option (List ℕ)) (lists : ChunkLists) (memory : Bytes) (b : Bool) → Gives (kept_lists c inline lists memory b) c.xid
lists_give c inline lists memory false = ends_gives _ c.xid
lists_give c inline lists memory true = call_gives c.xid c.call inline lists memory

body_gives : (c : KeptCall) (memory : Bytes) (message : List ℕ) (body : Body) → Gives (kept_body c memory message body) c.xid
body_gives c memory message (Msg lists stream_at) = lists_give c (Some _) lists memory (answers_offer false c.offered lists)
body_gives c memory message (Nomsg lists) = lists_give c None lists memory (answers_offer true c.offered lists)
body_gives c memory message (ErrVers version low high) = gives_itself c.xid (Some (outcomes.Version low high))
body_gives c memory message (ErrChunk version) = gives_itself c.xid (Some outcomes.Chunk)

pub verdict_call : (sent : ℕ) (calls : List StoredCall) (memory : Bytes) (message : List ℕ) (xid : ℕ) (outcome : Option Outcome) → kept_verdict (map (kept_call sent) calls) memory message ≡ GivesOutcome xid outcome → IsOfCall calls message xid
unfolding kept_verdict
verdict_call sent calls memory message xid outcome e = by (header_of message) refl e
  where
    by_found : (h : Header) → header_of message ≡ Ok h → (o : Option KeptCall) → kept_by (map (kept_call sent) calls) h.xid ≡ o → by_kept_call memory message h.body o ≡ GivesOutcome xid outcome → IsOfCall calls message xid
    by_found h is None f e = absurd cc
    by_found h is (Some c) f e =
        let own : h.xid ≡ word_at 0 message = header_xid message h is in
        let g : FindsCall calls h.xid c = finds_call sent calls h.xid c f in
        record {
          call = g.call;
          own = body_gives c memory message h.body xid outcome e ∙ g.own ∙ own;
          found = ap (λ (x : ℕ). call_of x calls) (sym own) ∙ g.found;
        }

    by : (r : Result Header HeaderFault) → header_of message ≡ r → kept_header (map (kept_call sent) calls) memory message r ≡ GivesOutcome xid outcome → IsOfCall calls message xid
    by (Ok h) is e = by_found h is (kept_by (map (kept_call sent) calls) h.xid) refl e
    by (Err faults.Short) is e = absurd cc
    by (Err (faults.Version version)) is e = absurd cc
    by (Err (faults.Kind kind)) is e = absurd cc
    by (Err (faults.BadChunks at)) is e = absurd cc

-- a message that gives an outcome names no STag of another call
pub named_fine : (calls : List KeptCall) (memory : Bytes) (named : Option ℕ) (message : List ℕ) (xid : ℕ) (outcome : Option Outcome) → kept_message_verdict calls memory named message ≡ GivesOutcome xid outcome → kept_verdict calls memory message ≡ GivesOutcome xid outcome
unfolding kept_message_verdict
named_fine calls memory named message xid outcome e = by (kept_invalidates_another calls named message) e
  where
    by : (b : Bool) → cond b (EndsLink REASON_INVALIDATED) (kept_verdict calls memory message) ≡ GivesOutcome xid outcome → kept_verdict calls memory message ≡ GivesOutcome xid outcome
    by true e = absurd cc
    by false e = e
