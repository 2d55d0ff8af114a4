-- A message is judged by what a client keeps as by what the client of a run knows.
use Rattle.std.proofs.Common.{◌≡◌, ℕ, ◌+◌, ◌≤◌, Bool, true, false, cond, not, ◌&&◌, ◌||◌, eqb, leb, List, [], ◌∷◌, ◌++◌, length, take, drop, map, inl, inr, Option, None, Some, Result, Ok, Err, refl, sym, ap, subst, ◌∙◌}
use Rattle.std.specs.Prelude.{is_none, IfSome}
use Rattle.std.proofs.lemmas.Bool.{eqb-true}
use Rattle.std.specs.List.{AllByRecursion, find, list_any}
use Rattle.nr_header.specs.declared.fault.HeaderFault.{HeaderFault}
use Rattle.nr_header.specs.declared.fault.HeaderFault.TheVariants as faults
use Rattle.nr_header.specs.declared.header.RdmaSegment.{RdmaSegment}
use Rattle.nr_header.specs.declared.header.ChunkLists.{ChunkLists}
use Rattle.nr_header.specs.declared.header.Body.{Body}
use Rattle.nr_header.specs.declared.header.Body.TheVariants.{Msg, Nomsg, ErrVers, ErrChunk}
use Rattle.nr_header.specs.declared.header.Header.{Header}
use Rattle.nr_header.specs.Reading.{header_of}
use Rattle.nr_regions.specs.declared.right.Right.{Right}
use Rattle.nr_regions.specs.declared.right.Right.TheVariants.{Fetch, Fill}
use Rattle.nr_regions.specs.RegisteredMemory.{Region as HeldRegion, RegisteredMemory, live_region, bytes_in}
use Rattle.nr_regions.proofs.Holding.{live_parts}
use Rattle.nr_regions.specs.Access.{contents}
use Rattle.nr_reduce.specs.declared.call.Call.{Call}
use Rattle.nr_reduce.specs.declared.outline.Plan.{Plan}
use Rattle.nr_reduce.specs.declared.item.Of.TheVariants.{Reply}
use Rattle.nr_reduce.specs.Plans.{Buffer, buffers, buffer_if, lists_of, write_list, reply_chunk, segments_from, has_segment, read_stag, write_stag, reply_stag, total}
use Rattle.nr_reduce.specs.Chunks.{Bytes, joined_bytes, some_bytes, reply_moved, reply_stream, reply_conveyed, whole, returns, returns_each, returns_none, returns_stream, fills_first, are_empty, answers_offer}
use Rattle.nr_reduce.specs.OfferedRegions.{Region, region_grants, region_bytes, region_bytes_by}
use Rattle.nr_reduce.specs.OfferedMemory.{held_if_open, registered_region, HoldsRegions}
use Rattle.nr_reduce.specs.Written.{ends_written}
use Rattle.nr_reduce.specs.ClientState.{OutstandingCall, ClientState, is_sent, client_memory_at}
use Rattle.nr_reduce.specs.ClientMessages.{ReplyVerdict, reply_verdict, reply_by_payload, by_lists, reply_by_body, by_call, reply_by_header, answered_call, call_in, names_another, invalidates_another, message_verdict}
use Rattle.nr_reduce.specs.ClientMessages.ReplyVerdict.{EndsLink, GivesOutcome}
use Rattle.nr_link.specs.Reasons.{REASON_INVALIDATED}
use Rattle.nr_reduce.specs.KeptCalls.{KeptCall, IsKeptCall, AreKept, numbered_calls, stags_unless, kept_payload, kept_lists, kept_body, kept_call, kept_by, kept_header, kept_verdict, kept_in, kept_names_another, kept_invalidates_another, kept_message_verdict}
use Rattle.nr_reduce.specs.KeptClient.{IsAmong, IsRegionOpen, OpensFor, bytes_under}
use Rattle.nr_reduce.proofs.Numbered.{found_among}

-- ---- The bytes under the STag of an open region

pub open_bytes : (k : ClientState) (place : ℕ) (m : RegisteredMemory) (xid stag : ℕ) → HoldsRegions k.regions k.accesses_received place m → IsRegionOpen k.regions xid stag → bytes_under m stag ≡ client_memory_at k place stag
unfolding region_bytes
open_bytes k place m xid stag holds o =
    let region : HeldRegion = record { right = o.region.right; buf = contents (region_grants place k.regions) o.region.stag o.region.bytes k.accesses_received } in
    let live : live_region m stag ≡ Some region =
    holds stag
    ∙ ap (λ (x : Option Region). registered_region (region_grants place k.regions) k.accesses_received x) o.there
    ∙ ap (λ (u : Option ℕ). held_if_open u region) o.is_open in
    ap bytes_in (live_parts m stag region live).1
    ∙ ap (λ (x : Option Region). region_bytes_by (region_grants place k.regions) k.accesses_received x) (sym o.there)

-- ---- Memories that agree on a chunk convey the same by it

abbrev pub Agree : Bytes → Bytes → List RdmaSegment → Type 0
Agree m n chunk = AllByRecursion (λ s. m s.handle ≡ n s.handle) chunk

joined_alike : (m n : Bytes) (chunk : List RdmaSegment) → Agree m n chunk → joined_bytes m chunk ≡ joined_bytes n chunk
unfolding joined_bytes
joined_alike m n [] h = refl
joined_alike m n (s ∷ chunk) h = λ i. take s.length (drop s.offset (h.0 i)) ++ joined_alike m n chunk h.1 i

stream_alike : (m n : Bytes) (inline : Option (List ℕ)) (reply : Option (List RdmaSegment)) → IfSome reply (λ chunk. Agree m n chunk) → reply_stream m inline reply ≡ reply_stream n inline reply
stream_alike m n (Some inline) reply h = refl
stream_alike m n None None h = refl
stream_alike m n None (Some chunk) h = joined_alike m n chunk h

moved_alike : (m n : Bytes) (write : List (List RdmaSegment)) → AllByRecursion (λ chunk. Agree m n chunk) write → reply_moved m write ≡ reply_moved n write
moved_alike m n [] h = refl
moved_alike m n (chunk ∷ chunks) h = ap some_bytes (joined_alike m n chunk h.0)

pub conveyed_alike : (m n : Bytes) (prog vers proc : ℕ) (inline : Option (List ℕ)) (lists : ChunkLists) → AllByRecursion (λ chunk. Agree m n chunk) lists.write → IfSome lists.reply (λ chunk. Agree m n chunk) →
    reply_conveyed prog vers proc inline lists m ≡ reply_conveyed prog vers proc inline lists n
unfolding reply_conveyed
conveyed_alike m n prog vers proc inline lists write reply =
    λ i. whole (Reply prog vers proc) (stream_alike m n inline lists.reply reply i) (moved_alike m n lists.write write i)

-- ---- A chunk that comes back has the handles that were offered

first_of_both : (b c : Bool) → (b && c) ≡ true → b ≡ true
first_of_both true c e = refl
first_of_both false c e = absurd cc

second_of_both : (b c : Bool) → (b && c) ≡ true → c ≡ true
second_of_both true c e = e
second_of_both false c e = absurd cc

five_of : (a b c d e : Bool) → (a && (b && (c && (d && e)))) ≡ true → (a ≡ true) × (e ≡ true)
five_of true true true true e h = (refl, h)
five_of true true true false e h = absurd cc
five_of true true false d e h = absurd cc
five_of true false c d e h = absurd cc
five_of false b c d e h = absurd cc

returned_agrees : (m n : Bytes) (offered back : List RdmaSegment) → returns offered back ≡ true → Agree m n offered → Agree m n back
returned_agrees m n [] [] e h = tt
returned_agrees m n [] (b ∷ back) e h = absurd cc
returned_agrees m n (o ∷ offered) [] e h = absurd cc
returned_agrees m n (o ∷ offered) (b ∷ back) e h =
    let parts = five_of (eqb b.handle o.handle) (eqb b.offset o.offset) (leb b.length o.length) (eqb b.length o.length || are_empty back) (returns offered back) e in
    let handle : b.handle ≡ o.handle = eqb-true b.handle o.handle parts.0 in
    (ap m handle ∙ h.0 ∙ ap n (sym handle), returned_agrees m n offered back parts.1 h.1)

each_agrees : (m n : Bytes) (offered back : List (List RdmaSegment)) → returns_each offered back ≡ true → AllByRecursion (λ chunk. Agree m n chunk) offered → AllByRecursion (λ chunk. Agree m n chunk) back
each_agrees m n [] [] e h = tt
each_agrees m n [] (b ∷ back) e h = absurd cc
each_agrees m n (o ∷ offered) [] e h = absurd cc
each_agrees m n (o ∷ offered) (b ∷ back) e h =
    (returned_agrees m n o b (first_of_both (returns o b) (returns_each offered back) e) h.0, each_agrees m n offered back (second_of_both (returns o b) (returns_each offered back) e) h.1)

none_agrees : (m n : Bytes) (offered back : Option (List RdmaSegment)) → returns_none offered back ≡ true → IfSome offered (λ chunk. Agree m n chunk) → IfSome back (λ chunk. Agree m n chunk)
none_agrees m n offered None e h = tt
none_agrees m n None (Some back) e h = absurd cc
none_agrees m n (Some offered) (Some back) e h = returned_agrees m n offered back (first_of_both (returns offered back) (are_empty back) e) h

long_agrees : (m n : Bytes) (offered back : Option (List RdmaSegment)) → returns_stream offered back ≡ true → IfSome offered (λ chunk. Agree m n chunk) → IfSome back (λ chunk. Agree m n chunk)
long_agrees m n None back e h = absurd cc
long_agrees m n (Some offered) None e h = absurd cc
long_agrees m n (Some offered) (Some back) e h = returned_agrees m n offered back e h

pub record ListsAgree (m n : Bytes) (lists : ChunkLists) : Type 0 where
  pub write : AllByRecursion (λ chunk. Agree m n chunk) lists.write
  pub reply : IfSome lists.reply (λ chunk. Agree m n chunk)

answer_agrees : (m n : Bytes) (long : Bool) (offered back : ChunkLists) → answers_offer long offered back ≡ true → ListsAgree m n offered → ListsAgree m n back
unfolding answers_offer
answer_agrees m n long offered back e h =
    let rest : (returns_each offered.write back.write && (fills_first back.write && cond long (returns_stream offered.reply back.reply) (returns_none offered.reply back.reply))) ≡ true = second_of_both _ _ e in
    let last : cond long (returns_stream offered.reply back.reply) (returns_none offered.reply back.reply) ≡ true = second_of_both _ _ (second_of_both _ _ rest) in
    record { write = each_agrees m n offered.write back.write (first_of_both _ _ rest) h.write; reply = by long last }
  where
    by : (l : Bool) → cond l (returns_stream offered.reply back.reply) (returns_none offered.reply back.reply) ≡ true → IfSome back.reply (λ chunk. Agree m n chunk)
    by true t = long_agrees m n offered.reply back.reply t h.reply
    by false t = none_agrees m n offered.reply back.reply t h.reply

-- ---- The lists that a plan offers lie in the call's own regions

among_left : (x : ℕ) (xs ys : List Buffer) → IsAmong x (map (λ b. b.stag) xs) → IsAmong x (map (λ b. b.stag) (xs ++ ys))
among_left x [] ys is = absurd is
among_left x (b ∷ xs) ys (inl e) = inl e
among_left x (b ∷ xs) ys (inr is) = inr (among_left x xs ys is)

among_right : (x : ℕ) (xs ys : List Buffer) → IsAmong x (map (λ b. b.stag) ys) → IsAmong x (map (λ b. b.stag) (xs ++ ys))
among_right x [] ys is = is
among_right x (b ∷ xs) ys is = inr (among_right x xs ys is)

own_one : (b : Bool) (stag : ℕ) (right : Right) (bytes : List ℕ) → b ≡ true → IsAmong stag (map (λ x. x.stag) (buffer_if b stag right bytes))
own_one true stag right bytes e = inl refl
own_one false stag right bytes e = absurd cc

write_own : (stag : ℕ) (p : Plan) → has_segment p.write ≡ true → IsAmong (write_stag stag p) (map (λ b. b.stag) (buffers stag p))
unfolding buffers
write_own stag p e =
    among_right (write_stag stag p) (buffer_if (has_segment (Some p.read)) (read_stag stag p) Fetch p.region) _
    (among_left (write_stag stag p) (buffer_if (has_segment p.write) (write_stag stag p) Fill (Rattle.std.specs.Prelude.replicate (total p.write) 0)) _ (own_one (has_segment p.write) (write_stag stag p) Fill _ e))

reply_own : (stag : ℕ) (p : Plan) → has_segment p.reply ≡ true → IsAmong (reply_stag stag p) (map (λ b. b.stag) (buffers stag p))
unfolding buffers
reply_own stag p e =
    among_right (reply_stag stag p) (buffer_if (has_segment (Some p.read)) (read_stag stag p) Fetch p.region) _
    (among_right (reply_stag stag p) (buffer_if (has_segment p.write) (write_stag stag p) Fill (Rattle.std.specs.Prelude.replicate (total p.write) 0)) _ (own_one (has_segment p.reply) (reply_stag stag p) Fill _ e))

-- memories that agree under the STags of a call's regions agree on its lists
segments_agree : (m n : Bytes) (handle offset : ℕ) (lengths : List ℕ) → (has_segment (Some lengths) ≡ true → m handle ≡ n handle) → Agree m n (segments_from handle offset lengths)
segments_agree m n handle offset [] h = tt
segments_agree m n handle offset (x ∷ lengths) h = (h refl, segments_agree m n handle (offset + x) lengths (λ e. h refl))

write_agrees : (m n : Bytes) (stag : ℕ) (w : Option (List ℕ)) → (has_segment w ≡ true → m stag ≡ n stag) → AllByRecursion (λ chunk. Agree m n chunk) (write_list stag w)
write_agrees m n stag None h = tt
write_agrees m n stag (Some lengths) h = (segments_agree m n stag 0 lengths h, tt)

reply_agrees : (m n : Bytes) (stag : ℕ) (r : Option (List ℕ)) → (has_segment r ≡ true → m stag ≡ n stag) → IfSome (reply_chunk stag r) (λ chunk. Agree m n chunk)
reply_agrees m n stag None h = tt
reply_agrees m n stag (Some lengths) h = segments_agree m n stag 0 lengths h

offered_agrees : (m n : Bytes) (stag : ℕ) (p : Plan) → ((x : ℕ) → IsAmong x (map (λ b. b.stag) (buffers stag p)) → m x ≡ n x) → ListsAgree m n (lists_of stag p)
unfolding lists_of
offered_agrees m n stag p same = record {
  write = write_agrees m n (write_stag stag p) p.write (λ e. same (write_stag stag p) (write_own stag p e));
  reply = reply_agrees m n (reply_stag stag p) p.reply (λ e. same (reply_stag stag p) (reply_own stag p e));
}

-- ---- The call that a message answers

pub data FoundAlike (k : ClientState) (calls : List KeptCall) (os : List OutstandingCall) : Option KeptCall → Option OutstandingCall → Type 0 where
  NoCall : FoundAlike k calls os None None
  ThisCall : (c : KeptCall) (o : OutstandingCall) → IsKeptCall k c o → IsAmong c calls → FoundAlike k calls os (Some c) (Some o)

found_alike : (k : ClientState) (xid : ℕ) (cs : List KeptCall) (os : List OutstandingCall) → AreKept k cs os → FoundAlike k cs os (kept_by cs xid) (find (λ o. eqb o.xid xid && is_sent k o) os)
found_alike k xid [] [] is = NoCall
found_alike k xid [] (o ∷ os) is = absurd is
found_alike k xid (c ∷ cs) [] is = absurd is
found_alike k xid (c ∷ cs) (o ∷ os) is = by (eqb c.xid xid && c.is_sent) refl (found_alike k xid cs os is.1)
  where
    test : (eqb o.xid xid && is_sent k o) ≡ (eqb c.xid xid && c.is_sent)
    test = λ i. eqb (sym is.0.xid i) xid && sym is.0.sent i

    later : (x : Option KeptCall) (y : Option OutstandingCall) → FoundAlike k cs os x y → FoundAlike k (c ∷ cs) (o ∷ os) x y
    later _ _ NoCall = NoCall
    later _ _ (ThisCall d q one among) = ThisCall d q one (inr among)

    by : (b : Bool) → (eqb c.xid xid && c.is_sent) ≡ b → FoundAlike k cs os (kept_by cs xid) (find (λ x. eqb x.xid xid && is_sent k x) os) → FoundAlike k (c ∷ cs) (o ∷ os) (cond (eqb c.xid xid && c.is_sent) (Some c) (kept_by cs xid)) (cond (eqb o.xid xid && is_sent k o) (Some o) (find (λ x. eqb x.xid xid && is_sent k x) os))
    by true e rest =
        subst (λ (p : Bool). FoundAlike k (c ∷ cs) (o ∷ os) (cond p (Some c) (kept_by cs xid)) (cond (eqb o.xid xid && is_sent k o) (Some o) (find (λ x. eqb x.xid xid && is_sent k x) os))) (sym e)
        (subst (λ (p : Bool). FoundAlike k (c ∷ cs) (o ∷ os) (Some c) (cond p (Some o) (find (λ x. eqb x.xid xid && is_sent k x) os))) (sym (test ∙ e)) (ThisCall c o is.0 (inl refl)))
    by false e rest =
        subst (λ (p : Bool). FoundAlike k (c ∷ cs) (o ∷ os) (cond p (Some c) (kept_by cs xid)) (cond (eqb o.xid xid && is_sent k o) (Some o) (find (λ x. eqb x.xid xid && is_sent k x) os))) (sym e)
        (subst (λ (p : Bool). FoundAlike k (c ∷ cs) (o ∷ os) (kept_by cs xid) (cond p (Some o) (find (λ x. eqb x.xid xid && is_sent k x) os))) (sym (test ∙ e)) (later _ _ rest))

-- it is no call that waits
answered_alike : (k : ClientState) (xid : ℕ) (calls : List KeptCall) → AreKept k calls (numbered_calls k) → ends_written k.written k.send_ends ≤ k.sends → FoundAlike k calls (numbered_calls k) (kept_by calls xid) (answered_call k xid)
answered_alike k xid calls is few = subst (λ (y : Option OutstandingCall). FoundAlike k calls (numbered_calls k) (kept_by calls xid) y) (found_among k xid few) (found_alike k xid calls (numbered_calls k) is)

-- ---- The verdict

pub all_among : {X : Type 0} (P : X → Type 0) (xs : List X) (x : X) → AllByRecursion P xs → IsAmong x xs → P x
all_among P [] x h is = absurd is
all_among P (y ∷ xs) x h (inl e) = subst P e h.0
all_among P (y ∷ xs) x h (inr is) = all_among P xs x h.1 is

payload_alike : (k : ClientState) (place : ℕ) (m : Bytes) (c : KeptCall) (o : OutstandingCall) (inline : Option (List ℕ)) (lists : ChunkLists) → IsKeptCall k c o → (o.is_revoked ≡ false → ListsAgree m (client_memory_at k place) lists) →
    kept_payload c.xid c.call inline lists m ≡ cond o.is_revoked (GivesOutcome o.xid None) (reply_by_payload o.xid (reply_conveyed o.call.prog o.call.vers o.call.proc inline lists (client_memory_at k place)))
payload_alike k place m c o inline lists is agree = by c.call is.revoked is.call
  where
    other : ReplyVerdict
    other = reply_by_payload o.xid (reply_conveyed o.call.prog o.call.vers o.call.proc inline lists (client_memory_at k place))

    by : (x : Option Call) → is_none x ≡ o.is_revoked → IfSome x (λ call. call ≡ o.call) → kept_payload c.xid x inline lists m ≡ cond o.is_revoked (GivesOutcome o.xid None) other
    by None e same = ap (λ (x : ℕ). GivesOutcome x None) is.xid ∙ ap (λ (b : Bool). cond b (GivesOutcome o.xid None) other) e
    by (Some call) e same =
        let a : ListsAgree m (client_memory_at k place) lists = agree (sym e) in
        (λ i. reply_by_payload (is.xid i) (reply_conveyed (same i).prog (same i).vers (same i).proc inline lists m))
        ∙ ap (λ (p : Option (List ℕ)). reply_by_payload o.xid p) (conveyed_alike m (client_memory_at k place) o.call.prog o.call.vers o.call.proc inline lists a.write a.reply)
        ∙ ap (λ (b : Bool). cond b (GivesOutcome o.xid None) other) e

lists_alike : (k : ClientState) (place : ℕ) (m : Bytes) (c : KeptCall) (o : OutstandingCall) (inline : Option (List ℕ)) (lists : ChunkLists) (b : Bool) → IsKeptCall k c o → (b ≡ true → o.is_revoked ≡ false → ListsAgree m (client_memory_at k place) lists) →
    kept_lists c inline lists m b ≡ by_lists k place o inline lists b
lists_alike k place m c o inline lists true is agree = payload_alike k place m c o inline lists is (agree refl)
lists_alike k place m c o inline lists false is agree = refl

answers_alike : (k : ClientState) (c : KeptCall) (o : OutstandingCall) (long : Bool) (back : ChunkLists) → IsKeptCall k c o → answers_offer long c.offered back ≡ answers_offer long (lists_of o.stag o.plan) back
unfolding answers_offer
answers_alike k c o long back is =
    λ i. eqb (length back.read) 0 && (returns_each (is.write i) back.write && (fills_first back.write && cond long (returns_stream (is.reply i) back.reply) (returns_none (is.reply i) back.reply)))

agree_for : (k : ClientState) (place : ℕ) (m : RegisteredMemory) (c : KeptCall) (o : OutstandingCall) → IsKeptCall k c o → HoldsRegions k.regions k.accesses_received place m → OpensFor k.regions c → o.is_revoked ≡ false →
    ListsAgree (bytes_under m) (client_memory_at k place) (lists_of o.stag o.plan)
agree_for k place m c o is holds opens live =
    offered_agrees (bytes_under m) (client_memory_at k place) o.stag o.plan (λ x among. open_bytes k place m c.xid x holds (all_among (λ (s : ℕ). IsRegionOpen k.regions c.xid s) c.stags x opens (mine x among)))
  where
    stags_are : c.stags ≡ map (λ b. b.stag) (buffers o.stag o.plan)
    stags_are = is.stags ∙ ap (λ (b : Bool). stags_unless b (buffers o.stag o.plan)) live

    mine : (x : ℕ) → IsAmong x (map (λ b. b.stag) (buffers o.stag o.plan)) → IsAmong x c.stags
    mine x among = subst (λ (ss : List ℕ). IsAmong x ss) (sym stags_are) among

body_alike : (k : ClientState) (place : ℕ) (m : RegisteredMemory) (message : List ℕ) (body : Body) (c : KeptCall) (o : OutstandingCall) → IsKeptCall k c o → HoldsRegions k.regions k.accesses_received place m → OpensFor k.regions c →
    kept_body c (bytes_under m) message body ≡ reply_by_body k place o message body
body_alike k place m message (Msg lists at) c o is holds opens =
    ap (λ (b : Bool). kept_lists c (Some (drop at message)) lists (bytes_under m) b) (answers_alike k c o false lists is)
    ∙ lists_alike k place (bytes_under m) c o (Some (drop at message)) lists (answers_offer false (lists_of o.stag o.plan) lists) is
    (λ e live. answer_agrees (bytes_under m) (client_memory_at k place) false (lists_of o.stag o.plan) lists e (agree_for k place m c o is holds opens live))
body_alike k place m message (Nomsg lists) c o is holds opens =
    ap (λ (b : Bool). kept_lists c None lists (bytes_under m) b) (answers_alike k c o true lists is)
    ∙ lists_alike k place (bytes_under m) c o None lists (answers_offer true (lists_of o.stag o.plan) lists) is
    (λ e live. answer_agrees (bytes_under m) (client_memory_at k place) true (lists_of o.stag o.plan) lists e (agree_for k place m c o is holds opens live))
body_alike k place m message (ErrVers version low high) c o is holds opens = ap (λ (x : ℕ). GivesOutcome x (Some (Rattle.nr_reduce.specs.declared.call.Outcome.TheVariants.Version low high))) is.xid
body_alike k place m message (ErrChunk version) c o is holds opens = ap (λ (x : ℕ). GivesOutcome x (Some Rattle.nr_reduce.specs.declared.call.Outcome.TheVariants.Chunk)) is.xid

call_alike : (k : ClientState) (place : ℕ) (m : RegisteredMemory) (calls : List KeptCall) (message : List ℕ) (body : Body) (x : Option KeptCall) (y : Option OutstandingCall) → FoundAlike k calls (numbered_calls k) x y →
    HoldsRegions k.regions k.accesses_received place m → AllByRecursion (OpensFor k.regions) calls → kept_call (bytes_under m) message body x ≡ by_call k place message body y
call_alike k place m calls message body _ _ NoCall holds opens = refl
call_alike k place m calls message body _ _ (ThisCall c o is among) holds opens = body_alike k place m message body c o is holds (all_among (OpensFor k.regions) calls c opens among)

header_alike : (k : ClientState) (place : ℕ) (m : RegisteredMemory) (calls : List KeptCall) (message : List ℕ) (r : Result Header HeaderFault) → AreKept k calls (numbered_calls k) → ends_written k.written k.send_ends ≤ k.sends →
    HoldsRegions k.regions k.accesses_received place m → AllByRecursion (OpensFor k.regions) calls → kept_header calls (bytes_under m) message r ≡ reply_by_header k place message r
header_alike k place m calls message (Ok header) is few holds opens =
    call_alike k place m calls message header.body (kept_by calls header.xid) (answered_call k header.xid) (answered_alike k header.xid calls is few) holds opens
header_alike k place m calls message (Err faults.Short) is few holds opens = refl
header_alike k place m calls message (Err (faults.Version version)) is few holds opens = refl
header_alike k place m calls message (Err (faults.Kind kind)) is few holds opens = refl
header_alike k place m calls message (Err (faults.BadChunks at)) is few holds opens = refl

-- What a requester makes of a message is what its client makes of it.
pub verdict_alike : (k : ClientState) (place : ℕ) (m : RegisteredMemory) (calls : List KeptCall) (message : List ℕ) → AreKept k calls (numbered_calls k) → ends_written k.written k.send_ends ≤ k.sends →
    HoldsRegions k.regions k.accesses_received place m → AllByRecursion (OpensFor k.regions) calls → kept_verdict calls (bytes_under m) message ≡ reply_verdict k place message
unfolding kept_verdict reply_verdict
verdict_alike k place m calls message is few holds opens = header_alike k place m calls message (header_of message) is few holds opens

-- ---- A message that names an STag

given_alike : (stag : ℕ) (bs : List Buffer) → list_any (λ s. eqb s stag) (map (λ b. b.stag) bs) ≡ list_any (λ b. eqb b.stag stag) bs
given_alike stag [] = refl
given_alike stag (b ∷ bs) = ap (λ (rest : Bool). eqb b.stag stag || rest) (given_alike stag bs)

names_alike : (k : ClientState) (calls : List KeptCall) (stag : ℕ) (x : Option KeptCall) (y : Option OutstandingCall) → FoundAlike k calls (numbered_calls k) x y → kept_names_another x stag ≡ names_another y stag
names_alike k calls stag _ _ NoCall = refl
names_alike k calls stag _ _ (ThisCall c o is among) =
    ap not (ap (λ (given : List ℕ). list_any (λ s. eqb s stag) given) is.given ∙ given_alike stag (buffers o.stag o.plan))

header_names : (k : ClientState) (calls : List KeptCall) (stag : ℕ) (r : Result Header HeaderFault) → AreKept k calls (numbered_calls k) → ends_written k.written k.send_ends ≤ k.sends → kept_names_another (kept_in calls r) stag ≡ names_another (call_in k r) stag
header_names k calls stag (Ok header) is few = names_alike k calls stag (kept_by calls header.xid) (answered_call k header.xid) (answered_alike k header.xid calls is few)
header_names k calls stag (Err fault) is few = refl

another_alike : (k : ClientState) (calls : List KeptCall) (named : Option ℕ) (message : List ℕ) → AreKept k calls (numbered_calls k) → ends_written k.written k.send_ends ≤ k.sends → kept_invalidates_another calls named message ≡ invalidates_another k named message
another_alike k calls None message is few = refl
another_alike k calls (Some stag) message is few = header_names k calls stag (header_of message) is few

pub message_alike : (k : ClientState) (place : ℕ) (m : RegisteredMemory) (calls : List KeptCall) (named : Option ℕ) (message : List ℕ) → AreKept k calls (numbered_calls k) → ends_written k.written k.send_ends ≤ k.sends →
    HoldsRegions k.regions k.accesses_received place m → AllByRecursion (OpensFor k.regions) calls → kept_message_verdict calls (bytes_under m) named message ≡ message_verdict k place named message
unfolding kept_message_verdict message_verdict
message_alike k place m calls named message is few holds opens =
    λ i. cond (another_alike k calls named message is few i) (EndsLink REASON_INVALIDATED) (verdict_alike k place m calls message is few holds opens i)
