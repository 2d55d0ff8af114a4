-- What a server accesses stays offered when it receives a frame, executes a call, and writes its queue.
use Rattle.std.proofs.Common.{◌≡◌, ◌≢◌, ℕ, zero, suc, ◌+◌, ◌*◌, ◌≤◌, ◌<◌, min, Bool, true, false, cond, not, ◌&&◌, ◌||◌, eqb, List, [], ◌∷◌, ◌++◌, length, map, take, drop, filter, Option, None, Some, refl, sym, ap, subst, ◌∙◌, arith, inl, inr, eqb-true, length-take, length-drop, append_assoc}
use Rattle.std.specs.List.{AllByRecursion, find, list_any, range_with_len}
use Rattle.std.proofs.lemmas.Bool.{eq-eqb, ne_eqb}
use Rattle.nr_wire.specs.Constants.{OPCODE_WRITE}
use Rattle.nr_header.specs.declared.header.RdmaSegment.{RdmaSegment as Part}
use Rattle.nr_header.specs.declared.header.ChunkLists.{ChunkLists}
use Rattle.nr_regions.specs.declared.right.Right.TheVariants.{Fill}
use Rattle.nr_rpc.specs.Reading.{call_of, target_of}
use Rattle.nr_link.specs.Frames.{Frame, is_hello}
use Rattle.nr_link.specs.Limits.{segment_max, open_reads_max}
use Rattle.nr_link.specs.Output.{segment_count, segment_payload}
use Rattle.nr_reduce.specs.declared.mark.Told.{Told}
use Rattle.nr_reduce.specs.declared.mark.LinkParameters.{LinkParameters}
use Rattle.nr_reduce.specs.History.{ExecutedCall}
use Rattle.nr_reduce.specs.Plans.{one_if}
use Rattle.nr_reduce.specs.Holds.{Answer, answer_message, first_chunk, no_segments, chunk_error}
use Rattle.nr_reduce.specs.Events.RunEvent.{FrameReceived, CallExecuted, QueueWritten, ServerTold}
use Rattle.nr_reduce.specs.OfferedRegions.{Region}
use Rattle.nr_reduce.specs.ClientState.{ClientState}
use Rattle.nr_reduce.specs.ServerState.{ServerState, PendingCall, PendingRead, ReadyCall, credit_word}
use Rattle.nr_reduce.specs.ServerReads.{is_read}
use Rattle.nr_reduce.specs.ServerFrames.{FrameEffect, frame_effect}
use Rattle.nr_reduce.specs.Server.{server_state_after, with_effect, newly_open_reads, offer_by, offer_of, answer_of_target, with_own_hello, stag_named}
use Rattle.nr_laws.proofs.FrameContents.{FrameContent, tagged_frames, write_frames, answer_frames, request_frame, effect_frames, server_frames, send_frames, errors_frames}
use Rattle.nr_laws.proofs.FrameContents.FrameContent.{HelloFrame, PartFrame, SendFrame, RequestFrame, TaggedFrame}
use Rattle.nr_laws.proofs.LinkInvariants.{AreWhole}
use Rattle.nr_laws.proofs.AgreeingEnds.{says_hello, says_frame, after_hello}
use Rattle.nr_laws.proofs.CallNumbers.{IsNumbered, Rise, one_send}
use Rattle.nr_laws.proofs.AnsweredCalls.{message_xids, times, call_xids, xids_append, times_append}
use Rattle.nr_laws.proofs.AnsweredSteps.{given_to}
use Rattle.nr_laws.proofs.EffectsOffered.{EffectOffered, read_kept}
use Rattle.nr_laws.proofs.OfferedAccesses.{IsOffered, PartOffered, ListsOffered, CallOffered, ReadOffered, IsAccess, AreAccesses, AccessesAgree, offered_less, accesses_append, accesses_each, accesses_messages, accesses_message}
use Rattle.nr_laws.proofs.Basics.{each_append, each_drop, each_kept}
use Rattle.nr_reduce.specs.StandingLaws.{xid_of_send}

-- ---- What the server says more

says_more : (opened : LinkParameters) (k : ClientState) (s t : ServerState) (d all_up all_down said : List FrameContent) (place : ℕ) → AccessesAgree opened k s d all_up all_down place → AllByRecursion (CallOffered k.regions) t.calls
    → AllByRecursion (ReadOffered k.regions t.calls) (drop open_reads_max t.reads) → AreAccesses k.regions all_down said → AccessesAgree opened k t d all_up (all_down ++ said) place
says_more opened k s t d all_up all_down said place h calls waiting says = record {
  early = h.early;
  lives = h.lives;
  up_said = h.up_said;
  asked = h.asked;
  resent = h.resent;
  calls = calls;
  waiting = waiting;
  down_said = accesses_append k.regions [] all_down said h.down_said says;
}

-- ---- A frame

each_later : {X : Type 0} (P : X → Type 0) (n m : ℕ) (xs : List X) → n ≤ m → AllByRecursion P (drop n xs) → AllByRecursion P (drop m xs)
each_later P zero m xs le h = each_drop P m xs h
each_later P (suc n) zero xs le h = absurd (omega (arith, le))
each_later P (suc n) (suc m) [] le h = tt
each_later P (suc n) (suc m) (x ∷ xs) le h = each_later P n m xs (omega (arith, le)) h

each_first : {X : Type 0} (P : X → Type 0) (n m : ℕ) (xs : List X) → AllByRecursion P (drop n xs) → AllByRecursion P (drop n (take m xs))
each_first P n zero xs h = each_drop P n [] tt
each_first P n (suc m) [] h = h
each_first P zero (suc m) (x ∷ xs) h = (h.0, each_first P zero m xs h.1)
each_first P (suc n) (suc m) (x ∷ xs) h = each_first P n m xs h

-- the Read Request of a read of a pending call, if no message answers that call
read_access : (regions : List Region) (answered : List ℕ) (calls : List PendingCall) (r : PendingRead) → ((x : ℕ) → times x answered + times x (call_xids calls) ≤ 1) → ReadOffered regions calls r → IsAccess regions answered (request_frame r)
read_access regions answered [] r once h = absurd h
read_access regions answered (c ∷ calls) r once (inl h) =
    (c.xid, omega (arith, once c.xid, ap one_if (eq-eqb c.xid c.xid refl)), h.1)
read_access regions answered (c ∷ calls) r once (inr h) = read_access regions answered calls r (λ x. omega (arith, once x)) h

requests_access : (regions : List Region) (answered : List ℕ) (calls : List PendingCall) (reads : List PendingRead) → ((x : ℕ) → times x answered + times x (call_xids calls) ≤ 1) → AllByRecursion (ReadOffered regions calls) reads → AllByRecursion (IsAccess regions answered) (map request_frame reads)
requests_access regions answered calls [] once h = tt
requests_access regions answered calls (r ∷ reads) once h = (read_access regions answered calls r once h.0, requests_access regions answered calls reads once h.1)

effect_accesses : (regions : List Region) (all_down : List FrameContent) (s : FrameEffect) → EffectOffered regions s → ((x : ℕ) → given_to x (all_down ++ effect_frames s) s.calls ≤ 1) → AreAccesses regions all_down (effect_frames s)
effect_accesses regions all_down s h once =
    let errors = errors_frames s.errors in
    let requests = map request_frame (newly_open_reads s) in
    accesses_append regions all_down errors requests (accesses_messages regions all_down s.errors)
    (accesses_each regions (all_down ++ errors) requests
    (subst (λ (ps : List FrameContent). AllByRecursion (IsAccess regions (message_xids ps)) requests) (sym (append_assoc all_down errors requests))
    (requests_access regions (message_xids (all_down ++ (errors ++ requests))) s.calls (newly_open_reads s) once (each_first (ReadOffered regions s.calls) s.kept open_reads_max s.reads h.waiting))))

after_effect : (opened : LinkParameters) (s : ServerState) (f : Frame) → is_hello f ≡ false → server_state_after opened s (FrameReceived f) ≡ with_effect s f (frame_effect s f)
unfolding server_state_after
after_effect opened s f is = λ i. cond (is i) (with_own_hello opened s f) (with_effect s f (frame_effect s f))

pub accessed_frame_up : (opened : LinkParameters) (k : ClientState) (s : ServerState) (d all_up all_down : List FrameContent) (place : ℕ) (f : Frame) → AccessesAgree opened k s d all_up all_down place → is_hello f ≡ false → EffectOffered k.regions (frame_effect s f)
    → ((x : ℕ) → given_to x (all_down ++ server_frames opened s (FrameReceived f)) (server_state_after opened s (FrameReceived f)).calls ≤ 1)
    → AccessesAgree opened k (server_state_after opened s (FrameReceived f)) d all_up (all_down ++ server_frames opened s (FrameReceived f)) place
accessed_frame_up opened k s d all_up all_down place f h behind e once =
    let effect = frame_effect s f in
    let t = with_effect s f effect in
    let says = says_frame opened s f behind in
    let after = after_effect opened s f behind in
    let one : (x : ℕ) → given_to x (all_down ++ effect_frames effect) effect.calls ≤ 1 =
    λ x. subst (λ (ps : List FrameContent). given_to x (all_down ++ ps) effect.calls ≤ 1) says (subst (λ (u : ServerState). given_to x (all_down ++ server_frames opened s (FrameReceived f)) u.calls ≤ 1) after (once x)) in
    subst (λ (u : ServerState). AccessesAgree opened k u d all_up (all_down ++ server_frames opened s (FrameReceived f)) place) (sym after)
    (subst (λ (ps : List FrameContent). AccessesAgree opened k t d all_up (all_down ++ ps) place) (sym says)
    (says_more opened k s t d all_up all_down (effect_frames effect) place h e.calls (each_later (ReadOffered k.regions effect.calls) effect.kept open_reads_max effect.reads e.few e.waiting) (effect_accesses k.regions all_down effect e one)))

pub accessed_hello_up : (opened : LinkParameters) (k : ClientState) (s : ServerState) (d all_up all_down : List FrameContent) (place : ℕ) (f : Frame) → AccessesAgree opened k s d all_up all_down place → is_hello f ≡ true
    → AccessesAgree opened k (server_state_after opened s (FrameReceived f)) d all_up (all_down ++ server_frames opened s (FrameReceived f)) place
accessed_hello_up opened k s d all_up all_down place f h is =
    subst (λ (u : ServerState). AccessesAgree opened k u d all_up (all_down ++ server_frames opened s (FrameReceived f)) place) (sym (after_hello opened s f is))
    (subst (λ (ps : List FrameContent). AccessesAgree opened k (with_own_hello opened s f) d all_up (all_down ++ ps) place) (sym (says_hello opened s f is))
    (says_more opened k s (with_own_hello opened s f) d all_up all_down (HelloFrame ∷ []) place h h.calls h.waiting (tt, tt)))

-- ---- A call is executed

-- the frames of RDMA Writes into what a call offers
abbrev WriteOffered : List Region → ℕ → FrameContent → Type 0
WriteOffered regions xid HelloFrame = ⊥
WriteOffered regions xid (PartFrame named offset payload) = ⊥
WriteOffered regions xid (SendFrame message) = ⊥
WriteOffered regions xid (RequestFrame sink at size stag to) = ⊥
WriteOffered regions xid (TaggedFrame last opcode stag to payload) = IsOffered xid stag Fill (to + length payload) regions

cuts_offered : (regions : List Region) (xid stag at size total : ℕ) (bytes : List ℕ) (n a : ℕ) → IsOffered xid stag Fill (at + size) regions → length bytes ≤ size → segment_max * total < length bytes + segment_max → a + n ≤ total
    → AllByRecursion (WriteOffered regions xid) (map (λ i. TaggedFrame (eqb (i + 1) total) OPCODE_WRITE stag (at + segment_max * i) (segment_payload bytes i)) (range_with_len a n))
cuts_offered regions xid stag at size total bytes zero a h le needed within = tt
cuts_offered regions xid stag at size total bytes (suc n) a h le needed within = (
  offered_less xid stag Fill (at + segment_max * a + length (segment_payload bytes a)) (at + size) regions
      (omega (arith, le, needed, within, length-take segment_max (drop (segment_max * a) bytes), length-drop (segment_max * a) bytes)) h,
  cuts_offered regions xid stag at size total bytes n (a + 1) h le needed (omega (arith, within)),
)

write_offered : (regions : List Region) (xid : ℕ) (p : Part) (bytes : List ℕ) → PartOffered regions xid p → 0 < length bytes → length bytes ≤ p.length → AllByRecursion (WriteOffered regions xid) (tagged_frames OPCODE_WRITE p.handle p.offset bytes)
unfolding tagged_frames
write_offered regions xid p bytes h some le = cuts_offered regions xid p.handle p.offset p.length (segment_count bytes) bytes (segment_count bytes) 0 h le (omega (arith, some)) (omega arith)

some_bytes_lem : (n m : ℕ) → eqb (min n m) 0 ≡ false → 0 < min n m
some_bytes_lem n m e = by (min n m) e
  where
    by : (x : ℕ) → eqb x 0 ≡ false → 0 < x
    by zero e = absurd cc
    by (suc x) e = omega arith

writes_offered : (regions : List Region) (xid : ℕ) (chunk : List Part) (bytes : List ℕ) → AllByRecursion (PartOffered regions xid) chunk → AllByRecursion (WriteOffered regions xid) (write_frames chunk bytes)
writes_offered regions xid [] bytes h = tt
writes_offered regions xid (p ∷ chunk) bytes h =
    each_append (WriteOffered regions xid) (cond (eqb (min p.length (length bytes)) 0) [] (tagged_frames OPCODE_WRITE p.handle p.offset (take p.length bytes))) (write_frames chunk (drop p.length bytes))
    (by (eqb (min p.length (length bytes)) 0) refl) (writes_offered regions xid chunk (drop p.length bytes) h.1)
  where
    by : (b : Bool) → eqb (min p.length (length bytes)) 0 ≡ b → AllByRecursion (WriteOffered regions xid) (cond b [] (tagged_frames OPCODE_WRITE p.handle p.offset (take p.length bytes)))
    by true e = tt
    by false e = write_offered regions xid p (take p.length bytes) h.0 (omega (arith, some_bytes_lem p.length (length bytes) e, length-take p.length bytes)) (omega (arith, length-take p.length bytes))

-- they have no message among them
writes_access : (regions : List Region) (xid : ℕ) (before ps : List FrameContent) → times xid (message_xids before) ≡ 0 → AllByRecursion (WriteOffered regions xid) ps → AreAccesses regions before ps × (times xid (message_xids (before ++ ps)) ≡ 0)
writes_access regions xid before [] none h = (tt, ap (λ (xs : List ℕ). times xid xs) (xids_append before []) ∙ omega (arith, none, times_append xid (message_xids before) []))
writes_access regions xid before (HelloFrame ∷ ps) none h = absurd h.0
writes_access regions xid before (PartFrame named offset payload ∷ ps) none h = absurd h.0
writes_access regions xid before (SendFrame message ∷ ps) none h = absurd h.0
writes_access regions xid before (RequestFrame sink at size stag to ∷ ps) none h = absurd h.0
writes_access regions xid before (TaggedFrame last opcode stag to payload ∷ ps) none h =
    let p = TaggedFrame last opcode stag to payload in
    let next : times xid (message_xids (before ++ p ∷ [])) ≡ 0 = ap (λ (xs : List ℕ). times xid xs) (xids_append before (p ∷ [])) ∙ omega (arith, none, times_append xid (message_xids before) []) in
    let rest = writes_access regions xid (before ++ p ∷ []) ps next h.1 in
    (((xid, none, h.0), rest.0), ap (λ (qs : List FrameContent). times xid (message_xids qs)) (sym (append_assoc before (p ∷ []) ps)) ∙ rest.1)

answer_access : (regions : List Region) (all_down : List FrameContent) (s : ServerState) (xid : ℕ) (offer : ChunkLists) (o : Option Answer) → times xid (message_xids all_down) ≡ 0 → ListsOffered regions xid offer → AreAccesses regions all_down (answer_frames s xid offer o)
answer_access regions all_down s xid offer None none h = accesses_message regions all_down None (chunk_error xid (credit_word s))
answer_access regions all_down s xid offer (Some a) none h =
    let moved = write_frames (first_chunk offer.write) a.moved in
    let long = cond a.long (write_frames (no_segments offer.reply) a.stream) [] in
    let named = stag_named s.invalidates offer in
    let message = answer_message xid (credit_word s) offer a in
    let first = writes_access regions xid all_down moved none (writes_offered regions xid (first_chunk offer.write) a.moved h.write) in
    let second = writes_access regions xid (all_down ++ moved) long first.1 (by a.long) in
    accesses_append regions all_down moved (long ++ send_frames named message) first.0
    (accesses_append regions (all_down ++ moved) long (send_frames named message) second.0 (accesses_message regions ((all_down ++ moved) ++ long) named message))
  where
    by : (b : Bool) → AllByRecursion (WriteOffered regions xid) (cond b (write_frames (no_segments offer.reply) a.stream) [])
    by true = writes_offered regions xid (no_segments offer.reply) a.stream h.reply
    by false = tt

found_offered : (regions : List Region) (xid : ℕ) (calls : List PendingCall) → AllByRecursion (CallOffered regions) calls → ListsOffered regions xid (offer_by (find (λ c. eqb c.xid xid) calls))
found_offered regions xid [] h = record { write = tt; reply = tt; read = tt }
found_offered regions xid (c ∷ calls) h = by (eqb c.xid xid) refl (found_offered regions xid calls h.1)
  where
    by : (b : Bool) → eqb c.xid xid ≡ b → ListsOffered regions xid (offer_by (find (λ y. eqb y.xid xid) calls)) → ListsOffered regions xid (offer_by (cond b (Some c) (find (λ y. eqb y.xid xid) calls)))
    by true e rest = subst (λ (n : ℕ). ListsOffered regions n c.lists) (eqb-true c.xid xid e) h.0
    by false e rest = rest

-- the call that is executed has no read that waits
any_numbered : (at : ℕ → ℕ) (number xid : ℕ) (calls : List PendingCall) → AllByRecursion (IsNumbered at) calls → list_any (λ (c : PendingCall). eqb c.number number && eqb c.xid xid) calls ≡ true → (n : ℕ) × (number ≡ n + 1) × (xid ≡ at n)
any_numbered at number xid [] h e = absurd cc
any_numbered at number xid (c ∷ calls) h e = by (eqb c.number number) (eqb c.xid xid) refl refl e (any_numbered at number xid calls h.1)
  where
    rest : Bool
    rest = list_any (λ (y : PendingCall). eqb y.number number && eqb y.xid xid) calls

    by : (a b : Bool) → eqb c.number number ≡ a → eqb c.xid xid ≡ b → ((a && b) || rest) ≡ true → (rest ≡ true → (n : ℕ) × (number ≡ n + 1) × (xid ≡ at n)) → (n : ℕ) × (number ≡ n + 1) × (xid ≡ at n)
    by true true n x e more = (let own = h.0 in (own.0, sym (eqb-true c.number number n) ∙ own.1, sym (eqb-true c.xid xid x) ∙ own.2))
    by true false n x e more = more e
    by false b n x e more = more e

unread : (reads : List PendingRead) (number n : ℕ) → is_read reads number ≡ true → AllByRecursion (λ (r : PendingRead). r.number ≢ number) (drop n reads)
unread reads number n e = each_drop (λ (r : PendingRead). r.number ≢ number) n reads (all reads e)
  where
    all : (reads : List PendingRead) → not (list_any (λ (r : PendingRead). eqb r.number number) reads) ≡ true → AllByRecursion (λ (r : PendingRead). r.number ≢ number) reads
    all [] e = tt
    all (r ∷ reads) e = by (eqb r.number number) refl e (all reads)
      where
        by : (b : Bool) → eqb r.number number ≡ b → not (b || list_any (λ (x : PendingRead). eqb x.number number) reads) ≡ true → (not (list_any (λ (x : PendingRead). eqb x.number number) reads) ≡ true → AllByRecursion (λ (x : PendingRead). x.number ≢ number) reads)
            → AllByRecursion (λ (x : PendingRead). x.number ≢ number) (r ∷ reads)
        by true is e more = absurd cc
        by false is e more = ((λ same. absurd (let wrong : true ≡ false = sym (eq-eqb r.number number same) ∙ is in cc)), more e)

waiting_kept : (regions : List Region) (at : ℕ → ℕ) (number xid n : ℕ) (calls : List PendingCall) (reads : List PendingRead) → Rise at → AllByRecursion (IsNumbered at) calls → number ≡ n + 1 → xid ≡ at n → AllByRecursion (λ (r : PendingRead). r.number ≢ number) reads
    → AllByRecursion (ReadOffered regions calls) reads → AllByRecursion (ReadOffered regions (filter (λ (c : PendingCall). not (eqb c.xid xid)) calls)) reads
waiting_kept regions at number xid n calls [] rise numbers counted own others h = tt
waiting_kept regions at number xid n calls (r ∷ reads) rise numbers counted own others h = (
  read_kept regions (IsNumbered at) (λ (c : PendingCall). not (eqb c.xid xid)) calls r numbers
      (λ c is same. ap (λ (b : Bool). not b) (ne_eqb c.xid xid (λ e. others.0 (let sends : is.0 ≡ n = one_send at is.0 n rise (sym is.2 ∙ e ∙ own) in let number_is = is.1 in omega (arith, sends, number_is, counted, same))))) h.0,
  waiting_kept regions at number xid n calls reads rise numbers counted own others.1 h.1,
)

pub accessed_execute : (opened : LinkParameters) (k : ClientState) (s : ServerState) (d all_up all_down : List FrameContent) (place : ℕ) (e : ExecutedCall) (r : ReadyCall) (rest : List ReadyCall) → AccessesAgree opened k s d all_up all_down place → s.ready ≡ r ∷ rest → e.xid ≡ r.xid
    → AreWhole s.reads s.calls s.ready → Rise (xid_of_send opened) → AllByRecursion (IsNumbered (xid_of_send opened)) s.calls → times e.xid (message_xids all_down) ≡ 0
    → AccessesAgree opened k (server_state_after opened s (CallExecuted e)) d all_up (all_down ++ server_frames opened s (CallExecuted e)) place
unfolding server_state_after server_frames
accessed_execute opened k s d all_up all_down place e r rest h first own whole rise numbers none =
    let w : AreWhole s.reads s.calls (r ∷ rest) = subst (AreWhole s.reads s.calls) first whole in
    let numbered = any_numbered (xid_of_send opened) r.number r.xid s.calls numbers w.0 in
    let answer = answer_of_target (offer_of s e.xid) s.down_max e.reply (target_of (call_of e.payload)) in
    says_more opened k s (server_state_after opened s (CallExecuted e)) d all_up all_down (answer_frames s e.xid (offer_of s e.xid) answer) place h
    (each_kept (CallOffered k.regions) (λ (c : PendingCall). not (eqb c.xid e.xid)) s.calls h.calls)
    (waiting_kept k.regions (xid_of_send opened) r.number e.xid numbered.0 s.calls (drop open_reads_max s.reads) rise numbers numbered.1 (own ∙ numbered.2) (unread s.reads r.number open_reads_max w.1) h.waiting)
    (answer_access k.regions all_down s e.xid (offer_of s e.xid) answer none (found_offered k.regions e.xid s.calls h.calls))

-- ---- A queue is written

pub accessed_written_down : (taken : ℕ) (opened : LinkParameters) (k : ClientState) (s : ServerState) (d all_up all_down : List FrameContent) (place : ℕ) → AccessesAgree opened k s d all_up all_down place
    → AccessesAgree opened k (server_state_after opened s (QueueWritten taken)) d all_up all_down place
unfolding server_state_after
accessed_written_down taken opened k s d all_up all_down place h = record { early = h.early; lives = h.lives; up_said = h.up_said; asked = h.asked; resent = h.resent; calls = h.calls; waiting = h.waiting; down_said = h.down_said }

-- ---- It is told something

pub accessed_told : (opened : LinkParameters) (k : ClientState) (s : ServerState) (d all_up all_down : List FrameContent) (place : ℕ) (what : Told) → AccessesAgree opened k s d all_up all_down place
    → AccessesAgree opened k (server_state_after opened s (ServerTold what)) d all_up all_down place
unfolding server_state_after
accessed_told opened k s d all_up all_down place what h = record { early = h.early; lives = h.lives; up_said = h.up_said; asked = h.asked; resent = h.resent; calls = h.calls; waiting = h.waiting; down_said = h.down_said }
