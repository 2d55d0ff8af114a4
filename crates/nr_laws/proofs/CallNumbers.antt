-- The Sends of a client have the xids of its calls, one after the other; so no call that is pending at the server has the xid of a Send
-- that is received.
use Rattle.std.proofs.Common.{◌≡◌, ℕ, ◌+◌, Bool, false, not, ◌||◌, eqb, List, [], ◌∷◌, ◌++◌, length, map, Ok, refl, subst, ◌∙◌, arith, None, ◌<◌, ap, ◌≤◌, ◌⊎◌, inl, inr, zero, suc}
use Rattle.std.specs.List.{AllByRecursion, list_any, range_with_len}
use Rattle.std.proofs.lemmas.Bool.{ne_eqb, cases_lt}
use Rattle.nr_xdr.specs.Fields.{word_at}
use Rattle.nr_wire.specs.Segment.Segment.{Tagged}
use Rattle.nr_link.specs.Frames.{Frame}
use Rattle.nr_link.specs.Ending.{frame_segment}
use Rattle.nr_reduce.specs.declared.mark.LinkParameters.{LinkParameters}
use Rattle.nr_reduce.specs.ClientState.{OutstandingCall}
use Rattle.nr_reduce.specs.ServerState.{PendingCall, ServerState}
use Rattle.nr_reduce.specs.ServerMessages.{verdict}
use Rattle.nr_reduce.specs.ServerMessages.Verdict.{MakesPending}
use Rattle.nr_reduce.specs.ServerFrames.{frame_effect}
use Rattle.nr_laws.proofs.FrameContents.{SentMessage, CompletesMessage, last_segment, FrameContent, total_of, sends_in, part_segment, send_frames, calls_frames, part_frame, last_part, last_index}
use Rattle.nr_laws.proofs.FrameContents.FrameContent.{HelloFrame, PartFrame, SendFrame, RequestFrame, TaggedFrame}
use Rattle.nr_laws.proofs.LinkInvariants.{AreAtMost}
use Rattle.nr_laws.proofs.PendingSends.{verdict_new}
use Rattle.nr_laws.proofs.Basics.{each_append, each_kept}
use Rattle.nr_laws.proofs.EachEffect.{held_messages, held_responses, send_effect, tagged_effect_lem, part_effect}
use Rattle.nr_laws.proofs.Outputs.{message_of_call}
use Rattle.nr_laws.proofs.SendFrames.{send_counts}

-- the messages among some frames have the xids of these Sends, from a number on
abbrev pub XidsFrom : (xid : ℕ → ℕ) → ℕ → List FrameContent → Type 0
XidsFrom xid n [] = Unit {0}
XidsFrom xid n (HelloFrame ∷ ps) = XidsFrom xid n ps
XidsFrom xid n (PartFrame named offset payload ∷ ps) = XidsFrom xid n ps
XidsFrom xid n (SendFrame message ∷ ps) = (word_at 0 message.bytes ≡ xid n) × XidsFrom xid (n + 1) ps
XidsFrom xid n (RequestFrame sink at size stag to ∷ ps) = XidsFrom xid n ps
XidsFrom xid n (TaggedFrame last opcode stag to payload ∷ ps) = XidsFrom xid n ps

pub xids_append : (xid : ℕ → ℕ) (n : ℕ) (ps qs : List FrameContent) → XidsFrom xid n ps → XidsFrom xid (n + total_of sends_in ps) qs → XidsFrom xid n (ps ++ qs)
xids_append xid n [] qs h k = subst (λ (m : ℕ). XidsFrom xid m qs) (omega arith) k
xids_append xid n (HelloFrame ∷ ps) qs h k = xids_append xid n ps qs h (subst (λ (m : ℕ). XidsFrom xid m qs) (omega arith) k)
xids_append xid n (PartFrame named offset payload ∷ ps) qs h k = xids_append xid n ps qs h (subst (λ (m : ℕ). XidsFrom xid m qs) (omega arith) k)
xids_append xid n (SendFrame message ∷ ps) qs h k = (h.0, xids_append xid (n + 1) ps qs h.1 (subst (λ (m : ℕ). XidsFrom xid m qs) (omega arith) k))
xids_append xid n (RequestFrame sink at size stag to ∷ ps) qs h k = xids_append xid n ps qs h (subst (λ (m : ℕ). XidsFrom xid m qs) (omega arith) k)
xids_append xid n (TaggedFrame last opcode stag to payload ∷ ps) qs h k = xids_append xid n ps qs h (subst (λ (m : ℕ). XidsFrom xid m qs) (omega arith) k)

pub xids_at : (xid : ℕ → ℕ) (n : ℕ) (ps : List FrameContent) (message : SentMessage) (qs : List FrameContent) → XidsFrom xid n (ps ++ SendFrame message ∷ qs) → word_at 0 message.bytes ≡ xid (n + total_of sends_in ps)
xids_at xid n [] message qs h = h.0 ∙ ap xid (omega arith)
xids_at xid n (HelloFrame ∷ ps) message qs h = xids_at xid n ps message qs h ∙ ap xid (omega arith)
xids_at xid n (PartFrame named offset payload ∷ ps) message qs h = xids_at xid n ps message qs h ∙ ap xid (omega arith)
xids_at xid n (SendFrame m ∷ ps) message qs h = xids_at xid (n + 1) ps message qs h.1 ∙ ap xid (omega arith)
xids_at xid n (RequestFrame sink at size stag to ∷ ps) message qs h = xids_at xid n ps message qs h ∙ ap xid (omega arith)
xids_at xid n (TaggedFrame last opcode stag to payload ∷ ps) message qs h = xids_at xid n ps message qs h ∙ ap xid (omega arith)

-- outstanding calls of which a number, the xid or that of the Send, is the one at a place, and at the next one from call to call
abbrev pub NumberedBy : (OutstandingCall → ℕ) → (at : ℕ → ℕ) → ℕ → List OutstandingCall → Type 0
NumberedBy number at n [] = Unit {0}
NumberedBy number at n (o ∷ os) = (number o ≡ at n) × NumberedBy number at (n + 1) os

abbrev pub NumberedCalls : (xid : ℕ → ℕ) → ℕ → List OutstandingCall → Type 0
NumberedCalls xid n os = NumberedBy (λ (o : OutstandingCall). o.xid) xid n os

pub numbered_push : (number : OutstandingCall → ℕ) (at : ℕ → ℕ) (n : ℕ) (os : List OutstandingCall) (o : OutstandingCall) → NumberedBy number at n os → number o ≡ at (n + length os) → NumberedBy number at n (os ++ o ∷ [])
numbered_push number at n [] o h is = (is ∙ ap at (omega arith), tt)
numbered_push number at n (y ∷ os) o h is = (h.0, numbered_push number at (n + 1) os o h.1 (is ∙ ap at (omega arith)))

pub numbered_map : (number : OutstandingCall → ℕ) (f : OutstandingCall → OutstandingCall) (at : ℕ → ℕ) (n : ℕ) (os : List OutstandingCall) → ((o : OutstandingCall) → number (f o) ≡ number o) → NumberedBy number at n os → NumberedBy number at n (map f os)
numbered_map number f at n [] same h = tt
numbered_map number f at n (o ∷ os) same h = (same o ∙ h.0, numbered_map number f at (n + 1) os same h.1)

abbrev pub HasOwnXid : LinkParameters → OutstandingCall → Type 0
HasOwnXid opened o = word_at 0 (message_of_call opened o) ≡ o.xid

pub send_xids_from : (xid : ℕ → ℕ) (n : ℕ) (message : List ℕ) → word_at 0 message ≡ xid n → XidsFrom xid n (send_frames None message)
unfolding send_frames
send_xids_from xid n message own = by (range_with_len 0 (last_index message))
  where
    by : (is : List ℕ) → XidsFrom xid n (map (part_frame None message) is ++ SendFrame (last_part None message) ∷ [])
    by [] = (own, tt)
    by (i ∷ is) = by is

pub xids_asked : (opened : LinkParameters) (xid : ℕ → ℕ) (n : ℕ) (os : List OutstandingCall) → NumberedCalls xid n os → AllByRecursion (HasOwnXid opened) os → XidsFrom xid n (calls_frames opened os)
xids_asked opened xid n [] h own = tt
xids_asked opened xid n (o ∷ os) h own =
    xids_append xid n (send_frames None (message_of_call opened o)) (calls_frames opened os) (send_xids_from xid n (message_of_call opened o) (own.0 ∙ h.0))
    (subst (λ (m : ℕ). XidsFrom xid m (calls_frames opened os)) (omega (arith, send_counts sends_in 1 (λ named offset payload. refl) (λ m. refl) None (message_of_call opened o))) (xids_asked opened xid (n + 1) os h.1 own.1))

-- ---- Calls at the server

-- the xids of a client rise in the order of its Sends
abbrev pub Rise : (ℕ → ℕ) → Type 0
Rise xid = (n m : ℕ) → n < m → xid n < xid m

pub one_send : (xid : ℕ → ℕ) (n m : ℕ) → Rise xid → xid n ≡ xid m → n ≡ m
one_send xid n m rise same = by (cases_lt n m) (cases_lt m n)
  where
    by : (n < m) ⊎ (m ≤ n) → (m < n) ⊎ (n ≤ m) → n ≡ m
    by (inl lt) other = (let less = rise n m lt in absurd (omega (arith, same, less)))
    by (inr le) (inl lt) = (let less = rise m n lt in absurd (omega (arith, same, less)))
    by (inr le) (inr ge) = omega (arith, le, ge)

-- from 1 on
pub above_sends : (xid : ℕ → ℕ) (n : ℕ) → Rise xid → 1 ≤ xid 0 → n + 1 ≤ xid n
above_sends xid zero rise one = omega (arith, one)
above_sends xid (suc n) rise one = (let before = above_sends xid n rise one in let less = rise n (suc n) (omega arith) in omega (arith, before, less))

-- a pending call has the xid of its Send
abbrev pub IsNumbered : (ℕ → ℕ) → PendingCall → Type 0
IsNumbered xid c = (n : ℕ) × (c.number ≡ n + 1) × (c.xid ≡ xid n)

pub numbered_send : (xid : ℕ → ℕ) (k : ServerState) (f : Frame) (message : SentMessage) → CompletesMessage k.received message → word_at 0 message.bytes ≡ xid k.received.sends → AllByRecursion (IsNumbered xid) k.calls
    → frame_segment f ≡ Ok (last_segment k.received.sends message) → AllByRecursion (IsNumbered xid) (frame_effect k f).calls
numbered_send xid k f message completes own h is =
    send_effect k Good (λ s. AllByRecursion (IsNumbered xid) s.calls) (held_messages k Good (λ calls reads regions. AllByRecursion (IsNumbered xid) calls) h pending) f message completes own is
  where
    Good : List ℕ → Type 0
    Good m = word_at 0 m ≡ xid k.received.sends

    pending : (place : ℕ) (message : List ℕ) (c : PendingCall) → Good message → verdict k message ≡ MakesPending c → AllByRecursion (IsNumbered xid) (k.calls ++ c ∷ [])
    pending place message c own is =
        let new = verdict_new k message c is in
        each_append (IsNumbered xid) k.calls (c ∷ []) h ((k.received.sends, new.0.number, new.0.own ∙ own), tt)

-- a segment of a Send that isn't its last
pub numbered_part : (xid : ℕ → ℕ) (k : ServerState) (f : Frame) (offset : ℕ) (payload : List ℕ) → AllByRecursion (IsNumbered xid) k.calls → frame_segment f ≡ Ok (part_segment k.received.sends offset payload) → AllByRecursion (IsNumbered xid) (frame_effect k f).calls
numbered_part xid k f offset payload h is = part_effect k (λ s. AllByRecursion (IsNumbered xid) s.calls) h f offset payload is

pub numbered_tagged : (xid : ℕ → ℕ) (k : ServerState) (f : Frame) (last : Bool) (opcode stag to : ℕ) (payload : List ℕ) → AllByRecursion (IsNumbered xid) k.calls → frame_segment f ≡ Ok (Tagged last opcode stag to payload) → AllByRecursion (IsNumbered xid) (frame_effect k f).calls
numbered_tagged xid k f last opcode stag to payload h is =
    tagged_effect_lem k (λ s. AllByRecursion (IsNumbered xid) s.calls)
    (held_responses k (λ calls reads regions. AllByRecursion (IsNumbered xid) calls) h (λ c s g. each_kept (IsNumbered xid) (λ other. not (eqb other.number c.number)) s.calls g) (λ r reads is. h)) f last opcode stag to payload is

-- none of these has the xid of the next Send
pub none_pending : (xid : ℕ → ℕ) (n x : ℕ) (cs : List PendingCall) → Rise xid → AllByRecursion (IsNumbered xid) cs → AreAtMost (λ (c : PendingCall). c.number) n cs → x ≡ xid n → list_any (λ (c : PendingCall). eqb c.xid x) cs ≡ false
none_pending xid n x [] rise h below is = refl
none_pending xid n x (c ∷ cs) rise h below is =
    let own = h.0 in
    let lt : own.0 < n = (let number = own.1 in let most = below.0 in omega (arith, number, most)) in
    let less : xid own.0 < xid n = rise own.0 n lt in
    let is_own : c.xid ≡ xid own.0 = own.2 in
    λ i. ne_eqb c.xid x (λ e. omega (arith, e, is, is_own, less)) i || none_pending xid n x cs rise h.1 below.1 is i
