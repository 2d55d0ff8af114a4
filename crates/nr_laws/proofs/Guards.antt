-- What keeps both ends of a matched link from ending by a rule of the link: receives, requests, sinks, sizes, numbers.
use Rattle.nr_laws.proofs.OneChunk.{OneChunk}
use Rattle.std.proofs.Common.{◌≡◌, ℕ, ◌≤◌, ◌<◌, ◌^◌, min, Bool, true, false, cond, eqb, List, [], ◌∷◌, ◌++◌, length, map, take, drop, Option, Some, None, refl, arith}
use Rattle.std.proofs.Math.Nat.{min-le_right}
use Rattle.std.specs.List.{AllByRecursion, range_with_len}
use Rattle.nr_xdr.specs.Fields.{word_at}
use Rattle.nr_wire.specs.Constants.{OPCODE_WRITE}
use Rattle.nr_header.specs.declared.header.RdmaSegment.{RdmaSegment}
use Rattle.nr_header.specs.declared.header.ChunkLists.{ChunkLists}
use Rattle.nr_rpc.specs.declared.head.CallTarget.{CallTarget}
use Rattle.nr_rpc.specs.Reading.{call_of, target_of}
use Rattle.nr_link.specs.Output.{segment_count}
use Rattle.nr_reduce.proofs.OwnLimits.{ServerLimits}
use Rattle.nr_reduce.specs.declared.mark.LinkParameters.{LinkParameters}
use Rattle.nr_reduce.specs.declared.mark.Told.{Told}
use Rattle.nr_reduce.specs.declared.mark.Told.TheVariants.{Granted, Old}
use Rattle.nr_reduce.specs.Served.{ToldInRange}
use Rattle.nr_reduce.specs.Holds.{Answer, answer_message, first_chunk, no_segments, chunk_error}
use Rattle.nr_reduce.specs.History.{ExecutedCall}
use Rattle.nr_reduce.specs.Events.{RunEvent}
use Rattle.nr_reduce.specs.EndRules.{live, end_state_after}
use Rattle.nr_reduce.specs.ClientState.{ClientState, OutstandingCall, WaitingCall}
use Rattle.nr_reduce.specs.Client.{client_rules, initial_client}
use Rattle.nr_reduce.specs.ServerState.{ServerState, PendingRead, credit_word, credit_told, is_busy}
use Rattle.nr_reduce.specs.ServerFrames.{FrameEffect}
use Rattle.nr_reduce.specs.Server.{newly_open_reads, offer_of, answer_of_target, stag_named}
use Rattle.nr_laws.proofs.FrameContents.{FrameContent, request_frame, effect_frames, write_frames, answer_frames, tagged_frames, send_frames, errors_frames, IsTaken, IsPlainContent}
use Rattle.nr_laws.proofs.FrameContents.FrameContent.{HelloFrame, PartFrame, SendFrame, RequestFrame, TaggedFrame}
use Rattle.nr_laws.proofs.LinkInvariants.{Transit, WithinWindow}
use Rattle.nr_laws.proofs.ServerInvariant.{ServerAgrees}
use Rattle.nr_laws.proofs.Replies.{IsReply, AreReplies, answer_reply, chunk_error_reply}
use Rattle.nr_laws.proofs.ReadLimits.{AreWithin}
use Rattle.nr_laws.proofs.CallNumbers.{XidsFrom, NumberedCalls, HasOwnXid, IsNumbered}
use Rattle.nr_laws.proofs.AnsweredSteps.{Answered}
use Rattle.nr_laws.proofs.WritableOffers.{OfferFits}
use Rattle.nr_laws.proofs.ServerOutputs.{CallsFit, for_target, found_fits}
use Rattle.nr_laws.proofs.ServerOutput.{execution_frames}
use Rattle.nr_laws.proofs.Basics.{each_append}
use Rattle.nr_laws.proofs.AgreedSizes.{SizesAgree, matched_up, matched_down, matched_invalidates}
use Rattle.nr_laws.proofs.Outputs.{message_of_call}
use Rattle.nr_laws.proofs.SendFrames.{each_send}
use Rattle.nr_reduce.specs.StandingLaws.{xid_of_send}
use Rattle.nr_reduce.specs.Plans.{call_message}
use Rattle.nr_reduce.specs.Opening.{lengths_before}

-- a message of a client has the size of one, by what both sides agree on, version 1, a kind that a client sends, and at most one read chunk;
-- and it names no STag
abbrev pub ClientMessage : LinkParameters → List ℕ → Type 0
ClientMessage opened message = (16 ≤ length message) × (length message ≤ matched_up opened) × (word_at 4 message ≡ 1) × (word_at 12 message ≤ 1) × OneChunk message

abbrev pub ClientContent : LinkParameters → FrameContent → Type 0
ClientContent opened HelloFrame = Unit {0}
ClientContent opened (PartFrame named offset payload) = named ≡ false
ClientContent opened (SendFrame message) = ClientMessage opened message.bytes × (message.named ≡ None)
ClientContent opened (RequestFrame sink at size stag to) = Unit {0}
ClientContent opened (TaggedFrame last opcode stag to payload) = Unit {0}

-- so a client names no STag
pub content_plain : (opened : LinkParameters) (p : FrameContent) → ClientContent opened p → IsPlainContent p
content_plain opened HelloFrame h = tt
content_plain opened (PartFrame named offset payload) h = h
content_plain opened (SendFrame message) h = h.1
content_plain opened (RequestFrame sink at size stag to) h = tt
content_plain opened (TaggedFrame last opcode stag to payload) h = tt

-- a message of a server too, and it grants at most `credit`; its tagged segments are of Writes
abbrev pub ServerContent : (most credit : ℕ) → FrameContent → Type 0
ServerContent most credit HelloFrame = Unit {0}
ServerContent most credit (PartFrame named offset payload) = Unit {0}
ServerContent most credit (SendFrame message) = IsReply most credit message.bytes
ServerContent most credit (RequestFrame sink at size stag to) = Unit {0}
ServerContent most credit (TaggedFrame last opcode stag to payload) = opcode ≡ OPCODE_WRITE

-- the messages of calls are so, and begin with their xids
abbrev pub IsAsked : LinkParameters → OutstandingCall → Type 0
IsAsked opened o = ClientMessage opened (message_of_call opened o) × HasOwnXid opened o

abbrev pub AreSized : LinkParameters → List OutstandingCall → Type 0
AreSized opened os = AllByRecursion (IsAsked opened) os

-- the message of a call that waits to be sent again has the size of one too, whatever its STags are, by what an earlier hello agreed on
abbrev pub IsSizedResend : LinkParameters → WaitingCall → Type 0
IsSizedResend opened w = (wished stag : ℕ) → (16 ≤ length (call_message w.xid wished stag w.plan)) × (length (call_message w.xid wished stag w.plan) ≤ (lengths_before opened.agreed).up)

abbrev pub AreSizedResends : LinkParameters → List WaitingCall → Type 0
AreSizedResends opened ws = AllByRecursion (IsSizedResend opened) ws

pub record Guards (opened : LinkParameters) (k : ClientState) (s : ServerState) (u d all_up all_down : List FrameContent) (w : Transit) (up : ℕ) : Type 0 where
  pub server : ServerAgrees opened k s w up
  pub window : WithinWindow opened k
  pub sizes : SizesAgree opened k s u
  pub up_said : AllByRecursion (ClientContent opened) all_up
  pub down_said : AllByRecursion (ServerContent (matched_down opened) opened.granted) all_down
  pub names : AllByRecursion (IsTaken (matched_invalidates opened)) all_down
  pub credit : s.credit ≤ opened.granted
  pub calls : AreSized opened k.outstanding
  pub resends : AreSizedResends opened k.waiting
  pub again : k.has_hello ≡ true → (lengths_before opened.agreed).up ≤ matched_up opened
  pub within : AreWithin s.reads s.regions
  pub sinks : length s.regions ≤ s.received.sends
  pub xids : XidsFrom (xid_of_send opened) 0 all_up
  pub no_hello_numbered : k.has_hello ≡ false → NumberedCalls (xid_of_send opened) 0 k.outstanding
  pub numbers : AllByRecursion (IsNumbered (xid_of_send opened)) s.calls
  pub answered : Answered (xid_of_send opened) k s u d all_down w
  pub reached : (es : List RunEvent) × (end_state_after (client_rules opened) (initial_client opened) es ≡ live k)

-- ---- What is granted

-- its credit word is at most what it was told to grant
pub word_most : (k : ServerState) → credit_word k ≤ k.credit
unfolding credit_word
word_most k = by (is_busy k)
  where
    by : (b : Bool) → cond b (min k.low k.credit) k.credit ≤ k.credit
    by true = min-le_right k.low k.credit
    by false = omega arith

pub told_most : (opened : LinkParameters) (credits : ℕ) (what : Told) → ToldInRange opened what → credits ≤ opened.granted → credit_told credits what ≤ opened.granted
told_most opened credits (Granted granted) h le = h.1
told_most opened credits (Old xid at) h le = le

one_less : (most n m : ℕ) → n ≤ m → (p : FrameContent) → ServerContent most n p → ServerContent most m p
one_less most n m le HelloFrame h = tt
one_less most n m le (PartFrame named offset payload) h = tt
one_less most n m le (SendFrame message) h = (let credits = h.credits in record { least = h.least; size = h.size; credits = omega (arith, credits, le); read = h.read })
one_less most n m le (RequestFrame sink at size stag to) h = tt
one_less most n m le (TaggedFrame last opcode stag to payload) h = h

pub credit_down : (most n m : ℕ) → n ≤ m → (ps : List FrameContent) → AllByRecursion (ServerContent most n) ps → AllByRecursion (ServerContent most m) ps
credit_down most n m le [] h = tt
credit_down most n m le (p ∷ ps) h = (one_less most n m le p h.0, credit_down most n m le ps h.1)

-- ---- What is sent

pub send_down : (most credit : ℕ) (named : Option ℕ) (message : List ℕ) → IsReply most credit message → AllByRecursion (ServerContent most credit) (send_frames named message)
send_down most credit named message h = each_send (ServerContent most credit) named (λ offset payload. tt) message h

sends_down_lem : (most credit : ℕ) (messages : List (List ℕ)) → AreReplies most credit messages → AllByRecursion (ServerContent most credit) (errors_frames messages)
sends_down_lem most credit [] h = tt
sends_down_lem most credit (m ∷ messages) h = each_append (ServerContent most credit) (send_frames None m) (errors_frames messages) (send_down most credit None m h.0) (sends_down_lem most credit messages h.1)

reads_down : (most credit : ℕ) (reads : List PendingRead) → AllByRecursion (ServerContent most credit) (map request_frame reads)
reads_down most credit [] = tt
reads_down most credit (r ∷ reads) = (tt, reads_down most credit reads)

pub step_down : (most credit : ℕ) (s : FrameEffect) → AreReplies most credit s.errors → AllByRecursion (ServerContent most credit) (effect_frames s)
step_down most credit s h = each_append (ServerContent most credit) (errors_frames s.errors) (map request_frame (newly_open_reads s)) (sends_down_lem most credit s.errors h) (reads_down most credit (newly_open_reads s))

cuts_down : (most credit stag : ℕ) (last : ℕ → Bool) (at : ℕ → ℕ) (payload : ℕ → List ℕ) (is : List ℕ) → AllByRecursion (ServerContent most credit) (map (λ i. TaggedFrame (last i) OPCODE_WRITE stag (at i) (payload i)) is)
cuts_down most credit stag last at payload [] = tt
cuts_down most credit stag last at payload (i ∷ is) = (refl, cuts_down most credit stag last at payload is)

fills_down : (most credit : ℕ) (chunk : List RdmaSegment) (bytes : List ℕ) → AllByRecursion (ServerContent most credit) (write_frames chunk bytes)
unfolding tagged_frames
fills_down most credit [] bytes = tt
fills_down most credit (p ∷ chunk) bytes =
    each_append (ServerContent most credit) (cond (eqb (min p.length (length bytes)) 0) [] (tagged_frames OPCODE_WRITE p.handle p.offset (take p.length bytes))) (write_frames chunk (drop p.length bytes))
    (by (eqb (min p.length (length bytes)) 0)) (fills_down most credit chunk (drop p.length bytes))
  where
    by : (b : Bool) → AllByRecursion (ServerContent most credit) (cond b [] (tagged_frames OPCODE_WRITE p.handle p.offset (take p.length bytes)))
    by true = tt
    by false = cuts_down most credit p.handle _ _ _ (range_with_len 0 (segment_count (take p.length bytes)))

answer_down : (most : ℕ) (k : ServerState) → ServerLimits k → k.down_max ≤ most → (xid : ℕ) (offer : ChunkLists) (reply : List ℕ) (t : Option CallTarget) (o : Option Answer) → xid < 2 ^ 32 → credit_word k < 2 ^ 32 → answer_of_target offer k.down_max reply t ≡ o → OfferFits offer → AllByRecursion (ServerContent most (credit_word k)) (answer_frames k xid offer o)
answer_down most k l room xid offer reply t None word lt e fits =
    let down = l.down.0 in
    send_down most (credit_word k) None (chunk_error xid (credit_word k)) (chunk_error_reply most xid (credit_word k) (omega (arith, down, room)) word lt)
answer_down most k l room xid offer reply t (Some a) word lt e fits =
    let target = for_target offer k.down_max reply t a e in
    let one = answer_reply offer most k.down_max target.0 target.1 target.2 xid (credit_word k) reply a l.down room word lt fits target.3 in
    each_append (ServerContent most (credit_word k)) (write_frames (first_chunk offer.write) a.moved) (cond a.long (write_frames (no_segments offer.reply) a.stream) [] ++ send_frames (stag_named k.invalidates offer) (answer_message xid (credit_word k) offer a))
    (fills_down most (credit_word k) (first_chunk offer.write) a.moved)
    (each_append (ServerContent most (credit_word k)) (cond a.long (write_frames (no_segments offer.reply) a.stream) []) (send_frames (stag_named k.invalidates offer) (answer_message xid (credit_word k) offer a)) (by a.long) (send_down most (credit_word k) (stag_named k.invalidates offer) (answer_message xid (credit_word k) offer a) one))
  where
    by : (b : Bool) → AllByRecursion (ServerContent most (credit_word k)) (cond b (write_frames (no_segments offer.reply) a.stream) [])
    by true = fills_down most (credit_word k) (no_segments offer.reply) a.stream
    by false = tt

pub execution_down : (most : ℕ) (k : ServerState) (e : ExecutedCall) → ServerLimits k → k.down_max ≤ most → e.xid < 2 ^ 32 → credit_word k < 2 ^ 32 → CallsFit k.calls → AllByRecursion (ServerContent most (credit_word k)) (execution_frames k e)
execution_down most k e l room word lt h = answer_down most k l room e.xid (offer_of k e.xid) e.reply (target_of (call_of e.payload)) _ word lt refl (found_fits e.xid k.calls h)
