-- A server of a matched link ends at a frame only by a refusal of the frame's effect; else the guards are kept.
use Rattle.std.specs.Prelude.{length}
use Rattle.nr_laws.proofs.SinkCount.{count_send, count_tagged}
use Rattle.std.proofs.Common.{◌≡◌, ℕ, ◌+◌, ◌≤◌, ◌<◌, ◌^◌, Bool, true, List, [], ◌∷◌, ◌++◌, None, Result, Ok, refl, sym, ap, subst, ◌∙◌, arith, cond, eqb, ◌||◌, false, Some, map}
use Rattle.std.specs.List.{AllByRecursion}
use Rattle.nr_xdr.specs.Item.{IsBytes}
use Rattle.nr_xdr.specs.Fields.{word_at}
use Rattle.nr_wire.specs.declared.hello.Side.TheVariants.{Initiator}
use Rattle.nr_wire.specs.Segment.{Segment}
use Rattle.nr_wire.specs.Segment.Segment.{Tagged}
use Rattle.nr_link.specs.Frames.{Frame, is_hello}
use Rattle.nr_link.specs.Ending.{frame_segment}
use Rattle.nr_reduce.specs.declared.mark.LinkParameters.{LinkParameters}
use Rattle.nr_reduce.specs.Opening.{IsOpened}
use Rattle.nr_reduce.specs.Events.RunEvent.{FrameReceived}
use Rattle.nr_reduce.specs.ClientState.{ClientState}
use Rattle.nr_reduce.specs.ServerState.{ServerState, credit_word}
use Rattle.nr_reduce.specs.ServerReads.{is_over}
use Rattle.nr_reduce.specs.ServerFrames.{FrameEffect, effect_in, frame_effect}
use Rattle.nr_reduce.specs.Server.{server_end, server_state_after, refusal_end, with_own_hello}
use Rattle.nr_laws.proofs.FrameContents.{FrameContent, frame_bytes, effect_frames, server_frames, Carries, SentMessage, last_segment, part_segment, written_segment, IsTaken, written_last}
use Rattle.nr_laws.proofs.FrameContents.FrameContent.{HelloFrame, PartFrame, SendFrame, TaggedFrame}
use Rattle.nr_laws.proofs.LinkInvariants.{Transit, TotalsAgree, ReadsAgree, AreResponses}
use Rattle.nr_laws.proofs.TotalsAtServer.{totals_hello_up, after_is_lem, step_is, with_by}
use Rattle.nr_laws.proofs.ReadsAtClient.{reads_says_down}
use Rattle.nr_laws.proofs.ServerInvariant.{ServerAgrees, server_takes_send, server_takes_response, server_takes_part}
use Rattle.nr_laws.proofs.Replies.{replies_send, replies_tagged, AreReplies}
use Rattle.nr_laws.proofs.ReadLimits.{AreWithin, within_send, within_tagged, within_closed}
use Rattle.nr_laws.proofs.AgreeingEnds.{EndsAgree, taken_up, not_refused_lem, says_hello, says_frame, after_hello, waits_greeted, payload_bytes, message_bytes}
use Rattle.nr_laws.proofs.CallNumbers.{XidsFrom, IsNumbered, xids_at, numbered_send, numbered_tagged}
use Rattle.nr_reduce.specs.Plans.{one_if}
use Rattle.nr_reduce.specs.ServerState.{PendingCall}
use Rattle.std.specs.List.{find, list_any}
use Rattle.std.proofs.lemmas.Bool.{eq-eqb}
use Rattle.nr_laws.proofs.LinkInvariants.{calls_sent}
use Rattle.nr_laws.proofs.FrameContents.{total_of, sends_in}
use Rattle.nr_laws.proofs.Totals.{total_append}
use Rattle.nr_laws.proofs.ClientFrame.{calls_said}
use Rattle.nr_laws.proofs.AnsweredCalls.{times, call_xids, effect_xids, pending_send, pending_tagged, message_xids}
use Rattle.nr_laws.proofs.AnsweredSteps.{Answered, answered_send, answered_other}
use Rattle.nr_reduce.proofs.OwnLimits.{ServerLimits, server_event}
use Rattle.nr_laws.proofs.FirstHellos.{first_hello}
use Rattle.nr_laws.proofs.AgreedSizes.{SizesAgree, matched_down, down_limited, server_keeps_sizes, server_takes_sizes, matched_invalidates}
use Rattle.nr_laws.proofs.Guards.{ClientContent, ServerContent, Guards, step_down, credit_down, word_most}
use Rattle.nr_laws.proofs.Basics.{each_append}
use Rattle.nr_laws.proofs.Words.{word_below_lem}
use Rattle.nr_laws.proofs.PendingFrames.{later_sinks}
use Rattle.nr_reduce.proofs.OwnStags.{closed_length}
use Rattle.nr_laws.proofs.SendFrames.{at_front}
use Rattle.nr_laws.proofs.EachEffect.{part_effect}
use Rattle.nr_laws.proofs.ReadContents.{segment_is}
use Rattle.nr_laws.proofs.NamedFrames.{effect_taken, is_taken}
use Rattle.nr_reduce.specs.StandingLaws.{xid_of_send}

pub each_at : {X : Type 0} (P : X → Type 0) (xs : List X) (y : X) (ys : List X) → AllByRecursion P (xs ++ y ∷ ys) → P y
each_at P [] y ys h = h.0
each_at P (x ∷ xs) y ys h = each_at P xs y ys h.1

-- what the frame at the front is
pub front_up : (opened : LinkParameters) (k : ClientState) (s : ServerState) (u d all_up all_down : List FrameContent) (w : Transit) (place : ℕ) (p : FrameContent) (rest : List FrameContent) → EndsAgree opened k s u d all_up all_down w → Guards opened k s u d all_up all_down w place → w.up ≡ p ∷ rest → ClientContent opened p
front_up opened k s u d all_up all_down w place p rest l g first =
    each_at (ClientContent opened) u p (rest ++ w.queued_up) (subst (AllByRecursion (ClientContent opened)) (sym l.parts_up ∙ ap (λ (ps : List FrameContent). u ++ (ps ++ w.queued_up)) first) g.up_said)

-- and its xid, if it is a message
pub front_xid : (opened : LinkParameters) (k : ClientState) (s : ServerState) (u d all_up all_down : List FrameContent) (w : Transit) (place : ℕ) (message : SentMessage) (rest : List FrameContent) → EndsAgree opened k s u d all_up all_down w → Guards opened k s u d all_up all_down w place → w.up ≡ SendFrame message ∷ rest → word_at 0 message.bytes ≡ xid_of_send opened s.received.sends
front_xid opened k s u d all_up all_down w place message rest l g first =
    xids_at (xid_of_send opened) 0 u message (rest ++ w.queued_up) (subst (XidsFrom (xid_of_send opened) 0) (sym l.parts_up ∙ ap (λ (ps : List FrameContent). u ++ (ps ++ w.queued_up)) first) g.xids)
    ∙ ap (xid_of_send opened) (let sends = l.sends_up in omega (arith, sends))

guards_up : (opened : LinkParameters) (k : ClientState) (s t : ServerState) (u d all_up all_down : List FrameContent) (w : Transit) (place end : ℕ) (p : FrameContent) (rest said : List FrameContent) → Guards opened k s u d all_up all_down w place
    → ServerAgrees opened k t (taken_up w rest said) end → AllByRecursion (ServerContent (matched_down opened) opened.granted) said → AllByRecursion (IsTaken (matched_invalidates opened)) said → SizesAgree opened k t (u ++ p ∷ []) → t.credit ≡ s.credit → AreWithin t.reads t.regions → length t.regions ≤ t.received.sends → AllByRecursion (IsNumbered (xid_of_send opened)) t.calls → Answered (xid_of_send opened) k t (u ++ p ∷ []) d (all_down ++ said) (taken_up w rest said)
    → Guards opened k t (u ++ p ∷ []) d all_up (all_down ++ said) (taken_up w rest said) end
guards_up opened k s t u d all_up all_down w place end p rest said g server down names sizes credit within sinks numbers answered = record {
  server = server;
  window = g.window;
  sizes = sizes;
  up_said = g.up_said;
  down_said = each_append (ServerContent (matched_down opened) opened.granted) all_down said g.down_said down;
  names = each_append (IsTaken (matched_invalidates opened)) all_down said g.names names;
  credit = omega (arith, credit, g.credit);
  calls = g.calls;
  resends = g.resends;
  again = g.again;
  within = within;
  sinks = sinks;
  xids = g.xids;
  no_hello_numbered = g.no_hello_numbered;
  numbers = numbers;
  answered = answered;
  reached = g.reached;
}

-- a pending call has the xid of a call that was received, which is a word
pub sent_most : (k : ClientState) → calls_sent k ≤ k.sends
sent_most k = by k.has_hello
  where
    by : (b : Bool) → cond b k.sends 0 ≤ k.sends
    by true = omega arith
    by false = omega arith

found_times : (n : ℕ) (cs : List PendingCall) (c : PendingCall) → find (λ (y : PendingCall). eqb y.number n) cs ≡ Some c → 1 ≤ times c.xid (call_xids cs)
found_times n [] c e = absurd cc
found_times n (y ∷ cs) c e = by (eqb y.number n) e (found_times n cs c)
  where
    by : (b : Bool) → cond b (Some y) (find (λ (z : PendingCall). eqb z.number n) cs) ≡ Some c → (find (λ (z : PendingCall). eqb z.number n) cs ≡ Some c → 1 ≤ times c.xid (call_xids cs)) → 1 ≤ times c.xid (call_xids (y ∷ cs))
    by true e later =
        let same : y ≡ c = cc in
        omega (arith, ap one_if (eq-eqb y.xid c.xid (ap (λ (z : PendingCall). z.xid) same)))
    by false e later = omega (arith, later e)

-- a number that is among those of the calls of a server is a word
counted_word : (opened : LinkParameters) (k : ClientState) (s : ServerState) (u d all_up all_down : List FrameContent) (w : Transit) (place xid : ℕ) → EndsAgree opened k s u d all_up all_down w → Guards opened k s u d all_up all_down w place → 1 ≤ times xid (call_xids s.calls)
    → xid < 2 ^ 32
counted_word opened k s u d all_up all_down w place xid l g some =
    let sent = calls_said opened k s u d all_up all_down w l in
    let few : s.received.sends ≤ k.sends = omega (arith, sent, sent_most k, l.sends_up, ap (total_of sends_in) l.parts_up, total_append sends_in u (w.up ++ w.queued_up)) in
    let own = g.answered.given xid (omega (arith, some)) in
    let same : xid ≡ xid_of_send opened own.0 = own.2 in
    let below : own.0 < s.received.sends = own.1 in
    omega (arith, same, g.answered.room own.0 (omega (arith, below, few)))

pub small_xid_lem : (opened : LinkParameters) (k : ClientState) (s : ServerState) (u d all_up all_down : List FrameContent) (w : Transit) (place n : ℕ) (c : PendingCall) → EndsAgree opened k s u d all_up all_down w → Guards opened k s u d all_up all_down w place
    → find (λ (y : PendingCall). eqb y.number n) s.calls ≡ Some c → c.xid < 2 ^ 32
small_xid_lem opened k s u d all_up all_down w place n c l g found = counted_word opened k s u d all_up all_down w place c.xid l g (found_times n s.calls c found)

any_times : (xid : ℕ) (cs : List PendingCall) → list_any (λ (c : PendingCall). eqb c.xid xid) cs ≡ true → 1 ≤ times xid (call_xids cs)
any_times xid [] e = absurd cc
any_times xid (c ∷ cs) e = by (eqb c.xid xid) e (any_times xid cs)
  where
    by : (b : Bool) → (b || list_any (λ (z : PendingCall). eqb z.xid xid) cs) ≡ true → (list_any (λ (z : PendingCall). eqb z.xid xid) cs ≡ true → 1 ≤ times xid (call_xids cs)) → 1 ≤ one_if b + times xid (call_xids cs)
    by true e later = omega arith
    by false e later = omega (arith, later e)

pub pending_word : (opened : LinkParameters) (k : ClientState) (s : ServerState) (u d all_up all_down : List FrameContent) (w : Transit) (place xid : ℕ) → EndsAgree opened k s u d all_up all_down w → Guards opened k s u d all_up all_down w place
    → list_any (λ (c : PendingCall). eqb c.xid xid) s.calls ≡ true → xid < 2 ^ 32
pending_word opened k s u d all_up all_down w place xid l g there = counted_word opened k s u d all_up all_down w place xid l g (any_times xid s.calls there)

-- the reasons of a server's refusal come from the effect of the frame
pub record ServerTakes (opened : LinkParameters) (k : ClientState) (s : ServerState) (u d all_up all_down : List FrameContent) (w : Transit) (p : FrameContent) (rest : List FrameContent) (f : Frame) : Type 0 where
  pub ends : server_end opened s (FrameReceived f) ≡ refusal_end f (frame_effect s f).refusal
  pub kept : server_end opened s (FrameReceived f) ≡ None → Guards opened k (server_state_after opened s (FrameReceived f)) (u ++ p ∷ []) d all_up (all_down ++ server_frames opened s (FrameReceived f)) (taken_up w rest (server_frames opened s (FrameReceived f))) f.end

within_after : (s : ServerState) (f : Frame) (r : Result Segment ℕ) → frame_segment f ≡ r → AreWithin (frame_effect s f).reads (frame_effect s f).regions → AreWithin (with_by s f r (effect_in s f r)).reads (with_by s f r (effect_in s f r)).regions
within_after s f r is h =
    let e = subst (λ (x : FrameEffect). AreWithin x.reads x.regions) (step_is s f r is) h in
    within_closed (is_over (effect_in s f r).calls (effect_in s f r).reads) f.end (effect_in s f r).reads (effect_in s f r).regions e

sinks_after : (s : ServerState) (f : Frame) (r : Result Segment ℕ) → frame_segment f ≡ r → (n : ℕ) → length (frame_effect s f).regions ≤ n → length (with_by s f r (effect_in s f r)).regions ≤ n
sinks_after s f r is n h =
    let e = subst (λ (x : FrameEffect). length x.regions ≤ n) (step_is s f r is) h in
    omega (arith, e, closed_length (is_over (effect_in s f r).calls (effect_in s f r).reads) f.end (effect_in s f r).regions)

pub takes_send : (opened : LinkParameters) (k : ClientState) (s : ServerState) (u d all_up all_down : List FrameContent) (w : Transit) (place : ℕ) (message : SentMessage) (rest : List FrameContent) (f : Frame) → IsOpened opened → EndsAgree opened k s u d all_up all_down w → Guards opened k s u d all_up all_down w place → 0 < length u → w.up ≡ SendFrame message ∷ rest
    → Carries false s.received.sends s.received.requests f (SendFrame message) → IsBytes f.bytes → f.bytes ≡ frame_bytes opened Initiator (written_segment s.received.sends s.received.requests (SendFrame message)) → place < f.end → ServerTakes opened k s u d all_up all_down w (SendFrame message) rest f
takes_send opened k s u d all_up all_down w place message rest f o l g received first piece bytes is lt =
    let segment : Segment = last_segment s.received.sends message in
    let reads : frame_segment f ≡ Ok segment = segment_is s.received.sends s.received.requests f (SendFrame message) segment piece refl in
    let completes = (at_front s.received.begun w.up w.queued_up (SendFrame message) rest first l.counts.whole_up).1 in
    let are_bytes = message_bytes s.received message completes l.bytes_up (payload_bytes (written_last s.received.sends message) (subst IsBytes is bytes)) in
    let size = (front_up opened k s u d all_up all_down w place (SendFrame message) rest l g first).0 in
    let t = server_takes_send opened k s w place f message rest g.server g.window first piece size.0 (omega (arith, size.1, g.sizes.server_up received)) lt in
    let says = says_frame opened s f piece.behind in
    let after = after_is_lem opened s f (Ok segment) piece.behind reads in
    let small : credit_word s < 2 ^ 32 = omega (arith, word_most s, g.credit, o.granted_fits) in
    let own = front_xid opened k s u d all_up all_down w place message rest l g first in
    let some : 0 < total_of sends_in w.up = omega (arith, ap (total_of sends_in) first) in
    let sent = calls_said opened k s u d all_up all_down w l in
    let fewer : s.received.sends < k.sends =
    omega (arith, some, sent, sent_most k, l.sends_up, ap (total_of sends_in) l.parts_up, total_append sends_in u (w.up ++ w.queued_up), total_append sends_in w.up w.queued_up) in
    let small_xid : word_at 0 message.bytes < 2 ^ 32 = omega (arith, own, g.answered.room s.received.sends fewer) in
    let pending = pending_send s f message completes small_xid reads in
    let effect = step_is s f (Ok segment) reads in
    let calls_are : call_xids (server_state_after opened s (FrameReceived f)).calls ≡ call_xids (frame_effect s f).calls = ap (λ (x : ServerState). call_xids x.calls) after ∙ ap (λ (e : FrameEffect). call_xids e.calls) (sym effect) in
    let answered = answered_send (xid_of_send opened) k s (server_state_after opened s (FrameReceived f)) u d all_down w (SendFrame message) rest (effect_frames (frame_effect s f)) (ap (λ (x : ServerState). x.received.sends) after)
    (λ x. omega (arith, pending x, ap (λ (xs : List ℕ). times x xs) (effect_xids (frame_effect s f)), ap (λ (xs : List ℕ). times x xs) calls_are, ap (λ (n : ℕ). one_if (eqb n x)) own)) g.answered in
    let numbered = numbered_send (xid_of_send opened) s f message completes own g.numbers reads in
    let numbers = subst (AllByRecursion (IsNumbered (xid_of_send opened))) (ap (λ (e : FrameEffect). e.calls) (step_is s f (Ok segment) reads) ∙ ap (λ (x : ServerState). x.calls) (sym after)) numbered in
    let chunk = count_send s f message completes are_bytes size.4 reads in
    let sinks = sinks_after s f (Ok segment) reads (s.received.sends + 1) (omega (arith, chunk, g.sinks)) in
    let within = within_after s f (Ok segment) reads (within_send s f message completes are_bytes g.within reads) in
    record {
      ends = t.0;
      kept = λ stays.
          subst (λ (said : List FrameContent). Guards opened k (server_state_after opened s (FrameReceived f)) (u ++ SendFrame message ∷ []) d all_up (all_down ++ said) (taken_up w rest said) f.end) (sym says)
          (guards_up opened k s (server_state_after opened s (FrameReceived f)) u d all_up all_down w place f.end (SendFrame message) rest (effect_frames (frame_effect s f)) g
          (t.1 (not_refused_lem opened s f piece.behind stays)) (credit_down (matched_down opened) (credit_word s) opened.granted (omega (arith, word_most s, g.credit)) (effect_frames (frame_effect s f)) (step_down (matched_down opened) (credit_word s) (frame_effect s f) (replies_send (matched_down opened) (down_limited opened).0 s f message completes small_xid (word_below_lem 4 message.bytes are_bytes) small reads)))
          (effect_taken (matched_invalidates opened) (frame_effect s f)) (server_keeps_sizes opened k s (server_state_after opened s (FrameReceived f)) u (SendFrame message) received (ap (λ (x : ServerState). x.up_max) after) (ap (λ (x : ServerState). x.down_max) after) (ap (λ (x : ServerState). x.invalidates) after) g.sizes) (ap (λ (x : ServerState). x.credit) after) (subst (λ (x : ServerState). AreWithin x.reads x.regions) (sym after) within) (subst (λ (x : ServerState). length x.regions ≤ x.received.sends) (sym after) sinks) numbers answered);
    }

-- a segment of a Send that isn't its last
pub takes_part : (opened : LinkParameters) (k : ClientState) (s : ServerState) (u d all_up all_down : List FrameContent) (w : Transit) (place : ℕ) (named : Bool) (offset : ℕ) (payload : List ℕ) (rest : List FrameContent) (f : Frame) → IsOpened opened → Guards opened k s u d all_up all_down w place → 0 < length u → w.up ≡ PartFrame named offset payload ∷ rest
    → Carries false s.received.sends s.received.requests f (PartFrame named offset payload) → place < f.end → ServerTakes opened k s u d all_up all_down w (PartFrame named offset payload) rest f
takes_part opened k s u d all_up all_down w place named offset payload rest f o g received first piece lt =
    let segment : Segment = part_segment s.received.sends offset payload in
    let reads : frame_segment f ≡ Ok segment = segment_is s.received.sends s.received.requests f (PartFrame named offset payload) segment piece refl in
    let t = server_takes_part opened k s w place f named offset payload rest g.server g.window first piece lt in
    let says = says_frame opened s f piece.behind in
    let after = after_is_lem opened s f (Ok segment) piece.behind reads in
    let effect = step_is s f (Ok segment) reads in
    let calls_are : call_xids (server_state_after opened s (FrameReceived f)).calls ≡ call_xids s.calls = ap (λ (x : ServerState). call_xids x.calls) after in
    let none : message_xids (effect_frames (frame_effect s f)) ≡ [] = effect_xids (frame_effect s f) ∙ ap (λ (e : FrameEffect). map (λ (m : List ℕ). word_at 0 m) e.errors) effect in
    let answered = answered_other (xid_of_send opened) k s (server_state_after opened s (FrameReceived f)) u d all_down w (PartFrame named offset payload) rest (effect_frames (frame_effect s f)) (ap (λ (x : ServerState). x.received.sends) after)
    (λ x. omega (arith, ap (λ (xs : List ℕ). times x xs) none, ap (λ (xs : List ℕ). times x xs) calls_are)) g.answered in
    let numbers = subst (AllByRecursion (IsNumbered (xid_of_send opened))) (ap (λ (x : ServerState). x.calls) (sym after)) g.numbers in
    let sinks = sinks_after s f (Ok segment) reads s.received.sends (omega (arith, ap (λ (e : FrameEffect). length e.regions) effect, g.sinks)) in
    let within = within_after s f (Ok segment) reads (part_effect s (λ e. AreWithin e.reads e.regions) g.within f offset payload reads) in
    record {
      ends = t.0;
      kept = λ stays.
          subst (λ (said : List FrameContent). Guards opened k (server_state_after opened s (FrameReceived f)) (u ++ PartFrame named offset payload ∷ []) d all_up (all_down ++ said) (taken_up w rest said) f.end) (sym says)
          (guards_up opened k s (server_state_after opened s (FrameReceived f)) u d all_up all_down w place f.end (PartFrame named offset payload) rest (effect_frames (frame_effect s f)) g
          t.1 (credit_down (matched_down opened) (credit_word s) opened.granted (omega (arith, word_most s, g.credit)) (effect_frames (frame_effect s f)) (step_down (matched_down opened) (credit_word s) (frame_effect s f) (part_effect s (λ e. AreReplies (matched_down opened) (credit_word s) e.errors) tt f offset payload reads)))
          (effect_taken (matched_invalidates opened) (frame_effect s f)) (server_keeps_sizes opened k s (server_state_after opened s (FrameReceived f)) u (PartFrame named offset payload) received (ap (λ (x : ServerState). x.up_max) after) (ap (λ (x : ServerState). x.down_max) after) (ap (λ (x : ServerState). x.invalidates) after) g.sizes) (ap (λ (x : ServerState). x.credit) after) (subst (λ (x : ServerState). AreWithin x.reads x.regions) (sym after) within) (subst (λ (x : ServerState). length x.regions ≤ x.received.sends) (sym after) sinks) numbers answered);
    }

pub takes_tagged : (opened : LinkParameters) (k : ClientState) (s : ServerState) (u d all_up all_down : List FrameContent) (w : Transit) (place : ℕ) (last : Bool) (opcode stag to : ℕ) (payload : List ℕ) (rest : List FrameContent) (f : Frame) → IsOpened opened → EndsAgree opened k s u d all_up all_down w → Guards opened k s u d all_up all_down w place → 0 < length u
    → w.up ≡ TaggedFrame last opcode stag to payload ∷ rest → Carries false s.received.sends s.received.requests f (TaggedFrame last opcode stag to payload) → place < f.end → ServerTakes opened k s u d all_up all_down w (TaggedFrame last opcode stag to payload) rest f
takes_tagged opened k s u d all_up all_down w place last opcode stag to payload rest f o l g received first piece lt =
    let segment : Segment = Tagged last opcode stag to payload in
    let reads : frame_segment f ≡ Ok segment = segment_is s.received.sends s.received.requests f (TaggedFrame last opcode stag to payload) segment piece refl in
    let t = server_takes_response opened k s w place f last opcode stag to payload rest g.server first piece lt in
    let says = says_frame opened s f piece.behind in
    let after = after_is_lem opened s f (Ok segment) piece.behind reads in
    let small : credit_word s < 2 ^ 32 = omega (arith, word_most s, g.credit, o.granted_fits) in
    let pending = pending_tagged s f last opcode stag to payload (λ n c found. small_xid_lem opened k s u d all_up all_down w place n c l g found) reads in
    let effect = step_is s f (Ok segment) reads in
    let calls_are : call_xids (server_state_after opened s (FrameReceived f)).calls ≡ call_xids (frame_effect s f).calls = ap (λ (x : ServerState). call_xids x.calls) after ∙ ap (λ (e : FrameEffect). call_xids e.calls) (sym effect) in
    let answered = answered_other (xid_of_send opened) k s (server_state_after opened s (FrameReceived f)) u d all_down w (TaggedFrame last opcode stag to payload) rest (effect_frames (frame_effect s f)) (ap (λ (x : ServerState). x.received.sends) after)
    (λ x. omega (arith, pending x, ap (λ (xs : List ℕ). times x xs) (effect_xids (frame_effect s f)), ap (λ (xs : List ℕ). times x xs) calls_are)) g.answered in
    let numbered = numbered_tagged (xid_of_send opened) s f last opcode stag to payload g.numbers reads in
    let numbers = subst (AllByRecursion (IsNumbered (xid_of_send opened))) (ap (λ (e : FrameEffect). e.calls) (step_is s f (Ok segment) reads) ∙ ap (λ (x : ServerState). x.calls) (sym after)) numbered in
    let sinks = sinks_after s f (Ok segment) reads s.received.sends (omega (arith, count_tagged s f last opcode stag to payload reads, g.sinks)) in
    let within = within_after s f (Ok segment) reads (within_tagged s f last opcode stag to payload g.within reads) in
    record {
      ends = t.0;
      kept = λ stays.
          subst (λ (said : List FrameContent). Guards opened k (server_state_after opened s (FrameReceived f)) (u ++ TaggedFrame last opcode stag to payload ∷ []) d all_up (all_down ++ said) (taken_up w rest said) f.end) (sym says)
          (guards_up opened k s (server_state_after opened s (FrameReceived f)) u d all_up all_down w place f.end (TaggedFrame last opcode stag to payload) rest (effect_frames (frame_effect s f)) g
          (t.1 (not_refused_lem opened s f piece.behind stays)) (credit_down (matched_down opened) (credit_word s) opened.granted (omega (arith, word_most s, g.credit)) (effect_frames (frame_effect s f)) (step_down (matched_down opened) (credit_word s) (frame_effect s f) (replies_tagged (matched_down opened) (down_limited opened).0 s f last opcode stag to payload (λ n c found. small_xid_lem opened k s u d all_up all_down w place n c l g found) small reads)))
          (effect_taken (matched_invalidates opened) (frame_effect s f)) (server_keeps_sizes opened k s (server_state_after opened s (FrameReceived f)) u (TaggedFrame last opcode stag to payload) received (ap (λ (x : ServerState). x.up_max) after) (ap (λ (x : ServerState). x.down_max) after) (ap (λ (x : ServerState). x.invalidates) after) g.sizes) (ap (λ (x : ServerState). x.credit) after) (subst (λ (x : ServerState). AreWithin x.reads x.regions) (sym after) within) (subst (λ (x : ServerState). length x.regions ≤ x.received.sends) (sym after) sinks) numbers answered);
    }

-- the client's hello
pub hello_guards : (opened : LinkParameters) (k : ClientState) (s : ServerState) (u d all_up all_down : List FrameContent) (w : Transit) (place : ℕ) (rest : List FrameContent) (f : Frame) → Guards opened k s u d all_up all_down w place → w.up ≡ HelloFrame ∷ rest → is_hello f ≡ true → f.bytes ≡ first_hello opened Initiator → place ≤ f.end
    → Guards opened k (server_state_after opened s (FrameReceived f)) (u ++ HelloFrame ∷ []) d all_up (all_down ++ server_frames opened s (FrameReceived f)) (taken_up w rest (server_frames opened s (FrameReceived f))) f.end
hello_guards opened k s u d all_up all_down w place rest f g first is own le =
    let says = says_hello opened s f is in
    let after = after_hello opened s f is in
    let c = g.server.reads in
    let r : ReadsAgree s (record { queued_up = w.queued_up; up = rest; queued_down = w.queued_down; down = w.down }) = record {
      answered = c.answered;
      asked = c.asked;
      parts = c.parts;
      answers = subst (λ (ps : List FrameContent). AreResponses s.response_bytes c.answered (ps ++ w.queued_up)) first c.answers;
      requests = c.requests;
    } in
    let t = with_own_hello opened s f in
    let server : ServerAgrees opened k t (taken_up w rest (HelloFrame ∷ [])) f.end = record {
      counts = subst (λ (t : ServerState). TotalsAgree k t (taken_up w rest (HelloFrame ∷ []))) after
          (subst (λ (said : List FrameContent). TotalsAgree k (server_state_after opened s (FrameReceived f)) (taken_up w rest said)) says (totals_hello_up opened k s w f rest g.server.counts first is));
      reads = reads_says_down s t (record { queued_up = w.queued_up; up = rest; queued_down = w.queued_down; down = w.down }) (HelloFrame ∷ []) r refl refl refl;
      waits = waits_greeted opened s f g.server.waits;
      sinks = later_sinks place f.end s.regions s.reads le g.server.sinks;
      regions = record { stags = g.server.regions.stags; calls = g.server.regions.calls };
      limits = subst ServerLimits after (server_event opened s (FrameReceived f) g.server.limits);
    } in
    subst (λ (said : List FrameContent). Guards opened k (server_state_after opened s (FrameReceived f)) (u ++ HelloFrame ∷ []) d all_up (all_down ++ said) (taken_up w rest said) f.end) (sym says)
    (subst (λ (t : ServerState). Guards opened k t (u ++ HelloFrame ∷ []) d all_up (all_down ++ HelloFrame ∷ []) (taken_up w rest (HelloFrame ∷ [])) f.end) (sym after)
    (guards_up opened k s t u d all_up all_down w place f.end HelloFrame rest (HelloFrame ∷ []) g server (tt, tt) (is_taken (matched_invalidates opened) HelloFrame tt, tt) (server_takes_sizes opened k s u HelloFrame f own g.sizes) refl g.within g.sinks g.numbers
    (answered_other (xid_of_send opened) k s t u d all_down w HelloFrame rest (HelloFrame ∷ []) refl (λ x. omega arith) g.answered)))
