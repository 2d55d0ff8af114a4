-- The memory of a matched link's client, none of which is revoked, denies no access of its server.
use Rattle.std.proofs.Common.{◌≡◌, ℕ, ◌+◌, ◌≤◌, ◌<◌, true, false, eqb, List, [], ◌∷◌, ◌++◌, length, map, Some, None, Ok, refl, sym, ap, subst, ◌∙◌, arith, length-append, ◌⊎◌, inl, inr}
use Rattle.std.specs.List.{concat}
use Rattle.nr_xdr.specs.Item.{IsBytes}
use Rattle.nr_xdr.proofs.Chains.{IsBytes_left, IsBytes_right}
use Rattle.nr_wire.specs.Constants.{OPCODE_WRITE, OPCODE_READ_REQUEST, QUEUE_READ_REQUEST}
use Rattle.nr_wire.specs.declared.hello.Side.TheVariants.{Initiator, Responder}
use Rattle.nr_wire.specs.Segment.{Segment}
use Rattle.nr_wire.specs.Segment.Segment.{Tagged, Untagged}
use Rattle.nr_regions.specs.declared.denied.Denied.{Denied}
use Rattle.nr_regions.specs.declared.right.Right.TheVariants.{Fetch, Fill}
use Rattle.nr_regions.specs.Access.{grant_denial}
use Rattle.nr_link.specs.declared.end.End.TheVariants as ends
use Rattle.nr_link.specs.Output.{msn_word}
use Rattle.nr_link.specs.Frames.{Frame, is_hello, frames_from, frames_completed}
use Rattle.nr_link.specs.ReceiveState.{ReadRequest}
use Rattle.nr_link.specs.Ending.{missing_access}
use Rattle.nr_reduce.specs.declared.mark.Mark.{Mark}
use Rattle.nr_reduce.specs.declared.mark.LinkParameters.{LinkParameters}
use Rattle.nr_reduce.specs.Opening.{IsOpened}
use Rattle.nr_reduce.specs.Credits.{WithinGrant}
use Rattle.nr_reduce.specs.History.{bytes_sent, bytes_received, fed_at}
use Rattle.nr_reduce.specs.Events.{RunEvent}
use Rattle.nr_reduce.specs.Events.RunEvent.{FrameReceived}
use Rattle.nr_reduce.specs.EndRules.{EndState, live, end_state_after}
use Rattle.nr_reduce.specs.OfferedRegions.{region_grants}
use Rattle.nr_reduce.specs.ClientState.{ClientState}
use Rattle.nr_reduce.specs.ServerState.{ServerState}
use Rattle.nr_reduce.specs.Client.{client_rules, client_state_after, initial_client}
use Rattle.nr_reduce.specs.Run.{end_of_side}
use Rattle.nr_reduce.specs.Matched.{IsPrefixOf}
use Rattle.nr_reduce.proofs.OwnStags.{AreNumbered, client_numbers}
use Rattle.nr_laws.specs.Typed.{TypedMark, IsTyped}
use Rattle.nr_laws.specs.Stays.{NotRevokedMark, HasNoRevoke}
use Rattle.nr_laws.specs.EndCauses.{KeepLaws, AgreesAgain}
use Rattle.nr_laws.proofs.EndReasons.{EndsForMessage}
use Rattle.nr_laws.proofs.FrameContents.{FrameContent, frame_bytes, total_of, sends_in, requests_in, Carries, last_segment, part_segment, written_segment}
use Rattle.nr_laws.proofs.FrameContents.FrameContent.{HelloFrame, PartFrame, SendFrame, RequestFrame, TaggedFrame}
use Rattle.nr_laws.proofs.LinkInvariants.{Transit}
use Rattle.nr_laws.proofs.Bytes.{bytes_both}
use Rattle.nr_laws.proofs.Totals.{total_append}
use Rattle.nr_laws.proofs.LaterFrames.{EndBehind, frames_behind}
use Rattle.nr_laws.proofs.StreamFrames.{frames_at}
use Rattle.nr_laws.proofs.Writable.{IsOutput}
use Rattle.nr_laws.proofs.TotalsAtClient.{request_payload, down_one}
use Rattle.nr_laws.proofs.RequestFields.{request_again}
use Rattle.nr_laws.proofs.AgreeingEnds.{EndsAgree, IsPlace, frame_of}
use Rattle.nr_laws.proofs.Guards.{Guards}
use Rattle.nr_laws.proofs.GuardsAtClient.{front_down, asked_of, front_taken}
use Rattle.nr_laws.proofs.ClientStep.{LacksAccess, step_down, has_hello_lem}
use Rattle.nr_laws.proofs.ClientFrame.{client_took}
use Rattle.nr_laws.proofs.ServerFrames.{AreSome, events_of, place_next_lem, ends_first}
use Rattle.nr_laws.proofs.AgreeingRuns.{MarkAgrees, place_of, preserved, arrives}
use Rattle.nr_laws.proofs.EachRun.{starts}
use Rattle.nr_laws.proofs.FirstEnds.{Guarded, client_first}
use Rattle.nr_laws.proofs.AnsweredCalls.{message_xids}
use Rattle.nr_laws.proofs.OfferedAccesses.{IsAccess, AreAccesses, IsEarly, AccessesAgree, access_at}
use Rattle.nr_laws.proofs.AccessSteps.{front_piece_down, accessed_down}
use Rattle.nr_laws.proofs.AllowedAccesses.{offered_granted}
use Rattle.nr_laws.proofs.Basics.{each_all}
use Rattle.nr_reduce.proofs.Standing.{received_one}
use Rattle.nr_laws.proofs.ClientRun.{each_both}
use Rattle.nr_laws.proofs.ReadContents.{plain_is, carries_taken}
use Rattle.nr_laws.proofs.PlainSegments.{plain_segment}

-- ---- One frame

numbered_regions : (opened : LinkParameters) (k : ClientState) (es : List RunEvent) → end_state_after (client_rules opened) (initial_client opened) es ≡ live k → AreNumbered opened.first_stag k.regions
numbered_regions opened k es is = subst (λ (r : EndState ClientState). AreNumbered opened.first_stag r.state.regions) is (client_numbers opened es).regions

-- the access of a frame is allowed
abbrev LacksNothing : ClientState → Frame → Type 0
LacksNothing k f = (segment : Segment) → plain_segment k f ≡ Ok segment → missing_access (region_grants f.end k.regions) f segment ≡ None

same_segment : (k : ClientState) (f : Frame) (segment : Segment) → plain_segment k f ≡ Ok segment → missing_access (region_grants f.end k.regions) f segment ≡ None → LacksNothing k f
same_segment k f segment is none other own = (let same : Ok segment ≡ Ok other = sym is ∙ own in subst (λ (x : Segment). missing_access (region_grants f.end k.regions) f x ≡ None) (let e : segment ≡ other = cc in e) none)

piece_allowed : (opened : LinkParameters) (k : ClientState) (s : ServerState) (u d all_up all_down : List FrameContent) (w : Transit) (up : ℕ) (p : FrameContent) (rest : List FrameContent) (at : ℕ) (f : Frame) → EndsAgree opened k s u d all_up all_down w → Guards opened k s u d all_up all_down w up → w.down ≡ p ∷ rest
    → Carries k.invalidates k.received.sends k.received.requests f p → at < f.end → AccessesAgree opened k s d all_up all_down at → IsAccess k.regions (message_xids d) p → LacksNothing k f
piece_allowed opened k s u d all_up all_down w up HelloFrame rest at f l g first piece lt h own = absurd (let wrong = piece.is_segment in cc)
piece_allowed opened k s u d all_up all_down w up (PartFrame named offset payload) rest at f l g first piece lt h own =
    let segment : Segment = part_segment k.received.sends offset payload in
    same_segment k f segment (plain_is k f (PartFrame named offset payload) segment piece refl) refl
piece_allowed opened k s u d all_up all_down w up (SendFrame message) rest at f l g first piece lt h own =
    let segment : Segment = last_segment k.received.sends message in
    same_segment k f segment (plain_is k f (SendFrame message) segment piece refl) refl
piece_allowed opened k s u d all_up all_down w up (RequestFrame sink sink_to size stag to) rest at f l g first piece lt h own =
    let segment : Segment = Untagged true OPCODE_READ_REQUEST 0 QUEUE_READ_REQUEST (msn_word (k.received.requests + 1)) 0 (request_payload sink sink_to size stag to) in
    let a = asked_of s w up sink sink_to size stag to rest g.server.reads first g.server.sinks g.server.regions.stags g.within in
    let again = request_again sink sink_to size stag to a.sink_word a.at_word a.size_word a.stag_word a.to_word in
    let granted = offered_granted at f.end opened.first_stag own.0 stag Fetch to size (message_xids d) k.regions (numbered_regions opened k g.reached.0 g.reached.1) own.1 h.lives h.early lt own.2 in
    same_segment k f segment (plain_is k f (RequestFrame sink sink_to size stag to) segment piece refl)
    (ap (λ (q : ReadRequest). grant_denial (region_grants f.end k.regions) (record { right = Fetch; stag = q.stag; to = q.to; len = q.size }) f.end) again ∙ granted)
piece_allowed opened k s u d all_up all_down w up (TaggedFrame last opcode stag to payload) rest at f l g first piece lt h own =
    let write : opcode ≡ OPCODE_WRITE = front_down opened k s u d all_up all_down w up (TaggedFrame last opcode stag to payload) rest l g first in
    let reads = plain_is k f (TaggedFrame last opcode stag to payload) (Tagged last opcode stag to payload) piece refl in
    let granted = offered_granted at f.end opened.first_stag own.0 stag Fill to (length payload) (message_xids d) k.regions (numbered_regions opened k g.reached.0 g.reached.1) own.1 h.lives h.early lt own.2 in
    same_segment k f (Tagged last OPCODE_WRITE stag to payload) (reads ∙ ap (λ (c : ℕ). Ok (Tagged last c stag to payload)) write) granted

frame_allowed : (opened : LinkParameters) (k : ClientState) (s : ServerState) (u d all_up all_down : List FrameContent) (w : Transit) (up : ℕ) (p : FrameContent) (rest : List FrameContent) (n r place at : ℕ) → EndsAgree opened k s u d all_up all_down w → Guards opened k s u d all_up all_down w up → w.down ≡ p ∷ rest
    → n ≡ total_of sends_in d → r ≡ total_of requests_in d → IsPlace d place → at < place + length (frame_bytes opened Responder (written_segment n r p)) → AccessesAgree opened k s d all_up all_down at
    → is_hello (frame_of (frame_bytes opened Responder (written_segment n r p)) place) ≡ false → LacksNothing k (frame_of (frame_bytes opened Responder (written_segment n r p)) place)
frame_allowed opened k s u [] all_up all_down w up p rest n r place at l g first sends requests is lt h behind = absurd (let wrong : true ≡ false = sym (ap (λ (x : ℕ). eqb x 0) is) ∙ behind in cc)
frame_allowed opened k s u (q ∷ d) all_up all_down w up p rest n r place at l g first sends requests is lt h behind =
    let own : IsAccess k.regions (message_xids (q ∷ d)) p =
    access_at k.regions [] (q ∷ d) p (rest ++ w.queued_down) (subst (AreAccesses k.regions []) (sym l.parts_down ∙ ap (λ (ps : List FrameContent). (q ∷ d) ++ (ps ++ w.queued_down)) first) h.down_said) in
    piece_allowed opened k s u (q ∷ d) all_up all_down w up p rest at (frame_of (frame_bytes opened Responder (written_segment n r p)) place) l g first
    (carries_taken k.invalidates k.received.sends k.received.requests (frame_of (frame_bytes opened Responder (written_segment n r p)) place) p
    (front_taken opened k s u (q ∷ d) all_up all_down w up p rest l g first (has_hello_lem opened k s u q d all_up all_down w l)) (front_piece_down opened k s u q d all_up all_down w p rest n r place l first sends requests is)) lt h own

-- so it doesn't end the client
not_lacking : (k : ClientState) (f : Frame) (stag offset : ℕ) (why : Denied) → (is_hello f ≡ false → LacksNothing k f) → EndsForMessage (ends.Denied stag offset why) ⊎ LacksAccess k f (ends.Denied stag offset why) → ⊥
not_lacking k f stag offset why allowed (inl (at, reason, is, own)) = cc
not_lacking k f stag offset why allowed (inr h) = (let wrong : None ≡ Some h.why = sym (allowed h.behind h.segment h.is_segment) ∙ h.lacks in cc)

-- ---- Some frames

frames_allowed : (opened : LinkParameters) (s : ServerState) (u all_down left : List FrameContent) (o : IsOpened opened) (again : AgreesAgain opened) (up at stag offset : ℕ) (why : Denied) (new : List FrameContent) (k : ClientState) (d all_up : List FrameContent) (w : Transit) (n r place : ℕ) → EndsAgree opened k s u d all_up all_down w → Guards opened k s u d all_up all_down w up → w.down ≡ new ++ left
    → n ≡ total_of sends_in d → r ≡ total_of requests_in d → IsPlace d place → IsBytes (concat (frames_at opened Responder n r new)) → AreSome (frames_at opened Responder n r new) → EndBehind at (frames_from place (frames_at opened Responder n r new)) → AccessesAgree opened k s d all_up all_down at
    → (end_state_after (client_rules opened) (live k) (events_of place (frames_at opened Responder n r new))).ended ≡ Some (ends.Denied stag offset why) → ⊥
frames_allowed opened s u all_down left o again up at stag offset why [] k d all_up w n r place l g first sends requests is bytes some behind h e = absurd (let wrong : None ≡ Some (ends.Denied stag offset why) = e in cc)
frames_allowed opened s u all_down left o again up at stag offset why (p ∷ new) k d all_up w n r place l g first sends requests is bytes some behind h e =
    let rules = client_rules opened in
    let frame = frame_bytes opened Responder (written_segment n r p) in
    let later = frames_at opened Responder (n + sends_in p) (r + requests_in p) new in
    let event = FrameReceived (frame_of frame place) in
    let es = events_of (place + length frame) later in
    let step = step_down opened k s u d all_up all_down w up p (new ++ left) n r place o l g first sends requests is in
    (ends_first rules k event es (ends.Denied stag offset why) ⊥ e).first
    (λ now. not_lacking k (frame_of frame place) stag offset why (frame_allowed opened k s u d all_up all_down w up p (new ++ left) n r place at l g first sends requests is behind.0 h) (step.only again (ends.Denied stag offset why) now))
    (λ stays rest.
    let t = client_took opened k s u d all_up all_down w p (new ++ left) n r place l first sends requests is (IsBytes_left frame (concat later) bytes) stays in
    let after = client_state_after opened k event in
    let one = subst (λ (ps : List FrameContent). Guards opened after s u (d ++ p ∷ []) (all_up ++ ps) all_down (down_one w ps (new ++ left)) up) (sym t.said_is) (step.kept stays) in
    let two = subst (λ (ps : List FrameContent). AccessesAgree opened after s (d ++ p ∷ []) (all_up ++ ps) all_down at) (sym t.said_is) (accessed_down opened k s u d all_up all_down w p (new ++ left) n r place at l first sends requests is stays h) in
    frames_allowed opened s u all_down left o again up at stag offset why new after (d ++ p ∷ []) (all_up ++ t.said) (down_one w t.said (new ++ left)) (n + sends_in p) (r + requests_in p) (place + length frame) t.linked one refl
    (omega (arith, sends, total_append sends_in d (p ∷ []))) (omega (arith, requests, total_append requests_in d (p ∷ []))) (place_next_lem d p frame place is some.0)
    (IsBytes_right frame (concat later) bytes) some.1 behind.1 two rest)

-- ---- Each mark

record Accessed (opened : LinkParameters) (link : ℕ) (run : List Mark) : Type 0 where
  guarded : Guarded opened link run
  agree : AccessesAgree opened guarded.joined.k guarded.joined.s guarded.joined.d guarded.joined.all_up guarded.joined.all_down (length (bytes_received link Initiator run))

later : (opened : LinkParameters) (k : ClientState) (s : ServerState) (d all_up all_down : List FrameContent) (place end : ℕ) → place ≤ end → AccessesAgree opened k s d all_up all_down place → AccessesAgree opened k s d all_up all_down end
later opened k s d all_up all_down place end le h = record {
  early = each_all (IsEarly place) (IsEarly end) k.regions (λ g early. omega (arith, early, le)) h.early;
  lives = h.lives;
  up_said = h.up_said;
  asked = h.asked;
  resent = h.resent;
  calls = h.calls;
  waiting = h.waiting;
  down_said = h.down_said;
}

accessed_more : (opened : LinkParameters) (link : ℕ) (run : List Mark) (mark : Mark) (a : Accessed opened link run) → MarkAgrees opened link run mark a.guarded.joined → IsOpened opened → WithinGrant opened link run mark → TypedMark run mark → NotRevokedMark link run mark
    → Accessed opened link (run ++ mark ∷ [])
unfolding preserved
accessed_more opened link run mark a g o within typed kept =
    let j = a.guarded.joined in
    let longer : length (bytes_received link Initiator run) ≤ length (bytes_received link Initiator (run ++ mark ∷ [])) =
    omega (arith, ap (λ (xs : List ℕ). length xs) (received_one link Initiator run mark), length-append (bytes_received link Initiator run) (fed_at link Initiator mark)) in
    record {
      guarded = record { joined = preserved opened link run mark j g; guards = g.guarded o within a.guarded.guards };
      agree = later opened g.k g.s g.d (j.all_up ++ g.said_up) (j.all_down ++ g.said_down) (length (bytes_received link Initiator run)) (length (bytes_received link Initiator (run ++ mark ∷ []))) longer (g.accessed o typed kept a.guarded.guards a.agree);
    }

fed_denied : (opened : LinkParameters) (link : ℕ) (run : List Mark) (bytes : List ℕ) (a : Accessed opened link run) → IsOpened opened → AgreesAgain opened → IsPrefixOf (bytes_received link Initiator run ++ bytes) (bytes_sent link Responder run) → IsBytes bytes → (stag offset : ℕ) (why : Denied)
    → (end_state_after (client_rules opened) (live a.guarded.joined.k) (map FrameReceived (frames_completed Responder (bytes_received link Initiator run) bytes))).ended ≡ Some (ends.Denied stag offset why) → ⊥
fed_denied opened link run bytes a o again prefix typed stag offset why e =
    let j = a.guarded.joined in
    let got = bytes_received link Initiator run in
    let stream : IsOutput (j.d ++ (j.w.down ++ j.w.queued_down)) = subst IsOutput (sym j.linked.parts_down) j.linked.stream_down in
    let m = arrives opened Responder got bytes (bytes_sent link Responder run) j.d j.w.down j.w.queued_down stream j.frames_down j.sent_down prefix (bytes_both got bytes j.bytes_down typed) in
    let n = 0 + total_of sends_in j.d in
    let r = 0 + total_of requests_in j.d in
    let place = length (concat (frames_at opened Responder 0 0 j.d)) in
    let es = events_of place (frames_at opened Responder n r m.new) in
    let same : map FrameReceived (frames_completed Responder got bytes) ≡ es = ap (λ (fs : List Frame). map FrameReceived fs) m.frames in
    let behind : EndBehind (length got) (frames_from place (frames_at opened Responder n r m.new)) = subst (EndBehind (length got)) m.frames (frames_behind Responder got bytes) in
    frames_allowed opened j.s j.u j.all_down m.left o again (place_of opened j.u) (length got) stag offset why m.new j.k j.d j.all_up j.w n r place j.linked a.guarded.guards m.parts (omega arith) (omega arith) m.place m.bytes_are m.some behind a.agree
    (ap (λ (xs : List RunEvent). (end_state_after (client_rules opened) (live j.k) xs).ended) (sym same) ∙ e)

-- ---- Each run

-- On a matched link of which nothing is revoked, and whose server hasn't ended, no access ends the client.
pub client_not_denied : (opened : LinkParameters) (link : ℕ) (run : List Mark) → IsOpened opened → AgreesAgain opened → IsTyped run → KeepLaws opened link run → HasNoRevoke link run → end_of_side opened link Responder run ≡ None
    → (stag offset : ℕ) (why : Denied) → end_of_side opened link Initiator run ≡ Some (ends.Denied stag offset why) → ⊥
unfolding end_of_side
client_not_denied opened link run o again typed laws kept down stag offset why up =
    let start = starts opened link in
    client_first opened link (Accessed opened link) (λ before a. a.guarded.joined) (λ before m. WithinGrant opened link before m × NotRevokedMark link before m) (ends.Denied stag offset why) ⊥
    (λ before m a agrees typed kept. accessed_more opened link before m a agrees o kept.0 typed kept.1) (λ before bytes a prefix typed e. fed_denied opened link before bytes a o again prefix typed stag offset why e) run []
    (record { guarded = record { joined = start.joined; guards = start.guards o }; agree = start.accessed }) laws.client laws.server laws.matched (each_both (WithinGrant opened link) (NotRevokedMark link) [] run laws.grant kept) typed down up
