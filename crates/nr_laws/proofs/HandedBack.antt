-- Regions of a client that were closed, and all those of a client that ended, hold the same from then on.
use Rattle.std.proofs.Common.{◌≡◌, ℕ, ◌+◌, ◌≤◌, Bool, true, false, cond, eqb, List, [], ◌∷◌, ◌++◌, length, map, Option, None, Some, IfSome, Result, Ok, refl, sym, ap, subst, ◌∙◌, arith, append-nil, eq-eqb, eqb-true}
use Rattle.std.specs.Prelude.{Contains}
use Rattle.std.specs.List.{find}
use Rattle.nr_xdr.specs.Fields.{word_at}
use Rattle.nr_wire.specs.declared.hello.Side.TheVariants.{Initiator}
use Rattle.nr_wire.specs.Segment.{Segment}
use Rattle.nr_wire.specs.Segment.Segment.{Tagged, Untagged}
use Rattle.nr_regions.specs.Access.{TaggedSegment}
use Rattle.nr_link.specs.declared.end.End.{End as Stop}
use Rattle.nr_link.specs.Frames.{Frame, is_hello}
use Rattle.nr_link.specs.ReceiveState.{ReceiveState, message_completed, read_request_of}
use Rattle.nr_link.specs.Ending.{tagged_access}
use Rattle.nr_reduce.specs.declared.mark.Mark.{Mark}
use Rattle.nr_reduce.specs.declared.mark.Mark.TheVariants as marks
use Rattle.nr_reduce.specs.declared.mark.LinkParameters.{LinkParameters}
use Rattle.nr_reduce.specs.History.{bytes_received}
use Rattle.nr_reduce.specs.Events.{RunEvent, events}
use Rattle.nr_reduce.specs.Events.RunEvent.{FrameReceived, CallSubmitted, MemoryRevoked, CallExecuted, QueueWritten, ServerTold}
use Rattle.nr_reduce.specs.EndRules.{EndState, next_end_state, next_end_state_by, next_end_state_in, end_state_after}
use Rattle.nr_reduce.specs.OfferedRegions.{Region, until_at, closed_if, regions_closed}
use Rattle.nr_reduce.specs.ClientState.{ClientState}
use Rattle.nr_reduce.specs.Client.{client_segment, client_rules, client_end, client_state_after, initial_client, with_message, with_segment, with_hello, due_with_response}
use Rattle.nr_reduce.specs.Matched.{IsPrefixOf}
use Rattle.nr_reduce.specs.Asked.{AskedMark, AskedSoFar, IsLost}
use Rattle.nr_reduce.specs.Run.{client, end_of_side}
use Rattle.nr_reduce.proofs.OwnStags.{AreNumbered, ClientNumbers, client_known, client_numbers}
use Rattle.nr_reduce.proofs.StagsLeft.{request_stag, message_stag}
use Rattle.nr_reduce.proofs.Steps.{AtEachMark_first, end_state_after_append}
use Rattle.nr_laws.specs.Typed.{TypedMark, IsTyped}
use Rattle.nr_laws.specs.HandedBack.{Stands, ClosedRegionsStand, EndedRegionsStand, ClosedRegionsHoldWhatStood, LostHandsBack}
use Rattle.nr_laws.proofs.EventOutputs.{GoesOn, first_preserve, later_preserve, places_after}
use Rattle.nr_laws.proofs.ClientSays.{ClientGood}
use Rattle.nr_laws.proofs.ClientRun.{client_goes}
use Rattle.nr_laws.proofs.ClientMemory.{HasRegion, has_closed, keeps_along}
use Rattle.nr_laws.proofs.Memory.{Part, parts_of, after_parts, after_append, parts_append, Settled, settled_later, held_parts}
use Rattle.nr_laws.proofs.OnceByXid.{at_mark}
use Rattle.nr_laws.proofs.Outcomes.{client_by}
use Rattle.nr_laws.proofs.Revoked.{IsClosedBy, OnlyClosed, only_closed, only_above, frame_regions, request_regions, UntilBy, until_run}
use Rattle.nr_laws.proofs.Frozen.{NotTo, not_parts, Frozen, EventsBehind, frozen_all, frozen_from, low_found, found_at_lem, run_holds, ended_run}

-- ---- One region of its STag

found_in : (opened : LinkParameters) (link : ℕ) (run : List Mark) (r : Region) → Contains (client opened link run).state.regions r → find (λ x. eqb x.stag r.stag) (client opened link run).state.regions ≡ Some r
found_in opened link run r there = found_at_lem opened.first_stag there.0 (client opened link run).state.regions r (client_known opened link run).regions there.1 there.2

has_itself : (opened : LinkParameters) (link : ℕ) (run : List Mark) (r : Region) → Contains (client opened link run).state.regions r → HasRegion (client opened link run).state.regions r.stag r.bytes
has_itself opened link run r there = record { region = r; there = found_in opened link run r there; own = refl; holds = refl }

closed_by : (p place : ℕ) (u : Option ℕ) → u ≡ Some place → IfSome u (λ n. n ≤ p) → IsClosedBy p u
closed_by p place None is h = absurd (let wrong : None ≡ Some place = is in cc)
closed_by p place (Some n) is h = h

only_found : (stag p place n : ℕ) (regions : List Region) (r : Region) → AreNumbered n regions → UntilBy p regions → find (λ x. eqb x.stag stag) regions ≡ Some r → r.until ≡ Some place → OnlyClosed stag p regions
only_found stag p place n [] r numbers low there closed = tt
only_found stag p place n (x ∷ regions) r numbers low there closed = by (eqb x.stag stag) refl there (λ h. only_found stag p place (n + 1) regions r numbers.1 low.1 h closed)
  where
    by : (b : Bool) → eqb x.stag stag ≡ b → cond b (Some x) (find (λ x. eqb x.stag stag) regions) ≡ Some r → (find (λ x. eqb x.stag stag) regions ≡ Some r → OnlyClosed stag p regions) → OnlyClosed stag p (x ∷ regions)
    by false is e later = ((λ h. absurd (let wrong : false ≡ true = sym is ∙ eq-eqb x.stag stag h in cc)), later e)
    by true is e later =
        let found : x ≡ r = (let t : Some x ≡ Some r = e in cc) in
        let first = numbers.0 in
        let here = eqb-true x.stag stag is in
        ((λ h. closed_by p place x.until (ap (λ (q : Region). q.until) found ∙ closed) low.0), only_above stag (n + 1) p regions (omega (arith, first, here)) numbers.1)

-- the region of its STag is closed now
until_now : (p : ℕ) (u : Option ℕ) → u ≡ None → IsClosedBy p (until_at p u)
until_now p None is = omega arith
until_now p (Some n) is = absurd (let wrong : Some n ≡ None = is in cc)

only_now : (xid stag p n : ℕ) (regions : List Region) (r : Region) → AreNumbered n regions → find (λ x. eqb x.stag stag) regions ≡ Some r → r.call ≡ xid → r.until ≡ None → OnlyClosed stag p (regions_closed (λ r. eqb r.call xid) p regions)
unfolding regions_closed
only_now xid stag p n [] r numbers there own open_now = tt
only_now xid stag p n (x ∷ regions) r numbers there own open_now = by (eqb x.stag stag) refl there (λ h. only_now xid stag p (n + 1) regions r numbers.1 h own open_now)
  where
    rest : List Region
    rest = map (λ r. closed_if (eqb r.call xid) p r) regions

    same : (b : Bool) → (closed_if b p x).stag ≡ x.stag
    same true = refl
    same false = refl

    by : (b : Bool) → eqb x.stag stag ≡ b → cond b (Some x) (find (λ x. eqb x.stag stag) regions) ≡ Some r → (find (λ x. eqb x.stag stag) regions ≡ Some r → OnlyClosed stag p rest)
        → OnlyClosed stag p (closed_if (eqb x.call xid) p x ∷ rest)
    by false is e later = ((λ h. absurd (let wrong : false ≡ true = sym is ∙ eq-eqb x.stag stag (sym (same (eqb x.call xid)) ∙ h) in cc)), later e)
    by true is e later =
        let found : x ≡ r = (let t : Some x ≡ Some r = e in cc) in
        let calls : eqb x.call xid ≡ true = eq-eqb x.call xid (ap (λ (q : Region). q.call) found ∙ own) in
        let first = numbers.0 in
        let here = eqb-true x.stag stag is in (
          (λ h. subst (λ (b : Bool). IsClosedBy p (closed_if b p x).until) (sym calls) (until_now p x.until (ap (λ (q : Region). q.until) found ∙ open_now))),
          only_closed (λ r. eqb r.call xid) p stag p regions (only_above stag (n + 1) p regions (omega (arith, first, here)) numbers.1),
        )

-- ---- What stays

frozen_holds : (stag p : ℕ) (bytes : List ℕ) (old : List TaggedSegment) (k : ClientState) → Frozen stag p bytes old k → after_parts stag bytes (parts_of k.accesses_received) ≡ after_parts stag bytes (parts_of old)
frozen_holds stag p bytes old k f =
    ap (λ (a : List TaggedSegment). after_parts stag bytes (parts_of a)) f.accesses
    ∙ ap (λ (ps : List Part). after_parts stag bytes ps) (parts_append old f.more)
    ∙ after_append stag bytes (parts_of old) (parts_of f.more)
    ∙ not_parts stag (after_parts stag bytes (parts_of old)) f.more f.none

pub closed_regions_stand : ClosedRegionsStand
closed_regions_stand opened link run more r place typed asked there closed =
    let k : ClientState = (client opened link run).state in
    let p : ℕ = length (bytes_received link Initiator run) in
    let numbers = client_known opened link run in
    let found = found_in opened link run r there in
    let low = low_found opened.first_stag r.stag k.regions r numbers.regions found in
    let under = low.0 in
    let next = numbers.next in
    let old : List TaggedSegment = k.accesses_received in
    let f : Frozen r.stag p r.bytes old (client opened link (run ++ more)).state =
    frozen_from opened link r.stag p r.bytes old run more (omega arith) (record {
      only = only_found r.stag p place opened.first_stag k.regions r numbers.regions (until_run opened link run) found closed;
      low = omega (arith, under, next);
      has = has_itself opened link run r there;
      more = [];
      accesses = sym (append-nil old);
      none = tt;
    }) in
    run_holds opened link r.stag r.bytes (run ++ more) typed asked f.has ∙ frozen_holds r.stag p r.bytes old (client opened link (run ++ more)).state f
    ∙ sym (run_holds opened link r.stag r.bytes run (AtEachMark_first TypedMark [] run more typed) (AtEachMark_first (AskedMark IsPrefixOf opened link) [] run more asked) (has_itself opened link run r there))

pub ended_regions_stand : EndedRegionsStand
unfolding end_of_side
ended_regions_stand opened link run more r end typed asked ended there =
    let all = ended_run opened link run more end ended in
    run_holds opened link r.stag r.bytes (run ++ more) typed asked (subst (λ (x : EndState ClientState). HasRegion x.state.regions r.stag r.bytes) (sym all) (has_itself opened link run r there))
    ∙ ap (λ (x : EndState ClientState). after_parts r.stag r.bytes (parts_of x.state.accesses_received)) all
    ∙ sym (run_holds opened link r.stag r.bytes run (AtEachMark_first TypedMark [] run more typed) (AtEachMark_first (AskedMark IsPrefixOf opened link) [] run more asked) (has_itself opened link run r there))

pub lost_hands_back : LostHandsBack
unfolding end_of_side
lost_hands_back opened link run before xid r typed asked at there own =
    let mark : Mark = marks.Lost link xid in
    let lost : IsLost opened link before xid = at_mark (AskedMark IsPrefixOf opened link) run before mark at.after at.is asked refl in
    subst (λ (whole : List Mark). Stands opened link whole before r) (sym at.is)
    (ended_regions_stand opened link before (mark ∷ at.after) r lost.ended (subst IsTyped at.is typed) (subst (λ (whole : List Mark). AskedSoFar opened link whole) at.is asked) lost.is_ended there)

-- ---- From the message of a call on

behind_all : (opened : LinkParameters) (p place : ℕ) (r : EndState ClientState) (es : List RunEvent) → p ≤ place → GoesOn (client_rules opened) (ClientGood opened) place r es → EventsBehind p es
behind_all opened p place r [] le g = tt
behind_all opened p place r (FrameReceived f ∷ es) le g = (let next = g.0.1 in (omega (arith, le, next), behind_all opened p f.end (next_end_state (client_rules opened) r (FrameReceived f)) es (omega (arith, le, next)) g.2))
behind_all opened p place r (CallSubmitted q a ∷ es) le g = (tt, behind_all opened p place (next_end_state (client_rules opened) r (CallSubmitted q a)) es le g.2)
behind_all opened p place r (MemoryRevoked q xid ∷ es) le g = (tt, behind_all opened p place (next_end_state (client_rules opened) r (MemoryRevoked q xid)) es le g.2)
behind_all opened p place r (CallExecuted e ∷ es) le g = (tt, behind_all opened p place (next_end_state (client_rules opened) r (CallExecuted e)) es le g.2)
behind_all opened p place r (QueueWritten taken ∷ es) le g = (tt, behind_all opened p place (next_end_state (client_rules opened) r (QueueWritten taken)) es le g.2)
behind_all opened p place r (ServerTold what ∷ es) le g = (tt, behind_all opened p place (next_end_state (client_rules opened) r (ServerTold what)) es le g.2)

-- an event that doesn't end a client goes to the state after it
goes_to : (opened : LinkParameters) (r : EndState ClientState) (e : RunEvent) → (next_end_state (client_rules opened) r e).ended ≡ None → next_end_state (client_rules opened) r e ≡ record { state = client_state_after opened r.state e; ended = None }
goes_to opened r e live = by_end r.ended live
  where
    by_why : (o : Option Stop) → (next_end_state_by (client_rules opened) r.state e o).ended ≡ None → next_end_state_by (client_rules opened) r.state e o ≡ record { state = client_state_after opened r.state e; ended = None }
    by_why None h = refl
    by_why (Some end) h = absurd (let wrong : Some end ≡ None = h in cc)

    by_end : (o : Option Stop) → (next_end_state_in (client_rules opened) r.state e o).ended ≡ None → next_end_state_in (client_rules opened) r.state e o ≡ record { state = client_state_after opened r.state e; ended = None }
    by_end None h = by_why (client_end r.state e) h
    by_end (Some end) h = absurd (let wrong : Some end ≡ None = h in cc)

segment_after : (opened : LinkParameters) (k : ClientState) (f : Frame) (s : Segment) → is_hello f ≡ false → client_segment k f ≡ Ok s → client_state_after opened k (FrameReceived f) ≡ with_segment k f (Ok s)
unfolding client_state_after
segment_after opened k f s behind is =
    ap (λ (b : Bool). cond b (with_hello opened k f) (with_segment k f (client_segment k f))) behind ∙ ap (λ (r : Result Segment ℕ). with_segment k f r) is

untagged : (h : ReceiveState) (f : Frame) (s : Segment) (stag : ℕ) (message : List ℕ) → message_completed h s ≡ Some message → NotTo stag (tagged_access f s)
untagged h f (Tagged last opcode own to payload) stag message whole = absurd (let wrong : None ≡ Some message = whole in cc)
untagged h f (Untagged last opcode w queue msn offset payload) stag message whole = tt

message_freezes : (opened : LinkParameters) (k : ClientState) (f : Frame) (s : Segment) (message : List ℕ) (r : Region) → ClientNumbers opened k → message_completed k.received s ≡ Some message → word_at 0 message ≡ r.call
    → find (λ x. eqb x.stag r.stag) k.regions ≡ Some r → r.until ≡ None → Frozen r.stag f.end r.bytes k.accesses_received (with_segment k f (Ok s))
message_freezes opened k f s message r numbers whole own found live =
    let low = low_found opened.first_stag r.stag k.regions r numbers.regions found in
    let under = low.0 in
    let next = numbers.next in
    let same = request_stag (with_message k f.end (message_completed k.received s)) (due_with_response k f s) (read_request_of s) ∙ message_stag k f.end (message_completed k.received s) in
    let closes : OnlyClosed r.stag f.end (regions_closed (λ x. eqb x.call (word_at 0 message)) f.end k.regions) = only_now (word_at 0 message) r.stag f.end opened.first_stag k.regions r numbers.regions found (sym own) live in
    record {
      only = subst (λ (rs : List Region). OnlyClosed r.stag f.end rs) (sym (request_regions (with_message k f.end (message_completed k.received s)) (due_with_response k f s) (read_request_of s)))
          (subst (λ (o : Option (List ℕ)). OnlyClosed r.stag f.end (with_message k f.end o).regions) (sym whole) closes);
      low = omega (arith, under, next, same);
      has = frame_regions (λ (rs : List Region). HasRegion rs r.stag r.bytes) k f (λ test. has_closed test f.end k.regions r.stag r.bytes) (record { region = r; there = found; own = refl; holds = refl }) (Ok s);
      more = tagged_access f s;
      accesses = refl;
      none = untagged k.received f s r.stag message whole;
    }

pub closed_regions_hold_what_stood : ClosedRegionsHoldWhatStood
unfolding client
closed_regions_hold_what_stood opened link run earlier later frame segment message r typed asked is stays behind is_segment whole own there live =
    let rules = client_rules opened in
    let before : EndState ClientState = client_by opened earlier in
    let k : ClientState = before.state in
    let after : EndState ClientState = next_end_state rules before (FrameReceived frame) in
    let numbers = client_numbers opened earlier in
    let found = found_at_lem opened.first_stag there.0 k.regions r numbers.regions there.1 there.2 in
    let g = client_goes opened link run typed asked in
    let all : GoesOn rules (ClientGood opened) 0 (initial_client opened) (earlier ++ FrameReceived frame ∷ later) = subst (λ (es : List RunEvent). GoesOn rules (ClientGood opened) 0 (initial_client opened) es) is g.goes in
    let rest = later_preserve rules (ClientGood opened) 0 (initial_client opened) earlier (FrameReceived frame ∷ later) all in
    let next = rest.0.1 in
    let kept = keeps_along opened earlier (first_preserve rules (ClientGood opened) 0 (initial_client opened) earlier (FrameReceived frame ∷ later) all) in
    let settled : Settled frame.end k.regions k.accesses_received = settled_later (places_after 0 earlier) frame.end k.regions k.accesses_received (omega (arith, next)) kept.keeps.settled in
    let is_after : after ≡ record { state = with_segment k frame (Ok segment); ended = None } = goes_to opened before (FrameReceived frame) stays ∙ ap (λ (x : ClientState). record { state = x; ended = None }) (segment_after opened k frame segment behind is_segment) in
    let one : Frozen r.stag frame.end r.bytes k.accesses_received after.state = subst (λ (x : EndState ClientState). Frozen r.stag frame.end r.bytes k.accesses_received x.state) (sym is_after) (message_freezes opened k frame segment message r numbers whole own found live) in
    let final : client_by opened (events link Initiator run) ≡ end_state_after rules after later = ap (λ (es : List RunEvent). client_by opened es) is ∙ end_state_after_append rules (initial_client opened) earlier (FrameReceived frame ∷ later) in
    let f : Frozen r.stag frame.end r.bytes k.accesses_received (client opened link run).state = subst (λ (x : EndState ClientState). Frozen r.stag frame.end r.bytes k.accesses_received x.state) (sym final)
    (frozen_all opened r.stag frame.end r.bytes k.accesses_received after later (behind_all opened frame.end frame.end after later (omega arith) rest.2) one) in
    run_holds opened link r.stag r.bytes run typed asked f.has ∙ frozen_holds r.stag frame.end r.bytes k.accesses_received (client opened link run).state f
    ∙ sym (held_parts frame.end r.stag k.regions k.accesses_received r settled found refl)
