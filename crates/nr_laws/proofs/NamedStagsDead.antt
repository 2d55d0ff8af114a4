-- The STag that a Send with Invalidate names: its regions are those of the call that is answered, and are closed with it.
use Rattle.std.proofs.Common.{◌≡◌, ◌≢◌, ℕ, ◌+◌, ◌<◌, Bool, true, false, cond, not, ◌&&◌, ◌||◌, eqb, List, [], ◌∷◌, ◌++◌, map, Option, None, Some, Result, Ok, Err, refl, sym, ap, subst, ◌∙◌, arith, inl, inr, ◌⊎◌, eqb-true, eq-eqb}
use Rattle.std.proofs.lemmas.Bool.{and_parts}
use Rattle.std.proofs.lemmas.List.Elements.{recursion_from_All, All-contains_itself}
use Rattle.std.specs.Prelude.{Contains}
use Rattle.std.specs.List.{AllByRecursion, list_any, find}
use Rattle.nr_xdr.specs.Fields.{word_at}
use Rattle.nr_header.specs.declared.fault.HeaderFault.{HeaderFault}
use Rattle.nr_header.specs.declared.fault.HeaderFault.TheVariants as faults
use Rattle.nr_header.specs.declared.header.Header.{Header}
use Rattle.nr_header.specs.Reading.{header_of}
use Rattle.nr_wire.specs.declared.hello.Side.TheVariants.{Responder}
use Rattle.nr_wire.specs.Hello.{hello_of}
use Rattle.nr_wire.specs.Segment.{Segment}
use Rattle.nr_link.specs.declared.end.End.{End as Stop}
use Rattle.nr_link.specs.Frames.{Frame, is_hello}
use Rattle.nr_link.specs.ReceiveState.{ReadRequest, message_completed, read_request_of}
use Rattle.nr_link.specs.Ending.{frame_end_by, hello_end}
use Rattle.nr_reduce.specs.declared.mark.LinkParameters.{LinkParameters}
use Rattle.nr_reduce.specs.Plans.{Buffer, buffers, regions_needed}
use Rattle.nr_reduce.specs.Events.{RunEvent}
use Rattle.nr_reduce.specs.Events.RunEvent.{FrameReceived, CallSubmitted, MemoryRevoked, CallExecuted, QueueWritten, ServerTold}
use Rattle.nr_reduce.specs.EndRules.{EndState, next_end_state, next_end_state_by, next_end_state_in, end_state_after}
use Rattle.nr_reduce.specs.OfferedRegions.{Region, region_grants, until_at, closed_if, regions_closed}
use Rattle.nr_reduce.specs.ClientState.{ClientState, OutstandingCall, is_sent, region_of, WaitingCall, others_than, waiting_call, waiting_from, waiting_regions}
use Rattle.nr_reduce.specs.ClientMessages.{reply_verdict, reply_by_header, by_call, answered_call, is_given, call_in, names_another, message_verdict}
use Rattle.nr_reduce.specs.ClientMessages.ReplyVerdict.{EndsLink}
use Rattle.nr_reduce.specs.Client.{client_segment, client_rules, client_end, client_readiness, client_state_after, initial_client, outstanding_of, with_message, with_request, with_segment, with_hello, due_with_response, revoked_call, or_message_end, client_message_end, end_of_verdict, segment_message, segment_names, or_other_sizes, revoked_waiting, regions_unless_waiting}
use Rattle.nr_reduce.proofs.OwnStags.{AreNumbered, client_numbers, kept_after}
use Rattle.nr_laws.specs.Invalidated.{IsInvalidated, NamedStagsAreDead}
use Rattle.nr_laws.proofs.Basics.{each_all, each_append, each_kept}
use Rattle.nr_laws.proofs.DistinctKeys.{or_right_lem, any_left, any_right}
use Rattle.nr_laws.proofs.DoneCalls.{found_xid}
use Rattle.nr_laws.proofs.HeaderXid.{header_xid}
use Rattle.nr_laws.proofs.LiveRegions.{SomeOne, some_one}
use Rattle.nr_laws.proofs.NamedReplies.{stays_as_plain}
use Rattle.nr_laws.proofs.Revoked.{request_regions}
use Rattle.nr_laws.proofs.SendRegions.{region_of_list}
use Rattle.nr_laws.proofs.WaitingCalls.{first_there, sent_again, others_there}
use Rattle.nr_reduce.specs.History.{AcceptedCall}
use Rattle.nr_reduce.specs.declared.mark.ResumedCall.{ResumedCall}

-- ---- Each region of an outstanding call is there

abbrev IsOwn : (xid stag : ℕ) → Region → Bool
IsOwn xid stag r = eqb r.stag stag && eqb r.call xid

-- a region under this STag is of the call of this xid
abbrev IsThere : List Region → (xid stag : ℕ) → Type 0
IsThere regions xid stag = list_any (IsOwn xid stag) regions ≡ true

abbrev HasGiven : List Region → OutstandingCall → Type 0
HasGiven regions o = AllByRecursion (λ (b : Buffer). IsThere regions o.xid b.stag) (buffers o.stag o.plan)

abbrev HasWaitingGiven : List Region → WaitingCall → Type 0
HasWaitingGiven regions w = AllByRecursion (λ (b : Buffer). IsThere regions w.xid b.stag) (buffers w.stag w.plan)

-- of each, and of each that waits to be sent again
record AllGiven (k : ClientState) : Type 0 where
  out : AllByRecursion (HasGiven k.regions) k.outstanding
  waits : AllByRecursion (HasWaitingGiven k.regions) k.waiting

own_closed : (b : Bool) (place xid stag : ℕ) (r : Region) → IsOwn xid stag (closed_if b place r) ≡ IsOwn xid stag r
own_closed true place xid stag r = refl
own_closed false place xid stag r = refl

there_closed : (test : Region → Bool) (place xid stag : ℕ) (regions : List Region) → list_any (IsOwn xid stag) (regions_closed test place regions) ≡ list_any (IsOwn xid stag) regions
unfolding regions_closed
there_closed test place xid stag [] = refl
there_closed test place xid stag (r ∷ regions) = λ i. own_closed (test r) place xid stag r i || there_closed test place xid stag regions i

given_more : (xs ys : List Region) (o : OutstandingCall) → ((stag : ℕ) → IsThere xs o.xid stag → IsThere ys o.xid stag) → HasGiven xs o → HasGiven ys o
given_more xs ys o more h = each_all (λ (b : Buffer). IsThere xs o.xid b.stag) (λ (b : Buffer). IsThere ys o.xid b.stag) (buffers o.stag o.plan) (λ b own. more b.stag own) h

all_more : (xs ys : List Region) (os : List OutstandingCall) → ((xid stag : ℕ) → IsThere xs xid stag → IsThere ys xid stag) → AllByRecursion (HasGiven xs) os → AllByRecursion (HasGiven ys) os
all_more xs ys os more h = each_all (HasGiven xs) (HasGiven ys) os (λ o own. given_more xs ys o (more o.xid) own) h

waits_more : (xs ys : List Region) (ws : List WaitingCall) → ((xid stag : ℕ) → IsThere xs xid stag → IsThere ys xid stag) → AllByRecursion (HasWaitingGiven xs) ws → AllByRecursion (HasWaitingGiven ys) ws
waits_more xs ys ws more h =
    each_all (HasWaitingGiven xs) (HasWaitingGiven ys) ws (λ w own. each_all (λ (b : Buffer). IsThere xs w.xid b.stag) (λ (b : Buffer). IsThere ys w.xid b.stag) (buffers w.stag w.plan) (λ b there. more w.xid b.stag there) own) h

waits_revoked : (regions : List Region) (xid : ℕ) (ws : List WaitingCall) → AllByRecursion (HasWaitingGiven regions) ws → AllByRecursion (HasWaitingGiven regions) (map (revoked_waiting xid) ws)
waits_revoked regions xid [] h = tt
waits_revoked regions xid (w ∷ ws) h = (by (eqb w.xid xid), waits_revoked regions xid ws h.1)
  where
    by : (b : Bool) → HasWaitingGiven regions (cond b (record w { is_revoked = true }) w)
    by true = h.0
    by false = h.0

all_closed : (test : Region → Bool) (place : ℕ) (regions : List Region) (os : List OutstandingCall) → AllByRecursion (HasGiven regions) os → AllByRecursion (HasGiven (regions_closed test place regions)) os
all_closed test place regions os h = all_more regions (regions_closed test place regions) os (λ xid stag own. there_closed test place xid stag regions ∙ own) h

-- a new call's regions are there
new_there : (xid place : ℕ) (pre bs : List Buffer) → AllByRecursion (λ (b : Buffer). IsThere (map (region_of xid place) (pre ++ bs)) xid b.stag) bs
new_there xid place pre bs = by pre bs
  where
    one : (pre : List Buffer) (b : Buffer) (bs : List Buffer) → IsThere (map (region_of xid place) (pre ++ b ∷ bs)) xid b.stag
    one [] b bs = (λ i. (eq-eqb b.stag b.stag refl i && eq-eqb xid xid refl i) || list_any (IsOwn xid b.stag) (map (region_of xid place) bs))
    one (p ∷ pre) b bs = or_right_lem (IsOwn xid b.stag (region_of xid place p)) (list_any (IsOwn xid b.stag) (map (region_of xid place) (pre ++ b ∷ bs))) (one pre b bs)

    next : (pre : List Buffer) (b : Buffer) (bs : List Buffer) → (pre ++ b ∷ []) ++ bs ≡ pre ++ b ∷ bs
    next [] b bs = refl
    next (p ∷ pre) b bs = ap (λ (xs : List Buffer). p ∷ xs) (next pre b bs)

    by : (pre bs : List Buffer) → AllByRecursion (λ (b : Buffer). IsThere (map (region_of xid place) (pre ++ bs)) xid b.stag) bs
    by pre [] = tt
    by pre (b ∷ bs) = (one pre b bs, subst (λ (all : List Buffer). AllByRecursion (λ (c : Buffer). IsThere (map (region_of xid place) all) xid c.stag) bs) (next pre b bs) (by (pre ++ b ∷ []) bs))

revoked_given : (regions : List Region) (xid : ℕ) (o : OutstandingCall) → HasGiven regions o → HasGiven regions (revoked_call xid o)
revoked_given regions xid o h = by (eqb o.xid xid)
  where
    by : (b : Bool) → HasGiven regions (cond b (record o { is_revoked = true }) o)
    by true = h
    by false = h

all_revoked : (regions : List Region) (xid : ℕ) (os : List OutstandingCall) → AllByRecursion (HasGiven regions) os → AllByRecursion (HasGiven regions) (map (revoked_call xid) os)
all_revoked regions xid [] h = tt
all_revoked regions xid (o ∷ os) h = (revoked_given regions xid o h.0, all_revoked regions xid os h.1)

message_given : (k : ClientState) (place : ℕ) (m : Option (List ℕ)) → AllGiven k → AllGiven (with_message k place m)
message_given k place None h = h
message_given k place (Some m) h = record {
  out = each_kept (HasGiven (regions_closed (λ r. eqb r.call (word_at 0 m)) place k.regions)) (λ (o : OutstandingCall). not (eqb o.xid (word_at 0 m))) k.outstanding
      (all_closed (λ r. eqb r.call (word_at 0 m)) place k.regions k.outstanding h.out);
  waits = waits_more k.regions (regions_closed (λ r. eqb r.call (word_at 0 m)) place k.regions) k.waiting (λ xid stag own. there_closed (λ r. eqb r.call (word_at 0 m)) place xid stag k.regions ∙ own) h.waits;
}

request_given : (k : ClientState) (due : ℕ) (r : Option ReadRequest) → AllGiven k → AllGiven (with_request k due r)
request_given k due None h = h
request_given k due (Some r) h = record { out = h.out; waits = h.waits }

segment_given : (k : ClientState) (f : Frame) (r : Result Segment ℕ) → AllGiven k → AllGiven (with_segment k f r)
segment_given k f (Err reason) h = h
segment_given k f (Ok s) h =
    let all = request_given (with_message k f.end (message_completed k.received s)) (due_with_response k f s) (read_request_of s) (message_given k f.end (message_completed k.received s) h) in
    record { out = all.out; waits = all.waits }

given_submitted : (k : ClientState) (place : ℕ) (a : AcceptedCall) (w : Option WaitingCall) → waiting_call k a.xid ≡ w → AllByRecursion (HasWaitingGiven k.regions) k.waiting → HasGiven (k.regions ++ regions_unless_waiting w place (outstanding_of k a)) (outstanding_of k a)
given_submitted k place a None is h =
    let o = outstanding_of k a in
    let new : List Region = map (region_of a.xid place) (buffers o.stag o.plan) in
    each_all (λ (b : Buffer). IsThere new a.xid b.stag) (λ (b : Buffer). IsThere (k.regions ++ new) a.xid b.stag) (buffers o.stag o.plan) (λ b own. any_right (IsOwn a.xid b.stag) k.regions new own) (new_there a.xid place [] (buffers o.stag o.plan))
given_submitted k place a (Some w) is h =
    let same = sent_again k a w is in
    let own : HasWaitingGiven k.regions w = first_there (HasWaitingGiven k.regions) k.waiting a.xid w h is in
    each_all (λ (b : Buffer). IsThere k.regions a.xid b.stag) (λ (b : Buffer). IsThere (k.regions ++ []) a.xid b.stag) (buffers (outstanding_of k a).stag (outstanding_of k a).plan) (λ b there. any_left (IsOwn a.xid b.stag) k.regions [] there)
    (subst (λ (bs : List Buffer). AllByRecursion (λ (b : Buffer). IsThere k.regions a.xid b.stag) bs) (λ i. buffers (sym same.stag i) (sym same.plan i))
    (subst (λ (n : ℕ). AllByRecursion (λ (b : Buffer). IsThere k.regions n b.stag) (buffers w.stag w.plan)) (sym same.xid) own))

given_after : (opened : LinkParameters) (k : ClientState) (e : RunEvent) → AllGiven k → AllGiven (client_state_after opened k e)
unfolding client_state_after
given_after opened k (FrameReceived f) h = by (is_hello f)
  where
    by : (b : Bool) → AllGiven (cond b (with_hello opened k f) (with_segment k f (client_segment k f)))
    by true = record { out = h.out; waits = h.waits }
    by false = segment_given k f (client_segment k f) h
given_after opened k (CallSubmitted place a) h =
    let o = outstanding_of k a in
    let new : List Region = regions_unless_waiting (waiting_call k a.xid) place o in
    let more : (xid stag : ℕ) → IsThere k.regions xid stag → IsThere (k.regions ++ new) xid stag = λ xid stag own. any_left (IsOwn xid stag) k.regions new own in
    record {
      out = each_append (HasGiven (k.regions ++ new)) k.outstanding (o ∷ []) (all_more k.regions (k.regions ++ new) k.outstanding more h.out) (given_submitted k place a (waiting_call k a.xid) refl h.waits, tt);
      waits = waits_more k.regions (k.regions ++ new) (others_than k.waiting a.xid) more (others_there (HasWaitingGiven k.regions) k.waiting a.xid h.waits);
    }
given_after opened k (MemoryRevoked place xid) h = record {
  out = all_revoked (regions_closed (λ r. eqb r.call xid) place k.regions) xid k.outstanding (all_closed (λ r. eqb r.call xid) place k.regions k.outstanding h.out);
  waits = waits_revoked (regions_closed (λ r. eqb r.call xid) place k.regions) xid k.waiting
      (waits_more k.regions (regions_closed (λ r. eqb r.call xid) place k.regions) k.waiting (λ x stag own. there_closed (λ r. eqb r.call xid) place x stag k.regions ∙ own) h.waits);
}
given_after opened k (CallExecuted call) h = h
given_after opened k (QueueWritten taken) h = record { out = h.out; waits = h.waits }
given_after opened k (ServerTold what) h = record { out = h.out; waits = h.waits }

-- the calls that wait have their regions from the start
waits_first : (stag : ℕ) (rs : List ResumedCall) → AllByRecursion (HasWaitingGiven (waiting_regions (waiting_from stag rs))) (waiting_from stag rs)
waits_first stag [] = tt
waits_first stag (r ∷ rs) =
    let own : List Region = map (region_of r.xid 0) (buffers stag r.plan) in
    let ws : List WaitingCall = waiting_from (stag + regions_needed r.plan) rs in
    let later : List Region = waiting_regions ws in (
      each_all (λ (b : Buffer). IsThere own r.xid b.stag) (λ (b : Buffer). IsThere (own ++ later) r.xid b.stag) (buffers stag r.plan) (λ b there. any_left (IsOwn r.xid b.stag) own later there) (new_there r.xid 0 [] (buffers stag r.plan)),
      waits_more later (own ++ later) ws (λ xid s there. any_right (IsOwn xid s) own later there) (waits_first (stag + regions_needed r.plan) rs),
    )

client_given : (opened : LinkParameters) (es : List RunEvent) → AllGiven (end_state_after (client_rules opened) (initial_client opened) es).state
client_given opened es = kept_after (client_rules opened) AllGiven (given_after opened) (initial_client opened) es (record { out = tt; waits = waits_first opened.first_stag opened.resumed })

-- ---- One region of an STag

-- none later has an STag below these
numbered_above : (n stag : ℕ) (regions : List Region) → stag < n → AreNumbered n regions → AllByRecursion (λ (r : Region). r.stag ≡ stag → ⊥) regions
numbered_above n stag [] lt h = tt
numbered_above n stag (r ∷ regions) lt h = ((λ same. (let s = h.0 in omega (arith, lt, s, same))), numbered_above (n + 1) stag regions (omega (arith, lt)) h.1)

none_away : (xid stag : ℕ) (xs : List Region) → AllByRecursion (λ (x : Region). x.stag ≡ stag → ⊥) xs → IsThere xs xid stag → ⊥
none_away xid stag [] away e = absurd cc
none_away xid stag (x ∷ xs) away e = at (eqb x.stag stag) refl e (none_away xid stag xs away.1)
  where
    at : (b : Bool) → eqb x.stag stag ≡ b → ((b && eqb x.call xid) || list_any (IsOwn xid stag) xs) ≡ true → (IsThere xs xid stag → ⊥) → ⊥
    at true so e later = away.0 (eqb-true x.stag stag so)
    at false so e later = later e

-- all regions of the STag are of this call, if one is
all_own : (n xid stag : ℕ) (regions : List Region) → AreNumbered n regions → IsThere regions xid stag → AllByRecursion (λ (r : Region). r.stag ≡ stag → r.call ≡ xid) regions
all_own n xid stag [] h there = tt
all_own n xid stag (r ∷ regions) h there = by (eqb r.stag stag) refl (eqb r.call xid) refl there (all_own (n + 1) xid stag regions h.1)
  where
    by : (b : Bool) → eqb r.stag stag ≡ b → (c : Bool) → eqb r.call xid ≡ c → ((b && c) || list_any (IsOwn xid stag) regions) ≡ true → (IsThere regions xid stag → AllByRecursion (λ (x : Region). x.stag ≡ stag → x.call ≡ xid) regions) → AllByRecursion (λ (x : Region). x.stag ≡ stag → x.call ≡ xid) (r ∷ regions)
    by false is c own e later = ((λ same. absurd (let wrong : true ≡ false = sym (eq-eqb r.stag stag same) ∙ is in cc)), later e)
    by true is true own e later =
        let same = eqb-true r.stag stag is in
        let first = h.0 in (
          (λ x. eqb-true r.call xid own),
          each_all (λ (x : Region). x.stag ≡ stag → ⊥) (λ (x : Region). x.stag ≡ stag → x.call ≡ xid) regions (λ x not_so so. absurd (not_so so)) (numbered_above (n + 1) stag regions (omega (arith, same, first)) h.1),
        )
    by true is false own e later =
        let same = eqb-true r.stag stag is in
        let first = h.0 in
        absurd (none_away xid stag regions (numbered_above (n + 1) stag regions (omega (arith, same, first)) h.1) e)

-- ---- The message that names it

-- the call that is answered was given the STag
record NamesGiven (k : ClientState) (message : List ℕ) (stag : ℕ) : Type 0 where
  call : OutstandingCall
  there : find (λ o. eqb o.xid (word_at 0 message) && is_sent k o) k.outstanding ≡ Some call
  own : call.xid ≡ word_at 0 message
  given : is_given call stag ≡ true

not_false : (b : Bool) → not b ≡ false → b ≡ true
not_false true e = refl
not_false false e = absurd cc

no_link : (f : Frame) (reason : ℕ) → end_of_verdict f (EndsLink reason) ≡ None → ⊥
no_link f reason e = cc

names_given : (k : ClientState) (f : Frame) (message : List ℕ) (stag : ℕ) → end_of_verdict f (message_verdict k f.end (Some stag) message) ≡ None → NamesGiven k message stag
unfolding message_verdict reply_verdict
names_given k f message stag e = by_header (header_of message) refl (stays_as_plain k f (Some stag) message e) e
  where
    by_name : (h : Header) → header_of message ≡ Ok h → (o : OutstandingCall) → answered_call k h.xid ≡ Some o → (b : Bool) → is_given o stag ≡ b → end_of_verdict f (cond (not b) (EndsLink 29) (reply_verdict k f.end message)) ≡ None → NamesGiven k message stag
    by_name h is o found false own stays = absurd (no_link f 29 stays)
    by_name h is o found true own stays =
        let xid = header_xid message h is in
        let at : find (λ x. eqb x.xid (word_at 0 message) && is_sent k x) k.outstanding ≡ Some o = ap (λ (n : ℕ). answered_call k n) (sym xid) ∙ found in
        record { call = o; there = at; own = found_xid (is_sent k) (word_at 0 message) k.outstanding o at; given = own }

    by_answered : (h : Header) → header_of message ≡ Ok h → (o : Option OutstandingCall) → answered_call k h.xid ≡ o → end_of_verdict f (by_call k f.end message h.body o) ≡ None → end_of_verdict f (cond (names_another o stag) (EndsLink 29) (reply_verdict k f.end message)) ≡ None → NamesGiven k message stag
    by_answered h is None found plain stays = absurd (no_link f 20 plain)
    by_answered h is (Some o) found plain stays = by_name h is o found (is_given o stag) refl stays

    by_header : (r : Result Header HeaderFault) → header_of message ≡ r → end_of_verdict f (reply_by_header k f.end message (header_of message)) ≡ None → end_of_verdict f (cond (names_another (call_in k (header_of message)) stag) (EndsLink 29) (reply_verdict k f.end message)) ≡ None → NamesGiven k message stag
    by_header (Ok h) is plain stays =
        by_answered h is (answered_call k h.xid) refl (ap (λ (r : Result Header HeaderFault). end_of_verdict f (reply_by_header k f.end message r)) (sym is) ∙ plain)
        (ap (λ (r : Result Header HeaderFault). end_of_verdict f (cond (names_another (call_in k r) stag) (EndsLink 29) (reply_verdict k f.end message))) (sym is) ∙ stays)
    by_header (Err faults.Short) is plain stays = absurd (no_link f 16 (ap (λ (r : Result Header HeaderFault). end_of_verdict f (reply_by_header k f.end message r)) (sym is) ∙ plain))
    by_header (Err (faults.Version version)) is plain stays = absurd (no_link f 23 (ap (λ (r : Result Header HeaderFault). end_of_verdict f (reply_by_header k f.end message r)) (sym is) ∙ plain))
    by_header (Err (faults.Kind kind)) is plain stays = absurd (no_link f 17 (ap (λ (r : Result Header HeaderFault). end_of_verdict f (reply_by_header k f.end message r)) (sym is) ∙ plain))
    by_header (Err (faults.BadChunks at)) is plain stays = absurd (no_link f 17 (ap (λ (r : Result Header HeaderFault). end_of_verdict f (reply_by_header k f.end message r)) (sym is) ∙ plain))

-- so a region of that call is under it
given_there : (regions : List Region) (xid stag : ℕ) (bs : List Buffer) → AllByRecursion (λ (b : Buffer). IsThere regions xid b.stag) bs → list_any (λ b. eqb b.stag stag) bs ≡ true → IsThere regions xid stag
given_there regions xid stag [] h e = absurd cc
given_there regions xid stag (b ∷ bs) h e = by (eqb b.stag stag) refl e (given_there regions xid stag bs h.1)
  where
    by : (c : Bool) → eqb b.stag stag ≡ c → (c || list_any (λ x. eqb x.stag stag) bs) ≡ true → (list_any (λ x. eqb x.stag stag) bs ≡ true → IsThere regions xid stag) → IsThere regions xid stag
    by true is e later = subst (λ (n : ℕ). IsThere regions xid n) (eqb-true b.stag stag is) h.0
    by false is e later = later e

found_each : (P : OutstandingCall → Type 0) (p : OutstandingCall → Bool) (os : List OutstandingCall) (o : OutstandingCall) → find p os ≡ Some o → AllByRecursion P os → P o
found_each P p [] o e h = absurd cc
found_each P p (x ∷ os) o e h = by (p x) e (found_each P p os o)
  where
    by : (b : Bool) → cond b (Some x) (find p os) ≡ Some o → (find p os ≡ Some o → AllByRecursion P os → P o) → P o
    by true e later = subst P (let s : x ≡ o = cc in s) h.0
    by false e later = later e h.1

-- ---- What is closed

until_some : (place : ℕ) (u : Option ℕ) → until_at place u ≢ None
until_some place None = λ e. cc
until_some place (Some n) = λ e. cc

closed_dead : (xid stag place : ℕ) (regions : List Region) → AllByRecursion (λ (r : Region). r.stag ≡ stag → r.call ≡ xid) regions → AllByRecursion (λ (r : Region). r.stag ≡ stag → r.until ≢ None) (regions_closed (λ r. eqb r.call xid) place regions)
unfolding regions_closed
closed_dead xid stag place [] h = tt
closed_dead xid stag place (r ∷ regions) h = (by (eqb r.call xid) refl, closed_dead xid stag place regions h.1)
  where
    by : (b : Bool) → eqb r.call xid ≡ b → (closed_if b place r).stag ≡ stag → (closed_if b place r).until ≢ None
    by true is same = until_some place r.until
    by false is same = absurd (let wrong : true ≡ false = sym (eq-eqb r.call xid (h.0 same)) ∙ is in cc)

closed_others : (xid place : ℕ) (regions all : List Region) → AllByRecursion (Contains all) (regions_closed (λ r. eqb r.call xid) place regions) → AllByRecursion (λ (r : Region). r.call ≢ xid → Contains all r) regions
unfolding regions_closed
closed_others xid place [] all h = tt
closed_others xid place (r ∷ regions) all h = ((λ away. by (eqb r.call xid) refl away h.0), closed_others xid place regions all h.1)
  where
    by : (b : Bool) → eqb r.call xid ≡ b → r.call ≢ xid → Contains all (closed_if b place r) → Contains all r
    by true is away there = absurd (away (eqb-true r.call xid is))
    by false is away there = there

-- ---- The law

invalidated_by : (opened : LinkParameters) (es : List RunEvent) (k t : ClientState) (place : ℕ) (message : List ℕ) (stag : ℕ) → k ≡ (end_state_after (client_rules opened) (initial_client opened) es).state → t.regions ≡ regions_closed (λ r. eqb r.call (word_at 0 message)) place k.regions → NamesGiven k message stag
    → IsInvalidated k t (word_at 0 message) stag
invalidated_by opened es k t place message stag at closed g =
    let xid = word_at 0 message in
    let numbers : AreNumbered opened.first_stag k.regions = subst (λ (x : ClientState). AreNumbered opened.first_stag x.regions) (sym at) (client_numbers opened es).regions in
    let all : AllGiven k = subst AllGiven (sym at) (client_given opened es) in
    let has : HasGiven k.regions g.call = found_each (HasGiven k.regions) (λ o. eqb o.xid xid && is_sent k o) k.outstanding g.call g.there all.out in
    let there : IsThere k.regions xid stag = subst (λ (n : ℕ). IsThere k.regions n stag) g.own (given_there k.regions g.call.xid stag (buffers g.call.stag g.call.plan) has g.given) in
    let one : SomeOne (IsOwn xid stag) k.regions = some_one (IsOwn xid stag) k.regions there in
    let both = and_parts (eqb one.one.stag stag) (eqb one.one.call xid) one.passes in
    let own = all_own opened.first_stag xid stag k.regions numbers there in
    let left : List Region = regions_closed (λ r. eqb r.call xid) place k.regions in
    record {
      own = λ r inside same. region_of_list (λ (x : Region). x.stag ≡ stag → x.call ≡ xid) k.regions r own inside same;
      given = (one.one, (one.there, (eqb-true one.one.stag stag both.0, eqb-true one.one.call xid both.1)));
      dead = λ r inside same. region_of_list (λ (x : Region). x.stag ≡ stag → x.until ≢ None) left r (closed_dead xid stag place k.regions own) (subst (λ (xs : List Region). Contains xs r) closed inside) same;
      others = λ r inside away.
          subst (λ (xs : List Region). Contains xs r) (sym closed)
          (region_of_list (λ (x : Region). x.call ≢ xid → Contains left x) k.regions r (closed_others xid place k.regions left (recursion_from_All (Contains left) left (All-contains_itself left))) inside away);
    }

or_end : (k : ClientState) (f : Frame) (o : Option Stop) → or_message_end k f o ≡ None → client_message_end k f (segment_names (client_segment k f)) (segment_message k (client_segment k f)) ≡ None
or_end k f None e = e
or_end k f (Some end) e = absurd cc

pub named_stags_are_dead : NamedStagsAreDead
unfolding client_end client_state_after
named_stags_are_dead opened link run earlier later f segment message stag is live behind reads whole names = by (client_end k (FrameReceived f)) refl
  where
    before : EndState ClientState
    before = end_state_after (client_rules opened) (initial_client opened) earlier

    k : ClientState
    k = before.state

    after : EndState ClientState
    after = next_end_state (client_rules opened) before (FrameReceived f)

    goes : (o : Option Stop) → client_end k (FrameReceived f) ≡ o → after ≡ next_end_state_by (client_rules opened) k (FrameReceived f) o
    goes o e = ap (λ (x : Option Stop). next_end_state_in (client_rules opened) k (FrameReceived f) x) live ∙ ap (λ (x : Option Stop). next_end_state_by (client_rules opened) k (FrameReceived f) x) e

    by : (o : Option Stop) → client_end k (FrameReceived f) ≡ o → ((end : Stop) × ((after.ended ≡ Some end) × (after.state ≡ before.state))) ⊎ ((after.ended ≡ None) × IsInvalidated before.state after.state (word_at 0 message) stag)
    by (Some end) e = inl (end, (ap (λ (r : EndState ClientState). r.ended) (goes (Some end) e), ap (λ (r : EndState ClientState). r.state) (goes (Some end) e)))
    by None e = inr (ap (λ (r : EndState ClientState). r.ended) (goes None e), invalidated_by opened earlier k after.state f.end message stag refl closed (names_given k f message stag stays))
      where
        ready : Option Stop
        ready = frame_end_by (client_readiness k) (region_grants f.end k.regions) f (client_segment k f)

        judged : or_message_end k f ready ≡ None
        judged = ap (λ (b : Bool). cond b (or_other_sizes k f (hello_end (hello_of Responder f.bytes))) (or_message_end k f ready)) (sym behind) ∙ e

        stays : end_of_verdict f (message_verdict k f.end (Some stag) message) ≡ None
        stays =
            (λ i. client_message_end k f (sym names i) (sym whole i))
            ∙ ap (λ (r : Result Segment ℕ). client_message_end k f (segment_names r) (segment_message k r)) (sym reads)
            ∙ or_end k f ready judged

        closed : after.state.regions ≡ regions_closed (λ r. eqb r.call (word_at 0 message)) f.end k.regions
        closed =
            ap (λ (r : EndState ClientState). r.state.regions) (goes None e)
            ∙ ap (λ (b : Bool). (cond b (with_hello opened k f) (with_segment k f (client_segment k f))).regions) behind
            ∙ ap (λ (r : Result Segment ℕ). (with_segment k f r).regions) reads
            ∙ request_regions (with_message k f.end (message_completed k.received segment)) (due_with_response k f segment) (read_request_of segment)
            ∙ ap (λ (m : Option (List ℕ)). (with_message k f.end m).regions) whole
