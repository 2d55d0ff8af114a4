-- A region of a client is closed by the message of its call, or when its memory is taken back.
use Rattle.std.proofs.Common.{◌≡◌, ℕ, Bool, true, false, cond, eqb, List, [], ◌∷◌, ◌++◌, map, Option, None, Some, Result, Ok, Err, refl, sym, ap, subst, ◌∙◌, append_assoc, append-nil, inl, inr, ◌⊎◌, eqb-true}
use Rattle.std.specs.Prelude.{Contains}
use Rattle.std.specs.List.{AllByRecursion}
use Rattle.std.proofs.lemmas.List.Elements.{recursion_from_All, All-contains_itself}
use Rattle.nr_xdr.specs.Fields.{word_at}
use Rattle.nr_wire.specs.declared.hello.Side.TheVariants.{Initiator}
use Rattle.nr_wire.specs.Segment.{Segment}
use Rattle.nr_link.specs.declared.end.End.{End as Stop}
use Rattle.nr_link.specs.Frames.{is_hello}
use Rattle.nr_link.specs.ReceiveState.{message_completed, read_request_of}
use Rattle.nr_reduce.specs.declared.mark.LinkParameters.{LinkParameters}
use Rattle.nr_reduce.specs.Plans.{Buffer, buffers}
use Rattle.nr_reduce.specs.Events.{RunEvent, events}
use Rattle.nr_reduce.specs.Events.RunEvent.{FrameReceived, CallSubmitted, MemoryRevoked, CallExecuted, QueueWritten, ServerTold}
use Rattle.nr_reduce.specs.EndRules.{EndState, next_end_state, next_end_state_by, next_end_state_in}
use Rattle.nr_reduce.specs.OfferedRegions.{Region, until_at, closed_if, regions_closed}
use Rattle.nr_reduce.specs.ClientState.{ClientState, region_of, WaitingCall, waiting_call, waiting_from, waiting_regions}
use Rattle.nr_reduce.specs.Client.{client_segment, client_rules, client_end, client_state_after, initial_client, outstanding_of, with_message, with_segment, with_hello, due_with_response, regions_unless_waiting}
use Rattle.nr_reduce.specs.Run.{client}
use Rattle.nr_reduce.proofs.Steps.{end_state_after_append}
use Rattle.nr_laws.proofs.Outcomes.{client_by}
use Rattle.nr_laws.specs.ClientRegions.{IsMessageOf, IsClosedForCall, ClientRegionsCloseWithCalls, CallsAddChunks}
use Rattle.nr_laws.proofs.Revoked.{request_regions}
use Rattle.nr_laws.proofs.Basics.{each_all, each_append, some_is_lem}
use Rattle.nr_laws.proofs.SendRegions.{region_of_list}
use Rattle.nr_reduce.specs.History.{AcceptedCall}

abbrev IsClosed : LinkParameters → List RunEvent → Region → Type 0
IsClosed opened es r = (place : ℕ) → r.until ≡ Some place → IsClosedForCall opened es r place

closed_more : (opened : LinkParameters) (es more : List RunEvent) (r : Region) → IsClosed opened es r → IsClosed opened (es ++ more) r
closed_more opened es more r h place is =
    let c = h place is in
    record {
      earlier = c.earlier;
      later = c.later ++ more;
      event = c.event;
      is_received = ap (λ (xs : List RunEvent). xs ++ more) c.is_received ∙ append_assoc c.earlier (c.event ∷ c.later) more;
      stays = c.stays;
      was_live = c.was_live;
      why = c.why;
    }

-- an event that doesn't end the client
abbrev Stays : LinkParameters → List RunEvent → RunEvent → Type 0
Stays opened es e = (next_end_state (client_rules opened) (client_by opened es) e).ended ≡ None

abbrev Why : ClientState → RunEvent → ℕ → ℕ → Type 0
Why k e xid place = IsMessageOf k e xid place ⊎ (e ≡ MemoryRevoked place xid)

close_one : (opened : LinkParameters) (es : List RunEvent) (e : RunEvent) (p : ℕ) (x : Region) → Stays opened es e → IsClosed opened (es ++ e ∷ []) x → Contains (client_by opened es).state.regions x → (b : Bool) → (b ≡ true → Why (client_by opened es).state e x.call p) → IsClosed opened (es ++ e ∷ []) (closed_if b p x)
close_one opened es e p x stays h there false why = h
close_one opened es e p x stays h there true why = λ place is. by x.until refl place is
  where
    by : (u : Option ℕ) → x.until ≡ u → (place : ℕ) → until_at p u ≡ Some place → IsClosedForCall opened (es ++ e ∷ []) (closed_if true p x) place
    by None none place is = record {
      earlier = es;
      later = [];
      event = e;
      is_received = refl;
      stays = stays;
      was_live = subst (λ (u : Option ℕ). Contains (client_by opened es).state.regions (record x { until = u })) none there;
      why = subst (λ (n : ℕ). Why (client_by opened es).state e x.call n) (some_is_lem p place is) (why refl);
    }
    by (Some u) some place is =
        let c = h place (some ∙ is) in
        record { earlier = c.earlier; later = c.later; event = c.event; is_received = c.is_received; stays = c.stays; was_live = c.was_live; why = c.why }

close_all : (opened : LinkParameters) (es : List RunEvent) (e : RunEvent) (p xid : ℕ) → Stays opened es e → Why (client_by opened es).state e xid p → (xs : List Region) → AllByRecursion (IsClosed opened (es ++ e ∷ [])) xs → AllByRecursion (Contains (client_by opened es).state.regions) xs
    → AllByRecursion (IsClosed opened (es ++ e ∷ [])) (regions_closed (λ r. eqb r.call xid) p xs)
unfolding regions_closed
close_all opened es e p xid stays why [] h c = tt
close_all opened es e p xid stays why (x ∷ xs) h c =
    (close_one opened es e p x stays h.0 c.0 (eqb x.call xid) (λ own. subst (λ (n : ℕ). Why (client_by opened es).state e n p) (sym (eqb-true x.call xid own)) why), close_all opened es e p xid stays why xs h.1 c.1)

new_open : (opened : LinkParameters) (es : List RunEvent) (xid place : ℕ) (bs : List Buffer) → AllByRecursion (IsClosed opened es) (map (region_of xid place) bs)
new_open opened es xid place [] = tt
new_open opened es xid place (b ∷ bs) = ((λ p is. absurd (let wrong : None ≡ Some p = is in cc)), new_open opened es xid place bs)

one_event : (opened : LinkParameters) (es : List RunEvent) (e : RunEvent) → AllByRecursion (IsClosed opened es) (client_by opened es).state.regions
    → AllByRecursion (IsClosed opened (es ++ e ∷ [])) (next_end_state (client_rules opened) (client_by opened es) e).state.regions
unfolding client_state_after
one_event opened es e h = by_ended (client_by opened es).ended refl
  where
    k : ClientState
    k = (client_by opened es).state

    P : Region → Type 0
    P = IsClosed opened (es ++ e ∷ [])

    same : AllByRecursion P k.regions
    same = each_all (IsClosed opened es) P k.regions (closed_more opened es (e ∷ [])) h

    all : AllByRecursion (Contains k.regions) k.regions
    all = recursion_from_All (Contains k.regions) k.regions (All-contains_itself k.regions)

    new_or_none : (place : ℕ) (a : AcceptedCall) (w : Option WaitingCall) → AllByRecursion P (regions_unless_waiting w place (outstanding_of k a))
    new_or_none place a None = new_open opened (es ++ e ∷ []) a.xid place (buffers (outstanding_of k a).stag (outstanding_of k a).plan)
    new_or_none place a (Some w) = tt

    by_event : Stays opened es e → (x : RunEvent) → e ≡ x → AllByRecursion P (client_state_after opened k x).regions
    by_event stays (FrameReceived f) is = by_hello (is_hello f) refl
      where
        by_message : (s : Segment) → client_segment k f ≡ Ok s → is_hello f ≡ false → (o : Option (List ℕ)) → message_completed k.received s ≡ o → AllByRecursion P (with_message k f.end o).regions
        by_message s own behind None whole = same
        by_message s own behind (Some m) whole =
            close_all opened es e f.end (word_at 0 m) stays (inl (record { frame = f; segment = s; message = m; is = is; behind_hello = behind; is_segment = own; whole = whole; own = refl; ends_there = refl })) k.regions same all

        by_segment : (r : Result Segment ℕ) → client_segment k f ≡ r → is_hello f ≡ false → AllByRecursion P (with_segment k f r).regions
        by_segment (Err reason) own behind = same
        by_segment (Ok s) own behind =
            subst (AllByRecursion P) (sym (request_regions (with_message k f.end (message_completed k.received s)) (due_with_response k f s) (read_request_of s))) (by_message s own behind (message_completed k.received s) refl)

        by_hello : (b : Bool) → is_hello f ≡ b → AllByRecursion P (cond b (with_hello opened k f) (with_segment k f (client_segment k f))).regions
        by_hello true behind = same
        by_hello false behind = by_segment (client_segment k f) refl behind
    by_event stays (CallSubmitted place a) is = each_append P k.regions (regions_unless_waiting (waiting_call k a.xid) place (outstanding_of k a)) same (new_or_none place a (waiting_call k a.xid))
    by_event stays (MemoryRevoked place xid) is = close_all opened es e place xid stays (inr is) k.regions same all
    by_event stays (CallExecuted call) is = same
    by_event stays (QueueWritten taken) is = same
    by_event stays (ServerTold what) is = same

    by_why : (client_by opened es).ended ≡ None → (o : Option Stop) → client_end k e ≡ o → AllByRecursion P (next_end_state_by (client_rules opened) k e o).state.regions
    by_why live None why =
        by_event (ap (λ (o : Option Stop). (next_end_state_in (client_rules opened) k e o).ended) live ∙ ap (λ (o : Option Stop). (next_end_state_by (client_rules opened) k e o).ended) why) e refl
    by_why live (Some end) why = same

    by_ended : (o : Option Stop) → (client_by opened es).ended ≡ o → AllByRecursion P (next_end_state_in (client_rules opened) k e o).state.regions
    by_ended None live = by_why live (client_end k e) refl
    by_ended (Some end) live = same

all_events : (opened : LinkParameters) (front es : List RunEvent) → AllByRecursion (IsClosed opened front) (client_by opened front).state.regions → AllByRecursion (IsClosed opened (front ++ es)) (client_by opened (front ++ es)).state.regions
all_events opened front [] h = subst (λ (xs : List RunEvent). AllByRecursion (IsClosed opened xs) (client_by opened xs).state.regions) (sym (append-nil front)) h
all_events opened front (e ∷ es) h =
    let one = subst (λ (r : EndState ClientState). AllByRecursion (IsClosed opened (front ++ e ∷ [])) r.state.regions) (sym (end_state_after_append (client_rules opened) (initial_client opened) front (e ∷ []))) (one_event opened front e h) in
    subst (λ (xs : List RunEvent). AllByRecursion (IsClosed opened xs) (client_by opened xs).state.regions) (append_assoc front (e ∷ []) es) (all_events opened (front ++ e ∷ []) es one)

-- those of calls that wait to be sent again are open at first
waiting_open : (opened : LinkParameters) (es : List RunEvent) (ws : List WaitingCall) → AllByRecursion (IsClosed opened es) (waiting_regions ws)
waiting_open opened es [] = tt
waiting_open opened es (w ∷ ws) = each_append (IsClosed opened es) (map (region_of w.xid 0) (buffers w.stag w.plan)) (waiting_regions ws) (new_open opened es w.xid 0 (buffers w.stag w.plan)) (waiting_open opened es ws)

pub client_regions_close_with_calls : ClientRegionsCloseWithCalls
unfolding client
client_regions_close_with_calls opened link run r place there is =
    region_of_list (IsClosed opened (events link Initiator run)) _ r (all_events opened [] (events link Initiator run) (waiting_open opened [] (waiting_from opened.first_stag opened.resumed))) there place is

pub calls_add_chunks : CallsAddChunks
unfolding client_state_after client_end
calls_add_chunks opened link run earlier later place call is live =
    ap (λ (r : EndState ClientState). r.state.regions) (end_state_after_append (client_rules opened) (initial_client opened) earlier (CallSubmitted place call ∷ []))
    ∙ ap (λ (o : Option Stop). (next_end_state_in (client_rules opened) (client_by opened earlier).state (CallSubmitted place call) o).state.regions) live
