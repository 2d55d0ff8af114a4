-- Calls are made again for the next link, one after the other.
use Rattle.std.proofs.Common.{◌≡◌, ◌≢◌, ℕ, ◌+◌, ◌-◌, ◌^◌, ◌<◌, ◌≤◌, Bool, true, false, cond, eqb, List, [], ◌∷◌, ◌++◌, length, map, take, drop, Option, None, Some, refl, sym, ap, subst, ◌∙◌, arith, append-nil, length-append}
use Rattle.std.specs.Prelude.{get_or, option_map, replicate, IfSome, sum}
use Rattle.std.specs.List.{AllByRecursion, find}
use Rattle.std.proofs.lemmas.List.{length-map, length-replicate}
use Rattle.nr_header.specs.declared.header.ChunkLists.{ChunkLists}
use Rattle.nr_link.specs.declared.end.End.{End}
use Rattle.nr_regions.specs.RegisteredMemory.{RegisteredMemory, AreHeldFrom, Claim}
use Rattle.nr_endpoint.specs.declared.offering.Claims.{Claims}
use Rattle.nr_endpoint.specs.EndpointState.{EndpointState}
use Rattle.nr_endpoint.specs.LinkState.{LinkState, LinkSide, has_ended}
use Rattle.nr_endpoint.specs.SendQueue.{SendQueue, with_held}
use Rattle.nr_endpoint.specs.Offering.{claims_of, with_offered}
use Rattle.nr_reduce.specs.declared.call.Call.{Call}
use Rattle.nr_reduce.specs.declared.outline.Plan.{Plan}
use Rattle.nr_reduce.specs.ClientState.{call_payload}
use Rattle.nr_reduce.specs.Plans.{has_segment, one_if, total, buffers, call_message, lists_of, regions_needed, given_region}
use Rattle.nr_reduce.specs.PlansByLists.{entry_lengths, plan_by_lists, segment_lengths, write_lengths}
use Rattle.nr_reduce.specs.CallOutlines.{outline_plan}
use Rattle.nr_reduce.specs.declared.outline.Outline.{Outline}
use Rattle.nr_reduce.specs.KeptClient.{registered_all}
use Rattle.nr_reduce.proofs.PlansByLists.{planned_by_lists}
use Rattle.nr_reduce.proofs.Sizes.{message_size}
use Rattle.nr_requester.specs.declared.outstanding.OutstandingCall.{OutstandingCall}
use Rattle.nr_requester.specs.AfterCalls.{stored_call}
use Rattle.nr_requester.specs.RequesterState.{StoredCall, awaited_call}
use Rattle.nr_requester.specs.Reopening.{CallsAgain, call_again, calls_again_from, plan_again, stags_for_call, stags_for_calls}
use Rattle.nr_requester.specs.Sending.{IsPlan, head_under, offered_of, xid_word}
use Rattle.nr_requester.specs.Views.{stored_view, HasRoom, AreRising}
use Rattle.nr_requester.specs.HeldClaims.{call_claims, all_claims, IsOwnOffer, OffersOwn}
use Rattle.nr_requester.specs.HeldBytes.{FitsSend, AreRisingBy, LinkFits, IsCount, RegionsHave, PlanFits, xid_of, send_of, in_bytes, stored_bytes, call_max, receive_max, claims_size, claims_total, reply_room, CallFits}
use Rattle.nr_requester.specs.private.Resuming.{AreLeft, AreResumed, AreResuming, plan_by_lengths, MadeOne, IsMadeAgain, awaited_calls, with_call, with_calls, held_back, with_held_call, made_again, resumed_link}
use Rattle.nr_requester.proofs.AnswerBounds.{call_small}
use Rattle.nr_requester.proofs.Answered.{payload_word}
use Rattle.nr_requester.proofs.ChangedCalls.{below_next, not_found, nth_of}
use Rattle.nr_requester.proofs.HeldRegions.{claims_append, held_append, offers_append, own_room, rising_append, rooms_append}
use Rattle.nr_requester.proofs.OfferedRooms.{room_offered}
use Rattle.nr_requester.proofs.PlanBounds.{plan_bounds}
use Rattle.nr_requester.proofs.RegionBounds.{Both, bytes_count, offered_both, plan_short}
use Rattle.nr_requester.proofs.ResumedLists.{awaited_more, rest_of, with_calls_append, with_calls_count, rising_more, rising_rest, all_more, below_more, find_more}
use Rattle.nr_requester.proofs.Sized.{few, plan_fits}
use Rattle.nr_requester.proofs.Sent.{count_offered, registered_offered, registered_next}
use Rattle.nr_requester.proofs.Views.{map_one}
use Rattle.nr_requester.proofs.Within.{call_fits, sum_sent}

-- ---- A plan that was made again can be made again

pub again_same : (payload : List ℕ) (at : Option ℕ) (lists : ChunkLists) (stag : ℕ) → IsPlan (plan_by_lists payload at lists) → plan_by_lists payload (plan_by_lists payload at lists).read_at (lists_of stag (plan_by_lists payload at lists)) ≡ plan_by_lists payload at lists
again_same payload None lists stag i =
    let p : Plan = plan_by_lists payload None lists in
    let e : p ≡ plan_by_lists i.payload None (lists_of stag p) = planned_by_lists i.payload i.form i.up i.down stag p i.is in
    let write = ap (λ (q : Plan). q.write) e in
    let reply = ap (λ (q : Plan). q.reply) e in
    λ k. record { inline = payload; read_at = None; read = []; region = []; write = sym write k; reply = sym reply k }
again_same payload (Some at) lists stag i =
    let p : Plan = plan_by_lists payload (Some at) lists in
    let e : p ≡ plan_by_lists i.payload (Some at) (lists_of stag p) = planned_by_lists i.payload i.form i.up i.down stag p i.is in
    let read = ap (λ (q : Plan). q.read) e in
    let write = ap (λ (q : Plan). q.write) e in
    let reply = ap (λ (q : Plan). q.reply) e in
    λ k. record { inline = take at payload; read_at = Some at; read = sym read k; region = given_region payload at (sum (sym read k)); write = sym write k; reply = sym reply k }

pub read_again : (payload : List ℕ) (at : Option ℕ) (lists : ChunkLists) → (plan_by_lists payload at lists).read_at ≡ at
read_again payload None lists = refl
read_again payload (Some at) lists = refl

-- the plan that the code makes, of the lengths of the segments that were offered
by_lists : (payload : List ℕ) (at : Option ℕ) (lists : ChunkLists) → plan_by_lengths payload at (entry_lengths lists.read) (write_lengths lists.write) (option_map segment_lengths lists.reply) ≡ plan_by_lists payload at lists
by_lists payload None lists = refl
by_lists payload (Some at) lists = refl

payload_again : (xid : ℕ) (call : Call) → xid ≤ 2 ^ 32 → head_under xid call ++ call.args ≡ call_payload xid call
unfolding call_payload
payload_again xid call le = (let same : head_under xid call ++ call.args ≡ call_payload (xid_word xid) call = refl in same ∙ payload_word xid call le)

pub planned_again : (c : OutstandingCall) (call : Call) (head args : List ℕ) (outline : Outline) (read : List ℕ) (write reply : Option (List ℕ)) → c.xid ≤ 2 ^ 32 → head ≡ head_under c.xid call → args ≡ call.args →
    ((payload : List ℕ) → outline_plan payload outline ≡ plan_by_lengths payload c.read_at read write reply) → read ≡ entry_lengths c.offered.read → write ≡ write_lengths c.offered.write → reply ≡ option_map segment_lengths c.offered.reply →
    outline_plan (head ++ args) outline ≡ plan_again (stored_view c) call
planned_again c call head args outline read write reply le head_is args_are is r w y =
    let payload : head ++ args ≡ call_payload c.xid call = (λ i. head_is i ++ args_are i) ∙ payload_again c.xid call le in
    is (head ++ args)
    ∙ (λ i. plan_by_lengths (payload i) c.read_at (r i) (w i) (y i))
    ∙ by_lists (call_payload c.xid call) c.read_at c.offered

-- its read chunk has few segments and is short
region_len : (payload : List ℕ) (at size : ℕ) → size ≤ length (given_region payload at size)
region_len payload at size =
    let front : List ℕ = take size (drop at payload) in
    omega (arith, length-append front (replicate (size - length front) 0), length-replicate {A = ℕ} (size - length front) 0)

read_fits_by : (payload : List ℕ) (at : Option ℕ) (lists : ChunkLists) → IsPlan (plan_by_lists payload at lists) → IfSome at (λ _. (length (entry_lengths lists.read) < 2 ^ 31) × (sum (entry_lengths lists.read) < 2 ^ 32))
read_fits_by payload None lists i = tt
read_fits_by payload (Some at) lists i =
    let p : Plan = plan_by_lists payload (Some at) lists in
    let fits : PlanFits p = plan_bounds i.payload i.form i.up i.down p i.is in
    let region = fits.region in
    ((few p (plan_fits p i)).read, omega (arith, region, region_len payload at (sum (entry_lengths lists.read))))

pub read_fits : (c : OutstandingCall) (call : Call) (read : List ℕ) → read ≡ entry_lengths c.offered.read → IsPlan (plan_again (stored_view c) call) → IfSome c.read_at (λ _. (length read < 2 ^ 31) × (sum read < 2 ^ 32))
read_fits c call read is i =
    subst (λ (xs : List ℕ). IfSome c.read_at (λ _. (length xs < 2 ^ 31) × (sum xs < 2 ^ 32))) (sym is) (read_fits_by (call_payload c.xid call) c.read_at c.offered i)

-- what it offers for the reply, and how many STags it needs
write_of : (payload : List ℕ) (at : Option ℕ) (lists : ChunkLists) → (plan_by_lists payload at lists).write ≡ write_lengths lists.write
write_of payload None lists = refl
write_of payload (Some at) lists = refl

reply_of : (payload : List ℕ) (at : Option ℕ) (lists : ChunkLists) → (plan_by_lists payload at lists).reply ≡ option_map segment_lengths lists.reply
reply_of payload None lists = refl
reply_of payload (Some at) lists = refl

pub stags_are : (c : OutstandingCall) (call : Call) (o : Option Call) (r w y : ℕ) → Some call ≡ o → ((payload : List ℕ) → r ≡ one_if (has_segment (Some (plan_by_lists payload c.read_at c.offered).read))) → w ≡ one_if (has_segment (write_lengths c.offered.write)) →
    y ≡ one_if (has_segment (option_map segment_lengths c.offered.reply)) → r + w + y ≡ stags_for_call (stored_view c) o
unfolding regions_needed
stags_are c call o r w y is read write reply =
    let payload : List ℕ = call_payload c.xid call in
    let a = read payload in
    let b : one_if (has_segment (plan_again (stored_view c) call).write) ≡ w = ap (λ (x : Option (List ℕ)). one_if (has_segment x)) (write_of payload c.read_at c.offered) ∙ sym write in
    let d : one_if (has_segment (plan_again (stored_view c) call).reply) ≡ y = ap (λ (x : Option (List ℕ)). one_if (has_segment x)) (reply_of payload c.read_at c.offered) ∙ sym reply in
    let all : r + w + y ≡ regions_needed (plan_again (stored_view c) call) = omega (arith, a, b, d) in
    all ∙ ap (λ (x : Option Call). stags_for_call (stored_view c) x) is

-- ---- The side once a message was held back

messages_more : (xs : List (List ℕ)) (message : List ℕ) → AllByRecursion FitsSend xs → FitsSend message → AllByRecursion FitsSend (xs ++ message ∷ [])
messages_more [] message h one = (one, tt)
messages_more (x ∷ xs) message h one = (h.0, messages_more xs message h.1 one)

held_fits : (size : ℕ → ℕ) → IsCount size → (s : LinkState) (plan : Plan) (len xid credit total : ℕ) → IsPlan plan → s.memory.next + regions_needed plan ≤ 2 ^ 32 → LinkFits len s → RegionsHave size s.memory total →
    LinkFits len (held_back s (call_message xid credit s.memory.next plan) (buffers s.memory.next plan))
    × RegionsHave size (held_back s (call_message xid credit s.memory.next plan) (buffers s.memory.next plan)).memory (total + claims_size size (claims_of s.memory (offered_of plan)))
held_fits size counts s plan len xid credit total i stags l have =
    let fits : PlanFits plan = plan_bounds i.payload i.form i.up i.down plan i.is in
    let message : List ℕ = call_message xid credit s.memory.next plan in
    let sent = (message_size i.payload i.form i.up i.down xid credit s.memory.next plan i.is).1 in
    let small : length message ≤ receive_max = omega (arith, sent, i.short) in
    let both = offered_both size counts s.memory (offered_of plan) total (plan_short plan fits) (omega (arith, stags, count_offered plan)) (l.regions, have) in
    let here : registered_all s.memory (buffers s.memory.next plan) ≡ with_offered s.memory (offered_of plan) = registered_offered s.memory s.memory.next plan in
    let after : Both size (registered_all s.memory (buffers s.memory.next plan)) (total + claims_size size (claims_of s.memory (offered_of plan))) =
    subst (λ (m : RegisteredMemory). Both size m (total + claims_size size (claims_of s.memory (offered_of plan)))) (sym here) both in (
      record {
        side = l.side;
        receives = l.receives;
        receive_length = l.receive_length;
        receive = l.receive;
        up = l.up;
        down = l.down;
        hello = l.hello;
        queue = l.queue;
        responses = l.responses;
        messages = messages_more s.send_queue.held message l.messages small;
        stag = (let same = registered_next s.memory plan in let some = l.stag in omega (arith, same, some));
        regions = after.0;
      },
      after.1,
    )

-- ---- One call

-- a call that is awaited isn't revoked
own_of_call : (c : OutstandingCall) (call : Call) → awaited_call (stored_view c) ≡ Some call → OffersOwn c → IsOwnOffer c.xid c.read_at c.offered c.claims call
own_of_call c call has own = by c.is_forgotten c.call has own
  where
    by : (b : Bool) (o : Option Call) → cond b None o ≡ Some call → IfSome o (IsOwnOffer c.xid c.read_at c.offered c.claims) → IsOwnOffer c.xid c.read_at c.offered c.claims call
    by true o e h = absurd cc
    by false o e h = subst (λ (x : Option Call). IfSome x (IsOwnOffer c.xid c.read_at c.offered c.claims)) e h

module _ (credit len next i : ℕ) (e e2 : EndpointState) (calls made made2 all : List OutstandingCall) (c : OutstandingCall) (call : Call) (lt : i < length calls) (is : c ≡ get_or calls i c) (has : awaited_call (stored_view c) ≡ Some call) (left : AreLeft len next calls) (r : AreResumed len next e calls i all) (count : length made ≡ length all) (stags : e.link.state.memory.next + regions_needed (plan_again (stored_view c) call) ≤ 2 ^ 32) (m : MadeOne credit len c call e e2 made made2) where
  abbrev s : LinkState
  s = e.link.state

  abbrev plan : Plan
  plan = plan_again (stored_view c) call

  abbrev o : OutstandingCall
  o = with_call call m.one

  abbrev message : List ℕ
  message = call_message c.xid credit s.memory.next plan

  own : IsOwnOffer c.xid c.read_at c.offered c.claims call
  own = own_of_call c call has (subst OffersOwn (sym is) (nth_of OffersOwn i calls c lt left.own))

  state : e2.link.state ≡ held_back s message (buffers s.memory.next plan)
  state = ap (λ (l : LinkSide). l.state) m.link

  fits : (size : ℕ → ℕ) → IsCount size → LinkFits len (held_back s message (buffers s.memory.next plan)) × RegionsHave size (held_back s message (buffers s.memory.next plan)).memory (claims_total size all + claims_size size (claims_of s.memory (offered_of plan)))
  fits size counts = held_fits size counts s plan len c.xid credit (claims_total size all) own.plan stags r.link (r.regions size counts)

  claims : o.claims ≡ claims_of s.memory (offered_of plan)
  claims = ap (λ (x : StoredCall). x.claims) m.stored

  lists : o.offered ≡ lists_of s.memory.next plan
  lists = ap (λ (x : StoredCall). x.offered) m.stored

  xid : o.xid ≡ c.xid
  xid = ap (λ (x : StoredCall). x.xid) m.stored

  number : o.send ≡ length all
  number = ap (λ (x : StoredCall). x.send) m.stored ∙ count

  position : o.read_at ≡ plan.read_at
  position = ap (λ (x : StoredCall). x.read_at) m.stored

  again : IsPlan (plan_by_lists (call_payload o.xid call) o.read_at o.offered)
  again =
      let same : plan_by_lists (call_payload o.xid call) o.read_at o.offered ≡ plan_by_lists (call_payload c.xid call) plan.read_at (lists_of s.memory.next plan) = λ k. plan_by_lists (call_payload (xid k) call) (position k) (lists k) in
      subst IsPlan (sym (same ∙ again_same (call_payload c.xid call) c.read_at c.offered s.memory.next own.plan)) own.plan

  small : stored_bytes o.call ≤ call_max
  small =
      let was : CallFits len c = subst (λ (x : OutstandingCall). CallFits len x) (sym is) (nth_of (CallFits len) i calls c lt left.fits) in
      let le = was.call in
      omega (arith, le, call_small c.is_forgotten c.call call has)

  room : o.room.len ≡ reply_room len o.offered
  room = m.room.0 ∙ (sym (room_offered len s.memory.next plan) ∙ ap (λ (l : ChunkLists). reply_room len l) (sym lists))

  split : drop i calls ≡ c ∷ drop (i + 1) calls
  split = rest_of calls i c lt is

  below_all : AllByRecursion (λ (x : OutstandingCall). AllByRecursion (λ (d : OutstandingCall). d.xid < x.xid) all) (c ∷ drop (i + 1) calls)
  below_all = subst (λ (cs : List OutstandingCall). AllByRecursion (λ (x : OutstandingCall). AllByRecursion (λ (d : OutstandingCall). d.xid < x.xid) all) cs) split r.before

  rising_all : AreRising (c ∷ drop (i + 1) calls) next
  rising_all = subst (λ (cs : List OutstandingCall). AreRising cs next) split (rising_rest xid_of next i calls left.rising)

  other : (x : ℕ) → find (λ (d : OutstandingCall). eqb d.xid x) calls ≡ None → o.xid ≢ x
  other x none e = not_found i x calls c lt none (sym (ap (λ (d : OutstandingCall). d.xid) is) ∙ (sym xid ∙ e))

  pub one_resumed : AreResumed len next e2 calls (i + 1) (all ++ o ∷ [])
  one_resumed =
      let longer = length-append all (o ∷ []) in
      let more : length all + 1 ≡ length (all ++ o ∷ []) = omega (arith, longer) in
      record {
        staging = ap (λ (xs : List ℕ). length xs) m.staging ∙ r.staging;
        live = ap (λ (x : LinkState). x.ended) state ∙ r.live;
        outside = m.outside r.outside;
        link = subst (λ (x : LinkState). LinkFits len x) (sym state) (fits in_bytes bytes_count).0;
        few = (let le = r.few in omega (arith, le, longer));
        messages = (let was = r.messages in let now = ap (λ (x : LinkState). length x.send_queue.held) state in omega (arith, was, now, longer, length-append s.send_queue.held (message ∷ [])));
        numbers = subst (λ (n : ℕ). AreRisingBy send_of (all ++ o ∷ []) n) more (rising_append send_of all o (length all) r.numbers number);
        rising = rising_more xid_of all o next r.rising (subst (λ (n : ℕ). AllByRecursion (λ (d : OutstandingCall). d.xid < n) all) (sym xid) below_all.0) (let lt = rising_all.0 in omega (arith, lt, xid));
        before = below_more all (drop (i + 1) calls) o below_all.1 (subst (λ (n : ℕ). AllByRecursion (λ (x : OutstandingCall). n < x.xid) (drop (i + 1) calls)) (sym xid) rising_all.1.0);
        known = λ x none. find_more x all o (other x none) (r.known x none);
        held = subst (λ (cs : List Claim). AreHeldFrom e2.link.state.memory 0 cs) (sym (claims_append all o))
            (held_append s.memory e2.link.state.memory 0 (all_claims all) (call_claims o.claims) (m.held.next, m.held.keeps) r.held m.held.own);
        offers = offers_append all o r.offers (record { offer = m.offer; cred = own.cred; plan = again });
        rooms = rooms_append len all o r.rooms (own_room len s.memory plan o claims m.room);
        each = all_more (CallFits len) all o r.each (call_fits len s.memory plan o r.link.receive own.plan claims lists small m.empty room (let same = m.room.0 in omega (arith, same)));
        regions = λ size counts. subst (λ (x : LinkState). RegionsHave size x.memory (claims_total size (all ++ o ∷ []))) (sym state)
            (subst (λ (n : ℕ). RegionsHave size (held_back s message (buffers s.memory.next plan)).memory n) (sum_sent size all o (claims_of s.memory (offered_of plan)) claims) (fits size counts).1);
      }

-- a call that doesn't go on
skipped : (len next i : ℕ) (e : EndpointState) (calls all : List OutstandingCall) (c : OutstandingCall) → i < length calls → c ≡ get_or calls i c → AreResumed len next e calls i all → AreResumed len next e calls (i + 1) all
skipped len next i e calls all c lt is r = record {
  staging = r.staging;
  live = r.live;
  outside = r.outside;
  link = r.link;
  few = (let le = r.few in omega (arith, le));
  messages = r.messages;
  numbers = r.numbers;
  rising = r.rising;
  before = (subst (λ (cs : List OutstandingCall). AllByRecursion (λ (x : OutstandingCall). AllByRecursion (λ (d : OutstandingCall). d.xid < x.xid) all) cs) (rest_of calls i c lt is) r.before).1;
  known = r.known;
  held = r.held;
  offers = r.offers;
  rooms = r.rooms;
  each = r.each;
  regions = r.regions;
}

-- ---- All calls

-- what is made of the rest
again_rest : (credit i : ℕ) (calls : List OutstandingCall) (c : OutstandingCall) (o : Option Call) (a : CallsAgain) → i < length calls → c ≡ get_or calls i c → awaited_call (stored_view c) ≡ o →
    calls_again_from credit (map stored_view (drop i calls)) a ≡ calls_again_from credit (map stored_view (drop (i + 1) calls)) (call_again credit (stored_view c) o a)
again_rest credit i calls c o a lt is has =
    ap (λ (cs : List OutstandingCall). calls_again_from credit (map stored_view cs) a) (rest_of calls i c lt is)
    ∙ ap (λ (x : Option Call). calls_again_from credit (map stored_view (drop (i + 1) calls)) (call_again credit (stored_view c) x a)) has

stags_rest : (i : ℕ) (calls : List OutstandingCall) (c : OutstandingCall) (o : Option Call) → i < length calls → c ≡ get_or calls i c → awaited_call (stored_view c) ≡ o →
    stags_for_calls (map stored_view (drop i calls)) ≡ stags_for_call (stored_view c) o + stags_for_calls (map stored_view (drop (i + 1) calls))
stags_rest i calls c o lt is has =
    ap (λ (cs : List OutstandingCall). stags_for_calls (map stored_view cs)) (rest_of calls i c lt is)
    ∙ ap (λ (x : Option Call). stags_for_call (stored_view c) x + stags_for_calls (map stored_view (drop (i + 1) calls))) has

-- the STags that the next call needs are left
pub stags_left : (credit len next i : ℕ) (first e : EndpointState) (calls made : List OutstandingCall) (c : OutstandingCall) → i < length calls → c ≡ get_or calls i c → AreResuming credit len next first e calls i made →
    e.link.state.memory.next + stags_for_call (stored_view c) (awaited_call (stored_view c)) ≤ 2 ^ 32
stags_left credit len next i first e calls made c lt is r = (let fits = r.stags in omega (arith, fits, stags_rest i calls c (awaited_call (stored_view c)) lt is refl))

pub own_at : (credit len next i : ℕ) (first e : EndpointState) (calls made : List OutstandingCall) (c : OutstandingCall) → i < length calls → c ≡ get_or calls i c → AreResuming credit len next first e calls i made → OffersOwn c
own_at credit len next i first e calls made c lt is r = subst OffersOwn (sym is) (nth_of OffersOwn i calls c lt r.left.own)

pub resuming_more : (credit len next i : ℕ) (first e e2 : EndpointState) (calls made made2 : List OutstandingCall) (c : OutstandingCall) (o : Option Call) → i < length calls → c ≡ get_or calls i c → awaited_call (stored_view c) ≡ o → AreResuming credit len next first e calls i made →
    IsMadeAgain credit len c o e e2 made made2 → AreResuming credit len next first e2 calls (i + 1) made2
resuming_more credit len next i first e e2 calls made made2 c None lt is has r m =
    let same : awaited_calls (take (i + 1) calls) ≡ awaited_calls (take i calls) = awaited_more calls i c None lt is has ∙ append-nil (awaited_calls (take i calls)) in
    let all : List OutstandingCall = with_calls (awaited_calls (take i calls)) made in
    let all2 : List OutstandingCall = with_calls (awaited_calls (take (i + 1) calls)) made2 in
    let kept : all2 ≡ all = λ k. with_calls (same k) (m.1 k) in
    record {
      left = r.left;
      resumed = subst (λ (x : EndpointState). AreResumed len next x calls (i + 1) all2) (sym m.0) (subst (λ (os : List OutstandingCall). AreResumed len next e calls (i + 1) os) (sym kept) (skipped len next i e calls all c lt is r.resumed));
      again = (λ k. calls_again_from credit (map stored_view (drop (i + 1) calls)) (made_again (m.0 k) (kept k))) ∙ (sym (again_rest credit i calls c None (made_again e all) lt is has) ∙ r.again);
      link = subst (λ (x : EndpointState). x.link ≡ resumed_link first.link (made_again x [])) (sym m.0) r.link;
      count = ap (λ (os : List OutstandingCall). length os) m.1 ∙ (r.count ∙ ap (λ (cs : List Call). length cs) (sym same));
      stags = (let fits = r.stags in let stag = ap (λ (x : EndpointState). x.link.state.memory.next) m.0 in omega (arith, fits, stag, stags_rest i calls c None lt is has));
    }
resuming_more credit len next i first e e2 calls made made2 c (Some call) lt is has r m =
    let s : LinkState = e.link.state in
    let plan : Plan = plan_again (stored_view c) call in
    let more : awaited_calls (take (i + 1) calls) ≡ awaited_calls (take i calls) ++ call ∷ [] = awaited_more calls i c (Some call) lt is has in
    let all : List OutstandingCall = with_calls (awaited_calls (take i calls)) made in
    let all2 : List OutstandingCall = with_calls (awaited_calls (take (i + 1) calls)) made2 in
    let o : OutstandingCall = with_call call m.one in
    let longer : all2 ≡ all ++ o ∷ [] = (λ k. with_calls (more k) (m.more k)) ∙ with_calls_append (awaited_calls (take i calls)) made call m.one r.count in
    let count : length made ≡ length all = sym (with_calls_count (awaited_calls (take i calls)) made r.count) in
    let fits = r.stags in
    let needs = stags_rest i calls c (Some call) lt is has in
    let stags : s.memory.next + regions_needed plan ≤ 2 ^ 32 = omega (arith, fits, needs) in
    let one : AreResumed len next e2 calls (i + 1) (all ++ o ∷ []) = one_resumed credit len next i e e2 calls made made2 all c call lt is has r.left r.resumed count stags m in
    let memory : e2.link.state.memory ≡ registered_all s.memory (buffers s.memory.next plan) = ap (λ (l : LinkSide). l.state.memory) m.link in
    let held : e2.link.state.send_queue.held ≡ s.send_queue.held ++ call_message c.xid credit s.memory.next plan ∷ [] = ap (λ (l : LinkSide). l.state.send_queue.held) m.link in
    let place : length made ≡ length (map stored_view all) = count ∙ sym (length-map all stored_view) in
    let stored : map stored_view all2 ≡ map stored_view all ++ stored_call c.xid (length (map stored_view all)) call plan s.memory ∷ [] =
    ap (λ (os : List OutstandingCall). map stored_view os) longer ∙ map_one all o ∙ ap (λ (x : StoredCall). map stored_view all ++ x ∷ []) (m.stored ∙ ap (λ (n : ℕ). stored_call c.xid n call plan s.memory) place) in
    let again : made_again e2 all2 ≡ call_again credit (stored_view c) (Some call) (made_again e all) = λ k. record { calls = stored k; memory = memory k; messages = held k } in
    record {
      left = r.left;
      resumed = subst (λ (os : List OutstandingCall). AreResumed len next e2 calls (i + 1) os) (sym longer) one;
      again = ap (λ (a : CallsAgain). calls_again_from credit (map stored_view (drop (i + 1) calls)) a) again ∙ (sym (again_rest credit i calls c (Some call) (made_again e all) lt is has) ∙ r.again);
      link = m.link ∙ (ap (λ (l : LinkSide). with_held_call c.xid credit plan l) r.link ∙ (λ k. resumed_link first.link (record { calls = []; memory = sym memory k; messages = sym held k })));
      count =
          let a = ap (λ (os : List OutstandingCall). length os) m.more ∙ length-append made (m.one ∷ []) in
          let b = ap (λ (cs : List Call). length cs) more ∙ length-append (awaited_calls (take i calls)) (call ∷ []) in
          let was = r.count in
          omega (arith, a, b, was);
      stags = (let stag = ap (λ (x : RegisteredMemory). x.next) memory in let taken = registered_next s.memory plan in omega (arith, fits, needs, stag, taken));
    }
