-- A client of a matched link that a frame doesn't end keeps the guards of both ends.
use Rattle.std.proofs.Common.{◌≡◌, ℕ, ◌+◌, ◌≤◌, ◌<◌, ◌^◌, Bool, true, false, cond, not, eqb, ltb, List, [], ◌∷◌, ◌++◌, length, map, take, drop, filter, Option, Some, None, Result, Ok, Err, refl, sym, ap, subst, ◌∙◌, arith, ◌⊎◌, inl, inr}
use Rattle.std.specs.List.{AllByRecursion, range_with_len}
use Rattle.std.proofs.lemmas.Bool.{ltb-true}
use Rattle.nr_xdr.specs.Fields.{word_at}
use Rattle.nr_header.specs.Constants.{PAYLOAD_MAX}
use Rattle.nr_wire.specs.Constants.{OPCODE_READ_REQUEST, OPCODE_READ_RESPONSE, QUEUE_READ_REQUEST}
use Rattle.nr_wire.specs.Segment.{Segment}
use Rattle.nr_wire.specs.Segment.Segment.{Tagged, Untagged}
use Rattle.nr_regions.specs.Access.{HaveOwnStags}
use Rattle.nr_link.specs.declared.end.End.{End}
use Rattle.nr_link.specs.Frames.{Frame, is_hello}
use Rattle.nr_link.specs.Output.{msn_word, segment_count}
use Rattle.nr_link.specs.ReceiveState.{begun_bytes, ReadRequest, message_completed, read_request_of}
use Rattle.nr_reduce.specs.declared.mark.LinkParameters.{LinkParameters}
use Rattle.nr_reduce.specs.Opening.{IsOpened, lengths_before}
use Rattle.nr_reduce.specs.Limits.{credits_max}
use Rattle.nr_reduce.specs.Events.{RunEvent}
use Rattle.nr_reduce.specs.Events.RunEvent.{FrameReceived}
use Rattle.nr_reduce.specs.EndRules.{EndState, live, next_end_state_by, end_state_after}
use Rattle.nr_reduce.specs.OfferedRegions.{Region, region_grants}
use Rattle.nr_reduce.specs.ClientState.{ClientState, OutstandingCall, client_memory_at}
use Rattle.nr_reduce.specs.Client.{client_rules, client_end, client_state_after, initial_client, credits_of_word, with_segment, with_message, with_request, segment_request, due_with_response}
use Rattle.nr_reduce.specs.ServerState.{ServerState, PendingRead}
use Rattle.nr_reduce.specs.ServerReads.{open_reads}
use Rattle.nr_reduce.proofs.Steps.{end_state_after_append}
use Rattle.nr_reduce.proofs.OwnStags.{AreNumbered, own_stags, client_numbers}
use Rattle.nr_laws.proofs.FrameContents.{FrameContent, total_of, sends_in, hellos_in, request_frame, client_frames, tagged_frames, tagged_frame, response_frames, Carries, SentMessage, last_segment, part_segment, calls_frames, IsTaken, last_part}
use Rattle.nr_laws.proofs.FrameContents.FrameContent.{HelloFrame, PartFrame, SendFrame, RequestFrame, TaggedFrame}
use Rattle.nr_laws.proofs.LinkInvariants.{Transit, TotalsAgree, hello_bit, ReadsAgree, WithinWindow, HasSink, HaveSinks, AreAtMost, requests_of}
use Rattle.nr_laws.proofs.Totals.{others}
use Rattle.nr_laws.proofs.TotalsAtClient.{down_one, after_is_lem, says_is, request_payload, totals_hello_down, totals_send_down, totals_read_down, totals_tagged_down, bit_of, totals_part_down}
use Rattle.nr_laws.proofs.ReadsAtClient.{AnswersNone, reads_read_down, reads_says_up}
use Rattle.nr_laws.proofs.ServerInvariant.{ServerAgrees}
use Rattle.nr_laws.proofs.Replies.{IsReply}
use Rattle.nr_laws.proofs.ReadLimits.{AreWithin, ReadFits, IsSmall}
use Rattle.nr_laws.proofs.RequestFields.{is_there_lem}
use Rattle.nr_laws.proofs.OwnXids.{segment_out}
use Rattle.nr_laws.proofs.AgreeingEnds.{EndsAgree}
use Rattle.nr_laws.proofs.ClientFrame.{says_hello, after_hello}
use Rattle.nr_laws.proofs.CallNumbers.{XidsFrom, HasOwnXid, xids_append, xids_asked}
use Rattle.nr_laws.proofs.ClientFrame.{calls_said}
use Rattle.nr_laws.proofs.AnsweredSteps.{Answered, answered_message_lem, answered_same}
use Rattle.nr_wire.specs.declared.hello.Side.TheVariants.{Responder}
use Rattle.nr_laws.proofs.FirstHellos.{first_hello}
use Rattle.nr_laws.proofs.SizesAgain.{hello_agrees, lengths_again, reached_opening}
use Rattle.nr_laws.proofs.AgreedSizes.{SizesAgree, matched_up, matched_down, client_keeps_sizes, client_takes_sizes, matched_invalidates}
use Rattle.nr_laws.proofs.Guards.{ClientContent, ServerContent, IsAsked, AreSized, Guards, AreSizedResends}
use Rattle.nr_laws.proofs.GuardsAtServer.{each_at}
use Rattle.nr_laws.proofs.Basics.{each_append, each_right, each_take, each_kept, each_all}
use Rattle.nr_laws.proofs.Sinks.{sinks_taken}
use Rattle.nr_laws.proofs.SendFrames.{at_front, each_sends}
use Rattle.nr_laws.proofs.Outputs.{message_of_call}
use Rattle.nr_laws.proofs.ExpectedResponses.{sends_answers}
use Rattle.nr_laws.proofs.ReadContents.{plain_is, own_is}
use Rattle.nr_laws.proofs.PlainSegments.{plain_segment}
use Rattle.nr_reduce.specs.StandingLaws.{xid_of_send}
use Rattle.nr_reduce.proofs.Placing.{segment_waiting}

pub front_down : (opened : LinkParameters) (k : ClientState) (s : ServerState) (u d all_up all_down : List FrameContent) (w : Transit) (place : ℕ) (p : FrameContent) (rest : List FrameContent) → EndsAgree opened k s u d all_up all_down w → Guards opened k s u d all_up all_down w place → w.down ≡ p ∷ rest → ServerContent (matched_down opened) opened.granted p
front_down opened k s u d all_up all_down w place p rest l g first =
    each_at (ServerContent (matched_down opened) opened.granted) d p (rest ++ w.queued_down) (subst (AllByRecursion (ServerContent (matched_down opened) opened.granted)) (sym l.parts_down ∙ ap (λ (ps : List FrameContent). d ++ (ps ++ w.queued_down)) first) g.down_said)

-- and the client takes it
pub front_taken : (opened : LinkParameters) (k : ClientState) (s : ServerState) (u d all_up all_down : List FrameContent) (w : Transit) (place : ℕ) (p : FrameContent) (rest : List FrameContent) → EndsAgree opened k s u d all_up all_down w → Guards opened k s u d all_up all_down w place → w.down ≡ p ∷ rest → k.has_hello ≡ true → IsTaken k.invalidates p
front_taken opened k s u d all_up all_down w place p rest l g first hello =
    subst (λ (b : Bool). IsTaken b p) (sym (g.sizes.client_takes hello))
    (each_at (IsTaken (matched_invalidates opened)) d p (rest ++ w.queued_down) (subst (AllByRecursion (IsTaken (matched_invalidates opened))) (sym l.parts_down ∙ ap (λ (ps : List FrameContent). d ++ (ps ++ w.queued_down)) first) g.names))

-- ---- The read of a Read Request

have_right : (place : ℕ) (regions : List Region) (xs ys : List PendingRead) → HaveSinks place regions (xs ++ ys) → HaveSinks place regions ys
have_right place regions [] ys h = h
have_right place regions (x ∷ xs) ys h = have_right place regions xs ys h.1

record SinkBounds (n : ℕ) (r : PendingRead) : Type 0 where
  sink : r.sink ≤ n
  room : r.at + r.size ≤ PAYLOAD_MAX

bounds : (place n : ℕ) (r : PendingRead) (regions : List Region) → HasSink place r regions → AreAtMost (λ (g : Region). g.stag) n regions → AllByRecursion IsSmall regions → SinkBounds n r
bounds place n r [] h below small = absurd h
bounds place n r (g ∷ regions) (inl s) below small = record { sink = omega (arith, s.stag, below.0); room = omega (arith, s.room, small.0) }
bounds place n r (g ∷ regions) (inr later) below small = bounds place n r regions later.1 below.1 small.1

-- the fields of the Read Request at the front are those of an open read
pub record RequestedRead (sink at size stag to : ℕ) : Type 0 where
  pub some : 0 < size
  pub sink_word : sink < 2 ^ 32
  pub at_word : at < 2 ^ 64
  pub size_word : size < 2 ^ 32
  pub stag_word : stag < 2 ^ 32
  pub to_word : to < 2 ^ 64
  pub room : at + size ≤ PAYLOAD_MAX

read_fields : (sink at size stag to : ℕ) (r : PendingRead) → RequestFrame sink at size stag to ≡ request_frame r → (sink ≡ r.sink) × (at ≡ r.at) × (size ≡ r.size) × (stag ≡ r.stag) × (to ≡ r.to)
read_fields sink at size stag to r e = (cc, cc, cc, cc, cc)

first_piece_lem : (p : FrameContent) (ps : List FrameContent) (reads : List PendingRead) → p ∷ ps ≡ map request_frame reads → (r : PendingRead) × (others : List PendingRead) × (reads ≡ r ∷ others) × (p ≡ request_frame r)
first_piece_lem p ps [] e = absurd cc
first_piece_lem p ps (r ∷ others) e = (r, others, refl, cc)

pub asked_of : (s : ServerState) (w : Transit) (place sink at size stag to : ℕ) (rest : List FrameContent) → ReadsAgree s w → w.down ≡ RequestFrame sink at size stag to ∷ rest → HaveSinks place s.regions s.reads → AreAtMost (λ (g : Region). g.stag) (length s.regions) s.regions → AreWithin s.reads s.regions
    → RequestedRead sink at size stag to
asked_of s w place sink at size stag to rest c first sinks stags within =
    let asked : RequestFrame sink at size stag to ∷ requests_of (rest ++ w.queued_down) ≡ map request_frame c.asked = ap (λ (ps : List FrameContent). requests_of (ps ++ w.queued_down)) (sym first) ∙ c.requests in
    let a = first_piece_lem (RequestFrame sink at size stag to) (requests_of (rest ++ w.queued_down)) c.asked asked in
    let r = a.0 in
    let parts : open_reads s ≡ c.answered ++ r ∷ a.1 = c.parts ∙ ap (λ (xs : List PendingRead). c.answered ++ xs) a.2 in
    let fits = (each_right ReadFits c.answered (r ∷ a.1) (subst (AllByRecursion ReadFits) parts (each_take ReadFits 8 s.reads within.fit))).0 in
    let sink_of = (have_right place s.regions c.answered (r ∷ a.1) (subst (HaveSinks place s.regions) parts (sinks_taken place 8 s.regions s.reads sinks))).0 in
    let b = bounds place (length s.regions) r s.regions sink_of stags within.small in
    let same = read_fields sink at size stag to r a.3 in
    record {
      some = omega (arith, same.2, fits.0);
      sink_word = omega (arith, same.0, b.sink, within.few);
      at_word = omega (arith, same.1, b.room);
      size_word = omega (arith, same.2, fits.1);
      stag_word = omega (arith, same.3, fits.2);
      to_word = omega (arith, same.4, fits.3);
      room = omega (arith, same.1, same.2, b.room);
    }

-- ---- What is kept

guards_down : (opened : LinkParameters) (k t : ClientState) (s : ServerState) (u d all_up all_down : List FrameContent) (w : Transit) (place : ℕ) (p : FrameContent) (rest said : List FrameContent) (event : RunEvent) → Guards opened k s u d all_up all_down w place
    → ServerAgrees opened t s (down_one w said rest) place → WithinWindow opened t → AllByRecursion (ClientContent opened) said → SizesAgree opened t s u → AreSized opened t.outstanding → AreSizedResends opened t.waiting → XidsFrom (xid_of_send opened) (0 + total_of sends_in all_up) said → t.has_hello ≡ true → (lengths_before opened.agreed).up ≤ matched_up opened → Answered (xid_of_send opened) t s u (d ++ p ∷ []) all_down (down_one w said rest) → client_end k event ≡ None → t ≡ client_state_after opened k event
    → Guards opened t s u (d ++ p ∷ []) (all_up ++ said) all_down (down_one w said rest) place
guards_down opened k t s u d all_up all_down w place p rest said event g server window up sizes calls resends xids hello again answered stays is = record {
  server = server;
  window = window;
  sizes = sizes;
  up_said = each_append (ClientContent opened) all_up said g.up_said up;
  down_said = g.down_said;
  names = g.names;
  credit = g.credit;
  calls = calls;
  resends = resends;
  again = λ e. again;
  within = g.within;
  sinks = g.sinks;
  xids = xids_append (xid_of_send opened) 0 all_up said g.xids xids;
  no_hello_numbered = λ e. absurd (let wrong : true ≡ false = sym hello ∙ e in cc);
  numbers = g.numbers;
  answered = answered;
  reached = (
    g.reached.0 ++ event ∷ [],
    end_state_after_append (client_rules opened) (initial_client opened) g.reached.0 (event ∷ [])
        ∙ ap (λ (r : EndState ClientState). end_state_after (client_rules opened) r (event ∷ [])) g.reached.1
        ∙ ap (λ (x : Option End). next_end_state_by (client_rules opened) k event x) stays ∙ ap (λ (x : ClientState). live x) (sym is),
  );
}

sized_frame : (opened : LinkParameters) (k t : ClientState) (f : Frame) (r : Result Segment ℕ) → t ≡ with_segment k f r → AreSized opened k.outstanding → AreSized opened t.outstanding
sized_frame opened k t f r is h = subst (λ (x : ClientState). AreSized opened x.outstanding) (sym is) (by (segment_out k f r))
  where
    by : ((with_segment k f r).outstanding ≡ k.outstanding) ⊎ ((p : OutstandingCall → Bool) × ((with_segment k f r).outstanding ≡ filter p k.outstanding)) → AreSized opened (with_segment k f r).outstanding
    by (inl same) = subst (AreSized opened) (sym same) h
    by (inr left) = subst (AreSized opened) (sym left.1) (each_kept (IsAsked opened) left.0 k.outstanding h)

resends_frame : (opened : LinkParameters) (k t : ClientState) (f : Frame) (r : Result Segment ℕ) → t ≡ with_segment k f r → AreSizedResends opened k.waiting → AreSizedResends opened t.waiting
resends_frame opened k t f r is h = subst (λ (x : ClientState). AreSizedResends opened x.waiting) (sym is) (subst (AreSizedResends opened) (sym (segment_waiting k f r)) h)

own_xids : (opened : LinkParameters) (os : List OutstandingCall) → AreSized opened os → AllByRecursion (HasOwnXid opened) os
own_xids opened [] h = tt
own_xids opened (o ∷ os) h = (h.0.1, own_xids opened os h.1)

-- a frame after the hello leaves the client with it
behind_hello_lem : (opened : LinkParameters) (k t : ClientState) (s : ServerState) (u d all_up all_down : List FrameContent) (w : Transit) (f : Frame) (r : Result Segment ℕ) → t ≡ with_segment k f r → k.has_hello ≡ true → t.has_hello ≡ true
behind_hello_lem opened k t s u d all_up all_down w f r is hello = ap (λ (x : ClientState). x.has_hello) is ∙ by r
  where
    with : (m : Option (List ℕ)) (place : ℕ) (q : Option ReadRequest) → (with_request (with_message k f.end m) place q).has_hello ≡ true
    with None place None = hello
    with None place (Some q) = hello
    with (Some m) place None = hello
    with (Some m) place (Some q) = hello

    by : (r : Result Segment ℕ) → (with_segment k f r).has_hello ≡ true
    by (Err reason) = hello
    by (Ok segment) = with (message_completed k.received segment) (due_with_response k f segment) (read_request_of segment)

-- a credit word grants no more than this number of credits if it is at most that number
credits_most : (n most : ℕ) → 0 < most → n ≤ most → credits_of_word n ≤ most
credits_most n most some le = by (eqb n 0)
  where
    by_max : (b : Bool) → ltb credits_max n ≡ b → cond b credits_max n ≤ most
    by_max true e = (let above = ltb-true credits_max n e in omega (arith, above, le))
    by_max false e = le

    by : (b : Bool) → cond b 1 (cond (ltb credits_max n) credits_max n) ≤ most
    by true = omega (arith, some)
    by false = by_max (ltb credits_max n) refl

asks_up : (opened : LinkParameters) (os : List OutstandingCall) → AreSized opened os → AllByRecursion (ClientContent opened) (calls_frames opened os)
asks_up opened os h = each_sends (ClientContent opened) (λ offset payload. refl) (message_of_call opened) os (each_all (IsAsked opened) (λ o. ClientContent opened (SendFrame (last_part None (message_of_call opened o)))) os (λ o asked. (asked.0, refl)) h)

none_asks : (opened : LinkParameters) (os : List OutstandingCall) → AnswersNone (calls_frames opened os)
none_asks opened os = sends_answers (message_of_call opened) os

pub guards_hello_down : (opened : LinkParameters) (k : ClientState) (s : ServerState) (u d all_up all_down : List FrameContent) (w : Transit) (place : ℕ) (rest : List FrameContent) (f : Frame) → EndsAgree opened k s u d all_up all_down w → Guards opened k s u d all_up all_down w place → w.down ≡ HelloFrame ∷ rest → is_hello f ≡ true → f.bytes ≡ first_hello opened Responder
    → client_end k (FrameReceived f) ≡ None
    → Guards opened (client_state_after opened k (FrameReceived f)) s u (d ++ HelloFrame ∷ []) (all_up ++ client_frames opened k (FrameReceived f)) all_down (down_one w (client_frames opened k (FrameReceived f)) rest) place
guards_hello_down opened k s u d all_up all_down w place rest f l g first is own stays =
    let t = client_state_after opened k (FrameReceived f) in
    let said = calls_frames opened k.outstanding in
    let says = says_hello opened k f is in
    let after = after_hello opened k f is in
    let none : hello_bit k.has_hello ≡ 0 = omega (arith, l.counts.hello, ap (total_of hellos_in) first) in
    let no_hello_numbered : k.has_hello ≡ false = bit_of k.has_hello none in
    let sends : total_of sends_in all_up ≡ 0 = calls_said opened k s u d all_up all_down w l ∙ ap (λ (b : Bool). cond b k.sends 0) no_hello_numbered in
    let asked : XidsFrom (xid_of_send opened) (0 + total_of sends_in all_up) said =
    subst (λ (n : ℕ). XidsFrom (xid_of_send opened) n said) (let same : 0 ≡ 0 + total_of sends_in all_up = omega (arith, sends) in same)
    (xids_asked opened (xid_of_send opened) 0 k.outstanding (g.no_hello_numbered no_hello_numbered) (own_xids opened k.outstanding g.calls)) in
    let server : ServerAgrees opened t s (down_one w said rest) place = record {
      counts = subst (λ (ps : List FrameContent). TotalsAgree t s (down_one w ps rest)) says (totals_hello_down opened k s w f rest g.server.counts first is);
      reads = reads_says_up s w said rest g.server.reads (none_asks opened k.outstanding) (ap requests_of first);
      waits = g.server.waits;
      sinks = g.server.sinks;
      regions = g.server.regions;
      limits = g.server.limits;
    } in
    subst (λ (ps : List FrameContent). Guards opened t s u (d ++ HelloFrame ∷ []) (all_up ++ ps) all_down (down_one w ps rest) place) (sym says)
    (guards_down opened k t s u d all_up all_down w place HelloFrame rest said (FrameReceived f) g server (subst (WithinWindow opened) (sym after) (record { window = g.window.window; grant = g.window.grant; receives = g.window.receives })) (asks_up opened k.outstanding g.calls) (subst (λ (x : ClientState). SizesAgree opened x s u) (sym after) (client_takes_sizes opened k s u f own g.sizes)) (subst (λ (x : ClientState). AreSized opened x.outstanding) (sym after) g.calls) (subst (λ (x : ClientState). AreSizedResends opened x.waiting) (sym after) g.resends) asked (ap (λ (x : ClientState). x.has_hello) after) (lengths_again opened (hello_agrees opened k f (reached_opening opened k g.reached) is own stays)).0
    (answered_same (xid_of_send opened) k t s u d all_down w (down_one w said rest) HelloFrame (ap (λ (x : ClientState). x.outstanding) after) (ap (λ (x : ClientState). x.sends) after) refl g.answered) stays refl)

pub guards_send_down : (opened : LinkParameters) (k : ClientState) (s : ServerState) (u d all_up all_down : List FrameContent) (w : Transit) (place : ℕ) (message : SentMessage) (rest : List FrameContent) (f : Frame) → IsOpened opened → EndsAgree opened k s u d all_up all_down w → Guards opened k s u d all_up all_down w place → w.down ≡ SendFrame message ∷ rest
    → Carries k.invalidates k.received.sends k.received.requests f (SendFrame message) → k.has_hello ≡ true → client_end k (FrameReceived f) ≡ None
    → Guards opened (client_state_after opened k (FrameReceived f)) s u (d ++ SendFrame message ∷ []) (all_up ++ client_frames opened k (FrameReceived f)) all_down (down_one w (client_frames opened k (FrameReceived f)) rest) place
guards_send_down opened k s u d all_up all_down w place message rest f o l g first piece hello stays =
    let segment : Segment = last_segment k.received.sends message in
    let reads : plain_segment k f ≡ Ok segment = plain_is k f (SendFrame message) segment piece refl in
    let t = client_state_after opened k (FrameReceived f) in
    let says : client_frames opened k (FrameReceived f) ≡ [] = says_is opened k f (Ok segment) piece.behind reads in
    let after : t ≡ with_segment k f (Ok segment) = after_is_lem opened k f (Ok segment) piece.behind reads in
    let whole : List ℕ = begun_bytes k.received.begun ++ message.payload in
    let same : whole ≡ message.bytes = (at_front k.received.begun w.down w.queued_down (SendFrame message) rest first l.counts.whole_down).1 in
    let reply : IsReply (matched_down opened) opened.granted message.bytes = front_down opened k s u d all_up all_down w place (SendFrame message) rest l g first in
    let fewer : length (filter (λ (x : OutstandingCall). not (eqb x.xid (word_at 0 whole))) k.outstanding) ≤ length k.outstanding = filter_less (λ (x : OutstandingCall). not (eqb x.xid (word_at 0 whole))) k.outstanding in
    let credits = reply.credits in
    let grant : credits_of_word (word_at 8 whole) ≤ opened.granted = credits_most (word_at 8 whole) opened.granted o.granted (omega (arith, ap (λ (xs : List ℕ). word_at 8 xs) same, credits)) in
    let window : WithinWindow opened (with_segment k f (Ok segment)) = record {
      window = omega (arith, fewer, g.window.window);
      grant = grant;
      receives = g.window.receives;
    } in
    let server : ServerAgrees opened t s (down_one w [] rest) place = record {
      counts = subst (λ (ps : List FrameContent). TotalsAgree t s (down_one w ps rest)) says (totals_send_down opened k s w f message rest g.server.counts first piece stays l.outs.apart);
      reads = reads_says_up s w [] rest g.server.reads (refl, refl) (ap requests_of first);
      waits = g.server.waits;
      sinks = g.server.sinks;
      regions = g.server.regions;
      limits = g.server.limits;
    } in
    subst (λ (ps : List FrameContent). Guards opened t s u (d ++ SendFrame message ∷ []) (all_up ++ ps) all_down (down_one w ps rest) place) (sym says)
    (guards_down opened k t s u d all_up all_down w place (SendFrame message) rest [] (FrameReceived f) g server (subst (WithinWindow opened) (sym after) window) tt (client_keeps_sizes opened k t s u f (Ok segment) after hello g.sizes) (sized_frame opened k t f (Ok segment) after g.calls) (resends_frame opened k t f (Ok segment) after g.resends) tt (behind_hello_lem opened k t s u d all_up all_down w f (Ok segment) after hello) (g.again hello)
    (answered_message_lem (xid_of_send opened) k t s u d all_down w (down_one w [] rest) message
    (ap (λ (x : ClientState). x.outstanding) after ∙ ap (λ (xs : List ℕ). filter (λ (o : OutstandingCall). not (eqb o.xid (word_at 0 xs))) k.outstanding) same) (ap (λ (x : ClientState). x.sends) after) g.answered) stays refl)
  where
    filter_less : (p : OutstandingCall → Bool) (os : List OutstandingCall) → length (filter p os) ≤ length os
    filter_less p [] = omega arith
    filter_less p (x ∷ os) = by (p x) (filter_less p os)
      where
        by : (b : Bool) → length (filter p os) ≤ length os → length (cond b (x ∷ filter p os) (filter p os)) ≤ length (x ∷ os)
        by true le = omega (arith, le)
        by false le = omega (arith, le)

-- what the client answers to a Read Request has no message
tagged_up : (opened : LinkParameters) (k : ClientState) (f : Frame) (r : Result Segment ℕ) → is_hello f ≡ false → plain_segment k f ≡ r → AllByRecursion (ClientContent opened) (client_frames opened k (FrameReceived f))
unfolding tagged_frames
tagged_up opened k f r behind is = subst (AllByRecursion (ClientContent opened)) (sym (says_is opened k f r behind is)) (by (segment_request r))
  where
    cuts : (opcode stag to : ℕ) (bytes : List ℕ) (is : List ℕ) → AllByRecursion (ClientContent opened) (map (tagged_frame opcode stag to bytes) is)
    cuts opcode stag to bytes [] = tt
    cuts opcode stag to bytes (i ∷ is) = (tt, cuts opcode stag to bytes is)

    by : (q : Option ReadRequest) → AllByRecursion (ClientContent opened) (response_frames k f.end q)
    by None = tt
    by (Some q) = cuts _ q.sink q.sink_to _ _

tagged_xids : (xid : ℕ → ℕ) (x : ℕ) (opened : LinkParameters) (k : ClientState) (f : Frame) (r : Result Segment ℕ) → is_hello f ≡ false → plain_segment k f ≡ r → XidsFrom xid x (client_frames opened k (FrameReceived f))
unfolding tagged_frames
tagged_xids xid x opened k f r behind is = subst (XidsFrom xid x) (sym (says_is opened k f r behind is)) (by (segment_request r))
  where
    cuts : (opcode stag to : ℕ) (bytes : List ℕ) (is : List ℕ) → XidsFrom xid x (map (tagged_frame opcode stag to bytes) is)
    cuts opcode stag to bytes [] = tt
    cuts opcode stag to bytes (i ∷ is) = cuts opcode stag to bytes is

    by : (q : Option ReadRequest) → XidsFrom xid x (response_frames k f.end q)
    by None = tt
    by (Some q) =
        let bytes = take q.size (drop q.to (client_memory_at k f.end q.stag)) in
        cuts OPCODE_READ_RESPONSE q.sink q.sink_to bytes (range_with_len 0 (segment_count bytes))

pub guards_read_down : (opened : LinkParameters) (k : ClientState) (s : ServerState) (u d all_up all_down : List FrameContent) (w : Transit) (place sink at size stag to : ℕ) (rest : List FrameContent) (f : Frame) → EndsAgree opened k s u d all_up all_down w → Guards opened k s u d all_up all_down w place → w.down ≡ RequestFrame sink at size stag to ∷ rest
    → Carries k.invalidates k.received.sends k.received.requests f (RequestFrame sink at size stag to) → k.has_hello ≡ true → client_end k (FrameReceived f) ≡ None
    → Guards opened (client_state_after opened k (FrameReceived f)) s u (d ++ RequestFrame sink at size stag to ∷ []) (all_up ++ client_frames opened k (FrameReceived f)) all_down (down_one w (client_frames opened k (FrameReceived f)) rest) place
guards_read_down opened k s u d all_up all_down w place sink at size stag to rest f l g first piece hello stays =
    let segment : Segment = Untagged true OPCODE_READ_REQUEST 0 QUEUE_READ_REQUEST (msn_word (k.received.requests + 1)) 0 (request_payload sink at size stag to) in
    let reads : plain_segment k f ≡ Ok segment = plain_is k f (RequestFrame sink at size stag to) segment piece refl in
    let t = client_state_after opened k (FrameReceived f) in
    let said = client_frames opened k (FrameReceived f) in
    let after : t ≡ with_segment k f (Ok segment) = after_is_lem opened k f (Ok segment) piece.behind reads in
    let a = asked_of s w place sink at size stag to rest g.server.reads first g.server.sinks g.server.regions.stags g.within in
    let numbers = client_numbers opened g.reached.0 in
    let own : HaveOwnStags (region_grants f.end k.regions) =
    own_stags f.end opened.first_stag k.regions (ap_regions opened k g.reached.0 g.reached.1 numbers.regions) in
    let there = is_there_lem k f (msn_word (k.received.requests + 1)) sink at size stag to own piece.behind (own_is k f (RequestFrame sink at size stag to) segment piece refl refl) stays a.some a.sink_word a.at_word a.size_word a.stag_word a.to_word in
    let server : ServerAgrees opened t s (down_one w said rest) place = record {
      counts = totals_read_down opened k s w f sink at size stag to rest g.server.counts first piece;
      reads = reads_read_down opened k s w f sink at size stag to rest g.server.reads first piece there;
      waits = g.server.waits;
      sinks = g.server.sinks;
      regions = g.server.regions;
      limits = g.server.limits;
    } in
    guards_down opened k t s u d all_up all_down w place (RequestFrame sink at size stag to) rest said (FrameReceived f) g server (subst (WithinWindow opened) (sym after) (record { window = g.window.window; grant = g.window.grant; receives = g.window.receives }))
    (tagged_up opened k f (Ok segment) piece.behind reads) (client_keeps_sizes opened k t s u f (Ok segment) after hello g.sizes) (sized_frame opened k t f (Ok segment) after g.calls) (resends_frame opened k t f (Ok segment) after g.resends) (tagged_xids (xid_of_send opened) (0 + total_of sends_in all_up) opened k f (Ok segment) piece.behind reads) (behind_hello_lem opened k t s u d all_up all_down w f (Ok segment) after hello) (g.again hello)
    (answered_same (xid_of_send opened) k t s u d all_down w (down_one w said rest) (RequestFrame sink at size stag to) (ap (λ (x : ClientState). x.outstanding) after) (ap (λ (x : ClientState). x.sends) after) refl g.answered) stays refl
  where
    ap_regions : (opened : LinkParameters) (k : ClientState) (es : List RunEvent) → end_state_after (client_rules opened) (initial_client opened) es ≡ live k
        → AreNumbered opened.first_stag (end_state_after (client_rules opened) (initial_client opened) es).state.regions → AreNumbered opened.first_stag k.regions
    ap_regions opened k es is h = subst (λ (r : EndState ClientState). AreNumbered opened.first_stag r.state.regions) is h

-- a segment of a Send that isn't its last
pub guards_part_down : (opened : LinkParameters) (k : ClientState) (s : ServerState) (u d all_up all_down : List FrameContent) (w : Transit) (place : ℕ) (named : Bool) (offset : ℕ) (payload : List ℕ) (rest : List FrameContent) (f : Frame) → Guards opened k s u d all_up all_down w place
    → w.down ≡ PartFrame named offset payload ∷ rest → Carries k.invalidates k.received.sends k.received.requests f (PartFrame named offset payload) → k.has_hello ≡ true → client_end k (FrameReceived f) ≡ None
    → Guards opened (client_state_after opened k (FrameReceived f)) s u (d ++ PartFrame named offset payload ∷ []) (all_up ++ client_frames opened k (FrameReceived f)) all_down (down_one w (client_frames opened k (FrameReceived f)) rest) place
guards_part_down opened k s u d all_up all_down w place named offset payload rest f g first piece hello stays =
    let segment : Segment = part_segment k.received.sends offset payload in
    let reads : plain_segment k f ≡ Ok segment = plain_is k f (PartFrame named offset payload) segment piece refl in
    let t = client_state_after opened k (FrameReceived f) in
    let says : client_frames opened k (FrameReceived f) ≡ [] = says_is opened k f (Ok segment) piece.behind reads in
    let after : t ≡ with_segment k f (Ok segment) = after_is_lem opened k f (Ok segment) piece.behind reads in
    let server : ServerAgrees opened t s (down_one w [] rest) place = record {
      counts = subst (λ (ps : List FrameContent). TotalsAgree t s (down_one w ps rest)) says (totals_part_down opened k s w f named offset payload rest g.server.counts first piece);
      reads = reads_says_up s w [] rest g.server.reads (refl, refl) (ap requests_of first);
      waits = g.server.waits;
      sinks = g.server.sinks;
      regions = g.server.regions;
      limits = g.server.limits;
    } in
    subst (λ (ps : List FrameContent). Guards opened t s u (d ++ PartFrame named offset payload ∷ []) (all_up ++ ps) all_down (down_one w ps rest) place) (sym says)
    (guards_down opened k t s u d all_up all_down w place (PartFrame named offset payload) rest [] (FrameReceived f) g server (subst (WithinWindow opened) (sym after) (record { window = g.window.window; grant = g.window.grant; receives = g.window.receives })) tt (client_keeps_sizes opened k t s u f (Ok segment) after hello g.sizes) (sized_frame opened k t f (Ok segment) after g.calls) (resends_frame opened k t f (Ok segment) after g.resends) tt (behind_hello_lem opened k t s u d all_up all_down w f (Ok segment) after hello) (g.again hello)
    (answered_same (xid_of_send opened) k t s u d all_down w (down_one w [] rest) (PartFrame named offset payload) (ap (λ (x : ClientState). x.outstanding) after) (ap (λ (x : ClientState). x.sends) after) refl g.answered) stays refl)

pub guards_tagged_down : (opened : LinkParameters) (k : ClientState) (s : ServerState) (u d all_up all_down : List FrameContent) (w : Transit) (place : ℕ) (last : Bool) (opcode stag to : ℕ) (payload : List ℕ) (rest : List FrameContent) (f : Frame) → Guards opened k s u d all_up all_down w place
    → w.down ≡ TaggedFrame last opcode stag to payload ∷ rest → Carries k.invalidates k.received.sends k.received.requests f (TaggedFrame last opcode stag to payload) → k.has_hello ≡ true → client_end k (FrameReceived f) ≡ None
    → Guards opened (client_state_after opened k (FrameReceived f)) s u (d ++ TaggedFrame last opcode stag to payload ∷ []) (all_up ++ client_frames opened k (FrameReceived f)) all_down (down_one w (client_frames opened k (FrameReceived f)) rest) place
guards_tagged_down opened k s u d all_up all_down w place last opcode stag to payload rest f g first piece hello stays =
    let segment : Segment = Tagged last opcode stag to payload in
    let reads : plain_segment k f ≡ Ok segment = plain_is k f (TaggedFrame last opcode stag to payload) segment piece refl in
    let t = client_state_after opened k (FrameReceived f) in
    let says : client_frames opened k (FrameReceived f) ≡ [] = says_is opened k f (Ok segment) piece.behind reads in
    let after : t ≡ with_segment k f (Ok segment) = after_is_lem opened k f (Ok segment) piece.behind reads in
    let server : ServerAgrees opened t s (down_one w [] rest) place = record {
      counts = subst (λ (ps : List FrameContent). TotalsAgree t s (down_one w ps rest)) says (totals_tagged_down opened k s w f last opcode stag to payload rest g.server.counts first piece);
      reads = reads_says_up s w [] rest g.server.reads (refl, refl) (ap requests_of first);
      waits = g.server.waits;
      sinks = g.server.sinks;
      regions = g.server.regions;
      limits = g.server.limits;
    } in
    subst (λ (ps : List FrameContent). Guards opened t s u (d ++ TaggedFrame last opcode stag to payload ∷ []) (all_up ++ ps) all_down (down_one w ps rest) place) (sym says)
    (guards_down opened k t s u d all_up all_down w place (TaggedFrame last opcode stag to payload) rest [] (FrameReceived f) g server (subst (WithinWindow opened) (sym after) (record { window = g.window.window; grant = g.window.grant; receives = g.window.receives })) tt (client_keeps_sizes opened k t s u f (Ok segment) after hello g.sizes) (sized_frame opened k t f (Ok segment) after g.calls) (resends_frame opened k t f (Ok segment) after g.resends) tt (behind_hello_lem opened k t s u d all_up all_down w f (Ok segment) after hello) (g.again hello)
    (answered_same (xid_of_send opened) k t s u d all_down w (down_one w [] rest) (TaggedFrame last opcode stag to payload) (ap (λ (x : ClientState). x.outstanding) after) (ap (λ (x : ClientState). x.sends) after) refl g.answered) stays refl)
