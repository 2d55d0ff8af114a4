-- A message that is sent in segments is received complete, and none of its segments breaks a rule of the link.
use Rattle.std.proofs.Common.{◌≡◌, ℕ, zero, suc, ◌+◌, ◌*◌, ◌-◌, ◌/◌, ◌^◌, ◌≤◌, ◌<◌, max, Bool, true, false, not, cond, ◌||◌, ◌&&◌, eqb, ltb, List, [], ◌∷◌, ◌++◌, length, take, drop, map, Option, None, Some, refl, sym, ap, subst, ◌∙◌, arith, append_assoc, eq-eqb, ne_eqb, le-ltb, length-take-le}
use Rattle.std.specs.Prelude.{option_to_list, IfSome}
use Rattle.std.specs.List.{flat_map, range_with_len}
use Rattle.std.proofs.Math.Seq.{take-add}
use Rattle.std.proofs.lemmas.List.{take_all, length-take}
use Rattle.nr_regions.specs.declared.denied.Denied.{Denied}
use Rattle.nr_wire.specs.Constants.{OPCODE_SEND_INVALIDATE}
use Rattle.nr_wire.specs.Segment.{Segment, encoding}
use Rattle.nr_link.specs.Output.{segment_count, segment_payload, msn_word, send, send_invalidating, cut}
use Rattle.nr_link.specs.ReceiveState.{ReceiveState, begun_bytes, received_after, message_completed, send_continued}
use Rattle.nr_link.specs.Reasons.{REASON_MSN, REASON_OFFSET, REASON_SHORT, REASON_LONG}
use Rattle.nr_link.specs.SegmentFaults.{Readiness, segment_reason, first_fault, reason_if, missing_fault, is_begun, message_length_is}
use Rattle.nr_link.specs.SegmentFaults.SegmentReason.{NoBuffer}
use Rattle.nr_laws.specs.MessageSegments.{message_segment, message_segments, named_segment, named_segments, SendIsItsSegments, SegmentsReadBack, LastSegmentNames, received_after_all, messages_completed, IsReceived, MessageIsReceived, segments_of_messages, MessagesAreReceived, BreakNoRule, SegmentsBreakNoRule}
use Rattle.nr_laws.proofs.Brought.{IsWord, encoding_is}
use Rattle.nr_link.specs.Limits.{segment_max}

-- ---- What is written

flat_over : {X Y : Type 0} (f : Y → List ℕ) (g : X → Y) (xs : List X) → flat_map f (map g xs) ≡ flat_map (λ x. f (g x)) xs
flat_over f g [] = refl
flat_over f g (x ∷ xs) = ap (λ (ys : List ℕ). f (g x) ++ ys) (flat_over f g xs)

pub send_is_its_segments : SendIsItsSegments
unfolding send send_invalidating cut
send_is_its_segments None msn message = sym (flat_over encoding (message_segment msn message) (range_with_len 0 (segment_count message)))
send_is_its_segments (Some stag) msn message = sym (flat_over encoding (named_segment (Some stag) msn message) (range_with_len 0 (segment_count message)))

-- at which offset a segment stands in its message
pub piece_starts : (n i : ℕ) → i < max 1 ((n + (segment_max - 1)) / segment_max) → segment_max * i ≤ n
piece_starts n i lt = omega (arith, lt)

pieces_end : (n : ℕ) → n ≤ segment_max * max 1 ((n + (segment_max - 1)) / segment_max)
pieces_end n = omega arith

pub offset_word : (n i : ℕ) → i < max 1 ((n + (segment_max - 1)) / segment_max) → n ≤ 2 ^ 32 → segment_max * i < 2 ^ 32
offset_word n i lt le = omega (arith, lt, le)

pub payload_size : (bytes : List ℕ) (i : ℕ) → length (segment_payload bytes i) ≤ segment_max
payload_size bytes i = (let l = length-take segment_max (drop (segment_max * i) bytes) in omega (arith, l))

pub segment_word : (msn : ℕ) (message : List ℕ) (i : ℕ) → i < segment_count message → length message ≤ 2 ^ 32 → IsWord (message_segment msn message i)
segment_word msn message i lt short =
    let size = payload_size message i in
    record { supported = (refl, refl); fits = (omega arith, omega arith, omega arith, omega arith, offset_word (length message) i lt short); size = omega (arith, size) }

last_word : (last : Bool) (stag : ℕ) → stag < 2 ^ 32 → cond last stag 0 < 2 ^ 32
last_word true stag h = h
last_word false stag h = omega arith

pub named_word : (named : Option ℕ) (msn : ℕ) (message : List ℕ) (i : ℕ) → i < segment_count message → length message ≤ 2 ^ 32 → IfSome named (λ stag. stag < 2 ^ 32) → IsWord (named_segment named msn message i)
named_word None msn message i lt short h = segment_word msn message i lt short
named_word (Some stag) msn message i lt short h =
    let size = payload_size message i in
    record { supported = (refl, refl); fits = (omega arith, last_word (eqb (i + 1) (segment_count message)) stag h, omega arith, omega arith, offset_word (length message) i lt short); size = omega (arith, size) }

pub segments_read_back : SegmentsReadBack
segments_read_back named msn message i lt short h = (payload_size message i, (encoding_is (named_segment named msn message i) (named_word named msn message i lt short h)).says)

names_none : (last : Bool) → ◌≡◌ {A = Option ℕ} None (cond last None None)
names_none true = refl
names_none false = refl

names_one : (last : Bool) (stag : ℕ) → cond (eqb OPCODE_SEND_INVALIDATE OPCODE_SEND_INVALIDATE && last) (Some (cond last stag 0)) None ≡ cond last (Some stag) None
names_one true stag = refl
names_one false stag = refl

pub last_segment_names : LastSegmentNames
last_segment_names None msn message i = names_none (eqb (i + 1) (segment_count message))
last_segment_names (Some stag) msn message i = names_one (eqb (i + 1) (segment_count message)) stag

-- a segment of a message that names an STag is received as one of a message that names none
named_received : (h : ReceiveState) (named : Option ℕ) (msn : ℕ) (message : List ℕ) (i : ℕ) → received_after h (named_segment named msn message i) ≡ received_after h (message_segment msn message i)
named_received h None msn message i = refl
named_received h (Some stag) msn message i = refl

named_completed : (h : ReceiveState) (named : Option ℕ) (msn : ℕ) (message : List ℕ) (i : ℕ) → message_completed h (named_segment named msn message i) ≡ message_completed h (message_segment msn message i)
named_completed h None msn message i = refl
named_completed h (Some stag) msn message i = refl

named_reason : (r : Readiness Denied) (named : Option ℕ) (msn : ℕ) (message : List ℕ) (i : ℕ) → segment_reason r (named_segment named msn message i) ≡ segment_reason r (message_segment msn message i)
unfolding segment_reason
named_reason r None msn message i = refl
named_reason r (Some stag) msn message i = refl

all_received : (h : ReceiveState) (named : Option ℕ) (msn : ℕ) (message is : List ℕ) → received_after_all h (map (named_segment named msn message) is) ≡ received_after_all h (map (message_segment msn message) is)
all_received h named msn message [] = refl
all_received h named msn message (i ∷ is) =
    ap (λ (x : ReceiveState). received_after_all x (map (named_segment named msn message) is)) (named_received h named msn message i)
    ∙ all_received (received_after h (message_segment msn message i)) named msn message is

all_completed : (h : ReceiveState) (named : Option ℕ) (msn : ℕ) (message is : List ℕ) → messages_completed h (map (named_segment named msn message) is) ≡ messages_completed h (map (message_segment msn message) is)
all_completed h named msn message [] = refl
all_completed h named msn message (i ∷ is) =
    (λ j. option_to_list (named_completed h named msn message i j) ++ messages_completed (named_received h named msn message i j) (map (named_segment named msn message) is))
    ∙ ap (λ (ms : List (List ℕ)). option_to_list (message_completed h (message_segment msn message i)) ++ ms) (all_completed (received_after h (message_segment msn message i)) named msn message is)

-- ---- What is received

pub is_last_lem : (i n : ℕ) → i + 1 ≡ n → eqb (i + 1) n ≡ true
is_last_lem i n is = eq-eqb (i + 1) n is

pub not_last : (i k n : ℕ) → i + suc (suc k) ≡ n → eqb (i + 1) n ≡ false
not_last i k n is = ne_eqb (i + 1) n (λ e. omega (arith, e, is))

-- the front of the message, and the next segment's bytes
pub joined : (message : List ℕ) (i : ℕ) (front : List ℕ) → front ≡ take (segment_max * i) message → front ++ segment_payload message i ≡ take (segment_max * (i + 1)) message
joined message i front is =
    ap (λ (xs : List ℕ). xs ++ take segment_max (drop (segment_max * i) message)) is
    ∙ sym (take-add (segment_max * i) segment_max message)
    ∙ ap (λ (n : ℕ). take n message) (let s : segment_max * i + segment_max ≡ segment_max * (i + 1) = omega arith in s)

pub all_joined : (message : List ℕ) (i : ℕ) (front : List ℕ) → front ≡ take (segment_max * i) message → i + 1 ≡ segment_count message → front ++ segment_payload message i ≡ message
all_joined message i front is last =
    joined message i front is ∙ take_all (segment_max * (i + 1)) message (let e = pieces_end (length message) in omega (arith, e, last))

after_one_lem : (h : ReceiveState) (msn : ℕ) (message : List ℕ) (i : ℕ) (last : Bool) → eqb (i + 1) (segment_count message) ≡ last → received_after h (message_segment msn message i) ≡ send_continued h last (segment_payload message i)
after_one_lem h msn message i last is = ap (λ (b : Bool). send_continued h b (segment_payload message i)) is

made_whole_lem : (h : ReceiveState) (msn : ℕ) (message : List ℕ) (i : ℕ) (last : Bool) → eqb (i + 1) (segment_count message) ≡ last → message_completed h (message_segment msn message i) ≡ cond last (Some (begun_bytes h.begun ++ segment_payload message i)) None
made_whole_lem h msn message i last is = ap (λ (b : Bool). cond b (Some (begun_bytes h.begun ++ segment_payload message i)) None) is

received_from : (h : ReceiveState) (msn : ℕ) (message : List ℕ) (k i : ℕ) → i + suc k ≡ segment_count message → begun_bytes h.begun ≡ take (segment_max * i) message → IsReceived h (map (message_segment msn message) (range_with_len i (suc k))) message
received_from h msn message zero i all front =
    let last = is_last_lem i (segment_count message) (omega (arith, all)) in
    record {
      messages = ap (λ (o : Option (List ℕ)). option_to_list o ++ []) (made_whole_lem h msn message i true last ∙ ap (λ (m : List ℕ). Some m) (all_joined message i (begun_bytes h.begun) front (omega (arith, all))));
      state = after_one_lem h msn message i true last;
    }
received_from h msn message (suc k) i all front =
    let more = not_last i k (segment_count message) all in
    let next : ReceiveState = send_continued h false (segment_payload message i) in
    let rest = received_from next msn message k (i + 1) (omega (arith, all)) (joined message i (begun_bytes h.begun) front) in
    let after : received_after h (message_segment msn message i) ≡ next = after_one_lem h msn message i false more in
    let later : List Segment = map (message_segment msn message) (range_with_len (i + 1) (suc k)) in
    record {
      messages = (λ j. option_to_list (made_whole_lem h msn message i false more j) ++ messages_completed (after j) later) ∙ rest.messages;
      state = ap (λ (x : ReceiveState). received_after_all x later) after ∙ rest.state;
    }

some_segments : (message : List ℕ) → (k : ℕ) × (0 + suc k ≡ segment_count message)
some_segments message = by (segment_count message) refl
  where
    by : (n : ℕ) → segment_count message ≡ n → (k : ℕ) × (0 + suc k ≡ segment_count message)
    by zero is = absurd (omega (arith, is))
    by (suc k) is = (k, omega (arith, is))

plain_is_received : (h : ReceiveState) (msn : ℕ) (message : List ℕ) → h.begun ≡ None → IsReceived h (message_segments msn message) message
plain_is_received h msn message none =
    let s = some_segments message in
    let all = s.1 in
    let count : suc s.0 ≡ segment_count message = omega (arith, all) in
    subst (λ (n : ℕ). IsReceived h (map (message_segment msn message) (range_with_len 0 n)) message) count
    (received_from h msn message s.0 0 s.1 (ap begun_bytes none))

pub message_is_received : MessageIsReceived
message_is_received h named msn message none =
    let plain = plain_is_received h msn message none in
    let is = range_with_len 0 (segment_count message) in
    record { messages = all_completed h named msn message is ∙ plain.messages; state = all_received h named msn message is ∙ plain.state }

completed_append : (h : ReceiveState) (xs ys : List Segment) → messages_completed h (xs ++ ys) ≡ messages_completed h xs ++ messages_completed (received_after_all h xs) ys
completed_append h [] ys = refl
completed_append h (x ∷ xs) ys =
    ap (λ (ms : List (List ℕ)). option_to_list (message_completed h x) ++ ms) (completed_append (received_after h x) xs ys)
    ∙ sym (append_assoc (option_to_list (message_completed h x)) (messages_completed (received_after h x) xs) (messages_completed (received_after_all (received_after h x) xs) ys))

pub messages_are_received : MessagesAreReceived
messages_are_received h msn [] none = refl
messages_are_received h msn (message ∷ messages) none =
    let one = message_is_received h message.0 msn message.1 none in
    let later : List Segment = segments_of_messages (msn + 1) messages in
    let next : ReceiveState = record { sends = h.sends + 1; begun = None; requests = h.requests } in
    completed_append h (named_segments message.0 msn message.1) later
    ∙ (λ i. one.messages i ++ messages_completed (one.state i) later)
    ∙ ap (λ (ms : List (List ℕ)). message.1 ∷ ms) (messages_are_received next (msn + 1) messages refl)

-- ---- No segment breaks a rule

itself : (n : ℕ) → eqb n n ≡ true
itself n = eq-eqb n n refl

either : (b : Bool) → (b || true) ≡ true
either true = refl
either false = refl

-- what the tests see of a message that a segment completes
whole_fits : (max_len : ℕ) (front payload message : List ℕ) (last : Bool) → (last ≡ true → front ++ payload ≡ message) → 16 ≤ length message → length message ≤ max_len
    → (message_length_is (ltb max_len) (cond last (Some (front ++ payload)) None) ≡ false) × (message_length_is (λ n. ltb n 16) (cond last (Some (front ++ payload)) None) ≡ false)
whole_fits max_len front payload message false is long short = (refl, refl)
whole_fits max_len front payload message true is long short = (
  ap (λ (m : List ℕ). ltb max_len (length m)) (is refl) ∙ le-ltb max_len (length message) short,
  ap (λ (m : List ℕ). ltb (length m) 16) (is refl) ∙ le-ltb (length message) 16 long,
)

segment_fine : (r : Readiness Denied) (message : List ℕ) (i : ℕ) (last : Bool) → eqb (i + 1) (segment_count message) ≡ last → i < segment_count message → begun_bytes r.received.begun ≡ take (segment_max * i) message
    → (last ≡ true → begun_bytes r.received.begun ++ segment_payload message i ≡ message) → r.has_receive ≡ true → r.missing ≡ None → 16 ≤ length message → length message ≤ r.message_max
    → segment_reason r (message_segment (r.received.sends + 1) message i) ≡ None
unfolding segment_reason
segment_fine r message i last is lt front whole h l long short =
    let starts = piece_starts (length message) i lt in
    let offset : eqb (segment_max * i) (length (begun_bytes r.received.begun)) ≡ true =
    eq-eqb (segment_max * i) (length (begun_bytes r.received.begun)) (sym (ap (λ (xs : List ℕ). length xs) front ∙ length-take-le (segment_max * i) message starts)) in
    let fits = whole_fits r.message_max (begun_bytes r.received.begun) (segment_payload message i) message last whole long short in
    (λ j. first_fault (reason_if REASON_MSN (not (itself (msn_word (r.received.sends + 1)) j))
    ∷ reason_if REASON_OFFSET (not (offset j))
    ∷ cond (is_begun r.received.begun || h j) None (Some (NoBuffer (msn_word (r.received.sends + 1))))
    ∷ None
    ∷ missing_fault (l j)
    ∷ None
    ∷ reason_if REASON_LONG (message_length_is (ltb r.message_max) (cond (is j) (Some (begun_bytes r.received.begun ++ segment_payload message i)) None))
    ∷ reason_if REASON_SHORT (message_length_is (λ n. ltb n 16) (cond (is j) (Some (begun_bytes r.received.begun ++ segment_payload message i)) None))
    ∷ None ∷ []))
    ∙ (λ j. first_fault (None ∷ None
    ∷ cond (either (is_begun r.received.begun) j) None (Some (NoBuffer (msn_word (r.received.sends + 1))))
    ∷ None ∷ None ∷ None
    ∷ reason_if REASON_LONG (fits.0 j)
    ∷ reason_if REASON_SHORT (fits.1 j)
    ∷ None ∷ []))

fine_from_lem : (r : Readiness Denied) (n : ℕ) (message : List ℕ) (k i : ℕ) → n ≡ r.received.sends + 1 → i + suc k ≡ segment_count message → begun_bytes r.received.begun ≡ take (segment_max * i) message → r.has_receive ≡ true → r.missing ≡ None
    → 16 ≤ length message → length message ≤ r.message_max → BreakNoRule r (map (message_segment n message) (range_with_len i (suc k)))
fine_from_lem r n message zero i number all front h l long short =
    let last = is_last_lem i (segment_count message) (omega (arith, all)) in (
      subst (λ (m : ℕ). segment_reason r (message_segment m message i) ≡ None) (sym number)
          (segment_fine r message i true last (omega (arith, all)) front (λ e. all_joined message i (begun_bytes r.received.begun) front (omega (arith, all))) h l long short),
      tt,
    )
fine_from_lem r n message (suc k) i number all front h l long short =
    let more = not_last i k (segment_count message) all in
    let next : ReceiveState = send_continued r.received false (segment_payload message i) in
    let after : received_after r.received (message_segment n message i) ≡ next = after_one_lem r.received n message i false more in (
      subst (λ (m : ℕ). segment_reason r (message_segment m message i) ≡ None) (sym number)
          (segment_fine r message i false more (omega (arith, all)) front (λ e. absurd (let wrong : false ≡ true = e in cc)) h l long short),
      subst (λ (x : ReceiveState). BreakNoRule (record r { received = x }) (map (message_segment n message) (range_with_len (i + 1) (suc k)))) (sym after)
          (fine_from_lem (record r { received = next }) n message k (i + 1) number (omega (arith, all)) (joined message i (begun_bytes r.received.begun) front) h l long short),
    )

no_rule_named : (r : Readiness Denied) (named : Option ℕ) (msn : ℕ) (message is : List ℕ) → BreakNoRule r (map (message_segment msn message) is) → BreakNoRule r (map (named_segment named msn message) is)
no_rule_named r named msn message [] h = tt
no_rule_named r named msn message (i ∷ is) h = (
  named_reason r named msn message i ∙ h.0,
  subst (λ (x : ReceiveState). BreakNoRule (record r { received = x }) (map (named_segment named msn message) is)) (sym (named_received r.received named msn message i))
      (no_rule_named (record r { received = received_after r.received (message_segment msn message i) }) named msn message is h.1),
)

pub segments_break_no_rule : SegmentsBreakNoRule
segments_break_no_rule r named message none h l long short =
    let s = some_segments message in
    let all = s.1 in
    let count : suc s.0 ≡ segment_count message = omega (arith, all) in
    no_rule_named r named (r.received.sends + 1) message (range_with_len 0 (segment_count message)) (
    subst (λ (n : ℕ). BreakNoRule r (map (message_segment (r.received.sends + 1) message) (range_with_len 0 n))) count
    (fine_from_lem r (r.received.sends + 1) message s.0 0 refl s.1 (ap begun_bytes none) h l long short))
