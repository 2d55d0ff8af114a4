-- What ends write are bytes, if what it carries is.
use Rattle.std.specs.Prelude.{ℕ, ◌+◌, ◌*◌, ◌<◌, ◌==◌, Bool, true, false, List, [], ◌∷◌, ◌++◌, replicate, drop, Option, None, Some}
use Rattle.std.specs.List.{range_with_len}
use Rattle.std.proofs.Common.{◌-◌, ◌&&◌, not, length, eqb, refl, ltb, cond, arith}
use Rattle.std.proofs.Math.Nat.{min-le_right}
use Rattle.nr_xdr.specs.Item.{Item, IsBytes, bit, word, hyper}
use Rattle.nr_xdr.proofs.WordBytes.{IsBytes_take, IsBytes_drop}
use Rattle.nr_wire.specs.declared.hello.Side.{Side}
use Rattle.nr_wire.specs.declared.hello.Side.TheVariants.{Initiator, Responder}
use Rattle.nr_wire.specs.declared.terms.Terms.{Terms}
use Rattle.nr_wire.specs.Terms.{terms_key, terms_flags, units_byte, number_encoding, terms_encoding, terms_in}
use Rattle.nr_link.specs.declared.agreement.SideTerms.{SideTerms}
use Rattle.nr_link.specs.Agreement.{initiator_private, responder_private, responder_private_by}
use Rattle.nr_link.specs.Frames.{Frame}
use Rattle.nr_reduce.specs.declared.mark.LinkParameters.{LinkParameters}
use Rattle.nr_reduce.specs.Hellos.{client_hello, client_private, server_hello, server_private, private_of}
use Rattle.nr_wire.specs.Constants.{HELLO_REVISION, TERMS_NUMBER, TERMS_INVALIDATE, UNITS_MAX, OPCODE_WRITE, OPCODE_READ_REQUEST, OPCODE_READ_RESPONSE, OPCODE_SEND, OPCODE_SEND_INVALIDATE, OPCODE_TERMINATE, QUEUE_SEND, QUEUE_READ_REQUEST, QUEUE_TERMINATE}
use Rattle.nr_wire.specs.Fields.{half_word}
use Rattle.nr_wire.specs.Hello.{hello_encoding, key}
use Rattle.nr_wire.specs.Segment.{Segment, control, header, payload_in, opcode_in, ulpdu_size, tail_len, encoding as frame_of}
use Rattle.nr_wire.specs.Segment.Segment.{Tagged, Untagged}
use Rattle.nr_link.specs.Limits.{segment_max}
use Rattle.nr_link.specs.Output.{msn_word, cut, segment_count, segment_payload, send, send_by, send_invalidating, write, read_response, read_request, terminate_message, hello_with, refusing_hello}
use Rattle.nr_link.specs.Ending.{final_output}
use Rattle.nr_link.specs.declared.end.End.{End}
use Rattle.nr_link.specs.declared.end.End.TheVariants as ends
use Rattle.nr_header.specs.declared.header.RdmaSegment.{RdmaSegment}
use Rattle.nr_header.specs.declared.header.ReadSegment.{ReadSegment}
use Rattle.nr_header.specs.declared.header.ChunkLists.{ChunkLists}
use Rattle.nr_header.specs.declared.header.Body.{Body}
use Rattle.nr_header.specs.declared.header.Body.TheVariants.{Msg, Nomsg, ErrVers, ErrChunk}
use Rattle.nr_header.specs.declared.header.Header.{Header}
use Rattle.nr_header.specs.Header.{read_items, segments_items, write_items, reply_items, lists_items, body_items, header_encoding}
use Rattle.nr_laws.proofs.Bytes.{bytes_both}
use Rattle.nr_laws.proofs.CallTargets.{bytes_zeros}
use Rattle.nr_laws.proofs.WrittenBytes.{word_bytes}
use Rattle.nr_script.proofs.ByteLists.{no_bytes_lem, bytes_more, hyper_bytes, half_bytes, decided, flat_bytes, AreOfBytes, items_bytes}

-- ===== items

read_of_lem : (rs : List ReadSegment) (more : List Item) → AreOfBytes more → AreOfBytes (read_items rs more)
read_of_lem [] more h = (tt, h)
read_of_lem (r ∷ rs) more h = (tt, (tt, (tt, (tt, (tt, read_of_lem rs more h)))))

segments_of : (ss : List RdmaSegment) (more : List Item) → AreOfBytes more → AreOfBytes (segments_items ss more)
segments_of [] more h = h
segments_of (s ∷ ss) more h = (tt, (tt, (tt, segments_of ss more h)))

write_of_lem : (chunks : List (List RdmaSegment)) (more : List Item) → AreOfBytes more → AreOfBytes (write_items chunks more)
write_of_lem [] more h = (tt, h)
write_of_lem (chunk ∷ chunks) more h = (tt, (tt, segments_of chunk (write_items chunks more) (write_of_lem chunks more h)))

reply_of_lem : (reply : Option (List RdmaSegment)) (more : List Item) → AreOfBytes more → AreOfBytes (reply_items reply more)
reply_of_lem None more h = (tt, h)
reply_of_lem (Some chunk) more h = (tt, (tt, segments_of chunk more h))

lists_of_lem : (ls : ChunkLists) → AreOfBytes (lists_items ls)
lists_of_lem ls = read_of_lem ls.read (write_items ls.write (reply_items ls.reply [])) (write_of_lem ls.write (reply_items ls.reply []) (reply_of_lem ls.reply [] tt))

body_of_lem : (xid credit : ℕ) (b : Body) → AreOfBytes (body_items xid credit b)
body_of_lem xid credit (Msg lists at) = (tt, (tt, (tt, (tt, lists_of_lem lists))))
body_of_lem xid credit (Nomsg lists) = (tt, (tt, (tt, (tt, lists_of_lem lists))))
body_of_lem xid credit (ErrVers version low high) = (tt, (tt, (tt, (tt, (tt, (tt, (tt, tt)))))))
body_of_lem xid credit (ErrChunk version) = (tt, (tt, (tt, (tt, (tt, tt)))))

pub header_bytes : (h : Header) → IsBytes (header_encoding h)
header_bytes h = items_bytes (body_items h.xid h.credit h.body) (body_of_lem h.xid h.credit h.body)

-- ===== segments

bit_below : (b : Bool) → bit b < 2
bit_below true = omega arith
bit_below false = omega arith

control_bytes : (tagged last : Bool) (opcode : ℕ) → opcode < 16 → IsBytes (control 0 0 tagged last opcode)
control_bytes tagged last opcode lt =
    let a = bit_below tagged in
    let b = bit_below last in
    bytes_more (128 * bit tagged + 64 * bit last + 4 * 0 + 1) ((64 * 1 + 16 * 0 + opcode) ∷ []) (omega (arith, a, b)) (bytes_more (64 * 1 + 16 * 0 + opcode) [] (omega (arith, lt)) no_bytes_lem)

header_of_bytes : (s : Segment) → opcode_in s < 16 → IsBytes (header 0 0 s)
unfolding header
header_of_bytes (Tagged last opcode stag to payload) lt =
    bytes_both (control 0 0 true last opcode) (word stag ++ hyper to) (control_bytes true last opcode lt) (bytes_both (word stag) (hyper to) (word_bytes stag) (hyper_bytes to))
header_of_bytes (Untagged last opcode w queue msn offset payload) lt =
    let first = control 0 0 false last opcode in
    let one = bytes_both first (word w) (control_bytes false last opcode lt) (word_bytes w) in
    let two = bytes_both (first ++ word w) (word queue) one (word_bytes queue) in
    let three = bytes_both ((first ++ word w) ++ word queue) (word msn) two (word_bytes msn) in
    bytes_both (((first ++ word w) ++ word queue) ++ word msn) (word offset) three (word_bytes offset)

pub segment_bytes_lem : (s : Segment) → opcode_in s < 16 → IsBytes (payload_in s) → IsBytes (frame_of s)
unfolding frame_of
segment_bytes_lem s lt h =
    let tail = replicate (tail_len (ulpdu_size s)) 0 in
    let one = bytes_both (half_word (ulpdu_size s)) (header 0 0 s) (half_bytes (ulpdu_size s)) (header_of_bytes s lt) in
    let two = bytes_both (half_word (ulpdu_size s) ++ header 0 0 s) (payload_in s) one h in
    bytes_both ((half_word (ulpdu_size s) ++ header 0 0 s) ++ payload_in s) tail two (bytes_zeros (tail_len (ulpdu_size s)))

cut_bytes : (segment : Bool → ℕ → List ℕ → Segment) (bytes : List ℕ) → ((last : Bool) (offset : ℕ) (payload : List ℕ) → IsBytes payload → IsBytes (frame_of (segment last offset payload))) → IsBytes bytes →
    IsBytes (cut segment bytes)
unfolding cut
cut_bytes segment bytes each h =
    flat_bytes (λ i. frame_of (segment (i + 1 == segment_count bytes) (segment_max * i) (segment_payload bytes i))) (range_with_len 0 (segment_count bytes))
    (λ i. each (i + 1 == segment_count bytes) (segment_max * i) (segment_payload bytes i) (IsBytes_take segment_max (drop (segment_max * i) bytes) (IsBytes_drop (segment_max * i) bytes h)))

send_small : OPCODE_SEND < 16
send_small = omega arith

invalidating_small : OPCODE_SEND_INVALIDATE < 16
invalidating_small = omega arith

write_small_lem : OPCODE_WRITE < 16
write_small_lem = omega arith

response_small : OPCODE_READ_RESPONSE < 16
response_small = omega arith

request_small : OPCODE_READ_REQUEST < 16
request_small = omega arith

terminate_small : OPCODE_TERMINATE < 16
terminate_small = omega arith

pub send_bytes : (msn : ℕ) (message : List ℕ) → IsBytes message → IsBytes (send msn message)
unfolding send
send_bytes msn message h =
    let one : Bool → ℕ → List ℕ → Segment = (λ last offset payload. Untagged last OPCODE_SEND 0 QUEUE_SEND (msn_word msn) offset payload) in
    cut_bytes one message (λ last offset payload p. segment_bytes_lem (one last offset payload) send_small p) h

invalidating_bytes : (msn stag : ℕ) (message : List ℕ) → IsBytes message → IsBytes (send_invalidating msn stag message)
unfolding send_invalidating
invalidating_bytes msn stag message h =
    let one : Bool → ℕ → List ℕ → Segment = (λ last offset payload. Untagged last OPCODE_SEND_INVALIDATE (cond last stag 0) QUEUE_SEND (msn_word msn) offset payload) in
    cut_bytes one message (λ last offset payload p. segment_bytes_lem (one last offset payload) invalidating_small p) h

pub named_bytes : (named : Option ℕ) (msn : ℕ) (message : List ℕ) → IsBytes message → IsBytes (send_by named msn message)
named_bytes None msn message h = send_bytes msn message h
named_bytes (Some stag) msn message h = invalidating_bytes msn stag message h

pub write_bytes : (stag to : ℕ) (bytes : List ℕ) → IsBytes bytes → IsBytes (write stag to bytes)
unfolding write
write_bytes stag to bytes h =
    let one : Bool → ℕ → List ℕ → Segment = (λ last offset payload. Tagged last OPCODE_WRITE stag (to + offset) payload) in
    cut_bytes one bytes (λ last offset payload p. segment_bytes_lem (one last offset payload) write_small_lem p) h

pub response_bytes_lem : (stag to : ℕ) (bytes : List ℕ) → IsBytes bytes → IsBytes (read_response stag to bytes)
unfolding read_response
response_bytes_lem stag to bytes h =
    let one : Bool → ℕ → List ℕ → Segment = (λ last offset payload. Tagged last OPCODE_READ_RESPONSE stag (to + offset) payload) in
    cut_bytes one bytes (λ last offset payload p. segment_bytes_lem (one last offset payload) response_small p) h

pub request_bytes : (msn sink sink_to size stag to : ℕ) → IsBytes (read_request msn sink sink_to size stag to)
unfolding read_request
request_bytes msn sink sink_to size stag to =
    let four = bytes_both (word stag) (hyper to) (word_bytes stag) (hyper_bytes to) in
    let three = bytes_both (word size) (word stag ++ hyper to) (word_bytes size) four in
    let two = bytes_both (hyper sink_to) (word size ++ (word stag ++ hyper to)) (hyper_bytes sink_to) three in
    let fields = word sink ++ (hyper sink_to ++ (word size ++ (word stag ++ hyper to))) in
    segment_bytes_lem (Untagged true OPCODE_READ_REQUEST 0 QUEUE_READ_REQUEST (msn_word msn) 0 fields) request_small
    (bytes_both (word sink) (hyper sink_to ++ (word size ++ (word stag ++ hyper to))) (word_bytes sink) two)

terminate_bytes : (n : ℕ) → IsBytes (terminate_message n)
unfolding terminate_message
terminate_bytes n = segment_bytes_lem (Untagged true OPCODE_TERMINATE 0 QUEUE_TERMINATE 1 0 (word n)) terminate_small (word_bytes n)

key_bytes : (side : Side) → IsBytes (key side)
unfolding key
key_bytes Initiator = decided (key Initiator) refl
key_bytes Responder = decided (key Responder) refl

pub hello_bytes_lem : (side : Side) (private : List ℕ) → IsBytes private → IsBytes (hello_with side private)
unfolding hello_with hello_encoding
hello_bytes_lem side private h =
    let len : List ℕ = half_word (length private) in
    let fields : List ℕ = 0 ∷ HELLO_REVISION ∷ len in
    let own : IsBytes fields = bytes_more 0 (HELLO_REVISION ∷ len) (omega arith) (bytes_more HELLO_REVISION len (omega arith) (half_bytes (length private))) in
    bytes_both (key side ++ fields) private (bytes_both (key side) fields (key_bytes side) own) h

-- the private data of a hello
terms_key_bytes : IsBytes terms_key
unfolding terms_key
terms_key_bytes = decided terms_key refl

number_bytes : (b : Bool) (number : ℕ) → IsBytes (cond b [] (hyper number))
number_bytes true number = no_bytes_lem
number_bytes false number = hyper_bytes number

flags_small : (a b : Bool) → TERMS_NUMBER * bit a + TERMS_INVALIDATE * bit b < 256
flags_small true true = omega arith
flags_small true false = omega arith
flags_small false true = omega arith
flags_small false false = omega arith

units_small : (units : ℕ) → units_byte units < 256
units_small units = omega (arith, min-le_right (units - 1) (UNITS_MAX - 1))

terms_bytes : (units number : ℕ) (invalidates : Bool) → IsBytes (terms_encoding units number invalidates)
unfolding terms_encoding
terms_bytes units number invalidates =
    let last : List ℕ = number_encoding number in
    let unit : ℕ = units_byte units in
    let fields : List ℕ = terms_flags number invalidates ∷ unit ∷ unit ∷ [] in
    let own : IsBytes fields = bytes_more (terms_flags number invalidates) (unit ∷ unit ∷ []) (flags_small (not (eqb number 0)) invalidates)
    (bytes_more unit (unit ∷ []) (units_small units) (bytes_more unit [] (units_small units) no_bytes_lem)) in
    bytes_both (terms_key ++ fields) last (bytes_both terms_key fields terms_key_bytes own) (number_bytes (eqb number 0) number)

initiator_bytes : (t : SideTerms) → IsBytes (initiator_private t)
unfolding initiator_private
initiator_bytes t = by (eqb (units_byte t.units) 0 && (eqb t.number 0 && not t.invalidates))
  where
    by : (b : Bool) → IsBytes (cond b [] (terms_encoding t.units t.number t.invalidates))
    by true = no_bytes_lem
    by false = terms_bytes t.units t.number t.invalidates

responder_bytes : (t : SideTerms) (initiator : List ℕ) → IsBytes (responder_private t initiator)
unfolding responder_private
responder_bytes t initiator = by (terms_in initiator)
  where
    by : (said : Option Terms) → IsBytes (responder_private_by t said)
    by None = no_bytes_lem
    by (Some terms) = terms_bytes t.units 0 t.invalidates

pub client_hello_bytes : (o : LinkParameters) → IsBytes (client_hello o)
unfolding client_hello
client_hello_bytes o = hello_bytes_lem Initiator (client_private o) (initiator_bytes o.client)

pub server_hello_bytes : (o : LinkParameters) (f : Frame) → IsBytes (server_hello o f)
unfolding server_hello
server_hello_bytes o f = hello_bytes_lem Responder (server_private o f) (responder_bytes o.server (private_of f))

pub refusing_bytes : IsBytes refusing_hello
unfolding refusing_hello hello_encoding key half_word
refusing_bytes = decided refusing_hello refl

bytes_if : (b : Bool) (xs ys : List ℕ) → IsBytes xs → IsBytes ys → IsBytes (cond b xs ys)
bytes_if true xs ys h g = h
bytes_if false xs ys h g = g

pub final_bytes : (end : End) → IsBytes (final_output end)
unfolding final_output
final_bytes (ends.Bad at reason) = bytes_if (ltb reason 5) [] (terminate_message reason) no_bytes_lem (terminate_bytes reason)
final_bytes (ends.Denied stag offset why) = terminate_bytes _
final_bytes (ends.NoBuffer msn) = terminate_bytes _
final_bytes (ends.Terminated reason) = no_bytes_lem
final_bytes ends.Memory = no_bytes_lem
