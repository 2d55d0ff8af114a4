-- How a call is sent (RFC 8166 section 3.5): what goes inline, what is offered to be read, and what is offered to be filled.
use Rattle.std.specs.Prelude.{◌≡◌, ℕ, zero, suc, ◌+◌, ◌-◌, ◌/◌, ◌^◌, ◌<◌, min, Bool, true, false, nat_lt, nat_le, ◌&&◌, ◌==◌, not, if◌then◌else◌, List, [], ◌∷◌, ◌++◌, length, take, drop, replicate, sum, Option, None, Some, Result, Ok, Err}
use Rattle.nr_header.specs.Constants.{HEADER_LEN_MIN, PAYLOAD_MAX}
use Rattle.nr_header.specs.Length.{read_list_len, write_chunk_len, reply_chunk_len}
use Rattle.nr_header.specs.declared.header.RdmaSegment.{RdmaSegment}
use Rattle.nr_header.specs.declared.header.ReadSegment.{ReadSegment}
use Rattle.nr_header.specs.declared.header.ChunkLists.{ChunkLists}
use Rattle.nr_header.specs.declared.header.Body.{Body}
use Rattle.nr_header.specs.declared.header.Body.TheVariants.{Msg, Nomsg}
use Rattle.nr_header.specs.declared.header.Header.{Header}
use Rattle.nr_header.specs.Header.{header_encoding}
use Rattle.nr_regions.specs.declared.right.Right.{Right}
use Rattle.nr_regions.specs.declared.right.Right.TheVariants.{Fetch, Fill}
use Rattle.nr_xdr.specs.Reading.{Cursor}
use Rattle.nr_rpc.specs.declared.head.CallTarget.{CallTarget}
use Rattle.nr_rpc.specs.Reading.{call_of, target_of}
use Rattle.nr_reduce.specs.declared.call.Form.{Form}
use Rattle.nr_reduce.specs.declared.call.Form.TheVariants as forms
use Rattle.nr_reduce.specs.declared.call.Offer.{Offer}
use Rattle.nr_reduce.specs.Limits.{given_max, chunk_segment_max}
use Rattle.nr_nfs_base.specs.Limits.{link_target_max, transfer_max}
use Rattle.nr_reduce.specs.declared.outline.Plan.{Plan}
use Rattle.nr_reduce.specs.declared.item.Item.{Item}
use Rattle.nr_reduce.specs.Items.{READ, READLINK, is_nfs, from_place, reducible_item, stream_of, moved_of}
use Rattle.nr_reduce.specs.declared.item.Of.TheVariants.{Call}
use Rattle.nr_reduce.specs.Largest.{largest_reply, read_count}

-- a call needs more bytes than there is room for
pub record TooLarge : Type 0 where
  pub need : ℕ
  pub room : ℕ

-- The lengths of the segments of a chunk of n bytes that isn't given: full ones, and then one with the rest. At most `more` follow
-- the first.
abbrev pub segments_within : (more n : ℕ) → List ℕ
segments_within zero n = n ∷ []
segments_within (suc more) n = if nat_le n chunk_segment_max then n ∷ [] else chunk_segment_max ∷ segments_within more (n - chunk_segment_max)

unfoldable pub segments_for : ℕ → List ℕ
segments_for n = segments_within (n / chunk_segment_max) n

abbrev pub inline_plan : List ℕ → Plan
inline_plan payload = record { inline = payload; read_at = None; read = []; region = []; write = None; reply = None }

-- How many bytes of the write chunk a READ or a READLINK may offer.
abbrev pub moved_offer : Option ℕ → Option ℕ
moved_offer None = None
moved_offer (Some count) = Some (min count transfer_max)

abbrev pub argument_offer : (prog vers proc : ℕ) → Cursor → Option ℕ
argument_offer prog vers proc arguments =
    if is_nfs prog vers && proc == READ then moved_offer (read_count arguments)
    else (if is_nfs prog vers && proc == READLINK then Some link_target_max
    else None)

abbrev pub target_offer : List ℕ → Option CallTarget → Option ℕ
target_offer payload None = None
target_offer payload (Some t) = argument_offer t.prog t.vers t.proc (from_place t.args_at payload)

unfoldable pub write_offer : List ℕ → Option ℕ
write_offer payload = target_offer payload (target_of (call_of payload))

-- the chunk for n bytes
abbrev pub chunk_for : Option ℕ → Option (List ℕ)
chunk_for None = None
chunk_for (Some n) = Some (segments_for n)

-- the sizes of lists in a header (RFC 8166 section 4.3), and that of the complete Send
abbrev pub write_size : Option (List ℕ) → ℕ
write_size None = 0
write_size (Some chunk) = write_chunk_len (length chunk)

abbrev pub reply_size : Option (List ℕ) → ℕ
reply_size None = 0
reply_size (Some chunk) = reply_chunk_len (length chunk)

abbrev pub header_size : Plan → ℕ
header_size p = HEADER_LEN_MIN + read_list_len (length p.read) + write_size p.write + reply_size p.reply

unfoldable pub plan_size : Plan → ℕ
plan_size p = header_size p + length p.inline

-- the call's item in a read chunk, if it has one; else the plan unchanged
abbrev pub reduced_plan_by : List ℕ → Plan → Option Item → Plan
reduced_plan_by payload p None = p
reduced_plan_by payload p (Some i) =
    record { inline = stream_of payload i; read_at = Some i.pos; read = segments_for i.len; region = moved_of payload i; write = p.write; reply = p.reply }

unfoldable pub reduced_plan : List ℕ → Plan → Plan
reduced_plan payload p = reduced_plan_by payload p (reducible_item Call payload)

-- the complete payload in a chunk at position 0
abbrev pub long_plan : List ℕ → Plan → Plan
long_plan payload p =
    record { inline = []; read_at = Some 0; read = segments_for (length payload); region = payload; write = p.write; reply = p.reply }

-- the first of these plans whose Send is no longer than it may be, or the last
abbrev pub first_within : ℕ → Plan → Plan → Plan → Plan
first_within up inline reduced_plan long =
    if nat_le (plan_size inline) up then inline
    else (if not (length reduced_plan.read == 0) && nat_le (plan_size reduced_plan) up then reduced_plan
    else long)

-- what a call offers for its reply, if its form is left open
abbrev pub offering : List ℕ → Option ℕ → Plan → Plan
offering payload None p = record p { reply = Some (segments_for (largest_reply payload)) }
offering payload (Some n) p = record p { write = Some (segments_for n) }

abbrev pub auto_offer : List ℕ → ℕ → Plan → Plan
auto_offer payload down p = if nat_le (HEADER_LEN_MIN + largest_reply payload) down then p else offering payload (write_offer payload) p

abbrev pub auto_plan : List ℕ → ℕ → Plan → Plan
auto_plan payload up p = first_within up p (reduced_plan payload p) (long_plan payload p)

-- an offer that is given, right or wrong
abbrev pub total : Option (List ℕ) → ℕ
total None = 0
total (Some lengths) = sum lengths

abbrev pub given_region : List ℕ → ℕ → ℕ → List ℕ
given_region payload at size = take size (drop at payload) ++ replicate (size - length (take size (drop at payload))) 0

abbrev pub given_read : List ℕ → ℕ → Option (List ℕ) → Plan → Plan
given_read payload at None p = p
given_read payload at (Some lengths) p =
    record { inline = take at payload; read_at = Some at; read = lengths; region = given_region payload at (sum lengths); write = p.write; reply = p.reply }

abbrev pub given_plan : List ℕ → Offer → Plan
given_plan payload offer =
    given_read payload offer.read_at offer.read (record { inline = payload; read_at = None; read = []; region = []; write = offer.write; reply = offer.reply })

abbrev pub given_total : Offer → ℕ
given_total offer = total offer.read + total offer.write + total offer.reply

-- the position of an offer that is given is a word
abbrev pub HasWordPosition : Form → Type 0
HasWordPosition forms.Auto = Unit {0}
HasWordPosition forms.Inline = Unit {0}
HasWordPosition forms.Chunk = Unit {0}
HasWordPosition forms.Long = Unit {0}
HasWordPosition (forms.Given offer) = offer.read_at < 2 ^ 32

-- a plan by the form
abbrev pub plan_in_form : List ℕ → Form → (up down : ℕ) → Plan
plan_in_form payload forms.Auto up down = auto_plan payload up (auto_offer payload down (inline_plan payload))
plan_in_form payload forms.Inline up down = inline_plan payload
plan_in_form payload forms.Chunk up down = reduced_plan payload (record (inline_plan payload) { write = chunk_for (write_offer payload) })
plan_in_form payload forms.Long up down =
    long_plan payload (record (inline_plan payload) { reply = Some (segments_for (largest_reply payload)) })
plan_in_form payload (forms.Given offer) up down = given_plan payload offer

-- a number within its room
abbrev pub within : {A : Type 0} → ℕ → ℕ → Result A TooLarge → Result A TooLarge
within need room answer = if nat_lt room need then Err (record { need = need; room = room }) else answer

abbrev pub given_within : Form → Result Plan TooLarge → Result Plan TooLarge
given_within forms.Auto answer = answer
given_within forms.Inline answer = answer
given_within forms.Chunk answer = answer
given_within forms.Long answer = answer
given_within (forms.Given offer) answer = within (given_total offer) given_max answer

-- The plan of a payload in a form, if a Send has at most `up` bytes towards the server and `down` from it; or the first
-- limit that it exceeds: that of a payload, that of an offer that is given, that of its Send.
unfoldable pub plan_of : List ℕ → Form → (up down : ℕ) → Result Plan TooLarge
plan_of payload form up down =
    within (length payload) PAYLOAD_MAX
    (given_within form
    (within (plan_size (plan_in_form payload form up down)) up
    (Ok (plan_in_form payload form up down))))

-- ---- What a plan registers, under STags from one on, and the message that it makes

-- each chunk with a segment has a region of its own, in the order read chunk, write chunk, reply chunk
abbrev pub has_segment : Option (List ℕ) → Bool
has_segment None = false
has_segment (Some []) = false
has_segment (Some (n ∷ lengths)) = true

abbrev pub one_if : Bool → ℕ
one_if true = 1
one_if false = 0

abbrev pub read_stag : ℕ → Plan → ℕ
read_stag stag p = stag

abbrev pub write_stag : ℕ → Plan → ℕ
write_stag stag p = stag + one_if (has_segment (Some p.read))

abbrev pub reply_stag : ℕ → Plan → ℕ
reply_stag stag p = write_stag stag p + one_if (has_segment p.write)

unfoldable pub regions_needed : Plan → ℕ
regions_needed p = one_if (has_segment (Some p.read)) + one_if (has_segment p.write) + one_if (has_segment p.reply)

-- a region to be registered: its STag, its right and its bytes
pub record Buffer : Type 0 where
  pub stag : ℕ
  pub right : Right
  pub bytes : List ℕ

abbrev pub buffer_if : Bool → ℕ → Right → List ℕ → List Buffer
buffer_if true stag right bytes = record { stag = stag; right = right; bytes = bytes } ∷ []
buffer_if false stag right bytes = []

unfoldable pub buffers : ℕ → Plan → List Buffer
buffers stag p =
    buffer_if (has_segment (Some p.read)) (read_stag stag p) Fetch p.region
    ++ (buffer_if (has_segment p.write) (write_stag stag p) Fill (replicate (total p.write) 0)
    ++ buffer_if (has_segment p.reply) (reply_stag stag p) Fill (replicate (total p.reply) 0))

-- segments of one region, one after the other
abbrev pub segments_from : (handle offset : ℕ) → List ℕ → List RdmaSegment
segments_from handle offset [] = []
segments_from handle offset (n ∷ lengths) =
    record { handle = handle; length = n; offset = offset } ∷ segments_from handle (offset + n) lengths

abbrev pub entries_from : (position handle offset : ℕ) → List ℕ → List ReadSegment
entries_from position handle offset [] = []
entries_from position handle offset (n ∷ lengths) =
    record { position = position; handle = handle; length = n; offset = offset } ∷ entries_from position handle (offset + n) lengths

abbrev pub read_list : ℕ → Plan → Option ℕ → List ReadSegment
read_list stag p None = []
read_list stag p (Some position) = entries_from position (read_stag stag p) 0 p.read

abbrev pub write_list : ℕ → Option (List ℕ) → List (List RdmaSegment)
write_list stag None = []
write_list stag (Some lengths) = segments_from stag 0 lengths ∷ []

abbrev pub reply_chunk : ℕ → Option (List ℕ) → Option (List RdmaSegment)
reply_chunk stag None = None
reply_chunk stag (Some lengths) = Some (segments_from stag 0 lengths)

unfoldable pub lists_of : ℕ → Plan → ChunkLists
lists_of stag p = record {
  read = read_list stag p p.read_at;
  write = write_list (write_stag stag p) p.write;
  reply = reply_chunk (reply_stag stag p) p.reply;
}

-- a read chunk at position 0 carries the stream, and a message without one has it inline (RFC 8166 section 3.5)
abbrev pub body_by : Option ℕ → ChunkLists → Body
body_by None lists = Msg lists 0
body_by (Some position) lists = if position == 0 then Nomsg lists else Msg lists 0

-- the stream of a plan, if it is in the message
abbrev pub inline_at : Option ℕ → List ℕ → Option (List ℕ)
inline_at None stream = Some stream
inline_at (Some position) stream = if position == 0 then None else Some stream

abbrev pub inline_stream : Plan → Option (List ℕ)
inline_stream p = inline_at p.read_at p.inline

abbrev pub call_header : (xid credit stag : ℕ) → Plan → Header
call_header xid credit stag p = record { xid = xid; credit = credit; body = body_by p.read_at (lists_of stag p) }

unfoldable pub call_message : (xid credit stag : ℕ) → Plan → List ℕ
call_message xid credit stag p = header_encoding (record { xid = xid; credit = credit; body = body_by p.read_at (lists_of stag p) }) ++ p.inline

-- The header and the inline stream by which a call goes out, and its regions.
pub record Planned (payload : List ℕ) (form : Form) (up down : ℕ) (xid credit stag : ℕ) (message : List ℕ) (regions : List Buffer) : Type 0 where
  pub plan : Plan
  pub is_plan : plan_of payload form up down ≡ Ok plan
  pub message_is : message ≡ call_message xid credit stag plan
  pub regions_are : regions ≡ buffers stag plan
