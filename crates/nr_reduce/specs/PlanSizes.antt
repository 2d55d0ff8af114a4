-- A plan before it owns bytes, in the terms of the definitions.
use Rattle.std.specs.Prelude.{◌≡◌, ℕ, ◌+◌, ◌≤◌, nat_le, if◌then◌else◌, List, [], length, Option, None, Some, option_map, IfSome, Result, Ok, Err, nat_lt}
use Rattle.nr_header.specs.Constants.{HEADER_LEN_MIN}
use Rattle.nr_header.specs.Length.{read_list_len}
use Rattle.nr_reduce.specs.declared.call.Form.{Form}
use Rattle.nr_reduce.specs.declared.call.Form.TheVariants as forms
use Rattle.nr_reduce.specs.declared.item.Item.{Item}
use Rattle.nr_reduce.specs.declared.item.Of.TheVariants.{Call}
use Rattle.nr_reduce.specs.declared.outline.Plan.{Plan}
use Rattle.nr_reduce.specs.declared.outline.ChunkLengths.TheVariants.{Own}
use Rattle.nr_reduce.specs.declared.outline.ReadOutline.{ReadOutline}
use Rattle.nr_reduce.specs.declared.outline.Outline.{Outline}
use Rattle.nr_reduce.specs.declared.outline.MessageKind.{MessageKind}
use Rattle.nr_reduce.specs.declared.outline.MessageKind.TheVariants.{Short, Chunked, Long}
use Rattle.nr_reduce.specs.declared.outline.PlanSizes.{PlanSizes}
use Rattle.nr_reduce.specs.declared.parts.PayloadFacts.{PayloadFacts}
use Rattle.nr_reduce.specs.declared.fault.PayloadFault.{PayloadFault}
use Rattle.nr_reduce.specs.declared.fault.PayloadFault.TheVariants as faults
use Rattle.nr_reduce.specs.declared.fault.TooLarge.{TooLarge as CodeTooLarge}
use Rattle.nr_reduce.specs.Items.{reducible_item, stream_of, moved_of}
use Rattle.nr_reduce.specs.Largest.{largest_reply}
use Rattle.nr_reduce.specs.Plans.{TooLarge, segments_for, chunk_for, write_size, reply_size, write_offer}

-- what a plan depends on of a payload
abbrev pub facts_of : List ℕ → PayloadFacts
facts_of payload = record { len = length payload; largest = largest_reply payload; offer = write_offer payload; item = reducible_item Call payload }

-- the plan of a payload that is sent by this kind of message, with chunks of these lengths
abbrev pub plan_by : List ℕ → MessageKind → Option ℕ → Option ℕ → Plan
plan_by payload Short w r =
    record { inline = payload; read_at = None; read = []; region = []; write = chunk_for w; reply = chunk_for r }
plan_by payload (Chunked i) w r =
    record { inline = stream_of payload i; read_at = Some i.pos; read = segments_for i.len; region = moved_of payload i; write = chunk_for w; reply = chunk_for r }
plan_by payload Long w r =
    record { inline = []; read_at = Some 0; read = segments_for (length payload); region = payload; write = chunk_for w; reply = chunk_for r }

abbrev pub plan_of_sizes : List ℕ → PlanSizes → Plan
plan_of_sizes payload o = plan_by payload o.kind o.write o.reply

-- the item lies within this many bytes
abbrev pub ItemFits : ℕ → Option Item → Type 0
ItemFits len item = IfSome item (λ (i : Item). i.pos + i.len ≤ len)

abbrev pub KindFits : ℕ → MessageKind → Type 0
KindFits len Short = Unit {0}
KindFits len (Chunked i) = i.pos + i.len ≤ len
KindFits len Long = Unit {0}

-- ---- The sizes of a plan of a payload of this many bytes

abbrev pub entries_of : ℕ → MessageKind → ℕ
entries_of len Short = 0
entries_of len (Chunked i) = length (segments_for i.len)
entries_of len Long = length (segments_for len)

abbrev pub inline_len : ℕ → MessageKind → ℕ
inline_len len Short = len
inline_len len (Chunked i) = i.pos
inline_len len Long = 0

abbrev pub send_size : ℕ → PlanSizes → ℕ
send_size len o = HEADER_LEN_MIN + read_list_len (entries_of len o.kind) + write_size (chunk_for o.write) + reply_size (chunk_for o.reply) + inline_len len o.kind

-- what is offered if the form is left open
abbrev pub offer_sizes_by : ℕ → Option ℕ → Option ℕ × Option ℕ
offer_sizes_by largest None = (None, Some largest)
offer_sizes_by largest (Some n) = (Some n, None)

abbrev pub auto_offer_sizes : PayloadFacts → ℕ → Option ℕ × Option ℕ
auto_offer_sizes facts down = if nat_le (HEADER_LEN_MIN + facts.largest) down then (None, None) else offer_sizes_by facts.largest facts.offer

abbrev pub sizes_by : MessageKind → Option ℕ → Option ℕ → PlanSizes
sizes_by kind w r = record { kind = kind; write = w; reply = r }

-- the first kind of message whose Send has at most this many bytes
abbrev pub item_kind_within : (len up : ℕ) → (w r : Option ℕ) → Option Item → MessageKind
item_kind_within len up w r None = Long
item_kind_within len up w r (Some i) = if nat_le (send_size len (sizes_by (Chunked i) w r)) up then Chunked i else Long

abbrev pub auto_kind : PayloadFacts → (w r : Option ℕ) → ℕ → MessageKind
auto_kind facts w r up = if nat_le (send_size facts.len (sizes_by Short w r)) up then Short else item_kind_within facts.len up w r facts.item

abbrev pub auto_sizes_by : PayloadFacts → ℕ → Option ℕ × Option ℕ → PlanSizes
auto_sizes_by facts up o = sizes_by (auto_kind facts o.0 o.1 up) o.0 o.1

abbrev pub auto_sizes : PayloadFacts → (up down : ℕ) → PlanSizes
auto_sizes facts up down = auto_sizes_by facts up (auto_offer_sizes facts down)

abbrev pub item_kind : Option Item → MessageKind
item_kind None = Short
item_kind (Some i) = Chunked i

-- the sizes of a plan in a form that isn't given
abbrev pub sizes_in_form : PayloadFacts → Form → (up down : ℕ) → PlanSizes
sizes_in_form facts forms.Auto up down = auto_sizes facts up down
sizes_in_form facts forms.Inline up down = sizes_by Short None None
sizes_in_form facts forms.Chunk up down = sizes_by (item_kind facts.item) facts.offer None
sizes_in_form facts forms.Long up down = sizes_by Long None (Some facts.largest)
sizes_in_form facts (forms.Given offer) up down = sizes_by Short None None

-- ---- The outline of these sizes

abbrev pub read_outline : ℕ → ℕ → ReadOutline
read_outline position len = record { position = position; lengths = Own len; len = len }

abbrev pub kind_outline : ℕ → MessageKind → Option ReadOutline
kind_outline len Short = None
kind_outline len (Chunked i) = Some (read_outline i.pos i.len)
kind_outline len Long = Some (read_outline 0 len)

abbrev pub own_outline : ℕ → PlanSizes → Outline
own_outline len o = record { read = kind_outline len o.kind; write = option_map Own o.write; reply = option_map Own o.reply }

abbrev pub outline_within : (len up : ℕ) → PlanSizes → Result Outline CodeTooLarge
outline_within len up o =
    if nat_lt up (send_size len o) then Err (record { need = send_size len o; room = up }) else Ok (own_outline len o)

-- The answer is that plan, or the first limit that it exceeds, unless memory ran out.
abbrev pub PlanAnswers : Result Plan PayloadFault → Result Plan TooLarge → Type 0
PlanAnswers (Ok plan) planned = planned ≡ Ok plan
PlanAnswers (Err (faults.TooLarge need room)) planned = planned ≡ Err (record { need = need; room = room })
PlanAnswers (Err (faults.BadChunks why)) planned = ⊥
PlanAnswers (Err faults.Memory) planned = Unit {0}
