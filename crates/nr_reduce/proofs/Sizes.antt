-- The size of the message of a plan: that of its header's lists, and of its stream.
use Rattle.std.proofs.Common.{◌≡◌, ℕ, ◌+◌, ◌≤◌, Bool, true, false, cond, eqb, List, [], ◌∷◌, length, Option, Some, None, Result, Ok, refl, sym, ap, subst, arith, length-append}
use Rattle.std.proofs.lemmas.List.Sums.{sum_by-cons}
use Rattle.nr_xdr.specs.Items.{encodings}
use Rattle.nr_header.specs.Constants.{PAYLOAD_MAX}
use Rattle.nr_header.specs.declared.header.RdmaSegment.{RdmaSegment}
use Rattle.nr_header.specs.declared.header.ChunkLists.{ChunkLists}
use Rattle.nr_header.specs.declared.header.Body.TheVariants.{Msg, Nomsg}
use Rattle.nr_header.specs.Header.{lists_items, header_encoding}
use Rattle.nr_header.specs.Length.{write_chunk_len, write_list_len, reply_len}
use Rattle.nr_header.proofs.Lengths.{lists_len, msg_len, nomsg_len}
use Rattle.nr_reduce.specs.declared.call.Form.{Form}
use Rattle.nr_reduce.specs.declared.call.Form.TheVariants as forms
use Rattle.nr_reduce.specs.declared.outline.Plan.{Plan}
use Rattle.nr_reduce.specs.Limits.{given_max}
use Rattle.nr_reduce.specs.Plans.{TooLarge, segments_from, entries_from, read_list, write_list, reply_chunk, write_size, reply_size, plan_size, write_stag, reply_stag, read_stag, given_read, given_total, given_within, plan_in_form, within, lists_of, body_by, call_message, plan_of}
use Rattle.nr_reduce.proofs.PlanKinds.{offered, MessageKind, shape, Shaped, shaped, within_ok_lem}
use Rattle.nr_reduce.proofs.PlanKinds.MessageKind.{Short, Chunked, Long}

-- ---- The message of a plan

pub entries_count : (position handle offset : ℕ) (lengths : List ℕ) → length (entries_from position handle offset lengths) ≡ length lengths
entries_count position handle offset [] = refl
entries_count position handle offset (n ∷ lengths) = (let a = entries_count position handle (offset + n) lengths in omega (arith, a))

pub segments_count : (handle offset : ℕ) (lengths : List ℕ) → length (segments_from handle offset lengths) ≡ length lengths
segments_count handle offset [] = refl
segments_count handle offset (n ∷ lengths) = (let a = segments_count handle (offset + n) lengths in omega (arith, a))

write_is : (stag : ℕ) (w : Option (List ℕ)) → write_list_len (write_list stag w) ≡ write_size w
write_is stag None = refl
write_is stag (Some lengths) =
    let a = sum_by-cons (λ (k : List RdmaSegment). write_chunk_len (length k)) (segments_from stag 0 lengths) [] in
    let b = segments_count stag 0 lengths in
    omega (arith, a, b)

reply_is : (stag : ℕ) (r : Option (List ℕ)) → reply_len (reply_chunk stag r) ≡ reply_size r
reply_is stag None = refl
reply_is stag (Some lengths) = (let b = segments_count stag 0 lengths in omega (arith, b))

-- without a position there are no entries
abbrev HasEntriesAt : Plan → Type 0
HasEntriesAt p = p.read_at ≡ None → p.read ≡ []

read_is : (stag : ℕ) (p : Plan) (o : Option ℕ) → (o ≡ None → p.read ≡ []) → length (read_list stag p o) ≡ length p.read
read_is stag p None h = sym (ap (λ (xs : List ℕ). length xs) (h refl))
read_is stag p (Some position) h = entries_count position (read_stag stag p) 0 p.read

body_len : (xid credit : ℕ) (o : Option ℕ) (ls : ChunkLists) → length (header_encoding (record { xid = xid; credit = credit; body = body_by o ls })) ≡ 16 + length (encodings (lists_items ls))
body_len xid credit None ls = msg_len xid credit 0 ls
body_len xid credit (Some position) ls = by (eqb position 0)
  where
    by : (b : Bool) → length (header_encoding (record { xid = xid; credit = credit; body = cond b (Nomsg ls) (Msg ls 0) })) ≡ 16 + length (encodings (lists_items ls))
    by true = nomsg_len xid credit ls
    by false = msg_len xid credit 0 ls

message_len : (xid credit stag : ℕ) (p : Plan) → HasEntriesAt p → length (call_message xid credit stag p) ≡ plan_size p
unfolding call_message plan_size lists_of
message_len xid credit stag p h =
    let ls : ChunkLists = lists_of stag p in
    let a = length-append (header_encoding (record { xid = xid; credit = credit; body = body_by p.read_at ls })) p.inline in
    let b = body_len xid credit p.read_at ls in
    let c = lists_len ls in
    let d = read_is stag p p.read_at h in
    let e = write_is (write_stag stag p) p.write in
    let f = reply_is (reply_stag stag p) p.reply in
    omega (arith, a, b, c, d, e, f)

-- ---- Plans of every form

shape_entries : (payload : List ℕ) (way : MessageKind) (w r : Option (List ℕ)) → HasEntriesAt (shape payload way w r)
shape_entries payload Short w r = λ e. refl
shape_entries payload (Chunked i) w r = λ e. absurd cc
shape_entries payload Long w r = λ e. absurd cc

shaped_entries : (payload : List ℕ) (p : Plan) → Shaped payload p → HasEntriesAt p
shaped_entries payload p s = subst HasEntriesAt (sym s.is) (shape_entries payload s.kind (offered s.write) (offered s.reply))

given_entries : (payload : List ℕ) (at : ℕ) (read : Option (List ℕ)) (w r : Option (List ℕ)) → HasEntriesAt (given_read payload at read (record { inline = payload; read_at = None; read = []; region = []; write = w; reply = r }))
given_entries payload at None w r = λ e. refl
given_entries payload at (Some lengths) w r = λ e. absurd cc

formed_entries : (payload : List ℕ) (form : Form) (up down : ℕ) → HasEntriesAt (plan_in_form payload form up down)
formed_entries payload forms.Auto up down = shaped_entries payload _ (shaped payload forms.Auto up down tt)
formed_entries payload forms.Inline up down = shaped_entries payload _ (shaped payload forms.Inline up down tt)
formed_entries payload forms.Chunk up down = shaped_entries payload _ (shaped payload forms.Chunk up down tt)
formed_entries payload forms.Long up down = shaped_entries payload _ (shaped payload forms.Long up down tt)
formed_entries payload (forms.Given offer) up down = given_entries payload offer.read_at offer.read offer.write offer.reply

given_ok : (form : Form) (answer : Result Plan TooLarge) (p : Plan) → given_within form answer ≡ Ok p → answer ≡ Ok p
given_ok forms.Auto answer p e = e
given_ok forms.Inline answer p e = e
given_ok forms.Chunk answer p e = e
given_ok forms.Long answer p e = e
given_ok (forms.Given offer) answer p e = (within_ok_lem (given_total offer) given_max answer p e).1

-- a plan is that of its form, and its size is at most that of a Send
pub record IsFormed (payload : List ℕ) (form : Form) (up down : ℕ) (p : Plan) : Type 0 where
  pub is : plan_in_form payload form up down ≡ p
  pub fits : plan_size p ≤ up

pub is_formed : (payload : List ℕ) (form : Form) (up down : ℕ) (p : Plan) → plan_of payload form up down ≡ Ok p → IsFormed payload form up down p
unfolding plan_of
is_formed payload form up down p e =
    let q : Plan = plan_in_form payload form up down in
    let sent : Result Plan TooLarge = within (plan_size q) up (Ok q) in
    let a = within_ok_lem (length payload) PAYLOAD_MAX (given_within form sent) p e in
    let b = within_ok_lem (plan_size q) up (Ok q) p (given_ok form sent p a.1) in
    let same : q ≡ p = (let s : Ok q ≡ Ok p = b.1 in cc) in
    record { is = same; fits = subst (λ (r : Plan). plan_size r ≤ up) same b.0 }

-- The message of a plan of any form has its size, which is at most that of a Send.
pub message_size : (payload : List ℕ) (form : Form) (up down xid credit stag : ℕ) (p : Plan) → plan_of payload form up down ≡ Ok p →
    (length (call_message xid credit stag p) ≡ plan_size p) × (length (call_message xid credit stag p) ≤ up)
message_size payload form up down xid credit stag p e =
    let is = is_formed payload form up down p e in
    let equal = message_len xid credit stag p (subst HasEntriesAt is.is (formed_entries payload form up down)) in
    let small = is.fits in
    (equal, omega (arith, equal, small))
