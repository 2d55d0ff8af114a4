-- A call that is executed was received with the lists and the stream of its plan.
use Rattle.std.proofs.Common.{◌≡◌, ℕ, ◌+◌, ◌^◌, ◌≤◌, ◌<◌, List, [], length, Option, None, Some, Result, Ok, sym, ap, subst, ◌∙◌, arith}
use Rattle.nr_xdr.specs.Item.{IsBytes}
use Rattle.nr_xdr.specs.Items.{AllFit}
use Rattle.nr_xdr.proofs.WordBytes.{IsBytes_take}
use Rattle.nr_header.specs.Constants.{PAYLOAD_MAX}
use Rattle.nr_header.specs.declared.header.ChunkLists.{ChunkLists}
use Rattle.nr_header.specs.declared.header.Body.{Body}
use Rattle.nr_header.specs.declared.header.Body.TheVariants.{Msg, Nomsg, ErrVers, ErrChunk}
use Rattle.nr_header.specs.declared.header.Header.{Header}
use Rattle.nr_header.specs.Header.{lists_items, body_items}
use Rattle.nr_header.specs.Reading.{header_of}
use Rattle.nr_header.proofs.Messages.{header_take}
use Rattle.nr_link.specs.Agreement.{IsSendLimit}
use Rattle.nr_reduce.specs.declared.call.Form.{Form}
use Rattle.nr_reduce.specs.declared.call.Form.TheVariants as forms
use Rattle.nr_reduce.specs.declared.call.Offer.{Offer}
use Rattle.nr_reduce.specs.declared.outline.Plan.{Plan}
use Rattle.nr_reduce.specs.Limits.{given_max}
use Rattle.nr_reduce.specs.Plans.{TooLarge, plan_of, plan_size, given_plan, given_read, given_total, within, regions_needed, lists_of, call_message, HasWordPosition}
use Rattle.nr_reduce.specs.ChunkBytes.{IsNotGiven, lists_by}
use Rattle.nr_reduce.proofs.PlanKinds.{MessageKind, is_plan, within_ok_lem, offered, shape}
use Rattle.nr_reduce.proofs.PlanKinds.MessageKind.{Short, Chunked, Long}
use Rattle.nr_reduce.proofs.Asking.{asks}
use Rattle.nr_laws.proofs.PlanLists.{ReadsLists, given_fit, fitting_reads}
use Rattle.nr_laws.proofs.WrittenBytes.{written_as_lem, message_bytes_lem, message_same_lem}

-- ---- The stream of a plan are bytes

inline_given : (payload : List ℕ) (offer : Offer) (read : Option (List ℕ)) → IsBytes payload
    → IsBytes (given_read payload offer.read_at read (record { inline = payload; read_at = None; read = []; region = []; write = offer.write; reply = offer.reply })).inline
inline_given payload offer None h = h
inline_given payload offer (Some lengths) h = IsBytes_take offer.read_at payload h

-- ---- The lists of a plan fit

body_lists : (xid credit : ℕ) (b : Body) (ls : ChunkLists) → AllFit (body_items xid credit b) → lists_by b ≡ ls → AllFit (lists_items ls)
body_lists xid credit (Msg lists at) ls h e = subst (λ (l : ChunkLists). AllFit (lists_items l)) e h.1.1.1.1
body_lists xid credit (Nomsg lists) ls h e = subst (λ (l : ChunkLists). AllFit (lists_items l)) e h.1.1.1.1
body_lists xid credit (ErrVers version low high) ls h e = subst (λ (l : ChunkLists). AllFit (lists_items l)) e (tt, (tt, (tt, tt)))
body_lists xid credit (ErrChunk version) ls h e = subst (λ (l : ChunkLists). AllFit (lists_items l)) e (tt, (tt, (tt, tt)))

given_planned : (payload : List ℕ) (offer : Offer) (up down stag : ℕ) (p : Plan) → IsSendLimit up → plan_of payload (forms.Given offer) up down ≡ Ok p → IsBytes payload → offer.read_at < 2 ^ 32 → stag + regions_needed p ≤ 2 ^ 32
    → IsBytes p.inline × AllFit (lists_items (lists_of stag p))
unfolding plan_of
given_planned payload offer up down stag p limit e bytes at stags =
    let q : Plan = given_plan payload offer in
    let sent : Result Plan TooLarge = within (plan_size q) up (Ok q) in
    let a = within_ok_lem (length payload) PAYLOAD_MAX (within (given_total offer) given_max sent) p e in
    let b = within_ok_lem (given_total offer) given_max sent p a.1 in
    let c = within_ok_lem (plan_size q) up (Ok q) p b.1 in
    let same : q ≡ p = (let s : Ok q ≡ Ok p = c.1 in cc) in
    let law = λ (r : Plan). stag + regions_needed r ≤ 2 ^ 32 → IsBytes r.inline × AllFit (lists_items (lists_of stag r)) in
    subst law same (λ room. (inline_given payload offer offer.read bytes, given_fit payload offer up stag b.0 at limit c.0 room)) stags

inline_shape : (payload : List ℕ) (kind : MessageKind) (w r : Option (List ℕ)) → IsBytes payload → IsBytes (shape payload kind w r).inline
inline_shape payload Short w r h = h
inline_shape payload (Chunked i) w r h = IsBytes_take i.pos payload h
inline_shape payload Long w r h = λ i. omega arith

own_planned : (payload : List ℕ) (form : Form) (up down stag : ℕ) (p : Plan) → IsNotGiven form → plan_of payload form up down ≡ Ok p → IsBytes payload → stag + regions_needed p ≤ 2 ^ 32
    → IsBytes p.inline × AllFit (lists_items (lists_of stag p))
own_planned payload form up down stag p own e bytes stags =
    let s = (is_plan payload form up down p own e).shaped in
    let inline : IsBytes p.inline = subst (λ (q : Plan). IsBytes q.inline) (sym s.is) (inline_shape payload s.kind (offered s.write) (offered s.reply) bytes) in
    let m = asks payload form up down 0 0 stag p bytes own e (omega arith) (omega arith) stags in
    let t = header_take (call_message 0 0 stag p) (record { xid = 0; credit = 0; body = m.body }) (message_bytes_lem 0 0 stag p inline) m.reads in
    (inline, body_lists 0 0 m.body (lists_of stag p) t.fits m.lists)

-- a plan of an accepted call: its stream are bytes, and its lists can be written
pub planned_fits : (payload : List ℕ) (form : Form) (up down stag : ℕ) (p : Plan) → IsSendLimit up → plan_of payload form up down ≡ Ok p → IsBytes payload → HasWordPosition form → stag + regions_needed p ≤ 2 ^ 32
    → IsBytes p.inline × AllFit (lists_items (lists_of stag p))
planned_fits payload forms.Auto up down stag p limit e bytes typed stags = own_planned payload forms.Auto up down stag p tt e bytes stags
planned_fits payload forms.Inline up down stag p limit e bytes typed stags = own_planned payload forms.Inline up down stag p tt e bytes stags
planned_fits payload forms.Chunk up down stag p limit e bytes typed stags = own_planned payload forms.Chunk up down stag p tt e bytes stags
planned_fits payload forms.Long up down stag p limit e bytes typed stags = own_planned payload forms.Long up down stag p tt e bytes stags
planned_fits payload (forms.Given offer) up down stag p limit e bytes typed stags = given_planned payload offer up down stag p limit e bytes typed stags

-- What is read of its message, by whatever credits: its lists and its stream.
pub plan_reads : (xid credit stag : ℕ) (p : Plan) (header : Header) → IsBytes p.inline → AllFit (lists_items (lists_of stag p)) → xid < 2 ^ 32 → header_of (call_message xid credit stag p) ≡ Ok header
    → ReadsLists stag p (call_message xid credit stag p) header
plan_reads xid credit stag p header inline fits small is =
    let w = written_as_lem credit in
    let same = message_same_lem xid credit w.number stag p w.same in
    subst (λ (m : List ℕ). ReadsLists stag p m header) (sym same)
    (fitting_reads xid w.number stag p header (message_bytes_lem xid w.number stag p inline) (ap header_of (sym same) ∙ is) fits small w.fits)
