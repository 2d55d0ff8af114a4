-- The plans of the forms that aren't given have three shapes: all inline, the item in a chunk, all in a chunk; and they offer one
-- chunk at most for each way back.
use Rattle.std.proofs.Common.{◌≡◌, ℕ, ◌+◌, ◌≤◌, min, Bool, true, false, cond, ◌&&◌, eqb, ltb, leb, not, List, [], ◌∷◌, length, Option, Some, None, Result, Ok, Err, refl, sym, ap, subst, ◌∙◌, arith, inl, inr}
use Rattle.std.specs.Prelude.{find, option_map, unwrap_or}
use Rattle.std.specs.List.{list_all}
use Rattle.nr_xdr.specs.Item.{pad_len}
use Rattle.nr_xdr.specs.Reading.{Cursor}
use Rattle.nr_xdr.proofs.SequencingSteps.{chosen}
use Rattle.nr_rpc.specs.Reading.{call_of, target_of}
use Rattle.nr_rpc.specs.declared.head.CallTarget.{CallTarget}
use Rattle.nr_header.specs.Constants.{HEADER_LEN_MIN, PAYLOAD_MAX}
use Rattle.nr_reduce.specs.ChunkBytes.{IsNotGiven}
use Rattle.nr_reduce.specs.declared.call.Form.{Form}
use Rattle.nr_reduce.specs.declared.call.Form.TheVariants as forms
use Rattle.nr_nfs_base.specs.Limits.{link_target_max, transfer_max}
use Rattle.nr_reduce.specs.declared.item.Item.{Item}
use Rattle.nr_reduce.specs.Items.{reducible_item, stream_of, moved_of, READ, READLINK, is_nfs, from_place}
use Rattle.nr_reduce.specs.declared.item.Of.TheVariants.{Call}
use Rattle.nr_reduce.specs.Largest.{largest_reply, reply_limit_min, target_reply_max, by_count, nfs_reply_max, read_reply_max, readdir_reply_max, limit_of, reply_limits, read_count, readdir_count, readdirplus_count, READDIR, READDIRPLUS, MOUNT_PROGRAM, MOUNT_VERSION, MNT}
use Rattle.nr_reduce.specs.declared.outline.Plan.{Plan}
use Rattle.nr_reduce.specs.Plans.{TooLarge, segments_for, inline_plan, moved_offer, target_offer, write_offer, chunk_for, plan_size, reduced_plan_by, reduced_plan, long_plan, offering, auto_offer, plan_in_form, within, given_within, plan_of}

-- ---- How long a reply may be

-- the maximum of what a chunk that isn't given has room for on the way back: that of the reply to a READ
abbrev pub most : ℕ
most = 1048704

padded_small : (n : ℕ) → n ≤ transfer_max → n + pad_len n ≤ transfer_max
unfolding pad_len
padded_small n le = omega (arith, le)

or_least : (o : Option ℕ) (f : ℕ → ℕ) → ((n : ℕ) → f n ≤ most) → by_count f o ≤ most
or_least None f h = omega arith
or_least (Some n) f h = h n

by_row : (row : ℕ × ℕ) (here low all : Bool) (found : Option (ℕ × ℕ)) → leb row.1 1200 ≡ low → (low && all) ≡ true → (all ≡ true → unwrap_or (option_map (λ (row : ℕ × ℕ). row.1) found) reply_limit_min ≤ most)
    → unwrap_or (option_map (λ (row : ℕ × ℕ). row.1) (cond here (Some row) found)) reply_limit_min ≤ most
by_row row here false all found is e h = absurd cc
by_row row true true all found is e h = grind (arith, is)
by_row row false true all found is e h = h e

rows_small : (rows : List (ℕ × ℕ)) (proc : ℕ) → list_all (λ row. leb row.1 1200) rows ≡ true → unwrap_or (option_map (λ (row : ℕ × ℕ). row.1) (find (λ row. eqb row.0 proc) rows)) reply_limit_min ≤ most
rows_small [] proc e = omega arith
rows_small (row ∷ rows) proc e =
    by_row row (eqb row.0 proc) (leb row.1 1200) (list_all (λ row. leb row.1 1200) rows) (find (λ row. eqb row.0 proc) rows) refl e (λ all. rows_small rows proc all)

choose : (b : Bool) (x y : ℕ) → x ≤ most → y ≤ most → cond b x y ≤ most
choose true x y p q = p
choose false x y p q = q

nfs_small : (proc : ℕ) (c : Cursor) → nfs_reply_max proc c ≤ most
unfolding limit_of
nfs_small proc c =
    choose (eqb proc READ) _ _ (or_least (read_count c) read_reply_max (λ n. let p = padded_small (min n transfer_max) (omega arith) in omega (arith, p)))
    (choose (eqb proc READDIR) _ _ (or_least (readdir_count c) readdir_reply_max (λ n. omega arith))
    (choose (eqb proc READDIRPLUS) _ _ (or_least (readdirplus_count c) readdir_reply_max (λ n. omega arith))
    (rows_small reply_limits proc refl)))

pub largest_small : (payload : List ℕ) → largest_reply payload ≤ most
unfolding largest_reply
largest_small payload = by_target (target_of (call_of payload))
  where
    by_target : (o : Option CallTarget) → target_reply_max payload o ≤ most
    by_target None = omega arith
    by_target (Some t) =
        choose (is_nfs t.prog t.vers) _ _ (nfs_small t.proc (from_place t.args_at payload))
        (choose (eqb t.prog MOUNT_PROGRAM && (eqb t.vers MOUNT_VERSION && eqb t.proc MNT)) _ _ (omega arith) (omega arith))

-- ---- What is offered

pub data Offering : Type 0 where
  Nothing : Offering
  One : (n : ℕ) → Offering

abbrev pub offered : Offering → Option (List ℕ)
offered Nothing = None
offered (One n) = Some (segments_for n)

abbrev pub IsSmall : Offering → Type 0
IsSmall Nothing = Unit {0}
IsSmall (One n) = n ≤ most

pub record IsOffering (o : Option (List ℕ)) : Type 0 where
  pub offering : Offering
  pub small : IsSmall offering
  pub is : o ≡ offered offering

pub write_offering : (payload : List ℕ) → IsOffering (chunk_for (write_offer payload))
unfolding write_offer
write_offering payload = by_target (target_of (call_of payload))
  where
    by_moved : (o : Option ℕ) → IsOffering (chunk_for (moved_offer o))
    by_moved None = record { offering = Nothing; small = tt; is = refl }
    by_moved (Some n) = record { offering = One (min n transfer_max); small = omega arith; is = refl }

    by_link : (b : Bool) → IsOffering (chunk_for (cond b (Some link_target_max) None))
    by_link true = record { offering = One link_target_max; small = omega arith; is = refl }
    by_link false = record { offering = Nothing; small = tt; is = refl }

    by_read : (b d : Bool) (o : Option ℕ) → IsOffering (chunk_for (cond b (moved_offer o) (cond d (Some link_target_max) None)))
    by_read true d o = by_moved o
    by_read false d o = by_link d

    by_target : (o : Option CallTarget) → IsOffering (chunk_for (target_offer payload o))
    by_target None = record { offering = Nothing; small = tt; is = refl }
    by_target (Some t) = by_read (is_nfs t.prog t.vers && eqb t.proc READ) (is_nfs t.prog t.vers && eqb t.proc READLINK) (read_count (from_place t.args_at payload))

-- ---- The three shapes

pub data MessageKind : Type 0 where
  Short : MessageKind
  Chunked : (i : Item) → MessageKind
  Long : MessageKind

abbrev pub shape : List ℕ → MessageKind → Option (List ℕ) → Option (List ℕ) → Plan
shape payload Short w r = record { inline = payload; read_at = None; read = []; region = []; write = w; reply = r }
shape payload (Chunked i) w r = record { inline = stream_of payload i; read_at = Some i.pos; read = segments_for i.len; region = moved_of payload i; write = w; reply = r }
shape payload Long w r = record { inline = []; read_at = Some 0; read = segments_for (length payload); region = payload; write = w; reply = r }

abbrev pub IsKind : List ℕ → MessageKind → Type 0
IsKind payload Short = Unit {0}
IsKind payload (Chunked i) = reducible_item Call payload ≡ Some i
IsKind payload Long = Unit {0}

pub record Shaped (payload : List ℕ) (p : Plan) : Type 0 where
  pub kind : MessageKind
  pub is_kind : IsKind payload kind
  pub write : Offering
  pub write_small : IsSmall write
  pub reply : Offering
  pub reply_small : IsSmall reply
  pub is : p ≡ shape payload kind (offered write) (offered reply)

-- a plan with nothing in a read chunk
pub record AnsweredByPlainServer (payload : List ℕ) (p : Plan) : Type 0 where
  pub write : Offering
  pub write_small : IsSmall write
  pub reply : Offering
  pub reply_small : IsSmall reply
  pub is : p ≡ shape payload Short (offered write) (offered reply)

shaped_plain : (payload : List ℕ) (p : Plan) → AnsweredByPlainServer payload p → Shaped payload p
shaped_plain payload p h = record { kind = Short; is_kind = tt; write = h.write; write_small = h.write_small; reply = h.reply; reply_small = h.reply_small; is = h.is }

shaped_reduced : (payload : List ℕ) (p : Plan) → AnsweredByPlainServer payload p → Shaped payload (reduced_plan payload p)
unfolding reduced_plan
shaped_reduced payload p h = by_item (reducible_item Call payload) refl
  where
    by_item : (o : Option Item) → reducible_item Call payload ≡ o → Shaped payload (reduced_plan_by payload p o)
    by_item None e = shaped_plain payload p h
    by_item (Some i) e = record {
      kind = Chunked i;
      is_kind = e;
      write = h.write;
      write_small = h.write_small;
      reply = h.reply;
      reply_small = h.reply_small;
      is = ap (λ (q : Plan). reduced_plan_by payload q (Some i)) h.is;
    }

shaped_long : (payload : List ℕ) (p : Plan) → AnsweredByPlainServer payload p → Shaped payload (long_plan payload p)
shaped_long payload p h = record {
  kind = Long;
  is_kind = tt;
  write = h.write;
  write_small = h.write_small;
  reply = h.reply;
  reply_small = h.reply_small;
  is = ap (λ (q : Plan). long_plan payload q) h.is;
}

shaped_if : (payload : List ℕ) (b : Bool) (p q : Plan) → Shaped payload p → Shaped payload q → Shaped payload (cond b p q)
shaped_if payload true p q h k = h
shaped_if payload false p q h k = k

-- what is offered, and what isn't
plain_none : (payload : List ℕ) → AnsweredByPlainServer payload (inline_plan payload)
plain_none payload = record { write = Nothing; write_small = tt; reply = Nothing; reply_small = tt; is = refl }

plain_reply : (payload : List ℕ) → AnsweredByPlainServer payload (record { inline = payload; read_at = None; read = []; region = []; write = None; reply = Some (segments_for (largest_reply payload)) })
plain_reply payload = record { write = Nothing; write_small = tt; reply = One (largest_reply payload); reply_small = largest_small payload; is = refl }

plain_write : (payload : List ℕ) → AnsweredByPlainServer payload (record { inline = payload; read_at = None; read = []; region = []; write = chunk_for (write_offer payload); reply = None })
plain_write payload =
    let o = write_offering payload in record {
      write = o.offering;
      write_small = o.small;
      reply = Nothing;
      reply_small = tt;
      is = ap (λ (w : Option (List ℕ)). shape payload Short w None) o.is;
    }

plain_offering : (payload : List ℕ) → AnsweredByPlainServer payload (offering payload (write_offer payload) (inline_plan payload))
plain_offering payload = by_offer (write_offer payload) refl
  where
    by_offer : (o : Option ℕ) → write_offer payload ≡ o → AnsweredByPlainServer payload (offering payload o (inline_plan payload))
    by_offer None e = plain_reply payload
    by_offer (Some n) e = subst (λ (w : Option ℕ). AnsweredByPlainServer payload (shape payload Short (chunk_for w) None)) e (plain_write payload)

plain_if : (payload : List ℕ) (b : Bool) (p q : Plan) → AnsweredByPlainServer payload p → AnsweredByPlainServer payload q → AnsweredByPlainServer payload (cond b p q)
plain_if payload true p q h k = h
plain_if payload false p q h k = k

pub shaped : (payload : List ℕ) (form : Form) (up down : ℕ) → IsNotGiven form → Shaped payload (plan_in_form payload form up down)
shaped payload forms.Auto up down own =
    let p : Plan = auto_offer payload down (inline_plan payload) in
    let plain : AnsweredByPlainServer payload p = plain_if payload (leb (HEADER_LEN_MIN + largest_reply payload) down) _ _ (plain_none payload) (plain_offering payload) in
    shaped_if payload (leb (plan_size p) up) _ _ (shaped_plain payload p plain)
    (shaped_if payload (not (eqb (length (reduced_plan payload p).read) 0) && leb (plan_size (reduced_plan payload p)) up) _ _ (shaped_reduced payload p plain) (shaped_long payload p plain))
shaped payload forms.Inline up down own = shaped_plain payload _ (plain_none payload)
shaped payload forms.Chunk up down own = shaped_reduced payload _ (plain_write payload)
shaped payload forms.Long up down own = shaped_long payload _ (plain_reply payload)
shaped payload (forms.Given offer) up down own = absurd own

-- ---- A plan that there is

pub within_ok_lem : {A : Type 0} (need room : ℕ) (answer : Result A TooLarge) (x : A) → within need room answer ≡ Ok x → (need ≤ room) × (answer ≡ Ok x)
within_ok_lem {A} need room answer x e =
    elim (chosen (ltb room need) (Err (record { need = need; room = room })) answer (Ok x) e) [
      | inl h ↦ absurd (let wrong = h.1 in cc)
      | inr h ↦ (grind (arith, h.0), h.1)
    ]

pub record IsPlan (payload : List ℕ) (form : Form) (up down : ℕ) (p : Plan) : Type 0 where
  pub payload_fits : length payload ≤ PAYLOAD_MAX
  pub size_fits : plan_size p ≤ up
  pub shaped : Shaped payload p

given_ok_lem : (form : Form) (answer : Result Plan TooLarge) → IsNotGiven form → given_within form answer ≡ answer
given_ok_lem forms.Auto answer own = refl
given_ok_lem forms.Inline answer own = refl
given_ok_lem forms.Chunk answer own = refl
given_ok_lem forms.Long answer own = refl
given_ok_lem (forms.Given offer) answer own = absurd own

pub is_plan : (payload : List ℕ) (form : Form) (up down : ℕ) (p : Plan) → IsNotGiven form → plan_of payload form up down ≡ Ok p → IsPlan payload form up down p
unfolding plan_of
is_plan payload form up down p own e =
    let q : Plan = plan_in_form payload form up down in
    let a = within_ok_lem (length payload) PAYLOAD_MAX _ p e in
    let b = within_ok_lem (plan_size q) up (Ok q) p (sym (given_ok_lem form (within (plan_size q) up (Ok q)) own) ∙ a.1) in
    let same : q ≡ p = (let s : Ok q ≡ Ok p = b.1 in cc) in record {
      payload_fits = a.0;
      size_fits = subst (λ (r : Plan). plan_size r ≤ up) same b.0;
      shaped = subst (λ (r : Plan). Shaped payload r) same (shaped payload form up down own);
    }
