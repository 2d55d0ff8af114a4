-- The message of any plan reads back as its lists and its stream.
use Rattle.std.proofs.Common.{◌≡◌, ℕ, Bool, true, false, cond, eqb, List, ◌++◌, length, Option, Some, None, Ok, refl, ap, ◌∙◌}
use Rattle.std.proofs.lemmas.List.{drop_at}
use Rattle.nr_header.specs.declared.header.ChunkLists.{ChunkLists}
use Rattle.nr_header.specs.declared.header.Body.TheVariants.{Msg, Nomsg}
use Rattle.nr_header.specs.Header.{header_encoding, HeaderFits}
use Rattle.nr_header.specs.WithinLimits.{CanRead, body_again}
use Rattle.nr_header.proofs.Messages.{header_written}
use Rattle.nr_reduce.specs.declared.call.Form.TheVariants as forms
use Rattle.nr_reduce.specs.declared.call.Offer.{Offer}
use Rattle.nr_reduce.specs.declared.outline.Plan.{Plan}
use Rattle.nr_reduce.specs.Plans.{body_by, lists_of, inline_at, read_stag, call_header, call_message, plan_of}
use Rattle.nr_reduce.specs.Chunks.{Bytes, call_conveyed, read_bytes}
use Rattle.nr_reduce.specs.ChunkBytes.{inline_by, lists_by, ReadsAsPlan}
use Rattle.nr_reduce.specs.PayloadLaws.{given_conveyed}
use Rattle.nr_reduce.proofs.Offers.{offer_conveys}

lists_again : (o : Option ℕ) (ls : ChunkLists) (n : ℕ) → lists_by (body_again (body_by o ls) n) ≡ ls
lists_again None ls n = refl
lists_again (Some position) ls n = by (eqb position 0)
  where
    by : (b : Bool) → lists_by (body_again (cond b (Nomsg ls) (Msg ls 0)) n) ≡ ls
    by true = refl
    by false = refl

stream_again : (head stream : List ℕ) (o : Option ℕ) (ls : ChunkLists) → inline_by (head ++ stream) (body_again (body_by o ls) (length head)) ≡ inline_at o stream
stream_again head stream None ls = ap Some (drop_at head stream (length head) refl)
stream_again head stream (Some position) ls = by (eqb position 0)
  where
    by : (b : Bool) → inline_by (head ++ stream) (body_again (cond b (Nomsg ls) (Msg ls 0)) (length head)) ≡ cond b None (Some stream)
    by true = refl
    by false = ap Some (drop_at head stream (length head) refl)

pub message_again : (xid credit stag : ℕ) (p : Plan) → HeaderFits (call_header xid credit stag p) → CanRead (call_header xid credit stag p).body p.inline
    → ReadsAsPlan p xid credit stag (call_message xid credit stag p)
unfolding call_message
message_again xid credit stag p fits can =
    let head = header_encoding (call_header xid credit stag p) in
    record {
      body = body_again (body_by p.read_at (lists_of stag p)) (length head);
      reads = header_written (call_header xid credit stag p) p.inline fits can;
      lists = lists_again p.read_at (lists_of stag p) (length head);
      stream = stream_again head p.inline p.read_at (lists_of stag p);
    }

pub offer_message : (payload : List ℕ) (offer : Offer) (up down xid credit stag : ℕ) (p : Plan) (memory : Bytes) → plan_of payload (forms.Given offer) up down ≡ Ok p
    → HeaderFits (call_header xid credit stag p) → CanRead (call_header xid credit stag p).body p.inline → memory (read_stag stag p) ≡ p.region
    → (m : ReadsAsPlan p xid credit stag (call_message xid credit stag p))
    × (call_conveyed (inline_by (call_message xid credit stag p) m.body) (lists_by m.body).read (read_bytes memory (lists_by m.body).read) ≡ given_conveyed payload offer.read_at offer.read)
offer_message payload offer up down xid credit stag p memory e fits can holds =
    let m = message_again xid credit stag p fits can in
    (m, (λ i. call_conveyed (m.stream i) (m.lists i).read (read_bytes memory (m.lists i).read)) ∙ offer_conveys payload offer up down stag p memory e holds)
