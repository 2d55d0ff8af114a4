-- The xid of a message is its first word.
use Rattle.std.proofs.Common.{◌≡◌, ℕ, ◌^◌, ◌<◌, Bool, true, false, cond, ltb, List, [], ◌++◌, length, drop, Result, Ok, Err, refl, sym, ap, ◌∙◌, append_assoc}
use Rattle.std.proofs.lemmas.List.{take_at}
use Rattle.nr_xdr.specs.Item.{word, word_of}
use Rattle.nr_xdr.specs.Fields.{word_at}
use Rattle.nr_xdr.proofs.WordBytes.{length_word, word_of_word}
use Rattle.nr_header.specs.declared.header.ChunkLists.{ChunkLists}
use Rattle.nr_header.specs.declared.header.Body.{Body}
use Rattle.nr_header.specs.declared.header.Body.TheVariants.{Msg, Nomsg, ErrVers, ErrChunk}
use Rattle.nr_header.specs.declared.header.Header.{Header}
use Rattle.nr_header.specs.declared.fault.HeaderFault.{HeaderFault}
use Rattle.nr_header.specs.declared.fault.HeaderFault.TheVariants as faults
use Rattle.nr_header.specs.Header.{header_encoding, body_items}
use Rattle.nr_xdr.specs.Items.{encodings}
use Rattle.nr_header.specs.Reading.{header_of, header_by, body_by, error_by}
use Rattle.nr_reduce.specs.declared.outline.Plan.{Plan}
use Rattle.nr_reduce.specs.Plans.{call_message, lists_of}
use Rattle.nr_reduce.specs.Plans as plans
use Rattle.nr_reduce.specs.Holds.{Answer, answer_message, answer_body, chunk_error, version_error}

header_by_lem : (xid credit : ℕ) (r : Result Body HeaderFault) (h : Header) → header_by xid credit r ≡ Ok h → xid ≡ h.xid
header_by_lem xid credit (Ok body) h e = (let s : ◌≡◌ {A = Result Header HeaderFault} (Ok (record { xid = xid; credit = credit; body = body })) (Ok h) = e in cc)
header_by_lem xid credit (Err fault) h e = absurd cc

pub header_xid : (message : List ℕ) (h : Header) → header_of message ≡ Ok h → h.xid ≡ word_at 0 message
unfolding header_of
header_xid message h e = by (ltb (length message) 16) (body_by (error_by (word_at 12 message) message) (word_at 4 message) (word_at 12 message) message) e
  where
    by : (b : Bool) (r : Result Body HeaderFault) → cond b (Err faults.Short) (header_by (word_at 0 message) (word_at 8 message) r) ≡ Ok h → h.xid ≡ word_at 0 message
    by true r e = absurd cc
    by false r e = sym (header_by_lem (word_at 0 message) (word_at 8 message) r h e)

pub first_word_lem : (n : ℕ) (rest : List ℕ) → n < 2 ^ 32 → word_at 0 (word n ++ rest) ≡ n
first_word_lem n rest fits = ap word_of (take_at (word n) rest 4 (length_word n)) ∙ word_of_word n fits

record BeginsWith (n : ℕ) (bytes : List ℕ) : Type 0 where
  rest : List ℕ
  is : bytes ≡ word n ++ rest

encoding_begins : (xid credit : ℕ) (body : Body) → BeginsWith xid (header_encoding (record { xid = xid; credit = credit; body = body }))
encoding_begins xid credit (Msg lists at) = record { rest = encodings (drop 1 (body_items xid credit (Msg lists at))); is = refl }
encoding_begins xid credit (Nomsg lists) = record { rest = encodings (drop 1 (body_items xid credit (Nomsg lists))); is = refl }
encoding_begins xid credit (ErrVers version low high) = record { rest = encodings (drop 1 (body_items xid credit (ErrVers version low high))); is = refl }
encoding_begins xid credit (ErrChunk version) = record { rest = encodings (drop 1 (body_items xid credit (ErrChunk version))); is = refl }

pub encoding_xid : (xid credit : ℕ) (body : Body) (stream : List ℕ) → xid < 2 ^ 32 → word_at 0 (header_encoding (record { xid = xid; credit = credit; body = body }) ++ stream) ≡ xid
encoding_xid xid credit body stream fits =
    let b = encoding_begins xid credit body in
    ap (λ (bytes : List ℕ). word_at 0 bytes) (ap (λ (bytes : List ℕ). bytes ++ stream) b.is ∙ append_assoc (word xid) b.rest stream) ∙ first_word_lem xid (b.rest ++ stream) fits

pub call_xid_lem : (xid credit stag : ℕ) (p : Plan) → xid < 2 ^ 32 → word_at 0 (call_message xid credit stag p) ≡ xid
unfolding call_message
call_xid_lem xid credit stag p fits = encoding_xid xid credit (plans.body_by p.read_at (lists_of stag p)) p.inline fits

pub answer_xid : (xid credit : ℕ) (offer : ChunkLists) (a : Answer) → xid < 2 ^ 32 → word_at 0 (answer_message xid credit offer a) ≡ xid
unfolding answer_message
answer_xid xid credit offer a fits = encoding_xid xid credit (answer_body offer a) (cond a.long [] a.stream) fits

pub chunk_error_xid : (xid credit : ℕ) → xid < 2 ^ 32 → word_at 0 (chunk_error xid credit) ≡ xid
unfolding chunk_error
chunk_error_xid xid credit fits = ap (λ (bytes : List ℕ). word_at 0 bytes) (sym (Rattle.std.proofs.Common.append-nil (header_encoding (record { xid = xid; credit = credit; body = ErrChunk 1 })))) ∙ encoding_xid xid credit (ErrChunk 1) [] fits

pub version_error_xid : (xid version credit : ℕ) → xid < 2 ^ 32 → word_at 0 (version_error xid version credit) ≡ xid
unfolding version_error
version_error_xid xid version credit fits = ap (λ (bytes : List ℕ). word_at 0 bytes) (sym (Rattle.std.proofs.Common.append-nil (header_encoding (record { xid = xid; credit = credit; body = ErrVers version 1 1 })))) ∙ encoding_xid xid credit (ErrVers version 1 1) [] fits
