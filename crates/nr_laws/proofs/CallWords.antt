-- The first words of a call's message: its xid, the version, and a kind that a client sends (RFC 8166 section 4.2).
use Rattle.std.proofs.Common.{◌≡◌, ℕ, ◌≤◌, ◌<◌, ◌^◌, Bool, true, false, cond, eqb, List, [], ◌++◌, length, Option, Some, None, refl, sym, ap, subst, ◌∙◌, arith, length-append, append_assoc}
use Rattle.nr_xdr.specs.Item.{word, word_of}
use Rattle.nr_xdr.specs.Items.{encodings}
use Rattle.nr_xdr.specs.Fields.{word_at}
use Rattle.nr_xdr.proofs.WordBytes.{length_word, word_of_word}
use Rattle.nr_header.specs.declared.header.ChunkLists.{ChunkLists}
use Rattle.nr_header.specs.declared.header.Body.TheVariants.{Msg, Nomsg}
use Rattle.nr_header.specs.Header.{header_encoding, lists_items}
use Rattle.nr_reduce.specs.declared.outline.Plan.{Plan}
use Rattle.nr_reduce.specs.Plans.{call_message, body_by, lists_of}
use Rattle.nr_laws.proofs.RequestFields.{part_at}

pub record CallWords (xid : ℕ) (message : List ℕ) : Type 0 where
  pub xid_is : word_at 0 message ≡ xid
  pub version : word_at 4 message ≡ 1
  pub kind : word_at 12 message ≤ 1

word_behind : (n : ℕ) (front : List ℕ) (x : ℕ) (rest : List ℕ) → length front ≡ n → x < 2 ^ 32 → word_at n (front ++ (word x ++ rest)) ≡ x
word_behind n front x rest len lt = ap word_of (part_at n 4 front (word x) rest len (length_word x)) ∙ word_of_word x lt

words : (a b c d : ℕ) (rest : List ℕ) → a < 2 ^ 32 → b ≡ 1 → d ≤ 1 → CallWords a (word a ++ (word b ++ (word c ++ (word d ++ rest))))
words a b c d rest lt one le =
    let two = word a ++ word b in
    let three = two ++ word c in
    let len2 : length two ≡ 8 = omega (arith, length-append (word a) (word b), length_word a, length_word b) in
    let len3 : length three ≡ 12 = omega (arith, length-append two (word c), len2, length_word c) in
    let as2 : word a ++ (word b ++ (word c ++ (word d ++ rest))) ≡ two ++ (word c ++ (word d ++ rest)) = sym (append_assoc (word a) (word b) (word c ++ (word d ++ rest))) in
    let as3 = as2 ∙ sym (append_assoc two (word c) (word d ++ rest)) in
    let kind : word_at 12 (word a ++ (word b ++ (word c ++ (word d ++ rest)))) ≡ d = ap (λ (xs : List ℕ). word_at 12 xs) as3 ∙ word_behind 12 three d rest len3 (omega (arith, le)) in
    record {
      xid_is = word_behind 0 [] a (word b ++ (word c ++ (word d ++ rest))) refl lt;
      version = word_behind 4 (word a) b (word c ++ (word d ++ rest)) (length_word a) (omega (arith, one)) ∙ one;
      kind = omega (arith, kind, le);
    }

body_words : (xid credit : ℕ) (lists : ChunkLists) (kind : ℕ) (stream : List ℕ) → xid < 2 ^ 32 → kind ≤ 1
    → CallWords xid ((word xid ++ (word 1 ++ (word credit ++ (word kind ++ encodings (lists_items lists))))) ++ stream)
body_words xid credit lists kind stream lt le =
    let rest = encodings (lists_items lists) in
    subst (CallWords xid)
    (sym (append_assoc (word xid) (word 1 ++ (word credit ++ (word kind ++ rest))) stream
    ∙ ap (λ (xs : List ℕ). word xid ++ xs)
    (append_assoc (word 1) (word credit ++ (word kind ++ rest)) stream
    ∙ ap (λ (xs : List ℕ). word 1 ++ xs) (append_assoc (word credit) (word kind ++ rest) stream ∙ ap (λ (xs : List ℕ). word credit ++ xs) (append_assoc (word kind) rest stream)))))
    (words xid 1 credit kind (rest ++ stream) lt refl le)

pub call_words_lem : (xid credit stag : ℕ) (p : Plan) → xid < 2 ^ 32 → CallWords xid (call_message xid credit stag p)
unfolding call_message
call_words_lem xid credit stag p lt = by p.read_at
  where
    lists : ChunkLists
    lists = lists_of stag p

    choose : (b : Bool) → CallWords xid (header_encoding (record { xid = xid; credit = credit; body = cond b (Nomsg lists) (Msg lists 0) }) ++ p.inline)
    choose true = body_words xid credit lists 1 p.inline lt (omega arith)
    choose false = body_words xid credit lists 0 p.inline lt (omega arith)

    by : (position : Option ℕ) → CallWords xid (header_encoding (record { xid = xid; credit = credit; body = body_by position lists }) ++ p.inline)
    by None = body_words xid credit lists 0 p.inline lt (omega arith)
    by (Some position) = choose (eqb position 0)
