-- A call that is forwarded with another xid.
use Rattle.std.proofs.Common.{◌≡◌, ℕ, ◌+◌, ◌^◌, ◌<◌, ◌≤◌, true, List, [], ◌∷◌, ◌++◌, length, drop, take, replicate, Option, None, Some, Result, Ok, Err, refl, sym, ap, ◌∙◌, subst, arith, le_refl}
use Rattle.std.specs.Prelude.{is_some}
use Rattle.std.specs.Option.{option_map}
use Rattle.std.proofs.lemmas.Bool.{false≢true}
use Rattle.std.proofs.lemmas.List.{drop_at, length-append, length-drop, length-replicate}
use Rattle.nr_xdr.specs.Item.{IsBytes, Item, Reads, encoding, pad_len, padded, padding, word}
use Rattle.nr_xdr.specs.Item.Item.{Unsigned, Hyper, Boolean, Opaque, Fixed}
use Rattle.nr_xdr.specs.Items.{AllFit, ReadsAll, encodings}
use Rattle.nr_xdr.proofs.WordBytes.{length_word}
use Rattle.nr_rpc.specs.Call.{ReadsCall, call_encoding, call_head, version2_items}
use Rattle.nr_rpc.specs.Credential.{Auth, CredFits, ReadsCred, auth_of, sys_items}
use Rattle.nr_rpc.specs.Reading.{call_of, head_xid, target_of}
use Rattle.nr_rpc.specs.declared.cred.Cred.{Cred}
use Rattle.nr_rpc.specs.declared.cred.Cred.TheVariants as creds
use Rattle.nr_rpc.specs.declared.head.CallHead.{CallHead}
use Rattle.nr_rpc.specs.declared.head.CallHead.TheVariants as calls
use Rattle.nr_rpc.proofs.Calls.{call_begins, call_written}
use Rattle.nr_outside.specs.declared.moment.Moment.{Moment}
use Rattle.nr_reduce.specs.ClientState.{call_payload}
use Rattle.nr_reduce.specs.declared.call.Call.{Call}
use Rattle.nr_reduce.specs.declared.mark.Entry.{Entry as JournalEntry}
use Rattle.nr_plain.specs.Journal.{state_of}
use Rattle.nr_plain.specs.Setup.{Parameters, Setup, State}
use Rattle.nr_plain.specs.Replies.{Answer, answer_by, call_by_cred, cred_refusal, plain_answer, plain_reply, program_call}
use Rattle.nr_gate.proofs.Asked.{can_write}
use Rattle.nr_gate.specs.Forwarding.{Asks, forwarded, forwarded_by, with_xid}
use Rattle.nr_gate_laws.specs.Forwarded.{answer_with_xid}
use Rattle.nr_gate_laws.proofs.Worded.{IsWorded, alike, call_worded}

-- ---- items that were read

all_fit : (items : List Item) (bytes : List ℕ) → ReadsAll items bytes → AllFit items
all_fit [] bytes r = tt
all_fit (item ∷ items) bytes (front, rest, one, others, is) = (one.fits, all_fit items rest others)

-- the length of an item follows from the number of its pad bytes
by_item : (item : Item) (pad zeros : List ℕ) → length pad ≡ length zeros → length (padded item pad) ≡ length (padded item zeros)
by_item (Unsigned n) pad zeros same = refl
by_item (Hyper n) pad zeros same = refl
by_item (Boolean b) pad zeros same = refl
by_item (Opaque bytes) pad zeros same =
    omega (arith, same, length-append (word (length bytes)) (bytes ++ pad), length-append bytes pad, length-append (word (length bytes)) (bytes ++ zeros), length-append bytes zeros)
by_item (Fixed bytes) pad zeros same = omega (arith, same, length-append bytes pad, length-append bytes zeros)

reads_length : (item : Item) (bytes : List ℕ) → Reads item bytes → length bytes ≡ length (encoding item)
reads_length item bytes r =
    ap length r.bytes_are ∙ by_item item r.pad (replicate (padding item) 0) (r.pad_is ∙ sym (length-replicate {A = ℕ} (padding item) 0))

all_length : (items : List Item) (bytes : List ℕ) → ReadsAll items bytes → length bytes ≡ length (encodings items)
all_length [] bytes r = ap length r
all_length (item ∷ items) bytes (front, rest, one, others, is) =
    omega (arith, ap length is, length-append front rest, length-append (encoding item) (encodings items), reads_length item front one, all_length items rest others)

-- ---- a credential that was read takes no more bytes when it is written

cred_fits : (cred : Cred) (auth : Auth) → ReadsCred cred auth → auth.flavor < 2 ^ 32 → CredFits cred
cred_fits creds.None auth r fits = tt
cred_fits (creds.Sys stamp machine uid gid gids) auth r fits = all_fit (sys_items stamp machine uid gid gids) auth.body r.1.items
cred_fits (creds.Other flavor) auth r fits = subst (λ (n : ℕ). n < 2 ^ 32) r.0 fits

body_length : (body : List ℕ) → 4 + length body ≤ length (encoding (Opaque body))
body_length body =
    let zeros : List ℕ = replicate (padding (Opaque body)) 0 in
    omega (arith, length_word (length body), length-append (word (length body)) (body ++ zeros), length-append body zeros)

empty_length : length (encoding (Opaque [])) ≡ 4
unfolding pad_len
empty_length = omega (arith, length-append (word 0) [], length_word 0)

same_body : (a b : List ℕ) → length a ≡ length b → length (encoding (Opaque a)) ≡ length (encoding (Opaque b))
same_body a b same =
    let pads : padding (Opaque a) ≡ padding (Opaque b) = ap (λ (n : ℕ). pad_len n) same in
    let za : List ℕ = replicate (padding (Opaque a)) 0 in
    let zb : List ℕ = replicate (padding (Opaque b)) 0 in
    omega (
      arith,
      same,
      pads,
      length_word (length a),
      length_word (length b),
      length-append (word (length a)) (a ++ za),
      length-append a za,
      length-append (word (length b)) (b ++ zb),
      length-append b zb,
      length-replicate {A = ℕ} (padding (Opaque a)) 0,
      length-replicate {A = ℕ} (padding (Opaque b)) 0,
    )

no_longer_body : (cred : Cred) (auth : Auth) → ReadsCred cred auth → length (encoding (Opaque (auth_of cred).body)) ≤ length (encoding (Opaque auth.body))
no_longer_body creds.None auth r = omega (arith, empty_length, body_length auth.body)
no_longer_body (creds.Sys stamp machine uid gid gids) auth r =
    let same = same_body auth.body (encodings (sys_items stamp machine uid gid gids)) (all_length (sys_items stamp machine uid gid gids) auth.body r.1.items) in
    omega (arith, same)
no_longer_body (creds.Other flavor) auth r = omega (arith, empty_length, body_length auth.body)

words_length : (x prog vers proc flavor vflavor : ℕ) (rpcvers kind : ℕ) (body vbody : List ℕ)
    → length (encodings (Unsigned x ∷ (Unsigned kind ∷ (Unsigned rpcvers ∷ (Unsigned prog ∷ (Unsigned vers ∷ (Unsigned proc ∷ (Unsigned flavor ∷ (Opaque body ∷ (Unsigned vflavor ∷ (Opaque vbody ∷ []))))))))))) ≡
    32 + length (encoding (Opaque body)) + length (encoding (Opaque vbody))
words_length x prog vers proc flavor vflavor rpcvers kind body vbody =
    let b : List ℕ = encoding (Opaque body) in
    let v : List ℕ = encoding (Opaque vbody) in
    let r1 : List ℕ = word vflavor ++ (v ++ []) in
    let r2 : List ℕ = word flavor ++ (b ++ r1) in
    let r3 : List ℕ = word proc ++ r2 in
    let r4 : List ℕ = word vers ++ r3 in
    let r5 : List ℕ = word prog ++ r4 in
    let r6 : List ℕ = word rpcvers ++ r5 in
    let r7 : List ℕ = word kind ++ r6 in
    omega (
      arith,
      length-append (word x) r7,
      length-append (word kind) r6,
      length-append (word rpcvers) r5,
      length-append (word prog) r4,
      length-append (word vers) r3,
      length-append (word proc) r2,
      length-append (word flavor) (b ++ r1),
      length-append b r1,
      length-append (word vflavor) (v ++ []),
      length-append v [],
      length_word x,
      length_word kind,
      length_word rpcvers,
      length_word prog,
      length_word vers,
      length_word proc,
      length_word flavor,
      length_word vflavor,
    )

head_no_longer : (x xid prog vers proc at : ℕ) (cred : Cred) (front : List ℕ) → ReadsCall (calls.Version2 xid prog vers proc cred at) front
    → length (call_head (calls.Version2 x prog vers proc cred at)) ≤ at
head_no_longer x xid prog vers proc at cred front (auth, verifier, body_max, verifier_max, read, items, at_is) =
    let all = all_length (version2_items xid prog vers proc auth verifier) front items in
    let own = words_length x prog vers proc (auth_of cred).flavor 0 2 0 (auth_of cred).body [] in
    let its = words_length xid prog vers proc auth.flavor verifier.flavor 2 0 auth.body verifier.body in
    omega (arith, all, own, its, at_is, no_longer_body cred auth read, empty_length, body_length verifier.body)

pub no_longer : (x : ℕ) (q : List ℕ) → IsBytes q → length (forwarded x q) ≤ length q
no_longer x q bytes = by_head (call_of q) refl where
  by_head : (r : Result CallHead ℕ) → call_of q ≡ r → length (forwarded_by x q r) ≤ length q
  by_head (Ok (calls.Version2 xid prog vers proc cred at)) e =
      let (front, rest, read, is) = call_begins q (calls.Version2 xid prog vers proc cred at) bytes e in
      let head : List ℕ = call_head (calls.Version2 x prog vers proc cred at) in
      let short = head_no_longer x xid prog vers proc at cred front read in
      let (auth, verifier, body_max, verifier_max, cred_read, items, at_is) = read in
      omega (arith, short, at_is, ap length is, length-append front rest, length-append head (drop at q), length-drop at q)
  by_head (Ok (calls.Other xid rpcvers)) e = le_refl (length q)
  by_head (Err at) e = le_refl (length q)

-- it is the payload of the call that the record asks for
pub forwarded_payload : (xid x : ℕ) (asked : Call) (q : List ℕ) → Asks q xid asked → forwarded x q ≡ call_payload x asked
unfolding call_payload
forwarded_payload xid x asked q asks =
    ap (forwarded_by x q) asks.head ∙ ap (λ (l : List ℕ). call_payload x (record asked { args = l })) (sym asks.args)

-- ---- how it is answered

module _ (s : Parameters) (st : State) (m : Moment) (x : ℕ) (q : List ℕ) (bytes : IsBytes q) (fits : x < 2 ^ 32) where
  -- the answer to a call with this head, by its xid
  abbrev answer_with : (prog vers proc : ℕ) (cred : Cred) (args : List ℕ) → ℕ → Answer
  answer_with prog vers proc cred args y = call_by_cred (cred_refusal cred) y (program_call s st y prog vers (record { moment = m; cred = cred; proc = proc; args = args }))

  read_again : (xid prog vers proc at : ℕ) (cred : Cred) → call_of q ≡ Ok (calls.Version2 xid prog vers proc cred at)
      → plain_answer s st m (call_encoding (calls.Version2 x prog vers proc cred at) (drop at q)) ≡ Some (answer_with prog vers proc cred (drop at q) x)
  read_again xid prog vers proc at cred e =
      let (front, rest, read, is) = call_begins q (calls.Version2 xid prog vers proc cred at) bytes e in
      let (auth, verifier, body_max, verifier_max, cred_read, items, at_is) = read in
      let f = all_fit (version2_items xid prog vers proc auth verifier) front items in
      let head : List ℕ = call_head (calls.Version2 x prog vers proc cred at) in
      let args : List ℕ = drop at q in
      let payload : List ℕ = head ++ args in
      let again : call_of payload ≡ Ok (calls.Version2 x prog vers proc cred (length head)) =
      call_written (calls.Version2 x prog vers proc cred at) args (can_write cred auth cred_read) (fits, f.1.1.1.0, f.1.1.1.1.0, f.1.1.1.1.1.0, cred_fits cred auth cred_read f.1.1.1.1.1.1.0) in
      ap (answer_by s st m payload) again ∙ ap (λ (l : List ℕ). Some (answer_with prog vers proc cred l x)) (drop_at head args (length head) refl)

  pub answered_alike : is_some (target_of (call_of q)) ≡ true → plain_answer s st m (forwarded x q) ≡ option_map (answer_with_xid x) (plain_answer s st m q)
  answered_alike two = by_head (call_of q) refl two where
    by_head : (r : Result CallHead ℕ) → call_of q ≡ r → is_some (target_of r) ≡ true → plain_answer s st m (forwarded_by x q r) ≡ option_map (answer_with_xid x) (answer_by s st m q r)
    by_head (Ok (calls.Version2 xid prog vers proc cred at)) e is =
        read_again xid prog vers proc at cred e
        ∙ ap Some (alike (answer_with prog vers proc cred (drop at q)) (call_worded s st (record { moment = m; cred = cred; proc = proc; args = drop at q }) cred prog vers) x xid)
    by_head (Ok (calls.Other xid rpcvers)) e is = absurd (false≢true is)
    by_head (Err at) e is = absurd (false≢true is)

  -- its own xid again
  comes_back : (head : CallHead) → is_some (target_of (call_of q)) ≡ true → call_of q ≡ Ok head
      → option_map (answer_with_xid (head_xid head)) (plain_answer s st m (forwarded x q)) ≡ plain_answer s st m q
  comes_back head two e =
      ap (option_map (answer_with_xid (head_xid head))) (answered_alike two)
      ∙ subst (λ (o : Result CallHead ℕ). option_map (answer_with_xid (head_xid head)) (option_map (answer_with_xid x) (answer_by s st m q o)) ≡ answer_by s st m q o) (sym e)
      (by_head head (ap (λ (o : Result CallHead ℕ). is_some (target_of o)) (sym e) ∙ two)) where
        by_head : (head : CallHead) → is_some (target_of (Ok head)) ≡ true
            → option_map (answer_with_xid (head_xid head)) (option_map (answer_with_xid x) (answer_by s st m q (Ok head))) ≡ answer_by s st m q (Ok head)
        by_head (calls.Version2 xid prog vers proc cred at) is =
            let f = answer_with prog vers proc cred (drop at q) in
            let w : IsWorded f = call_worded s st (record { moment = m; cred = cred; proc = proc; args = drop at q }) cred prog vers in
            ap (λ (a : Answer). Some (answer_with_xid xid a)) (sym (alike f w x xid)) ∙ ap Some (sym (alike f w xid x))
        by_head (calls.Other xid rpcvers) is = absurd (false≢true is)

-- the reply alone
pub replies_map : (x : ℕ) (o : Option Answer) → option_map (λ (a : Answer). a.reply) (option_map (answer_with_xid x) o) ≡ option_map (with_xid x) (option_map (λ (a : Answer). a.reply) o)
replies_map x None = refl
replies_map x (Some a) = refl

-- the reply to the forwarded call, with the xid of the call again, is the reply to the call
pub reply_comes_back : (s : Setup) (J : List JournalEntry) (place : ℕ) (m : Moment) (x : ℕ) (q : List ℕ) (head : CallHead) → IsBytes q → x < 2 ^ 32 → is_some (target_of (call_of q)) ≡ true → call_of q ≡ Ok head
    → option_map (with_xid (head_xid head)) (plain_reply s J place m (forwarded x q)) ≡ plain_reply s J place m q
reply_comes_back s J place m x q head bytes fits two e =
    let st = state_of s (take place J) in
    sym (replies_map (head_xid head) (plain_answer s.parameters st m (forwarded x q)))
    ∙ ap (option_map (λ (a : Answer). a.reply)) (comes_back s.parameters st m x q bytes fits head two e)
