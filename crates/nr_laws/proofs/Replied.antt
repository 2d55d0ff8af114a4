-- What kind of message brought an outcome: a reply was brought by the answer of an executed call.
use Rattle.std.proofs.Common.{◌≡◌, ℕ, zero, suc, ◌+◌, ◌<◌, Bool, true, false, cond, ◌&&◌, eqb, ltb, List, [], ◌∷◌, ◌++◌, length, take, drop, Option, None, Some, Result, Ok, Err, refl, sym, ap, subst, ◌∙◌, arith}
use Rattle.nr_xdr.specs.Item.{word, word_of}
use Rattle.nr_xdr.specs.Fields.{word_at}
use Rattle.nr_xdr.proofs.WordBytes.{length_word}
use Rattle.nr_wire.specs.declared.hello.Side.TheVariants.{Responder}
use Rattle.nr_header.specs.declared.header.Body.{Body}
use Rattle.nr_header.specs.declared.header.Body.TheVariants.{Msg, Nomsg, ErrVers, ErrChunk}
use Rattle.nr_header.specs.declared.header.Header.{Header}
use Rattle.nr_header.specs.declared.fault.HeaderFault.{HeaderFault}
use Rattle.nr_header.specs.declared.fault.HeaderFault.TheVariants as faults
use Rattle.nr_header.specs.Header.{body_items}
use Rattle.nr_xdr.specs.Items.{encodings}
use Rattle.nr_header.specs.Reading.{header_of, header_by, body_by, error_by, error_of, version1_of}
use Rattle.nr_reduce.specs.declared.call.Outcome.TheVariants as outcomes
use Rattle.nr_reduce.specs.declared.mark.Mark.{Mark}
use Rattle.nr_reduce.specs.declared.mark.Mark.TheVariants as marks
use Rattle.nr_reduce.specs.declared.mark.LinkParameters.{LinkParameters}
use Rattle.nr_reduce.specs.Events.{events}
use Rattle.nr_reduce.specs.ClientState.{ClientState, OutstandingCall}
use Rattle.nr_reduce.specs.ClientMessages.{reply_verdict, reply_by_body}
use Rattle.nr_reduce.specs.ClientMessages.ReplyVerdict.{GivesOutcome}
use Rattle.nr_reduce.specs.Holds.{chunk_error, version_error}
use Rattle.nr_reduce.specs.RunLaws.{server_by}
use Rattle.nr_reduce.specs.Server.{offer_of}
use Rattle.nr_reduce.specs.ServerState.{credit_word}
use Rattle.nr_laws.specs.MatchedSoFar.{MatchedSoFar}
use Rattle.nr_laws.specs.Typed.{IsTyped}
use Rattle.nr_laws.proofs.HeaderXid.{answer_xid, first_word_lem}
use Rattle.nr_laws.proofs.ServerOutputs.{IsError}
use Rattle.nr_laws.proofs.ServerOutputs.IsError.{OfChunks, OfVersion}
use Rattle.nr_laws.proofs.ServerAlong.{Said, SaidAnswer}
use Rattle.nr_laws.proofs.ServerAlong.Said.{IsRefusal, IsAnswer, IsNoAnswer}
use Rattle.nr_laws.proofs.Outcomes.{client_by}
use Rattle.nr_laws.proofs.DoneCalls.{gives_by, AnsweredBy, answered_by_lem, verdict_xid}
use Rattle.nr_laws.proofs.Following.{DoneAt, done_at}

-- ---- The kind of an error message

drop_behind : (n : ℕ) (xs ys : List ℕ) (k : ℕ) → n ≡ length xs + k → drop n (xs ++ ys) ≡ drop k ys
drop_behind n [] ys k e = ap (λ (i : ℕ). drop i ys) (let s : n ≡ k = omega (arith, e) in s)
drop_behind zero (x ∷ xs) ys k e = absurd (omega (arith, e))
drop_behind (suc n) (x ∷ xs) ys k e = drop_behind n xs ys k (omega (arith, e))

pub word_behind_lem : (n m k : ℕ) (rest : List ℕ) → m ≡ 4 + k → word_at m (word n ++ rest) ≡ word_at k rest
word_behind_lem n m k rest e =
    let l = length_word n in
    ap (λ (bytes : List ℕ). word_of (take 4 bytes)) (drop_behind m (word n) rest k (omega (arith, e, l)))

pub kind_word : (a b c d : ℕ) (rest : List ℕ) → d < 4294967296 → word_at 12 (word a ++ (word b ++ (word c ++ (word d ++ rest)))) ≡ d
kind_word a b c d rest fits =
    word_behind_lem a 12 8 (word b ++ (word c ++ (word d ++ rest))) (omega arith) ∙ word_behind_lem b 8 4 (word c ++ (word d ++ rest)) (omega arith) ∙ word_behind_lem c 4 0 (word d ++ rest) (omega arith) ∙ first_word_lem d rest fits

pub error_kind : (m : List ℕ) → IsError m → word_at 12 m ≡ 4
unfolding chunk_error version_error
error_kind m (OfChunks xid credit is) = ap (λ (x : List ℕ). word_at 12 x) is ∙ kind_word xid 1 credit 4 (encodings (drop 4 (body_items xid credit (ErrChunk 1)))) (omega arith)
error_kind m (OfVersion xid version credit is) = ap (λ (x : List ℕ). word_at 12 x) is ∙ kind_word xid version credit 4 (encodings (drop 4 (body_items xid credit (ErrVers version 1 1)))) (omega arith)

pub data IsErrorBody : Body → Type 0 where
  OtherVersions : (version low high : ℕ) → IsErrorBody (ErrVers version low high)
  NoChunks : (version : ℕ) → IsErrorBody (ErrChunk version)

pub same_body_lem : (x credit : ℕ) (b : Body) (h : Header) → ◌≡◌ {A = Result Header HeaderFault} (Ok (record { xid = x; credit = credit; body = b })) (Ok h) → b ≡ h.body
same_body_lem x credit b h e = cc

error_body_lem : (m : List ℕ) (b : Body) → error_of m ≡ Some b → IsErrorBody b
error_body_lem m b e = by (eqb (length m) 28 && eqb (word_at 16 m) 1) (eqb (length m) 20 && eqb (word_at 16 m) 2) e
  where
    by : (c d : Bool) → cond c (Some (ErrVers (word_at 4 m) (word_at 20 m) (word_at 24 m))) (cond d (Some (ErrChunk (word_at 4 m))) None) ≡ Some b → IsErrorBody b
    by true d e = subst IsErrorBody (let s : Some (ErrVers (word_at 4 m) (word_at 20 m) (word_at 24 m)) ≡ Some b = e in cc) (OtherVersions (word_at 4 m) (word_at 20 m) (word_at 24 m))
    by false true e = subst IsErrorBody (let s : Some (ErrChunk (word_at 4 m)) ≡ Some b = e in cc) (NoChunks (word_at 4 m))
    by false false e = absurd cc

pub error_read : (m : List ℕ) (h : Header) → word_at 12 m ≡ 4 → header_of m ≡ Ok h → error_of m ≡ Some h.body
unfolding header_of body_by version1_of
error_read m h kind is =
    by (ltb (length m) 16) (ap (λ (k : ℕ). cond (ltb (length m) 16) (Err faults.Short) (header_by (word_at 0 m) (word_at 8 m) (body_by (error_by k m) (word_at 4 m) k m))) (sym kind) ∙ is)
  where
    by_version : (b : Bool) → header_by (word_at 0 m) (word_at 8 m) (cond b (version1_of 4 m) (Err (faults.Version (word_at 4 m)))) ≡ Ok h → error_of m ≡ Some h.body
    by_version true e = absurd cc
    by_version false e = absurd cc

    by_error : (o : Option Body) → error_of m ≡ o → header_by (word_at 0 m) (word_at 8 m) (body_by o (word_at 4 m) 4 m) ≡ Ok h → error_of m ≡ Some h.body
    by_error None own e = by_version (eqb (word_at 4 m) 1) e
    by_error (Some b) own e = own ∙ ap (λ (x : Body). Some x) (same_body_lem (word_at 0 m) (word_at 8 m) b h e)

    by : (b : Bool) → cond b (Err faults.Short) (header_by (word_at 0 m) (word_at 8 m) (body_by (error_of m) (word_at 4 m) 4 m)) ≡ Ok h → error_of m ≡ Some h.body
    by true e = absurd cc
    by false e = by_error (error_of m) refl e

pub error_header : (m : List ℕ) (h : Header) → word_at 12 m ≡ 4 → header_of m ≡ Ok h → IsErrorBody h.body
error_header m h kind is = error_body_lem m h.body (error_read m h kind is)

-- an error message brings no reply
pub error_no_reply : (k : ClientState) (place : ℕ) (m : List ℕ) (xid : ℕ) (p : List ℕ) → word_at 12 m ≡ 4 → reply_verdict k place m ≡ GivesOutcome xid (Some (outcomes.Reply p)) → ⊥
error_no_reply k place m xid p kind e =
    let g = gives_by k place m xid (Some (outcomes.Reply p)) e in
    by g.call g.header.body (error_header m g.header kind g.is_header) g.by_its_body
  where
    by : (o : OutstandingCall) (b : Body) → IsErrorBody b → reply_by_body k place o m b ≡ GivesOutcome xid (Some (outcomes.Reply p)) → ⊥
    by o (ErrVers version low high) (OtherVersions v l u) e = absurd cc
    by o (ErrChunk version) (NoChunks v) e = absurd cc
    by o (Msg lists at) w e = elim w [ ]
    by o (Nomsg lists) w e = elim w [ ]

-- ---- A reply that was handed over

-- An Execute of its xid on its link stands before it, and the message that brought it is the answer of that.
pub record RepliedBy (opened : LinkParameters) (link : ℕ) (before : List Mark) (xid : ℕ) (p : List ℕ) : Type 0 where
  pub done : DoneAt opened link before xid (outcomes.Reply p)
  pub answer : SaidAnswer opened (events link Responder before) done.said.before done.said.given.message
  pub by : AnsweredBy opened link before answer.call answer.earlier
  pub own : answer.call.xid ≡ xid

pub replied_by_lem : (opened : LinkParameters) (link : ℕ) (run before after : List Mark) (xid : ℕ) (p : List ℕ) → IsTyped run → MatchedSoFar opened link run → run ≡ before ++ marks.Done link xid (outcomes.Reply p) ∷ after → RepliedBy opened link before xid p
replied_by_lem opened link run before after xid p typed far is = by d.said.said
  where
    d : DoneAt opened link before xid (outcomes.Reply p)
    d = done_at opened link run before after xid (outcomes.Reply p) typed far is

    k : ClientState
    k = (client_by opened d.said.given.earlier).state

    place : ℕ
    place = d.said.given.frame.end

    own_xid : xid ≡ word_at 0 d.said.given.message
    own_xid = verdict_xid k place d.said.given.message xid (Some (outcomes.Reply p)) d.said.given.given

    by : Said opened (events link Responder before) d.said.before d.said.given.message → RepliedBy opened link before xid p
    by (IsRefusal s) = absurd (error_no_reply k place d.said.given.message xid p (error_kind d.said.given.message s.kind) d.said.given.given)
    by (IsNoAnswer s) = absurd (error_no_reply k place d.said.given.message xid p (error_kind d.said.given.message (OfChunks s.call.xid (credit_word (server_by opened s.earlier)) s.message)) d.said.given.given)
    by (IsAnswer s) =
        let a = answered_by_lem opened link before d.typed d.far s.earlier s.call s.later s.is in
        let f = a.fits in
        record {
          done = d;
          answer = s;
          by = a;
          own = sym (answer_xid s.call.xid (credit_word (server_by opened s.earlier)) (offer_of (server_by opened s.earlier) s.call.xid) s.answer (omega (arith, f)))
              ∙ ap (λ (x : List ℕ). word_at 0 x) (sym s.message) ∙ sym own_xid;
        }
