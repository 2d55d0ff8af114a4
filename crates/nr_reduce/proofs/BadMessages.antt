-- For which messages ERR_CHUNK is due: those whose header is bad, and those whose read chunk isn't that of their stream's item.
use Rattle.std.proofs.Common.{◌≡◌, ◌≢◌, ℕ, zero, suc, ◌+◌, ◌≤◌, Bool, true, false, cond, not, ◌||◌, eqb, ltb, List, [], ◌∷◌, length, drop, Option, Some, None, Result, Ok, Err, refl, sym, ap, subst, ◌∙◌, arith, inl, inr, ◌⊎◌, ◌↔◌}
use Rattle.std.specs.List.{list_any}
use Rattle.std.proofs.lemmas.Bool.{eq-eqb, ne_eqb, eqb-true}
use Rattle.std.proofs.lemmas.List.Elements.{recursion_from_All, All-from_recursion}
use Rattle.std.specs.List.{AllByRecursion}
use Rattle.nr_xdr.specs.Fields.{word_at}
use Rattle.nr_xdr.specs.Reading.{Cursor}
use Rattle.nr_header.specs.declared.header.ReadSegment.{ReadSegment}
use Rattle.nr_header.specs.declared.header.ChunkLists.{ChunkLists}
use Rattle.nr_header.specs.declared.header.Body.{Body}
use Rattle.nr_header.specs.declared.header.Body.TheVariants.{Msg, Nomsg, ErrVers, ErrChunk}
use Rattle.nr_header.specs.declared.header.Header.{Header}
use Rattle.nr_header.specs.declared.fault.HeaderFault.{HeaderFault}
use Rattle.nr_header.specs.declared.fault.HeaderFault.TheVariants as faults
use Rattle.nr_header.specs.Reading.{header_of, header_by, in_lists, lists_at, msg_at, nomsg_at, sums_pass, IsBad, HeaderBad, HasNoStream}
use Rattle.nr_header.specs.Kinds.{HasFixedWords}
use Rattle.nr_header.proofs.KindsOfMessages.{msg_is, nomsg_is, msgp_is, above_is}
use Rattle.nr_xdr.proofs.SequencingSteps.{bind_ok, chosen, done, ok_is}
use Rattle.nr_reduce.specs.ChunkBytes.{lists_by}
use Rattle.nr_reduce.proofs.Opens.{IsCall}
use Rattle.nr_reduce.specs.ServerState.{ServerState, PendingCall, is_pending}
use Rattle.nr_reduce.specs.ServerMessages.{Verdict, verdict, by_header, by_body, by_stream, by_need, has_position, no_stream}
use Rattle.nr_reduce.specs.ServerMessages.Verdict.{EndsLink, OtherVersion, BadChunks, MakesPending}
use Rattle.nr_reduce.specs.Chunks.{is_read_chunk_of_item}
use Rattle.nr_reduce.specs.RunLaws.{known_stream, OtherChunk, HasOtherChunk}

is_bad : Verdict → Bool
is_bad (EndsLink reason) = false
is_bad OtherVersion = false
is_bad BadChunks = true
is_bad (MakesPending c) = false

pub need_fine : (k : ServerState) (c : PendingCall) → by_need k c ≡ BadChunks → ⊥
need_fine k c e = by _ e
  where
    by : (b : Bool) → cond b (EndsLink 30) (MakesPending c) ≡ BadChunks → ⊥
    by true e = absurd (let f = ap is_bad e in cc)
    by false e = absurd (let f = ap is_bad e in cc)

-- the stream is known or isn't
stream_bad : (k : ServerState) (lists : ChunkLists) (xid : ℕ) (o : Option (List ℕ)) → by_stream k lists xid o ≡ BadChunks ↔ OtherChunk lists o
stream_bad k lists xid None = ((λ e. need_fine k _ e), λ e. absurd e)
stream_bad k lists xid (Some stream) = by (is_read_chunk_of_item stream lists.read)
  where
    by : (b : Bool) → cond b (by_need k (record { number = k.received.sends + 1; xid = xid; lists = lists; inline = Some stream })) BadChunks ≡ BadChunks ↔ b ≡ false
    by true = ((λ e. absurd (need_fine k _ e)), λ e. absurd cc)
    by false = ((λ e. refl), λ e. refl)

none_at : (read : List ReadSegment) → list_any (λ r. eqb r.position 0) read ≡ false → AllByRecursion (λ r. r.position ≢ 0) read
none_at [] e = tt
none_at (r ∷ read) e = by (eqb r.position 0) refl e (λ h. none_at read h)
  where
    by : (b : Bool) → eqb r.position 0 ≡ b → (b || list_any (λ r. eqb r.position 0) read) ≡ false → (list_any (λ r. eqb r.position 0) read ≡ false → AllByRecursion (λ r. r.position ≢ 0) read)
        → (r.position ≢ 0) × AllByRecursion (λ r. r.position ≢ 0) read
    by true is e rest = absurd cc
    by false is e rest = ((λ z. absurd (let yes = eq-eqb r.position 0 z in cc)), rest e)

some_at : (read : List ReadSegment) → list_any (λ r. eqb r.position 0) read ≡ true → AllByRecursion (λ r. r.position ≢ 0) read → ⊥
some_at [] e h = absurd cc
some_at (r ∷ read) e h = by (eqb r.position 0) refl e (λ g. some_at read g h.1)
  where
    by : (b : Bool) → eqb r.position 0 ≡ b → (b || list_any (λ r. eqb r.position 0) read) ≡ true → (list_any (λ r. eqb r.position 0) read ≡ true → ⊥) → ⊥
    by true is e rest = h.0 (eqb-true r.position 0 is)
    by false is e rest = rest e

or_right_lem : {A B C : Type 0} → (A → ⊥) → (B → C) → A ⊎ B → C
or_right_lem never f (inl a) = absurd (never a)
or_right_lem never f (inr b) = f b

body_bad : (k : ServerState) (xid : ℕ) (message : List ℕ) (b : Body) → IsCall b → by_body k xid message b ≡ BadChunks ↔ (HasNoStream b ⊎ OtherChunk (lists_by b) (known_stream message b))
body_bad k xid message (Msg ls at) is =
    let s = stream_bad k ls xid (Some (drop at message)) in
    ((λ e. inr (s.0 e)), or_right_lem (λ a. a) s.1)
body_bad k xid message (Nomsg ls) is = by (has_position ls.read) refl
  where
    by : (b : Bool) → has_position ls.read ≡ b → cond b (by_stream k ls xid (no_stream ls.read)) BadChunks ≡ BadChunks ↔ (HasNoStream (Nomsg ls) ⊎ OtherChunk ls (no_stream ls.read))
    by true there =
        let s = stream_bad k ls xid (no_stream ls.read) in
        ((λ e. inr (s.0 e)), or_right_lem (λ all. some_at ls.read there (recursion_from_All (λ (r : ReadSegment). r.position ≢ 0) ls.read all)) s.1)
    by false none = ((λ e. inl (All-from_recursion (λ (r : ReadSegment). r.position ≢ 0) ls.read (none_at ls.read none))), λ h. refl)
body_bad k xid message (ErrVers version low high) is = absurd is
body_bad k xid message (ErrChunk version) is = absurd is

-- ---- The header

abbrev Judged : ServerState → List ℕ → Result Header HeaderFault → Type 0
Judged k message r = by_header k message r ≡ BadChunks ↔ (IsBad r ⊎ HasOtherChunk message r)

lists_judged : (k : ServerState) (message : List ℕ) (xid credit : ℕ) (v : Result Body ℕ) → ((b : Body) → v ≡ Ok b → IsCall b) → Judged k message (header_by xid credit (in_lists v))
lists_judged k message xid credit (Ok b) h = body_bad k xid message b (h b refl)
lists_judged k message xid credit (Err at) h = ((λ e. inl tt), λ g. refl)

msg_call : (c : Cursor) (b : Body) → msg_at c ≡ Ok b → IsCall b
unfolding msg_at
msg_call c b e =
    let lists = bind_ok (lists_at false c) _ b e in
    elim (chosen (sums_pass lists.0.0 (length lists.0.1.rest)) (Err lists.0.1.place) (Ok (Msg lists.0.0 lists.0.1.place)) (Ok b) lists.2) [
      | inl above ↦ absurd (let wrong : Err lists.0.1.place ≡ done b = above.1 in cc)
      | inr within ↦ subst IsCall (ok_is (Msg lists.0.0 lists.0.1.place) b within.1) tt
    ]

nomsg_call : (c : Cursor) (b : Body) → nomsg_at c ≡ Ok b → IsCall b
unfolding nomsg_at
nomsg_call c b e =
    let lists = bind_ok (lists_at true c) _ b e in
    elim (chosen (sums_pass lists.0.0 0 || ltb 0 (length lists.0.1.rest)) (Err lists.0.1.place) (Ok (Nomsg lists.0.0)) (Ok b) lists.2) [
      | inl above ↦ absurd (let wrong : Err lists.0.1.place ≡ done b = above.1 in cc)
      | inr within ↦ subst IsCall (ok_is (Nomsg lists.0.0) b within.1) tt
    ]

bad_judged : (k : ServerState) (message : List ℕ) (fault : HeaderFault) → header_of message ≡ Err fault → HeaderBad message → Judged k message (header_of message)
bad_judged k message fault is bad = ((λ e. inl bad), λ h. ap (λ (r : Result Header HeaderFault). by_header k message r) is)

by_kind : (k : ServerState) (message : List ℕ) (kind : ℕ) → HasFixedWords 1 kind message → kind ≢ 3 → kind ≢ 4 → Judged k message (header_of message)
by_kind k message zero h d error =
    subst (λ (r : Result Header HeaderFault). Judged k message r) (sym (msg_is message h)) (lists_judged k message (word_at 0 message) (word_at 8 message) _ (msg_call (record { place = 16; rest = drop 16 message })))
by_kind k message (suc zero) h d error =
    subst (λ (r : Result Header HeaderFault). Judged k message r) (sym (nomsg_is message h)) (lists_judged k message (word_at 0 message) (word_at 8 message) _ (nomsg_call (record { place = 16; rest = drop 16 message })))
by_kind k message (suc (suc zero)) h d error = (let m = msgp_is message h in bad_judged k message (faults.Kind 2) m.0 m.1)
by_kind k message (suc (suc (suc zero))) h d error = absurd (d refl)
by_kind k message (suc (suc (suc (suc zero)))) h d error = absurd (error refl)
by_kind k message (suc (suc (suc (suc (suc n))))) h d error =
    let m = above_is (suc (suc (suc (suc (suc n))))) message h (omega arith) in
    bad_judged k message (faults.Kind (suc (suc (suc (suc (suc n)))))) m.0 m.1

pub bad_refused : (k : ServerState) (message : List ℕ) → 16 ≤ length message → word_at 4 message ≡ 1 → word_at 12 message ≢ 3 → word_at 12 message ≢ 4 → is_pending k (word_at 0 message) ≡ false →
    verdict k message ≡ BadChunks ↔ (HeaderBad message ⊎ HasOtherChunk message (header_of message))
unfolding verdict
bad_refused k message long version d error free =
    let judged = by_kind k message (word_at 12 message) (record { long = long; version_is = version; kind_is = refl }) d error in
    let same : verdict k message ≡ by_header k message (header_of message) =
    ap (λ (b : Bool). cond (not b) OtherVersion (cond (eqb (word_at 12 message) 3 || eqb (word_at 12 message) 4) (EndsLink 17) (cond (is_pending k (word_at 0 message)) (EndsLink 20) (by_header k message (header_of message))))) (eq-eqb (word_at 4 message) 1 version)
    ∙ (λ i. cond (ne_eqb (word_at 12 message) 3 d i || ne_eqb (word_at 12 message) 4 error i) (EndsLink 17) (cond (is_pending k (word_at 0 message)) (EndsLink 20) (by_header k message (header_of message))))
    ∙ ap (λ (b : Bool). cond b (EndsLink 20) (by_header k message (header_of message))) free in
    ((λ e. judged.0 (sym same ∙ e)), λ h. same ∙ judged.1 h)
