-- What a command gives that opened a session, whatever its server does: an end that is read of an outcome is that of a call which was answered with it.
use Rattle.std.proofs.Common.{◌≡◌, ◌≤◌, ℕ, Bool, true, false, cond, eqb, ltb, List, [], ◌∷◌, ◌⊎◌, take, drop, Option, None, Some, Result, Ok, Err, inl, inr, refl, sym, ap, subst, ◌∙◌, arith, eqb-true, ltb-false, length-drop}
use Rattle.std.specs.Prelude.{◌==◌, ◌||◌, nat_lt, length}
use Rattle.nr_outside.specs.Faults.{Rises}
use Rattle.nr_outside.specs.Streams.{SinkAt, SourceAt}
use Rattle.nr_nfs_base.specs.Attributes.{attributes_codec}
use Rattle.nr_xdr.specs.Item.{word_of}
use Rattle.nr_xdr.specs.Reading.{Cursor, cursor_past, unsigned_at}
use Rattle.nr_xdr.specs.Sequencing.{◌>>=◌, or_place}
use Rattle.nr_xdr.specs.declared.fault.ItemFault.{ItemFault}
use Rattle.nr_xdr.specs.declared.fault.ItemFault.TheVariants.{Short}
use Rattle.nr_nfs_base.specs.Codec.{Codec, arm_value, enumeration, optional, value_at_end, value_or_fault, value_with_number, void, word}
use Rattle.nr_nfs_base.specs.MountStatus.{mount_status_number, mount_statuses}
use Rattle.nr_nfs_base.specs.Status.{status_number, statuses}
use Rattle.nr_nfs_base.specs.StatusUnion.{status_tag_number, status_tags, status_union_codec, status_union_read, status_union_tag}
use Rattle.nr_nfs_base.specs.WeakCache.{wcc_data_codec}
use Rattle.nr_nfs_base.specs.declared.mount_status.MountStatus.{MountStatus}
use Rattle.nr_nfs_base.specs.declared.status.Status.{Status}
use Rattle.nr_nfs_base.specs.declared.status_union.StatusUnion.{StatusUnion}
use Rattle.nr_nfs_base.specs.declared.status_union.StatusUnion.TheVariants.{Done, Failed}
use Rattle.nr_nfs_res.specs.Bytes.{read_ok_codec, write_ok_codec}
use Rattle.nr_nfs_res.specs.Create.{create_ok_codec}
use Rattle.nr_nfs_res.specs.Lookup.{lookup_ok_codec, readlink_ok_codec}
use Rattle.nr_nfs_res.specs.Mount.{mount_ok_codec}
use Rattle.nr_nfs_res.specs.Readdir.{ReaddirOk, readdir_ok_codec}
use Rattle.nr_nfs_res.specs.declared.bytes.ReadOk.{ReadOk}
use Rattle.nr_nfs_res.specs.declared.bytes.WriteOk.{WriteOk}
use Rattle.nr_nfs_res.specs.declared.create.CreateOk.{CreateOk}
use Rattle.nr_nfs_res.specs.declared.lookup.LookupOk.{LookupOk}
use Rattle.nr_nfs_res.specs.declared.mount.MountOk.{MountOk}
use Rattle.nr_rpc.specs.declared.head.ReplyHead.{ReplyHead}
use Rattle.nr_rpc.specs.declared.head.ReplyHead.TheVariants as heads
use Rattle.nr_rpc.specs.Reading.{reply_of}
use Rattle.nr_reduce.specs.declared.call.Call.{Call}
use Rattle.nr_reduce.specs.declared.call.Outcome.{Outcome}
use Rattle.nr_reduce.specs.declared.call.Outcome.TheVariants as outcomes
use Rattle.nr_reduce.specs.declared.mark.LinkParameters.{LinkParameters}
use Rattle.nr_reduce.specs.Opening.{IsOpened}
use Rattle.nr_words.specs.Lines.{Text}
use Rattle.nr_words.specs.declared.commands.Client.{Client}
use Rattle.nr_client.specs.declared.client_end.ClientEnd.{ClientEnd}
use Rattle.nr_client.specs.declared.client_end.ClientEnd.TheVariants as client
use Rattle.nr_client.specs.declared.client_end.RpcKind.TheVariants as kinds
use Rattle.nr_client.specs.Dialing.{DialerAt}
use Rattle.nr_client.specs.Following.Next.{Returns}
use Rattle.nr_client.specs.Listing.{entries_max, eof_offset, is_stuck, no_progress, readdir_call}
use Rattle.nr_client.specs.Reading.{OpenRead, checked_read, is_bad_read, read_call, read_result, results_offset}
use Rattle.nr_client.specs.Requests.{create_result, getattr_call, getattr_result, handle_of, lookup_call, lookup_result, mkdir_call, mnt_call, mnt_result, nfs_reads, readlink_call, readlink_result, remove_call, remove_result, symlink_call}
use Rattle.nr_client.specs.Results.{mount_done, nfs_done, result_by_head, result_by_reading, result_of_outcome, results_in, results_or}
use Rattle.nr_client.specs.Walking.{object_in, object_result}
use Rattle.nr_client.specs.Writing.{checked_write, create_call, created_file, created_handle, handle_or, write_call, write_result}
use Rattle.nr_link.specs.Agreement.{default_terms}
use Rattle.nr_link.specs.declared.agreement.SideTerms.{SideTerms}
use Rattle.nr_commands.specs.Running.{Opens, Prints as PrintsAll, terms_of}
use Rattle.nr_commands.specs.Sessions.{SessionAt}
use Rattle.nr_service_laws.specs.CommandEnds.{IsReplyOutcome}
use Rattle.nr_service_laws.specs.Exchanges.{Exchange, tells_text}
use Rattle.nr_service_laws.specs.Exchanges.Exchange.{Answered, Forgotten, GivenUp, HandedOver, Submitted}
use Rattle.nr_service_laws.specs.PeerEnds.{IsBadPath, PassesLimit}
use Rattle.nr_service_laws.specs.PeerEnds.PassesLimit.{ExportIsLong, InputIsLong, ListIsLong, TargetIsLong}
use Rattle.nr_service_laws.specs.ReplyEnds.{EndsByOutcome, EndsCall, HasStatus, IsAnsweredBy, IsHandedOver, SaysInOutcome, SaysInReply}
use Rattle.nr_service_laws.specs.ReplyEnds.EndsCall.{EndsCreate, EndsGetattr, EndsLookup, EndsMkdir, EndsMnt, EndsRead, EndsReaddir, EndsReadlink, EndsRemove, EndsSymlink, EndsWrite}
use Rattle.nr_service_laws.proofs.Judged.{Any, IsReadEnd, Judgement, ReaddirEnds, ResultIs, either_is}
use Rattle.nr_service_laws.proofs.JudgedCommands.{WordsGive, opened_is}
use Rattle.nr_service_laws.proofs.JudgedParts.{AreJudged, GivenIs, IsOf}

-- ---- What a reply says

-- a status in its results
abbrev SaysStatus : Outcome → ℕ → Type 0
SaysStatus (outcomes.Reply payload) status = HasStatus payload status
SaysStatus outcome status = ⊥

-- a value that is read of a reply
abbrev Begun : {D W S : Type 0} → Outcome → (S → ℕ) → StatusUnion D W S → Type 0
Begun outcome number (Done results) = IsReplyOutcome outcome
Begun outcome number (Failed status part) = SaysStatus outcome (number status)

nfs_says : (o : Outcome) (status : Status) → SaysStatus o (status_number status) → SaysInOutcome o (client.Nfs status)
nfs_says (outcomes.Reply payload) status has = has
nfs_says outcomes.Chunk status has = absurd has
nfs_says (outcomes.Version low high) status has = absurd has

mount_says : (o : Outcome) (status : MountStatus) → SaysStatus o (mount_status_number status) → SaysInOutcome o (client.Mount status)
mount_says (outcomes.Reply payload) status has = has
mount_says outcomes.Chunk status has = absurd has
mount_says (outcomes.Version low high) status has = absurd has

stuck_says : (o : Outcome) (at : ℕ) → IsReplyOutcome o → SaysInOutcome o (client.BadReply at no_progress)
stuck_says (outcomes.Reply payload) at is = inr refl
stuck_says outcomes.Chunk at is = absurd is
stuck_says (outcomes.Version low high) at is = absurd is

long_says : (o : Outcome) → IsReplyOutcome o → SaysInOutcome o (client.Budget entries_max)
long_says (outcomes.Reply payload) is = refl
long_says outcomes.Chunk is = absurd is
long_says (outcomes.Version low high) is = absurd is

no_path : (o : Outcome) (at : ℕ) → SaysInOutcome o (client.BadPath at) → ⊥
no_path (outcomes.Reply payload) at says = says
no_path outcomes.Chunk at says = let wrong = says in cc
no_path (outcomes.Version low high) at says = let wrong = says in cc

found_equal : {X : Type 0} (number : X → ℕ) (n : ℕ) (xs : List X) (x : X) → value_with_number number xs n ≡ Some x → number x ≡ n
found_equal number n [] x is = absurd cc
found_equal {X} number n (y ∷ ys) x is = by (eqb (number y) n) refl is (λ rest. found_equal number n ys x rest)
  where
    by : (b : Bool) → eqb (number y) n ≡ b → cond b (Some y) (value_with_number number ys n) ≡ Some x → (value_with_number number ys n ≡ Some x → number x ≡ n) → number x ≡ n
    by true e same more = (let first : y ≡ x = cc in subst (λ (z : X). number z ≡ n) first (eqb-true (number y) n e))
    by false e same more = more same

-- the first word of a failure is its status
module _ {D W S : Type 0} (number : S → ℕ) (done : Codec D) (failed : Codec W) where
  abbrev Read_ : Type 0
  Read_ = Result (StatusUnion D W S × Cursor) ℕ

  abbrev tag_in : Read_ → Option S
  tag_in (Ok x) = status_union_tag x.0
  tag_in (Err at) = None

  abbrev number_read : Bool → Cursor → Result (ℕ × Cursor) ItemFault
  number_read few at = cond few (Err (Short at.place)) (Ok (word_of (take 4 at.rest), cursor_past 4 at))

  abbrev tag_read : List S → Cursor → ℕ × Cursor → Result (Option S × Cursor) ℕ
  tag_read all from n = value_or_fault from (value_with_number (status_tag_number number) (status_tags all) n.0) n.1

  abbrev union_read : Option S × Cursor → Read_
  union_read t = status_union_read done failed t.0 t.1

  of_done : (r : Result (D × Cursor) ℕ) (s : S) (part : W) (next : Cursor) → ◌≡◌ {A = Read_} (arm_value Done r) (Ok (Failed s part, next)) → ⊥
  of_done (Ok x) s part next is = let wrong : ◌≡◌ {A = Option S} None (Some s) = ap tag_in is in cc
  of_done (Err at) s part next is = let wrong = is in cc

  of_failed : (t : S) (r : Result (W × Cursor) ℕ) (s : S) (part : W) (next : Cursor) → ◌≡◌ {A = Read_} (arm_value (Failed t) r) (Ok (Failed s part, next)) → t ≡ s
  of_failed t (Ok x) s part next is = let same : ◌≡◌ {A = Option S} (Some t) (Some s) = ap tag_in is in cc
  of_failed t (Err at) s part next is = absurd (let wrong = is in cc)

  of_tag : (all : List S) (n : ℕ) (from to : Cursor) (s : S) (part : W) (next : Cursor) (o : Option (Option S)) → value_with_number (status_tag_number number) (status_tags all) n ≡ o
      → (value_or_fault from o to >>= union_read) ≡ Ok (Failed s part, next) → n ≡ number s
  of_tag all n from to s part next None found is = absurd (let wrong = is in cc)
  of_tag all n from to s part next (Some None) found is = absurd (of_done (done.read to) s part next is)
  of_tag all n from to s part next (Some (Some t)) found is =
      sym (found_equal (status_tag_number number) n (status_tags all) (Some t) found) ∙ ap number (of_failed t (failed.read to) s part next is)

  first_word : (all : List S) (at : Cursor) (s : S) (part : W) (next : Cursor) → (status_union_codec number all done failed).read at ≡ Ok (Failed s part, next)
      → (4 ≤ length at.rest) × (word_of (take 4 at.rest) ≡ number s)
  unfolding status_union_codec enumeration word unsigned_at
  first_word all at s part next is = by (ltb (length at.rest) 4) refl is
    where
      by : (b : Bool) → ltb (length at.rest) 4 ≡ b → ((or_place (number_read b at) >>= tag_read all at) >>= union_read) ≡ Ok (Failed s part, next) → (4 ≤ length at.rest) × (word_of (take 4 at.rest) ≡ number s)
      by true few same = absurd (let wrong = same in cc)
      by false many same = (
        ltb-false (length at.rest) 4 many,
        of_tag all (word_of (take 4 at.rest)) at (cursor_past 4 at) s part next (value_with_number (status_tag_number number) (status_tags all) (word_of (take 4 at.rest))) refl same,
      )

  at_end : (v : StatusUnion D W S) (r : Result (StatusUnion D W S × Cursor) ℕ) → (r >>= value_at_end) ≡ Ok v → (next : Cursor) × (r ≡ Ok (v, next))
  at_end v (Err at) is = absurd (let wrong = is in cc)
  at_end v (Ok (w, next)) is = by (eqb (length next.rest) 0) is
    where
      by : (b : Bool) → ◌≡◌ {A = Result (StatusUnion D W S) ℕ} (cond b (Ok w) (Err next.place)) (Ok v) → (n : Cursor) × (◌≡◌ {A = Result (StatusUnion D W S × Cursor) ℕ} (Ok (w, next)) (Ok (v, n)))
      by true same = (next, let e : w ≡ v = cc in ap (λ (x : StatusUnion D W S). Ok (x, next)) e)
      by false same = absurd (let wrong = same in cc)

  has_status : (all : List S) (payload : List ℕ) (xid stat at : ℕ) (s : S) (part : W) → reply_of payload ≡ Ok (heads.Accepted xid stat at) → stat ≡ 0
      → results_in (status_union_codec number all done failed) payload at ≡ Ok (Failed s part) → HasStatus payload (number s)
  has_status all payload xid stat at s part head zero is =
      let cursor : Cursor = record { place = at; rest = drop at payload } in
      let whole = at_end (Failed s part) ((status_union_codec number all done failed).read cursor) is in
      let first = first_word all cursor s part whole.0 whole.1 in
      let left = length-drop at payload in
      record {
        xid = xid;
        results_at = at;
        head = head ∙ ap (λ (n : ℕ). Ok (heads.Accepted xid n at)) zero;
        long = omega (arith, first.0, left);
        begins = first.1;
      }

  results_any : (all : List S) (payload : List ℕ) (xid stat at : ℕ) → reply_of payload ≡ Ok (heads.Accepted xid stat at) → stat ≡ 0
      → (r : Result (StatusUnion D W S) ℕ) → results_in (status_union_codec number all done failed) payload at ≡ r → ResultIs (Begun (outcomes.Reply payload) number) (SaysInReply payload) (results_or r)
  results_any all payload xid stat at head zero (Ok (Done results)) is = tt
  results_any all payload xid stat at head zero (Ok (Failed s part)) is = has_status all payload xid stat at s part head zero is
  results_any all payload xid stat at head zero (Err place) is = inl refl

  head_any : (all : List S) (payload : List ℕ) (head : ReplyHead) → reply_of payload ≡ Ok head → ResultIs (Begun (outcomes.Reply payload) number) (SaysInReply payload) (result_by_head (status_union_codec number all done failed) payload head)
  head_any all payload (heads.Accepted xid stat results_at) is = by (eqb stat 0) refl
    where
      by : (b : Bool) → eqb stat 0 ≡ b → ResultIs (Begun (outcomes.Reply payload) number) (SaysInReply payload)
          (cond b (results_or (results_in (status_union_codec number all done failed) payload results_at)) (Err (client.Rpc kinds.Accept stat)))
      by true zero = results_any all payload xid stat results_at is (eqb-true stat 0 zero) (results_in (status_union_codec number all done failed) payload results_at) refl
      by false other = (heads.Accepted xid stat results_at, (is, ((λ zero. let same : eqb stat 0 ≡ true = ap (λ (n : ℕ). eqb n 0) zero in let wrong : true ≡ false = sym same ∙ other in cc), (refl, refl))))
  head_any all payload (heads.ProgMismatch xid low high) is = (heads.ProgMismatch xid low high, (is, (refl, refl)))
  head_any all payload (heads.RpcMismatch xid low high) is = (heads.RpcMismatch xid low high, (is, (refl, refl)))
  head_any all payload (heads.AuthError xid stat) is = (heads.AuthError xid stat, (is, (refl, refl)))

  reading_any : (all : List S) (payload : List ℕ) (r : Result ReplyHead ℕ) → reply_of payload ≡ r → ResultIs (Begun (outcomes.Reply payload) number) (SaysInReply payload) (result_by_reading (status_union_codec number all done failed) payload r)
  reading_any all payload (Ok head) is = head_any all payload head is
  reading_any all payload (Err at) is = inl refl

  outcome_any : (all : List S) (o : Outcome) → ResultIs (Begun o number) (SaysInOutcome o) (result_of_outcome (status_union_codec number all done failed) o)
  outcome_any all (outcomes.Reply payload) = reading_any all payload (reply_of payload) refl
  outcome_any all outcomes.Chunk = refl
  outcome_any all (outcomes.Version low high) = refl

-- ---- The result of each call

module _ (o : Outcome) where
  abbrev G : ClientEnd → Type 0
  G = SaysInOutcome o

  -- a value was read of a reply
  abbrev Read : {A : Type 0} → A → Type 0
  Read value = IsReplyOutcome o

  any_value : {A : Type 0} (r : Result A ClientEnd) → ResultIs Read G r → ResultIs Any G r
  any_value (Ok value) is = tt
  any_value (Err end) is = is

  nfs_any : {D W : Type 0} (r : Result (StatusUnion D W Status) ClientEnd) → ResultIs (Begun o status_number) G r → ResultIs Read G (nfs_done r)
  nfs_any (Ok (Done results)) is = is
  nfs_any (Ok (Failed status part)) is = nfs_says o status is
  nfs_any (Err end) is = is

  mount_any : {D W : Type 0} (r : Result (StatusUnion D W MountStatus) ClientEnd) → ResultIs (Begun o mount_status_number) G r → ResultIs Read G (mount_done r)
  mount_any (Ok (Done results)) is = is
  mount_any (Ok (Failed status part)) is = mount_says o status is
  mount_any (Err end) is = is

  reads_any : {D W : Type 0} (done : Codec D) (failed : Codec W) → ResultIs Read G (nfs_reads done failed o)
  reads_any done failed = nfs_any (result_of_outcome (status_union_codec status_number statuses done failed) o) (outcome_any status_number done failed statuses o)

  handle_any : (r : Result MountOk ClientEnd) → ResultIs Read G r → ResultIs Any G (handle_of r)
  handle_any (Ok results) is = tt
  handle_any (Err end) is = is

  object_any : (r : Result LookupOk ClientEnd) → ResultIs Read G r → ResultIs Any G (object_in r)
  object_any (Ok found) is = tt
  object_any (Err end) is = is

  handle_or_any : (results_at : ℕ) (object : Option (List ℕ)) → IsReplyOutcome o → ResultIs Any G (handle_or results_at object)
  handle_or_any results_at (Some handle) is = tt
  handle_or_any results_at None is = stuck_says o _ is

  created_any : (results_at : ℕ) (r : Result CreateOk ClientEnd) → ResultIs Read G r → ResultIs Any G (created_handle results_at r)
  created_any results_at (Ok results) is = handle_or_any results_at results.object is
  created_any results_at (Err end) is = is

  checked_any : (count results_at : ℕ) (r : Result ReadOk ClientEnd) → ResultIs Read G r → ResultIs Any G (checked_read count results_at r)
  checked_any count results_at (Ok results) is = either_is Any G (is_bad_read count results) _ _ (stuck_says o _ is) tt
  checked_any count results_at (Err end) is = is

  count_any : (sent results_at : ℕ) (r : Result WriteOk ClientEnd) → ResultIs Read G r → ResultIs Any G (checked_write sent results_at r)
  count_any sent results_at (Ok results) is = either_is Any G (results.count == 0 || nat_lt sent results.count) _ _ (stuck_says o _ is) tt
  count_any sent results_at (Err end) is = is

  -- a READDIR that ends a list
  readdir_says : (end : ClientEnd) → ReaddirEnds o end → IsReadEnd G end
  readdir_says end (inl is) = subst (λ (r : Result ReaddirOk ClientEnd). ResultIs Read G r) is (reads_any readdir_ok_codec (optional attributes_codec))
  readdir_says end (inr (listing, (is, how))) = by (subst (λ (r : Result ReaddirOk ClientEnd). ResultIs Read G r) is (reads_any readdir_ok_codec (optional attributes_codec))) how
    where
      by : IsReplyOutcome o → ((is_stuck listing ≡ true) × (end ≡ client.BadReply (eof_offset o) no_progress)) ⊎ (end ≡ client.Budget entries_max) → IsReadEnd G end
      by reply (inl (stuck, same)) = subst (λ (e : ClientEnd). IsReadEnd G e) (sym same) (stuck_says o (eof_offset o) reply)
      by reply (inr same) = subst (λ (e : ClientEnd). IsReadEnd G e) (sym same) (long_says o reply)

-- ---- The end of a command

-- an end by the exchanges of the command, its words and its input, and by what holds if the input or the output failed
abbrev pub PeerEnd : Client Text → SourceAt → List Exchange → (I O : Type 0) → ClientEnd → Type 0
PeerEnd c input made I O client.DialFault = Unit {0}
PeerEnd c input made I O (client.Link end) = Unit {0}
PeerEnd c input made I O (client.BadPath at) = IsBadPath c.action at
PeerEnd c input made I O client.InputFault = I
PeerEnd c input made I O client.OutputFault = O
PeerEnd c input made I O (client.Budget count) = PassesLimit c input made count
PeerEnd c input made I O client.Memory = Unit {0}
PeerEnd c input made I O end = EndsByOutcome made c.uid c.gid end

module _ (c : Client Text) (input : SourceAt) (made : List Exchange) (I O : Type 0) where
  abbrev F : ClientEnd → Type 0
  F = PeerEnd c input made I O

  ends_by : (call : Call) (o : Outcome) (end : ClientEnd) → IsAnsweredBy made call o → EndsCall made c.uid c.gid call o end → SaysInOutcome o end → EndsByOutcome made c.uid c.gid end
  ends_by call o end answered reads says = record { call = call; outcome = o; answered = answered; reads = reads; says = says }

  -- the result of a call that was answered
  by_call : {A : Type 0} (V : A → Type 0) (call : Call) (o : Outcome) (r : Result A ClientEnd) → IsAnsweredBy made call o → ((end : ClientEnd) → r ≡ Err end → EndsCall made c.uid c.gid call o end)
      → ((value : A) → r ≡ Ok value → V value) → ResultIs Any (SaysInOutcome o) r → ResultIs V F r
  by_call V call o (Ok value) answered reads holds says = holds value refl
  by_call V call o (Err client.DialFault) answered reads holds says = absurd says
  by_call V call o (Err (client.Link end)) answered reads holds says = absurd says
  by_call V call o (Err (client.Rpc kind code)) answered reads holds says = ends_by call o _ answered (reads _ refl) says
  by_call V call o (Err (client.Mount status)) answered reads holds says = ends_by call o _ answered (reads _ refl) says
  by_call V call o (Err (client.Nfs status)) answered reads holds says = ends_by call o _ answered (reads _ refl) says
  by_call V call o (Err client.Chunk) answered reads holds says = ends_by call o _ answered (reads _ refl) says
  by_call V call o (Err (client.Version low high)) answered reads holds says = ends_by call o _ answered (reads _ refl) says
  by_call V call o (Err (client.BadReply at reason)) answered reads holds says = ends_by call o _ answered (reads _ refl) says
  by_call V call o (Err (client.BadPath at)) answered reads holds says = absurd (no_path o at says)
  by_call V call o (Err client.InputFault) answered reads holds says = absurd says
  by_call V call o (Err client.OutputFault) answered reads holds says = absurd says
  by_call V call o (Err (client.Budget count)) answered reads holds says = ListIsLong (ends_by call o _ answered (reads _ refl) says)
  by_call V call o (Err client.Memory) answered reads holds says = tt

  abbrev end_in : {A : Type 0} → ClientEnd → Result A ClientEnd → ClientEnd
  end_in other (Ok value) = other
  end_in other (Err end) = end

  any : {A : Type 0} (r : Result A ClientEnd) (value : A) → r ≡ Ok value → Unit {0}
  any r value is = tt

  -- each outcome that was handed over is read so
  pub peer_judgement : Judgement (IsAnsweredBy made) Any F c.uid c.gid
  peer_judgement = record {
    mounted = λ export o is.
        let codec = status_union_codec mount_status_number mount_statuses mount_ok_codec void in
        by_call Any (mnt_call c.uid c.gid export) o (mnt_result o) is (λ end same. EndsMnt export refl same) (any (mnt_result o))
        (handle_any o (mount_done (result_of_outcome codec o)) (mount_any o (result_of_outcome codec o) (outcome_any mount_status_number mount_ok_codec void mount_statuses o)));
    found = λ dir name o is.
        by_call Any (lookup_call c.uid c.gid dir name) o (object_result o) is (λ end same. EndsLookup dir name refl same) (any (object_result o))
        (object_any o (lookup_result o) (reads_any o lookup_ok_codec (optional attributes_codec)));
    attributes = λ file o is.
        by_call Any (getattr_call c.uid c.gid file) o (getattr_result o) is (λ end same. EndsGetattr file refl same) (any (getattr_result o)) (any_value o (getattr_result o) (reads_any o attributes_codec void));
    link_read = λ file o is.
        by_call Any (readlink_call c.uid c.gid file) o (readlink_result o) is (λ end same. EndsReadlink file refl same) (any (readlink_result o))
        (any_value o (readlink_result o) (reads_any o readlink_ok_codec (optional attributes_codec)));
    directory_made = λ dir name o is.
        by_call Any (mkdir_call c.uid c.gid dir name) o (create_result o) is (λ end same. EndsMkdir dir name refl same) (any (create_result o)) (any_value o (create_result o) (reads_any o create_ok_codec wcc_data_codec));
    link_made = λ dir name path o is.
        by_call Any (symlink_call c.uid c.gid dir name path) o (create_result o) is (λ end same. EndsSymlink dir name path refl same) (any (create_result o))
        (any_value o (create_result o) (reads_any o create_ok_codec wcc_data_codec));
    removed = λ dir name o is.
        by_call Any (remove_call c.uid c.gid dir name) o (remove_result o) is (λ end same. EndsRemove dir name refl same) (any (remove_result o)) (any_value o (remove_result o) (reads_any o wcc_data_codec wcc_data_codec));
    created = λ dir name o is.
        by_call Any (create_call c.uid c.gid dir name) o (created_file o) is (λ end same. EndsCreate dir name refl same) (any (created_file o))
        (created_any o (results_offset o) (create_result o) (reads_any o create_ok_codec wcc_data_codec));
    read = λ file offset count o holds some fits is.
        by_call Any (read_call c.uid c.gid file offset count) o (read_result count o) is (λ end same. EndsRead file offset count refl same) (any (read_result count o))
        (checked_any o count (results_offset o) (nfs_reads read_ok_codec (optional attributes_codec) o) (reads_any o read_ok_codec (optional attributes_codec)));
    written = λ file offset bytes o holds some fits is.
        by_call Any (write_call c.uid c.gid file offset bytes) o (write_result (length bytes) o) is (λ end same. EndsWrite file offset bytes refl same) (any (write_result (length bytes) o))
        (count_any o (length bytes) (results_offset o) (nfs_reads write_ok_codec wcc_data_codec o) (reads_any o write_ok_codec wcc_data_codec));
    listed = λ dir cookie verifier earlier o end before makes is ends how.
        by_call {A = Unit {0}} Any (readdir_call c.uid c.gid dir cookie verifier) o (Err end) is
        (λ e same. EndsReaddir dir earlier before makes (ends ∙ ap (λ (r : Result (Unit {0}) ClientEnd). Returns (Err (end_in end r))) same)) (λ value same. tt) (readdir_says o end how);
  }

  pub words_give : WordsGive F c.export c.action input
  words_give = record {
    export_long = λ long. ExportIsLong refl long;
    path_bad = λ at bad. bad;
    target_long = λ path target is long. TargetIsLong path target is refl long;
    input_long = λ path is long. InputIsLong path is refl long;
  }

-- each outcome that is handed over is one of the call that was submitted
all_answered : (all : Call → Outcome → Type 0) (reads : List OpenRead) (made : List Exchange) → ((xid : ℕ) (call : Call) (o : Outcome) → IsOf reads xid call → IsHandedOver made xid o → all call o)
    → ((call : Call) (o : Outcome) → IsAnsweredBy made call o → all call o) → AreJudged all reads made
all_answered all reads [] later has = tt
all_answered all reads (Answered call outcome ∷ rest) later has = (has call outcome (inl (refl, refl)), all_answered all reads rest later (λ c o is. has c o (inr is)))
all_answered all reads (Forgotten call ∷ rest) later has = all_answered all reads rest later has
all_answered all reads (Submitted xid call ∷ rest) later has = all_answered all (record { xid = xid; call = call } ∷ reads) rest one (λ c o is. has c o (inr is))
  where
    one : (number : ℕ) (c : Call) (o : Outcome) → ((xid ≡ number) × (call ≡ c)) ⊎ IsOf reads number c → IsHandedOver rest number o → all c o
    one number c o (inl (same, is)) handed = has c o (inl (is, subst (λ (n : ℕ). IsHandedOver rest n o) (sym same) handed))
    one number c o (inr is) handed = later number c o is handed
all_answered all reads (HandedOver xid outcome ∷ rest) later has =
    ((λ call is. later xid call outcome is (inl (refl, refl))), all_answered all reads rest (λ number c o is handed. later number c o is (inr handed)) has)
all_answered all reads (GivenUp xid ∷ rest) later has = all_answered all reads rest later has

some_parameters : (terms : SideTerms) → LinkParameters
some_parameters terms = record { first_xid = 1; first_stag = 1; wished = 16; granted = 1; low = 1; receives = 1; client = terms; server = default_terms; resumed = []; agreed = None }

some_opened : (terms : SideTerms) → IsOpened (some_parameters terms)
unfolding some_parameters
some_opened terms = record { xid = omega arith; xid_fits = omega arith; stag = omega arith; stag_fits = omega arith; resumed = omega arith; wished = omega arith; wished_fits = omega arith; granted = omega arith; granted_fits = omega arith; receives = omega arith }

-- what a command gives that opened a session
pub given_by_peer : (c : Client Text) (before dialed : DialerAt) (s s' : SessionAt) (input input' : SourceAt) (out out' : SinkAt) (result : Result (Unit {0}) ClientEnd) → Opens c.addr (terms_of c) before dialed s
    → (prints : PrintsAll c s s' input input' out out' result)
    → GivenIs Any (PeerEnd c input (tells_text c.uid c.gid c.export c.action input input' out prints.written s s' prints.text prints.made).made (Rises input.faults input'.faults) (Rises out.faults out'.faults)) result
    s'
unfolding some_parameters
given_by_peer c before dialed s s' input input' out out' result opens prints =
    let made = (tells_text c.uid c.gid c.export c.action input input' out prints.written s s' prints.text prints.made).made in
    let I = Rises input.faults input'.faults in
    let O = Rises out.faults out'.faults in
    opened_is (IsAnsweredBy made) Any (PeerEnd c input made I O) c before dialed s s' input input' out out' result opens prints (some_parameters (terms_of c)) 0
    (peer_judgement c input made I O) (words_give c input made I O) (λ rose. rose) (λ rose. rose) (some_opened (terms_of c)) refl refl (refl, (refl, record { resumed = refl; agreed = refl })) (all_answered (IsAnsweredBy made) [] made (λ xid call o is handed. absurd is) (λ call o is. is))
