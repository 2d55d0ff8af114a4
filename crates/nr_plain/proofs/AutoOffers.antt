-- What a call offers in the form Auto holds its reply.
use Rattle.std.proofs.Common.{◌≡◌, ◌≢◌, ℕ, ◌+◌, ◌≤◌, ◌<◌, ◌^◌, Bool, true, false, cond, eqb, leb, ltb, not, List, [], ◌∷◌, length, take, drop, min, Option, None, Some, Result, Ok, Err, inl, inr, refl, ap, sym, ◌∙◌, subst, arith}
use Rattle.std.specs.Prelude.{◌&&◌}
use Rattle.std.proofs.Math.Nat.{min-le_left, min-le_right}
use Rattle.std.proofs.lemmas.Bool.{eqb-true, leb-true, le-leb}
use Rattle.std.proofs.lemmas.List.{length-take}
use Rattle.std.proofs.lemmas.List.Sums.{sum_by-cons}
use Rattle.nr_xdr.specs.Item.{IsBytes}
use Rattle.nr_xdr.proofs.Chains.{standing}
use Rattle.nr_xdr.proofs.SequencingSteps.{chosen}
use Rattle.nr_xdr.proofs.WordBytes.{IsBytes_drop}
use Rattle.nr_header.specs.Constants.{HEADER_LEN_MIN, PAYLOAD_MAX}
use Rattle.nr_header.specs.Length.{write_chunk_len}
use Rattle.nr_header.specs.declared.header.ChunkLists.{ChunkLists}
use Rattle.nr_header.specs.declared.header.RdmaSegment.{RdmaSegment}
use Rattle.nr_rpc.specs.Reading.{call_of, target_of, head_xid}
use Rattle.nr_rpc.specs.declared.cred.Cred.{Cred}
use Rattle.nr_rpc.specs.declared.cred.Cred.TheVariants as creds
use Rattle.nr_rpc.specs.declared.head.CallHead.{CallHead}
use Rattle.nr_rpc.specs.declared.head.CallHead.TheVariants as calls
use Rattle.nr_rpc.specs.declared.head.CallTarget.{CallTarget}
use Rattle.nr_rpc.specs.declared.head.ReplyHead.TheVariants as replies
use Rattle.nr_nfs_base.specs.Codec.{read_all}
use Rattle.nr_nfs_base.specs.declared.status.Status.{Status}
use Rattle.nr_nfs_base.specs.declared.status_union.StatusUnion.{StatusUnion}
use Rattle.nr_nfs_base.specs.declared.status_union.StatusUnion.TheVariants.{Done, Failed}
use Rattle.nr_nfs_base.specs.declared.procedure.NfsProcedure.TheVariants as nfs
use Rattle.nr_nfs_args.specs.Arguments.{NfsArguments, nfs_arguments_codec}
use Rattle.nr_nfs_res.specs.declared.bytes.ReadOk.{ReadOk}
use Rattle.nr_nfs_res.specs.declared.lookup.ReadlinkOk.{ReadlinkOk}
use Rattle.nr_reduce.specs.declared.call.Form.TheVariants as forms
use Rattle.nr_reduce.specs.declared.item.Item.{Item}
use Rattle.nr_reduce.specs.declared.item.Of.TheVariants.{Reply, Call}
use Rattle.nr_reduce.specs.declared.mark.Entry.{Entry}
use Rattle.nr_outside.specs.declared.moment.Moment.{Moment}
use Rattle.nr_reduce.specs.declared.outline.Plan.{Plan}
use Rattle.nr_reduce.specs.Chunks.{chunk_total}
use Rattle.nr_reduce.specs.Holds.{Parts, parts_by, parts_in, answer_size, fits_reply, answer_with, answer_for}
use Rattle.nr_reduce.specs.Items.{is_nfs, from_place, reducible_item}
use Rattle.nr_reduce.specs.Largest.{largest_reply, read_count}
use Rattle.nr_reduce.specs.Plans.{TooLarge, inline_plan, moved_offer, argument_offer, target_offer, write_offer, reduced_plan_by, reduced_plan, long_plan, offering, auto_offer, auto_plan, within, plan_size, plan_of, segments_for, segments_from, write_list, reply_chunk, write_stag, reply_stag, lists_of}
use Rattle.nr_reduce.specs.Server.{answer_of_target}
use Rattle.nr_reduce.proofs.Segments.{count_is, own_added}
use Rattle.nr_reduce.proofs.Sizes.{segments_count}
use Rattle.nr_reduce.proofs.WrittenChunks.{chunk_added}
use Rattle.nr_tree.specs.Rules.{answer, first}
use Rattle.nr_tree.specs.Sane.{IsSane}
use Rattle.nr_ops_file.specs.Bytes.{read_rules, read_done, bytes_at}
use Rattle.nr_ops_file.specs.Links.{readlink_rules, readlink_done}
use Rattle.nr_plain.specs.Setup.{Parameters, State, caller_of}
use Rattle.nr_plain.specs.Replies.{Answer, refusal, accepted, nfs_by_arguments, nfs_call, program_call, cred_refusal, call_by_cred, answer_to, answer_by, plain_answer}
use Rattle.nr_plain.proofs.Changes.{inline_held}
use Rattle.nr_plain.proofs.Readings.{read_counted}
use Rattle.nr_plain.proofs.ReplyHeads.{same_answer, xid_fits}
use Rattle.nr_plain.proofs.ReplyItems.{IsSuited, refused_suited, read_suited, readlink_suited}
use Rattle.nr_plain.proofs.ReplyLimits.{within_limit}
use Rattle.nr_plain.proofs.ResultLimits.{path_short, piece_short}
use Rattle.nr_nfs_base.specs.Limits.{link_target_max, transfer_max}
use Rattle.nr_reduce.specs.Limits.{send_unit}

-- ===== the replies to READ and READLINK suit their offers

abbrev success_of : {D F : Type 0} → D → StatusUnion D F Status
success_of d = Done d

abbrev failure_of : {D F : Type 0} → Status → F → StatusUnion D F Status
failure_of s f = Failed s f

done_is : {D F : Type 0} (x y : D) → success_of {D = D} {F = F} x ≡ Done y → x ≡ y
done_is x y e = cc

not_failed : {D F : Type 0} (s : Status) (f : F) (d : D) (P : Type 0) → failure_of {D = D} {F = F} s f ≡ Done d → P
not_failed s f d P e = absurd cc

-- what holds of the part on success, if no rule refuses, holds of a success
of_success : {D F : Type 0} (o : Option Status) (f : F) (d e : D) (P : D → Type 0) → answer o (λ (s : Status). failure_of {D = D} {F = F} s f) (Done d) ≡ Done e → (o ≡ None → P d) → P e
of_success {D} {F} None f d e P is holds = subst P (done_is {D = D} {F = F} d e is) (holds refl)
of_success (Some s) f d e P is holds = not_failed s f e (P e) is

module _ (s : Parameters) (st : State) (sane : IsSane st.tree) (xid place : ℕ) (fits : xid < 2 ^ 32) (e : Entry) (bytes : IsBytes e.args) where
  no_arguments : (n proc : ℕ) → IsSuited n proc (refusal (accepted xid 4)).reply
  no_arguments n proc = refused_suited n proc xid (accepted xid 4) (λ q. absurd cc) (fits, omega arith) refl fits

  read_by : (count : ℕ) → read_count (standing place e.args) ≡ Some count → (r : Result (NfsArguments nfs.Read) ℕ) → read_all (nfs_arguments_codec nfs.Read) e.args ≡ r
      → IsSuited (min count transfer_max) 6 (nfs_by_arguments s st xid e nfs.Read r).reply
  read_by count asked (Ok a) is =
      let same : a.count ≡ count = same_some (sym (read_counted place e.args bytes a is) ∙ asked) in
      read_suited (min count transfer_max) xid fits _
      (λ d done. of_success (first (read_rules st.tree (caller_of e.cred) a)) _ (read_done st.tree a) d (λ (k : ReadOk). (length k.bytes ≤ min count transfer_max) × (length k.bytes < 2 ^ 32)) done
      (λ none. (
        subst (λ (n : ℕ). length (read_done st.tree a).bytes ≤ min n transfer_max) same (piece_short (bytes_at st.tree a.file) a.offset a.count),
        omega (arith, piece_short (bytes_at st.tree a.file) a.offset a.count, min-le_right a.count transfer_max),
      )))
    where
      same_some : {x y : ℕ} → Some x ≡ Some y → x ≡ y
      same_some q = cc
  read_by count asked (Err at) is = no_arguments (min count transfer_max) 6

  readlink_by : (r : Result (NfsArguments nfs.Readlink) ℕ) → IsSuited link_target_max 5 (nfs_by_arguments s st xid e nfs.Readlink r).reply
  readlink_by (Ok a) =
      readlink_suited link_target_max xid fits _
      (λ d done. of_success (first (readlink_rules st.tree a)) _ (readlink_done st.tree a) d (λ (k : ReadlinkOk). (length k.path ≤ link_target_max) × (length k.path < 2 ^ 32)) done
      (λ none. (path_short st.tree a sane none, omega (arith, path_short st.tree a sane none))))
  readlink_by (Err at) = no_arguments link_target_max 5

  suited_by_cred : (n proc : ℕ) (cred : Cred) (a : Answer) → IsSuited n proc a.reply → IsSuited n proc (call_by_cred (cred_refusal cred) xid a).reply
  suited_by_cred n proc creds.None a is = is
  suited_by_cred n proc (creds.Sys stamp machine uid gid gids) a is = is
  suited_by_cred n proc (creds.Other flavor) a is = by (eqb flavor 1)
    where
      by : (b : Bool) → IsSuited n proc (refusal (replies.AuthError xid (cond b 1 5))).reply
      by true = refused_suited n proc xid (replies.AuthError xid 1) tt (fits, omega arith) refl fits
      by false = refused_suited n proc xid (replies.AuthError xid 5) tt (fits, omega arith) refl fits

module _ (s : Parameters) (st : State) (sane : IsSane st.tree) (m : Moment) (payload : List ℕ) (bytes : IsBytes payload) (xid : ℕ) (fits : xid < 2 ^ 32) (cred : Cred) (args_at : ℕ) where
  abbrev entry : ℕ → Entry
  entry proc = record { moment = m; cred = cred; proc = proc; args = drop args_at payload }

  read_call_suited : (count : ℕ) → read_count (from_place args_at payload) ≡ Some count → IsSuited (min count transfer_max) 6 (answer_to s st m payload (calls.Version2 xid 100003 3 6 cred args_at)).reply
  unfolding nfs_call
  read_call_suited count asked =
      suited_by_cred s st sane xid args_at fits (entry 6) (IsBytes_drop args_at payload bytes) (min count transfer_max) 6 cred (program_call s st xid 100003 3 (entry 6))
      (read_by s st sane xid args_at fits (entry 6) (IsBytes_drop args_at payload bytes) count asked (read_all (nfs_arguments_codec nfs.Read) (drop args_at payload)) refl)

  readlink_call_suited : IsSuited link_target_max 5 (answer_to s st m payload (calls.Version2 xid 100003 3 5 cred args_at)).reply
  unfolding nfs_call
  readlink_call_suited =
      suited_by_cred s st sane xid args_at fits (entry 5) (IsBytes_drop args_at payload bytes) link_target_max 5 cred (program_call s st xid 100003 3 (entry 5))
      (readlink_by s st sane xid args_at fits (entry 5) (IsBytes_drop args_at payload bytes) (read_all (nfs_arguments_codec nfs.Readlink) (drop args_at payload)))

-- ===== offers that hold

module _ (reply : List ℕ) (down : ℕ) (room : send_unit ≤ down) where
  -- the segments of a chunk of n bytes have n bytes
  total_own : (stag n : ℕ) → chunk_total (segments_from stag 0 (segments_for n)) ≡ n
  total_own stag n = chunk_added stag 0 (segments_for n) ∙ own_added n

  -- a header that gives a chunk of a READ or a READLINK back
  size_own : (stag n : ℕ) → n ≤ transfer_max → answer_size (segments_from stag 0 (segments_for n) ∷ []) ≤ 292
  size_own stag n small =
      let a = sum_by-cons (λ (chunk : List RdmaSegment). write_chunk_len (length chunk)) (segments_from stag 0 (segments_for n)) [] in
      let b = segments_count stag 0 (segments_for n) in
      let c = count_is n in
      omega (arith, a, b, c, small)

  -- a chunk has a segment, so the reply is split for it
  parts_some : (chunk : List RdmaSegment) (proc : ℕ) → 0 < length chunk → parts_in (Reply 100003 3 proc) (chunk ∷ []) reply ≡ parts_by chunk reply (reducible_item (Reply 100003 3 proc) reply)
  parts_some [] proc some = absurd (omega (arith, some))
  parts_some (s ∷ chunk) proc some = refl

  parts_own : (stag n proc : ℕ) → parts_in (Reply 100003 3 proc) (segments_from stag 0 (segments_for n) ∷ []) reply ≡ parts_by (segments_from stag 0 (segments_for n)) reply (reducible_item (Reply 100003 3 proc) reply)
  parts_own stag n proc = (let b = segments_count stag 0 (segments_for n) in let c = count_is n in parts_some (segments_from stag 0 (segments_for n)) proc (omega (arith, b, c)))

  chunk_held : (offer : ChunkLists) (stag n proc : ℕ) → offer.write ≡ segments_from stag 0 (segments_for n) ∷ [] → n ≤ transfer_max → IsSuited n proc reply → answer_for offer down 100003 3 proc reply ≢ None
  unfolding answer_for
  chunk_held offer stag n proc is small (None, none, short) =
      let chunk : List RdmaSegment = segments_from stag 0 (segments_for n) in
      let size : answer_size offer.write ≤ 292 = subst (λ (w : List (List RdmaSegment)). answer_size w ≤ 292) (sym is) (size_own stag n small) in
      subst (λ (o : Option Parts). answer_with offer down o ≢ None) (sym (ap (λ (w : List (List RdmaSegment)). parts_in (Reply 100003 3 proc) w reply) is ∙ parts_own stag n proc ∙ ap (parts_by chunk reply) none))
      (inline_held offer down (record { stream = reply; moved = [] }) (omega (arith, short, room, size)))
  chunk_held offer stag n proc is small (Some i, some, suits) =
      let chunk : List RdmaSegment = segments_from stag 0 (segments_for n) in
      let size : answer_size offer.write ≤ 292 = subst (λ (w : List (List RdmaSegment)). answer_size w ≤ 292) (sym is) (size_own stag n small) in
      let fits : leb i.len (chunk_total chunk) ≡ true = le-leb i.len (chunk_total chunk) (omega (arith, total_own stag n, suits.0)) in
      let p : Parts = record { stream = take i.pos reply; moved = take i.len (drop i.pos reply) } in
      subst (λ (o : Option Parts). answer_with offer down o ≢ None)
      (sym (ap (λ (w : List (List RdmaSegment)). parts_in (Reply 100003 3 proc) w reply) is ∙ parts_own stag n proc ∙ ap (parts_by chunk reply) some ∙ ap (λ (b : Bool). cond b (Some p) None) fits))
      (inline_held offer down p (omega (arith, suits.1, room, size, length-take i.pos reply, min-le_left i.pos (length reply))))

  -- no write chunk, and a reply that goes inline or fills the reply chunk
  none_held : (offer : ChunkLists) (prog vers proc : ℕ) → offer.write ≡ [] → HEADER_LEN_MIN + length reply ≤ down → answer_for offer down prog vers proc reply ≢ None
  unfolding answer_for
  none_held offer prog vers proc is le =
      subst (λ (o : Option Parts). answer_with offer down o ≢ None) (sym (ap (λ (w : List (List RdmaSegment)). parts_in (Reply prog vers proc) w reply) is))
      (inline_held offer down (record { stream = reply; moved = [] }) (omega (arith, le, ap (λ (w : List (List RdmaSegment)). answer_size w) is)))

  filled_by : {A : Type 0} (b c : Bool) (x y : A) → c ≡ true → cond b (Some x) (cond c (Some y) None) ≡ None → ⊥
  filled_by true c x y full none = absurd cc
  filled_by false c x y full none = let some : Some y ≡ None = sym (ap (λ (b : Bool). cond b (Some y) None) full) ∙ none in absurd cc

  long_held : (offer : ChunkLists) (stag n prog vers proc : ℕ) → offer.write ≡ [] → offer.reply ≡ Some (segments_from stag 0 (segments_for n)) → length reply ≤ n → answer_for offer down prog vers proc reply ≢ None
  unfolding answer_for
  long_held offer stag n prog vers proc is chunk le =
      subst (λ (o : Option Parts). answer_with offer down o ≢ None) (sym (ap (λ (w : List (List RdmaSegment)). parts_in (Reply prog vers proc) w reply) is))
      (filled_by (leb (answer_size offer.write + length reply) down) (fits_reply offer.reply (length reply)) _ _
      (ap (λ (r : Option (List RdmaSegment)). fits_reply r (length reply)) chunk ∙ le-leb (length reply) (chunk_total (segments_from stag 0 (segments_for n))) (omega (arith, total_own stag n, le))))

  any_target : (offer : ChunkLists) (o : Option CallTarget) → ((prog vers proc : ℕ) → answer_for offer down prog vers proc reply ≢ None) → answer_of_target offer down reply o ≢ None
  any_target offer None held = held 0 0 0
  any_target offer (Some t) held = held t.prog t.vers t.proc

-- ===== what a plan offers

abbrev Keeps : Plan → Plan → Type 0
Keeps q r = (r.write ≡ q.write) × (r.reply ≡ q.reply)

ways : (P : Plan → Type 0) (b c : Bool) (x y z : Plan) → P x → P y → P z → P (cond b x (cond c y z))
ways P true c x y z of_x of_y of_z = of_x
ways P false true x y z of_x of_y of_z = of_y
ways P false false x y z of_x of_y of_z = of_z

reduced_keeps : (payload : List ℕ) (q : Plan) → Keeps q (reduced_plan payload q)
unfolding reduced_plan
reduced_keeps payload q = by (reducible_item Call payload)
  where
    by : (o : Option Item) → Keeps q (reduced_plan_by payload q o)
    by None = (refl, refl)
    by (Some i) = (refl, refl)

auto_keeps : (payload : List ℕ) (up : ℕ) (q : Plan) → Keeps q (auto_plan payload up q)
auto_keeps payload up q =
    ways (Keeps q) (leb (plan_size q) up) (not (eqb (length (reduced_plan payload q).read) 0) && leb (plan_size (reduced_plan payload q)) up) q (reduced_plan payload q) (long_plan payload q) (refl, refl) (reduced_keeps payload q) (refl, refl)

within_ok : (need room : ℕ) (r : Result Plan TooLarge) (p : Plan) → within need room r ≡ Ok p → r ≡ Ok p
within_ok need room r p e = by (ltb room need) e
  where
    by : (b : Bool) → cond b (Err (record { need = need; room = room })) r ≡ Ok p → r ≡ Ok p
    by true none = absurd cc
    by false is = is

abbrev fine : Plan → Result Plan TooLarge
fine p = Ok p

same_plan : (p q : Plan) → fine p ≡ Ok q → p ≡ q
same_plan p q e = cc

planned : (payload : List ℕ) (up down : ℕ) (p : Plan) → plan_of payload forms.Auto up down ≡ Ok p → auto_plan payload up (auto_offer payload down (inline_plan payload)) ≡ p
unfolding plan_of
planned payload up down p e =
    let q : Plan = auto_plan payload up (auto_offer payload down (inline_plan payload)) in
    same_plan q p (within_ok (plan_size q) up (Ok q) p (within_ok (length payload) PAYLOAD_MAX (within (plan_size q) up (Ok q)) p e))

-- ===== the call

both : (a b : Bool) → (a && b) ≡ true → (a ≡ true) × (b ≡ true)
both true b e = (refl, e)
both false b e = absurd cc

abbrev nothing : Option ℕ
nothing = None

same_number : (x y : ℕ) → Some x ≡ Some y → x ≡ y
same_number x y e = cc

module _ (s : Parameters) (st : State) (m : Moment) (payload : List ℕ) (bytes : IsBytes payload) (sane : IsSane st.tree) (down : ℕ) (room : send_unit ≤ down) where
  module _ (offer : ChunkLists) (stag n : ℕ) (is : offer.write ≡ segments_from stag 0 (segments_for n) ∷ []) where
    module _ (xid : ℕ) (fits : xid < 2 ^ 32) (cred : Cred) (args_at : ℕ) where
      abbrev Goal : ℕ → ℕ → ℕ → Type 0
      Goal prog vers proc = answer_for offer down prog vers proc (answer_to s st m payload (calls.Version2 xid prog vers proc cred args_at)).reply ≢ None

      of_nfs : (prog vers proc k : ℕ) → prog ≡ 100003 → vers ≡ 3 → proc ≡ k → Goal 100003 3 k → Goal prog vers proc
      of_nfs prog vers proc k a b c goal = subst (λ (x : ℕ). Goal x vers proc) (sym a) (subst (λ (x : ℕ). Goal 100003 x proc) (sym b) (subst (λ (x : ℕ). Goal 100003 3 x) (sym c) goal))

      read_held : (o : Option ℕ) → read_count (from_place args_at payload) ≡ o → moved_offer o ≡ Some n → Goal 100003 3 6
      read_held None asked e = absurd cc
      read_held (Some count) asked e =
          chunk_held (answer_to s st m payload (calls.Version2 xid 100003 3 6 cred args_at)).reply down room offer stag n 6 is
          (let most = min-le_right count transfer_max in omega (arith, most, same_number (min count transfer_max) n e))
          (subst (λ (k : ℕ). IsSuited k 6 (answer_to s st m payload (calls.Version2 xid 100003 3 6 cred args_at)).reply) (same_number (min count transfer_max) n e) (read_call_suited s st sane m payload bytes xid fits cred args_at count asked))

      readlink_held : link_target_max ≡ n → Goal 100003 3 5
      readlink_held e =
          chunk_held (answer_to s st m payload (calls.Version2 xid 100003 3 5 cred args_at)).reply down room offer stag n 5 is (omega (arith, e))
          (subst (λ (k : ℕ). IsSuited k 5 (answer_to s st m payload (calls.Version2 xid 100003 3 5 cred args_at)).reply) e (readlink_call_suited s st sane m payload bytes xid fits cred args_at))

      argument_held : (prog vers proc : ℕ) → argument_offer prog vers proc (from_place args_at payload) ≡ Some n → Goal prog vers proc
      argument_held prog vers proc e =
          elim (chosen (is_nfs prog vers && eqb proc 6) (moved_offer (read_count (from_place args_at payload))) (cond (is_nfs prog vers && eqb proc 5) (Some link_target_max) None) (Some n) e) [
            | inl read ↦
                let a = both (is_nfs prog vers) (eqb proc 6) read.0 in
                let b = both (eqb prog 100003) (eqb vers 3) a.0 in
                of_nfs prog vers proc 6 (eqb-true prog 100003 b.0) (eqb-true vers 3 b.1) (eqb-true proc 6 a.1) (read_held (read_count (from_place args_at payload)) refl read.1)
            | inr others ↦
                elim (chosen (is_nfs prog vers && eqb proc 5) (Some link_target_max) None (Some n) others.1) [
                  | inl link ↦
                      let a = both (is_nfs prog vers) (eqb proc 5) link.0 in
                      let b = both (eqb prog 100003) (eqb vers 3) a.0 in
                      of_nfs prog vers proc 5 (eqb-true prog 100003 b.0) (eqb-true vers 3 b.1) (eqb-true proc 5 a.1) (readlink_held (same_number link_target_max n link.1))
                  | inr neither ↦ absurd (let wrong : nothing ≡ Some n = neither.1 in cc)
                ]
          ]

    write_held : (head : CallHead) → head_xid head < 2 ^ 32 → target_offer payload (target_of (Ok head)) ≡ Some n → answer_of_target offer down (answer_to s st m payload head).reply (target_of (Ok head)) ≢ None
    write_held (calls.Version2 xid prog vers proc cred args_at) fits e = argument_held xid fits cred args_at prog vers proc e
    write_held (calls.Other xid rpcvers) fits e = absurd cc

  module _ (head : CallHead) (found : call_of payload ≡ Ok head) where
    abbrev reply : List ℕ
    reply = (answer_to s st m payload head).reply

    short : length reply ≤ largest_reply payload
    short = within_limit s st m payload (answer_to s st m payload head) bytes sane (ap (answer_by s st m payload) found)

    abbrev Holding : Plan → Type 0
    Holding q = (offer : ChunkLists) (ws rs : ℕ) → offer.write ≡ write_list ws q.write → offer.reply ≡ reply_chunk rs q.reply → answer_of_target offer down reply (target_of (Ok head)) ≢ None

    offering_holds : (o : Option ℕ) → target_offer payload (target_of (Ok head)) ≡ o → Holding (offering payload o (inline_plan payload))
    offering_holds None e offer ws rs w r =
        any_target reply down room offer (target_of (Ok head)) (λ prog vers proc. long_held reply down room offer rs (largest_reply payload) prog vers proc w r short)
    offering_holds (Some n) e offer ws rs w r =
        write_held offer ws n w head (xid_fits payload head bytes found) e

    write_offer_is : write_offer payload ≡ target_offer payload (target_of (Ok head))
    unfolding write_offer
    write_offer_is = ap (λ (r : Result CallHead ℕ). target_offer payload (target_of r)) found

    auto_holds : Holding (auto_offer payload down (inline_plan payload))
    auto_holds = by (leb (HEADER_LEN_MIN + largest_reply payload) down) refl
      where
        by : (b : Bool) → leb (HEADER_LEN_MIN + largest_reply payload) down ≡ b → Holding (cond b (inline_plan payload) (offering payload (write_offer payload) (inline_plan payload)))
        by true le = λ offer ws rs w r. any_target reply down room offer (target_of (Ok head)) (λ prog vers proc. none_held reply down room offer prog vers proc w (omega (arith, short, leb-true (HEADER_LEN_MIN + largest_reply payload) down le)))
        by false gt = offering_holds (write_offer payload) (sym write_offer_is)

    plan_holds : (up stag : ℕ) (p : Plan) → plan_of payload forms.Auto up down ≡ Ok p → answer_of_target (lists_of stag p) down reply (target_of (Ok head)) ≢ None
    unfolding lists_of
    plan_holds up stag p e =
        let q : Plan = auto_offer payload down (inline_plan payload) in
        let kept : Keeps q p = subst (Keeps q) (planned payload up down p e) (auto_keeps payload up q) in
        auto_holds (lists_of stag p) (write_stag stag p) (reply_stag stag p) (ap (write_list (write_stag stag p)) kept.0) (ap (reply_chunk (reply_stag stag p)) kept.1)

pub auto_held : (s : Parameters) (st : State) (m : Moment) (payload : List ℕ) (a : Answer) (up down stag : ℕ) (p : Plan) → IsBytes payload → IsSane st.tree → plain_answer s st m payload ≡ Some a → send_unit ≤ down → plan_of payload forms.Auto up down ≡ Ok p
    → answer_of_target (lists_of stag p) down a.reply (target_of (call_of payload)) ≢ None
auto_held s st m payload a up down stag p bytes sane e room plan = by (call_of payload) refl e
  where
    by : (r : Result CallHead ℕ) → call_of payload ≡ r → answer_by s st m payload r ≡ Some a → answer_of_target (lists_of stag p) down a.reply (target_of r) ≢ None
    by (Ok head) is found =
        subst (λ (b : Answer). answer_of_target (lists_of stag p) down b.reply (target_of (Ok head)) ≢ None) (same_answer (answer_to s st m payload head) a found) (plan_holds s st m payload bytes sane down room head is up stag p plan)
    by (Err at) is found = absurd cc
