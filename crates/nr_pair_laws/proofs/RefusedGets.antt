-- A `get` that ended with a status of NFS: the call that was refused with it.
use Rattle.std.proofs.Common.{◌≡◌, ◌⊎◌, ℕ, ◌≤◌, ◌<◌, ◌^◌, Bool, true, false, cond, eqb, ltb, List, [], ◌∷◌, ◌++◌, length, Option, Some, Result, Ok, Err, inl, inr, refl, ap, sym, ◌∙◌, subst, arith, append_assoc}
use Rattle.std.specs.Prelude.{MatchBool, nat_lt}
use Rattle.std.specs.List.{fold}
use Rattle.std.proofs.lemmas.Bool.{ltb-true}
use Rattle.std.proofs.lemmas.List.Folds.{fold_stays}
use Rattle.nr_rpc.specs.Reading.{reply_of}
use Rattle.nr_rpc.specs.declared.head.ReplyHead.{ReplyHead}
use Rattle.nr_rpc.specs.declared.head.ReplyHead.TheVariants as heads
use Rattle.nr_nfs_base.specs.Codec.{Codec, void}
use Rattle.nr_nfs_base.specs.MountStatus.{mount_status_number, mount_statuses}
use Rattle.nr_nfs_base.specs.StatusUnion.{status_union_codec}
use Rattle.nr_nfs_base.specs.declared.attributes.Attributes.{Attributes}
use Rattle.nr_nfs_base.specs.declared.mount_status.MountStatus.{MountStatus}
use Rattle.nr_nfs_base.specs.declared.status.Status.{Status}
use Rattle.nr_nfs_base.specs.declared.status.Status.TheVariants.{Acces}
use Rattle.nr_nfs_base.specs.declared.status_union.StatusUnion.{StatusUnion}
use Rattle.nr_nfs_base.specs.declared.status_union.StatusUnion.TheVariants.{Done, Failed}
use Rattle.nr_nfs_res.specs.Mount.{mount_ok_codec}
use Rattle.nr_nfs_res.specs.declared.bytes.ReadOk.{ReadOk}
use Rattle.nr_nfs_res.specs.declared.mount.MountOk.{MountOk}
use Rattle.nr_outside.specs.Streams.{SinkAt}
use Rattle.nr_words.specs.Limits.{mount_path_max}
use Rattle.nr_reduce.specs.declared.call.Call.{Call}
use Rattle.nr_reduce.specs.declared.call.Outcome.{Outcome}
use Rattle.nr_reduce.specs.declared.call.Outcome.TheVariants as outcomes
use Rattle.nr_reduce.specs.declared.mark.Entry.{Entry}
use Rattle.nr_tree.specs.Sane.{IsSane}
use Rattle.nr_tree.specs.declared.node.Content.TheVariants.{Regular}
use Rattle.nr_plain.specs.Journal.{tree_at}
use Rattle.nr_plain.specs.Setup.{Setup}
use Rattle.nr_plain.proofs.Lengths.{length_handle}
use Rattle.nr_client.specs.declared.client_end.ClientEnd.{ClientEnd}
use Rattle.nr_client.specs.declared.client_end.ClientEnd.TheVariants as client
use Rattle.nr_client.specs.declared.client_end.RpcKind.TheVariants as kinds
use Rattle.nr_client.specs.Following.{EndsWith, Follows, Next, Unanswered, go_on}
use Rattle.nr_client.specs.Following.Next.{Calls, Returns}
use Rattle.nr_client.specs.Paths.{path_names}
use Rattle.nr_client.specs.Reading.{EndsReading, FileRead, OpenRead, ReadsFile, after_reply, next_read, offset_after, piece_left, read_call, read_result, reading, starts_at, with_data, with_size}
use Rattle.nr_client.specs.Reading.EndsReadingOver.{EndsByReplies, NotAnswered, NotSubmitted, OldestForgotten, OutputFails}
use Rattle.nr_client.specs.Reading.FileRead.{NothingKnown, ReadEnds, SizeKnown}
use Rattle.nr_client.specs.Requests.{getattr_result, handle_of as root_of, lookup_call, mnt_call, mnt_result}
use Rattle.nr_client.specs.Results.{Gives, mount_done, result_by_reading, result_of_outcome, results_in, results_or}
use Rattle.nr_client.specs.Walking.{object_result, walk_from, walk_next}
use Rattle.nr_client.specs.Views.{LinkView}
use Rattle.nr_commands.specs.Commands.{Finds}
use Rattle.nr_commands.specs.Sessions.{Fails, Request, SessionAt}
use Rattle.nr_service_laws.specs.Exchanges.{Exchange, followed_exchanges, made_exchanges, read_exchanges, steps_exchanges, tells_finds, tells_mounts}
use Rattle.nr_service_laws.specs.Exchanges.Exchange.{Answered, Forgotten, GivenUp, HandedOver, Submitted}
use Rattle.nr_service_laws.specs.ReplyEnds.{AreAnswers, IsAnsweredBy, IsHandedOver}
use Rattle.nr_service_laws.proofs.JudgedParts.{AreJudged, IsOf, answers_of, judged_both, reads_after, steps_judged}
use Rattle.nr_reply_laws.specs.Replies.{AreIds}
use Rattle.nr_pair_laws.specs.FilesAt.{KeepPath, handle_along}
use Rattle.nr_pair_laws.specs.Pairs.{AreAnsweredFrom, IsAnsweredAt}
use Rattle.nr_pair_laws.specs.PutThenGet.{AnsweredSince, HoldsFile, OnCall, root_handle}
use Rattle.nr_pair_laws.specs.RefusedCalls.{GetsAreRefused, command_caller}
use Rattle.nr_pair_laws.specs.RefusedGets.{GetsEndForACause, HasCause}
use Rattle.nr_pair_laws.specs.RefusedGets.HasCause.{OfLookup, OfRead}
use Rattle.nr_pair_laws.specs.Refusals.{IsLookupRefusal}
use Rattle.nr_pair_laws.proofs.Calls.{looked_up, size_at}
use Rattle.nr_pair_laws.proofs.FileReads.{left_few, request_after}
use Rattle.nr_pair_laws.proofs.Getting.{AnsweredAfter, followed, judged, mounted, since}
use Rattle.nr_pair_laws.proofs.Kept.{file_kept, kept}
use Rattle.nr_pair_laws.proofs.Mounts.{mounted_at}
use Rattle.nr_pair_laws.proofs.PutThenGet.{file_few}
use Rattle.nr_pair_laws.proofs.RefusedCalls.{gets_are_refused_for_rights_lem, handle_long}
use Rattle.nr_pair_laws.proofs.Paths.{content_node}
use Rattle.nr_pair_laws.proofs.Walked.{AreShort, path_short, step_leads, walk_found}

-- ---- Each call with its outcome, at its place

-- each outcome that is handed over is one of the call that was submitted
all_told : (all : Call → Outcome → Type 0) (reads : List OpenRead) (made : List Exchange) → ((xid : ℕ) (call : Call) (o : Outcome) → IsOf reads xid call → IsHandedOver made xid o → all call o)
    → ((call : Call) (o : Outcome) → IsAnsweredBy made call o → all call o) → AreJudged all reads made
all_told all reads [] later has = tt
all_told all reads (Answered call outcome ∷ rest) later has = (has call outcome (inl (refl, refl)), all_told all reads rest later (λ c o is. has c o (inr is)))
all_told all reads (Forgotten call ∷ rest) later has = all_told all reads rest later has
all_told all reads (Submitted xid call ∷ rest) later has = all_told all (record { xid = xid; call = call } ∷ reads) rest one (λ c o is. has c o (inr is))
  where
    one : (number : ℕ) (c : Call) (o : Outcome) → ((xid ≡ number) × (call ≡ c)) ⊎ IsOf reads number c → IsHandedOver rest number o → all c o
    one number c o (inl (same, is)) handed = has c o (inl (is, subst (λ (n : ℕ). IsHandedOver rest n o) (sym same) handed))
    one number c o (inr is) handed = later number c o is handed
all_told all reads (HandedOver xid outcome ∷ rest) later has =
    ((λ call is. later xid call outcome is (inl (refl, refl))), all_told all reads rest (λ number c o is handed. later number c o is (inr handed)) has)
all_told all reads (GivenUp xid ∷ rest) later has = all_told all reads rest later has

-- both are so of each call and its outcome
abbrev Both : (R S : Call → Outcome → Type 0) → Call → Outcome → Type 0
Both R S call o = R call o × S call o

both_judged : (R S : Call → Outcome → Type 0) (reads : List OpenRead) (made : List Exchange) → AreJudged R reads made → AreJudged S reads made → AreJudged (Both R S) reads made
both_judged R S reads [] r t = tt
both_judged R S reads (Answered call outcome ∷ rest) r t = ((r.0, t.0), both_judged R S reads rest r.1 t.1)
both_judged R S reads (Forgotten call ∷ rest) r t = both_judged R S reads rest r t
both_judged R S reads (Submitted xid call ∷ rest) r t = both_judged R S (record { xid = xid; call = call } ∷ reads) rest r t
both_judged R S reads (HandedOver xid outcome ∷ rest) r t = ((λ call is. (r.0 call is, t.0 call is)), both_judged R S reads rest r.1 t.1)
both_judged R S reads (GivenUp xid ∷ rest) r t = both_judged R S reads rest r t

firsts : {A : Type 0} (R S : Call → Outcome → Type 0) (request : List Outcome → Next A) (os : List Outcome) → AreAnswers (Both R S) request os → AreAnswers R request os
firsts R S request [] are = tt
firsts R S request (o ∷ os) ((call, (is, (r, t))), are) = ((call, (is, r)), firsts R S (λ later. request (o ∷ later)) os are)

seconds : {A : Type 0} (R S : Call → Outcome → Type 0) (request : List Outcome → Next A) (os : List Outcome) → AreAnswers (Both R S) request os → AreAnswers S request os
seconds R S request [] are = tt
seconds R S request (o ∷ os) ((call, (is, (r, t))), are) = ((call, (is, t)), seconds R S (λ later. request (o ∷ later)) os are)

-- the call that a request makes is the one that was answered
pub same_call : {A : Type 0} (S : Call → Outcome → Type 0) (made call : Call) (o : Outcome) → ◌≡◌ {A = Next A} (Calls made) (Calls call) → S call o → S made o
same_call S made call o is t = let same : made ≡ call = cc in subst (λ (c : Call). S c o) (sym same) t

-- each outcome of these exchanges is that of its call, at a place of the journal
each_placed_call : (s : Setup) (J : List Entry) (from : ℕ) (made : List Exchange) → AreAnsweredFrom s J from [] made → AreJudged (Both (AnsweredAfter s J from) (IsAnsweredBy made)) [] made
each_placed_call s J from made are =
    both_judged (AnsweredAfter s J from) (IsAnsweredBy made) [] made (judged s J from made [] from (omega arith) tt are)
    (all_told (IsAnsweredBy made) [] made (λ xid call o is handed. absurd is) (λ call o is. is))

-- ---- The end of a request

-- a request that ended with a status of NFS by these outcomes
record EndsByStatus {A : Type 0} (R : Call → Outcome → Type 0) (request : List Outcome → Next A) (status : Status) : Type 0 where
  outcomes : List Outcome
  answers : AreAnswers R request outcomes
  is : request outcomes ≡ Returns (Err (client.Nfs status))

-- the end of a call without an answer is no status
unanswered : (call : Call) (b c : LinkView) (status : Status) (end : ClientEnd) → end ≡ client.Nfs status → Unanswered call b c end → ⊥
unanswered call b c status end nfs (inl (cause, (is, rest))) = absurd (let wrong : client.Nfs status ≡ client.Link cause = sym nfs ∙ is in cc)
unanswered call b c status end nfs (inr (is, rest)) = absurd (let wrong : client.Nfs status ≡ client.Memory = sym nfs ∙ is in cc)

the_end : {A : Type 0} (given : Result A ClientEnd) (end : ClientEnd) (status : Status) → given ≡ Err (client.Nfs status) → given ≡ Err end → end ≡ client.Nfs status
the_end given end status is same = (let both : Err end ≡ Err (client.Nfs status) = sym same ∙ is in let nfs : end ≡ client.Nfs status = cc in nfs)

ended_by : {A : Type 0} (R : Call → Outcome → Type 0) (request : List Outcome → Next A) (b c : LinkView) (status : Status) (given : Result A ClientEnd) → given ≡ Err (client.Nfs status)
    → (f : Follows request b c given) (before : List OpenRead) → AreJudged R before (followed_exchanges request b c given f).made → EndsByStatus R request status
ended_by {A} R request b c status given is f before are =
    let made = (made_exchanges request f.outcomes b f.between f.made).made in
    record { outcomes = f.outcomes; answers = answers_of R request f.outcomes b f.between f.made before (judged_both R before made _ are).0; is = ends (request f.outcomes) f.ends }
  where
    ends : (next : Next A) → EndsWith next f.between c given → next ≡ Returns (Err (client.Nfs status))
    ends (Returns result) (gives, same) = ap (λ (r : Result A ClientEnd). Returns r) (subst (λ (g : Result A ClientEnd). Gives g result) is gives)
    ends (Calls call) (end, (same, gone)) = absurd (unanswered call f.between c status end (the_end given end status is same) gone)

-- ---- MNT ends with no status of NFS

results_end : {A : Type 0} (r : Result A ℕ) (status : Status) → results_or r ≡ Err (client.Nfs status) → ⊥
results_end (Ok value) status e = absurd cc
results_end (Err at) status e = absurd cc

accepted_end : {A : Type 0} (b : Bool) (r : Result A ℕ) (stat : ℕ) (status : Status) → cond b (results_or r) (Err (client.Rpc kinds.Accept stat)) ≡ Err (client.Nfs status) → ⊥
accepted_end true r stat status e = results_end r status e
accepted_end false r stat status e = absurd cc

head_end : {A : Type 0} (codec : Codec A) (payload : List ℕ) (head : Result ReplyHead ℕ) (status : Status) → result_by_reading codec payload head ≡ Err (client.Nfs status) → ⊥
head_end codec payload (Ok (heads.Accepted xid stat results_at)) status e = accepted_end (eqb stat 0) (results_in codec payload results_at) stat status e
head_end codec payload (Ok (heads.ProgMismatch xid low high)) status e = absurd cc
head_end codec payload (Ok (heads.RpcMismatch xid low high)) status e = absurd cc
head_end codec payload (Ok (heads.AuthError xid stat)) status e = absurd cc
head_end codec payload (Err at) status e = absurd cc

outcome_end : {A : Type 0} (codec : Codec A) (o : Outcome) (status : Status) → result_of_outcome codec o ≡ Err (client.Nfs status) → ⊥
outcome_end codec (outcomes.Reply payload) status e = head_end codec payload (reply_of payload) status e
outcome_end codec outcomes.Chunk status e = absurd cc
outcome_end codec (outcomes.Version low high) status e = absurd cc

mount_end : (r : Result (StatusUnion MountOk (Unit {0}) MountStatus) ClientEnd) (status : Status) → root_of (mount_done r) ≡ Err (client.Nfs status) → r ≡ Err (client.Nfs status)
mount_end (Ok (Done d)) status e = absurd cc
mount_end (Ok (Failed m part)) status e = absurd cc
mount_end (Err end) status e = let same : end ≡ client.Nfs status = cc in ap (λ (x : ClientEnd). Err x) same

no_mount : (uid gid : ℕ) (export : List ℕ) (before after : SessionAt) (end : ClientEnd) (status : Status) → end ≡ client.Nfs status → (b : Bool)
    → MatchBool b (Fails {A = List ℕ} (client.Budget mount_path_max) before after (Err end)) (Request mnt_result (mnt_call uid gid export) before after (Err end)) → ⊥
no_mount uid gid export before after end status nfs true (same, wrong) = absurd (let budget : end ≡ client.Budget mount_path_max = cc in let clash : client.Nfs status ≡ client.Budget mount_path_max = sym nfs ∙ budget in cc)
no_mount uid gid export before after end status nfs false ((inl (o, (answers, gives))), counts) =
    let is : mnt_result o ≡ Err (client.Nfs status) = subst (λ (e : ClientEnd). Gives (Err e) (mnt_result o)) nfs gives in
    outcome_end (status_union_codec mount_status_number mount_statuses mount_ok_codec void) o status (mount_end (result_of_outcome (status_union_codec mount_status_number mount_statuses mount_ok_codec void) o) status is)
no_mount uid gid export before after end status nfs false ((inr (inl (cause, (is, rest)))), counts) =
    absurd (let link : end ≡ client.Link cause = cc in let clash : client.Nfs status ≡ client.Link cause = sym nfs ∙ link in cc)
no_mount uid gid export before after end status nfs false ((inr (inr (is, same))), counts) =
    absurd (let memory : end ≡ client.Memory = cc in let clash : client.Nfs status ≡ client.Memory = sym nfs ∙ memory in cc)

-- ---- The call that was refused

abbrev EndsWithStatus : Status → Next (Unit {0}) → Type 0
EndsWithStatus status next = next ≡ Returns (Err (client.Nfs status))

module _ (s : Setup) (J : List Entry) (uid gid : ℕ) (ids : AreIds uid gid) (names : List (List ℕ)) (bytes : List ℕ) (from : ℕ) (h : HoldsFile s J names bytes from) (sane : IsSane s.tree) (made : List Exchange) where
  abbrev Cause : Status → Type 0
  Cause status = (place : ℕ) × ((from ≤ place) × HasCause s J uid gid made names h.file status place)

  abbrev Told : {A : Type 0} → (List Outcome → Next A) → List Outcome → Type 0
  Told request os = AreAnswers (IsAnsweredBy made) request os

  refused_at : (place : ℕ) → from ≤ place → KeepPath s J root_handle names from place → GetsAreRefused s J uid gid names h.file place
  refused_at place rises keeps = gets_are_refused_for_rights_lem s J uid gid names bytes from place h sane ids rises keeps

  walk_refused : (rest walked : List (List ℕ)) (dir : List ℕ) (os : List Outcome) (status : Status) → AreShort rest → walked ++ rest ≡ names
      → handle_along (tree_at s J from) root_handle walked ≡ Some dir → length dir ≡ 8 → AnsweredSince s J (KeepPath s J root_handle names) (walk_from uid gid dir rest) os from
      → Told (walk_from uid gid dir rest) os → walk_from uid gid dir rest os ≡ Returns (Err (client.Nfs status)) → Cause status
  walk_refused [] walked dir [] status few whole leads long calls told ends = absurd cc
  walk_refused [] walked dir (o ∷ os) status few whole leads long calls told ends = absurd calls
  walk_refused (name ∷ rest) walked dir [] status few whole leads long calls told ends = absurd cc
  walk_refused (name ∷ rest) walked dir (o ∷ os) status few whole leads long (place, answered, (rises, (keeps, later))) ((call, (is, by_call)), told) ends =
      by (object_result o) refl ends later told
      (λ g goes more calls others good. walk_refused rest (walked ++ name ∷ []) g os status few.1 (append_assoc walked (name ∷ []) rest ∙ whole) goes more calls others good)
    where
      by : (r : Result (List ℕ) ClientEnd) → object_result o ≡ r → go_on r (λ object. walk_from uid gid object rest os) ≡ Returns (Err (client.Nfs status))
          → AnsweredSince s J (KeepPath s J root_handle names) (λ more. go_on r (λ object. walk_from uid gid object rest more)) os from
          → Told (λ more. go_on r (λ object. walk_from uid gid object rest more)) os
          → ((g : List ℕ) → handle_along (tree_at s J from) root_handle (walked ++ name ∷ []) ≡ Some g → length g ≡ 8
          → AnsweredSince s J (KeepPath s J root_handle names) (walk_from uid gid g rest) os from → Told (walk_from uid gid g rest) os
          → walk_from uid gid g rest os ≡ Returns (Err (client.Nfs status)) → Cause status)
          → Cause status
      by (Err end) found bad calls others rest_of =
          let nfs : end ≡ client.Nfs status = cc in
          let here : handle_along (tree_at s J place) root_handle walked ≡ Some dir = (kept s J root_handle names from place rises keeps).leads walked (name ∷ rest) whole ∙ leads in
          let f = (refused_at place rises keeps).lookups walked rest name dir whole here o answered end found in
          let both : client.Nfs f.0 ≡ client.Nfs status = sym f.1.0 ∙ nfs in
          let same : f.0 ≡ status = cc in
          let told_so : IsAnsweredBy made (lookup_call uid gid dir name) o = same_call {A = List ℕ} (IsAnsweredBy made) (lookup_call uid gid dir name) call o is by_call in (
            place,
            (
              rises,
              OfLookup walked rest name dir o told_so (found ∙ ap (λ (e : ClientEnd). Err e) nfs) answered whole here f.1.1.0 f.1.1.1.0
                  (subst (λ (k : Status). IsLookupRefusal (command_caller uid gid) f.1.1.0 name k) same f.1.1.1.1),
            ),
          )
      by (Ok g) found good calls others rest_of =
          let at = looked_up s J uid gid ids dir name o place (omega (arith, long)) few.0 answered g found in
          let back = (kept s J root_handle names from place rises keeps).leads (walked ++ name ∷ []) rest (append_assoc walked (name ∷ []) rest ∙ whole) in
          rest_of g (sym back ∙ step_leads s J uid gid ids names walked rest name dir g from place whole leads rises keeps at.0) at.1.0 calls others good

  -- the end of READs that ended stays
  read_end : (end : ClientEnd) (taken : List ℕ) (os : List Outcome) (status : Status) → EndsWithStatus status (request_after uid gid h.file (ReadEnds end taken) os) → end ≡ client.Nfs status
  read_end end taken os status e =
      let stays : fold after_reply (ReadEnds end taken) os ≡ ReadEnds end taken = fold_stays after_reply (ReadEnds end taken) (λ o. refl) os in
      let is : EndsWithStatus status (Returns (Err end)) = sym (ap (λ (w : FileRead). next_read uid gid h.file w) stays) ∙ e in
      let nfs : end ≡ client.Nfs status = cc in nfs

  pieces_refused : (few : length bytes < 2 ^ 64) (at : ℕ) (taken : List ℕ) (os : List Outcome) (status : Status)
      → AnsweredSince s J (KeepPath s J root_handle names) (request_after uid gid h.file (SizeKnown (length bytes) at taken)) os from
      → Told (request_after uid gid h.file (SizeKnown (length bytes) at taken)) os
      → EndsWithStatus status (request_after uid gid h.file (SizeKnown (length bytes) at taken) os) → Cause status
  pieces_refused few at taken [] status calls told ends = by (ltb at (length bytes)) ends
    where
      by : (b : Bool) → EndsWithStatus status (cond b (Calls (read_call uid gid h.file at (piece_left (length bytes) at))) (Returns (Ok tt))) → Cause status
      by true bad = absurd cc
      by false bad = absurd cc
  pieces_refused few at taken (o ∷ os) status calls told ends =
      by (ltb at (length bytes)) refl calls told.0 (λ next more later others good. pieces_refused few next more os status later others good)
    where
      by : (b : Bool) → ltb at (length bytes) ≡ b
          → OnCall {A = Unit {0}} (cond b (Calls (read_call uid gid h.file at (piece_left (length bytes) at))) (Returns (Ok tt)))
          (λ call. (place : ℕ) × (answered : IsAnsweredAt s J call o place) × ((from ≤ place) × (KeepPath s J root_handle names from place
          × AnsweredSince s J (KeepPath s J root_handle names) (λ more. request_after uid gid h.file (SizeKnown (length bytes) at taken) (o ∷ more)) os from)))
          → (call : Call) × ((◌≡◌ {A = Next (Unit {0})} (cond b (Calls (read_call uid gid h.file at (piece_left (length bytes) at))) (Returns (Ok tt))) (Calls call)) × IsAnsweredBy made call o)
          → ((next : ℕ) (more : List ℕ) → AnsweredSince s J (KeepPath s J root_handle names) (request_after uid gid h.file (SizeKnown (length bytes) next more)) os from
          → Told (request_after uid gid h.file (SizeKnown (length bytes) next more)) os
          → EndsWithStatus status (request_after uid gid h.file (SizeKnown (length bytes) next more) os) → Cause status)
          → Cause status
      by false full none call rest_of = absurd none
      by true less (place, answered, (rises, (keeps, later))) (call, (is, by_call)) rest_of = read (read_result (piece_left (length bytes) at) o) refl later told.1 ends
        where
          read : (r : Result ReadOk ClientEnd) → read_result (piece_left (length bytes) at) o ≡ r
              → AnsweredSince s J (KeepPath s J root_handle names) (request_after uid gid h.file (with_data (length bytes) at taken r)) os from
              → Told (request_after uid gid h.file (with_data (length bytes) at taken r)) os
              → EndsWithStatus status (request_after uid gid h.file (with_data (length bytes) at taken r) os) → Cause status
          read (Ok w) found next_calls others good = rest_of (offset_after (length bytes) at w) (taken ++ w.bytes) next_calls others good
          read (Err end) found next_calls others bad =
              let more : at < length bytes = ltb-true at (length bytes) less in
              let nfs = read_end end taken os status bad in
              let f = (refused_at place rises keeps).reads at (piece_left (length bytes) at) (omega (arith, more, few)) (omega (arith, more)) (left_few (length bytes) at) o answered end found in
              let both : client.Nfs status ≡ client.Nfs Acces = sym nfs ∙ f.0 in
              let same : status ≡ Acces = cc in
              let asked = read_call uid gid h.file at (piece_left (length bytes) at) in
              let told_so : IsAnsweredBy made asked o = same_call {A = Unit {0}} (IsAnsweredBy made) asked call o is by_call in
              (place, (rises, OfRead at (piece_left (length bytes) at) o told_so (found ∙ ap (λ (e : ClientEnd). Err e) nfs) answered f.1.0 f.1.1.0 same f.1.1.1))

  reading_refused : (os : List Outcome) (status : Status) → AnsweredSince s J (KeepPath s J root_handle names) (request_after uid gid h.file NothingKnown) os from
      → Told (request_after uid gid h.file NothingKnown) os → EndsWithStatus status (request_after uid gid h.file NothingKnown os) → Cause status
  reading_refused [] status calls told ends = absurd cc
  reading_refused (o ∷ os) status (place, answered, (rises, (keeps, calls))) told ends = by (getattr_result o) refl calls told.1 ends
    where
      by : (r : Result Attributes ClientEnd) → getattr_result o ≡ r → AnsweredSince s J (KeepPath s J root_handle names) (request_after uid gid h.file (with_size r)) os from
          → Told (request_after uid gid h.file (with_size r)) os → EndsWithStatus status (request_after uid gid h.file (with_size r) os) → Cause status
      by (Err end) is next_calls others bad = absurd (let w = (refused_at place rises keeps).getattr o answered in let wrong : Ok w.0 ≡ Err end = sym w.1 ∙ is in cc)
      by (Ok attributes) is next_calls others good =
          let few = file_few s J from h.file bytes sane h.holds in
          let node = content_node (tree_at s J from) h.file (Regular bytes) h.holds in
          let there = (file_kept root_handle names (tree_at s J from) (tree_at s J place) h.file (Regular bytes) (kept s J root_handle names from place rises keeps) h.leads h.holds).1 in
          let size : attributes.size ≡ length bytes = size_at s J uid gid ids h.file o place bytes (handle_long (tree_at s J from) h.file node.0 node.1.0) few there answered attributes is in
          pieces_refused few 0 [] os status
          (subst (λ (n : ℕ). AnsweredSince s J (KeepPath s J root_handle names) (request_after uid gid h.file (SizeKnown n 0 [])) os from) size next_calls)
          (subst (λ (n : ℕ). Told (request_after uid gid h.file (SizeKnown n 0 [])) os) size others)
          (subst (λ (n : ℕ). EndsWithStatus status (request_after uid gid h.file (SizeKnown n 0 []) os)) size good)

  -- ---- The command

  module _ (export path : List ℕ) (names_are : path_names path ≡ Ok names) (keep : KeepPath s J root_handle names from (length J)) (status : Status) where
    abbrev Answers : Call → Outcome → Type 0
    Answers = AnsweredAfter s J from

    abbrev Each : Call → Outcome → Type 0
    Each = Both Answers (IsAnsweredBy made)

    -- the root, by an answered MNT
    root_is : (root : List ℕ) (mount : (o : Outcome) × ((mnt_result o ≡ Ok root) × Each (mnt_call uid gid export) o)) → root ≡ root_handle
    root_is root mount = (mounted_at s J uid gid ids export mount.0 mount.1.1.0.0 mount.1.1.0.1.0 root mount.1.0).0

    -- a walk from there, by the names
    walks_since : (root : List ℕ) (os : List Outcome) → AreAnswers Each (walk_next uid gid root path) os → AnsweredSince s J (KeepPath s J root_handle names) (walk_from uid gid root names) os from
    walks_since root os are =
        subst (λ (r : Result (List (List ℕ)) ClientEnd). AnsweredSince s J (KeepPath s J root_handle names) (λ more. go_on r (λ ns. walk_from uid gid root ns more)) os from) names_are
        (since s J from root_handle names keep (walk_next uid gid root path) os (firsts Answers (IsAnsweredBy made) (walk_next uid gid root path) os are))

    walks_told : (root : List ℕ) (os : List Outcome) → AreAnswers Each (walk_next uid gid root path) os → Told (walk_from uid gid root names) os
    walks_told root os are =
        subst (λ (r : Result (List (List ℕ)) ClientEnd). Told (λ more. go_on r (λ ns. walk_from uid gid root ns more)) os) names_are
        (seconds Answers (IsAnsweredBy made) (walk_next uid gid root path) os are)

    walks_to : (root : List ℕ) (os : List Outcome) (result : Next (List ℕ)) → walk_next uid gid root path os ≡ result → walk_from uid gid root names os ≡ result
    walks_to root os result is = ap (λ (r : Result (List (List ℕ)) ClientEnd). go_on r (λ ns. walk_from uid gid root ns os)) (sym names_are) ∙ is

    leads_to_root : (root : List ℕ) → root ≡ root_handle → handle_along (tree_at s J from) root_handle [] ≡ Some root
    leads_to_root root is = ap (λ (k : List ℕ). Some k) (sym is)

    finds_refused : (before after : SessionAt) (end : ClientEnd) → end ≡ client.Nfs status → (finds : Finds uid gid export path before after (Err end))
        → AreJudged Each [] (tells_finds uid gid export path before after (Err end) finds).made → Cause status
    finds_refused before after end nfs (inl (root, (m, (mounts, walks)))) are =
        let mounts_made = (tells_mounts uid gid export before m (Ok root) mounts).made in
        let walks_made = (followed_exchanges (walk_next uid gid root path) m after (Err end) walks.0).made in
        let parts = judged_both Each [] mounts_made walks_made are in
        let root_same = root_is root (mounted Each uid gid export before m root (nat_lt mount_path_max (length export)) mounts parts.0) in
        let walk = ended_by Each (walk_next uid gid root path) m after status (Err end) (ap (λ (e : ClientEnd). Err e) nfs) walks.0 (reads_after [] mounts_made) parts.1 in
        walk_refused names [] root walk.outcomes status (path_short path names names_are) refl (leads_to_root root root_same) (ap length root_same ∙ length_handle 1)
        (walks_since root walk.outcomes walk.answers) (walks_told root walk.outcomes walk.answers) (walks_to root walk.outcomes (Returns (Err (client.Nfs status))) walk.is)
    finds_refused before after end nfs (inr (why, (mounts, same))) are =
        absurd (let is : why ≡ client.Nfs status = the_end (Err end) why status (ap (λ (e : ClientEnd). Err e) nfs) same in
        no_mount uid gid export before after why status is (nat_lt mount_path_max (length export)) mounts)

    -- the replies by which a file was read up to a status
    reads_end : (file : List ℕ) (b c : LinkView) (taken taken' : Option (List ℕ)) (end : ClientEnd) → end ≡ client.Nfs status → (f : ReadsFile uid gid file b c taken taken' (Err end)) (before : List OpenRead)
        → AreJudged Each before (read_exchanges uid gid file b c taken taken' (Err end) f).made → EndsByStatus Each (reading uid gid file) status
    reads_end file b c taken taken' end nfs f before are =
        by f.ends (steps_judged Each uid gid file before b f.between f.last f.made (judged_both Each before (steps_exchanges uid gid file (starts_at b) f.between f.last f.made).made _ are).0).answers
      where
        returned : (next : Next (Unit {0})) → (◌≡◌ {A = Result (Unit {0}) ClientEnd} (Err end) (Err client.Memory)) ⊎ (next ≡ Returns (Err end)) → EndsWithStatus status next
        returned next (inl wrong) = absurd (let memory : end ≡ client.Memory = cc in let clash : client.Nfs status ≡ client.Memory = sym nfs ∙ memory in cc)
        returned next (inr is) = is ∙ ap (λ (e : ClientEnd). Returns (Err e)) nfs

        by : EndsReading uid gid file f.last f.left f.ended taken taken' (Err end) → AreAnswers Each (reading uid gid file) f.last.outcomes → EndsByStatus Each (reading uid gid file) status
        by (EndsByReplies same is waits takes) answers = record { outcomes = f.last.outcomes; answers = answers; is = returned (reading uid gid file f.last.outcomes) is }
        by (OutputFails wrong same waits takes) answers = absurd (let fault : end ≡ client.OutputFault = cc in let clash : client.Nfs status ≡ client.OutputFault = sym nfs ∙ fault in cc)
        by (NotAnswered call why alone is gone waits takes) answers =
            absurd (unanswered call f.last.link f.ended status why (the_end (Err end) why status (ap (λ (e : ClientEnd). Err e) nfs) is) gone)
        by (NotSubmitted call why ahead is refused waits takes) answers =
            absurd (let link : end ≡ client.Link why = cc in let clash : client.Nfs status ≡ client.Link why = sym nfs ∙ link in cc)
        by (OldestForgotten read why full oldest is forgets waits takes) answers =
            absurd (let link : end ≡ client.Link why = cc in let clash : client.Nfs status ≡ client.Link why = sym nfs ∙ link in cc)

    reads_refused : (out out' : SinkAt) (before mid after : SessionAt) (text : Result (List ℕ) ClientEnd) (file : List ℕ) (finds : Finds uid gid export path before mid (Ok file)) (end : ClientEnd) → end ≡ client.Nfs status
        → (reads : ReadsFile uid gid file mid after out.taken out'.taken (Err end))
        → AreJudged Each [] ((tells_finds uid gid export path before mid (Ok file) finds).made ++ (read_exchanges uid gid file mid after out.taken out'.taken (Err end) reads).made)
        → Cause status
    reads_refused out out' before mid after text file (inl (root, (m, (mounts, walks)))) end nfs reads are =
        let finds_made = (tells_finds uid gid export path before mid (Ok file) (inl (root, (m, (mounts, walks))))).made in
        let reads_made = (read_exchanges uid gid file mid after out.taken out'.taken (Err end) reads).made in
        let mounts_made = (tells_mounts uid gid export before m (Ok root) mounts).made in
        let walks_made = (followed_exchanges (walk_next uid gid root path) m mid (Ok file) walks.0).made in
        let parts = judged_both Each [] finds_made reads_made are in
        let found_parts = judged_both Each [] mounts_made walks_made parts.0 in
        let root_same = root_is root (mounted Each uid gid export before m root (nat_lt mount_path_max (length export)) mounts found_parts.0) in
        let walk = followed Each (walk_next uid gid root path) m mid file walks.0 (reads_after [] mounts_made) found_parts.1 in
        let found = walk_found s J uid gid ids names names [] root walk.outcomes from file (path_short path names names_are) refl (leads_to_root root root_same) (ap length root_same ∙ length_handle 1)
        (walks_since root walk.outcomes walk.answers) (walks_to root walk.outcomes (Returns (Ok file)) walk.is) in
        let read = reads_end file mid after out.taken out'.taken end nfs reads (reads_after [] finds_made) parts.1 in
        let both : Some file ≡ Some h.file = sym found.0 ∙ h.leads in
        let same : file ≡ h.file = cc in
        reading_refused read.outcomes status
        (subst (λ (f : List ℕ). AnsweredSince s J (KeepPath s J root_handle names) (reading uid gid f) read.outcomes from) same
        (since s J from root_handle names keep (reading uid gid file) read.outcomes (firsts Answers (IsAnsweredBy made) (reading uid gid file) read.outcomes read.answers)))
        (subst (λ (f : List ℕ). Told (reading uid gid f) read.outcomes) same (seconds Answers (IsAnsweredBy made) (reading uid gid file) read.outcomes read.answers))
        (subst (λ (f : List ℕ). EndsWithStatus status (reading uid gid f read.outcomes)) same read.is)
    reads_refused out out' before mid after text file (inr (why, (is, wrong))) end nfs reads are = absurd (let w = wrong in cc)

pub gets_end_for_a_cause_lem : GetsEndForACause
gets_end_for_a_cause_lem s J uid gid export path names bytes out out' before after status from h (inr (end, (finds, (is, same)))) sane ids names_are keep are =
    let made = (tells_finds uid gid export path before after (Err end) finds).made in
    finds_refused s J uid gid ids names bytes from h sane made export path names_are keep status before after end (the_end (Err (client.Nfs status)) end status refl is) finds (each_placed_call s J from made are)
gets_end_for_a_cause_lem s J uid gid export path names bytes out out' before after status from h (inl (file, (mid, (finds, (Ok done, ((reads, counts), silent)))))) sane ids names_are keep are = absurd silent
gets_end_for_a_cause_lem s J uid gid export path names bytes out out' before after status from h (inl (file, (mid, (finds, (Err end, ((reads, counts), silent)))))) sane ids names_are keep are =
    let made = (tells_finds uid gid export path before mid (Ok file) finds).made ++ (read_exchanges uid gid file mid after out.taken out'.taken (Err end) reads).made in
    reads_refused s J uid gid ids names bytes from h sane made export path names_are keep status out out' before mid after (Err (client.Nfs status)) file finds end (sym silent) reads (each_placed_call s J from made are)
