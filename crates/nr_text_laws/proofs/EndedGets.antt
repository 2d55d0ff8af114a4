-- Each end of a `get` whose path leads to a regular file.
use Rattle.std.proofs.Common.{◌≡◌, ◌⊎◌, ℕ, suc, ◌≤◌, ◌<◌, ◌^◌, Bool, true, false, cond, ltb, List, [], ◌∷◌, ◌++◌, length, Option, Some, Result, Ok, Err, inl, inr, refl, ap, sym, ◌∙◌, subst, arith}
use Rattle.std.specs.Prelude.{nat_lt}
use Rattle.std.specs.List.{fold}
use Rattle.std.proofs.lemmas.Bool.{ltb-true}
use Rattle.std.proofs.lemmas.List.Folds.{fold_stays}
use Rattle.nr_outside.specs.Streams.{SinkAt}
use Rattle.nr_rpc.specs.declared.cred.Cred.TheVariants as creds
use Rattle.nr_words.specs.Limits.{mount_path_max}
use Rattle.nr_nfs_base.specs.declared.attributes.Attributes.{Attributes}
use Rattle.nr_nfs_base.specs.declared.caller.Caller.{Caller}
use Rattle.nr_nfs_base.specs.declared.status.Status.{Status}
use Rattle.nr_nfs_base.specs.declared.status.Status.TheVariants.{Acces}
use Rattle.nr_nfs_base.specs.declared.status_union.StatusUnion.{StatusUnion}
use Rattle.nr_nfs_base.specs.declared.status_union.StatusUnion.TheVariants.{Done, Failed}
use Rattle.nr_nfs_res.specs.declared.bytes.ReadOk.{ReadOk}
use Rattle.nr_nfs_res.specs.declared.lookup.LookupOk.{LookupOk}
use Rattle.nr_reduce.specs.declared.call.Call.{Call}
use Rattle.nr_reduce.specs.declared.call.Outcome.{Outcome}
use Rattle.nr_reduce.specs.declared.mark.Entry.{Entry}
use Rattle.nr_tree.specs.Sane.{IsSane}
use Rattle.nr_tree.specs.Tree.{Tree}
use Rattle.nr_tree.specs.declared.node.Content.TheVariants.{Regular}
use Rattle.nr_ops_list.specs.Lookup.{lookup_reply}
use Rattle.nr_plain.specs.Journal.{tree_at}
use Rattle.nr_plain.specs.Setup.{Setup, caller_of}
use Rattle.nr_plain.proofs.Lengths.{length_handle}
use Rattle.nr_client.specs.declared.client_end.ClientEnd.{ClientEnd}
use Rattle.nr_client.specs.declared.client_end.ClientEnd.TheVariants as client
use Rattle.nr_client.specs.Following.{Next, go_on}
use Rattle.nr_client.specs.Following.Next.{Calls, Returns}
use Rattle.nr_client.specs.Paths.{path_names}
use Rattle.nr_client.specs.Reading.{EndsReading, FileRead, OpenRead, ReadsFile, after_reply, next_read, offset_after, piece_left, read_call, read_result, reading, starts_at, with_data, with_size}
use Rattle.nr_client.specs.Reading.EndsReadingOver.{EndsByReplies, NotAnswered, NotSubmitted, OldestForgotten, OutputFails}
use Rattle.nr_client.specs.Reading.FileRead.{NothingKnown, ReadEnds, SizeKnown}
use Rattle.nr_client.specs.Requests.{getattr_result, machine}
use Rattle.nr_client.specs.Walking.{walk_from, walk_next}
use Rattle.nr_commands.specs.Commands.{Finds, Gets}
use Rattle.nr_commands.specs.Sessions.{SessionAt}
use Rattle.nr_service_laws.specs.Exchanges.{followed_exchanges, read_exchanges, steps_exchanges, tells_finds, tells_get, tells_mounts}
use Rattle.nr_service_laws.specs.ReplyEnds.{AreAnswers}
use Rattle.nr_service_laws.proofs.JudgedParts.{AreJudged, judged_both, reads_after, steps_judged}
use Rattle.nr_reply_laws.specs.Replies.{AreIds}
use Rattle.nr_pair_laws.specs.FilesAt.{KeepPath}
use Rattle.nr_pair_laws.specs.Pairs.{AreAnsweredFrom, IsAnsweredAt}
use Rattle.nr_pair_laws.specs.PutThenGet.{AnsweredSince, HoldsFile, OnCall, root_handle}
use Rattle.nr_pair_laws.specs.RefusedCalls.{GetsAreRefused}
use Rattle.nr_pair_laws.proofs.Calls.{size_at}
use Rattle.nr_pair_laws.proofs.FileReads.{left_few, request_after}
use Rattle.nr_pair_laws.proofs.Getting.{AnsweredAfter, followed, judged, mounted, since}
use Rattle.nr_pair_laws.proofs.Kept.{file_kept, kept}
use Rattle.nr_pair_laws.proofs.Mounts.{mounted_at}
use Rattle.nr_pair_laws.proofs.Paths.{content_node}
use Rattle.nr_pair_laws.proofs.PutThenGet.{file_few}
use Rattle.nr_pair_laws.proofs.RefusedCalls.{gets_are_refused_for_rights_lem, handle_long}
use Rattle.nr_pair_laws.proofs.RefusedGets.{gets_end_for_a_cause_lem}
use Rattle.nr_pair_laws.proofs.Walked.{path_short, walk_found}
use Rattle.nr_text_laws.specs.CommandTexts.{IsUnanswered, file_of, object_along, on_value, result_by, root_of}
use Rattle.nr_text_laws.specs.EndedGets.{EndsForACause, EndsOfGetsHaveCauses}
use Rattle.nr_text_laws.specs.EndedGets.EndsForACause.{NotMounted, OutputFailed, Refused, Unanswered}
use Rattle.nr_text_laws.proofs.Ending.{nothing_more}
use Rattle.nr_text_laws.proofs.Parts.{IsPlaced, no_answer}
use Rattle.nr_text_laws.proofs.Walks.{found}

-- an end that is a status of NFS
abbrev IsStatus : ClientEnd → Type 0
IsStatus end = (status : Status) × (end ≡ client.Nfs status)

abbrev pub EndsAt : ClientEnd → Next (Unit {0}) → Type 0
EndsAt end next = next ≡ Returns (Err end)

-- ---- LOOKUPs

objects_end : (names : List (List ℕ)) (trees : ℕ → Tree) (c : Caller) (dir : List ℕ) (end : ClientEnd) → object_along trees c dir names ≡ Err end → IsStatus end
objects_end [] trees c dir end is = absurd cc
objects_end (name ∷ names) trees c dir end is =
    by (lookup_reply (trees 0) c (record { dir = dir; name = name })) is (λ object goes. objects_end names (λ i. trees (suc i)) c object end goes)
  where
    by : (r : StatusUnion LookupOk (Option Attributes) Status) → on_value (result_by (λ (l : LookupOk). l.object) r) (λ object. object_along (λ i. trees (suc i)) c object names) ≡ Err end
        → ((object : List ℕ) → object_along (λ i. trees (suc i)) c object names ≡ Err end → IsStatus end) → IsStatus end
    by (Done l) goes rest_of = rest_of l.object goes
    by (Failed status part) ends rest_of = (status, (let same : end ≡ client.Nfs status = cc in same))

module _ (s : Setup) (J : List Entry) (uid gid : ℕ) (ids : AreIds uid gid) (names : List (List ℕ)) (bytes : List ℕ) (from : ℕ) (h : HoldsFile s J names bytes from) (sane : IsSane s.tree) where
  pub refused_at : (place : ℕ) → from ≤ place → KeepPath s J root_handle names from place → GetsAreRefused s J uid gid names h.file place
  refused_at place rises keeps = gets_are_refused_for_rights_lem s J uid gid names bytes from place h sane ids rises keeps

  -- ---- READs

  pub read_end : (why : ClientEnd) (taken : List ℕ) (os : List Outcome) (end : ClientEnd) → EndsAt end (request_after uid gid h.file (ReadEnds why taken) os) → why ≡ end
  read_end why taken os end e =
      let stays : fold after_reply (ReadEnds why taken) os ≡ ReadEnds why taken = fold_stays after_reply (ReadEnds why taken) (λ o. refl) os in
      let is : EndsAt end (Returns (Err why)) = sym (ap (λ (w : FileRead). next_read uid gid h.file w) stays) ∙ e in
      let same : why ≡ end = cc in same

  pieces_end : (few : length bytes < 2 ^ 64) (at : ℕ) (taken : List ℕ) (os : List Outcome) (end : ClientEnd)
      → AnsweredSince s J (KeepPath s J root_handle names) (request_after uid gid h.file (SizeKnown (length bytes) at taken)) os from
      → EndsAt end (request_after uid gid h.file (SizeKnown (length bytes) at taken) os) → IsStatus end
  pieces_end few at taken [] end made ends = by (ltb at (length bytes)) ends
    where
      by : (b : Bool) → EndsAt end (cond b (Calls (read_call uid gid h.file at (piece_left (length bytes) at))) (Returns (Ok tt))) → IsStatus end
      by true bad = absurd cc
      by false bad = absurd cc
  pieces_end few at taken (o ∷ os) end made ends = by (ltb at (length bytes)) refl made (λ next more calls good. pieces_end few next more os end calls good)
    where
      by : (b : Bool) → ltb at (length bytes) ≡ b
          → OnCall {A = Unit {0}} (cond b (Calls (read_call uid gid h.file at (piece_left (length bytes) at))) (Returns (Ok tt)))
          (λ call. (place : ℕ) × (answered : IsAnsweredAt s J call o place) × ((from ≤ place) × (KeepPath s J root_handle names from place
          × AnsweredSince s J (KeepPath s J root_handle names) (λ more. request_after uid gid h.file (SizeKnown (length bytes) at taken) (o ∷ more)) os from)))
          → ((next : ℕ) (more : List ℕ) → AnsweredSince s J (KeepPath s J root_handle names) (request_after uid gid h.file (SizeKnown (length bytes) next more)) os from
          → EndsAt end (request_after uid gid h.file (SizeKnown (length bytes) next more) os) → IsStatus end)
          → IsStatus end
      by false full none rest_of = absurd none
      by true less (place, answered, (rises, (keeps, calls))) rest_of = read (read_result (piece_left (length bytes) at) o) refl calls ends
        where
          read : (r : Result ReadOk ClientEnd) → read_result (piece_left (length bytes) at) o ≡ r
              → AnsweredSince s J (KeepPath s J root_handle names) (request_after uid gid h.file (with_data (length bytes) at taken r)) os from
              → EndsAt end (request_after uid gid h.file (with_data (length bytes) at taken r) os) → IsStatus end
          read (Ok w) is next_calls good = rest_of (offset_after (length bytes) at w) (taken ++ w.bytes) next_calls good
          read (Err why) is next_calls bad =
              let more : at < length bytes = ltb-true at (length bytes) less in
              let f = (refused_at place rises keeps).reads at (piece_left (length bytes) at) (omega (arith, more, few)) (omega (arith, more)) (left_few (length bytes) at) o answered why is in
              (Acces, sym (read_end why taken os end bad) ∙ f.0)

  reading_ends : (os : List Outcome) (end : ClientEnd) → AnsweredSince s J (KeepPath s J root_handle names) (request_after uid gid h.file NothingKnown) os from
      → EndsAt end (request_after uid gid h.file NothingKnown os) → IsStatus end
  reading_ends [] end made ends = absurd cc
  reading_ends (o ∷ os) end (place, answered, (rises, (keeps, calls))) ends = by (getattr_result o) refl calls ends
    where
      by : (r : Result Attributes ClientEnd) → getattr_result o ≡ r → AnsweredSince s J (KeepPath s J root_handle names) (request_after uid gid h.file (with_size r)) os from
          → EndsAt end (request_after uid gid h.file (with_size r) os) → IsStatus end
      by (Err why) is next_calls bad = absurd (let w = (refused_at place rises keeps).getattr o answered in let wrong : Ok w.0 ≡ Err why = sym w.1 ∙ is in cc)
      by (Ok attributes) is next_calls good =
          let few = file_few s J from h.file bytes sane h.holds in
          let node = content_node (tree_at s J from) h.file (Regular bytes) h.holds in
          let there = (file_kept root_handle names (tree_at s J from) (tree_at s J place) h.file (Regular bytes) (kept s J root_handle names from place rises keeps) h.leads h.holds).1 in
          let size : attributes.size ≡ length bytes = size_at s J uid gid ids h.file o place bytes (handle_long (tree_at s J from) h.file node.0 node.1.0) few there answered attributes is in
          pieces_end few 0 [] os end
          (subst (λ (n : ℕ). AnsweredSince s J (KeepPath s J root_handle names) (request_after uid gid h.file (SizeKnown n 0 [])) os from) size next_calls)
          (subst (λ (n : ℕ). EndsAt end (request_after uid gid h.file (SizeKnown n 0 []) os)) size good)

  -- ---- The command

  module _ (export path : List ℕ) (names_are : path_names path ≡ Ok names) (keep : KeepPath s J root_handle names from (length J)) where
    abbrev Answers : Call → Outcome → Type 0
    Answers = AnsweredAfter s J from

    -- the file that was found is the one to which the path leads
    pub file_is : (before mid : SessionAt) (file : List ℕ) (finds : Finds uid gid export path before mid (Ok file)) → AreJudged Answers [] (tells_finds uid gid export path before mid (Ok file) finds).made → file ≡ h.file
    file_is before mid file (inl (root, (m, (mounts, walks)))) are =
        let mounts_made = (tells_mounts uid gid export before m (Ok root) mounts).made in
        let walks_made = (followed_exchanges (walk_next uid gid root path) m mid (Ok file) walks.0).made in
        let parts = judged_both Answers [] mounts_made walks_made are in
        let mount = mounted Answers uid gid export before m root (nat_lt mount_path_max (length export)) mounts parts.0 in
        let root_same : root ≡ root_handle = (mounted_at s J uid gid ids export mount.0 mount.1.1.0 mount.1.1.1.0 root mount.1.0).0 in
        let walk = followed Answers (walk_next uid gid root path) m mid file walks.0 (reads_after [] mounts_made) parts.1 in
        let calls : AnsweredSince s J (KeepPath s J root_handle names) (walk_from uid gid root names) walk.outcomes from =
        subst (λ (r : Result (List (List ℕ)) ClientEnd). AnsweredSince s J (KeepPath s J root_handle names) (λ more. go_on r (λ ns. walk_from uid gid root ns more)) walk.outcomes from) names_are
        (since s J from root_handle names keep (walk_next uid gid root path) walk.outcomes walk.answers) in
        let ends : walk_from uid gid root names walk.outcomes ≡ Returns (Ok file) = ap (λ (r : Result (List (List ℕ)) ClientEnd). go_on r (λ ns. walk_from uid gid root ns walk.outcomes)) (sym names_are) ∙ walk.is in
        let goes = walk_found s J uid gid ids names names [] root walk.outcomes from file (path_short path names names_are) refl (ap (λ (k : List ℕ). Some k) (sym root_same)) (ap length root_same ∙ length_handle 1) calls ends in
        let both : Some file ≡ Some h.file = sym goes.0 ∙ h.leads in
        let same : file ≡ h.file = cc in same
    file_is before mid file (inr (why, (is, wrong))) are = absurd (let w = wrong in cc)

    abbrev user : Caller
    user = caller_of (creds.Sys 0 machine uid gid [])

    -- the READs ended so
    abbrev EndsReads : ClientEnd → Type 0
    EndsReads why = IsUnanswered {A = List ℕ} (Err why) ⊎ ((why ≡ client.OutputFault) ⊎ IsStatus why)

    no_more : (why end : ClientEnd) → why ≡ end → IsUnanswered {A = List ℕ} (Err end) → IsUnanswered {A = List ℕ} (Err why)
    no_more why end same un = subst (λ (e : ClientEnd). IsUnanswered {A = List ℕ} (Err e)) (sym same) un

    reads_ended : (out out' : SinkAt) (mid after : SessionAt) (file : List ℕ) → file ≡ h.file → (why : ClientEnd)
        (f : ReadsFile uid gid file mid after out.taken out'.taken (Err why)) (before : List OpenRead)
        → AreJudged Answers before (read_exchanges uid gid file mid after out.taken out'.taken (Err why) f).made → EndsReads why
    reads_ended out out' mid after file same why f before are =
        by f.ends
        (steps_judged Answers uid gid file before mid f.between f.last f.made
        (judged_both Answers before (steps_exchanges uid gid file (starts_at mid) f.between f.last f.made).made _ are).0).answers
      where
        returned : (os : List Outcome) → AreAnswers Answers (reading uid gid file) os → (◌≡◌ {A = Result (Unit {0}) ClientEnd} (Err why) (Err client.Memory)) ⊎ (reading uid gid file os ≡ Returns (Err why)) → EndsReads why
        returned os answers (inl wrong) = inl (no_more why client.Memory (let memory : why ≡ client.Memory = cc in memory) tt)
        returned os answers (inr is) =
            inr (inr (reading_ends os why
            (subst (λ (g : List ℕ). AnsweredSince s J (KeepPath s J root_handle names) (reading uid gid g) os from) same (since s J from root_handle names keep (reading uid gid file) os answers))
            (subst (λ (g : List ℕ). EndsAt why (reading uid gid g os)) same is)))

        by : EndsReading uid gid file f.last f.left f.ended out.taken out'.taken (Err why) → AreAnswers Answers (reading uid gid file) f.last.outcomes → EndsReads why
        by (EndsByReplies still is waits takes) answers = returned f.last.outcomes answers is
        by (OutputFails wrong still waits takes) answers = inr (inl (let fault : why ≡ client.OutputFault = cc in fault))
        by (NotAnswered call end alone is gone waits takes) answers =
            let this : why ≡ end = cc in
            inl (no_answer {A = List ℕ} call f.last.link f.ended end (Err why) (ap (λ (e : ClientEnd). Err e) this) gone)
        by (NotSubmitted call end ahead is refused waits takes) answers = inl (no_more why (client.Link end) (let link : why ≡ client.Link end = cc in link) tt)
        by (OldestForgotten read end full oldest is forgets waits takes) answers = inl (no_more why (client.Link end) (let link : why ≡ client.Link end = cc in link) tt)

    -- a status of NFS has its cause
    refused : (out out' : SinkAt) (before after : SessionAt) (status : Status) (end : ClientEnd) → end ≡ client.Nfs status → (gets : Gets uid gid export path out out' before after (Err end))
        → AreAnsweredFrom s J from [] (tells_get uid gid export path out out' before after (Err end) gets).made
        → EndsForACause s J from uid gid export (tells_get uid gid export path out out' before after (Err end) gets).made names h.file end
    refused out out' before after status end same =
        subst (λ (e : ClientEnd). (gets : Gets uid gid export path out out' before after (Err e)) → AreAnsweredFrom s J from [] (tells_get uid gid export path out out' before after (Err e) gets).made
        → EndsForACause s J from uid gid export (tells_get uid gid export path out out' before after (Err e) gets).made names h.file e) (sym same)
        (λ gets are. let c = gets_end_for_a_cause_lem s J uid gid export path names bytes out out' before after status from h gets sane ids names_are keep are in Refused status refl c.0 c.1.0 c.1.1)

    ended : (out out' : SinkAt) (before after : SessionAt) (end : ClientEnd) (gets : Gets uid gid export path out out' before after (Err end))
        → AreAnsweredFrom s J from [] (tells_get uid gid export path out out' before after (Err end) gets).made
        → EndsForACause s J from uid gid export (tells_get uid gid export path out out' before after (Err end) gets).made names h.file end
    ended out out' before after end (inr (why, (finds, (is, still)))) are =
        by (found s J uid gid ids export path before after (Err why) finds from [] (nothing_more s J from (tells_finds uid gid export path before after (Err why) finds).made are))
      where
        end_is : end ≡ why
        end_is = let same : end ≡ why = cc in same

        rooted : (trees : ℕ → Tree) (r : Result (List ℕ) ClientEnd) → root_of s.parameters.export export ≡ r
            → ◌≡◌ {A = Result (List ℕ) ClientEnd} (Err why) (on_value r (λ root. on_value (path_names path) (λ ns. object_along trees user root ns)))
            → EndsForACause s J from uid gid export (tells_finds uid gid export path before after (Err why) finds).made names h.file end
        rooted trees (Err e) root same = let other : why ≡ e = cc in NotMounted (root ∙ ap (λ (x : ClientEnd). Err x) (sym (end_is ∙ other)))
        rooted trees (Ok root) at same =
            let ends : object_along trees user root names ≡ Err why = sym (same ∙ ap (λ (r : Result (List (List ℕ)) ClientEnd). on_value r (λ ns. object_along trees user root ns)) names_are) in
            let status = objects_end names trees user root why ends in
            refused out out' before after status.0 end (end_is ∙ status.1) (inr (why, (finds, (is, still)))) are

        by : IsUnanswered {A = List ℕ} (Err why) ⊎ IsPlaced s J (file_of s.parameters.export export path user) from (Err why) []
            → EndsForACause s J from uid gid export (tells_finds uid gid export path before after (Err why) finds).made names h.file end
        by (inl un) = Unanswered (no_more end why end_is un)
        by (inr p) = rooted (λ i. tree_at s J (p.places i)) (root_of s.parameters.export export) refl p.is
    ended out out' before after end (inl (file, (mid, (finds, (Ok done, ((reads, counts), silent)))))) are = absurd silent
    ended out out' before after end (inl (file, (mid, (finds, (Err why, ((reads, counts), silent)))))) are =
        let finds_made = (tells_finds uid gid export path before mid (Ok file) finds).made in
        let reads_made = (read_exchanges uid gid file mid after out.taken out'.taken (Err why) reads).made in
        let parts = judged_both Answers [] finds_made reads_made (judged s J from (finds_made ++ reads_made) [] from (omega arith) tt are) in
        by (reads_ended out out' mid after file (file_is before mid file finds parts.0) why reads (reads_after [] finds_made) parts.1)
      where
        by : EndsReads why → EndsForACause s J from uid gid export (tells_get uid gid export path out out' before after (Err end) (inl (file, (mid, (finds, (Err why, ((reads, counts), silent))))))).made names h.file end
        by (inl un) = Unanswered (no_more end why silent un)
        by (inr (inl fault)) = OutputFailed (silent ∙ fault)
        by (inr (inr status)) = refused out out' before after status.0 end (silent ∙ status.1) (inl (file, (mid, (finds, (Err why, ((reads, counts), silent)))))) are

pub ends_of_gets_have_causes_lem : EndsOfGetsHaveCauses
ends_of_gets_have_causes_lem s J uid gid export path names bytes out out' before after end from h gets sane ids names_are keep are =
    ended s J uid gid ids names bytes from h sane export path names_are keep out out' before after end gets are
