-- Each end of a `get` by several jobs whose path leads to a regular file.
use Rattle.std.proofs.Common.{◌≡◌, ◌⊎◌, ℕ, ◌≤◌, ◌<◌, ◌^◌, Bool, true, false, cond, ltb, List, [], ◌∷◌, ◌++◌, length, Option, Result, Ok, Err, inl, inr, refl, ap, sym, ◌∙◌, subst, arith, append_assoc, append-nil}
use Rattle.std.proofs.lemmas.Bool.{ltb-true}
use Rattle.nr_outside.specs.Streams.{SinkAt, SourceAt}
use Rattle.nr_nfs_base.specs.declared.attributes.Attributes.{Attributes}
use Rattle.nr_nfs_base.specs.declared.status.Status.{Status}
use Rattle.nr_nfs_base.specs.declared.status.Status.TheVariants.{Acces}
use Rattle.nr_nfs_res.specs.declared.bytes.ReadOk.{ReadOk}
use Rattle.nr_reduce.specs.declared.call.Call.{Call}
use Rattle.nr_reduce.specs.declared.call.Form.TheVariants as forms
use Rattle.nr_reduce.specs.declared.call.Outcome.{Outcome}
use Rattle.nr_reduce.specs.declared.mark.Entry.{Entry}
use Rattle.nr_shared.specs.declared.entry.Entry.{Entry as SharedEntry}
use Rattle.nr_shared.specs.declared.entry.Entry.TheVariants as entries
use Rattle.nr_tree.specs.Sane.{IsSane}
use Rattle.nr_tree.specs.declared.node.Content.TheVariants.{Regular}
use Rattle.nr_plain.specs.Journal.{tree_at}
use Rattle.nr_plain.specs.Setup.{Setup}
use Rattle.nr_client.specs.declared.client_end.ClientEnd.{ClientEnd}
use Rattle.nr_client.specs.declared.client_end.ClientEnd.TheVariants as client
use Rattle.nr_client.specs.Following.{Next}
use Rattle.nr_client.specs.Following.Next.{Calls, Returns}
use Rattle.nr_client.specs.Jobs.{AreExchanges, EndsByJobs, IsExchange, LinkAt, ReadsFileByJobs, ReadsShared, view_at}
use Rattle.nr_client.specs.Jobs.ReadsFileByJobs.{NoAttributes, Shared}
use Rattle.nr_client.specs.Paths.{path_names}
use Rattle.nr_client.specs.Reading.{offset_after, piece_left, read_call, read_result, reading, with_data, with_size}
use Rattle.nr_client.specs.Reading.FileRead.{NothingKnown, SizeKnown}
use Rattle.nr_client.specs.Requests.{Asks, getattr_call, getattr_result}
use Rattle.nr_commands.specs.ByJobs.{link_of}
use Rattle.nr_commands.specs.ByJobs.GetsByJobs.{Found, NotFound, NotOpened}
use Rattle.nr_commands.specs.Commands.{Finds}
use Rattle.nr_commands.specs.Sessions.{SessionAt}
use Rattle.nr_service_laws.specs.Exchanges.{Exchange, asked_exchanges, tells_finds}
use Rattle.nr_service_laws.specs.Exchanges.Exchange.{Answered, Forgotten, GivenUp, HandedOver, Submitted}
use Rattle.nr_service_laws.specs.ReplyEnds.{AreAnswers, IsAnsweredBy}
use Rattle.nr_service_laws.proofs.Judged.{answers_more}
use Rattle.nr_service_laws.proofs.JudgedParts.{judged_both}
use Rattle.nr_reply_laws.specs.Replies.{AreIds}
use Rattle.nr_pair_laws.specs.FilesAt.{KeepPath}
use Rattle.nr_pair_laws.specs.JobPairs.{AreJobsAnsweredFrom}
use Rattle.nr_pair_laws.specs.JobRuns.{SaysOfFile}
use Rattle.nr_pair_laws.specs.Pairs.{AreAnsweredFrom, IsAnsweredAt}
use Rattle.nr_pair_laws.specs.PutThenGet.{AnsweredSince, HoldsFile, OnCall, root_handle}
use Rattle.nr_pair_laws.specs.RefusedGets.{HasCause}
use Rattle.nr_pair_laws.specs.RefusedGets.HasCause.{OfRead}
use Rattle.nr_pair_laws.proofs.Calls.{size_at}
use Rattle.nr_pair_laws.proofs.FileReads.{left_few, request_after}
use Rattle.nr_pair_laws.proofs.Getting.{AnsweredAfter, judged, since}
use Rattle.nr_pair_laws.proofs.JobAnswers.{exchange_more, shared_after}
use Rattle.nr_pair_laws.proofs.Kept.{file_kept, kept}
use Rattle.nr_pair_laws.proofs.LongerJournals.{answered_in_all}
use Rattle.nr_pair_laws.proofs.Paths.{content_node}
use Rattle.nr_pair_laws.proofs.PutThenGet.{file_few}
use Rattle.nr_pair_laws.proofs.RefusedCalls.{handle_long}
use Rattle.nr_pair_laws.proofs.RefusedGets.{same_call}
use Rattle.nr_text_laws.specs.CommandTexts.{IsUnanswered}
use Rattle.nr_text_laws.specs.EndedGets.{EndsForACause}
use Rattle.nr_text_laws.specs.EndedGets.EndsForACause.{OutputFailed, Refused, Unanswered}
use Rattle.nr_text_laws.specs.EndedJobs.{EndsOfJobsHaveCauses, exchanges_of, reads_of_file}
use Rattle.nr_text_laws.proofs.EndedGets.{EndsAt, ends_of_gets_have_causes_lem, file_is, read_end, refused_at}
use Rattle.nr_text_laws.proofs.Parts.{given, same_end}

-- ---- Calls of a shared requester's history

-- the outcomes of the READs follow those before them
reads_answered : (R : Call → Outcome → Type 0) (uid gid : ℕ) (file : List ℕ) (seen : List SharedEntry) (mine : List ℕ) (before after : List Outcome) (made : AreExchanges uid gid file seen mine before after)
    → ((call : Call) (o : Outcome) → IsExchange seen mine call o → IsAnsweredBy (exchanges_of uid gid file seen mine before after made) call o → R call o)
    → AreAnswers R (reading uid gid file) before → AreAnswers R (reading uid gid file) (before ++ after)
reads_answered R uid gid file seen mine before [] made judge are = subst (λ (os : List Outcome). AreAnswers R (reading uid gid file) os) (sym (append-nil before)) are
reads_answered R uid gid file seen mine before (outcome ∷ after) ((call, is, exchange), made) judge are =
    subst (λ (os : List Outcome). AreAnswers R (reading uid gid file) os) (append_assoc before (outcome ∷ []) after)
    (reads_answered R uid gid file seen mine (before ++ outcome ∷ []) after made (λ c o e by. judge c o e (inr by))
    (answers_more R (reading uid gid file) before call outcome are is (judge call outcome exchange (inl (refl, refl)))))

-- what answers a call of the later exchanges answers it in all
answered_later : (made later : List Exchange) (call : Call) (o : Outcome) → IsAnsweredBy later call o → IsAnsweredBy (made ++ later) call o
answered_later [] later call o is = is
answered_later (Answered c outcome ∷ made) later call o is = inr (answered_later made later call o is)
answered_later (Submitted xid c ∷ made) later call o is = inr (answered_later made later call o is)
answered_later (HandedOver xid outcome ∷ made) later call o is = answered_later made later call o is
answered_later (Forgotten c ∷ made) later call o is = answered_later made later call o is
answered_later (GivenUp xid ∷ made) later call o is = answered_later made later call o is

module _ (s : Setup) (J : List Entry) (uid gid : ℕ) (ids : AreIds uid gid) (names : List (List ℕ)) (bytes : List ℕ) (from : ℕ) (h : HoldsFile s J names bytes from) (sane : IsSane s.tree) where
  -- ---- The READ that was refused

  module _ (made : List Exchange) where
    -- an end that is a status of NFS, with its cause
    abbrev HasStatus : ClientEnd → Type 0
    HasStatus end = (status : Status) × ((end ≡ client.Nfs status) × ((place : ℕ) × ((from ≤ place) × HasCause s J uid gid made names h.file status place)))

    abbrev Told : (List Outcome → Next (Unit {0})) → List Outcome → Type 0
    Told request os = AreAnswers (IsAnsweredBy made) request os

    abbrev Since : (List Outcome → Next (Unit {0})) → List Outcome → Type 0
    Since request os = AnsweredSince s J (KeepPath s J root_handle names) request os from

    pieces_refused : (few : length bytes < 2 ^ 64) (at : ℕ) (taken : List ℕ) (os : List Outcome) (end : ClientEnd)
        → Since (request_after uid gid h.file (SizeKnown (length bytes) at taken)) os → Told (request_after uid gid h.file (SizeKnown (length bytes) at taken)) os
        → EndsAt end (request_after uid gid h.file (SizeKnown (length bytes) at taken) os) → HasStatus end
    pieces_refused few at taken [] end calls told ends = by (ltb at (length bytes)) ends
      where
        by : (b : Bool) → EndsAt end (cond b (Calls (read_call uid gid h.file at (piece_left (length bytes) at))) (Returns (Ok tt))) → HasStatus end
        by true bad = absurd cc
        by false bad = absurd cc
    pieces_refused few at taken (o ∷ os) end calls told ends =
        by (ltb at (length bytes)) refl calls told.0 (λ next more later others good. pieces_refused few next more os end later others good)
      where
        by : (b : Bool) → ltb at (length bytes) ≡ b
            → OnCall {A = Unit {0}} (cond b (Calls (read_call uid gid h.file at (piece_left (length bytes) at))) (Returns (Ok tt)))
            (λ call. (place : ℕ) × (answered : IsAnsweredAt s J call o place) × ((from ≤ place) × (KeepPath s J root_handle names from place
            × Since (λ more. request_after uid gid h.file (SizeKnown (length bytes) at taken) (o ∷ more)) os)))
            → (call : Call) × ((◌≡◌ {A = Next (Unit {0})} (cond b (Calls (read_call uid gid h.file at (piece_left (length bytes) at))) (Returns (Ok tt))) (Calls call)) × IsAnsweredBy made call o)
            → ((next : ℕ) (more : List ℕ) → Since (request_after uid gid h.file (SizeKnown (length bytes) next more)) os
            → Told (request_after uid gid h.file (SizeKnown (length bytes) next more)) os
            → EndsAt end (request_after uid gid h.file (SizeKnown (length bytes) next more) os) → HasStatus end)
            → HasStatus end
        by false full none call rest_of = absurd none
        by true less (place, answered, (rises, (keeps, later))) (call, (is, by_call)) rest_of = read (read_result (piece_left (length bytes) at) o) refl later told.1 ends
          where
            read : (r : Result ReadOk ClientEnd) → read_result (piece_left (length bytes) at) o ≡ r
                → Since (request_after uid gid h.file (with_data (length bytes) at taken r)) os → Told (request_after uid gid h.file (with_data (length bytes) at taken r)) os
                → EndsAt end (request_after uid gid h.file (with_data (length bytes) at taken r) os) → HasStatus end
            read (Ok w) found next_calls others good = rest_of (offset_after (length bytes) at w) (taken ++ w.bytes) next_calls others good
            read (Err why) found next_calls others bad =
                let more : at < length bytes = ltb-true at (length bytes) less in
                let f = (refused_at s J uid gid ids names bytes from h sane place rises keeps).reads at (piece_left (length bytes) at) (omega (arith, more, few)) (omega (arith, more)) (left_few (length bytes) at) o answered why found in
                let asked = read_call uid gid h.file at (piece_left (length bytes) at) in
                let told_so : IsAnsweredBy made asked o = same_call {A = Unit {0}} (IsAnsweredBy made) asked call o is by_call in (
                  Acces,
                  (
                    sym (read_end s J uid gid ids names bytes from h sane why taken os end bad) ∙ f.0,
                    (place, (rises, OfRead at (piece_left (length bytes) at) o told_so (found ∙ ap (λ (e : ClientEnd). Err e) f.0) answered f.1.0 f.1.1.0 refl f.1.1.1)),
                  ),
                )

    reading_refused : (os : List Outcome) (end : ClientEnd) → Since (request_after uid gid h.file NothingKnown) os → Told (request_after uid gid h.file NothingKnown) os
        → EndsAt end (request_after uid gid h.file NothingKnown os) → HasStatus end
    reading_refused [] end calls told ends = absurd cc
    reading_refused (o ∷ os) end (place, answered, (rises, (keeps, calls))) told ends = by (getattr_result o) refl calls told.1 ends
      where
        by : (r : Result Attributes ClientEnd) → getattr_result o ≡ r → Since (request_after uid gid h.file (with_size r)) os
            → Told (request_after uid gid h.file (with_size r)) os → EndsAt end (request_after uid gid h.file (with_size r) os) → HasStatus end
        by (Err why) is next_calls others bad =
            absurd (let w = (refused_at s J uid gid ids names bytes from h sane place rises keeps).getattr o answered in let wrong : Ok w.0 ≡ Err why = sym w.1 ∙ is in cc)
        by (Ok attributes) is next_calls others good =
            let few = file_few s J from h.file bytes sane h.holds in
            let node = content_node (tree_at s J from) h.file (Regular bytes) h.holds in
            let there = (file_kept root_handle names (tree_at s J from) (tree_at s J place) h.file (Regular bytes) (kept s J root_handle names from place rises keeps) h.leads h.holds).1 in
            let size : attributes.size ≡ length bytes = size_at s J uid gid ids h.file o place bytes (handle_long (tree_at s J from) h.file node.0 node.1.0) few there answered attributes is in
            pieces_refused few 0 [] os end
            (subst (λ (n : ℕ). Since (request_after uid gid h.file (SizeKnown n 0 [])) os) size next_calls)
            (subst (λ (n : ℕ). Told (request_after uid gid h.file (SizeKnown n 0 [])) os) size others)
            (subst (λ (n : ℕ). EndsAt end (request_after uid gid h.file (SizeKnown n 0 []) os)) size good)

  -- ---- The command

  module _ (export path : List ℕ) (names_are : path_names path ≡ Ok names) (keep : KeepPath s J root_handle names from (length J)) where
    abbrev Answers : Call → Outcome → Type 0
    Answers = AnsweredAfter s J from

    abbrev Ends : List Exchange → ClientEnd → Type 0
    Ends made end = EndsForACause s J from uid gid export made names h.file end

    -- no file was found
    not_found : (at mid : SessionAt) (out : SinkAt) (why end : ClientEnd) → ◌≡◌ {A = Result (Unit {0}) ClientEnd} (Err end) (Err why) → (finds : Finds uid gid export path at mid (Err why))
        → AreAnsweredFrom s J from [] (tells_finds uid gid export path at mid (Err why) finds).made → Ends ((tells_finds uid gid export path at mid (Err why) finds).made ++ []) end
    not_found at mid out why end is finds are =
        let same : end ≡ why = cc in
        let made = (tells_finds uid gid export path at mid (Err why) finds).made in
        subst (λ (l : List Exchange). Ends l end) (sym (append-nil made))
        (subst (λ (e : ClientEnd). Ends made e) (sym same)
        (ends_of_gets_have_causes_lem s J uid gid export path names bytes out out at mid why from h (inr (why, (finds, (refl, refl)))) sane ids names_are keep are))

    -- a GETATTR of the file isn't refused
    no_attributes : (at mid : SessionAt) (link : LinkAt) (file : List ℕ) (finds : Finds uid gid export path at mid (Ok file)) (why end : ClientEnd) → ◌≡◌ {A = Result (Unit {0}) ClientEnd} (Err end) (Err why)
        → (asks : Asks getattr_result (getattr_call uid gid file) (view_at (link_of mid)) (view_at link) (Err why)) (made : List Exchange)
        → AreAnsweredFrom s J from []
        ((tells_finds uid gid export path at mid (Ok file) finds).made
        ++ (asked_exchanges getattr_result (getattr_call uid gid file) (view_at (link_of mid)) (view_at link) (Err why) asks).made)
        → Ends made end
    no_attributes at mid link file finds why end is (inl (o, (answers, gives))) made are =
        by (given (Err why) (getattr_result o) gives)
      where
        same : end ≡ why
        same = cc

        by : IsUnanswered {A = Attributes} (Err why) ⊎ (Err why ≡ getattr_result o) → Ends made end
        by (inl un) = Unanswered (subst (λ (e : ClientEnd). IsUnanswered {A = List ℕ} (Err e)) (sym same) (same_end Attributes {B = List ℕ} why (Err why) refl un))
        by (inr refused) =
            let found = (tells_finds uid gid export path at mid (Ok file) finds).made in
            let call = getattr_call uid gid file in
            let parts = judged_both Answers [] found (Answered call o ∷ []) (judged s J from (found ++ Answered call o ∷ []) [] from (omega arith) tt are) in
            let this = file_is s J uid gid ids names bytes from h sane export path names_are keep at mid file finds parts.0 in
            let a : Answers (getattr_call uid gid h.file) o = subst (λ (f : List ℕ). Answers (getattr_call uid gid f) o) this parts.1.0 in
            let within = a.1.0.at.within in
            let keeps : KeepPath s J root_handle names from a.0 = (λ k lo hi. keep k lo (omega (arith, hi, within))) in
            let w = (refused_at s J uid gid ids names bytes from h sane a.0 a.1.1 keeps).getattr o a.1.0 in
            absurd (let wrong : Ok w.0 ≡ Err why = sym w.1 ∙ sym refused in cc)
    no_attributes at mid link file finds why end is (inr (inl (cause, (link_end, rest)))) made are =
        let this : end ≡ client.Link cause = cc in
        Unanswered (subst (λ (e : ClientEnd). IsUnanswered {A = List ℕ} (Err e)) (sym this) tt)
    no_attributes at mid link file finds why end is (inr (inr (memory, rest))) made are =
        let this : end ≡ client.Memory = cc in
        Unanswered (subst (λ (e : ClientEnd). IsUnanswered {A = List ℕ} (Err e)) (sym this) tt)

    -- jobs read the file
    read_by_jobs : (at mid : SessionAt) (link : LinkAt) (file : List ℕ) (finds : Finds uid gid export path at mid (Ok file)) (end : ClientEnd) (outcome : Outcome) (size : ℕ)
        (source : SourceAt) (sink : SinkAt) (taken taken' : Option (List ℕ)) (shared : ReadsShared uid gid file outcome size link source sink taken taken' (Err end))
        → AreJobsAnsweredFrom s J from ((tells_finds uid gid export path at mid (Ok file) finds).made ++ Answered (getattr_call uid gid file) outcome ∷ []) shared.back.history
        → Ends (((tells_finds uid gid export path at mid (Ok file) finds).made ++ Answered (getattr_call uid gid file) outcome ∷ [])
        ++ exchanges_of uid gid file shared.seen shared.mine (outcome ∷ []) shared.reads.outcomes shared.reads.made) end
    read_by_jobs at mid link file finds end outcome size source sink taken taken' shared answered = by shared.reads.ends
      where
        found : List Exchange
        found = (tells_finds uid gid export path at mid (Ok file) finds).made

        call : Call
        call = getattr_call uid gid file

        alone : List Exchange
        alone = found ++ Answered call outcome ∷ []

        reads : List Exchange
        reads = exchanges_of uid gid file shared.seen shared.mine (outcome ∷ []) shared.reads.outcomes shared.reads.made

        outcomes : List Outcome
        outcomes = outcome ∷ shared.reads.outcomes

        refused : reading uid gid file outcomes ≡ Returns (Err end) → Ends (alone ++ reads) end
        refused is =
            let parts = judged_both Answers [] found (Answered call outcome ∷ [])
            (judged s J from alone [] from (omega arith) tt (answered_in_all s J (answered.used 0) from alone answered.alone)) in
            let this = file_is s J uid gid ids names bytes from h sane export path names_are keep at mid file finds parts.0 in
            let placed : AreAnswers Answers (reading uid gid file) outcomes =
            reads_answered Answers uid gid file shared.seen shared.mine (outcome ∷ []) shared.reads.outcomes shared.reads.made
            (λ c o exchange by_read. shared_after s J from alone shared.back.history answered shared.mine c o (exchange_more shared.seen shared.back.history shared.mine c o shared.back.begins exchange))
            ((call, (refl, parts.1.0)), tt) in
            let first : IsAnsweredBy (alone ++ reads) call outcome =
            subst (λ (l : List Exchange). IsAnsweredBy l call outcome) (sym (append_assoc found (Answered call outcome ∷ []) reads)) (answered_later found (Answered call outcome ∷ reads) call outcome (inl (refl, refl))) in
            let told : AreAnswers (IsAnsweredBy (alone ++ reads)) (reading uid gid file) outcomes =
            reads_answered (IsAnsweredBy (alone ++ reads)) uid gid file shared.seen shared.mine (outcome ∷ []) shared.reads.outcomes shared.reads.made
            (λ c o exchange by_read. answered_later alone reads c o by_read) ((call, (refl, first)), tt) in
            let status = reading_refused (alone ++ reads) outcomes end
            (subst (λ (g : List ℕ). AnsweredSince s J (KeepPath s J root_handle names) (reading uid gid g) outcomes from) this (since s J from root_handle names keep (reading uid gid file) outcomes placed))
            (subst (λ (g : List ℕ). AreAnswers (IsAnsweredBy (alone ++ reads)) (reading uid gid g) outcomes) this told)
            (subst (λ (g : List ℕ). EndsAt end (reading uid gid g outcomes)) this is) in
            Refused status.0 status.1.0 status.1.1.0 status.1.1.1.0 status.1.1.1.1

        by : EndsByJobs uid gid file shared.seen outcomes taken taken' (Err end) → Ends (alone ++ reads) end
        by (inl (inl (inl memory, takes))) =
            let this : end ≡ client.Memory = cc in
            Unanswered (subst (λ (e : ClientEnd). IsUnanswered {A = List ℕ} (Err e)) (sym this) tt)
        by (inl (inl (inr is, takes))) = refused is
        by (inl (inr (fault, takes))) = OutputFailed (let this : end ≡ client.OutputFault = cc in this)
        by (inr (c, why, (is, (link_end, rest)))) =
            let this : end ≡ client.Link why = cc in
            Unanswered (subst (λ (e : ClientEnd). IsUnanswered {A = List ℕ} (Err e)) (sym this) tt)

pub ends_of_jobs_have_causes_lem : EndsOfJobsHaveCauses
ends_of_jobs_have_causes_lem s J get before after out out' end (NotOpened why is fails same) names bytes from h sane ids names_are keep = tt
ends_of_jobs_have_causes_lem s J get before after out out' end (NotFound dialed at mid why opens finds is same closes) names bytes from h sane ids names_are keep = λ answered.
    let made = (tells_finds get.uid get.gid get.export get.path at mid (Err why) finds).made in
    not_found s J get.uid get.gid ids names bytes from h sane get.export get.path names_are keep at mid out why end is finds (answered_in_all s J (answered.used 0) from made answered.alone)
ends_of_jobs_have_causes_lem s J get before after out out' end (Found dialed at mid file opens finds hangs) names bytes from h sane ids names_are keep = by hangs.reads
  where
    by : (reads : ReadsFileByJobs get.uid get.gid file (link_of mid) hangs.source hangs.sink out.taken out'.taken (Err end))
        → SaysOfFile (λ source sink made history. AreJobsAnsweredFrom s J from made history →
        EndsForACause s J from get.uid get.gid get.export (made ++ reads_of_file get.uid get.gid file (link_of mid) hangs.source hangs.sink out.taken out'.taken (Err end) reads) names h.file end)
        (tells_finds get.uid get.gid get.export get.path at mid (Ok file) finds).made get.uid get.gid file mid hangs.source hangs.sink out.taken out'.taken (Err end) reads
    by (NoAttributes link why gets is same none) = λ answered.
        let made = (tells_finds get.uid get.gid get.export get.path at mid (Ok file) finds).made
        ++ (asked_exchanges getattr_result (getattr_call get.uid get.gid file) (view_at (link_of mid)) (view_at link) (Err why) gets.asks).made in
        no_attributes s J get.uid get.gid ids names bytes from h sane get.export get.path names_are keep at mid link file finds why end is gets.asks (made ++ [])
        (answered_in_all s J (answered.used 0) from made answered.alone)
    by (Shared link outcome attributes gets shared) = λ answered.
        read_by_jobs s J get.uid get.gid ids names bytes from h sane get.export get.path names_are keep at mid link file finds end outcome attributes.size hangs.source hangs.sink out.taken out'.taken shared answered
