-- READDIRs of a directory, each answered at its place, list what is listed in the trees there.
use Rattle.std.proofs.Common.{◌≡◌, ℕ, suc, ◌<◌, ◌≤◌, ◌^◌, Bool, true, false, cond, ltb, List, [], ◌∷◌, ◌++◌, length, Option, None, Some, Result, Ok, Err, inl, inr, refl, sym, ap, subst, ◌∙◌, arith}
use Rattle.std.specs.Prelude.{◌⊎◌}
use Rattle.std.specs.Option.{option_map}
use Rattle.nr_rpc.specs.declared.cred.Cred.TheVariants as creds
use Rattle.nr_nfs_base.specs.declared.attributes.Attributes.{Attributes}
use Rattle.nr_nfs_base.specs.declared.caller.Caller.{Caller}
use Rattle.nr_nfs_base.specs.declared.status.Status.{Status}
use Rattle.nr_nfs_base.specs.declared.status_union.StatusUnion.{StatusUnion}
use Rattle.nr_nfs_base.specs.declared.status_union.StatusUnion.TheVariants.{Done, Failed}
use Rattle.nr_nfs_res.specs.Readdir.{ReaddirOk}
use Rattle.nr_reduce.specs.declared.call.Call.{Call}
use Rattle.nr_reduce.specs.declared.call.Outcome.{Outcome}
use Rattle.nr_reduce.specs.declared.mark.Entry.{Entry}
use Rattle.nr_tree.specs.Sane.{IsSane}
use Rattle.nr_ops_list.specs.Readdir.{cookie_verifier, readdir_reply}
use Rattle.nr_plain.specs.Journal.{tree_at}
use Rattle.nr_plain.specs.Setup.{Setup, caller_of}
use Rattle.nr_client.specs.declared.client_end.ClientEnd.{ClientEnd}
use Rattle.nr_client.specs.declared.client_end.ClientEnd.TheVariants as client
use Rattle.nr_client.specs.Following.{EndsWith, MakesCalls, Next, go_on}
use Rattle.nr_client.specs.Following.Next.{Calls, Returns}
use Rattle.nr_client.specs.Listing.{entries_max, last_cookie, list_from, list_next, listed_after, readdir_call}
use Rattle.nr_client.specs.Requests.{machine}
use Rattle.nr_client.specs.Views.{LinkView}
use Rattle.nr_commands.specs.Printed.{names_text}
use Rattle.nr_commands.specs.Sessions.{Requests, Then}
use Rattle.nr_commands.specs.Sessions.{Text as Shows}
use Rattle.nr_service_laws.specs.Exchanges.{Exchange, tells_finds, tells_none, tells_requests, tells_then}
use Rattle.nr_reply_laws.specs.Replies.{AreIds}
use Rattle.nr_pair_laws.specs.Pairs.{AreAnsweredFrom, IsAnsweredAt, place_after}
use Rattle.nr_text_laws.specs.CommandTexts.{IsUnanswered, file_of}
use Rattle.nr_text_laws.specs.Listings.{EntriesFit, ListsAreOfTheTrees, ListsTrees, listed_by, listed_in, names_in, readdir_of, text_of_listing, text_of_names}
use Rattle.nr_text_laws.proofs.Ending.{nothing_more, shown}
use Rattle.nr_text_laws.proofs.Finding.{file_long}
use Rattle.nr_text_laws.proofs.ListingReplies.{IsListedAt, Names, after_results, listed_there, open_at}
use Rattle.nr_text_laws.proofs.Parts.{IsPlaced, exchanged, given, no_answer, returned, same_end}
use Rattle.nr_text_laws.proofs.Walks.{ends_at, found, from_place, rises}

-- where the READDIRs of a listing are, and what it has then
pub record IsListing (s : Setup) (J : List Entry) (c : Caller) (dir : List ℕ) (names : List (List ℕ)) (cookie from : ℕ) (result : Result (List (List ℕ)) ClientEnd) (rest : List Exchange) : Type 0 where
  pub readdirs : ℕ → ℕ
  pub last : ℕ
  pub first : from ≤ readdirs 0
  pub rise : (i : ℕ) → readdirs i ≤ readdirs (suc i)
  pub ends : (i : ℕ) → readdirs i ≤ last
  pub calls : ℕ
  pub is : listed_in calls (λ i. tree_at s J (readdirs i)) c dir names cookie ≡ Some result
  pub later : AreAnsweredFrom s J last [] rest

module _ (s : Setup) (J : List Entry) (uid gid : ℕ) (ids : AreIds uid gid) (sane : IsSane s.tree) (fit : EntriesFit s J) (dir : List ℕ) (long : length dir ≡ 8) where
  abbrev user : Caller
  user = caller_of (creds.Sys 0 machine uid gid [])

  -- what remains of the request after a READDIR
  abbrev Remains : (place : ℕ) (outcomes : List Outcome) (c m b' : LinkView) (result : Result (List (List ℕ)) ClientEnd) (rest : List Exchange) → Result Names ClientEnd → Type 0
  Remains place outcomes c m b' result rest x =
      (more : MakesCalls (λ later. go_on x (λ l. list_from uid gid dir l later)) outcomes c m) × ((ends : EndsWith (go_on x (λ l. list_from uid gid dir l outcomes)) m b' result)
      × AreAnsweredFrom s J place [] (exchanged (λ later. go_on x (λ l. list_from uid gid dir l later)) outcomes c m b' result more ends rest))

  -- all is listed: no call follows
  finished : (outcomes : List Outcome) (names : List (List ℕ)) (cookie place : ℕ) (c m b' : LinkView) (result : Result (List (List ℕ)) ClientEnd) (rest : List Exchange)
      → Remains place outcomes c m b' result rest (Ok (record { names = names; cookie = cookie; verifier = cookie_verifier; eof = true })) → IsUnanswered result ⊎ ((result ≡ Ok names) × AreAnsweredFrom s J place [] rest)
  finished [] names cookie place c m b' result rest (made, (ends, are)) = by (given result (Ok names) ends.0)
    where
      by : IsUnanswered result ⊎ (result ≡ Ok names) → IsUnanswered result ⊎ ((result ≡ Ok names) × AreAnsweredFrom s J place [] rest)
      by (inl un) = inl un
      by (inr is) = inr (is, are)
  finished (o ∷ outcomes) names cookie place c m b' result rest ((call, d, (is, more)), (ends, are)) =
      absurd (let wrong : ◌≡◌ {A = Next (List (List ℕ))} (Returns (Ok names)) (Calls call) = is in cc)

  listing : (outcomes : List Outcome) (names : List (List ℕ)) (cookie : ℕ) → cookie < 2 ^ 64 → (b m b' : LinkView) (result : Result (List (List ℕ)) ClientEnd)
      (made : MakesCalls (list_from uid gid dir (open_at names cookie)) outcomes b m) (ends : EndsWith (list_from uid gid dir (open_at names cookie) outcomes) m b' result) (from : ℕ) (rest : List Exchange)
      → AreAnsweredFrom s J from [] (exchanged (list_from uid gid dir (open_at names cookie)) outcomes b m b' result made ends rest) → IsUnanswered result ⊎ IsListing s J user dir names cookie from result rest
  listing [] names cookie fits b m b' result made (end, (is, un)) from rest are = inl (no_answer (readdir_call uid gid dir cookie cookie_verifier) m b' end result is un)
  listing (o ∷ outcomes) names cookie fits b m b' result (call, c, (is, (answers, more))) ends from rest (place, (a, (low, later))) =
      by (readdir_reply (tree_at s J place) user (readdir_of dir cookie)) refl
      (subst (Remains place outcomes c m b' result rest) there.0.is (more, (ends, subst (λ (x : ℕ). AreAnsweredFrom s J x [] (exchanged (λ later. go_on (listed_after (open_at names cookie) o) (λ l. list_from uid gid dir l later)) outcomes c m b' result more ends rest)) there.1 at.1)))
      (λ names' cookie' fits' (more', (ends', are')). listing outcomes names' cookie' fits' c m b' result more' ends' place rest are')
    where
      same : readdir_call uid gid dir cookie cookie_verifier ≡ call
      same = let calls : ◌≡◌ {A = Next (List (List ℕ))} (Calls (readdir_call uid gid dir cookie cookie_verifier)) (Calls call) = is in cc

      at : (x : IsAnsweredAt s J (readdir_call uid gid dir cookie cookie_verifier) o place) × AreAnsweredFrom s J (place_after s J (readdir_call uid gid dir cookie cookie_verifier) o place x) []
          (exchanged (λ later. go_on (listed_after (open_at names cookie) o) (λ l. list_from uid gid dir l later)) outcomes c m b' result more ends rest)
      at = subst (λ (y : Call). (x : IsAnsweredAt s J y o place) × AreAnsweredFrom s J (place_after s J y o place x) []
          (exchanged (λ later. go_on (listed_after (open_at names cookie) o) (λ l. list_from uid gid dir l later)) outcomes c m b' result more ends rest)) (sym same) (a, later)

      there : IsListedAt s J user names cookie dir o place × (place_after s J (readdir_call uid gid dir cookie cookie_verifier) o place at.0 ≡ place)
      there = listed_there s J uid gid ids sane fit names cookie dir o place (omega (arith, long)) fits at.0

      -- it ends with this READDIR
      ended : (r : Result (List (List ℕ)) ClientEnd) → listed_in 1 (λ i. tree_at s J place) user dir names cookie ≡ Some r → IsUnanswered result ⊎ ((result ≡ r) × AreAnsweredFrom s J place [] rest)
          → IsUnanswered result ⊎ IsListing s J user dir names cookie from result rest
      ended r lists (inl un) = inl un
      ended r lists (inr (is, after)) =
          inr (record {
            readdirs = λ i. place;
            last = place;
            first = low;
            rise = λ i. omega arith;
            ends = λ i. omega arith;
            calls = 1;
            is = lists ∙ ap (λ (x : Result (List (List ℕ)) ClientEnd). Some x) (sym is);
            later = after;
          })

      -- another READDIR follows
      goes_on : (names' : List (List ℕ)) (cookie' : ℕ) → ((calls : ℕ) (readdirs : ℕ → ℕ) → listed_in (suc calls) (λ i. tree_at s J (from_place place readdirs i)) user dir names cookie
          ≡ listed_in calls (λ i. tree_at s J (readdirs i)) user dir names' cookie')
          → IsUnanswered result ⊎ IsListing s J user dir names' cookie' place result rest → IsUnanswered result ⊎ IsListing s J user dir names cookie from result rest
      goes_on names' cookie' lists (inl un) = inl un
      goes_on names' cookie' lists (inr l) =
          inr (record {
            readdirs = from_place place l.readdirs;
            last = l.last;
            first = low;
            rise = rises place l.readdirs l.first l.rise;
            ends = ends_at place l.readdirs l.last (let up = l.first in let down = l.ends 0 in omega (arith, up, down)) l.ends;
            calls = suc l.calls;
            is = lists l.calls l.readdirs ∙ l.is;
            later = l.later;
          })

      by : (results : StatusUnion ReaddirOk (Option Attributes) Status) → readdir_reply (tree_at s J place) user (readdir_of dir cookie) ≡ results
          → Remains place outcomes c m b' result rest (after_results names cookie results)
          → ((names' : List (List ℕ)) (cookie' : ℕ) → cookie' < 2 ^ 64 → Remains place outcomes c m b' result rest (Ok (open_at names' cookie')) → IsUnanswered result ⊎ IsListing s J user dir names' cookie' place result rest)
          → IsUnanswered result ⊎ IsListing s J user dir names cookie from result rest
      by (Failed status part) is (more', (ends', are')) rec =
          ended (Err (client.Nfs status)) (ap (λ (r : StatusUnion ReaddirOk (Option Attributes) Status). listed_by r names cookie (λ x y. None)) is)
          (returned s J (Err (client.Nfs status)) outcomes c m b' result more' ends' place rest are')
      by (Done d) is remains rec = done (ltb entries_max (length (names ++ names_in d.entries))) d.eof refl refl remains
        where
          done : (many eof : Bool) → ltb entries_max (length (names ++ names_in d.entries)) ≡ many → d.eof ≡ eof
              → Remains place outcomes c m b' result rest (cond many (Err (client.Budget entries_max))
              (Ok (record { names = names ++ names_in d.entries; cookie = last_cookie cookie d.entries; verifier = cookie_verifier; eof = eof })))
              → IsUnanswered result ⊎ IsListing s J user dir names cookie from result rest
          done true eof above at_end (more', (ends', are')) =
              ended (Err (client.Budget entries_max))
              (ap (λ (r : StatusUnion ReaddirOk (Option Attributes) Status). listed_by r names cookie (λ x y. None)) is
              ∙ ap (λ (x : Bool). cond x (Some (Err (client.Budget entries_max))) (cond d.eof (Some (Ok (names ++ names_in d.entries))) None)) above)
              (returned s J (Err (client.Budget entries_max)) outcomes c m b' result more' ends' place rest are')
          done false true within at_end remains' =
              ended (Ok (names ++ names_in d.entries))
              (ap (λ (r : StatusUnion ReaddirOk (Option Attributes) Status). listed_by r names cookie (λ x y. None)) is
              ∙ ap (λ (x : Bool). cond x (Some (Err (client.Budget entries_max))) (cond d.eof (Some (Ok (names ++ names_in d.entries))) None)) within
              ∙ ap (λ (x : Bool). cond x (Some (Ok (names ++ names_in d.entries))) None) at_end)
              (finished outcomes (names ++ names_in d.entries) (last_cookie cookie d.entries) place c m b' result rest remains')
          done false false within goes remains' =
              goes_on (names ++ names_in d.entries) (last_cookie cookie d.entries)
              (λ calls readdirs.
              ap (λ (r : StatusUnion ReaddirOk (Option Attributes) Status). listed_by r names cookie (λ x y. listed_in calls (λ i. tree_at s J (readdirs i)) user dir x y)) is
              ∙ ap (λ (x : Bool). cond x (Some (Err (client.Budget entries_max)))
              (cond d.eof (Some (Ok (names ++ names_in d.entries))) (listed_in calls (λ i. tree_at s J (readdirs i)) user dir (names ++ names_in d.entries) (last_cookie cookie d.entries)))) within
              ∙ ap (λ (x : Bool). cond x (Some (Ok (names ++ names_in d.entries))) (listed_in calls (λ i. tree_at s J (readdirs i)) user dir (names ++ names_in d.entries) (last_cookie cookie d.entries))) goes)
              (rec (names ++ names_in d.entries) (last_cookie cookie d.entries) (there.0.fits d is) remains')

pub lists_are_of_the_trees_lem : ListsAreOfTheTrees
lists_are_of_the_trees_lem s J uid gid export path before after result (inr (end, (finds, same))) from sane fit ids are =
    by (found s J uid gid ids export path before after (Err end) finds from [] (nothing_more s J from (tells_finds uid gid export path before after (Err end) finds).made are))
  where
    by : IsUnanswered {A = List ℕ} (Err end) ⊎ IsPlaced s J (file_of s.parameters.export export path (caller_of (creds.Sys 0 machine uid gid []))) from (Err end) []
        → IsUnanswered result ⊎ ListsTrees s J from (caller_of (creds.Sys 0 machine uid gid [])) export path result
    by (inl un) = inl (same_end (List ℕ) end result same un)
    by (inr p) =
        inr (record {
          places = p.places;
          found_at = p.last;
          are = record { first = p.first; rise = p.rise; ends = p.ends; within = p.later };
          readdirs = λ i. p.last;
          last = p.last;
          they = record { first = omega arith; rise = λ i. omega arith; ends = λ i. omega arith; within = p.later };
          calls = 0;
          is = ap (λ (r : Result (List ℕ) ClientEnd). text_of_listing r (λ dir. None)) (sym p.is) ∙ ap (λ (r : Result (List ℕ) ClientEnd). Some r) (sym same);
        })
lists_are_of_the_trees_lem s J uid gid export path before after result (inl (dir, (mid, (finds, lists)))) from sane fit ids are =
    by (found s J uid gid ids export path before mid (Ok dir) finds from (inner lists) are)
  where
    inner : Then (Requests (list_next uid gid dir)) (λ names. Shows (names_text names)) mid after result → List Exchange
    inner is = (tells_then (Requests (list_next uid gid dir)) (λ names. Shows (names_text names)) (tells_requests (list_next uid gid dir)) (λ names. tells_none (Shows (names_text names))) mid after result is).made

    Found : Type 0
    Found = IsPlaced s J (file_of s.parameters.export export path (caller_of (creds.Sys 0 machine uid gid []))) from (Ok dir) (inner lists)

    Goal : Type 0
    Goal = IsUnanswered result ⊎ ListsTrees s J from (caller_of (creds.Sys 0 machine uid gid [])) export path result

    made_of : (p : Found) (r : Result (List (List ℕ)) ClientEnd) → text_of_names r ≡ result → IsListing s J (caller_of (creds.Sys 0 machine uid gid [])) dir [] 0 p.last r [] → Goal
    made_of p r is l =
        inr (record {
          places = p.places;
          found_at = p.last;
          are = record { first = p.first; rise = p.rise; ends = p.ends; within = (let up = l.first in let down = l.ends 0 in let most = l.later in omega (arith, up, down, most)) };
          readdirs = l.readdirs;
          last = l.last;
          they = record { first = l.first; rise = l.rise; ends = l.ends; within = l.later };
          calls = l.calls;
          is = ap (λ (x : Result (List ℕ) ClientEnd). text_of_listing x (λ d. listed_in l.calls (λ i. tree_at s J (l.readdirs i)) (caller_of (creds.Sys 0 machine uid gid [])) d [] 0)) (sym p.is)
              ∙ ap (λ (o : Option (Result (List (List ℕ)) ClientEnd)). option_map text_of_names o) l.is
              ∙ ap (λ (x : Result (List ℕ) ClientEnd). Some x) is;
        })

    long : Found → length dir ≡ 8
    long p = file_long s.parameters.export export path (caller_of (creds.Sys 0 machine uid gid [])) (λ i. tree_at s J (p.places i)) dir (sym p.is)

    on_names : (p : Found) (names : List (List ℕ)) → IsUnanswered {A = List (List ℕ)} (Ok names) ⊎ IsListing s J (caller_of (creds.Sys 0 machine uid gid [])) dir [] 0 p.last (Ok names) []
        → IsUnanswered result ⊎ (result ≡ Ok (names_text names)) → Goal
    on_names p names (inl un) shows = absurd un
    on_names p names (inr l) (inl un) = inl un
    on_names p names (inr l) (inr is) = made_of p (Ok names) (sym is) l

    on_end : (p : Found) (end : ClientEnd) → result ≡ Err end → IsUnanswered {A = List (List ℕ)} (Err end) ⊎ IsListing s J (caller_of (creds.Sys 0 machine uid gid [])) dir [] 0 p.last (Err end) [] → Goal
    on_end p end same (inl un) = inl (same_end (List (List ℕ)) end result same un)
    on_end p end same (inr l) = made_of p (Err end) (sym same) l

    goes : (p : Found) (is : Then (Requests (list_next uid gid dir)) (λ names. Shows (names_text names)) mid after result) → AreAnsweredFrom s J p.last [] (inner is) → Goal
    goes p (inl (names, (m, (asks, (still, shows))))) later =
        on_names p names
        (listing s J uid gid ids sane fit dir (long p) asks.0.outcomes [] 0 (omega arith) mid asks.0.between m (Ok names) asks.0.made asks.0.ends p.last [] later)
        (shown (names_text names) result shows)
    goes p (inr (end, (asks, same))) later =
        on_end p end same
        (listing s J uid gid ids sane fit dir (long p) asks.0.outcomes [] 0 (omega arith) mid asks.0.between after (Err end) asks.0.made asks.0.ends p.last []
        (nothing_more s J p.last (tells_requests (list_next uid gid dir) mid after (Err end) asks).made later))

    by : IsUnanswered {A = List ℕ} (Ok dir) ⊎ Found → Goal
    by (inl un) = absurd un
    by (inr p) = goes p lists p.later
