-- What is exchanged by requests that make calls of bytes: each call is of bytes, if the outcomes that were handed over before it are bytes.
use Rattle.std.specs.Prelude.{MatchBool}
use Rattle.std.proofs.Common.{◌≡◌, ℕ, Bool, true, false, List, [], ◌∷◌, ◌++◌, map, Option, Result, Ok, Err, inl, inr, refl, sym, subst, ◌∙◌}
use Rattle.std.specs.List.{AllByRecursion}
use Rattle.nr_xdr.specs.Item.{IsBytes}
use Rattle.nr_reduce.specs.declared.call.Call.{Call}
use Rattle.nr_reduce.specs.declared.call.Outcome.{Outcome}
use Rattle.nr_byte_laws.specs.DueBytes.{OutcomeIsBytes}
use Rattle.nr_shared.specs.declared.call_end.CallEnd.{CallEnd}
use Rattle.nr_client.specs.declared.client_end.ClientEnd.{ClientEnd}
use Rattle.nr_client.specs.Calls.{GivesUp}
use Rattle.nr_client.specs.Following.{EndsWith, Follows, MakesCalls, Next, Unanswered}
use Rattle.nr_client.specs.Following.Next.{Calls, Returns}
use Rattle.nr_client.specs.Reading.{EndsReading, LeadsBy, OpenRead, ReadStep, ReadingAt, ReadsFile, file_read, starts_at, xids_of}
use Rattle.nr_client.specs.Reading.ReadStepOver.{MakesAlone, AsksAhead, TakesOldest, Looks}
use Rattle.nr_client.specs.Reading.EndsReadingOver.{EndsByReplies, OutputFails, NotAnswered, NotSubmitted, OldestForgotten}
use Rattle.nr_client.specs.Requests.{Asks}
use Rattle.nr_client.specs.Results.{Gives}
use Rattle.nr_client.specs.Writing.{EndsWriting, writing}
use Rattle.nr_client.specs.Writing.EndsWritingOver.{FollowsInput, InputFails}
use Rattle.nr_client.specs.Views.{LinkView}
use Rattle.nr_commands.specs.Sessions.{Part, Request, Requests, SessionAt, Then}
use Rattle.nr_service_laws.specs.Exchanges.{Exchange, Exchanges, Tells, asked_exchanges, end_exchanges, followed_exchanges, given_up_exchanges, made_exchanges, outcomes_in, read_exchanges, reading_end_exchanges, step_exchanges, steps_exchanges, tells_none, tells_request, tells_requests, tells_then, unanswered_exchanges, within_exchanges, write_exchanges_by}
use Rattle.nr_service_laws.specs.Exchanges.Exchange.{Answered, Forgotten, GivenUp, HandedOver, Submitted}
use Rattle.nr_service_laws.proofs.ByteCalls.{AreWords, IsByteCall}
use Rattle.nr_service_laws.proofs.ByteRequests.{Any, NextOfBytes, RequestOfBytes, reads_ahead, reads_next, writes}
use Rattle.nr_service_laws.proofs.ByteResults.{ReadsBytes}
use Rattle.nr_service_laws.proofs.OutcomesInOrder.{made_outcomes}

abbrev pub CallsAreBytes : List Exchange → Type 0
CallsAreBytes [] = Unit {0}
CallsAreBytes (Answered call outcome ∷ made) = IsByteCall call × (OutcomeIsBytes outcome → CallsAreBytes made)
CallsAreBytes (Forgotten call ∷ made) = IsByteCall call × CallsAreBytes made
CallsAreBytes (Submitted xid call ∷ made) = IsByteCall call × CallsAreBytes made
CallsAreBytes (HandedOver xid outcome ∷ made) = OutcomeIsBytes outcome → CallsAreBytes made
CallsAreBytes (GivenUp xid ∷ made) = CallsAreBytes made

abbrev pub AreBytes : List Exchange → Type 0
AreBytes made = AllByRecursion OutcomeIsBytes (outcomes_in made)

pub both_calls : (made later : List Exchange) → CallsAreBytes made → (AreBytes made → CallsAreBytes later) → CallsAreBytes (made ++ later)
both_calls [] later h g = g tt
both_calls (Answered call outcome ∷ made) later h g = (h.0, λ b. both_calls made later (h.1 b) (λ all. g (b, all)))
both_calls (Forgotten call ∷ made) later h g = (h.0, both_calls made later h.1 g)
both_calls (Submitted xid call ∷ made) later h g = (h.0, both_calls made later h.1 g)
both_calls (HandedOver xid outcome ∷ made) later h g = λ b. both_calls made later (h b) (λ all. g (b, all))
both_calls (GivenUp xid ∷ made) later h g = both_calls made later h g

pub first_bytes : (made later : List Exchange) → AreBytes (made ++ later) → AreBytes made
first_bytes [] later h = tt
first_bytes (Answered call outcome ∷ made) later h = (h.0, first_bytes made later h.1)
first_bytes (Forgotten call ∷ made) later h = first_bytes made later h
first_bytes (Submitted xid call ∷ made) later h = first_bytes made later h
first_bytes (HandedOver xid outcome ∷ made) later h = (h.0, first_bytes made later h.1)
first_bytes (GivenUp xid ∷ made) later h = first_bytes made later h

later_bytes : (made later : List Exchange) → AreBytes (made ++ later) → AreBytes later
later_bytes [] later h = h
later_bytes (Answered call outcome ∷ made) later h = later_bytes made later h.1
later_bytes (Forgotten call ∷ made) later h = later_bytes made later h
later_bytes (Submitted xid call ∷ made) later h = later_bytes made later h
later_bytes (HandedOver xid outcome ∷ made) later h = later_bytes made later h.1
later_bytes (GivenUp xid ∷ made) later h = later_bytes made later h

-- the calls are of bytes, and after outcomes that are bytes the value has this property
abbrev pub PartOfBytes : {A : Type 0} → (A → Type 0) → List Exchange → Result A ClientEnd → Type 0
PartOfBytes {A} P made result = CallsAreBytes made × (AllByRecursion OutcomeIsBytes (outcomes_in made) → (value : A) → result ≡ Ok value → P value)

-- ---- Requests

given_up_calls : (b b' : LinkView) (call : Call) (end : CallEnd) (gives_up : GivesUp b b' call end) → IsByteCall call → CallsAreBytes (given_up_exchanges b b' call end gives_up).made
given_up_calls b b' call end (inl refused) own = tt
given_up_calls b b' call end (inr gone) own = (own, tt)

unanswered_calls : (call : Call) (b b' : LinkView) (end : ClientEnd) (gone : Unanswered call b b' end) → IsByteCall call → CallsAreBytes (unanswered_exchanges call b b' end gone).made
unanswered_calls call b b' end (inl (cause, (is, (gives_up, why)))) own = given_up_calls b b' call cause gives_up own
unanswered_calls call b b' end (inr memory) own = tt

no_value : {A : Type 0} {P : Type 0} (result : Result A ClientEnd) (end : ClientEnd) (value : A) → result ≡ Err end → result ≡ Ok value → P
no_value result end value is same = absurd (let wrong : Err end ≡ Ok value = sym is ∙ same in cc)

asked_calls : {A : Type 0} (P : A → Type 0) (reads : Outcome → Result A ClientEnd) (call : Call) (b b' : LinkView) (result : Result A ClientEnd) (asks : Asks reads call b b' result)
    → IsByteCall call → ReadsBytes P reads → PartOfBytes P (asked_exchanges reads call b b' result asks).made result
asked_calls {A} P reads call b b' result (inl (outcome, is)) own of_reads =
    ((own, λ o. tt), λ all value same. of_reads outcome value all.0 (subst (λ (r : Result A ClientEnd). Gives r (reads outcome)) same is.1))
asked_calls P reads call b b' result (inr (inl (cause, (is, (gives_up, why))))) own of_reads =
    (given_up_calls b b' call cause gives_up own, λ all value same. no_value result _ value is same)
asked_calls P reads call b b' result (inr (inr memory)) own of_reads = (tt, λ all value same. no_value result _ value memory.0 same)

made_calls : {A : Type 0} (P : A → Type 0) (request : List Outcome → Next A) (outcomes : List Outcome) (b b' : LinkView) (made : MakesCalls request outcomes b b')
    → RequestOfBytes P request → CallsAreBytes (made_exchanges request outcomes b b' made).made
made_calls P request [] b b' made of_request = tt
made_calls {A} P request (outcome ∷ outcomes) b b' (call, c, (is, (answers, rest))) of_request = (
  subst (λ (n : Next A). NextOfBytes P n) is (of_request [] tt),
  λ o. made_calls P (λ later. request (outcome ∷ later)) outcomes c b' rest (λ later all. of_request (outcome ∷ later) (o, all)),
)

end_calls : {A : Type 0} (P : A → Type 0) (next : Next A) (b b' : LinkView) (given : Result A ClientEnd) (ends : EndsWith next b b' given)
    → NextOfBytes P next → CallsAreBytes (end_exchanges next b b' given ends).made × ((value : A) → given ≡ Ok value → P value)
end_calls {A} P (Returns (Ok v)) b b' given ends n = (
  tt,
  λ value is.
      let read : Ok v ≡ Ok value = subst (λ (r : Result A ClientEnd). Gives r (Ok v)) is ends.0 in
      let same : v ≡ value = cc in
      subst P same n,
)
end_calls {A} P (Returns (Err end)) b b' given ends n =
    (tt, λ value is. absurd (let read : Err end ≡ Ok value = subst (λ (r : Result A ClientEnd). Gives r (Err end)) is ends.0 in cc))
end_calls P (Calls call) b b' given (end, (is, gone)) n = (unanswered_calls call b b' end gone n, λ value same. no_value given end value is same)

followed_calls : {A : Type 0} (P : A → Type 0) (request : List Outcome → Next A) (b b' : LinkView) (given : Result A ClientEnd) (f : Follows request b b' given)
    → RequestOfBytes P request → PartOfBytes P (followed_exchanges request b b' given f).made given
followed_calls {A} P request b b' given f of_request =
    let made = (made_exchanges request f.outcomes b f.between f.made).made in
    let end = (end_exchanges (request f.outcomes) f.between b' given f.ends).made in
    let next : AreBytes made → NextOfBytes P (request f.outcomes) =
    λ all. of_request f.outcomes (subst (λ (l : List Outcome). AllByRecursion OutcomeIsBytes l) (made_outcomes request f.outcomes b f.between f.made) all) in (
      both_calls made end (made_calls P request f.outcomes b f.between f.made of_request) (λ all. (end_calls P (request f.outcomes) f.between b' given f.ends (next all)).0),
      λ all value is. (end_calls P (request f.outcomes) f.between b' given f.ends (next (first_bytes made end all))).1 value is,
    )

-- ---- A file that is read

step_calls : (uid gid : ℕ) (file : List ℕ) → AreWords uid gid → IsBytes file → (s t : ReadingAt) (step : ReadStep uid gid file s t) → CallsAreBytes (step_exchanges uid gid file s t step).made
step_calls uid gid file words f s t (MakesAlone call outcome alone answers replies waits) = (reads_next uid gid file s.outcomes call words f alone.0, λ o. tt)
step_calls uid gid file words f s t (AsksAhead read ahead submits replies waits) = (reads_ahead uid gid file (file_read s.outcomes) s.waiting read.call words f ahead.1.0, tt)
step_calls uid gid file words f s t (TakesOldest read outcome full is completes replies waits) = λ o. tt
step_calls uid gid file words f s t (Looks looks replies waits) = tt

steps_calls : (uid gid : ℕ) (file : List ℕ) → AreWords uid gid → IsBytes file → (first : ReadingAt) (states : List ReadingAt) (last : ReadingAt) (leads : LeadsBy uid gid file first states last)
    → CallsAreBytes (steps_exchanges uid gid file first states last leads).made
steps_calls uid gid file words f first [] last same = tt
steps_calls uid gid file words f first (s ∷ states) last (step, leads) =
    both_calls (steps_exchanges uid gid file first states s leads).made (step_exchanges uid gid file s last step).made (steps_calls uid gid file words f first states s leads)
    (λ all. step_calls uid gid file words f s last step)

reading_end_calls : (uid gid : ℕ) (file : List ℕ) → AreWords uid gid → IsBytes file → (s : ReadingAt) (left : List OpenRead) (b : LinkView) (taken taken' : Option (List ℕ)) (given : Result (Unit {0}) ClientEnd)
    (ends : EndsReading uid gid file s left b taken taken' given) → CallsAreBytes (reading_end_exchanges uid gid file s left b taken taken' given ends).made
reading_end_calls uid gid file words f s left b taken taken' given (EndsByReplies same is waits takes) = tt
reading_end_calls uid gid file words f s left b taken taken' given (OutputFails is same waits takes) = tt
reading_end_calls uid gid file words f s left b taken taken' given (NotAnswered call end alone is gone waits takes) =
    unanswered_calls call s.link b end gone (reads_next uid gid file s.outcomes call words f alone.0)
reading_end_calls uid gid file words f s left b taken taken' given (NotSubmitted call end ahead is refused waits takes) = tt
reading_end_calls uid gid file words f s left b taken taken' given (OldestForgotten read end full is given_is forgets waits takes) = tt

given_up_all : (xids : List ℕ) → CallsAreBytes (map GivenUp xids)
given_up_all [] = tt
given_up_all (xid ∷ xids) = given_up_all xids

pub read_calls : (uid gid : ℕ) (file : List ℕ) → AreWords uid gid → IsBytes file → (b b' : LinkView) (taken taken' : Option (List ℕ)) (given : Result (Unit {0}) ClientEnd)
    (reads : ReadsFile uid gid file b b' taken taken' given) → CallsAreBytes (read_exchanges uid gid file b b' taken taken' given reads).made
read_calls uid gid file words f b b' taken taken' given r =
    let steps = (steps_exchanges uid gid file (starts_at b) r.between r.last r.made).made in
    let end = (reading_end_exchanges uid gid file r.last r.left r.ended taken taken' given r.ends).made in
    both_calls steps (end ++ map GivenUp (xids_of r.left)) (steps_calls uid gid file words f (starts_at b) r.between r.last r.made)
    (λ all. both_calls end (map GivenUp (xids_of r.left)) (reading_end_calls uid gid file words f r.last r.left r.ended taken taken' given r.ends) (λ more. given_up_all (xids_of r.left)))

-- ---- A file that is written

pub write_calls : (uid gid : ℕ) (dir name handed rest : List ℕ) → AreWords uid gid → IsBytes dir → IsBytes name → IsBytes (handed ++ rest) → (b b' : LinkView) (result : Result (Unit {0}) ClientEnd)
    (ends : EndsWriting uid gid dir name handed rest b b' result) → CallsAreBytes (write_exchanges_by uid gid dir name handed rest b b' result ends).made
write_calls uid gid dir name handed rest words d n i b b' result (FollowsInput follows count ahead) =
    (followed_calls Any (writing uid gid dir name (handed ++ rest)) b b' result follows (writes uid gid dir name (handed ++ rest) words d n i)).0
write_calls uid gid dir name handed rest words d n i b b' result (InputFails outcomes is made ahead) =
    made_calls Any (writing uid gid dir name (handed ++ rest)) outcomes b b' made (writes uid gid dir name (handed ++ rest) words d n i)

-- ---- Parts of a command

abbrev pub PartBytes : {A : Type 0} → (A → Type 0) → (part : Part A) → Tells part → Type 0
PartBytes {A} P part tells = (s s' : SessionAt) (result : Result A ClientEnd) (is : part s s' result) → PartOfBytes P (tells s s' result is).made result

pub none_bytes : {A : Type 0} (part : Part A) → PartBytes Any part (tells_none part)
none_bytes part = λ s s' result is. (tt, λ all value same. tt)

pub request_bytes : {A : Type 0} (P : A → Type 0) (reads : Outcome → Result A ClientEnd) (call : Call) → IsByteCall call → ReadsBytes P reads → PartBytes P (Request reads call) (tells_request reads call)
request_bytes P reads call own of_reads = λ s s' result is. asked_calls P reads call s s' result is.0 own of_reads

pub requests_bytes : {A : Type 0} (P : A → Type 0) (request : List Outcome → Next A) → RequestOfBytes P request → PartBytes P (Requests request) (tells_requests request)
requests_bytes P request of_request = λ s s' result is. followed_calls P request s s' result is.0 of_request

pub then_bytes : {A B : Type 0} (P : A → Type 0) (Q : B → Type 0) (first : Part A) (next : A → Part B) (of_first : Tells first) (of_next : (value : A) → Tells (next value)) → PartBytes P first of_first
    → ((value : A) → P value → PartBytes Q (next value) (of_next value)) → PartBytes Q (Then first next) (tells_then first next of_first of_next)
then_bytes P Q first next of_first of_next f n s s' result (inl (value, (mid, (is, goes)))) =
    let made = (of_first s mid (Ok value) is).made in
    let later = (of_next value mid s' result goes).made in
    let one = f s mid (Ok value) is in (
      both_calls made later one.0 (λ all. (n value (one.1 all value refl) mid s' result goes).0),
      λ all v same. (n value (one.1 (first_bytes made later all) value refl) mid s' result goes).1 (later_bytes made later all) v same,
    )
then_bytes P Q first next of_first of_next f n s s' result (inr (end, (is, same))) =
    let one = f s s' (Err end) is in
    (one.0, λ all v e. no_value result end v same e)

pub within_bytes : {A : Type 0} (P : A → Type 0) (above : Bool) (Above Within : Type 0) (exchanges : Within → Exchanges) (is : MatchBool above Above Within) (result : Result A ClientEnd)
    → (Above → (end : ClientEnd) × (result ≡ Err end)) → ((within : Within) → PartOfBytes P (exchanges within).made result) → PartOfBytes P (within_exchanges above Above Within exchanges is).made result
within_bytes P true Above Within exchanges is result fails within = (tt, λ all value same. no_value result (fails is).0 value (fails is).1 same)
within_bytes P false Above Within exchanges is result fails within = within is
