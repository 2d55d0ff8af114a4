-- Requests of one call and of several.
use Rattle.std.proofs.Common.{◌≡◌, List, [], ◌∷◌, Result, Ok, Err, inl, inr, sym, subst}
use Rattle.nr_reduce.specs.declared.call.Call.{Call}
use Rattle.nr_reduce.specs.declared.call.Outcome.{Outcome}
use Rattle.nr_client.specs.declared.client_end.ClientEnd.{ClientEnd}
use Rattle.nr_client.specs.Following.{EndsWith, Follows, MakesCalls, Next, Unanswered}
use Rattle.nr_client.specs.Following.Next.{Calls, Returns}
use Rattle.nr_client.specs.Requests.{Asks}
use Rattle.nr_client.specs.Views.{LinkView}
use Rattle.nr_service_laws.specs.Exchanges.{Exchanges, asked_exchanges, end_exchanges, followed_exchanges, made_exchanges, one, unanswered_exchanges}
use Rattle.nr_service_laws.specs.Exchanges.Exchange.{Answered}
use Rattle.nr_service_laws.specs.SessionMarks.{HasDone}
use Rattle.nr_service_laws.proofs.Extending.{does_as, does_both, does_none_at}
use Rattle.nr_service_laws.proofs.OneCall.{does_answers, does_gives_up}

-- a value is no end
no_end : {B : Type 0} (given : Result B ClientEnd) (end : ClientEnd) → ◌≡◌ {A = Result (Unit {0}) ClientEnd} (Ok tt) (Err end) → given ≡ Err end
no_end given end is = absurd (let wrong = is in cc)

-- what was done without an end, with any result
pub does_any : {B : Type 0} (given : Result B ClientEnd) (b c : LinkView) (exchanges : Exchanges) → HasDone {A = Unit {0}} (Ok tt) b c exchanges → HasDone given b c exchanges
does_any {B} given b c exchanges does = does_as {A = Unit {0}} {B = B} (Ok tt) given b c exchanges (λ end is. no_end given end is) does

pub does_unanswered : {A : Type 0} (call : Call) (b c : LinkView) (end : ClientEnd) (gone : Unanswered call b c end)
    → HasDone {A = A} (Err end) b c (unanswered_exchanges call b c end gone)
does_unanswered {A} call b c end (inl (cause, (is, (gives_up, why)))) =
    subst (λ (e : ClientEnd). HasDone {A = A} (Err e) b c (unanswered_exchanges call b c end (inl (cause, (is, (gives_up, why)))))) (sym is)
    (does_gives_up {A = A} call cause b c gives_up)
does_unanswered {A} call b c end (inr (is, same)) = does_none_at {A = A} (Err end) b c same

-- a request of one call
pub does_asks : {A : Type 0} (reads : Outcome → Result A ClientEnd) (call : Call) (b c : LinkView) (result : Result A ClientEnd) (asks : Asks reads call b c result)
    → HasDone result b c (asked_exchanges reads call b c result asks)
does_asks reads call b c result (inl (outcome, (answers, gives))) =
    does_any result b c (one (Answered call outcome)) (does_answers {A = Unit {0}} tt call outcome b c answers.0)
does_asks {A} reads call b c result (inr (inl (cause, (is, (gives_up, why))))) =
    subst (λ (r : Result A ClientEnd). HasDone r b c (asked_exchanges reads call b c result (inr (inl (cause, (is, (gives_up, why))))))) (sym is)
    (does_gives_up {A = A} call cause b c gives_up)
does_asks reads call b c result (inr (inr (is, same))) = does_none_at result b c same

-- a request of several calls
pub does_made : {A : Type 0} (request : List Outcome → Next A) (outcomes : List Outcome) (b c : LinkView) (made : MakesCalls request outcomes b c)
    → HasDone {A = Unit {0}} (Ok tt) b c (made_exchanges request outcomes b c made)
does_made request [] b c made = does_none_at {A = Unit {0}} (Ok tt) b c made
does_made request (outcome ∷ outcomes) b c (call, d, (is, (answers, rest))) =
    does_both {A = Unit {0}} {B = Unit {0}} tt (Ok tt) b d c (one (Answered call outcome)) (made_exchanges (λ later. request (outcome ∷ later)) outcomes d c rest)
    (does_answers {A = Unit {0}} tt call outcome b d answers.0)
    (does_made (λ later. request (outcome ∷ later)) outcomes d c rest)

pub does_end : {A : Type 0} (next : Next A) (b c : LinkView) (given : Result A ClientEnd) (ends : EndsWith next b c given)
    → HasDone given b c (end_exchanges next b c given ends)
does_end (Returns result) b c given (gives, same) = does_none_at given b c same
does_end {A} (Calls call) b c given (end, (is, gone)) =
    subst (λ (r : Result A ClientEnd). HasDone r b c (unanswered_exchanges call b c end gone)) (sym is) (does_unanswered {A = A} call b c end gone)

pub does_follows : {A : Type 0} (request : List Outcome → Next A) (b c : LinkView) (given : Result A ClientEnd) (f : Follows request b c given)
    → HasDone given b c (followed_exchanges request b c given f)
does_follows {A} request b c given f =
    does_both {A = Unit {0}} {B = A} tt given b f.between c (made_exchanges request f.outcomes b f.between f.made)
    (end_exchanges (request f.outcomes) f.between c given f.ends)
    (does_made request f.outcomes b f.between f.made)
    (does_end (request f.outcomes) f.between c given f.ends)
