-- The calls of a request, one after another.
use Rattle.std.proofs.Common.{◌≡◌, List, [], ◌∷◌, ◌++◌, Result, Ok, Err, inl, inr, refl, sym, ap, subst, ◌⊎◌}
use Rattle.nr_reduce.specs.declared.call.Call.{Call}
use Rattle.nr_reduce.specs.declared.call.Outcome.{Outcome}
use Rattle.nr_shared.specs.declared.call_end.CallEnd.{CallEnd}
use Rattle.nr_client.specs.declared.client_end.ClientEnd.{ClientEnd}
use Rattle.nr_client.specs.declared.client_end.ClientEnd.TheVariants as client
use Rattle.nr_client.specs.Following.{Next, FollowsOver, MakesCallsOver, UnansweredOver, EndsWithOver}
use Rattle.nr_client.specs.Following.Next.{Calls, Returns}
use Rattle.nr_client.specs.Results.{Gives}
use Rattle.nr_client.specs.Relations.{CallRelations}
use Rattle.nr_client.specs.Requests.{AsksOver}

-- one call more
pub calls_more : {V : Type 0} {A : Type 0} (rel : CallRelations V) (request : List Outcome → Next A) (outcomes : List Outcome) (b c d : V) (call : Call) (outcome : Outcome)
    → MakesCallsOver rel request outcomes b c → request outcomes ≡ Calls call → rel.answers c d call outcome → MakesCallsOver rel request (outcomes ++ outcome ∷ []) b d
calls_more {V} rel request [] b c d call outcome same is answered =
    (call, d, (is, (subst (λ (x : V). rel.answers x d call outcome) same answered, refl)))
calls_more {V} rel request (first ∷ outcomes) b c d call outcome (made, e, (calls, (answers, rest))) is answered =
    (made, e, (calls, (answers, calls_more rel (λ later. request (first ∷ later)) outcomes e c d call outcome rest is answered)))

-- out of memory ends any request
pub memory_ends : {V : Type 0} {A : Type 0} (rel : CallRelations V) (next : Next A) (b : V) → EndsWithOver rel next b b (Err client.Memory)
memory_ends {V} rel (Returns result) b = (tt, refl)
memory_ends {V} rel (Calls call) b = (client.Memory, (refl, inr (refl, refl)))

-- an end that a reply gives is out of memory, or what the reply is read as
pub end_of_reply : {A : Type 0} (B : Type 0) (end : ClientEnd) (read : Result A ClientEnd) → Gives {A = A} (Err end) read
    → (end ≡ client.Memory) ⊎ ((read ≡ Err end) × Gives {A = B} (Err end) (Err end))
end_of_reply B client.DialFault read gives = inr (gives, refl)
end_of_reply B (client.Link end) read gives = inr (gives, refl)
end_of_reply B (client.Rpc kind code) read gives = inr (gives, refl)
end_of_reply B (client.Mount status) read gives = inr (gives, refl)
end_of_reply B (client.Nfs status) read gives = inr (gives, refl)
end_of_reply B client.Chunk read gives = inr (gives, refl)
end_of_reply B (client.Version low high) read gives = inr (gives, refl)
end_of_reply B (client.BadReply at reason) read gives = inr (gives, refl)
end_of_reply B (client.BadPath at) read gives = inr (gives, refl)
end_of_reply B client.InputFault read gives = inr (gives, refl)
end_of_reply B client.OutputFault read gives = inr (gives, refl)
end_of_reply B (client.Budget count) read gives = inr (gives, refl)
end_of_reply B client.Memory read gives = inl refl

-- a request ends: its next call has no answer; or its last reply is read as an end, or memory ran out for that; or it has its result
pub ends_unanswered : {V : Type 0} {A : Type 0} (rel : CallRelations V) (request : List Outcome → Next A) (outcomes : List Outcome) (c d : V) (call : Call) (end : ClientEnd)
    → request outcomes ≡ Calls call → UnansweredOver rel call c d end → EndsWithOver rel (request outcomes) c d (Err end)
ends_unanswered {V} {A} rel request outcomes c d call end is unanswered = subst (λ (next : Next A). EndsWithOver rel next c d (Err end)) (sym is) (end, (refl, unanswered))

pub ends_answered : {V : Type 0} {A B : Type 0} (rel : CallRelations V) (request : List Outcome → Next A) (outcomes : List Outcome) (c : V) (end : ClientEnd) (read : Result B ClientEnd)
    → Gives {A = B} (Err end) read → (read ≡ Err end → request outcomes ≡ Returns (Err end)) → EndsWithOver rel (request outcomes) c c (Err end)
ends_answered {V} {A} {B} rel request outcomes c end read gives then = by (end_of_reply {A = B} A end read gives)
  where
    by : (end ≡ client.Memory) ⊎ ((read ≡ Err end) × Gives {A = A} (Err end) (Err end)) → EndsWithOver rel (request outcomes) c c (Err end)
    by (inl memory) = subst (λ (e : ClientEnd). EndsWithOver rel (request outcomes) c c (Err e)) (sym memory) (memory_ends rel (request outcomes) c)
    by (inr (is, same)) = subst (λ (next : Next A). EndsWithOver rel next c c (Err end)) (sym (then is)) (same, refl)

pub ends_done : {V : Type 0} {A : Type 0} (rel : CallRelations V) (request : List Outcome → Next A) (outcomes : List Outcome) (c : V) (result : Result A ClientEnd)
    → request outcomes ≡ Returns result → Gives result result → EndsWithOver rel (request outcomes) c c result
ends_done {V} {A} rel request outcomes c result is gives = subst (λ (next : Next A). EndsWithOver rel next c c result) (sym is) (gives, refl)

-- all of such a request
pub follows_unanswered : {V : Type 0} {A : Type 0} (rel : CallRelations V) (request : List Outcome → Next A) (outcomes : List Outcome) (b c d : V) (call : Call) (end : ClientEnd)
    → MakesCallsOver rel request outcomes b c → request outcomes ≡ Calls call → UnansweredOver rel call c d end → FollowsOver rel request b d (Err end)
follows_unanswered {V} rel request outcomes b c d call end made is unanswered =
    record { outcomes = outcomes; between = c; made = made; ends = ends_unanswered rel request outcomes c d call end is unanswered }

pub follows_answered : {V : Type 0} {A B : Type 0} (rel : CallRelations V) (request : List Outcome → Next A) (outcomes : List Outcome) (b c : V) (end : ClientEnd) (read : Result B ClientEnd)
    → MakesCallsOver rel request outcomes b c → Gives {A = B} (Err end) read → (read ≡ Err end → request outcomes ≡ Returns (Err end)) → FollowsOver rel request b c (Err end)
follows_answered {V} {A} {B} rel request outcomes b c end read made gives then =
    record { outcomes = outcomes; between = c; made = made; ends = ends_answered {A = A} {B = B} rel request outcomes c end read gives then }

pub follows_done : {V : Type 0} {A : Type 0} (rel : CallRelations V) (request : List Outcome → Next A) (outcomes : List Outcome) (b c : V) (result : Result A ClientEnd)
    → MakesCallsOver rel request outcomes b c → request outcomes ≡ Returns result → Gives result result → FollowsOver rel request b c result
follows_done {V} rel request outcomes b c result made is gives = record { outcomes = outcomes; between = c; made = made; ends = ends_done rel request outcomes c result is gives }

-- the end in place of a value
abbrev pub end_in : {A : Type 0} → Result A ClientEnd → ClientEnd
end_in (Ok value) = client.Memory
end_in (Err end) = end

-- a request whose first call has an end in place of a value
pub follows_asked : {V : Type 0} {A B : Type 0} (rel : CallRelations V) (request : List Outcome → Next A) (reads : Outcome → Result B ClientEnd) (b c : V) (call : Call) (end : ClientEnd)
    → request [] ≡ Calls call → ((outcome : Outcome) → reads outcome ≡ Err end → request (outcome ∷ []) ≡ Returns (Err end))
    → AsksOver {A = B} rel reads call b c (Err end) → FollowsOver rel request b c (Err end)
follows_asked {V} {A} {B} rel request reads b c call end is then (inl (outcome, (answered, gives))) =
    follows_answered {A = A} {B = B} rel request (outcome ∷ []) b c end (reads outcome) (call, c, (is, (answered, refl))) gives (then outcome)
follows_asked {V} {A} {B} rel request reads b c call end is then (inr (inl (cause, (same, rest)))) =
    record {
      outcomes = [];
      between = b;
      made = refl;
      ends = subst (λ (next : Next A). EndsWithOver rel next b c (Err end)) (sym is) (client.Link cause, (ap (λ (e : ClientEnd). Err e) (ap (end_in {A = B}) same), inl (cause, (refl, rest))));
    }
follows_asked {V} {A} {B} rel request reads b c call end is then (inr (inr (same, rest))) =
    record {
      outcomes = [];
      between = b;
      made = refl;
      ends = subst (λ (next : Next A). EndsWithOver rel next b c (Err end)) (sym is) (client.Memory, (ap (λ (e : ClientEnd). Err e) (ap (end_in {A = B}) same), inr (refl, rest)));
    }

-- a call, by another name for it
pub answered_as : {V : Type 0} (rel : CallRelations V) (call asked : Call) (outcome : Outcome) (b c : V) → call ≡ asked → rel.answers b c call outcome → rel.answers b c asked outcome
answered_as {V} rel call asked outcome b c same answered = subst (λ (a : Call). rel.answers b c a outcome) same answered

pub given_up_as : {V : Type 0} (rel : CallRelations V) (call asked : Call) (cause : CallEnd) (b c : V) → call ≡ asked → rel.gives_up b c call cause
    → UnansweredOver rel asked b c (client.Link cause)
given_up_as {V} rel call asked cause b c same given_up =
    inl (cause, (refl, subst (λ (a : Call). rel.gives_up b c a cause) same given_up))

-- a call whose outcome is read
pub asks_by_answer : {V : Type 0} {A : Type 0} (rel : CallRelations V) (reads : Outcome → Result A ClientEnd) (call : Call) (b c : V) (outcome : Outcome) (result : Result A ClientEnd)
    → rel.answers b c call outcome → Gives result (reads outcome) → AsksOver rel reads call b c result
asks_by_answer {V} rel reads call b c outcome result answered gives = inl (outcome, (answered, gives))

pub asks_by_end : {V : Type 0} (rel : CallRelations V) (A : Type 0) (reads : Outcome → Result A ClientEnd) (call : Call) (b c : V) (end : ClientEnd)
    → UnansweredOver rel call b c end → AsksOver {A = A} rel reads call b c (Err end)
asks_by_end {V} rel A reads call b c end (inl (cause, (is, rest))) = inr (inl (cause, (ap (λ (e : ClientEnd). Err e) is, rest)))
asks_by_end {V} rel A reads call b c end (inr (is, same)) = inr (inr (ap (λ (e : ClientEnd). Err e) is, same))
