-- Requests of several calls, one call after another.
use Rattle.std.proofs.Common.{◌≡◌, ◌⊎◌, List, [], ◌∷◌, Result, Ok, Err, inl, inr, refl, sym, ap, subst, ◌∙◌}
use Rattle.nr_reduce.specs.declared.call.Call.{Call}
use Rattle.nr_reduce.specs.declared.call.Outcome.{Outcome}
use Rattle.nr_client.specs.declared.client_end.ClientEnd.{ClientEnd}
use Rattle.nr_client.specs.declared.client_end.ClientEnd.TheVariants as client
use Rattle.nr_client.specs.Following.{Next, go_on, FollowsOver, MakesCallsOver, EndsWithOver}
use Rattle.nr_client.specs.Following.Next.{Calls, Returns}
use Rattle.nr_client.specs.Results.{Gives}
use Rattle.nr_client.specs.Relations.{CallRelations}
use Rattle.nr_client.specs.Requests.{AsksOver}

pub gives_itself : (A : Type 0) (end : ClientEnd) → Gives {A = A} (Err end) (Err end)
gives_itself A client.DialFault = refl
gives_itself A (client.Link end) = refl
gives_itself A (client.Rpc kind code) = refl
gives_itself A (client.Mount status) = refl
gives_itself A (client.Nfs status) = refl
gives_itself A client.Chunk = refl
gives_itself A (client.Version low high) = refl
gives_itself A (client.BadReply at reason) = refl
gives_itself A (client.BadPath at) = refl
gives_itself A client.InputFault = refl
gives_itself A client.OutputFault = refl
gives_itself A (client.Budget count) = refl
gives_itself A client.Memory = tt

pub given_end : {A : Type 0} (end : ClientEnd) (read : Result A ClientEnd) → Gives (Err end) read → (end ≡ client.Memory) ⊎ (read ≡ Err end)
given_end client.DialFault read gives = inr gives
given_end (client.Link end) read gives = inr gives
given_end (client.Rpc kind code) read gives = inr gives
given_end (client.Mount status) read gives = inr gives
given_end (client.Nfs status) read gives = inr gives
given_end client.Chunk read gives = inr gives
given_end (client.Version low high) read gives = inr gives
given_end (client.BadReply at reason) read gives = inr gives
given_end (client.BadPath at) read gives = inr gives
given_end client.InputFault read gives = inr gives
given_end client.OutputFault read gives = inr gives
given_end (client.Budget count) read gives = inr gives
given_end client.Memory read gives = inl refl

-- memory runs out at any moment
out_at : {V : Type 0} {A : Type 0} (rel : CallRelations V) (next : Next A) (b : V) → EndsWithOver rel next b b (Err client.Memory)
out_at {V} rel (Calls call) b = (client.Memory, (refl, inr (refl, refl)))
out_at {V} rel (Returns answer) b = (tt, refl)

pub runs_out : {V : Type 0} {A : Type 0} (rel : CallRelations V) (request : List Outcome → Next A) (b : V) → FollowsOver rel request b b (Err client.Memory)
runs_out {V} rel request b = record { outcomes = []; between = b; made = refl; ends = out_at rel (request []) b }

-- a request that has its result
pub returns_at_once : {V : Type 0} {A : Type 0} (rel : CallRelations V) (request : List Outcome → Next A) (answer result : Result A ClientEnd) (b : V)
    → request [] ≡ Returns answer → Gives result answer → FollowsOver rel request b b result
returns_at_once {V} {A} rel request answer result b is gives = record {
  outcomes = [];
  between = b;
  made = refl;
  ends = subst (λ (next : Next A). EndsWithOver rel next b b result) (sym is) (gives, refl);
}

-- after a first call the request goes on with what its outcome is read as
abbrev pub Follow : {A B : Type 0} → (List Outcome → Next A) → (Outcome → Result B ClientEnd) → (B → List Outcome → Next A) → Type 0
Follow {A} request reads next = (outcome : Outcome) → ◌≡◌ {A = List Outcome → Next A} (λ later. request (outcome ∷ later)) (λ later. go_on (reads outcome) (λ v. next v later))

-- A call was answered, and read as a value; then the request goes on with what follows from that.
pub goes_on : {V : Type 0} {A B : Type 0} (rel : CallRelations V) (request : List Outcome → Next A) (call : Call) (reads : Outcome → Result B ClientEnd) (next : B → List Outcome → Next A) (value : B)
    (b c d : V) (result : Result A ClientEnd)
    → request [] ≡ Calls call → Follow request reads next
    → AsksOver rel reads call b c (Ok value) → FollowsOver rel (next value) c d result → FollowsOver rel request b d result
goes_on {V} {A} {B} rel request call reads next value b c d result first later (inl (outcome, (answers, gives))) rest =
    let same : ◌≡◌ {A = List Outcome → Next A} (λ later. request (outcome ∷ later)) (next value) =
    later outcome ∙ ap (λ (r : Result B ClientEnd). λ (outcomes : List Outcome). go_on r (λ v. next v outcomes)) gives in
    record {
      outcomes = outcome ∷ rest.outcomes;
      between = rest.between;
      made = (call, c, (first, (answers, subst (λ (f : List Outcome → Next A). MakesCallsOver rel f rest.outcomes c rest.between) (sym same) rest.made)));
      ends = subst (λ (f : List Outcome → Next A). EndsWithOver rel (f rest.outcomes) rest.between d result) (sym same) rest.ends;
    }
goes_on {V} rel request call reads next value b c d result first later (inr (inl (cause, (is, given_up)))) rest = absurd (let wrong : Ok value ≡ Err (client.Link cause) = is in cc)
goes_on {V} rel request call reads next value b c d result first later (inr (inr (is, same))) rest = absurd (let wrong : Ok value ≡ Err client.Memory = is in cc)

-- the end of a call that has no result
abbrev pub end_of : {A : Type 0} → Result A ClientEnd → ClientEnd
end_of (Ok value) = client.Memory
end_of (Err end) = end

ended : {V : Type 0} {A B : Type 0} (rel : CallRelations V) (end : ClientEnd) (next : Next A) (read : Result B ClientEnd) (more : B → Next A) (b : V)
    → next ≡ go_on read more → (end ≡ client.Memory) ⊎ (read ≡ Err end) → EndsWithOver rel next b b (Err end)
ended {V} {A} rel end next read more b is (inl out) = subst (λ (e : ClientEnd). EndsWithOver rel next b b (Err e)) (sym out) (out_at rel next b)
ended {V} {A} {B} rel end next read more b is (inr failed) =
    let returns : next ≡ Returns (Err end) = is ∙ ap (λ (r : Result B ClientEnd). go_on r more) failed in
    subst (λ (n : Next A). EndsWithOver rel n b b (Err end)) (sym returns) (gives_itself A end, refl)

-- A call was made and had no result, or it has no answer: so the request has none.
pub ends_there : {V : Type 0} {A B : Type 0} (rel : CallRelations V) (request : List Outcome → Next A) (call : Call) (reads : Outcome → Result B ClientEnd) (next : B → List Outcome → Next A) (end : ClientEnd)
    (b c : V)
    → request [] ≡ Calls call → Follow request reads next
    → AsksOver rel reads call b c (Err end) → FollowsOver rel request b c (Err end)
ends_there {V} {A} {B} rel request call reads next end b c first later (inl (outcome, (answers, gives))) = record {
  outcomes = outcome ∷ [];
  between = c;
  made = (call, c, (first, (answers, refl)));
  ends = ended rel end (request (outcome ∷ [])) (reads outcome) (λ v. next v []) c (ap (λ (f : List Outcome → Next A). f []) (later outcome)) (given_end end (reads outcome) gives);
}
ends_there {V} {A} {B} rel request call reads next end b c first later (inr (inl (cause, (is, given_up)))) = record {
  outcomes = [];
  between = b;
  made = refl;
  ends = subst (λ (n : Next A). EndsWithOver rel n b c (Err end)) (sym first) (end, (refl, inl (cause, (ap (λ (r : Result B ClientEnd). end_of r) is, given_up))));
}
ends_there {V} {A} {B} rel request call reads next end b c first later (inr (inr (is, same))) = record {
  outcomes = [];
  between = b;
  made = refl;
  ends = subst (λ (n : Next A). EndsWithOver rel n b c (Err end)) (sym first) (end, (refl, inr (ap (λ (r : Result B ClientEnd). end_of r) is, same)));
}

-- ---- What is left of a request

-- However what is left of a request ends, the complete request ends so.
abbrev pub LeadsTo : {V : Type 0} {A : Type 0} → (rel : CallRelations V) (whole : List Outcome → Next A) (b : V) (rest : List Outcome → Next A) (c : V) → Type 0
LeadsTo {V} {A} rel whole b rest c = (d : V) (result : Result A ClientEnd) → FollowsOver rel rest c d result → FollowsOver rel whole b d result
