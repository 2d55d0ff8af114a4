-- The ends of parts of a command over a shared requester: by the calls of the caller's own that were answered, each with its cause if a call has no answer.
use Rattle.std.proofs.Common.{◌≡◌, ◌≢◌, ◌⊎◌, ◌<◌, ◌≤◌, ℕ, arith, Bool, true, false, List, [], ◌∷◌, ◌++◌, length, Option, None, Some, Result, Ok, Err, inl, inr, refl, sym, ap, subst, ◌∙◌}
use Rattle.std.specs.Prelude.{IfSome, MatchBool, MatchResult}
use Rattle.std.specs.Io.KnownBytes.{Consumes}
use Rattle.nr_outside.specs.Faults.{Rises}
use Rattle.nr_outside.specs.Whole.{input_max}
use Rattle.nr_reduce.specs.declared.call.Call.{Call}
use Rattle.nr_reduce.specs.declared.call.Form.TheVariants as forms
use Rattle.nr_reduce.specs.declared.call.Outcome.{Outcome}
use Rattle.nr_shared.specs.declared.entry.Entry.TheVariants as entries
use Rattle.nr_shared.proofs.Asking.{asked_just}
use Rattle.nr_client.specs.declared.client_end.ClientEnd.{ClientEnd}
use Rattle.nr_client.specs.declared.client_end.ClientEnd.TheVariants as client
use Rattle.nr_client.specs.CallerViews.{CallerView, HasCallAt, KeepsOpenAt, KeepsOthersAt, shared_relations}
use Rattle.nr_client.specs.Following.{EndsWithOver, FollowsOver, MakesCallsOver, Next, UnansweredOver}
use Rattle.nr_client.specs.Following.Next.{Calls, Returns}
use Rattle.nr_client.specs.Reading.{EndsReadingOver, ForgetsCallsOver, InputFaults, LeadsOver, OpenRead, OutputFaults, ReadStepOver, ReadingOver, ReadsFileOver, reading, starts_at, xids_of}
use Rattle.nr_client.specs.Reading.ReadStepOver.{AsksAhead, Looks, MakesAlone, TakesOldest}
use Rattle.nr_client.specs.Reading.EndsReadingOver.{EndsByReplies, NotAnswered, NotSubmitted, OldestForgotten, OutputFails}
use Rattle.nr_client.specs.Results.{Gives}
use Rattle.nr_client.proofs.CallerTickets.{IsKnown}
use Rattle.nr_commands.specs.Commands.{IsSilent}
use Rattle.nr_commands.specs.Sessions.{PartOver, RequestOver, RequestsOver, TextOver, ThenOver}
use Rattle.nr_service_laws.specs.ReplyEnds.{AreAnswers, IsAnsweredBy}
use Rattle.nr_service_laws.proofs.Judged.{Any, IsReadEnd, NextIs, RequestIs, ResultIs, answers_more}
use Rattle.nr_top_laws.specs.NumberedStatuses.{HasCause, answered_calls}
use Rattle.nr_top_laws.proofs.CallerExchanges.{Grows, answered_so, call_on, cause_on, completed_so, forgotten_cause, gone_cause, grows_both, grows_by, grows_not, grows_up, known_by, known_up, refused_cause, same_call, same_place}

-- ---- Ends

abbrev pub EndsIn : (ClientEnd → Type 0) → ClientEnd → CallerView → Type 0
EndsIn F client.DialFault v = ⊥
EndsIn F (client.Link end) v = HasCause end v
EndsIn F client.Memory v = Unit {0}
EndsIn F end v = F end

abbrev pub GivenIn : {A : Type 0} → (A → Type 0) → (ClientEnd → Type 0) → Result A ClientEnd → CallerView → Type 0
GivenIn V F (Ok value) v = V value
GivenIn V F (Err end) v = EndsIn F end v

end_in : (F : ClientEnd → Type 0) (end : ClientEnd) (v : CallerView) → IsReadEnd F end → EndsIn F end v
end_in F client.DialFault v is = is
end_in F (client.Link end) v is = absurd is
end_in F (client.Rpc kind code) v is = is
end_in F (client.Mount status) v is = is
end_in F (client.Nfs status) v is = is
end_in F client.Chunk v is = is
end_in F (client.Version low high) v is = is
end_in F (client.BadReply at reason) v is = is
end_in F (client.BadPath at) v is = is
end_in F client.InputFault v is = absurd is
end_in F client.OutputFault v is = absurd is
end_in F (client.Budget count) v is = is
end_in F client.Memory v is = tt

read_in : {A : Type 0} (V : A → Type 0) (F : ClientEnd → Type 0) (result : Result A ClientEnd) (v : CallerView) → ResultIs V F result → GivenIn V F result v
read_in V F (Ok value) v is = is
read_in V F (Err end) v is = end_in F end v is

given_or_memory : {A : Type 0} (given read : Result A ClientEnd) → Gives given read → (given ≡ Err client.Memory) ⊎ (read ≡ given)
given_or_memory (Ok value) read gives = inr gives
given_or_memory (Err client.DialFault) read gives = inr gives
given_or_memory (Err (client.Link end)) read gives = inr gives
given_or_memory (Err (client.Rpc kind code)) read gives = inr gives
given_or_memory (Err (client.Mount status)) read gives = inr gives
given_or_memory (Err (client.Nfs status)) read gives = inr gives
given_or_memory (Err client.Chunk) read gives = inr gives
given_or_memory (Err (client.Version low high)) read gives = inr gives
given_or_memory (Err (client.BadReply at reason)) read gives = inr gives
given_or_memory (Err (client.BadPath at)) read gives = inr gives
given_or_memory (Err client.InputFault) read gives = inr gives
given_or_memory (Err client.OutputFault) read gives = inr gives
given_or_memory (Err (client.Budget count)) read gives = inr gives
given_or_memory (Err client.Memory) read gives = inl refl

returned_in : {A : Type 0} (V : A → Type 0) (F : ClientEnd → Type 0) (given read : Result A ClientEnd) (v : CallerView) → (given ≡ Err client.Memory) ⊎ (read ≡ given) → ResultIs V F read → GivenIn V F given v
returned_in {A} V F given read v (inl same) is = subst (λ (r : Result A ClientEnd). GivenIn V F r v) (sym same) tt
returned_in {A} V F given read v (inr same) is = read_in V F given v (subst (λ (r : Result A ClientEnd). ResultIs V F r) same is)

gives_in : {A : Type 0} (V : A → Type 0) (F : ClientEnd → Type 0) (given read : Result A ClientEnd) (v : CallerView) → Gives given read → ResultIs V F read → GivenIn V F given v
gives_in V F given read v gives is = returned_in V F given read v (given_or_memory given read gives) is

ends_on : (F : ClientEnd → Type 0) (end : ClientEnd) (v w : CallerView) → Grows v w → EndsIn F end v → EndsIn F end w
ends_on F client.DialFault v w g is = is
ends_on F (client.Link end) v w g is = cause_on v w end g is
ends_on F (client.Rpc kind code) v w g is = is
ends_on F (client.Mount status) v w g is = is
ends_on F (client.Nfs status) v w g is = is
ends_on F client.Chunk v w g is = is
ends_on F (client.Version low high) v w g is = is
ends_on F (client.BadReply at reason) v w g is = is
ends_on F (client.BadPath at) v w g is = is
ends_on F client.InputFault v w g is = is
ends_on F client.OutputFault v w g is = is
ends_on F (client.Budget count) v w g is = is
ends_on F client.Memory v w g is = is

given_on : {A : Type 0} (V : A → Type 0) (F : ClientEnd → Type 0) (given : Result A ClientEnd) (v w : CallerView) → Grows v w → GivenIn V F given v → GivenIn V F given w
given_on V F (Ok value) v w g is = is
given_on V F (Err end) v w g is = ends_on F end v w g is

-- ---- Parts

-- `u` is what the caller knows at last. The part grows the view to `w`; what it gives is judged by the calls that were answered, if `H` holds of what was
-- given before.
pub record Does {A : Type 0} (H : Type 0) (u : CallerView) (V : A → Type 0) (F : ClientEnd → Type 0) (v w : CallerView) (result : Result A ClientEnd) : Type 0 where
  pub grows : Grows v w
  pub known : IsKnown w
  pub given : H → Grows w u → GivenIn V F result w

abbrev pub PartIn : {A : Type 0} → Type 0 → (u : CallerView) → (A → Type 0) → (ClientEnd → Type 0) → PartOver CallerView A → Type 0
PartIn {A} H u V F part = (v w : CallerView) (result : Result A ClientEnd) → part v w result → IsKnown v → Does H u V F v w result

pub stays_in : {A : Type 0} (H : Type 0) (u : CallerView) (V : A → Type 0) (F : ClientEnd → Type 0) (v w : CallerView) (result : Result A ClientEnd) → w ≡ v → IsKnown v → GivenIn V F result w → Does H u V F v w result
stays_in H u V F v w result same known is = record { grows = grows_not v w same; known = subst IsKnown (sym same) known; given = λ h g. is }

pub text_in : (H : Type 0) (u : CallerView) (F : ClientEnd → Type 0) (text : List ℕ) → PartIn H u Any F (TextOver text)
text_in H u F text v w result (same, is) known = stays_in H u Any F v w result same known (by result is) where
  by : (r : Result (List ℕ) ClientEnd) → MatchResult r (λ t. t ≡ text) (λ end. end ≡ client.Memory) → GivenIn Any F r w
  by (Ok t) one = tt
  by (Err end) one = subst (λ (e : ClientEnd). EndsIn F e w) (sym one) tt

pub then_in : {A B : Type 0} (H : Type 0) (u : CallerView) (V : A → Type 0) (W : B → Type 0) (F : ClientEnd → Type 0) (first : PartOver CallerView A) (next : A → PartOver CallerView B) → PartIn H u V F first → ((value : A) → PartIn (V value) u W F (next value))
    → PartIn H u W F (ThenOver first next)
then_in H u V W F first next one goes_on v w result (inl (value, (mid, (is, goes)))) known =
    let d = one v mid (Ok value) is known in
    let e = goes_on value mid w result goes d.known in
    record { grows = grows_both v mid w d.grows e.grows; known = e.known; given = λ h g. e.given (d.given h (grows_both mid w u e.grows g)) g }
then_in {A} {B} H u V W F first next one goes_on v w result (inr (end, (is, same))) known =
    let d = one v w (Err end) is known in
    record { grows = d.grows; known = d.known; given = λ h g. subst (λ (r : Result B ClientEnd). GivenIn W F r w) (sym same) (d.given h g) }

pub within_in : (above : Bool) (Above Within Is : Type 0) → (above ≡ true → Above → Is) → (Within → Is) → MatchBool above Above Within → Is
within_in true Above Within Is beyond within is = beyond refl is
within_in false Above Within Is beyond within is = within is

-- ---- Requests

module _ (u : CallerView) where
  abbrev pub R : Call → Outcome → Type 0
  R call outcome = IsAnsweredBy (answered_calls u) call outcome

  unanswered_in : (F : ClientEnd → Type 0) (call : Call) (v w : CallerView) (end : ClientEnd) → UnansweredOver shared_relations call v w end → EndsIn F end w
  unanswered_in F call v w end (inl (cause, (is, up))) = subst (λ (e : ClientEnd). EndsIn F e w) (sym is) (gone_cause v w call cause up)
  unanswered_in F call v w end (inr (is, same)) = subst (λ (e : ClientEnd). EndsIn F e w) (sym is) tt

  unanswered_moves : (call : Call) (v w : CallerView) (end : ClientEnd) → UnansweredOver shared_relations call v w end → IsKnown v → Grows v w × IsKnown w
  unanswered_moves call v w end (inl (cause, (is, up))) known = (grows_up v w call cause up, known_up v w call cause known up)
  unanswered_moves call v w end (inr (is, same)) known = (grows_not v w same, subst IsKnown (sym same) known)

  answer_moves : (call : Call) (outcome : Outcome) (v w : CallerView) → shared_relations.answers v w call outcome → IsKnown v → Grows v w × IsKnown w
  answer_moves call outcome v w a known = (
    grows_by v w ((a.writes_before ++ entries.Submit call forms.Auto a.xid ∷ a.writes_after) ++ entries.Done a.xid outcome a.at ∷ []) a.adds,
    known_by v w ((a.writes_before ++ entries.Submit call forms.Auto a.xid ∷ a.writes_after) ++ entries.Done a.xid outcome a.at ∷ []) known a.adds a.law,
  )

  pub asks_in : {A : Type 0} (V : A → Type 0) (F : ClientEnd → Type 0) (reads : Outcome → Result A ClientEnd) (call : Call) (H : Type 0) → (H → (o : Outcome) → R call o → ResultIs V F (reads o)) → PartIn H u V F (RequestOver shared_relations reads call)
  asks_in V F reads call H judge v w result (inl (outcome, (answers, gives)), counts) known =
      let m = answer_moves call outcome v w answers known in
      record { grows = m.0; known = m.1; given = λ h g. gives_in V F result (reads outcome) w gives (judge h outcome (answered_so v w u call outcome answers g)) }
  asks_in {A} V F reads call H judge v w result (inr (inl (cause, (is, up))), counts) known =
      record { grows = grows_up v w call cause up; known = known_up v w call cause known up; given = λ h g. subst (λ (r : Result A ClientEnd). GivenIn V F r w) (sym is) (gone_cause v w call cause up) }
  asks_in {A} V F reads call H judge v w result (inr (inr (is, same)), counts) known = stays_in H u V F v w result same known (subst (λ (r : Result A ClientEnd). GivenIn V F r w) (sym is) tt)

  pub made_moves : {A : Type 0} (request : List Outcome → Next A) (outcomes : List Outcome) (v w : CallerView) → MakesCallsOver shared_relations request outcomes v w → IsKnown v → Grows v w × IsKnown w
  made_moves request [] v w same known = (grows_not v w same, subst IsKnown (sym same) known)
  made_moves request (outcome ∷ outcomes) v w (call, mid, (is, (answers, rest))) known =
      let m = answer_moves call outcome v mid answers known in
      let n = made_moves (λ later. request (outcome ∷ later)) outcomes mid w rest m.1 in
      (grows_both v mid w m.0 n.0, n.1)

  answers_of : {A : Type 0} (request : List Outcome → Next A) (outcomes : List Outcome) (v w : CallerView) → MakesCallsOver shared_relations request outcomes v w → IsKnown v → Grows w u → AreAnswers R request outcomes
  answers_of request [] v w same known g = tt
  answers_of request (outcome ∷ outcomes) v w (call, mid, (is, (answers, rest))) known g =
      let m = answer_moves call outcome v mid answers known in
      let n = made_moves (λ later. request (outcome ∷ later)) outcomes mid w rest m.1 in
      ((call, (is, answered_so v mid u call outcome answers (grows_both mid w u n.0 g))), answers_of (λ later. request (outcome ∷ later)) outcomes mid w rest m.1 g)

  pub follows_in : {A : Type 0} (V : A → Type 0) (F : ClientEnd → Type 0) (request : List Outcome → Next A) (H : Type 0) → (H → RequestIs R V F request) → (v w : CallerView) (given : Result A ClientEnd) → FollowsOver shared_relations request v w given → IsKnown v
      → Does H u V F v w given
  follows_in {A} V F request H judge v w given f known =
      let m = made_moves request f.outcomes v f.between f.made known in
      by (request f.outcomes) f.ends (λ h g. judge h f.outcomes (answers_of request f.outcomes v f.between f.made known g)) m.0 m.1
    where
      by : (next : Next A) → EndsWithOver shared_relations next f.between w given → (H → Grows f.between u → NextIs V F next) → Grows v f.between → IsKnown f.between → Does H u V F v w given
      by (Returns result) (gives, same) is grown there = record {
        grows = grows_both v f.between w grown (grows_not f.between w same);
        known = subst IsKnown (sym same) there;
        given = λ h g. gives_in V F given result w gives (is h (grows_both f.between w u (grows_not f.between w same) g));
      }
      by (Calls call) (end, (same, gone)) is grown there =
          let m = unanswered_moves call f.between w end gone there in
          record { grows = grows_both v f.between w grown m.0; known = m.1; given = λ h g. subst (λ (r : Result A ClientEnd). GivenIn V F r w) (sym same) (unanswered_in F call f.between w end gone) }

  pub requests_in : {A : Type 0} (V : A → Type 0) (F : ClientEnd → Type 0) (request : List Outcome → Next A) (H : Type 0) → (H → RequestIs R V F request) → PartIn H u V F (RequestsOver shared_relations request)
  requests_in V F request H judge v w result (follows, counts) known = follows_in V F request H judge v w result follows known

  -- ---- A file that is read

  abbrev NoneOf : ℕ → List ℕ → Type 0
  NoneOf k [] = Unit {0}
  NoneOf k (j ∷ js) = (j ≢ k) × NoneOf k js

  -- the READs that wait are open calls at these places, each at another one
  abbrev AreOpen : CallerView → List OpenRead → List ℕ → Type 0
  AreOpen v [] [] = Unit {0}
  AreOpen v (read ∷ reads) (k ∷ ks) = HasCallAt v read.xid k read.call × (NoneOf k ks × AreOpen v reads ks)
  AreOpen v reads ks = ⊥

  first_open : (v : CallerView) (read : OpenRead) (reads : List OpenRead) (ks : List ℕ) → AreOpen v (read ∷ reads) ks → (k : ℕ) × ((js : List ℕ) × (HasCallAt v read.xid k read.call × (NoneOf k js × AreOpen v reads js)))
  first_open v read reads [] are = absurd are
  first_open v read reads (k ∷ js) are = (k, (js, are))

  all_open : (v w : CallerView) (reads : List OpenRead) (ks : List ℕ) → Grows v w → KeepsOpenAt v w → AreOpen v reads ks → AreOpen w reads ks
  all_open v w [] [] g keeps are = tt
  all_open v w (read ∷ reads) (k ∷ ks) g keeps (has, (apart, are)) = (call_on v w read.xid k read.call g has (keeps k has.open_place), (apart, all_open v w reads ks g keeps are))
  all_open v w [] (k ∷ ks) g keeps are = absurd are
  all_open v w (read ∷ reads) [] g keeps are = absurd are

  others_open : (v w : CallerView) (at : ℕ) (reads : List OpenRead) (ks : List ℕ) → Grows v w → KeepsOthersAt at v w → NoneOf at ks → AreOpen v reads ks → AreOpen w reads ks
  others_open v w at [] [] g keeps none are = tt
  others_open v w at (read ∷ reads) (k ∷ ks) g keeps (other, none) (has, (apart, are)) =
      (call_on v w read.xid k read.call g has (keeps k other has.open_place), (apart, others_open v w at reads ks g keeps none are))
  others_open v w at [] (k ∷ ks) g keeps none are = absurd are
  others_open v w at (read ∷ reads) [] g keeps none are = absurd are

  new_apart : (v : CallerView) (at : ℕ) (reads : List OpenRead) (ks : List ℕ) → IsKnown v → length v.seen ≤ at → AreOpen v reads ks → NoneOf at ks
  new_apart v at [] [] known new are = tt
  new_apart v at (read ∷ reads) (k ∷ ks) known new (has, (apart, are)) = ((λ same. (let l = known.lies k has.open_place.0 in omega (arith, l, new, same))), new_apart v at reads ks known new are)
  new_apart v at [] (k ∷ ks) known new are = absurd are
  new_apart v at (read ∷ reads) [] known new are = absurd are

  none_last : (j k : ℕ) (ks : List ℕ) → NoneOf j ks → k ≢ j → NoneOf j (ks ++ k ∷ [])
  none_last j k [] none other = (other, tt)
  none_last j k (one ∷ ks) (here, none) other = (here, none_last j k ks none other)

  open_last : (w : CallerView) (read : OpenRead) (reads : List OpenRead) (k : ℕ) (ks : List ℕ) → AreOpen w reads ks → NoneOf k ks → HasCallAt w read.xid k read.call → AreOpen w (reads ++ read ∷ []) (ks ++ k ∷ [])
  open_last w read [] k [] are none has = (has, (tt, tt))
  open_last w read (one ∷ reads) k (j ∷ ks) (here, (apart, are)) (other, none) has = (here, (none_last j k ks apart (λ same. other (sym same)), open_last w read reads k ks are none has))
  open_last w read [] k (j ∷ ks) are none has = absurd are
  open_last w read (one ∷ reads) k [] are none has = absurd are

  record ReadSoFar (uid gid : ℕ) (file : List ℕ) (s : ReadingOver CallerView) : Type 0 where
    known : IsKnown s.link
    places : List ℕ
    open_reads : AreOpen s.link s.waiting places
    answers : Grows s.link u → AreAnswers R (reading uid gid file) s.outcomes

  step_in : (uid gid : ℕ) (file : List ℕ) (s t : ReadingOver CallerView) → ReadStepOver shared_relations uid gid file s t → ReadSoFar uid gid file s → Grows s.link t.link × ReadSoFar uid gid file t
  step_in uid gid file s t (MakesAlone call outcome alone answers replies waits) so_far =
      let m = answer_moves call outcome s.link t.link answers so_far.known in (
        m.0,
        record {
          known = m.1;
          places = so_far.places;
          open_reads = subst (λ (reads : List OpenRead). AreOpen t.link reads so_far.places) (sym waits) (all_open s.link t.link s.waiting so_far.places m.0 answers.keeps so_far.open_reads);
          answers = λ g. subst (λ (os : List Outcome). AreAnswers R (reading uid gid file) os) (sym replies)
              (answers_more R (reading uid gid file) s.outcomes call outcome (so_far.answers (grows_both s.link t.link u m.0 g)) alone.0 (answered_so s.link t.link u call outcome answers g));
        },
      )
  step_in uid gid file s t (AsksAhead read ahead submits replies waits) so_far =
      let grown = grows_by s.link t.link (submits.writes_before ++ entries.Submit read.call forms.Auto read.xid ∷ submits.writes_after) submits.adds in
      let none = new_apart s.link submits.at s.waiting so_far.places so_far.known submits.new so_far.open_reads in
      let has : HasCallAt t.link read.xid submits.at read.call = record { stands = (entries.Submit read.call forms.Auto read.xid, submits.stands, asked_just read.xid read.call forms.Auto); open_place = submits.opened } in (
        grown,
        record {
          known = known_by s.link t.link (submits.writes_before ++ entries.Submit read.call forms.Auto read.xid ∷ submits.writes_after) so_far.known submits.adds submits.law;
          places = so_far.places ++ submits.at ∷ [];
          open_reads = subst (λ (reads : List OpenRead). AreOpen t.link reads (so_far.places ++ submits.at ∷ [])) (sym waits)
              (open_last t.link read s.waiting submits.at so_far.places (all_open s.link t.link s.waiting so_far.places grown submits.keeps so_far.open_reads) none has);
          answers = λ g. subst (λ (os : List Outcome). AreAnswers R (reading uid gid file) os) (sym replies) (so_far.answers (grows_both s.link t.link u grown g));
        },
      )
  step_in uid gid file s t (TakesOldest read outcome full is completes replies waits) so_far =
      let es = completes.writes ++ entries.Done read.xid outcome completes.at ∷ [] in
      let grown = grows_by s.link t.link es completes.adds in
      let (k, (js, (has, (apart, are)))) = first_open s.link read t.waiting so_far.places (subst (λ (reads : List OpenRead). AreOpen s.link reads so_far.places) waits so_far.open_reads) in
      let here : k ≡ completes.at = same_place s.link read.xid k completes.at read.call completes.call so_far.known.law has completes.had in
      let same : completes.call ≡ read.call = sym (same_call s.link read.xid k completes.at read.call completes.call so_far.known.law has completes.had) in (
        grown,
        record {
          known = known_by s.link t.link es so_far.known completes.adds completes.law;
          places = js;
          open_reads = others_open s.link t.link completes.at t.waiting js grown completes.keeps (subst (λ (n : ℕ). NoneOf n js) here apart) are;
          answers = λ g. subst (λ (os : List Outcome). AreAnswers R (reading uid gid file) os) (sym replies)
              (answers_more R (reading uid gid file) s.outcomes read.call outcome (so_far.answers (grows_both s.link t.link u grown g)) is
              (subst (λ (c : Call). R c outcome) same (completed_so s.link t.link u read.xid outcome completes g)));
        },
      )
  step_in uid gid file s t (Looks looks replies waits) so_far =
      let grown = grows_by s.link t.link [] looks.adds in (
        grown,
        record {
          known = known_by s.link t.link [] so_far.known looks.adds looks.law;
          places = so_far.places;
          open_reads = subst (λ (reads : List OpenRead). AreOpen t.link reads so_far.places) (sym waits) (all_open s.link t.link s.waiting so_far.places grown looks.keeps so_far.open_reads);
          answers = λ g. subst (λ (os : List Outcome). AreAnswers R (reading uid gid file) os) (sym replies) (so_far.answers (grows_both s.link t.link u grown g));
        },
      )

  steps_in : (uid gid : ℕ) (file : List ℕ) (v : CallerView) (states : List (ReadingOver CallerView)) (last : ReadingOver CallerView) → LeadsOver shared_relations uid gid file (starts_at v) states last → IsKnown v
      → Grows v last.link × ReadSoFar uid gid file last
  steps_in uid gid file v [] last same known =
      subst (λ (s : ReadingOver CallerView). Grows v s.link × ReadSoFar uid gid file s) (sym same) (grows_not v v refl, record { known = known; places = []; open_reads = tt; answers = λ g. tt })
  steps_in uid gid file v (s ∷ states) last (step, leads) known =
      let before = steps_in uid gid file v states s leads known in
      let one = step_in uid gid file s last step before.1 in
      (grows_both v s.link last.link before.0 one.0, one.1)

  next_in : (F : ClientEnd → Type 0) (given : Result (Unit {0}) ClientEnd) (next : Next (Unit {0})) (v : CallerView) → NextIs Any F next → (given ≡ Err client.Memory) ⊎ (next ≡ Returns given) → GivenIn Any F given v
  next_in F given next v is (inl same) = subst (λ (r : Result (Unit {0}) ClientEnd). GivenIn Any F r v) (sym same) tt
  next_in F given next v is (inr same) = read_in Any F given v (subst (λ (n : Next (Unit {0})). NextIs Any F n) same is)

  reading_end_in : (F : ClientEnd → Type 0) (uid gid : ℕ) (file : List ℕ) (s : ReadingOver CallerView) (left : List OpenRead) (w : CallerView) (taken taken' : Option (List ℕ)) (given : Result (Unit {0}) ClientEnd) (H : Type 0)
      → EndsReadingOver shared_relations uid gid file s left w taken taken' given → (given ≡ Err client.OutputFault → F client.OutputFault) → ReadSoFar uid gid file s → (H → RequestIs R Any F (reading uid gid file))
      → Does H u Any F s.link w given
  reading_end_in F uid gid file s left w taken taken' given H (EndsByReplies same is waits takes) fault so_far judge = record {
    grows = grows_not s.link w same;
    known = subst IsKnown (sym same) so_far.known;
    given = λ h g. next_in F given (reading uid gid file s.outcomes) w (judge h s.outcomes (so_far.answers (grows_both s.link w u (grows_not s.link w same) g))) is;
  }
  reading_end_in F uid gid file s left w taken taken' given H (OutputFails is same waits takes) fault so_far judge =
      stays_in H u Any F s.link w given same so_far.known (subst (λ (r : Result (Unit {0}) ClientEnd). GivenIn Any F r w) (sym is) (fault is))
  reading_end_in F uid gid file s left w taken taken' given H (NotAnswered call end alone is gone waits takes) fault so_far judge =
      let m = unanswered_moves call s.link w end gone so_far.known in
      record { grows = m.0; known = m.1; given = λ h g. subst (λ (r : Result (Unit {0}) ClientEnd). GivenIn Any F r w) (sym is) (unanswered_in F call s.link w end gone) }
  reading_end_in F uid gid file s left w taken taken' given H (NotSubmitted call end ahead is refused waits takes) fault so_far judge = record {
    grows = grows_by s.link w refused.writes_before refused.adds;
    known = known_by s.link w refused.writes_before so_far.known refused.adds refused.law;
    given = λ h g. subst (λ (r : Result (Unit {0}) ClientEnd). GivenIn Any F r w) (sym is) (refused_cause s.link w call end refused);
  }
  reading_end_in F uid gid file s left w taken taken' given H (OldestForgotten read end full is given_is forgets waits takes) fault so_far judge = record {
    grows = grows_by s.link w (forgets.writes ++ entries.Forget read.xid forgets.at ∷ []) forgets.adds;
    known = known_by s.link w (forgets.writes ++ entries.Forget read.xid forgets.at ∷ []) so_far.known forgets.adds forgets.law;
    given = λ h g. subst (λ (r : Result (Unit {0}) ClientEnd). GivenIn Any F r w) (sym given_is) (forgotten_cause s.link w read.xid end forgets);
  }

  dropped_moves : (xids : List ℕ) (v w : CallerView) → ForgetsCallsOver shared_relations xids v w → IsKnown v → Grows v w × IsKnown w
  dropped_moves [] v w same known = (grows_not v w same, subst IsKnown (sym same) known)
  dropped_moves (xid ∷ xids) v w (mid, (forgets, rest)) known =
      let there = known_by v mid (entries.Forget xid forgets.at ∷ []) known forgets.adds forgets.law in
      let n = dropped_moves xids mid w rest there in
      (grows_both v mid w (grows_by v mid (entries.Forget xid forgets.at ∷ []) forgets.adds) n.0, n.1)

  pub reads_in : (F : ClientEnd → Type 0) (uid gid : ℕ) (file : List ℕ) (v w : CallerView) (taken taken' : Option (List ℕ)) (given : Result (Unit {0}) ClientEnd) → ReadsFileOver shared_relations uid gid file v w taken taken' given
      → (given ≡ Err client.OutputFault → F client.OutputFault) → (H : Type 0) → (H → RequestIs R Any F (reading uid gid file)) → IsKnown v → Does H u Any F v w given
  reads_in F uid gid file v w taken taken' given f fault H judge known =
      let so_far = steps_in uid gid file v f.between f.last f.made known in
      let end = reading_end_in F uid gid file f.last f.left f.ended taken taken' given H f.ends fault so_far.1 judge in
      let m = dropped_moves (xids_of f.left) f.ended w f.forgets end.known in
      record {
        grows = grows_both v f.last.link w so_far.0 (grows_both f.last.link f.ended w end.grows m.0);
        known = m.1;
        given = λ h g. given_on Any F given f.ended w m.0 (end.given h (grows_both f.ended w u m.0 g));
      }

  -- ---- Parts that have no text

  silent_in : (F : ClientEnd → Type 0) (w : CallerView) (done : Result (Unit {0}) ClientEnd) (text : Result (List ℕ) ClientEnd) → IsSilent done text → GivenIn Any F done w → GivenIn Any F text w
  silent_in F w (Ok done) (Ok text) silent is = tt
  silent_in F w (Ok done) (Err why) silent is = absurd silent
  silent_in F w (Err end) (Ok text) silent is = absurd silent
  silent_in F w (Err end) (Err why) silent is = subst (λ (e : ClientEnd). EndsIn F e w) (sym silent) is

  pub does_silent : (H : Type 0) (F : ClientEnd → Type 0) (v w : CallerView) (done : Result (Unit {0}) ClientEnd) (text : Result (List ℕ) ClientEnd) → IsSilent done text → Does H u Any F v w done → Does H u Any F v w text
  does_silent H F v w done text silent d = record { grows = d.grows; known = d.known; given = λ h g. silent_in F w done text silent (d.given h g) }

  pub output_rose : (done : Result (Unit {0}) ClientEnd) (before after : ℕ) → OutputFaults done before after → done ≡ Err client.OutputFault → Rises before after
  output_rose done before after counts is = subst (λ (r : Result (Unit {0}) ClientEnd). OutputFaults r before after) is counts

  pub input_rose : (done : Result (Unit {0}) ClientEnd) (before after : ℕ) → InputFaults done before after → done ≡ Err client.InputFault → Rises before after
  input_rose done before after counts is = subst (λ (r : Result (Unit {0}) ClientEnd). InputFaults r before after) is counts

  pub whole_input : (handed rest : List ℕ) (left left' : Option (List ℕ)) → Consumes left left' handed → IfSome left' (λ known. rest ≡ known) → input_max < length (handed ++ rest) → IfSome left (λ known. input_max < length known)
  whole_input handed rest None left' takes is long = tt
  whole_input handed rest (Some left) None takes is long = absurd takes
  whole_input handed rest (Some left) (Some known) takes is long = subst (λ (bytes : List ℕ). input_max < length bytes) (ap (λ (r : List ℕ). handed ++ r) is ∙ sym takes) long
