-- What nr_shared says of two passes, said of what their caller knows.
use Rattle.std.proofs.Common.{◌≡◌, ◌⊎◌, ℕ, Bool, true, List, [], ◌∷◌, ◌++◌, map, Option, Result, Ok, Err, IfOk, IfErr, OnErr, is_some, inl, inr, sym, ap, subst, ◌∙◌}
use Rattle.nr_links.specs.Links.{LinkLog}
use Rattle.nr_reduce.specs.declared.call.Call.{Call}
use Rattle.nr_reduce.specs.declared.call.Form.TheVariants as forms
use Rattle.nr_reduce.specs.declared.call.Outcome.{Outcome}
use Rattle.nr_requester.specs.declared.taking.Done.{Done}
use Rattle.nr_turnstile.specs.Passes.{mine_of, seen_by}
use Rattle.nr_turnstile.specs.Rule.{Begins, Lies}
use Rattle.nr_shared.specs.declared.call_rule.AnyCall.{AnyCall}
use Rattle.nr_shared.specs.declared.call_end.CallEnd.{CallEnd}
use Rattle.nr_shared.specs.declared.entry.Entry.{Entry}
use Rattle.nr_shared.specs.declared.entry.Entry.TheVariants as entries
use Rattle.nr_shared.specs.declared.entry.InitialState.{InitialState}
use Rattle.nr_shared.specs.declared.shared.Pass.{Pass}
use Rattle.nr_shared.specs.declared.shared.SharedRequester.{SharedRequester}
use Rattle.nr_shared.specs.declared.source_reader.InitialSource.{InitialSource}
use Rattle.nr_shared.specs.Adding.{Adds}
use Rattle.nr_shared.specs.Callers.{HasOpenCall, KeepsLaw, KeepsOpen}
use Rattle.nr_shared.specs.Histories.{tries_in, tries_of}
use Rattle.nr_shared.specs.Sharing.{SaysCredit, SaysCreditOutOfMemory, SharedRests}
use Rattle.nr_shared.specs.Waiting.{Calls, ForgetsCall, GivesUp, NoAnswer, OwnAnswer, Sends, SendsNone, Submits, Waits}
use Rattle.nr_shared.proofs.Histories.{initial_more}
use Rattle.nr_client.specs.CallerViews.{AddsTo, AnswersBy, CallerView, CompletesBy, ForgetsBy, ForgetsCallBy, ForgottenBy, GivesUpBy, LooksBy, RefusesBy, SubmitsBy, caller_view, first_link, open_call_of, shared_relations}
use Rattle.nr_client.specs.Relations.{ClosesTicketOver, KeepsTicketsOver, OpensTicketOver}
use Rattle.nr_client.specs.SharedParts.{IsAtRest}
use Rattle.nr_client.proofs.CallerTickets.{IsKnown, open_at, ticket_of_completed, ticket_of_forgotten, ticket_of_submitted, tickets_of_answer, tickets_of_given_up, tickets_of_refused}

module _ {I O C D : Type 0} (link : I → ℕ) (left given : I → Option (List ℕ)) (faults : I → ℕ) (asked : D → Option (List (List ℕ))) (ended : D → Option LinkLog) (dialer_faults : D → ℕ) where
  abbrev pub view : Pass I O C D → CallerView
  view p = caller_view link left given faults asked ended dialer_faults p

  adds_to : (p q : Pass I O C D) (es : List Entry) → Adds p.main q.main es → seen_by q.source ≡ seen_by p.source → AddsTo (view p) (view q) es
  adds_to p q es a same = record { seen = a.seen; places = a.places; mine = a.mine; rising = a.rising; at = a.at; new = a.new; same_firsts = ap (λ (bs : List (InitialSource I O C D)). map (first_link link left given faults asked ended dialer_faults) bs) same }

  pub answered_by : (p q : Pass I O C D) (call : Call) (done : Done) → OwnAnswer p.main q.main call forms.Auto done → seen_by q.source ≡ seen_by p.source → KeepsLaw (seen_by q.main) → AnswersBy (view p) (view q) call done.outcome
  answered_by p q call done own same law = record {
    writes_before = own.writes_before;
    are_writes_before = own.are_writes_before;
    writes_after = own.writes_after;
    are_writes_after = own.are_writes_after;
    xid = own.xid;
    at = own.at;
    stands = own.stands;
    adds = adds_to p q ((own.writes_before ++ entries.Submit call forms.Auto own.xid ∷ own.writes_after) ++ entries.Done own.xid done.outcome own.at ∷ []) own.adds same;
    new = own.new;
    own = own.own;
    keeps = own.keeps;
    before = own.before;
    seen = own.seen;
    law = law;
  }

  pub refused_by : (p q : Pass I O C D) (call : Call) (end : CallEnd) → SendsNone p.main q.main call forms.Auto end → seen_by q.source ≡ seen_by p.source → KeepsLaw (seen_by q.main) → RefusesBy (view p) (view q) call end
  refused_by p q call end none same law = record {
    writes_before = none.writes_before;
    are_writes_before = none.are_writes_before;
    adds = adds_to p q none.writes_before none.adds same;
    keeps = none.keeps;
    cause = none.cause;
    written = none.written;
    law = law;
  }

  not_answered : (p q : Pass I O C D) (call : Call) (end : CallEnd) → NoAnswer p.main q.main call forms.Auto end → seen_by q.source ≡ seen_by p.source → KeepsLaw (seen_by q.main) → ForgottenBy (view p) (view q) call end
  not_answered p q call end none same law = record {
    writes_before = none.writes_before;
    are_writes_before = none.are_writes_before;
    writes_after = none.writes_after;
    are_writes_after = none.are_writes_after;
    xid = none.xid;
    at = none.at;
    stands = none.stands;
    adds = adds_to p q ((none.writes_before ++ entries.Submit call forms.Auto none.xid ∷ none.writes_after) ++ entries.Forget none.xid none.at ∷ []) none.adds same;
    new = none.new;
    own = none.own;
    keeps = none.keeps;
    before = none.before;
    seen = none.seen;
    ended = none.ended;
    unanswered = none.unanswered;
    written = none.written;
    law = law;
  }

  pub given_up_by : (p q : Pass I O C D) (call : Call) (end : CallEnd) → SendsNone p.main q.main call forms.Auto end ⊎ NoAnswer p.main q.main call forms.Auto end → seen_by q.source ≡ seen_by p.source → KeepsLaw (seen_by q.main)
      → GivesUpBy (view p) (view q) call end
  given_up_by p q call end (inl none) same law = inl (refused_by p q call end none same law)
  given_up_by p q call end (inr none) same law = inr (not_answered p q call end none same law)

  pub submitted_by : (p q : Pass I O C D) (call : Call) (xid : ℕ) → Sends p.main q.main call forms.Auto xid → seen_by q.source ≡ seen_by p.source → KeepsLaw (seen_by q.main) → SubmitsBy (view p) (view q) call xid
  submitted_by p q call xid sends same law = record {
    writes_before = sends.writes_before;
    are_writes_before = sends.are_writes_before;
    writes_after = sends.writes_after;
    are_writes_after = sends.are_writes_after;
    adds = adds_to p q (sends.writes_before ++ entries.Submit call forms.Auto xid ∷ sends.writes_after) sends.adds same;
    keeps = sends.keeps;
    at = sends.at;
    stands = sends.stands;
    new = sends.new;
    opened = sends.opened;
    written = sends.written;
    law = law;
  }

  -- ---- Of the open call of an xid

  pub has_open_call : (p : Pass I O C D) (xid : ℕ) → Lies (seen_by p.main) (mine_of p.main) → is_some (open_call_of (view p) xid) ≡ true → HasOpenCall p.main xid
  has_open_call p xid lies is = let (k, (call, has)) = open_at (view p) xid is in
      record { at = k; call = call; is_call = has.stands; stays = has.open_place; lies = lies }

  pub completed_by : (p q : Pass I O C D) (xid : ℕ) (done : Done) → is_some (open_call_of (view p) xid) ≡ true → Waits p.main q.main xid (Ok done) → seen_by q.source ≡ seen_by p.source → KeepsLaw (seen_by q.main)
      → CompletesBy xid done.outcome (view p) (view q)
  completed_by p q xid done is waits same law =
      let (k, (call, has)) = open_at (view p) xid is in
      let w = waits k call has.stands has.open_place in
      record {
        at = k;
        call = call;
        had = has;
        writes = w.writes;
        are_writes = w.are_writes;
        adds = adds_to p q (w.writes ++ entries.Done xid done.outcome k ∷ []) w.adds same;
        keeps = w.keeps;
        before = w.before;
        seen = w.seen;
        at_turn = w.at_turn;
        begins = w.begins;
        goes_on = w.goes_on;
        written = w.written;
        law = law;
      }

  pub forgotten_by : (p q : Pass I O C D) (xid : ℕ) (end : CallEnd) → is_some (open_call_of (view p) xid) ≡ true → GivesUp p.main q.main xid end → seen_by q.source ≡ seen_by p.source → KeepsLaw (seen_by q.main)
      → ForgetsBy xid end (view p) (view q)
  forgotten_by p q xid end is gives same law =
      let (k, (call, has)) = open_at (view p) xid is in
      let w = gives k call has.stands has.open_place in
      record {
        at = k;
        call = call;
        had = has;
        writes = w.writes;
        are_writes = w.are_writes;
        adds = adds_to p q (w.writes ++ entries.Forget xid k ∷ []) w.adds same;
        keeps = w.keeps;
        before = w.before;
        seen = w.seen;
        ended = w.ended;
        unanswered = w.unanswered;
        written = w.written;
        law = law;
      }

  pub dropped_by : (p q : Pass I O C D) (xid : ℕ) → is_some (open_call_of (view p) xid) ≡ true → ForgetsCall p.main q.main xid → seen_by q.source ≡ seen_by p.source → KeepsLaw (seen_by q.main) → ForgetsCallBy xid (view p) (view q)
  dropped_by p q xid is forgets same law =
      let (k, (call, has)) = open_at (view p) xid is in
      let w = forgets k call has.stands has.open_place in
      record { at = k; call = call; had = has; adds = adds_to p q (entries.Forget xid k ∷ []) w.adds same; keeps = w.keeps; law = law }

  pub looked_by : (p q : Pass I O C D) → Adds p.main q.main [] → KeepsOpen p.main q.main → seen_by q.source ≡ seen_by p.source → KeepsLaw (seen_by q.main) → LooksBy (view p) (view q)
  looked_by p q added keeps same law = record { adds = adds_to p q [] added same; keeps = keeps; law = law }

  -- ---- A call, by its result, and what a session sees of that

  pub call_ok : (p q : Pass I O C D) (call : Call) (answered : Result Done CallEnd) (result : Result Outcome CallEnd) → IfOk answered (λ done. result ≡ Ok done.outcome) → IfErr answered (λ end. result ≡ Err end)
      → Calls p.main q.main call forms.Auto answered → seen_by q.source ≡ seen_by p.source → KeepsLaw (seen_by q.main) → IfOk result (λ outcome. AnswersBy (view p) (view q) call outcome)
  call_ok p q call (Ok done) result ok err own same law = subst (λ (r : Result Outcome CallEnd). IfOk r (λ outcome. AnswersBy (view p) (view q) call outcome)) (sym ok) (answered_by p q call done own same law)
  call_ok p q call (Err end) result ok err own same law = subst (λ (r : Result Outcome CallEnd). IfOk r (λ outcome. AnswersBy (view p) (view q) call outcome)) (sym err) tt

  pub call_err : (p q : Pass I O C D) (call : Call) (answered : Result Done CallEnd) (result : Result Outcome CallEnd) → IfOk answered (λ done. result ≡ Ok done.outcome) → IfErr answered (λ end. result ≡ Err end)
      → Calls p.main q.main call forms.Auto answered → seen_by q.source ≡ seen_by p.source → KeepsLaw (seen_by q.main) → IfErr result (λ end. GivesUpBy (view p) (view q) call end)
  call_err p q call (Ok done) result ok err own same law = subst (λ (r : Result Outcome CallEnd). IfErr r (λ end. GivesUpBy (view p) (view q) call end)) (sym ok) tt
  call_err p q call (Err end) result ok err own same law = subst (λ (r : Result Outcome CallEnd). IfErr r (λ e. GivesUpBy (view p) (view q) call e)) (sym err) (given_up_by p q call end own same law)

  pub submit_ok : (p q : Pass I O C D) (call : Call) (result : Result ℕ CallEnd) → Submits p.main q.main call forms.Auto result → seen_by q.source ≡ seen_by p.source → KeepsLaw (seen_by q.main) → IfOk result (λ xid. SubmitsBy (view p) (view q) call xid)
  submit_ok p q call (Ok xid) sends same law = submitted_by p q call xid sends same law
  submit_ok p q call (Err end) sends same law = tt

  pub submit_err : (p q : Pass I O C D) (call : Call) (result : Result ℕ CallEnd) → Submits p.main q.main call forms.Auto result → seen_by q.source ≡ seen_by p.source → KeepsLaw (seen_by q.main) → IfErr result (λ end. RefusesBy (view p) (view q) call end)
  submit_err p q call (Ok xid) sends same law = tt
  submit_err p q call (Err end) sends same law = refused_by p q call end sends same law

  pub wait_ok : (p q : Pass I O C D) (xid : ℕ) (answered : Result Done CallEnd) (result : Result Outcome CallEnd) → IfOk answered (λ done. result ≡ Ok done.outcome) → IfErr answered (λ end. result ≡ Err end)
      → is_some (open_call_of (view p) xid) ≡ true → Waits p.main q.main xid answered → seen_by q.source ≡ seen_by p.source → KeepsLaw (seen_by q.main) → IfOk result (λ outcome. CompletesBy xid outcome (view p) (view q))
  wait_ok p q xid (Ok done) result ok err is waits same law = subst (λ (r : Result Outcome CallEnd). IfOk r (λ outcome. CompletesBy xid outcome (view p) (view q))) (sym ok) (completed_by p q xid done is waits same law)
  wait_ok p q xid (Err end) result ok err is waits same law = subst (λ (r : Result Outcome CallEnd). IfOk r (λ outcome. CompletesBy xid outcome (view p) (view q))) (sym err) tt

  pub wait_err : (p q : Pass I O C D) (xid : ℕ) (answered : Result Done CallEnd) (result : Result Outcome CallEnd) → IfOk answered (λ done. result ≡ Ok done.outcome) → IfErr answered (λ end. result ≡ Err end)
      → is_some (open_call_of (view p) xid) ≡ true → Waits p.main q.main xid answered → seen_by q.source ≡ seen_by p.source → KeepsLaw (seen_by q.main) → IfErr result (λ end. ForgetsBy xid end (view p) (view q))
  wait_err p q xid (Ok done) result ok err is waits same law = subst (λ (r : Result Outcome CallEnd). IfErr r (λ end. ForgetsBy xid end (view p) (view q))) (sym ok) tt
  wait_err p q xid (Err end) result ok err is waits same law = subst (λ (r : Result Outcome CallEnd). IfErr r (λ e. ForgetsBy xid e (view p) (view q))) (sym err) (forgotten_by p q xid end is waits same law)

  -- ---- The tickets, and what the pass has seen

  pub tickets_of_call : (p q : Pass I O C D) (call : Call) (result : Result Done CallEnd) → IsKnown (view p) → Calls p.main q.main call forms.Auto result → seen_by q.source ≡ seen_by p.source → KeepsLaw (seen_by q.main)
      → KeepsTicketsOver shared_relations (view p) (view q)
  tickets_of_call p q call (Ok done) known own same law = tickets_of_answer (view p) (view q) call done.outcome known (answered_by p q call done own same law)
  tickets_of_call p q call (Err end) known none same law = tickets_of_given_up (view p) (view q) call end known (given_up_by p q call end none same law)

  pub ticket_of_wait : (p q : Pass I O C D) (xid : ℕ) (result : Result Done CallEnd) → IsKnown (view p) → is_some (open_call_of (view p) xid) ≡ true → Waits p.main q.main xid result → seen_by q.source ≡ seen_by p.source → KeepsLaw (seen_by q.main)
      → ClosesTicketOver shared_relations xid (view p) (view q)
  ticket_of_wait p q xid (Ok done) known is waits same law = ticket_of_completed (view p) (view q) xid done.outcome known (completed_by p q xid done is waits same law)
  ticket_of_wait p q xid (Err end) known is gives same law = ticket_of_forgotten (view p) (view q) xid end known (forgotten_by p q xid end is gives same law)

  pub ticket_of_submit : (p q : Pass I O C D) (call : Call) (result : Result ℕ CallEnd) → IsKnown (view p) → Submits p.main q.main call forms.Auto result → seen_by q.source ≡ seen_by p.source → KeepsLaw (seen_by q.main)
      → IfOk result (λ xid. OpensTicketOver shared_relations xid call (view p) (view q))
  ticket_of_submit p q call (Ok xid) known sends same law = ticket_of_submitted (view p) (view q) call xid known (submitted_by p q call xid sends same law)
  ticket_of_submit p q call (Err end) known sends same law = tt

  pub tickets_of_submit : (p q : Pass I O C D) (call : Call) (result : Result ℕ CallEnd) → IsKnown (view p) → Submits p.main q.main call forms.Auto result → seen_by q.source ≡ seen_by p.source → KeepsLaw (seen_by q.main)
      → OnErr result (KeepsTicketsOver shared_relations (view p) (view q))
  tickets_of_submit p q call (Ok xid) known sends same law = tt
  tickets_of_submit p q call (Err end) known sends same law = tickets_of_refused (view p) (view q) call end known (refused_by p q call end sends same law)

  pub seen_by_submit : (p q : Pass I O C D) (call : Call) (result : Result ℕ CallEnd) → Submits p.main q.main call forms.Auto result → Begins (seen_by p.main) (seen_by q.main)
  seen_by_submit p q call (Ok xid) sends = sends.adds.seen
  seen_by_submit p q call (Err end) none = none.adds.seen

  pub seen_by_call : (p q : Pass I O C D) (call : Call) (result : Result Done CallEnd) → Calls p.main q.main call forms.Auto result → Begins (seen_by p.main) (seen_by q.main)
  seen_by_call p q call (Ok done) own = own.adds.seen
  seen_by_call p q call (Err end) (inl none) = none.adds.seen
  seen_by_call p q call (Err end) (inr none) = none.adds.seen

  pub seen_by_wait : (p q : Pass I O C D) (xid : ℕ) (result : Result Done CallEnd) → is_some (open_call_of (view p) xid) ≡ true → Waits p.main q.main xid result → Begins (seen_by p.main) (seen_by q.main)
  seen_by_wait p q xid (Ok done) is waits = let (k, (call, has)) = open_at (view p) xid is in (waits k call has.stands has.open_place).adds.seen
  seen_by_wait p q xid (Err end) is gives = let (k, (call, has)) = open_at (view p) xid is in (gives k call has.stands has.open_place).adds.seen

  pub seen_by_forget : (p q : Pass I O C D) (xid : ℕ) → is_some (open_call_of (view p) xid) ≡ true → ForgetsCall p.main q.main xid → Begins (seen_by p.main) (seen_by q.main)
  seen_by_forget p q xid is forgets = let (k, (call, has)) = open_at (view p) xid is in (forgets k call has.stands has.open_place).adds.seen

-- what was said of a credit is said of this answer
pub says_credit : (h : List Entry) (has answer : Bool) → has ≡ answer → SaysCredit has h → SaysCreditOutOfMemory has h → SaysCredit answer h × SaysCreditOutOfMemory answer h
says_credit h has answer is says says_out = subst (λ (b : Bool). SaysCredit b h × SaysCreditOutOfMemory b h) is (says, says_out)

-- ---- The link between two calls

module _ {I O D : Type 0} (link : I → ℕ) (left given : I → Option (List ℕ)) (faults : I → ℕ) (asked : D → Option (List (List ℕ))) (ended : D → Option LinkLog) (dialer_faults : D → ℕ) where
  pub known : (s : SharedRequester I O AnyCall D) (p : Pass I O AnyCall D) → SharedRests s p → IsKnown (caller_view link left given faults asked ended dialer_faults p)
  known s p r = record { lies = r.caller.lies; law = r.law }

module _ {I O D : Type 0} where
  pub rests_on : (ended : D → Option LinkLog) (s : SharedRequester I O AnyCall D) (p q : Pass I O AnyCall D) → IsAtRest ended s p → SharedRests s q → seen_by q.source ≡ seen_by p.source → Begins (seen_by p.main) (seen_by q.main) → IsAtRest ended s q
  rests_on ended s p q r rests source seen = record {
    rests = rests;
    tries = ap (λ (l : List Entry). is_some (tries_of l)) seen.1 ∙ (ap (λ (o : Option InitialState). is_some (tries_in o)) (initial_more (seen_by p.main) seen.0 r.rests.law.initial r.rests.law.is_initial ∙ sym r.rests.law.is_initial) ∙ r.tries);
    first = r.first;
    source = source ∙ r.source;
    open_link = r.open_link;
  }
