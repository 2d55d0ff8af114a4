-- All calls that can be sent again are: a requester stands for their Submits.
use Rattle.std.proofs.Common.{◌≡◌, ℕ, zero, suc, ◌+◌, ◌-◌, ◌≤◌, Bool, true, false, cond, ◌&&◌, ltb, List, [], ◌∷◌, ◌++◌, length, map, take, drop, Option, None, Some, is_none, refl, sym, ap, subst, ◌∙◌, arith, append-nil, append_assoc, length-append}
use Rattle.std.proofs.lemmas.Bool.{le-ltb, lt-ltb}
use Rattle.std.proofs.lemmas.List.{length-map}
use Rattle.nr_reduce.specs.declared.mark.LinkParameters.{LinkParameters}
use Rattle.nr_reduce.specs.declared.mark.Mark.{Mark}
use Rattle.nr_reduce.specs.EndRules.{EndState}
use Rattle.nr_reduce.specs.KeptCalls.{numbered_calls}
use Rattle.nr_reduce.specs.Resending.{resend_mark, resends_after}
use Rattle.nr_reduce.specs.SubmitAnswer.{calls_to_resend}
use Rattle.nr_reduce.specs.ClientState.{WaitingCall, ClientState}
use Rattle.nr_reduce.specs.Run.{client}
use Rattle.nr_reduce.proofs.Numbered.{numbered_length}
use Rattle.nr_reduce.proofs.Resending.{both, first_to_resend, resent_next}
use Rattle.nr_wire.specs.declared.hello.Side.TheVariants.{Initiator}
use Rattle.nr_link.specs.declared.end.End.{End}
use Rattle.nr_reduce.specs.declared.mark.Mark.TheVariants as marks
use Rattle.nr_reduce.specs.Asked.{as_accepted, client_calls}
use Rattle.nr_reduce.specs.Events.{events}
use Rattle.nr_requester.specs.AfterPiece.{after_fed}
use Rattle.nr_requester.specs.CountedMarks.{has_bytes}
use Rattle.nr_requester.specs.KeptAnswers.{KeepsAnswers, is_due}
use Rattle.nr_requester.proofs.CountedMarks.{counted_beside, own_bytes}
use Rattle.nr_requester.proofs.Fed.{fed_answers, fed_client}
use Rattle.nr_requester.proofs.OwnSides.{own_client, piece_calls, piece_own}
use Rattle.nr_requester.specs.RequesterState.{RequesterState, RequesterSide, feeding_of}
use Rattle.nr_requester.specs.Standing.{LinkKeeps, KeepsClient, waiting_message}
use Rattle.nr_requester.specs.ReopenedLinks.{RequesterKeeps, own_side}
use Rattle.nr_requester.specs.Resends.{FeedIsMarks, after_feed, after_resend, may_resend, resent_from, resent_unless, with_resends}
use Rattle.nr_requester.proofs.HeldBack.{none_taken}
use Rattle.nr_requester.proofs.ResendStands.{KeepsSoFar, resend_so_far}

-- whether it may send one again: by the calls that its client has outstanding
module _ (opened : LinkParameters) (link : ℕ) (h : RequesterSide) (run : List Mark) (s : KeepsClient opened link h run) (none : h.state.side.ended ≡ None) where
  abbrev k : ClientState
  k = (client opened link run).state

  keeps : LinkKeeps opened h.state.side k
  keeps = s.side none

  beside : length h.state.outstanding - length h.state.side.send_queue.held ≡ length k.outstanding
  beside =
      (let all : length h.state.outstanding ≡ length (numbered_calls k) = s.kept.keeps.outstanding in
      let counted : length (numbered_calls k) ≡ length k.outstanding + length k.waiting = numbered_length k in
      let held : length h.state.side.send_queue.held ≡ length k.waiting = ap (λ (ms : List (List ℕ)). length ms) keeps.held ∙ length-map k.waiting (waiting_message opened) in
      omega (arith, all, counted, held))

  pub may_is : may_resend h.state ≡ (k.has_hello && ltb (length k.outstanding) k.grant)
  may_is = λ i. keeps.has_hello i && ltb (beside i) (s.kept.keeps.grant i)

-- ---- None

-- if it can send none again, it doesn't
may_not : (has_hello : Bool) (grant out : ℕ) (w : WaitingCall) (ws : List WaitingCall) → cond has_hello (take (grant - out) (w ∷ ws)) [] ≡ [] → (has_hello && ltb out grant) ≡ false
may_not false grant out w ws is = refl
may_not true grant out w ws is = (let none = none_taken (grant - out) w ws is in le-ltb out grant (omega (arith, none)))

none_allowed : (e : EndState ClientState) (w : WaitingCall) (ws : List WaitingCall) → e.ended ≡ None → e.state.waiting ≡ w ∷ ws → calls_to_resend e ≡ [] → (e.state.has_hello && ltb (length e.state.outstanding) e.state.grant) ≡ false
unfolding calls_to_resend
none_allowed e w ws stays first is =
    may_not e.state.has_hello e.state.grant (length e.state.outstanding) w ws
    ((λ i. cond (is_none (sym stays i) && e.state.has_hello) (take (e.state.grant - length e.state.outstanding) (sym first i)) []) ∙ is)

unsent : (h : RequesterSide) (messages : List (List ℕ)) → may_resend h.state ≡ false → resent_from messages h ≡ h
unsent h [] is = refl
unsent h (message ∷ messages) is = ap (λ (b : Bool). cond b (resent_from messages (after_resend h message)) h) is

-- ---- All

sent_one : (h : RequesterSide) (message : List ℕ) (messages : List (List ℕ)) → may_resend h.state ≡ true → resent_from (message ∷ messages) h ≡ resent_from messages (after_resend h message)
sent_one h message messages is = ap (λ (b : Bool). cond b (resent_from messages (after_resend h message)) h) is

rest_held : (h : RequesterSide) (message : List ℕ) → (after_resend h message).state.side.send_queue.held ≡ drop 1 h.state.side.send_queue.held
unfolding after_resend
rest_held h message = refl

still_live : (h : RequesterSide) (message : List ℕ) → (after_resend h message).state.side.ended ≡ h.state.side.ended
unfolding after_resend
still_live h message = refl

all_resent : (is_own : ℕ → Bool) (earlier : ℕ) (opened : LinkParameters) (link : ℕ) (cs : List WaitingCall) (h : RequesterSide) (run : List Mark) → KeepsSoFar is_own earlier opened link h run → h.state.side.ended ≡ None →
    calls_to_resend (client opened link run) ≡ cs → RequesterKeeps is_own earlier opened link (resent_from h.state.side.send_queue.held h) (run ++ map (resend_mark link) cs)
all_resent is_own earlier opened link [] h run s none is =
    subst (λ (marks : List Mark). RequesterKeeps is_own earlier opened link (resent_from h.state.side.send_queue.held h) marks) (sym (append-nil run))
    (subst (λ (x : RequesterSide). RequesterKeeps is_own earlier opened link x run) (sym (by (client opened link run).state.waiting refl))
    (record { keeps = s.keeps; calls = s.calls; answers = s.answers; counted = s.counted; resent = is }))
  where
    stays : (client opened link run).ended ≡ None
    stays = sym s.keeps.kept.keeps.ended ∙ none

    by : (ws : List WaitingCall) → (client opened link run).state.waiting ≡ ws → resent_from h.state.side.send_queue.held h ≡ h
    by [] first = ap (λ (ms : List (List ℕ)). resent_from ms h) ((s.keeps.side none).held ∙ ap (λ (xs : List WaitingCall). map (waiting_message opened) xs) first)
    by (w ∷ ws) first = unsent h h.state.side.send_queue.held (may_is opened link h run s.keeps none ∙ none_allowed (client opened link run) w ws stays first is)
all_resent is_own earlier opened link (w ∷ cs) h run s none is =
    let r : EndState ClientState = client opened link run in
    let first = first_to_resend r w cs is in
    let can = both r.ended r.state.has_hello first.allowed in
    let held : h.state.side.send_queue.held ≡ waiting_message opened w ∷ map (waiting_message opened) first.others = (s.keeps.side none).held ∙ ap (λ (xs : List WaitingCall). map (waiting_message opened) xs) first.there in
    let may : may_resend h.state ≡ true = may_is opened link h run s.keeps none
    ∙ (λ i. can.1 i && lt-ltb (length r.state.outstanding) r.state.grant (let count = first.count in omega (arith, count)) i) in
    let after : RequesterSide = after_resend h (waiting_message opened w) in
    let next : KeepsSoFar is_own earlier opened link after (run ++ resend_mark link w ∷ []) = resend_so_far is_own earlier opened link h run w first.others s none first.there in
    let rest : RequesterKeeps is_own earlier opened link (resent_from after.state.side.send_queue.held after) ((run ++ resend_mark link w ∷ []) ++ map (resend_mark link) cs) =
    all_resent is_own earlier opened link cs after (run ++ resend_mark link w ∷ []) next (still_live h (waiting_message opened w) ∙ none) (resent_next opened link run w cs is) in
    let left : after.state.side.send_queue.held ≡ map (waiting_message opened) first.others = rest_held h (waiting_message opened w) ∙ ap (λ (ms : List (List ℕ)). drop 1 ms) held in
    let same : resent_from after.state.side.send_queue.held after ≡ resent_from h.state.side.send_queue.held h =
    ap (λ (ms : List (List ℕ)). resent_from ms after) left ∙ sym (sent_one h (waiting_message opened w) (map (waiting_message opened) first.others) may) ∙ sym (ap (λ (ms : List (List ℕ)). resent_from ms h) held) in
    subst (λ (marks : List Mark). RequesterKeeps is_own earlier opened link (resent_from h.state.side.send_queue.held h) marks) (append_assoc run (resend_mark link w ∷ []) (map (resend_mark link) cs))
    (subst (λ (x : RequesterSide). RequesterKeeps is_own earlier opened link x ((run ++ resend_mark link w ∷ []) ++ map (resend_mark link) cs)) same rest)

resends_are_marks : (is_own : ℕ → Bool) (earlier : ℕ) (opened : LinkParameters) (link : ℕ) (h : RequesterSide) (run : List Mark) → KeepsSoFar is_own earlier opened link h run → h.state.side.ended ≡ None →
    RequesterKeeps is_own earlier opened link (with_resends h) (run ++ resends_after opened link run)
unfolding with_resends
resends_are_marks is_own earlier opened link h run s none = all_resent is_own earlier opened link (calls_to_resend (client opened link run)) h run s none refl

-- ---- A piece of the server's stream

pub fed_so_far : (is_own : ℕ → Bool) (earlier : ℕ) (opened : LinkParameters) (link : ℕ) (h : RequesterSide) (run : List Mark) (piece staging : List ℕ) → RequesterKeeps is_own earlier opened link h run →
    KeepsSoFar is_own earlier opened link (after_fed h piece staging) (run ++ marks.Fed link Initiator piece ∷ [])
fed_so_far is_own earlier opened link h run piece staging s =
    let mark : Mark = marks.Fed link Initiator piece in
    let own : KeepsAnswers opened (events link Initiator (run ++ mark ∷ [])) (is_due link (run ++ mark ∷ [])) (client_calls opened link (run ++ mark ∷ [])) (after_fed (own_side is_own h) piece staging).state =
    fed_answers (map as_accepted opened.resumed) opened link (own_side is_own h) run piece staging (own_client is_own opened link h run s.keeps) s.answers in
    record {
      keeps = fed_client opened link h run piece staging s.keeps;
      calls = piece_calls is_own (feeding_of h) piece s.calls;
      answers = subst (λ (r : RequesterState). KeepsAnswers opened (events link Initiator (run ++ mark ∷ [])) (is_due link (run ++ mark ∷ [])) (client_calls opened link (run ++ mark ∷ [])) r) (sym (piece_own is_own (feeding_of h) piece s.calls.outstanding)) own;
      counted = counted_beside earlier link run mark h.marks (has_bytes piece) (own_bytes link piece) s.counted;
    }

-- one that has ended sends nothing again
ended_none : (e : EndState ClientState) (end : End) → e.ended ≡ Some end → calls_to_resend e ≡ []
unfolding calls_to_resend
ended_none e end is = ap (λ (x : Option End). cond (is_none x && e.state.has_hello) (take (e.state.grant - length e.state.outstanding) e.state.waiting) []) is

fed_by : (is_own : ℕ → Bool) (earlier : ℕ) (opened : LinkParameters) (link : ℕ) (h : RequesterSide) (run : List Mark) (ended : Option End) → h.state.side.ended ≡ ended → KeepsSoFar is_own earlier opened link h run →
    RequesterKeeps is_own earlier opened link (resent_unless ended h) (run ++ resends_after opened link run)
fed_by is_own earlier opened link h run None is s = resends_are_marks is_own earlier opened link h run s is
fed_by is_own earlier opened link h run (Some end) is s =
    let none : calls_to_resend (client opened link run) ≡ [] = ended_none (client opened link run) end (sym s.keeps.kept.keeps.ended ∙ is) in
    subst (λ (marks : List Mark). RequesterKeeps is_own earlier opened link h marks) (sym (ap (λ (ws : List WaitingCall). run ++ map (resend_mark link) ws) none ∙ append-nil run))
    (record { keeps = s.keeps; calls = s.calls; answers = s.answers; counted = s.counted; resent = none })

pub feed_is_marks : FeedIsMarks
unfolding after_feed
feed_is_marks h piece staging is_own earlier opened link run s =
    let mark : Mark = marks.Fed link Initiator piece in
    subst (λ (marks : List Mark). RequesterKeeps is_own earlier opened link (resent_unless (after_fed h piece staging).state.side.ended (after_fed h piece staging)) marks) (append_assoc run (mark ∷ []) (resends_after opened link (run ++ mark ∷ [])))
    (fed_by is_own earlier opened link (after_fed h piece staging) (run ++ mark ∷ []) (after_fed h piece staging).state.side.ended refl (fed_so_far is_own earlier opened link h run piece staging s))
