-- What each mark makes of the next xid of its link's client, and of the calls that the client has accepted as new ones.
use Rattle.std.specs.Prelude.{◌-◌, nat_lt, not, ◌==◌, if◌then◌else◌}
use Rattle.std.specs.List.{AllByRecursion}
use Rattle.std.proofs.Common.{◌≡◌, ◌≢◌, ℕ, ◌+◌, ◌≤◌, ◌<◌, arith, Bool, true, false, cond, eqb, ◌&&◌, List, [], ◌∷◌, ◌++◌, length, map, Option, None, Some, refl, sym, ap, subst, ◌∙◌, ◌⊎◌, inl, inr, append-nil, append_assoc, length-append, lt-ltb, le-ltb}
use Rattle.std.proofs.lemmas.Bool.{eq-eqb}
use Rattle.nr_wire.specs.declared.hello.Side.TheVariants.{Initiator, Responder}
use Rattle.nr_link.specs.declared.end.End.{End}
use Rattle.nr_link.specs.Frames.{Frame, frames_completed, is_hello}
use Rattle.nr_reduce.specs.declared.call.Call.{Call}
use Rattle.nr_reduce.specs.declared.call.Form.{Form}
use Rattle.nr_reduce.specs.declared.call.Submission.TheVariants as submissions
use Rattle.nr_reduce.specs.declared.mark.Mark.{Mark}
use Rattle.nr_reduce.specs.declared.mark.Mark.TheVariants as marks
use Rattle.nr_reduce.specs.declared.mark.LinkParameters.{LinkParameters}
use Rattle.nr_reduce.specs.AtEachMark.{AtEachMark}
use Rattle.nr_reduce.specs.Asked.{AskedMark, IsAccepted, IsAll}
use Rattle.nr_reduce.specs.Client.{client_rules, client_segment, client_end, client_state_after, initial_client, with_hello, with_segment, xid_unless_waiting}
use Rattle.nr_reduce.specs.ClientState.{ClientState, WaitingCall, first_of}
use Rattle.nr_reduce.specs.EndRules.{EndState, end_state_after, next_end_state, next_end_state_by, next_end_state_in}
use Rattle.nr_reduce.specs.Events.{RunEvent, events, events_at, if_own}
use Rattle.nr_reduce.specs.Events.RunEvent.{FrameReceived, CallSubmitted, MemoryRevoked, CallExecuted, QueueWritten, ServerTold}
use Rattle.nr_reduce.specs.History.{AcceptedCall, bytes_received, executed_at, executed_calls, same_side}
use Rattle.nr_reduce.specs.Opening.{IsOpened}
use Rattle.nr_reduce.specs.Run.{client}
use Rattle.nr_reduce.specs.SubmitAnswer.{first_xid_or}
use Rattle.nr_reduce.proofs.Placing.{segment_next}
use Rattle.nr_reduce.proofs.Steps.{client_one}
use Rattle.nr_reduce.proofs.WaitingFit.{AreFit, waiting_fit}
use Rattle.nr_laws.proofs.ResumedCalls.{next_least}
use Rattle.nr_drill.specs.Drill.{link_of, Setting, client_of, is_sent_again}
use Rattle.nr_drill.specs.private.Drafts.{HasNextXid, IsLatest, IsNumbered, new_at, new_calls}
use Rattle.nr_drill.proofs.DraftLists.{new_one}
use Rattle.nr_drill.proofs.Followed.{apart}
use Rattle.nr_drill.proofs.OpenCalls.{SameOn}
use Rattle.nr_drill.proofs.Links.{NoMarkOf, both_all}

-- ===== the next xid of a client

module _ (o : LinkParameters) where
  frame_kept : (k : ClientState) (f : Frame) (b : Bool) → (cond b (with_hello o k f) (with_segment k f (client_segment k f))).next_xid ≡ k.next_xid
  frame_kept k f true = refl
  frame_kept k f false = segment_next k f (client_segment k f)

  -- an event that is no call
  abbrev pub IsQuiet : RunEvent → Type 0
  IsQuiet (FrameReceived f) = Unit {0}
  IsQuiet (CallSubmitted place a) = ⊥
  IsQuiet (MemoryRevoked place xid) = Unit {0}
  IsQuiet (CallExecuted call) = Unit {0}
  IsQuiet (QueueWritten taken) = Unit {0}
  IsQuiet (ServerTold what) = Unit {0}

  quiet_state : (k : ClientState) (event : RunEvent) → IsQuiet event → (client_state_after o k event).next_xid ≡ k.next_xid
  unfolding client_state_after
  quiet_state k (FrameReceived f) quiet = frame_kept k f (is_hello f)
  quiet_state k (CallSubmitted place a) quiet = absurd quiet
  quiet_state k (MemoryRevoked place xid) quiet = refl
  quiet_state k (CallExecuted call) quiet = refl
  quiet_state k (QueueWritten taken) quiet = refl
  quiet_state k (ServerTold what) quiet = refl

  quiet_by : (k : ClientState) (event : RunEvent) (why : Option End) → IsQuiet event → (next_end_state_by (client_rules o) k event why).state.next_xid ≡ k.next_xid
  quiet_by k event None quiet = quiet_state k event quiet
  quiet_by k event (Some end) quiet = refl

  quiet_in : (k : ClientState) (event : RunEvent) (ended : Option End) → IsQuiet event → (next_end_state_in (client_rules o) k event ended).state.next_xid ≡ k.next_xid
  quiet_in k event None quiet = quiet_by k event (client_end k event) quiet
  quiet_in k event (Some end) quiet = refl

  quiet_all : (r : EndState ClientState) (es : List RunEvent) → AllByRecursion IsQuiet es → (end_state_after (client_rules o) r es).state.next_xid ≡ r.state.next_xid
  quiet_all r [] quiet = refl
  quiet_all r (event ∷ es) quiet = quiet_all (next_end_state (client_rules o) r event) es quiet.1 ∙ quiet_in r.state event r.ended quiet.0

  pub frames_quiet : (fs : List Frame) → AllByRecursion IsQuiet (map FrameReceived fs)
  frames_quiet [] = tt
  frames_quiet (f ∷ fs) = (tt, frames_quiet fs)

  pub if_quiet : (b : Bool) (es : List RunEvent) → AllByRecursion IsQuiet es → AllByRecursion IsQuiet (if_own b es)
  if_quiet true es quiet = quiet
  if_quiet false es quiet = tt

  pub never : (b : Bool) (es : List RunEvent) → AllByRecursion IsQuiet (if_own (b && false) es)
  never true es = tt
  never false es = tt

  -- after a call that was accepted: the next one, but for a call that is sent again
  submit_next : (k : ClientState) (ended : Option End) (place : ℕ) (a : AcceptedCall) → ended ≡ None →
      (end_state_after (client_rules o) (record { state = k; ended = ended }) (CallSubmitted place a ∷ [])).state.next_xid ≡ xid_unless_waiting (first_of k.waiting a.xid) k.next_xid
  unfolding client_end client_state_after
  submit_next k None place a stays = refl
  submit_next k (Some end) place a stays = absurd cc

  pub accepted_next : (link : ℕ) (run : List Mark) (call : Call) (form : Form) (xid : ℕ) → (client o link run).ended ≡ None →
      (client o link (run ++ marks.Submit link call form (submissions.Accepted xid) ∷ [])).state.next_xid ≡ xid_unless_waiting (first_of (client o link run).state.waiting xid) (client o link run).state.next_xid
  accepted_next link run call form xid stays =
      let a : AcceptedCall = record { xid = xid; call = call; form = form } in
      let r = client o link run in
      ap (λ (r : EndState ClientState). r.state.next_xid) (client_one o link run (marks.Submit link call form (submissions.Accepted xid)))
      ∙ ap (λ (b : Bool). (end_state_after (client_rules o) r (if_own (b && true) (CallSubmitted (length (bytes_received link Initiator run)) a ∷ []))).state.next_xid) (eq-eqb link link refl)
      ∙ submit_next r.state r.ended (length (bytes_received link Initiator run)) a stays

  -- before its first event
  pub first_next : (link : ℕ) (run : List Mark) → events link Initiator run ≡ [] → (client o link run).state.next_xid ≡ o.first_xid
  unfolding client
  first_next link run none = ap (λ (es : List RunEvent). (end_state_after (client_rules o) (initial_client o) es).state.next_xid) none

-- ===== it is counted by the new calls

abbrev pub IsCounted : Setting → ℕ → List Mark → Type 0
IsCounted s link run = (client (s.opened link) link run).state.next_xid ≡ length (new_calls s (client_of s link) run) + 1

module _ (s : Setting) (run : List Mark) where
  more_calls : (c : ℕ) (mark : Mark) → length (new_calls s c (run ++ mark ∷ [])) ≡ length (new_calls s c run) + length (new_at s c mark)
  more_calls c mark = ap (λ (xs : List ℕ). length xs) (new_one s c run mark) ∙ length-append (new_calls s c run) (new_at s c mark)

  -- a mark with which no call is accepted
  pub quiet_mark : (link : ℕ) (mark : Mark) → AllByRecursion (IsQuiet (s.opened link)) (events_at link Initiator run mark) → new_at s (client_of s link) mark ≡ [] → IsCounted s link run → IsCounted s link (run ++ mark ∷ [])
  quiet_mark link mark quiet none is =
      let o = s.opened link in
      let same = ap (λ (r : EndState ClientState). r.state.next_xid) (client_one o link run mark) ∙ quiet_all o (client o link run) (events_at link Initiator run mark) quiet in
      let more = more_calls (client_of s link) mark in
      let zero_more : length (new_at s (client_of s link) mark) ≡ 0 = ap (λ (xs : List ℕ). length xs) none in
      omega (arith, same, is, more, zero_more)

  own_new : (link : ℕ) (call : Call) (form : Form) (xid : ℕ) (again : Bool) → is_sent_again s link (submissions.Accepted xid) ≡ again →
      new_at s (client_of s link) (marks.Submit link call form (submissions.Accepted xid)) ≡ (if not again then xid ∷ [] else [])
  own_new link call form xid again is = λ i. if eq-eqb (client_of s link) (client_of s link) refl i && not (is i) then xid ∷ [] else []

  -- a call that is accepted is the first that waits, or else a new one
  accepted : (link : ℕ) (call : Call) (form : Form) (xid : ℕ) → IsOpened (s.opened link) → IsAccepted (s.opened link) link run call form xid → IsCounted s link run →
      IsNumbered (is_sent_again s link (submissions.Accepted xid)) xid (length (new_calls s (client_of s link) run)) × IsCounted s link (run ++ marks.Submit link call form (submissions.Accepted xid) ∷ [])
  accepted link call form xid numbers a is = by k.waiting refl a.next (waiting_fit o link run numbers)
    where
      o : LinkParameters
      o = s.opened link

      k : ClientState
      k = (client o link run).state

      count : ℕ
      count = length (new_calls s (client_of s link) run)

      mark : Mark
      mark = marks.Submit link call form (submissions.Accepted xid)

      least : o.first_xid ≤ k.next_xid
      least = next_least o link run

      by : (ws : List WaitingCall) → k.waiting ≡ ws → xid ≡ first_xid_or k.next_xid ws → AreFit o.first_xid k.next_xid ws →
          IsNumbered (is_sent_again s link (submissions.Accepted xid)) xid count × IsCounted s link (run ++ mark ∷ [])
      by [] none next fit =
          let fresh : is_sent_again s link (submissions.Accepted xid) ≡ false = le-ltb xid o.first_xid (let low = least in omega (arith, next, low)) in
          let after : (client o link (run ++ mark ∷ [])).state.next_xid ≡ k.next_xid + 1 = accepted_next o link run call form xid a.stays ∙ ap (λ (ws : List WaitingCall). xid_unless_waiting (first_of ws xid) k.next_xid) none in
          let more = more_calls (client_of s link) mark in
          let one : length (new_at s (client_of s link) mark) ≡ 1 = ap (λ (xs : List ℕ). length xs) (own_new link call form xid false fresh) in (
            subst (λ (b : Bool). IsNumbered b xid count) (sym fresh) (let own = is in omega (arith, next, own)),
            omega (arith, after, is, more, one),
          )
      by (w ∷ ws) waits next fit =
          let below = fit.0.below in
          let again : is_sent_again s link (submissions.Accepted xid) ≡ true = lt-ltb xid o.first_xid (omega (arith, next, below)) in
          let first : first_of (w ∷ ws) xid ≡ Some w = ap (λ (b : Bool). cond b (Some w) None) (eq-eqb w.xid xid (sym next)) in
          let after : (client o link (run ++ mark ∷ [])).state.next_xid ≡ k.next_xid =
          accepted_next o link run call form xid a.stays ∙ ap (λ (vs : List WaitingCall). xid_unless_waiting (first_of vs xid) k.next_xid) waits ∙ ap (λ (x : Option WaitingCall). xid_unless_waiting x k.next_xid) first in
          let more = more_calls (client_of s link) mark in
          let none : length (new_at s (client_of s link) mark) ≡ 0 = ap (λ (xs : List ℕ). length xs) (own_new link call form xid true again) in (
            subst (λ (b : Bool). IsNumbered b xid count) (sym again) (let low = least in let own = is in omega (arith, next, below, low, own)),
            omega (arith, after, is, more, none),
          )

  -- a mark of the link
  counted_mark : (mark : Mark) → IsOpened (s.opened (link_of mark)) → AskedMark IsAll (s.opened (link_of mark)) (link_of mark) run mark → IsCounted s (link_of mark) run → HasNextXid s run mark × IsCounted s (link_of mark) (run ++ mark ∷ [])
  counted_mark (marks.Submit l call form (submissions.Accepted xid)) numbers asked is = accepted l call form xid numbers (asked refl) is
  counted_mark (marks.Submit l call form (submissions.Refused why)) numbers asked is = (tt, quiet_mark l (marks.Submit l call form (submissions.Refused why)) tt refl is)
  counted_mark (marks.Submit l call form submissions.Dropped) numbers asked is = (tt, quiet_mark l (marks.Submit l call form submissions.Dropped) tt refl is)
  counted_mark (marks.Wrote l side bytes) numbers asked is = (tt, quiet_mark l (marks.Wrote l side bytes) (if_quiet (s.opened l) (eqb l l && same_side side Initiator) (QueueWritten (length bytes) ∷ []) (tt, tt)) refl is)
  counted_mark (marks.Fed l side bytes) numbers asked is = (
    tt,
    quiet_mark l (marks.Fed l side bytes) (if_quiet (s.opened l) (eqb l l && same_side side Initiator) _ (frames_quiet (s.opened l) (frames_completed Responder (bytes_received l Initiator run) bytes))) refl is,
  )
  counted_mark (marks.Execute l xid moment payload place reply) numbers asked is = (
    tt,
    quiet_mark l (marks.Execute l xid moment payload place reply) (never (s.opened l) (eqb l l) (CallExecuted (record { xid = xid; moment = moment; payload = payload; place = place; reply = reply }) ∷ [])) refl is,
  )
  counted_mark (marks.Done l xid outcome) numbers asked is = (tt, quiet_mark l (marks.Done l xid outcome) tt refl is)
  counted_mark (marks.Lost l xid) numbers asked is = (tt, quiet_mark l (marks.Lost l xid) tt refl is)
  counted_mark (marks.Forget l xid) numbers asked is = (tt, quiet_mark l (marks.Forget l xid) tt refl is)
  counted_mark (marks.Revoke l xid bytes) numbers asked is = (
    tt,
    quiet_mark l (marks.Revoke l xid bytes) (if_quiet (s.opened l) (eqb l l && true) (MemoryRevoked (length (bytes_received l Initiator run)) xid ∷ []) (tt, tt)) refl is,
  )
  counted_mark (marks.Drop l) numbers asked is = (tt, quiet_mark l (marks.Drop l) tt refl is)
  counted_mark (marks.Told l what) numbers asked is = (tt, quiet_mark l (marks.Told l what) (never (s.opened l) (eqb l l) (ServerTold what ∷ [])) refl is)

-- marks of one link
pub counts_all : (s : Setting) (link : ℕ) → IsOpened (s.opened link) → (old added : List Mark) → AllByRecursion (λ (mark : Mark). link_of mark ≡ link) added → AtEachMark (AskedMark IsAll (s.opened link) link) old added → IsCounted s link old →
    AtEachMark (HasNextXid s) old added × IsCounted s link (old ++ added)
counts_all s link numbers old [] own asked is = (tt, subst (IsCounted s link) (sym (append-nil old)) is)
counts_all s link numbers old (mark ∷ added) own asked is =
    let one : HasNextXid s old mark × IsCounted s link (old ++ mark ∷ []) =
    subst (λ (l : ℕ). IsOpened (s.opened l) → AskedMark IsAll (s.opened l) l old mark → IsCounted s l old → HasNextXid s old mark × IsCounted s l (old ++ mark ∷ [])) own.0 (counted_mark s old mark) numbers asked.0 is in
    let rest = counts_all s link numbers (old ++ mark ∷ []) added own.1 asked.1 one.1 in
    ((one.0, rest.0), subst (IsCounted s link) (append_assoc old (mark ∷ []) added) rest.1)

-- ===== the latest link of a client

abbrev pub IsOfLatest : Setting → List Mark → Mark → Type 0
IsOfLatest s before mark = IsLatest s (link_of mark) before

executed_elsewhere : (link : ℕ) (mark : Mark) → link_of mark ≢ link → executed_at link mark ≡ []
executed_elsewhere link (marks.Execute l xid moment payload place reply) ne = ap (λ (b : Bool). cond b (record { xid = xid; moment = moment; payload = payload; place = place; reply = reply } ∷ []) []) (apart l link ne)
executed_elsewhere link (marks.Submit l call form answer) ne = refl
executed_elsewhere link (marks.Wrote l side bytes) ne = refl
executed_elsewhere link (marks.Fed l side bytes) ne = refl
executed_elsewhere link (marks.Done l xid outcome) ne = refl
executed_elsewhere link (marks.Lost l xid) ne = refl
executed_elsewhere link (marks.Forget l xid) ne = refl
executed_elsewhere link (marks.Revoke l xid bytes) ne = refl
executed_elsewhere link (marks.Drop l) ne = refl
executed_elsewhere link (marks.Told l what) ne = refl

none_executed : (link : ℕ) (run : List Mark) → NoMarkOf link run → executed_calls link run ≡ []
unfolding executed_calls
none_executed link [] none = refl
none_executed link (mark ∷ run) none = (λ i. executed_elsewhere link mark none.0 i ++ executed_calls link run) ∙ none_executed link run none.1

pub latest_all : (s : Setting) (link : ℕ) (old added : List Mark) → AllByRecursion (λ (mark : Mark). link_of mark ≡ link) added → ((other : ℕ) → client_of s other ≡ client_of s link → link < other → NoMarkOf other old) → AtEachMark (IsOfLatest s) old added
latest_all s link old [] own fresh = tt
latest_all s link old (mark ∷ added) own fresh = (
  (λ other same lt. none_executed other old (fresh other (same ∙ ap (client_of s) own.0) (let is = own.0 in omega (arith, is, lt)))),
  latest_all s link (old ++ mark ∷ []) added own.1
      (λ other same lt. both_all (λ (m : Mark). link_of m ≢ other) old (mark ∷ []) (fresh other same lt) ((λ at. (let is = own.0 in omega (arith, is, at, lt))), tt)),
)

-- ===== other settings, and marks of other clients

pub same_client_lem : (t u : Setting) (link : ℕ) → u.opened link ≡ t.opened link → client_of u link ≡ client_of t link
same_client_lem t u link is = ap (λ (o : LinkParameters). if o.client.number == 0 then link else o.client.number) is

same_new : (t u : Setting) (c : ℕ) (mark : Mark) → u.opened (link_of mark) ≡ t.opened (link_of mark) → new_at u c mark ≡ new_at t c mark
same_new t u c (marks.Submit l call form (submissions.Accepted xid)) is =
    λ i. if same_client_lem t u l is i == c && not (nat_lt xid (is i).first_xid) then xid ∷ [] else []
same_new t u c (marks.Submit l call form (submissions.Refused why)) is = refl
same_new t u c (marks.Submit l call form submissions.Dropped) is = refl
same_new t u c (marks.Wrote l side bytes) is = refl
same_new t u c (marks.Fed l side bytes) is = refl
same_new t u c (marks.Execute l xid moment payload place reply) is = refl
same_new t u c (marks.Done l xid outcome) is = refl
same_new t u c (marks.Lost l xid) is = refl
same_new t u c (marks.Forget l xid) is = refl
same_new t u c (marks.Revoke l xid bytes) is = refl
same_new t u c (marks.Drop l) is = refl
same_new t u c (marks.Told l what) is = refl

pub same_calls : (t u : Setting) (c : ℕ) (run : List Mark) → SameOn t u run → new_calls u c run ≡ new_calls t c run
unfolding new_calls
same_calls t u c [] is = refl
same_calls t u c (mark ∷ run) is = λ i. same_new t u c mark is.0 i ++ same_calls t u c run is.1 i

same_next : (t u : Setting) (before : List Mark) (mark : Mark) → SameOn t u before → u.opened (link_of mark) ≡ t.opened (link_of mark) → HasNextXid t before mark → HasNextXid u before mark
same_next t u before (marks.Submit l call form (submissions.Accepted xid)) is own h =
    let client_is : client_of t l ≡ client_of u l = sym (same_client_lem t u l own) in
    let count : length (new_calls t (client_of t l) before) ≡ length (new_calls u (client_of u l) before) =
    ap (λ (xs : List ℕ). length xs) (sym (same_calls t u (client_of t l) before is) ∙ ap (λ (c : ℕ). new_calls u c before) client_is) in
    subst (λ (n : ℕ). IsNumbered (is_sent_again u l (submissions.Accepted xid)) xid n) count
    (subst (λ (o : LinkParameters). IsNumbered (nat_lt xid o.first_xid) xid (length (new_calls t (client_of t l) before))) (sym own) h)
same_next t u before (marks.Submit l call form (submissions.Refused why)) is own h = tt
same_next t u before (marks.Submit l call form submissions.Dropped) is own h = tt
same_next t u before (marks.Wrote l side bytes) is own h = tt
same_next t u before (marks.Fed l side bytes) is own h = tt
same_next t u before (marks.Execute l xid moment payload place reply) is own h = tt
same_next t u before (marks.Done l xid outcome) is own h = tt
same_next t u before (marks.Lost l xid) is own h = tt
same_next t u before (marks.Forget l xid) is own h = tt
same_next t u before (marks.Revoke l xid bytes) is own h = tt
same_next t u before (marks.Drop l) is own h = tt
same_next t u before (marks.Told l what) is own h = tt

pub each_same : (t u : Setting) (before run : List Mark) → SameOn t u before → SameOn t u run → AtEachMark (HasNextXid t) before run → AtEachMark (HasNextXid u) before run
each_same t u before [] first is h = tt
each_same t u before (mark ∷ run) first is h = (
  same_next t u before mark first is.0 h.0,
  each_same t u (before ++ mark ∷ []) run (both_all (λ (m : Mark). u.opened (link_of m) ≡ t.opened (link_of m)) before (mark ∷ []) first (is.0, tt)) is.1 h.1,
)

-- a link that has no mark is the latest one that executes nothing
pub latest_same : (t u : Setting) (before run : List Mark) → ((other : ℕ) → (NoMarkOf other before × NoMarkOf other run) ⊎ (client_of u other ≡ client_of t other)) → SameOn t u run → AtEachMark (IsOfLatest t) before run → AtEachMark (IsOfLatest u) before run
latest_same t u before [] others is h = tt
latest_same t u before (mark ∷ run) others is h = (
  (λ other same lt. by other (others other) same lt),
  latest_same t u (before ++ mark ∷ []) run (λ other. later other (others other)) is.1 h.1,
)
  where
    by : (other : ℕ) → (NoMarkOf other before × NoMarkOf other (mark ∷ run)) ⊎ (client_of u other ≡ client_of t other) → client_of u other ≡ client_of u (link_of mark) → link_of mark < other → executed_calls other before ≡ []
    by other (inl none) same lt = none_executed other before none.0
    by other (inr own) same lt = h.0 other (sym own ∙ same ∙ same_client_lem t u (link_of mark) is.0) lt

    later : (other : ℕ) → (NoMarkOf other before × NoMarkOf other (mark ∷ run)) ⊎ (client_of u other ≡ client_of t other) → (NoMarkOf other (before ++ mark ∷ []) × NoMarkOf other run) ⊎ (client_of u other ≡ client_of t other)
    later other (inl none) = inl (both_all (λ (m : Mark). link_of m ≢ other) before (mark ∷ []) none.0 (none.1.0, tt), none.1.1)
    later other (inr own) = inr own

none_new : (s : Setting) (c acted : ℕ) (mark : Mark) → client_of s acted ≢ c → link_of mark ≡ acted → new_at s c mark ≡ []
none_new s c acted (marks.Submit l call form (submissions.Accepted xid)) ne own =
    ap (λ (b : Bool). if b && not (is_sent_again s l (submissions.Accepted xid)) then xid ∷ [] else []) (apart (client_of s l) c (λ same. ne (ap (client_of s) (sym own) ∙ same)))
none_new s c acted (marks.Submit l call form (submissions.Refused why)) ne own = refl
none_new s c acted (marks.Submit l call form submissions.Dropped) ne own = refl
none_new s c acted (marks.Wrote l side bytes) ne own = refl
none_new s c acted (marks.Fed l side bytes) ne own = refl
none_new s c acted (marks.Execute l xid moment payload place reply) ne own = refl
none_new s c acted (marks.Done l xid outcome) ne own = refl
none_new s c acted (marks.Lost l xid) ne own = refl
none_new s c acted (marks.Forget l xid) ne own = refl
none_new s c acted (marks.Revoke l xid bytes) ne own = refl
none_new s c acted (marks.Drop l) ne own = refl
none_new s c acted (marks.Told l what) ne own = refl

pub other_calls : (s : Setting) (c acted : ℕ) (old added : List Mark) → client_of s acted ≢ c → AllByRecursion (λ (mark : Mark). link_of mark ≡ acted) added → new_calls s c (old ++ added) ≡ new_calls s c old
other_calls s c acted old [] ne own = ap (new_calls s c) (append-nil old)
other_calls s c acted old (mark ∷ added) ne own =
    ap (new_calls s c) (sym (append_assoc old (mark ∷ []) added)) ∙ other_calls s c acted (old ++ mark ∷ []) added ne own.1
    ∙ new_one s c old mark ∙ ap (λ (xs : List ℕ). new_calls s c old ++ xs) (none_new s c acted mark ne own.0) ∙ append-nil (new_calls s c old)
