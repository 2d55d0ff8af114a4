-- A client to which nothing is left to do has no call that waits to be sent again, once it has the hello: a credit is free for the next.
use Rattle.std.proofs.Common.{◌≡◌, ℕ, zero, suc, ◌-◌, ◌≤◌, Bool, true, false, cond, ◌&&◌, eqb, ltb, List, [], ◌∷◌, length, take, Option, None, Some, is_none, Result, Ok, Err, refl, sym, ap, ◌∙◌, arith}
use Rattle.nr_xdr.specs.Fields.{word_at}
use Rattle.nr_wire.specs.declared.hello.Side.TheVariants.{Initiator}
use Rattle.nr_wire.specs.Segment.{Segment}
use Rattle.nr_link.specs.Frames.{Frame, is_hello}
use Rattle.nr_link.specs.ReceiveState.{ReadRequest, message_completed, read_request_of}
use Rattle.nr_reduce.specs.declared.mark.Mark.{Mark}
use Rattle.nr_reduce.specs.declared.mark.LinkParameters.{LinkParameters}
use Rattle.nr_reduce.specs.Limits.{credits_max}
use Rattle.nr_reduce.specs.Events.{RunEvent, events}
use Rattle.nr_reduce.specs.Events.RunEvent.{FrameReceived, CallSubmitted, MemoryRevoked, CallExecuted, QueueWritten, ServerTold}
use Rattle.nr_reduce.specs.EndRules.{EndState}
use Rattle.nr_reduce.specs.ClientState.{WaitingCall, ClientState}
use Rattle.nr_reduce.specs.Client.{client_rules, client_segment, client_state_after, credits_of_word, due_with_response, initial_client, with_hello, with_message, with_request, with_segment}
use Rattle.nr_reduce.specs.SubmitAnswer.{calls_to_resend}
use Rattle.nr_reduce.specs.Run.{client}
use Rattle.nr_reduce.proofs.OwnStags.{kept_after}
use Rattle.nr_laws.proofs.Basics.{above_zero}

-- ---- At least one credit is granted

least_word : (n : ℕ) → 1 ≤ credits_of_word n
least_word n = by (eqb n 0) refl
  where
    by_most : (b : Bool) → 1 ≤ n → 1 ≤ cond b credits_max n
    by_most true some = omega arith
    by_most false some = some

    by : (b : Bool) → eqb n 0 ≡ b → 1 ≤ cond b 1 (cond (ltb credits_max n) credits_max n)
    by true none = omega arith
    by false some = by_most (ltb credits_max n) (let lt = above_zero n some in omega (arith, lt))

abbrev HasGrant : ClientState → Type 0
HasGrant k = 1 ≤ k.grant

grant_segment : (k : ClientState) (f : Frame) (r : Result Segment ℕ) → HasGrant k → HasGrant (with_segment k f r)
grant_segment k f (Err reason) h = h
grant_segment k f (Ok segment) h = by (message_completed k.received segment) (read_request_of segment)
  where
    by : (m : Option (List ℕ)) (q : Option ReadRequest) → HasGrant (with_request (with_message k f.end m) (due_with_response k f segment) q)
    by None None = h
    by None (Some q) = h
    by (Some m) None = least_word (word_at 8 m)
    by (Some m) (Some q) = least_word (word_at 8 m)

grant_event : (opened : LinkParameters) (k : ClientState) (e : RunEvent) → HasGrant k → HasGrant (client_state_after opened k e)
unfolding client_state_after
grant_event opened k (FrameReceived f) h = by (is_hello f)
  where
    by : (b : Bool) → HasGrant (cond b (with_hello opened k f) (with_segment k f (client_segment k f)))
    by true = h
    by false = grant_segment k f (client_segment k f) h
grant_event opened k (CallSubmitted place a) h = h
grant_event opened k (MemoryRevoked place xid) h = h
grant_event opened k (CallExecuted call) h = h
grant_event opened k (QueueWritten taken) h = h
grant_event opened k (ServerTold what) h = h

has_grant : (opened : LinkParameters) (link : ℕ) (run : List Mark) → HasGrant (client opened link run).state
unfolding client
has_grant opened link run = kept_after (client_rules opened) HasGrant (grant_event opened) (initial_client opened) (events link Initiator run) (omega arith)

-- ---- So the first call that waits could be sent again

none_taken : (n : ℕ) (ws : List WaitingCall) → 1 ≤ n → take n ws ≡ [] → ws ≡ []
none_taken zero ws some e = absurd (omega (arith, some))
none_taken (suc n) [] some e = refl
none_taken (suc n) (w ∷ ws) some e = absurd cc

none_left : (r : EndState ClientState) → r.ended ≡ None → r.state.has_hello ≡ true → r.state.outstanding ≡ [] → HasGrant r.state → calls_to_resend r ≡ [] → r.state.waiting ≡ []
unfolding calls_to_resend
none_left r stays hello none some e =
    let free : ℕ = r.state.grant - length r.state.outstanding in
    let all : take free r.state.waiting ≡ [] = sym (λ i. cond (is_none (stays i) && hello i) (take free r.state.waiting) []) ∙ e in
    let out : length r.state.outstanding ≡ 0 = ap (λ (os : List _). length os) none in
    none_taken free r.state.waiting (omega (arith, out, some)) all

pub none_waits_still : (opened : LinkParameters) (link : ℕ) (run : List Mark) → (client opened link run).ended ≡ None → (client opened link run).state.has_hello ≡ true → (client opened link run).state.outstanding ≡ []
    → calls_to_resend (client opened link run) ≡ [] → (client opened link run).state.waiting ≡ []
none_waits_still opened link run stays hello none e = none_left (client opened link run) stays hello none (has_grant opened link run) e
