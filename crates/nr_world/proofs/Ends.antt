-- Both ends after a drain of nothing: a Wrote of no bytes is no mark.
use Rattle.std.specs.Prelude.{◌&&◌}
use Rattle.std.proofs.Common.{◌≡◌, ◌≢◌, ℕ, ◌≤◌, Bool, true, List, [], ◌∷◌, ◌++◌, length, take, drop, Option, None, Some, inl, inr, refl, ap, sym, subst, ◌∙◌, add-zero, map}
use Rattle.std.proofs.Math.Seq.{drop-nil, take-nil}
use Rattle.nr_wire.specs.declared.hello.Side.TheVariants.{Initiator, Responder}
use Rattle.nr_link.specs.declared.end.End.{End}
use Rattle.nr_link.specs.Input.{input_of}
use Rattle.nr_endpoint.specs.SendQueue.{written}
use Rattle.nr_reduce.specs.declared.mark.LinkParameters.{LinkParameters}
use Rattle.nr_reduce.specs.declared.mark.Mark.{Mark}
use Rattle.nr_reduce.specs.History.{bytes_sent, bytes_received, AcceptedCall}
use Rattle.nr_reduce.specs.Events.{if_own}
use Rattle.nr_reduce.specs.Events.RunEvent.{QueueWritten}
use Rattle.nr_reduce.specs.EndRules.{EndState, end_state_after}
use Rattle.nr_reduce.specs.ClientState.{ClientState}
use Rattle.nr_reduce.specs.Client.{client_rules, client_end, client_state_after}
use Rattle.nr_reduce.specs.ServerState.{ServerState}
use Rattle.nr_reduce.specs.Server.{server_rules, server_end, server_state_after}
use Rattle.nr_reduce.specs.KeptClient.{ClientKeeps}
use Rattle.nr_reduce.specs.Run.{client, server}
use Rattle.nr_reduce.proofs.Standing.{itself}
use Rattle.nr_reduce.proofs.Steps.{client_one, server_one}
use Rattle.nr_requester.specs.RequesterState.{RequesterSide, kept_client, queue_of}
use Rattle.nr_requester.specs.AfterCalls.{after_drain}
use Rattle.nr_requester.specs.CountedMarks.{has_bytes, marks_if}
use Rattle.nr_requester.specs.Standing.{AnswersWith, LinkKeeps}
use Rattle.nr_requester.specs.ReopenedLinks.{HasOwnCalls, own_side}
use Rattle.nr_reduce.specs.Asked.{as_accepted}
use Rattle.nr_world.specs.LinkStands.{StandsForClient, all_own}
use Rattle.nr_requester.proofs.Queues.{written_writable}
use Rattle.nr_responder.specs.Heard.{KeepsHeard}
use Rattle.nr_responder.specs.ResponderState.{ResponderSide, queue, queued_bytes, may_write, end_of, after_drain as after_server_drain}
use Rattle.nr_responder.specs.Standing.{RepresentsServer, ResponderRepresents}
use Rattle.nr_responder.proofs.Drained.{split_queue}
use Rattle.nr_drill.proofs.Carried.{same_received}
use Rattle.nr_link.specs.declared.end.End.TheVariants as ends
use Rattle.nr_reduce.specs.declared.mark.Mark.TheVariants as marks

-- ---- The client

client_written : (o : LinkParameters) (k : ClientState) (ended : Option End) → end_state_after (client_rules o) (record { state = k; ended = ended }) (QueueWritten 0 ∷ []) ≡ record { state = k; ended = ended }
unfolding client_end client_state_after
client_written o k (Some end) = refl
client_written o k None = λ i. record { state = record k { written = add-zero k.written i }; ended = None }

pub client_quiet : (o : LinkParameters) (link : ℕ) (run : List Mark) → client o link (run ++ marks.Wrote link Initiator [] ∷ []) ≡ client o link run
client_quiet o link run =
    client_one o link run (marks.Wrote link Initiator [])
    ∙ ap (λ (b : Bool). end_state_after (client_rules o) (client o link run) (if_own (b && true) (QueueWritten 0 ∷ []))) (itself link)
    ∙ client_written o (client o link run).state (client o link run).ended

same_answered : (o : LinkParameters) (link : ℕ) (run : List Mark) (h : RequesterSide) (n : ℕ) (calls : List AcceptedCall) → AnswersWith calls o link (own_side all_own h) run → AnswersWith calls o link (own_side all_own (after_drain n h)) run
unfolding after_drain
same_answered o link run h n calls k = record { outcomes = k.outcomes; hands_back = k.hands_back; holds = k.holds; calls = k.calls; awaited = k.awaited; submitted = k.submitted; to_come = k.to_come; regions = k.regions; tickets = k.tickets }

same_calls : (h : RequesterSide) (n : ℕ) → HasOwnCalls all_own h.state → HasOwnCalls all_own (after_drain n h).state
unfolding after_drain
same_calls h n k = record { outstanding = k.outstanding; to_come = k.to_come }

drained_queue : (h : RequesterSide) (n : ℕ) → queue_of h.state ≡ [] → queue_of (after_drain n h).state ≡ []
unfolding after_drain
drained_queue h n none = written_writable h.state.side.has_hello n h.state.side.send_queue ∙ ap (λ (bytes : List ℕ). drop n bytes) none ∙ drop-nil n

drained_count : (h : RequesterSide) (n : ℕ) → queue_of h.state ≡ [] → (after_drain n h).marks ≡ h.marks
unfolding after_drain
drained_count h n none = ap (λ (bytes : List ℕ). marks_if (has_bytes (take n bytes)) h.marks) none ∙ ap (λ (bytes : List ℕ). marks_if (has_bytes bytes) h.marks) (take-nil n)

-- a requester with nothing to write that was drained
pub requester_quiet : (o : LinkParameters) (link : ℕ) (run : List Mark) (h : RequesterSide) (n : ℕ) → queue_of h.state ≡ [] → StandsForClient o link h run →
    StandsForClient o link (after_drain n h) (run ++ marks.Wrote link Initiator [] ∷ []) → StandsForClient o link (after_drain n h) run
requester_quiet o link run h n none (earlier, before) (marked, after) =
    let mark : Mark = marks.Wrote link Initiator [] in
    let same : client o link (run ++ mark ∷ []) ≡ client o link run = client_quiet o link run in
    let received : bytes_received link Initiator (run ++ mark ∷ []) ≡ bytes_received link Initiator run = same_received link Initiator run mark refl in
    let k = after.keeps in (
      earlier,
      record {
        keeps = record {
          wished = k.wished;
          resumes = k.resumes;
          kept = record {
            keeps = subst (λ (e : EndState ClientState). ClientKeeps o (kept_client (after_drain n h).state) e (length (bytes_received link Initiator run))) same
                (subst (λ (bytes : List ℕ). ClientKeeps o (kept_client (after_drain n h).state) (client o link (run ++ mark ∷ [])) (length bytes)) received k.kept.keeps);
            received = λ live. k.kept.received (ap (λ (e : EndState ClientState). e.ended) same ∙ live) ∙ ap (λ (bytes : List ℕ). input_of Responder bytes) received;
            output = ap (λ (bytes : List ℕ). bytes_sent link Initiator run ++ bytes) (drained_queue h n none ∙ sym none) ∙ before.keeps.kept.output;
          };
          sent = k.sent;
          side = λ live. subst (λ (e : EndState ClientState). LinkKeeps o (after_drain n h).state.side e.state) same (k.side live);
        };
        calls = same_calls h n before.calls;
        answers = same_answered o link run h n (map as_accepted o.resumed) before.answers;
        counted = drained_count h n none ∙ before.counted;
        resent = before.resent;
      },
    )

-- ---- The server

server_written : (o : LinkParameters) (k : ServerState) (ended : Option End) → end_state_after (server_rules o) (record { state = k; ended = ended }) (QueueWritten 0 ∷ []) ≡ record { state = k; ended = ended }
unfolding server_end server_state_after
server_written o k (Some end) = refl
server_written o k None = λ i. record { state = record k { written = add-zero k.written i }; ended = None }

pub server_quiet : (o : LinkParameters) (link : ℕ) (run : List Mark) → server o link (run ++ marks.Wrote link Responder [] ∷ []) ≡ server o link run
server_quiet o link run =
    server_one o link run (marks.Wrote link Responder [])
    ∙ ap (λ (b : Bool). end_state_after (server_rules o) (server o link run) (if_own (b && true) (QueueWritten 0 ∷ []))) (itself link)
    ∙ server_written o (server o link run).state (server o link run).ended

-- one that didn't run out of memory
pub represents_of : (o : LinkParameters) (link : ℕ) (run : List Mark) (v : ResponderSide) → end_of v ≢ Some ends.Memory → ResponderRepresents o link run v → RepresentsServer o link run v
represents_of o link run v some (inl h) = h
represents_of o link run v some (inr out) = absurd (some out.output.0)

right_nil : (xs ys : List ℕ) → xs ++ ys ≡ [] → ys ≡ []
right_nil [] ys e = e
right_nil (x ∷ xs) ys e = absurd cc

-- a responder with nothing to write that was drained
pub responder_quiet : (o : LinkParameters) (link : ℕ) (run : List Mark) (v : ResponderSide) (n : ℕ) → n ≤ length (may_write v) → queue v ≡ [] → RepresentsServer o link run v →
    RepresentsServer o link (run ++ marks.Wrote link Responder [] ∷ []) (after_server_drain v n) → RepresentsServer o link run (after_server_drain v n)
responder_quiet o link run v n within none before after =
    let mark : Mark = marks.Wrote link Responder [] in
    let same : server o link (run ++ mark ∷ []) ≡ server o link run = server_quiet o link run in
    let received : bytes_received link Responder (run ++ mark ∷ []) ≡ bytes_received link Responder run = same_received link Responder run mark refl in
    let q = v.link.state.send_queue in
    let left : queue (after_server_drain v n) ≡ [] = right_nil (take n (may_write v)) (queued_bytes (written n q)) (split_queue v.link.state.has_hello n q within ∙ none) in
    let ends : before.end ≡ after.end = before.stands.keeps ∙ sym (after.stands.keeps ∙ same) in
    record {
      end = after.end;
      input = after.input;
      heard = λ live. let h : KeepsHeard link run v.link.state = before.heard (ap (λ (e : EndState ServerState). e.ended) ends ∙ live) in record { last = h.last; client = h.client };
      stands = record {
        keeps = after.stands.keeps ∙ same;
        received = λ live. after.stands.received (ap (λ (e : EndState ServerState). e.ended) same ∙ live) ∙ ap (λ (bytes : List ℕ). input_of Initiator bytes) received;
        output = ap (λ (bytes : List ℕ). bytes_sent link Responder run ++ bytes) (left ∙ sym none) ∙ before.stands.output;
      };
      keeps = after.keeps;
    }
