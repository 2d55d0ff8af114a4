-- What one more event, and one more mark, makes of what a side has to write, of how far it is, and of the laws so far.
use Rattle.std.proofs.Common.{◌≡◌, ℕ, Some, List, [], ◌∷◌, ◌++◌, refl, sym, ap, ◌∙◌, append_assoc}
use Rattle.std.proofs.lemmas.List.{append-nil}
use Rattle.nr_wire.specs.declared.hello.Side.{Side}
use Rattle.nr_wire.specs.declared.hello.Side.TheVariants.{Initiator, Responder}
use Rattle.nr_reduce.specs.Hellos.{client_hello}
use Rattle.nr_reduce.specs.declared.mark.Mark.{Mark}
use Rattle.nr_link.specs.declared.end.End.{End}
use Rattle.nr_reduce.specs.declared.mark.LinkParameters.{LinkParameters}
use Rattle.nr_reduce.specs.AtEachMark.{AtEachMark}
use Rattle.nr_reduce.specs.Events.{RunEvent, events_at, events_from, events}
use Rattle.nr_reduce.specs.EndRules.{EndMachine, EndState, next_end_state, output_for, end_state_after, output_for_all}
use Rattle.nr_reduce.specs.Client.{client_rules, initial_client}
use Rattle.nr_reduce.specs.Server.{server_rules, initial_server}
use Rattle.nr_reduce.specs.Run.{client, server, output_due}

pub end_state_after_append : {S : Type 0} (rules : EndMachine S) (r : EndState S) (es fs : List RunEvent) →
    end_state_after rules r (es ++ fs) ≡ end_state_after rules (end_state_after rules r es) fs
end_state_after_append rules r [] fs = refl
end_state_after_append rules r (e ∷ es) fs = end_state_after_append rules (next_end_state rules r e) es fs

pub output_for_all_append : {S : Type 0} (rules : EndMachine S) (r : EndState S) (es fs : List RunEvent) →
    output_for_all rules r (es ++ fs) ≡ output_for_all rules r es ++ output_for_all rules (end_state_after rules r es) fs
output_for_all_append rules r [] fs = refl
output_for_all_append rules r (e ∷ es) fs =
    ap (λ (xs : List ℕ). output_for rules r e ++ xs) (output_for_all_append rules (next_end_state rules r e) es fs)
    ∙ sym (append_assoc (output_for rules r e) (output_for_all rules (next_end_state rules r e) es) (output_for_all rules (end_state_after rules (next_end_state rules r e) es) fs))

pub events_from_one : (link : ℕ) (side : Side) (before run : List Mark) (mark : Mark) →
    events_from link side before (run ++ mark ∷ []) ≡ events_from link side before run ++ events_at link side (before ++ run) mark
events_from_one link side before [] mark =
    append-nil (events_at link side before mark)
    ∙ ap (λ (b : List Mark). events_at link side b mark) (sym (append-nil before))
events_from_one link side before (m ∷ run) mark =
    let rest = events_from link side (before ++ m ∷ []) run in
    ap (λ (xs : List RunEvent). events_at link side before m ++ xs)
    (events_from_one link side (before ++ m ∷ []) run mark
    ∙ ap (λ (b : List Mark). rest ++ events_at link side b mark) (append_assoc before (m ∷ []) run))
    ∙ sym (append_assoc (events_at link side before m) rest (events_at link side (before ++ m ∷ run) mark))

pub events_one : (link : ℕ) (side : Side) (run : List Mark) (mark : Mark) →
    events link side (run ++ mark ∷ []) ≡ events link side run ++ events_at link side run mark
unfolding events
events_one link side run mark = events_from_one link side [] run mark

-- after one more mark a client is in the state to which its events of that mark bring it, and it has to write what they
-- call for
pub client_one : (opened : LinkParameters) (link : ℕ) (run : List Mark) (mark : Mark) →
    client opened link (run ++ mark ∷ []) ≡ end_state_after (client_rules opened) (client opened link run) (events_at link Initiator run mark)
unfolding client
client_one opened link run mark =
    ap (λ (es : List RunEvent). end_state_after (client_rules opened) (initial_client opened) es) (events_one link Initiator run mark)
    ∙ end_state_after_append (client_rules opened) (initial_client opened) (events link Initiator run) (events_at link Initiator run mark)

pub output_due_up_one : (opened : LinkParameters) (link : ℕ) (run : List Mark) (mark : Mark) →
    output_due opened link Initiator (run ++ mark ∷ []) ≡ output_due opened link Initiator run ++ output_for_all (client_rules opened) (client opened link run) (events_at link Initiator run mark)
unfolding output_due client
output_due_up_one opened link run mark =
    let rules = client_rules opened in
    let es = events link Initiator run in
    let more = events_at link Initiator run mark in
    ap (λ (xs : List ℕ). client_hello opened ++ xs)
    (ap (λ (all : List RunEvent). output_for_all rules (initial_client opened) all) (events_one link Initiator run mark)
    ∙ output_for_all_append rules (initial_client opened) es more)
    ∙ sym (append_assoc (client_hello opened) (output_for_all rules (initial_client opened) es) (output_for_all rules (end_state_after rules (initial_client opened) es) more))

-- and the same of a server
pub server_one : (opened : LinkParameters) (link : ℕ) (run : List Mark) (mark : Mark) →
    server opened link (run ++ mark ∷ []) ≡ end_state_after (server_rules opened) (server opened link run) (events_at link Responder run mark)
unfolding server
server_one opened link run mark =
    ap (λ (es : List RunEvent). end_state_after (server_rules opened) (initial_server opened) es) (events_one link Responder run mark)
    ∙ end_state_after_append (server_rules opened) (initial_server opened) (events link Responder run) (events_at link Responder run mark)

pub output_due_down_one : (opened : LinkParameters) (link : ℕ) (run : List Mark) (mark : Mark) →
    output_due opened link Responder (run ++ mark ∷ []) ≡ output_due opened link Responder run ++ output_for_all (server_rules opened) (server opened link run) (events_at link Responder run mark)
unfolding output_due server
output_due_down_one opened link run mark =
    ap (λ (es : List RunEvent). output_for_all (server_rules opened) (initial_server opened) es) (events_one link Responder run mark)
    ∙ output_for_all_append (server_rules opened) (initial_server opened) (events link Responder run) (events_at link Responder run mark)

-- a fact of each mark holds of every first part of a run
pub AtEachMark_first : (P : List Mark → Mark → Type 0) (before run more : List Mark) → AtEachMark P before (run ++ more) → AtEachMark P before run
AtEachMark_first P before [] more h = tt
AtEachMark_first P before (m ∷ run) more h = (h.0, AtEachMark_first P (before ++ m ∷ []) run more h.1)

-- an end that has ended stays as it is, and no output is due
pub ended_stays : {S : Type 0} (rules : EndMachine S) (s : S) (end : End) (es : List RunEvent) →
    (end_state_after rules (record { state = s; ended = Some end }) es ≡ record { state = s; ended = Some end })
    × (output_for_all rules (record { state = s; ended = Some end }) es ≡ [])
ended_stays rules s end [] = (refl, refl)
ended_stays rules s end (e ∷ es) = ended_stays rules s end es
