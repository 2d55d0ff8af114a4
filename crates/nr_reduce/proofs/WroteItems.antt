-- A Wrote makes nothing due: the hello and the items stay, and more bytes are sent.
use Rattle.std.proofs.Common.{◌≡◌, ℕ, Bool, true, false, cond, ◌&&◌, eqb, List, [], ◌∷◌, ◌++◌, length, Option, None, Some, refl, ap, ◌∙◌, sym, append_assoc, append-nil}
use Rattle.nr_wire.specs.declared.hello.Side.{Side}
use Rattle.nr_wire.specs.declared.hello.Side.TheVariants.{Initiator, Responder}
use Rattle.nr_link.specs.declared.end.End.{End}
use Rattle.nr_link.specs.Ending.{rejection}
use Rattle.nr_link.specs.OutputItem.OutputItem.{LastItem}
use Rattle.nr_reduce.specs.declared.mark.Mark.{Mark}
use Rattle.nr_reduce.specs.declared.mark.Mark.TheVariants as marks
use Rattle.nr_reduce.specs.declared.mark.LinkParameters.{LinkParameters}
use Rattle.nr_reduce.specs.History.{same_side, bytes_sent}
use Rattle.nr_reduce.specs.Events.{RunEvent, if_own, events_at, events}
use Rattle.nr_reduce.specs.Events.RunEvent.{QueueWritten}
use Rattle.nr_reduce.specs.EndRules.{EndMachine, EndState, next_end_state, end_state_after}
use Rattle.nr_reduce.specs.ClientState.{ClientState}
use Rattle.nr_reduce.specs.ServerState.{ServerState}
use Rattle.nr_reduce.specs.Client.{client_rules, client_end, initial_client}
use Rattle.nr_reduce.specs.Server.{server_rules, server_end, initial_server}
use Rattle.nr_reduce.specs.DueItems.{client_items_at, server_items_at, server_hello_at, due_for, due_for_by, due_for_in, due_for_all, items_due, hello_due}
use Rattle.nr_reduce.specs.OutputLaws.{WroteAddsNothing}
use Rattle.nr_reduce.proofs.Steps.{events_one}
use Rattle.nr_reduce.proofs.Standing.{itself, sent_one}

module _ {S A : Type 0} (rules : EndMachine S) (at_event : S → RunEvent → List A) (at_end : End → List A) where
  pub due_append : (r : EndState S) (es fs : List RunEvent) → due_for_all rules at_event at_end r (es ++ fs) ≡ due_for_all rules at_event at_end r es ++ due_for_all rules at_event at_end (end_state_after rules r es) fs
  due_append r [] fs = refl
  due_append r (e ∷ es) fs =
      ap (λ (xs : List A). due_for rules at_event at_end r e ++ xs) (due_append (next_end_state rules r e) es fs)
      ∙ sym (append_assoc (due_for rules at_event at_end r e) (due_for_all rules at_event at_end (next_end_state rules r e) es) (due_for_all rules at_event at_end (end_state_after rules (next_end_state rules r e) es) fs))

  nothing_due : ((s : S) (n : ℕ) → rules.end_at s (QueueWritten n) ≡ None) → ((s : S) (n : ℕ) → at_event s (QueueWritten n) ≡ []) → (r : EndState S) (n : ℕ) (b : Bool)
      → due_for_all rules at_event at_end r (if_own b (QueueWritten n ∷ [])) ≡ []
  nothing_due stays quiet r n false = refl
  nothing_due stays quiet r n true = append-nil (due_for rules at_event at_end r (QueueWritten n)) ∙ by r.ended
    where
      by : (o : Option End) → due_for_in rules at_event at_end r.state (QueueWritten n) o ≡ []
      by None = ap (λ (o : Option End). due_for_by rules at_event at_end r.state (QueueWritten n) o) (stays r.state n) ∙ quiet r.state n
      by (Some end) = refl

  wrote_due : ((s : S) (n : ℕ) → rules.end_at s (QueueWritten n) ≡ None) → ((s : S) (n : ℕ) → at_event s (QueueWritten n) ≡ []) → (first : EndState S) (link : ℕ) (side : Side) (run : List Mark) (bytes : List ℕ)
      → due_for_all rules at_event at_end first (events link side (run ++ marks.Wrote link side bytes ∷ [])) ≡ due_for_all rules at_event at_end first (events link side run)
  wrote_due stays quiet first link side run bytes =
      let mark : Mark = marks.Wrote link side bytes in
      let es = events link side run in
      ap (λ (all : List RunEvent). due_for_all rules at_event at_end first all) (events_one link side run mark)
      ∙ due_append first es (events_at link side run mark)
      ∙ ap (λ (xs : List A). due_for_all rules at_event at_end first es ++ xs) (nothing_due stays quiet (end_state_after rules first es) (length bytes) (eqb link link && same_side side side))
      ∙ append-nil (due_for_all rules at_event at_end first es)

client_stays_lem : (opened : LinkParameters) (s : ClientState) (n : ℕ) → (client_rules opened).end_at s (QueueWritten n) ≡ None
unfolding client_end
client_stays_lem opened s n = refl

client_quiet : (opened : LinkParameters) (s : ClientState) (n : ℕ) → client_items_at opened s (QueueWritten n) ≡ []
unfolding client_items_at
client_quiet opened s n = refl

server_stays_lem : (opened : LinkParameters) (s : ServerState) (n : ℕ) → (server_rules opened).end_at s (QueueWritten n) ≡ None
unfolding server_end
server_stays_lem opened s n = refl

server_quiet : (opened : LinkParameters) (s : ServerState) (n : ℕ) → server_items_at opened s (QueueWritten n) ≡ []
unfolding server_items_at
server_quiet opened s n = refl

sent_more : (link : ℕ) (side : Side) (run : List Mark) (bytes : List ℕ) → bytes_sent link side (run ++ marks.Wrote link side bytes ∷ []) ≡ bytes_sent link side run ++ bytes
sent_more link side run bytes =
    sent_one link side run (marks.Wrote link side bytes)
    ∙ ap (λ (b : Bool). bytes_sent link side run ++ cond (b && same_side side side) bytes []) (itself link)
    ∙ ap (λ (b : Bool). bytes_sent link side run ++ cond b bytes []) (same side)
  where
    same : (s : Side) → same_side s s ≡ true
    same Initiator = refl
    same Responder = refl

pub wrote_adds_nothing : WroteAddsNothing
unfolding items_due hello_due
wrote_adds_nothing opened link Initiator run bytes = (
  wrote_due (client_rules opened) (client_items_at opened) (λ end. LastItem end ∷ []) (client_stays_lem opened) (client_quiet opened) (initial_client opened) link Initiator run bytes,
  refl,
  sent_more link Initiator run bytes,
)
wrote_adds_nothing opened link Responder run bytes = (
  wrote_due (server_rules opened) (server_items_at opened) (λ end. LastItem end ∷ []) (server_stays_lem opened) (server_quiet opened) (initial_server opened) link Responder run bytes,
  wrote_due (server_rules opened) (λ k event. server_hello_at opened event) (rejection Responder) (server_stays_lem opened) (λ s n. refl) (initial_server opened) link Responder run bytes,
  sent_more link Responder run bytes,
)
