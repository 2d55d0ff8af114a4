-- A requester that has left its link keeps the client of the next one, as that is opened.
use Rattle.std.proofs.Common.{◌≡◌, ℕ, List, [], ◌++◌, length, map, refl, sym, ap, subst, ◌∙◌, append-nil}
use Rattle.nr_wire.specs.declared.hello.Side.TheVariants.{Initiator, Responder}
use Rattle.nr_link.specs.Input.{initial_input}
use Rattle.nr_link.specs.Output.{hello_with}
use Rattle.nr_link.specs.Agreement.{initiator_private}
use Rattle.nr_link.specs.declared.agreement.SideTerms.{SideTerms}
use Rattle.nr_endpoint.specs.Hellos.{receive_length_for}
use Rattle.nr_reduce.specs.declared.mark.LinkParameters.{LinkParameters}
use Rattle.nr_reduce.specs.Events.{events}
use Rattle.nr_reduce.specs.Hellos.{client_hello}
use Rattle.nr_reduce.specs.KeptClient.{CanResume, KeptClient, opened_client}
use Rattle.nr_reduce.specs.Run.{client}
use Rattle.nr_reduce.specs.Standing.{ClientRepresents}
use Rattle.nr_reduce.proofs.Standing.{client_begins_lem}
use Rattle.nr_requester.specs.RequesterState.{RequesterSide, queue_of, kept_client}
use Rattle.nr_requester.specs.Standing.{LinkKeeps, KeepsClient}
use Rattle.nr_requester.specs.Reopening.{OpensNext, after_reopen, calls_again, next_side}
use Rattle.nr_requester.proofs.Marks.{some_units}

kept_next : (next : LinkParameters) (h : RequesterSide) (staging : List ℕ) → OpensNext next h.state (calls_again h.state) → opened_client next ≡ kept_client (after_reopen h staging).state
unfolding after_reopen
kept_next next h staging o = λ i. record (opened_client next) {
  next_xid = sym o.xid i;
  outstanding = sym o.count i;
  calls = sym o.calls i;
  memory = sym o.memory i;
  number = (sym o.terms i).number;
  agreed = sym o.agreed i;
}

queue_next : (next : LinkParameters) (h : RequesterSide) (staging : List ℕ) → OpensNext next h.state (calls_again h.state) → client_hello next ≡ queue_of (after_reopen h staging).state
unfolding after_reopen client_hello
queue_next next h staging o =
    ap (λ (t : SideTerms). hello_with Initiator (initiator_private t)) (sym o.terms) ∙ sym (append-nil (hello_with Initiator (initiator_private h.state.side.terms)))

side_next : (next : LinkParameters) (link : ℕ) (h : RequesterSide) → OpensNext next h.state (calls_again h.state) → LinkKeeps next (next_side h.state) (client next link []).state
unfolding client events client_hello
side_next next link h o = record {
  side = refl;
  has_hello = refl;
  receive_length = ap receive_length_for o.terms;
  message_max = refl;
  fits = some_units next.client;
  terms = o.terms;
  received = refl;
  receive = refl;
  none_lent = refl;
  none_waits = refl;
  no_reads = refl;
  number = refl;
  waiting = λ e. refl;
  none_due = λ e. refl;
  sends = record { ends = refl; count = refl };
  responses = record { ends = refl; count = refl };
  left = refl;
  numbered = refl;
  held = o.messages;
  greeted = refl;
  granted = λ e. refl;
  client_terms = refl;
}

-- it keeps the client of its next link, as that is opened
pub next_link_begins : (next : LinkParameters) (link : ℕ) (h : RequesterSide) (staging : List ℕ) → CanResume next.resumed next.first_xid → OpensNext next h.state (calls_again h.state) → KeepsClient next link (after_reopen h staging) []
unfolding after_reopen
next_link_begins next link h staging can o = record {
  wished = o.wished;
  resumes = can;
  kept = subst (λ (k : KeptClient). ClientRepresents next link k (initial_input Responder) (queue_of (after_reopen h staging).state) []) (kept_next next h staging o)
      (subst (λ (q : List ℕ). ClientRepresents next link (opened_client next) (initial_input Responder) q []) (queue_next next h staging o) (client_begins_lem next link can));
  sent = λ none. refl;
  side = λ none. side_next next link h o;
}
