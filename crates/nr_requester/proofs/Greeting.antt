-- The server's hello.
use Rattle.std.proofs.Common.{◌≡◌, ℕ, inl, ◌<◌, ◌≤◌, Bool, true, false, cond, not, List, [], ◌++◌, length, take, drop, Option, None, Some, Result, Ok, Err, refl, sym, ap, subst, ◌∙◌, arith}
use Rattle.std.specs.Prelude.{IfErr}
use Rattle.std.proofs.lemmas.List.{append-nil}
use Rattle.std.proofs.lemmas.Bool.{ne_eqb, eq-eqb, lt-ltb}
use Rattle.nr_wire.specs.declared.hello.Side.{Side}
use Rattle.nr_wire.specs.declared.hello.Side.TheVariants.{Initiator, Responder}
use Rattle.nr_wire.specs.declared.stream.Awaited.TheVariants.{Hello as HelloFrom}
use Rattle.nr_wire.specs.Constants.{HELLO_LEN}
use Rattle.nr_wire.specs.Hello.{Hello, hello_of, hello_reason as wire_reason, flags_of, value_unless}
use Rattle.nr_link.specs.declared.agreement.SideTerms.{SideTerms}
use Rattle.nr_link.specs.declared.agreement.Agreement.{Agreement}
use Rattle.nr_link.specs.declared.end.End.{End}
use Rattle.nr_link.specs.declared.end.End.TheVariants as ends
use Rattle.nr_link.specs.Frames.{Frame, is_hello}
use Rattle.nr_link.specs.Output.{terminate_message}
use Rattle.nr_link.specs.Ending.{frame_end_by, hello_end, final_output, rejection}
use Rattle.nr_endpoint.specs.Hellos.{own_private, side_agreement, received_max, client_heard, receive_length_for}
use Rattle.nr_endpoint.specs.Hellos.{has_same_sizes as side_sizes}
use Rattle.nr_endpoint.specs.LinkState.{LinkState}
use Rattle.nr_endpoint.specs.SendQueue.{writable, with_hello as queue_hello, with_end}
use Rattle.nr_endpoint.specs.Judging.{agreed_with, with_frame, with_peer_hello, with_other_sizes, with_hello_from, with_end_of, with_agreement, after_frame, next_frame, reply_hello}
use Rattle.nr_endpoint.specs.Laws.{IsHelloReason}
use Rattle.nr_endpoint.proofs.Agreed.{agreed_fits}
use Rattle.nr_endpoint.proofs.EndLaws.{reason_of_hello}
use Rattle.nr_reduce.specs.declared.mark.LinkParameters.{LinkParameters}
use Rattle.nr_reduce.specs.Hellos.{private_of, client_agreement, agreement_with}
use Rattle.nr_reduce.specs.OfferedRegions.{region_grants}
use Rattle.nr_reduce.specs.Events.RunEvent.{FrameReceived}
use Rattle.nr_reduce.specs.EndRules.{EndState, next_end_state, next_end_state_by, live}
use Rattle.nr_reduce.specs.ClientState.{ClientState}
use Rattle.nr_reduce.specs.Client.{client_rules, client_segment, client_end, client_output, client_state_after, calls_output, call_ends, or_message_end, client_readiness, with_hello, with_segment, response_output, segment_request, or_other_sizes, has_same_sizes}
use Rattle.nr_reduce.specs.KeptClient.{KeptClient, ClientKeeps, kept_greeted}
use Rattle.nr_reduce.proofs.Releasing.{kept_stays}
use Rattle.nr_reduce.proofs.Submits.{kept_greets}
use Rattle.nr_requester.specs.RequesterState.{RequesterState, queue_of, kept_client}
use Rattle.nr_requester.specs.Standing.{HasEnds, sends_ends, LinkKeeps}
use Rattle.nr_requester.proofs.FrameMoves.{KeepsLiveClient, FrameTaken, taken_live, taken_ended}
use Rattle.nr_link.specs.Reasons.{REASON_SIZES}

-- the requester after it
abbrev pub after_hello : RequesterState → List ℕ → RequesterState
after_hello r frame = record r { side = with_frame r.side (HelloFrom Responder) frame }

-- the private data of a hello that is accepted
abbrev private_in : Result Hello ℕ → List ℕ
private_in (Ok hello) = hello.private
private_in (Err reason) = []

said_by : (reason : Option ℕ) (value hello : Hello) → value_unless reason value ≡ Ok hello → hello.private ≡ value.private
said_by None value hello e = ap private_in (sym e)
said_by (Some reason) value hello e = absurd cc

said_private : (side : Side) (frame : List ℕ) (hello : Hello) → hello_of side frame ≡ Ok hello → hello.private ≡ drop HELLO_LEN frame
unfolding hello_of
said_private side frame hello e = said_by (wire_reason side (take HELLO_LEN frame)) (record { side = side; flags = flags_of frame; private = drop HELLO_LEN frame }) hello e

-- what it agrees on with the server
agrees_as : (opened : LinkParameters) (s : LinkState) (f : Frame) (private : List ℕ) → s.side ≡ Initiator → s.terms ≡ opened.client → private ≡ private_of f →
    side_agreement s.side (own_private s.terms s.side private) private ≡ client_agreement opened f
unfolding client_agreement
agrees_as opened s f private side terms said = λ i. side_agreement (side i) (own_private (terms i) (side i) (said i)) (said i)

kept_as : (opened : LinkParameters) (r : RequesterState) (f : Frame) (own private : List ℕ) → side_agreement r.side.side own private ≡ client_agreement opened f →
    kept_greeted (kept_client r) (client_agreement opened f) ≡ kept_client (record r { side = after_frame f (with_agreement own private r.side) })
unfolding kept_greeted
kept_as opened r f own private agrees = λ i. record (kept_client r) { up_max = (sym agrees i).up; down_max = (sym agrees i).down; invalidates = (sym agrees i).invalidates }

link_greeted : (opened : LinkParameters) (s : LinkState) (k : ClientState) (f : Frame) (private : List ℕ) (agreed : Agreement) (most number : ℕ) → most ≡ (client_agreement opened f).down → most ≤ receive_length_for opened.client → LinkKeeps opened s k → 0 < f.end → k.has_hello ≡ false →
    LinkKeeps opened (after_frame f (record s { has_hello = true; send_queue = queue_hello [] s.send_queue; private = private; agreed = agreed; message_max = most; client = number })) (with_hello opened k f)
link_greeted opened s k f private agreed most number is le keeps some none =
    let same : sends_ends k.has_hello opened k ≡ k.send_ends ++ call_ends opened k.due 1 k.outstanding =
    ap (λ (b : Bool). sends_ends b opened k) none ∙ ap (λ (xs : List ℕ). xs ++ call_ends opened k.due 1 k.outstanding) (sym (keeps.none_due none)) in
    let hello : s.send_queue.hello ≡ s.send_queue.hello ++ [] = sym (append-nil s.send_queue.hello) in
    record {
      side = keeps.side;
      has_hello = refl;
      receive_length = keeps.receive_length;
      message_max = is;
      fits = subst (λ (n : ℕ). n ≤ receive_length_for opened.client) is le;
      terms = keeps.terms;
      received = keeps.received;
      receive = keeps.receive;
      none_lent = keeps.none_lent;
      none_waits = keeps.none_waits;
      no_reads = keeps.no_reads;
      number = keeps.number;
      waiting = λ e. absurd cc;
      none_due = λ e. absurd cc;
      sends = subst (λ (h : List ℕ). HasEnds k.written (length h) (k.send_ends ++ call_ends opened k.due 1 k.outstanding) s.send_queue.send_ends) hello
          (subst (λ (xs : List ℕ). HasEnds k.written (length s.send_queue.hello) xs s.send_queue.send_ends) same keeps.sends);
      responses = subst (λ (h : List ℕ). HasEnds k.written (length h) k.response_ends s.send_queue.response_ends) hello keeps.responses;
      left = keeps.left;
      numbered = ap (λ (xs : List ℕ). length xs) (sym same) ∙ keeps.numbered;
      held = keeps.held;
      greeted = sym (ap not (ne_eqb f.end 0 (λ e. (let h = e in omega (arith, h, some)))));
      granted = λ e. absurd cc;
      client_terms = keeps.client_terms;
    }

no_output : (reason at : ℕ) → reason ≤ 4 → final_output (ends.Bad at reason) ≡ []
unfolding final_output
no_output reason at le = ap (λ (b : Bool). cond b [] (terminate_message reason)) (lt-ltb reason 5 (omega (arith, le)))

hello_reason : (frame : List ℕ) (reason : ℕ) → hello_of Responder frame ≡ Err reason → reason ≤ 4
hello_reason frame reason is = (subst (λ (r : Result Hello ℕ). IfErr r IsHelloReason) is (reason_of_hello Responder frame)).1

-- whether the lengths of Sends that a hello agrees on are those of an earlier one: by the side of the link as by its client
sizes_same : (earlier : Option Agreement) (a : Agreement) → side_sizes earlier a ≡ has_same_sizes earlier a
sizes_same None a = refl
sizes_same (Some earlier) a = refl

sizes_are : (opened : LinkParameters) (s : LinkState) (k : ClientState) (f : Frame) (private : List ℕ) → agreed_with s private ≡ client_agreement opened f → s.earlier ≡ k.agreed → k.terms ≡ opened.client →
    side_sizes s.earlier (agreed_with s private) ≡ has_same_sizes k.agreed (agreement_with k.terms f)
unfolding client_agreement
sizes_are opened s k f private agrees earlier terms =
    (λ i. side_sizes (earlier i) (agrees i))
    ∙ sizes_same k.agreed (agreement_with opened.client f)
    ∙ ap (λ (t : SideTerms). has_same_sizes k.agreed (agreement_with t f)) (sym terms)

last_is : (at : ℕ) → final_output (ends.Bad at REASON_SIZES) ≡ terminate_message REASON_SIZES
unfolding final_output
last_is at = refl

pub hello_taken : (opened : LinkParameters) (r : RequesterState) (k : ClientState) (count : ℕ) (frame : List ℕ) → KeepsLiveClient opened r k count → count < (next_frame r.side frame).end → r.side.place ≡ 0 →
    FrameTaken opened r k (next_frame r.side frame) (after_hello r frame)
unfolding with_peer_hello client_end client_output client_state_after with_end
hello_taken opened r k count frame keeps lt first = by (hello_of Responder frame) refl
  where
    f : Frame
    f = next_frame r.side frame

    link : LinkKeeps opened r.side k
    link = keeps.side

    is_first : is_hello f ≡ true
    is_first = eq-eqb r.side.place 0 first

    no_hello : k.has_hello ≡ false
    no_hello = link.greeted ∙ ap not is_first

    end_is : (x : Result Hello ℕ) → hello_of Responder frame ≡ x → client_end k (FrameReceived f) ≡ or_other_sizes k f (hello_end x)
    end_is x e = (λ i. cond (is_first i) (or_other_sizes k f (hello_end (e i))) (or_message_end k f (frame_end_by (client_readiness k) (region_grants f.end k.regions) f (client_segment k f))))

    output_is : client_output opened k (FrameReceived f) ≡ calls_output opened 1 k.outstanding
    output_is = ap (λ (b : Bool). cond b (calls_output opened 1 k.outstanding) (response_output k f.end (segment_request (client_segment k f)))) is_first

    state_is : client_state_after opened k (FrameReceived f) ≡ with_hello opened k f
    state_is = ap (λ (b : Bool). cond b (with_hello opened k f) (with_segment k f (client_segment k f))) is_first

    agrees_on : (hello : Hello) → hello_of Responder frame ≡ Ok hello → agreed_with r.side hello.private ≡ client_agreement opened f
    agrees_on hello e = agrees_as opened r.side f hello.private link.side link.terms (said_private Responder frame hello e)

    agreed_taken : (hello : Hello) → hello_of Responder frame ≡ Ok hello → client_end k (FrameReceived f) ≡ None → FrameTaken opened r k f (record r { side = with_peer_hello f (Ok hello) r.side })
    agreed_taken hello e ends_not =
        let own : List ℕ = own_private r.side.terms r.side.side hello.private in
        let agreed : Agreement = side_agreement r.side.side own hello.private in
        let most : ℕ = received_max r.side.side agreed in
        let number : ℕ = client_heard r.side.terms r.side.side hello.private in
        let after : RequesterState = record r { side = after_frame f (with_agreement own hello.private r.side) } in
        let none : reply_hello r.side.side own ≡ [] = ap (λ (side : Side). reply_hello side own) link.side in
        let agrees : agreed ≡ client_agreement opened f = agrees_on hello e in
        let most_is : most ≡ (client_agreement opened f).down = (λ i. received_max (link.side i) (agrees i)) in
        let most_fits : most ≤ receive_length_for opened.client = subst (λ (terms : SideTerms). most ≤ receive_length_for terms) link.terms (agreed_fits r.side.terms r.side.side hello.private) in
        let within = keeps.due in
        let kept : ClientKeeps opened (kept_greeted (kept_client r) (client_agreement opened f)) (live (with_hello opened k f)) f.end =
        kept_stays opened (kept_greeted (kept_client r) (client_agreement opened f)) (live (with_hello opened k f)) count f.end (kept_greets opened (kept_client r) k f count keeps.client (omega (arith, within))) (omega (arith, lt)) in
        let greeted : ClientKeeps opened (kept_client after) (live (with_hello opened k f)) f.end =
        subst (λ (x : KeptClient). ClientKeeps opened x (live (with_hello opened k f)) f.end) (kept_as opened r f own hello.private agrees) kept in
        let next_is : live (with_hello opened k f) ≡ next_end_state (client_rules opened) (live k) (FrameReceived f) =
        ap (λ (x : ClientState). live x) (sym state_is) ∙ sym (ap (λ (x : Option End). next_end_state_by (client_rules opened) k (FrameReceived f) x) ends_not) in
        taken_live opened r k count f after keeps ends_not
        (subst (λ (x : EndState ClientState). ClientKeeps opened (kept_client after) x f.end) next_is greeted)
        (subst (λ (x : ClientState). LinkKeeps opened after.side x) (sym state_is)
        (subst (λ (bytes : List ℕ). LinkKeeps opened (after_frame f (record r.side { has_hello = true; send_queue = queue_hello bytes r.side.send_queue; private = own; agreed = agreed; message_max = most; client = number })) (with_hello opened k f)) (sym none)
        (link_greeted opened r.side k f own agreed most number most_is most_fits link (omega (arith, lt)) no_hello)))
        refl refl refl
        ((λ i. (r.side.send_queue.hello ++ none i) ++ link.waiting no_hello i)
        ∙ (λ i. writable (sym (link.has_hello ∙ no_hello) i) r.side.send_queue ++ sym output_is i)) refl
        refl (inl (record { answered = refl; outstanding = refl; outcomes = ap (λ (x : ClientState). x.outcomes) state_is }))

    other_taken : client_end k (FrameReceived f) ≡ Some (ends.Bad f.at REASON_SIZES) → FrameTaken opened r k f (record r { side = with_other_sizes f r.side })
    other_taken ended =
        let end : End = ends.Bad f.at REASON_SIZES in
        let none : r.side.has_hello ≡ false = link.has_hello ∙ no_hello in
        let last : List ℕ = terminate_message REASON_SIZES in
        taken_ended opened r k count f (record r { side = with_other_sizes f r.side }) end keeps ended r.side.memory (λ stag. refl) refl refl (omega (arith, lt))
        ((λ i. writable (none i) (queue_hello last r.side.send_queue))
        ∙ append-nil (r.side.send_queue.hello ++ last)
        ∙ (λ i. sym (append-nil r.side.send_queue.hello) i ++ last)
        ∙ (λ i. writable (sym none i) r.side.send_queue ++ sym (last_is f.at) i))
        refl refl refl

    sized_end : (hello : Hello) → hello_of Responder frame ≡ Ok hello → (b : Bool) → side_sizes r.side.earlier (agreed_with r.side hello.private) ≡ b → client_end k (FrameReceived f) ≡ cond b None (Some (ends.Bad f.at REASON_SIZES))
    sized_end hello e b is =
        end_is (Ok hello) e
        ∙ ap (λ (c : Bool). cond c None (Some (ends.Bad f.at REASON_SIZES))) (sym (sizes_are opened r.side k f hello.private (agrees_on hello e) keeps.client.opening.1 link.client_terms) ∙ is)

    by_hello : (hello : Hello) → hello_of Responder frame ≡ Ok hello → (b : Bool) → side_sizes r.side.earlier (agreed_with r.side hello.private) ≡ b →
        FrameTaken opened r k f (record r { side = cond (not b) (with_other_sizes f r.side) (with_peer_hello f (Ok hello) r.side) })
    by_hello hello e true is = agreed_taken hello e (sized_end hello e true is)
    by_hello hello e false is = other_taken (sized_end hello e false is)

    by : (x : Result Hello ℕ) → hello_of Responder frame ≡ x → FrameTaken opened r k f (record r { side = with_hello_from Responder f x r.side })
    by (Ok hello) e = by_hello hello e (side_sizes r.side.earlier (agreed_with r.side hello.private)) refl
    by (Err reason) e =
        let end : End = ends.Bad 0 reason in
        taken_ended opened r k count f (record r { side = with_end_of (ends.Bad f.at reason) r.side }) end keeps (end_is (Err reason) e) r.side.memory (λ stag. refl)
        (ap (λ (n : ℕ). record (kept_client r) { ended = Some (ends.Bad n reason) }) first) refl (omega (arith, lt))
        (no_last r.side.has_hello (link.has_hello ∙ no_hello)
        ∙ sym (append-nil (queue_of r)) ∙ ap (λ (xs : List ℕ). queue_of r ++ xs) (sym (no_output reason 0 (hello_reason frame reason e))))
        refl refl refl
      where
        no_last : (h : Bool) → h ≡ false → writable h (with_end r.side.side (ends.Bad f.at reason) r.side.send_queue) ≡ writable h r.side.send_queue
        no_last true e = absurd cc
        no_last false e = (λ i. (r.side.send_queue.hello ++ rejection (link.side i) (ends.Bad f.at reason)) ++ []) ∙ ap (λ (xs : List ℕ). xs ++ []) (append-nil r.side.send_queue.hello)
