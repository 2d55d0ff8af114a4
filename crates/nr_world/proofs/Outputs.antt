-- What the code hands to the lemmas of a step.
use Rattle.std.specs.Prelude.{◌↔◌, Result, Ok, Err, IfOk, IsTrue}
use Rattle.std.proofs.Common.{◌≡◌, ◌≢◌, ℕ, ◌≤◌, Bool, true, false, List, [], ◌∷◌, ◌++◌, length, map, take, None, Some, refl, ap, sym, subst, ◌∙◌, cond, ◌⊎◌, inl, inr}
use Rattle.std.proofs.Math.Seq.{take-length}
use Rattle.std.specs.Io.KnownBytes.{Appends}
use Rattle.nr_wire.specs.declared.hello.Side.{Side}
use Rattle.nr_wire.specs.declared.hello.Side.TheVariants.{Initiator, Responder}
use Rattle.nr_link.specs.declared.agreement.SideTerms.{SideTerms}
use Rattle.nr_link.specs.Agreement.{terms_with}
use Rattle.nr_reduce.specs.Opening.{ClientOpened, ServerOpened}
use Rattle.nr_reduce.specs.declared.mark.LinkParameters.{LinkParameters}
use Rattle.nr_reduce.specs.declared.mark.Mark.{Mark}
use Rattle.nr_reduce.specs.History.{is_dropped}
use Rattle.nr_requester.specs.RequesterState.{RequesterSide, RequesterState, queue_of}
use Rattle.nr_requester.specs.AfterCalls.{after_drain, opened_as, numbered_terms}
use Rattle.nr_requester.specs.ReopenedLinks.{KeepsOn}
use Rattle.nr_responder.specs.ResponderState.{ResponderSide, may_write, end_of}
use Rattle.nr_responder.specs.Draining.{Drains}
use Rattle.nr_responder.specs.Standing.{ResponderRepresents}
use Rattle.nr_drill.specs.Drill.{Pipes, appended, after_all_output, after_drop, after_raw}
use Rattle.nr_world.specs.DrillLinkState.{DrillLinkState}
use Rattle.nr_endpoint.specs.LinkState.{LinkSide}
use Rattle.nr_endpoint.specs.FedBytes.{fed_bytes}
use Rattle.nr_requester.specs.Fed.{fed_bytes as client_fed_bytes}
use Rattle.nr_requester.specs.OpenCalls.{KeepsTickets}
use Rattle.nr_world.specs.declared.awaited.AwaitedCall.{AwaitedCall}
use Rattle.nr_world.specs.Transits.{TransitState}
use Rattle.nr_world.specs.OpenTickets.{AreOpen}
use Rattle.nr_world.specs.Steps.{Goes, ClientWrites, ServerWrites, IsFresh}
use Rattle.nr_texts.specs.declared.opening.Opening.{Opening}
use Rattle.nr_world.specs.Views.{line_view, link_view, call_view, held_view}
use Rattle.nr_world.proofs.OpenTickets.{none_open, kept_open}
use Rattle.nr_world.proofs.Standing.{with_ends, from_view}
use Rattle.nr_world.proofs.Writes.{up_none, up_some, down_none, down_some}
use Rattle.nr_world.proofs.Dropping.{dropped_link, drops, raw_put}
use Rattle.nr_requester.specs.Standing.{RequesterRepresents}
use Rattle.nr_drill.specs.Follows.{client_terms}
use Rattle.nr_world.specs.declared.awaited.HeldCall.{HeldCall}
use Rattle.nr_reduce.specs.declared.mark.Mark.TheVariants as marks

-- what holds of the value of an Ok
pub if_ok : {T E : Type 0} (r : Result T E) (P Q : T → Type 0) → ((x : T) → P x → Q x) → IfOk r P → IfOk r Q
if_ok (Ok x) P Q f h = f x h
if_ok (Err e) P Q f h = h

-- bytes that are not empty, as the code knows
pub some_bytes : (b : Bool) (bytes : List ℕ) → (IsTrue b ↔ (bytes ≡ [])) → b ≡ false → bytes ≢ []
some_bytes b bytes e filled none = absurd (let wrong : true ≡ false = sym (e.1 none) ∙ filled in cc)

-- ---- What a link's invariant says of an end that was drained

pub client_kept : (A B C : Type 0) (h h2 : RequesterSide) (most : ℕ) (calls : List AwaitedCall) → client_fed_bytes h2 ≡ client_fed_bytes h → KeepsTickets h.state h2.state →
    A × (B × ((client_fed_bytes h ≤ most) × (C × AreOpen h.state calls))) → A × (B × ((client_fed_bytes h2 ≤ most) × (C × AreOpen h2.state calls)))
client_kept A B C h h2 most calls fed tickets i =
    (i.0, (i.1.0, (subst (λ (n : ℕ). n ≤ most) (sym fed) i.1.1.0, (i.1.1.1.0, kept_open h.state h2.state calls tickets i.1.1.1.1))))

pub server_kept : (C : Type 0) (s s2 : LinkSide) (most : ℕ) → fed_bytes s2 ≡ fed_bytes s → (fed_bytes s ≤ most) × C → (fed_bytes s2 ≤ most) × C
server_kept C s s2 most fed i = (subst (λ (n : ℕ). n ≤ most) (sym fed) i.0, i.1)

-- ---- What an end writes

pub server_writes : (before after : ResponderSide) (first out bytes : List ℕ) (n : ℕ) → Drains before after (Some first) (Some out) n → n ≡ length (may_write before) → first ≡ [] → bytes ≡ out → ServerWrites before after bytes
server_writes before after first out bytes n d all none is =
    let taken : bytes ≡ take n (may_write before) = is ∙ d.taken ∙ ap (λ (xs : List ℕ). xs ++ take n (may_write before)) none in
    record {
      n = n;
      within = d.within;
      state = d.state;
      all = taken ∙ ap (λ (k : ℕ). take k (may_write before)) all ∙ take-length (may_write before);
      stands = λ opened link run h. subst (λ (xs : List ℕ). ResponderRepresents opened link (run ++ marks.Wrote link Responder xs ∷ []) after) (sym taken) (d.stands opened link run h);
    }

pub client_writes : (before after : RequesterSide) (first out bytes : List ℕ) (n : ℕ) → Appends (Some first) (Some out) (take n (queue_of before.state)) → after ≡ after_drain n before → n ≡ length (queue_of before.state) →
    KeepsOn before (λ link. marks.Wrote link Initiator (take n (queue_of before.state))) after → first ≡ [] → bytes ≡ out → ClientWrites before after bytes
client_writes before after first out bytes n appends state all keeps none is =
    let taken : bytes ≡ take n (queue_of before.state) = is ∙ appends ∙ ap (λ (xs : List ℕ). xs ++ take n (queue_of before.state)) none in
    record {
      n = n;
      state = state;
      all = taken ∙ ap (λ (k : ℕ). take k (queue_of before.state)) all ∙ take-length (queue_of before.state);
      stands = subst (λ (xs : List ℕ). KeepsOn before (λ link. marks.Wrote link Initiator xs) after) (sym taken) keeps;
    }

pub wrote_no_bytes_up : (v v0 : DrillLinkState) (client : RequesterSide) (bytes : List ℕ) (run : List Mark) → v ≡ v0 → ClientWrites v.client client bytes → bytes ≡ [] →
    Goes (λ s link. after_all_output s link Initiator) v0 (with_ends v client v.server v.pipes) run run
wrote_no_bytes_up v v0 client bytes run is w none = from_view (λ s link. after_all_output s link Initiator) v v0 (with_ends v client v.server v.pipes) run run is (up_none v client bytes run w none)

pub wrote_bytes_up : (v v0 : DrillLinkState) (client : RequesterSide) (bytes given up : List ℕ) (run run2 : List Mark) → v ≡ v0 → ClientWrites v.client client bytes → bytes ≢ [] → given ≡ bytes → up ≡ v.pipes.up ++ given →
    run2 ≡ run ++ marks.Wrote v.number Initiator bytes ∷ [] → Goes (λ s link. after_all_output s link Initiator) v0 (with_ends v client v.server (record { up = up; down = v.pipes.down })) run run2
wrote_bytes_up v v0 client bytes given up run run2 is w some all put more =
    let pipes : Pipes = record { up = up; down = v.pipes.down } in
    let own : pipes ≡ appended Initiator bytes v.pipes = (λ i. record { up = (put ∙ ap (λ (xs : List ℕ). v.pipes.up ++ xs) all) i; down = v.pipes.down }) in
    from_view (λ s link. after_all_output s link Initiator) v v0 (with_ends v client v.server pipes) run run2 is (up_some v client bytes pipes run run2 w some own more)

pub wrote_no_bytes_down : (v v0 : DrillLinkState) (server : ResponderSide) (bytes : List ℕ) (run : List Mark) → v ≡ v0 → ServerWrites v.server server bytes → bytes ≡ [] →
    Goes (λ s link. after_all_output s link Responder) v0 (with_ends v v.client server v.pipes) run run
wrote_no_bytes_down v v0 server bytes run is w none = from_view (λ s link. after_all_output s link Responder) v v0 (with_ends v v.client server v.pipes) run run is (down_none v server bytes run w none)

pub wrote_bytes_down : (v v0 : DrillLinkState) (server : ResponderSide) (bytes given down : List ℕ) (run run2 : List Mark) → v ≡ v0 → ServerWrites v.server server bytes → bytes ≢ [] → given ≡ bytes → down ≡ v.pipes.down ++ given →
    run2 ≡ run ++ marks.Wrote v.number Responder bytes ∷ [] → Goes (λ s link. after_all_output s link Responder) v0 (with_ends v v.client server (record { up = v.pipes.up; down = down })) run run2
wrote_bytes_down v v0 server bytes given down run run2 is w some all put more =
    let pipes : Pipes = record { up = v.pipes.up; down = down } in
    let own : pipes ≡ appended Responder bytes v.pipes = (λ i. record { up = v.pipes.up; down = (put ∙ ap (λ (xs : List ℕ). v.pipes.down ++ xs) all) i }) in
    from_view (λ s link. after_all_output s link Responder) v v0 (with_ends v v.client server pipes) run run2 is (down_some v server bytes pipes run run2 w some own more)

-- ---- A link is dropped, and bytes are put into its pipes

pub drops_to : (v v0 : DrillLinkState) (up down : TransitState) (run run2 : List Mark) → v ≡ v0 → up.waiting ≡ [] → down.waiting ≡ [] → run2 ≡ run ++ marks.Drop v.number ∷ [] →
    Goes (λ s link. after_drop link) v0 (record v { pipes = record { up = up.waiting; down = down.waiting }; is_dropped = true }) run run2
drops_to v v0 up down run run2 is no_up no_down more =
    let to : dropped_link v ≡ record v { pipes = record { up = up.waiting; down = down.waiting }; is_dropped = true } =
    (λ i. record v { pipes = record { up = sym no_up i; down = sym no_down i }; is_dropped = true }) in
    subst (λ (x : DrillLinkState). Goes (λ s link. after_drop link) v0 x run run2) to
    (from_view (λ s link. after_drop link) v v0 (dropped_link v) run run2 is (drops v run run2 more))

pub raw_up : (v v0 : DrillLinkState) (side : Side) (bytes up : List ℕ) (run : List Mark) → v ≡ v0 → side ≡ Initiator → v.is_dropped ≡ false → up ≡ v.pipes.up ++ bytes →
    Goes (λ s link d. after_raw link side bytes (is_dropped link d.marks) d) v0 (with_ends v v.client v.server (record { up = up; down = v.pipes.down })) run run
raw_up v v0 side bytes up run is own stands put =
    let pipes : Pipes = record { up = up; down = v.pipes.down } in
    subst (λ (x : Side). Goes (λ s link d. after_raw link x bytes (is_dropped link d.marks) d) v0 (with_ends v v.client v.server pipes) run run) (sym own)
    (from_view (λ s link d. after_raw link Initiator bytes (is_dropped link d.marks) d) v v0 (with_ends v v.client v.server pipes) run run is
    (raw_put v Initiator bytes pipes run stands (λ i. record { up = put i; down = v.pipes.down })))

pub raw_down : (v v0 : DrillLinkState) (side : Side) (bytes down : List ℕ) (run : List Mark) → v ≡ v0 → side ≡ Responder → v.is_dropped ≡ false → down ≡ v.pipes.down ++ bytes →
    Goes (λ s link d. after_raw link side bytes (is_dropped link d.marks) d) v0 (with_ends v v.client v.server (record { up = v.pipes.up; down = down })) run run
raw_down v v0 side bytes down run is own stands put =
    let pipes : Pipes = record { up = v.pipes.up; down = down } in
    subst (λ (x : Side). Goes (λ s link d. after_raw link x bytes (is_dropped link d.marks) d) v0 (with_ends v v.client v.server pipes) run run) (sym own)
    (from_view (λ s link d. after_raw link Responder bytes (is_dropped link d.marks) d) v v0 (with_ends v v.client v.server pipes) run run is
    (raw_put v Responder bytes pipes run stands (λ i. record { up = v.pipes.up; down = put i })))

-- ---- A link that is opened

pub opened_live : (r : RequesterSide) (credits : ℕ) (terms : SideTerms) → r ≡ opened_as 1 1 credits terms r.staging → r.state.side.ended ≡ None
unfolding opened_as
opened_live r credits terms is = ap (λ (x : RequesterSide). x.state.side.ended) is

pub none_are_open : (r : RequesterState) (calls : List AwaitedCall) → calls ≡ [] → AreOpen r calls
none_are_open r calls none = subst (λ (cs : List AwaitedCall). AreOpen r cs) (sym none) (none_open r)

abbrev empty_pipe : TransitState
empty_pipe = record { waiting = []; kept = 0 }

-- the terms of the first link of a client, with a number of its own and without
pub numbered_client : (opening : Opening) (link : ℕ) → opening.numbered ≡ true → numbered_terms link opening.client_units opening.invalidates ≡ client_terms opening link
numbered_client opening link numbered = λ i. record { units = opening.client_units; number = cond (sym numbered i) link 0; invalidates = opening.invalidates }

pub unnumbered_client : (opening : Opening) (link : ℕ) → (opening.numbered ≡ false) ⊎ (link ≡ 0) → terms_with opening.client_units opening.invalidates ≡ client_terms opening link
unnumbered_client opening link (inl none) = λ i. record { units = opening.client_units; number = cond (sym none i) link 0; invalidates = opening.invalidates }
unnumbered_client opening link (inr zero_link) = λ i. record { units = opening.client_units; number = none i; invalidates = opening.invalidates }
  where
    both : (b : Bool) → 0 ≡ cond b link 0
    both true = sym zero_link
    both false = refl

    none : 0 ≡ cond opening.numbered link 0
    none = both opening.numbered

pub fresh_link : (number : ℕ) (opening : Opening) (client : RequesterSide) (server : ResponderSide) (up down : TransitState) (calls : List AwaitedCall) (held : List HeldCall) → client.state.side.ended ≡ None → up ≡ empty_pipe → down ≡ empty_pipe → calls ≡ [] → held ≡ [] →
    ((opened : LinkParameters) (l : ℕ) → opened.first_xid ≡ 1 → opened.first_stag ≡ 1 → ClientOpened opened opening.credits (client_terms opening number) → RequesterRepresents opened l client []) → end_of server ≡ None →
    ((opened : LinkParameters) (l : ℕ) → ServerOpened opened opening.credits opening.credits (terms_with opening.server_units opening.invalidates) → ResponderRepresents opened l [] server) → IsFresh number opening (link_view number client server up down false 0 calls held)
fresh_link number opening client server up down calls held asks_live no_up no_down none none_held asks live serves = record {
  number = refl;
  pipes = (λ i. record { up = (no_up i).waiting; down = (no_down i).waiting });
  stands = refl;
  lines = refl;
  awaited = ap (λ (cs : List AwaitedCall). map line_view cs) none;
  calls = ap (λ (cs : List AwaitedCall). map call_view cs) none;
  waiting = ap (λ (cs : List HeldCall). map held_view cs) none_held;
  client_live = asks_live;
  server_live = live;
  client = asks;
  server = serves;
}
