-- What a step on a piece keeps of the staging buffer.
use Rattle.std.proofs.Common.{◌≡◌, ℕ, ◌+◌, ◌<◌, Option, Some, None, List, [], length, drop, refl, sym, ap, subst, ◌∙◌, arith, inl, inr}
use Rattle.std.specs.FinMap.{empty}
use Rattle.std.specs.Prelude.{◌⊎◌, max}
use Rattle.nr_endpoint.specs.EndpointState.{EndpointState, KeepsStaging as KeepsEndpoint, cut_frame_len}
use Rattle.nr_endpoint.specs.LinkState.{LinkSide}
use Rattle.nr_endpoint.proofs.Pieces.{keeps_on}
use Rattle.nr_link.specs.declared.end.End.{End}
use Rattle.nr_wire.specs.Feeding.{bytes_taken}
use Rattle.nr_wire.proofs.Feedings.{bytes_taken_partial}
use Rattle.nr_reduce.specs.declared.mark.LinkParameters.{LinkParameters}
use Rattle.nr_reduce.specs.declared.mark.Mark.{Mark}
use Rattle.nr_responder.specs.ResponderState.{ResponderSide, ResponderState, end_of, KeepsStaging}
use Rattle.nr_responder.specs.private.Handling.{IsTaken, on_link}
use Rattle.nr_responder.specs.Standing.{RepresentsServer, ResponderRepresents}
use Rattle.nr_responder.proofs.Fed.{StepOf, not_ended_lem}
use Rattle.nr_responder.proofs.Fed.StepOf.{Part, WholeFrame}
use Rattle.nr_responder.proofs.Marks.{represents}
use Rattle.nr_responder.proofs.Stepped.{taken_at}

pub unchanged : (v : ResponderState) (piece : List ℕ) → KeepsStaging v v piece
unchanged v piece = record { others = refl; len = refl }

-- nothing is left to be delivered of a side that stands for some marks and hasn't ended
pub nothing_told : (opened : LinkParameters) (link : ℕ) (run : List Mark) (v : ResponderSide) → end_of v ≡ None → ResponderRepresents opened link run v → v.link.state.receive_queue.deliveries ≡ []
nothing_told opened link run v live stands =
    let h : RepresentsServer opened link run v = represents opened link run v live stands in
    (not_ended_lem opened h.end h.input v live h.keeps).1.link.told

pub rest_or_none : (before now after : List ℕ) → now ≡ before → (after ≡ now) ⊎ (after ≡ []) → (after ≡ before) ⊎ (after ≡ [])
rest_or_none before now after same (inl is) = inl (is ∙ same)
rest_or_none before now after same (inr none) = inr none

-- what the endpoint keeps, the responder keeps: what a message makes of it drops no input
pub staging_step : (v after : ResponderState) (piece : List ℕ) (before now : EndpointState) → v.side.link ≡ before.link → v.staging ≡ before.staging → StepOf v.side.link piece now.link → v.side.link.state.receive_queue.deliveries ≡ [] →
    IsTaken (on_link v.side now.link) after.side → (after.side.link.rest ≡ now.link.rest) ⊎ (after.side.link.rest ≡ []) → after.staging ≡ now.staging → KeepsEndpoint before now piece → KeepsStaging v after piece
staging_step v after piece before now link_is staging_is step told taken rest same h =
    let cut : ℕ = cut_frame_len v.side.link.awaited v.side.link.rest piece in
    let others : drop (max (length now.link.rest) cut) now.staging ≡ drop (max (length now.link.rest) cut) v.staging =
    subst (λ (l : LinkSide). drop (max (length now.link.rest) (cut_frame_len l.awaited l.rest piece)) now.staging ≡ drop (max (length now.link.rest) (cut_frame_len l.awaited l.rest piece)) v.staging) (sym link_is)
    (h.others ∙ ap (λ (xs : List ℕ). drop (max (length now.link.rest) (cut_frame_len before.link.awaited before.link.rest piece)) xs) (sym staging_is)) in
    record {
      others =
          subst (λ (xs : List ℕ). drop (max (length xs) cut) after.staging ≡ drop (max (length xs) cut) v.staging) (sym (rest_is step))
          (ap (λ (xs : List ℕ). drop (max (length now.link.rest) cut) xs) same ∙ others);
      len = ap (λ (xs : List ℕ). length xs) same ∙ h.len ∙ ap (λ (xs : List ℕ). length xs) (sym staging_is);
    }
  where
    by_rest : now.link.rest ≡ [] → (after.side.link.rest ≡ now.link.rest) ⊎ (after.side.link.rest ≡ []) → after.side.link.rest ≡ now.link.rest
    by_rest none (inl is) = is
    by_rest none (inr is) = is ∙ sym none

    rest_is : StepOf v.side.link piece now.link → after.side.link.rest ≡ now.link.rest
    rest_is (Part w link) = ap (λ (x : ResponderSide). x.link.rest) (taken.none (ap (λ (l : LinkSide). l.state.receive_queue.deliveries) link ∙ told))
    rest_is (WholeFrame frame w frame_is long link) = by_rest (ap (λ (l : LinkSide). l.rest) link) rest

-- ---- A piece of several frames

same_either : (o : Option End) (n : ℕ) → taken_at o n n ≡ n
same_either None n = refl
same_either (Some end) n = refl

-- after a step nothing is staged, or all of the piece was taken
pub step_rest : (l m after : LinkSide) (piece : List ℕ) (n : ℕ) (o : Option End) → StepOf l piece m → (after.rest ≡ m.rest) ⊎ (after.rest ≡ []) → n ≡ taken_at o (length piece) (bytes_taken l.awaited l.rest piece) →
    (after.rest ≡ []) ⊎ (n ≡ length piece)
step_rest l m after piece n o (Part w link) rest is =
    inr (is ∙ ap (λ (k : ℕ). taken_at o (length piece) k) (bytes_taken_partial l.awaited l.rest piece w) ∙ same_either o (length piece))
step_rest l m after piece n o (WholeFrame frame w frame_is long link) (inl same) is = inl (same ∙ ap (λ (x : LinkSide). x.rest) link)
step_rest l m after piece n o (WholeFrame frame w frame_is long link) (inr none) is = inl none

pub next_first : (rest : List ℕ) (at n len total : ℕ) → at + len ≡ total → (rest ≡ []) ⊎ (n ≡ len) → (rest ≡ []) ⊎ (at + n ≡ total)
next_first rest at n len total sum (inl none) = inl none
next_first rest at n len total sum (inr all) = inr (omega (arith, all, sum))

-- how far a piece is taken before a step on the rest of it
abbrev pub IsFirst : (before now : ResponderState) (at : ℕ) → List ℕ → Type 0
IsFirst before now at piece = ((now ≡ before) × (at ≡ 0)) ⊎ ((now.side.link.rest ≡ []) ⊎ (at ≡ length piece))

from_first : (before now : ResponderState) (at : ℕ) (piece : List ℕ) → at < length piece → IsFirst before now at piece → ((now ≡ before) × (drop at piece ≡ piece)) ⊎ (now.side.link.rest ≡ [])
from_first before now at piece lt (inl same) = inl (same.0, ap (λ (n : ℕ). drop n piece) same.1)
from_first before now at piece lt (inr (inl none)) = inr none
from_first before now at piece lt (inr (inr all)) = absurd (omega (arith, lt, all))

abbrev as_endpoint : ResponderState → EndpointState
as_endpoint v = record { link = v.side.link; staging = v.staging; room = 0; outside = empty }

pub staging_on : (before now after : ResponderState) (at : ℕ) (piece : List ℕ) → at < length piece → IsFirst before now at piece → KeepsStaging before now piece → KeepsStaging now after (drop at piece) → KeepsStaging before after piece
staging_on before now after at piece lt first so_far step =
    let k : KeepsEndpoint (as_endpoint before) (as_endpoint after) piece =
    keeps_on (as_endpoint before) (as_endpoint now) (as_endpoint after) piece (drop at piece) (record { others = so_far.others; len = so_far.len }) (seen (from_first before now at piece lt first)) (record { others = step.others; len = step.len }) in
    record { others = k.others; len = k.len }
  where
    seen : ((now ≡ before) × (drop at piece ≡ piece)) ⊎ (now.side.link.rest ≡ []) → ((as_endpoint now ≡ as_endpoint before) × (drop at piece ≡ piece)) ⊎ ((as_endpoint now).link.rest ≡ [])
    seen (inl same) = inl (ap as_endpoint same.0, same.1)
    seen (inr none) = inr none
