-- What the memory of a requester holds; and one that ran out of memory, through later marks.
use Rattle.std.proofs.Common.{◌≡◌, ℕ, Bool, true, cond, List, [], ◌∷◌, ◌++◌, length, map, Option, refl, sym, ap, subst, ◌∙◌}
use Rattle.std.specs.Prelude.{is_some}
use Rattle.std.specs.List.{AllByRecursion}
use Rattle.nr_wire.specs.declared.hello.Side.TheVariants.{Initiator}
use Rattle.nr_wire.specs.declared.stream.Awaited.TheVariants.{Fpdu}
use Rattle.nr_wire.specs.Feeding.{feeding_in, feeding_after_frames, feeding_after}
use Rattle.nr_wire.specs.Stream.{Split, split}
use Rattle.nr_regions.specs.RegisteredMemory.{RegisteredMemory}
use Rattle.nr_link.specs.declared.end.End.{End}
use Rattle.nr_link.specs.declared.end.End.TheVariants as ends
use Rattle.nr_reduce.specs.declared.call.Refused.TheVariants as refusals
use Rattle.nr_reduce.specs.declared.call.Submission.TheVariants as submissions
use Rattle.nr_reduce.specs.declared.mark.LinkParameters.{LinkParameters}
use Rattle.nr_reduce.specs.declared.mark.Mark.{Mark}
use Rattle.nr_reduce.specs.declared.mark.Mark.TheVariants as marks
use Rattle.nr_reduce.specs.ClientState.{ClientState, client_memory_at}
use Rattle.nr_reduce.specs.EndRules.{EndState}
use Rattle.nr_reduce.specs.History.{bytes_received}
use Rattle.nr_reduce.specs.Run.{client, placed_bytes, grants_of}
use Rattle.nr_reduce.specs.Credits.{credits_granted}
use Rattle.nr_reduce.specs.KeptClient.{bytes_under, HoldsFor}
use Rattle.nr_reduce.specs.Standing.{ClientRunsOut}
use Rattle.nr_reduce.specs.SubmitAnswer.{calls_counted}
use Rattle.nr_reduce.proofs.Numbered.{numbered_length}
use Rattle.nr_requester.specs.RequesterState.{StoredCall, RequesterFeeding, RequesterSide, feeding_of, stags_of, kept_call, kept_client, queue_of}
use Rattle.nr_requester.specs.Standing.{KeepsClient}
use Rattle.nr_requester.specs.AfterPiece.{requester_ended, after_frame, after_piece}
use Rattle.nr_requester.specs.Laws.{HoldsPlaced, MemoryAsClient, MemoryOut, AgreesOut, CountsOut, RefusesOut, PieceStaysOut}
use Rattle.nr_requester.proofs.Answered.{ended_answer}
use Rattle.nr_requester.proofs.AllMarks.{IsAsStopped, others_stay_out}

-- ---- What its memory holds

-- what is held for the calls as they are kept is held for them as they are stored
stored_hold : (opened : LinkParameters) (link : ℕ) (run : List Mark) (m : RegisteredMemory) (count sent : ℕ) (cs : List StoredCall) → count ≡ length (bytes_received link Initiator run) →
    AllByRecursion (HoldsFor m (client opened link run).state count) (map (kept_call sent) cs) →
    AllByRecursion (λ c. AllByRecursion (λ stag. bytes_under m stag ≡ placed_bytes opened link Initiator run stag) (stags_of c.claims)) cs
unfolding placed_bytes grants_of
stored_hold opened link run m count sent [] is h = tt
stored_hold opened link run m count sent (c ∷ cs) is h = (
  subst (λ (n : ℕ). AllByRecursion (λ stag. bytes_under m stag ≡ client_memory_at (client opened link run).state n stag) (stags_of c.claims)) is h.0,
  stored_hold opened link run m count sent cs is h.1,
)

pub memory_kept : (opened : LinkParameters) (link : ℕ) (h : RequesterSide) (run : List Mark) → KeepsClient opened link h run → HoldsPlaced opened link h run
memory_kept opened link h run s = stored_hold opened link run h.state.side.memory _ h.state.sent h.state.outstanding refl s.kept.keeps.holds

pub memory_as_client : MemoryAsClient
memory_as_client opened link h run s = memory_kept opened link h run s.keeps

-- ---- Of one that ran out of memory, by its client

module _ (opened : LinkParameters) (link : ℕ) (h : RequesterSide) (stopped run : List Mark) (out : ClientRunsOut opened link (kept_client h.state) (queue_of h.state) stopped run) where
  pub memory_by : HoldsPlaced opened link h stopped
  memory_by = stored_hold opened link stopped h.state.side.memory _ h.state.sent h.state.outstanding refl out.keeps.holds

  pub counts_by : (length h.state.outstanding ≡ calls_counted (client opened link stopped).state) × (h.state.grant ≡ credits_granted opened link stopped)
  unfolding credits_granted
  counts_by = (out.keeps.outstanding ∙ numbered_length (client opened link stopped).state, out.keeps.grant)

  pub agrees_by : (written : ℕ) → IsAsStopped opened link stopped run written → (h.state.side.agreed.up ≡ (client opened link run).state.up_max)
      × ((h.state.side.agreed.down ≡ (client opened link run).state.down_max) × (h.state.side.agreed.invalidates ≡ (client opened link run).state.invalidates))
  agrees_by written same = (
    out.keeps.up ∙ sym (ap (λ (e : EndState ClientState). e.state.up_max) same),
    (
      out.keeps.down ∙ sym (ap (λ (e : EndState ClientState). e.state.down_max) same),
      out.keeps.invalidates ∙ sym (ap (λ (e : EndState ClientState). e.state.invalidates) same),
    ),
  )

pub memory_out_lem : MemoryOut
memory_out_lem opened link h stopped run out = memory_by opened link h stopped run out.out

pub counts_out_lem : CountsOut
counts_out_lem opened link h stopped run out = counts_by opened link h stopped run out.out

pub agrees_out_lem : AgreesOut
agrees_out_lem opened link h stopped run out = agrees_by opened link h stopped run out.out out.written out.same

pub refuses_out : RefusesOut
refuses_out opened link h stopped run call form out = (
  ended_answer h.state call form ends.Memory (sym out.out.ended),
  others_stay_out opened link h stopped run (marks.Submit link call form (submissions.Refused (refusals.Ended ends.Memory))) out refl refl refl (λ x. refl),
)

-- a side that has ended takes nothing of a piece
pub fed_out : (h : RequesterFeeding) (piece : List ℕ) → requester_ended h.state ≡ true → after_piece h piece ≡ record { awaited = h.awaited; rest = []; state = h.state }
unfolding after_piece feeding_after
fed_out h piece e = by (split h.awaited (h.rest ++ piece)).frames
  where
    s : Split
    s = split h.awaited (h.rest ++ piece)

    by : (frames : List (List ℕ)) → feeding_after_frames requester_ended after_frame frames s.rest h.awaited h.state ≡ record { awaited = h.awaited; rest = []; state = h.state }
    by [] = ap (λ (b : Bool). record { awaited = h.awaited; rest = cond b [] s.rest; state = h.state }) e
    by (f ∷ frames) =
        ap (λ (b : Bool). cond b (feeding_in requester_ended after_frame h.awaited [] h.state) (feeding_after_frames requester_ended after_frame frames s.rest Fpdu (after_frame h.state h.awaited f))) e
        ∙ ap (λ (b : Bool). record { awaited = h.awaited; rest = cond b [] []; state = h.state }) e

pub stays_by : (opened : LinkParameters) (link : ℕ) (h : RequesterSide) (stopped run : List Mark) (piece : List ℕ) → ClientRunsOut opened link (kept_client h.state) (queue_of h.state) stopped run → h.rest ≡ [] → after_piece (feeding_of h) piece ≡ feeding_of h
stays_by opened link h stopped run piece out none =
    fed_out (feeding_of h) piece (ap (λ (x : Option End). is_some x) out.ended) ∙ (λ i. record { awaited = h.awaited; rest = sym none i; state = h.state })

pub piece_stays_out_lem : PieceStaysOut
piece_stays_out_lem opened link h stopped run piece out none = stays_by opened link h stopped run piece out.out none
