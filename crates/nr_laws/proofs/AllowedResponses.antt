-- A segment of a Read Response that a server of a matched link receives is allowed by the server's memory.
use Rattle.std.proofs.Common.{◌≡◌, ℕ, ◌+◌, ◌≤◌, ◌<◌, Bool, true, false, List, [], ◌∷◌, ◌++◌, length, None, sym, ap, subst, ◌∙◌, arith}
use Rattle.nr_regions.specs.declared.right.Right.TheVariants.{Sink}
use Rattle.nr_regions.specs.Access.{grant_denial}
use Rattle.nr_reduce.specs.declared.mark.LinkParameters.{LinkParameters}
use Rattle.nr_link.specs.Frames.{Frame}
use Rattle.nr_reduce.specs.OfferedRegions.{region_grants}
use Rattle.nr_reduce.specs.Events.RunEvent.{FrameReceived}
use Rattle.nr_reduce.specs.ServerState.{ServerState, PendingRead}
use Rattle.nr_reduce.specs.ServerReads.{open_reads}
use Rattle.nr_reduce.specs.Server.{server_end, refusal_end}
use Rattle.nr_reduce.specs.ServerFrames.{frame_effect}
use Rattle.nr_laws.proofs.FrameContents.{FrameContent, Carries}
use Rattle.nr_laws.proofs.FrameContents.FrameContent.{TaggedFrame}
use Rattle.nr_laws.proofs.LinkInvariants.{Transit, ReadsAgree, AreResponses, ContinuesRead, HaveSinks}
use Rattle.nr_laws.proofs.Sinks.{sink_allowed, sinks_taken}
use Rattle.nr_laws.proofs.EndsOfFrames.{server_response}

continues_within : (last : Bool) (came n : ℕ) (r : PendingRead) (rs : List PendingRead) (Later : ℕ → List PendingRead → Type 0) → ContinuesRead last came n r rs Later → came + n ≤ r.size
continues_within true came n r rs Later h = omega (arith, h.0)
continues_within false came n r rs Later h = omega (arith, h.0)

pub server_response_taken : (opened : LinkParameters) (s : ServerState) (w : Transit) (f : Frame) (place : ℕ) (last : Bool) (opcode stag to : ℕ) (payload : List ℕ) (rest : List FrameContent) → ReadsAgree s w → HaveSinks place s.regions s.reads → place < f.end
    → w.up ≡ TaggedFrame last opcode stag to payload ∷ rest → Carries false s.received.sends s.received.requests f (TaggedFrame last opcode stag to payload)
    → server_end opened s (FrameReceived f) ≡ refusal_end f (frame_effect s f).refusal
server_response_taken opened s w f place last opcode stag to payload rest c sinks lt head p =
    by c.answered c.parts (subst (λ (ps : List FrameContent). AreResponses s.response_bytes c.answered (ps ++ w.queued_up)) head c.answers) (subst (λ (rs : List PendingRead). HaveSinks place s.regions rs) c.parts (sinks_taken place 8 s.regions s.reads sinks))
  where
    by : (answered : List PendingRead) → open_reads s ≡ answered ++ c.asked → AreResponses s.response_bytes answered (TaggedFrame last opcode stag to payload ∷ (rest ++ w.queued_up)) → HaveSinks place s.regions (answered ++ c.asked)
        → server_end opened s (FrameReceived f) ≡ refusal_end f (frame_effect s f).refusal
    by [] parts answers have = absurd answers
    by (r ∷ rs) parts answers have =
        let within = continues_within last s.response_bytes (length payload) r rs (λ k qs. AreResponses k qs (rest ++ w.queued_up)) answers.3 in
        let allowed : grant_denial (region_grants f.end s.regions) (record { right = Sink; stag = stag; to = to; len = length payload }) f.end ≡ None =
        subst (λ (x : ℕ). grant_denial (region_grants f.end s.regions) (record { right = Sink; stag = x; to = to; len = length payload }) f.end ≡ None) (sym answers.1)
        (sink_allowed place f.end r s.regions to (length payload) have.0 lt (omega (arith, answers.2, within))) in
        server_response opened s w f last stag to payload rest c
        (head ∙ ap (λ (o : ℕ). TaggedFrame last o stag to payload ∷ rest) answers.0)
        (subst (λ (o : ℕ). Carries false s.received.sends s.received.requests f (TaggedFrame last o stag to payload)) answers.0 p)
        allowed
