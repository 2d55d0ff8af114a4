-- At the frame that ends a Read Response, what came of the client are the responses to all reads up to this one.
use Rattle.std.proofs.Common.{◌≡◌, ℕ, zero, suc, ◌+◌, ◌≤◌, Bool, true, false, cond, List, [], ◌∷◌, ◌++◌, length, take, drop, map, None, Ok, refl, sym, ap, subst, ◌∙◌, arith, append_assoc, append-nil, length-append}
use Rattle.std.proofs.lemmas.List.{length-map, map-append}
use Rattle.nr_wire.specs.declared.hello.Side.TheVariants.{Initiator, Responder}
use Rattle.nr_wire.specs.Segment.{Segment, segment_of}
use Rattle.nr_wire.specs.Segment.Segment.{Tagged, Untagged}
use Rattle.nr_link.specs.Frames.{Frame, is_hello}
use Rattle.nr_link.specs.Ending.{frame_segment, tagged_access}
use Rattle.nr_link.proofs.TakenSegments.{frame_read}
use Rattle.nr_reduce.specs.declared.mark.Mark.{Mark}
use Rattle.nr_reduce.specs.declared.mark.LinkParameters.{LinkParameters}
use Rattle.nr_reduce.specs.OfferedRegions.{Region}
use Rattle.nr_reduce.specs.Events.{RunEvent, events}
use Rattle.nr_reduce.specs.Events.RunEvent.{FrameReceived, CallSubmitted, MemoryRevoked, CallExecuted, QueueWritten, ServerTold}
use Rattle.nr_reduce.specs.EndRules.{EndState, next_end_state, end_state_after}
use Rattle.nr_reduce.specs.Matched.{Matched}
use Rattle.nr_reduce.specs.Asked.{AskedSoFar}
use Rattle.nr_reduce.specs.Served.{ServedSoFar}
use Rattle.nr_reduce.specs.ServerState.{ServerState, PendingRead}
use Rattle.nr_reduce.specs.Server.{server_rules, initial_server}
use Rattle.nr_reduce.specs.Run.{client}
use Rattle.nr_reduce.specs.RunLaws.{server_by, ends_response}
use Rattle.nr_laws.specs.Typed.{IsTyped}
use Rattle.nr_laws.proofs.EventOutputs.{GoesOn, first_preserve, outputs_for, outputs_all}
use Rattle.nr_laws.proofs.Brought.{Brings}
use Rattle.nr_laws.proofs.ClientRun.{client_goes, client_outs}
use Rattle.nr_laws.proofs.ClientResponses.{Answered, EachData, responses_of, requests_of, tagged_one, tagged_in, tagged_append, heard_brought, answers_along}
use Rattle.nr_laws.proofs.ExecutedCalls.{server_receives_of}
use Rattle.nr_laws.proofs.ReceivedMessages.{brings_at, own_segment}
use Rattle.nr_laws.proofs.Memory.{parts_of, parts_out, parts_append, out_append, segment_parts, access_parts, gathers}
use Rattle.nr_laws.proofs.Outputs.{Output, request_payload, server_says, server_final_outputs}
use Rattle.nr_laws.proofs.Outputs.Output.{AHello, ASegment}
use Rattle.nr_laws.proofs.ReadsAlong.{requests_in, requests_append, last_in, last_of, lasts_in, ReadsAt}
use Rattle.nr_laws.proofs.ServerAlong.{outs_of}
use Rattle.nr_laws.proofs.ServerMemory.{server_gathers}
use Rattle.nr_laws.proofs.ServerReadsOfRuns.{ServerFine, server_fine, reads_along}
use Rattle.nr_laws.proofs.ServerSide.{client_receives_of}
use Rattle.nr_laws.proofs.SinksKept.{SinksKept}
use Rattle.nr_laws.proofs.SplitResponses.{lasts_of, EndsLast, first_responses}
use Rattle.nr_laws.proofs.Basics.{first_is_lem}

-- ---- Lists

lasts_append : (xs ys : List Segment) → lasts_of (xs ++ ys) ≡ lasts_of xs + lasts_of ys
lasts_append [] ys = omega arith
lasts_append (x ∷ xs) ys = (let e = lasts_append xs ys in omega (arith, e))

ends_append : (xs : List Segment) (s : Segment) → last_in s ≡ 1 → EndsLast (xs ++ s ∷ [])
ends_append [] s e = e
ends_append (x ∷ []) s e = e
ends_append (x ∷ y ∷ xs) s e = ends_append (y ∷ xs) s e

lasts_one : (s : Segment) → lasts_of (tagged_one s) ≡ last_in s
lasts_one (Tagged last opcode stag to payload) = omega arith
lasts_one (Untagged last opcode w queue msn offset payload) = refl

lasts_brought : (es : List RunEvent) (came : List Output) → Brings es came → lasts_in es ≡ lasts_of (tagged_in came)
lasts_brought [] came b = ap (λ (xs : List Output). lasts_of (tagged_in xs)) (sym b)
lasts_brought (FrameReceived f ∷ es) [] b = absurd b
lasts_brought (FrameReceived f ∷ es) (AHello bytes ∷ came) b = (λ i. cond (b.0.0 i) 0 (last_of (segment_of f.bytes)) + lasts_brought es came b.1 i) ∙ (omega arith)
lasts_brought (FrameReceived f ∷ es) (ASegment s ∷ came) b =
    (λ i. cond (b.0.0 i) 0 (last_of (b.0.1 i)) + lasts_brought es came b.1 i) ∙ (let a = lasts_append (tagged_one s) (tagged_in came) in let c = lasts_one s in omega (arith, a, c))
lasts_brought (CallSubmitted p a ∷ es) came b = lasts_brought es came b
lasts_brought (MemoryRevoked p xid ∷ es) came b = lasts_brought es came b
lasts_brought (CallExecuted e ∷ es) came b = lasts_brought es came b
lasts_brought (QueueWritten taken ∷ es) came b = lasts_brought es came b
lasts_brought (ServerTold what ∷ es) came b = lasts_brought es came b

ends_segment : (s : Segment) → ends_response s ≡ true → (tagged_one s ≡ s ∷ []) × (last_in s ≡ 1)
ends_segment (Tagged last opcode stag to payload) e = (refl, ap (λ (b : Bool). cond b 1 0) e)
ends_segment (Untagged last opcode w queue msn offset payload) e = absurd cc

outs_more : (opened : LinkParameters) (r : EndState ServerState) (es more : List RunEvent) → outputs_all (server_rules opened) (server_says opened) server_final_outputs r (es ++ more)
    ≡ outputs_all (server_rules opened) (server_says opened) server_final_outputs r es ++ outputs_all (server_rules opened) (server_says opened) server_final_outputs (end_state_after (server_rules opened) r es) more
outs_more opened r [] more = refl
outs_more opened r (x ∷ es) more =
    let o : List Output = outputs_for (server_rules opened) (server_says opened) server_final_outputs r x in
    ap (λ (xs : List Output). o ++ xs) (outs_more opened (next_end_state (server_rules opened) r x) es more)
    ∙ sym (append_assoc o (outputs_all (server_rules opened) (server_says opened) server_final_outputs (next_end_state (server_rules opened) r x) es)
    (outputs_all (server_rules opened) (server_says opened) server_final_outputs (end_state_after (server_rules opened) (next_end_state (server_rules opened) r x) es) more))

taken_requests : (others : List Answered) (ps X Y : List (List ℕ)) → requests_of others ++ X ≡ ps ++ Y → length ps ≤ length others → requests_of (take (length ps) others) ≡ ps
taken_requests others [] X Y e le = refl
taken_requests [] (p ∷ ps) X Y e le = absurd (omega (arith, le))
taken_requests (a ∷ others) (p ∷ ps) X Y e le =
    let head = first_is_lem a.request p (requests_of others ++ X) (ps ++ Y) e in
    let rest = taken_requests others ps X Y (ap (λ (zs : List (List ℕ)). drop 1 zs) e) (omega (arith, le)) in
    (λ i. head i ∷ rest i)

taken_data : (regions : List Region) (n : ℕ) (others : List Answered) → EachData regions others → EachData regions (take n others)
taken_data regions zero others h = tt
taken_data regions (suc n) [] h = tt
taken_data regions (suc n) (a ∷ others) h = (h.0, taken_data regions n others h.1)

-- ---- What came

pub record Came (opened : LinkParameters) (link : ℕ) (run : List Mark) (k : ServerState) (f : Frame) (segment : Segment) (q : PendingRead) : Type 0 where
  pub done : List PendingRead
  pub kept : SinksKept k done
  pub outs : List Output
  pub parts : parts_of (k.accesses_received ++ tagged_access f segment) ≡ parts_out outs
  pub others : List Answered
  pub tagged : tagged_in outs ≡ responses_of others
  pub holds : EachData (client opened link run).state.regions others
  pub requests : requests_of others ≡ map request_payload (done ++ q ∷ [])

pub came_responses : (opened : LinkParameters) (link : ℕ) (run : List Mark) → IsTyped run → AskedSoFar opened link run → ServedSoFar opened link run → Matched link run
    → (es : List RunEvent) (f : Frame) (more : List RunEvent) (segment : Segment) (q : PendingRead) (rest : List PendingRead) → events link Responder run ≡ es ++ FrameReceived f ∷ more → is_hello f ≡ false → frame_segment f ≡ Ok segment
    → (end_state_after (server_rules opened) (initial_server opened) es).ended ≡ None → ends_response segment ≡ true → (server_by opened es).reads ≡ q ∷ rest → Came opened link run (server_by opened es) f segment q
unfolding client client_outs
came_responses opened link run typed asked served matched es f more segment q rest all behind is live ends reads =
    let k : ServerState = server_by opened es in
    let fine = subst (λ (xs : List RunEvent). GoesOn (server_rules opened) ServerFine 0 (initial_server opened) xs) all (server_fine opened link run typed asked served matched) in
    let at_es : ReadsAt opened es k (outs_of opened es) = (reads_along opened es (first_preserve (server_rules opened) ServerFine 0 (initial_server opened) es (FrameReceived f ∷ more) fine)).reads live in
    let rc = server_receives_of opened link run typed asked matched in
    let at = brings_at es f more rc.came (subst (λ (xs : List RunEvent). Brings xs rc.came) all rc.brings) in
    let own_is : at.own ≡ ASegment segment = own_segment at.own f segment at.brought behind (frame_read f segment is) in
    let one = ends_segment segment ends in
    let outs : List Output = at.earlier ++ ASegment segment ∷ [] in
    let came : tagged_in outs ≡ tagged_in at.earlier ++ segment ∷ [] =
    tagged_append at.earlier (ASegment segment ∷ []) ∙ ap (λ (ss : List Segment). tagged_in at.earlier ++ (ss ++ [])) one.0 in
    let S : List Segment = tagged_in at.earlier ++ segment ∷ [] in
    let rest_of : List Segment = tagged_in at.later ++ tagged_in rc.left in
    let ca = (answers_along opened (events link Initiator run) (client_goes opened link run typed asked).goes).answers in
    let whole : S ++ rest_of ≡ responses_of ca.answered =
    append_assoc (tagged_in at.earlier) (segment ∷ []) rest_of
    ∙ sym (ap tagged_in (ap (λ (xs : List Output). xs ++ rc.left) (at.parts ∙ ap (λ (o : Output). at.earlier ++ o ∷ at.later) own_is))
    ∙ tagged_append (at.earlier ++ ASegment segment ∷ at.later) rc.left
    ∙ ap (λ (ss : List Segment). ss ++ tagged_in rc.left) (tagged_append at.earlier (ASegment segment ∷ at.later) ∙ ap (λ (ss : List Segment). tagged_in at.earlier ++ (ss ++ tagged_in at.later)) one.0)
    ∙ append_assoc (tagged_in at.earlier) (segment ∷ tagged_in at.later) (tagged_in rc.left))
    ∙ ap tagged_in rc.parts ∙ ca.segments in
    let fr = first_responses ca.answered S rest_of whole (ends_append (tagged_in at.earlier) segment one.1) in
    let done : List PendingRead = at_es.done in
    let asked_for : List (List ℕ) = map request_payload (done ++ q ∷ []) in
    let size : length asked_for ≡ length done + 1 = length-map (done ++ q ∷ []) request_payload ∙ length-append done (q ∷ []) in
    let lasts : lasts_of S ≡ length asked_for =
    (let a = lasts_append (tagged_in at.earlier) (segment ∷ []) in let b = lasts_brought es at.earlier at.brings in let c = at_es.lasts in let d = one.1 in omega (arith, a, b, c, d, size)) in
    let cr = client_receives_of opened link run typed asked served matched in
    let X : List Output = outputs_all (server_rules opened) (server_says opened) server_final_outputs (end_state_after (server_rules opened) (initial_server opened) es) (FrameReceived f ∷ more) in
    let said : requests_in (outs_of opened es) ≡ asked_for ++ map request_payload (take 7 rest) =
    at_es.requests ∙ ap (λ (rs : List PendingRead). map request_payload (done ++ take 8 rs)) reads ∙ ap (λ (rs : List PendingRead). map request_payload rs) (sym (append_assoc done (q ∷ []) (take 7 rest))) ∙ map-append request_payload (done ++ q ∷ []) (take 7 rest) in
    let both : requests_of ca.answered ++ (ca.later ++ requests_in cr.left) ≡ asked_for ++ (map request_payload (take 7 rest) ++ requests_in X) =
    sym (append_assoc (requests_of ca.answered) ca.later (requests_in cr.left))
    ∙ ap (λ (ps : List (List ℕ)). ps ++ requests_in cr.left) (sym ca.requests ∙ heard_brought (events link Initiator run) cr.came cr.brings)
    ∙ sym (requests_append cr.came cr.left) ∙ ap requests_in (cr.parts ∙ ap (outs_of opened) all ∙ outs_more opened (initial_server opened) es (FrameReceived f ∷ more))
    ∙ requests_append (outs_of opened es) X ∙ ap (λ (ps : List (List ℕ)). ps ++ requests_in X) said ∙ append_assoc asked_for (map request_payload (take 7 rest)) (requests_in X) in
    let few = fr.few in
    record {
      done = done;
      kept = at_es.kept;
      outs = outs;
      parts = parts_append k.accesses_received (tagged_access f segment)
          ∙ (λ i. gathers (server_rules opened) (λ (s : ServerState). s.accesses_received) (server_gathers opened) (initial_server opened) es at.earlier at.brings live i ++ access_parts f segment i)
          ∙ ap (λ (ps : List _). parts_out at.earlier ++ ps) (sym (append-nil (segment_parts segment))) ∙ sym (out_append at.earlier (ASegment segment ∷ []));
      others = take (length asked_for) ca.answered;
      tagged = came ∙ fr.is ∙ ap (λ (n : ℕ). responses_of (take n ca.answered)) lasts;
      holds = taken_data (client opened link run).state.regions (length asked_for) ca.answered ca.holds;
      requests = taken_requests ca.answered asked_for (ca.later ++ requests_in cr.left) (map request_payload (take 7 rest) ++ requests_in X) both (omega (arith, lasts, few));
    }
