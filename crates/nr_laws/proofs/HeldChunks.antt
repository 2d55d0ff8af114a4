-- A call that the end of a Read Response completed: the sink of its read chunk holds the region of its plan.
use Rattle.std.proofs.Common.{◌≡◌, ℕ, ◌+◌, ◌^◌, ◌<◌, Bool, true, false, cond, eqb, List, [], ◌∷◌, ◌++◌, length, replicate, None, Some, Ok, refl, sym, ap, subst, ◌∙◌, arith}
use Rattle.std.specs.List.{find, list_any}
use Rattle.std.proofs.lemmas.List.{length-replicate}
use Rattle.nr_header.specs.declared.header.ReadSegment.{ReadSegment}
use Rattle.nr_wire.specs.declared.hello.Side.TheVariants.{Responder}
use Rattle.nr_wire.specs.Segment.{Segment}
use Rattle.nr_link.specs.Frames.{Frame, is_hello}
use Rattle.nr_link.specs.Ending.{frame_segment, tagged_access, missing_access}
use Rattle.nr_reduce.specs.declared.mark.Mark.{Mark}
use Rattle.nr_reduce.specs.declared.mark.LinkParameters.{LinkParameters}
use Rattle.nr_reduce.specs.OfferedRegions.{Region, region_grants, region_bytes}
use Rattle.nr_reduce.specs.Plans.{entries_from}
use Rattle.nr_reduce.specs.Events.{RunEvent, events}
use Rattle.nr_reduce.specs.Events.RunEvent.{FrameReceived}
use Rattle.nr_reduce.specs.EndRules.{end_state_after}
use Rattle.nr_reduce.specs.Matched.{Matched}
use Rattle.nr_reduce.specs.Asked.{AskedSoFar}
use Rattle.nr_reduce.specs.Served.{ServedSoFar}
use Rattle.nr_reduce.specs.ServerState.{ServerState, PendingCall, PendingRead}
use Rattle.nr_reduce.specs.ServerReads.{is_read, sink_of}
use Rattle.nr_reduce.specs.ServerMessages.{chunk_bytes}
use Rattle.nr_reduce.specs.ServerFrames.{call_of_number, with_access}
use Rattle.nr_reduce.specs.Server.{server_rules, initial_server}
use Rattle.nr_reduce.specs.Run.{client}
use Rattle.nr_reduce.specs.RunLaws.{server_by, ends_response}
use Rattle.nr_reduce.specs.ChunkBytes.{bytes_after_segments}
use Rattle.nr_reduce.proofs.WrittenChunks.{added_up}
use Rattle.nr_laws.specs.Typed.{IsTyped}
use Rattle.nr_laws.proofs.EventOutputs.{GoesOn, first_preserve, later_preserve, places_after}
use Rattle.nr_laws.proofs.CameResponses.{came_responses}
use Rattle.nr_laws.proofs.ClientResponses.{responses_of}
use Rattle.nr_laws.proofs.ExecutedCalls.{plain_came, server_receives_of}
use Rattle.nr_laws.proofs.FetchedRegions.{IsFetched}
use Rattle.nr_laws.proofs.FewRegions.{few_regions}
use Rattle.nr_laws.proofs.FilledSinks.{SinkOf, IsFilled, filled}
use Rattle.nr_laws.proofs.Memory.{held_parts, after_parts}
use Rattle.nr_laws.proofs.PendingSinks.{CallReads, EachReads}
use Rattle.nr_laws.proofs.ServerAlong.{ServerGood, hello_preserves}
use Rattle.nr_laws.proofs.ServerMemory.{settled_along, accesses_settled}
use Rattle.nr_laws.proofs.ServerSide.{server_goes}
use Rattle.nr_laws.proofs.SinkReads.{own_reads, into, into_append, OfNumber, own_number, number_right, nothing_left_lem, SinksBelow, below_more}
use Rattle.nr_laws.proofs.SinksKept.{below_left}
use Rattle.nr_laws.proofs.SplitResponses.{laid_tagged}
use Rattle.std.proofs.Common.{append_assoc, append-nil}
use Rattle.std.proofs.lemmas.Bool.{not-true}

-- ---- Entries of one chunk determine its fields

abbrev lengths_in : List ReadSegment → List ℕ
lengths_in [] = []
lengths_in (r ∷ read) = r.length ∷ lengths_in read

abbrev position_in : List ReadSegment → ℕ
position_in [] = 0
position_in (r ∷ read) = r.position

abbrev handle_in : List ReadSegment → ℕ
handle_in [] = 0
handle_in (r ∷ read) = r.handle

lengths_are : (position handle offset : ℕ) (ns : List ℕ) → lengths_in (entries_from position handle offset ns) ≡ ns
lengths_are position handle offset [] = refl
lengths_are position handle offset (n ∷ ns) = ap (λ (ms : List ℕ). n ∷ ms) (lengths_are position handle (offset + n) ns)

position_is_lem : (position handle offset : ℕ) (ns : List ℕ) → 0 < added_up ns → position_in (entries_from position handle offset ns) ≡ position
position_is_lem position handle offset [] some = absurd (omega (arith, some))
position_is_lem position handle offset (n ∷ ns) some = refl

handle_is : (position handle offset : ℕ) (ns : List ℕ) → 0 < added_up ns → handle_in (entries_from position handle offset ns) ≡ handle
handle_is position handle offset [] some = absurd (omega (arith, some))
handle_is position handle offset (n ∷ ns) some = refl

-- ---- The call with its reads

reads_found : (reads : List PendingRead) (regions : List Region) (number : ℕ) (calls : List PendingCall) (c : PendingCall) → EachReads reads regions calls → find (λ c. eqb c.number number) calls ≡ Some c → CallReads reads regions c
reads_found reads regions number [] c h e = absurd cc
reads_found reads regions number (d ∷ calls) c h e = by (eqb d.number number) e (λ f. reads_found reads regions number calls c h.1 f)
  where
    by : (b : Bool) → cond b (Some d) (find (λ c. eqb c.number number) calls) ≡ Some c → (find (λ c. eqb c.number number) calls ≡ Some c → CallReads reads regions c) → CallReads reads regions c
    by true e more = subst (λ (x : PendingCall). CallReads reads regions x) (let t : Some d ≡ Some c = e in cc) h.0
    by false e more = more e

-- ---- The server's frames

pub server_good : (opened : LinkParameters) (link : ℕ) (run : List Mark) → IsTyped run → AskedSoFar opened link run → ServedSoFar opened link run → Matched link run → GoesOn (server_rules opened) ServerGood 0 (initial_server opened) (events link Responder run)
server_good opened link run typed asked served matched =
    let g = server_goes opened link run typed served in
    let r = server_receives_of opened link run typed asked matched in
    hello_preserves opened 0 (initial_server opened) (events link Responder run) r.came g.goes r.brings r.from (plain_came opened link run typed asked matched)

-- ---- What the sink holds

pub record ReadChunk (c : PendingCall) (regions : List Region) : Type 0 where
  pub position : ℕ
  pub handle : ℕ
  pub lengths : List ℕ
  pub lists : c.lists.read ≡ entries_from position handle 0 lengths
  pub some : 0 < added_up lengths
  pub region : List ℕ
  pub size : length region ≡ added_up lengths
  pub region_fits : length region < 2 ^ 32
  pub handle_fits : handle < 2 ^ 32
  pub holds : (f : IsFetched regions handle) → f.region.bytes ≡ region

-- at a frame whose access is allowed
pub sink_holds : (opened : LinkParameters) (link : ℕ) (run : List Mark) → IsTyped run → AskedSoFar opened link run → ServedSoFar opened link run → Matched link run
    → (es : List RunEvent) (f : Frame) (more : List RunEvent) (segment : Segment) (q : PendingRead) (rest : List PendingRead) (c : PendingCall) → events link Responder run ≡ es ++ FrameReceived f ∷ more → is_hello f ≡ false → frame_segment f ≡ Ok segment
    → (end_state_after (server_rules opened) (initial_server opened) es).ended ≡ None → missing_access (region_grants f.end (server_by opened es).regions) f segment ≡ None → ends_response segment ≡ true → (server_by opened es).reads ≡ q ∷ rest
    → call_of_number (server_by opened es) q.number ≡ Some c → is_read rest c.number ≡ true → (p : ReadChunk c (client opened link run).state.regions)
    → chunk_bytes (with_access (server_by opened es) f segment) f.end c p.position ≡ p.region
sink_holds opened link run typed asked served matched es f more segment q rest c all behind is live allowed ends reads found whole p =
    let k : ServerState = server_by opened es in
    let came = came_responses opened link run typed asked served matched es f more segment q rest all behind is live ends reads in
    let x = reads_found (came.done ++ k.reads) k.regions q.number k.calls c came.kept.calls found in
    let same : entries_from x.position x.handle 0 x.lengths ≡ entries_from p.position p.handle 0 p.lengths = sym x.lists ∙ p.lists in
    let lengths : x.lengths ≡ p.lengths = sym (lengths_are x.position x.handle 0 x.lengths) ∙ ap lengths_in same ∙ lengths_are p.position p.handle 0 p.lengths in
    let pick = p.some in
    let some : 0 < added_up x.lengths = (let l = ap added_up lengths in omega (arith, l, pick)) in
    let position : x.position ≡ p.position = sym (position_is_lem x.position x.handle 0 x.lengths some) ∙ ap position_in same ∙ position_is_lem p.position p.handle 0 p.lengths p.some in
    let handle : x.handle ≡ p.handle = sym (handle_is x.position x.handle 0 x.lengths some) ∙ ap handle_in same ∙ handle_is p.position p.handle 0 p.lengths p.some in
    let done : List PendingRead = came.done ++ q ∷ [] in
    let parted : came.done ++ k.reads ≡ done ++ rest = ap (λ (rs : List PendingRead). came.done ++ rs) reads ∙ sym (append_assoc came.done (q ∷ []) rest) in
    let own_all : into x.sink done ++ into x.sink rest ≡ own_reads c.number x.position x.sink x.handle 0 x.lengths = sym (into_append x.sink done rest) ∙ ap (into x.sink) (sym parted) ∙ x.own in
    let numbers : OfNumber c.number (into x.sink rest) = number_right c.number (into x.sink done) (into x.sink rest) (subst (OfNumber c.number) (sym own_all) (own_number c.number x.position x.sink x.handle 0 x.lengths)) in
    let none : into x.sink rest ≡ [] = nothing_left_lem c.number x.sink rest numbers (not-true (list_any (λ r. eqb r.number c.number) rest) whole) in
    let own : into x.sink done ≡ own_reads c.number p.position x.sink p.handle 0 p.lengths =
    sym (append-nil (into x.sink done)) ∙ ap (λ (rs : List PendingRead). into x.sink done ++ rs) (sym none) ∙ own_all ∙ (λ i. own_reads c.number (position i) x.sink (handle i) 0 (lengths i)) in
    let few = few_regions opened es in
    let low = x.below in
    let z : SinkOf = record { number = c.number; position = p.position; sink = x.sink; handle = p.handle; region = p.region; sink_fits = omega (arith, few, low); handle_fits = p.handle_fits; region_fits = p.region_fits } in
    let below : SinksBelow 4294967296 done =
    below_more (1 + length k.regions) 4294967296 done (omega (arith, few)) (below_left (1 + length k.regions) done rest (subst (λ (rs : List PendingRead). SinksBelow (1 + length k.regions) rs) parted came.kept.sinks)).0 in
    let old : List ℕ = replicate (added_up x.lengths) 0 in
    let size = p.size in
    let start : IsFilled 0 p.region old = record { size = (let a = length-replicate {A = ℕ} (added_up x.lengths) 0 in let l = ap added_up lengths in omega (arith, a, l, size)); front = refl } in
    let laid : bytes_after_segments x.sink old (responses_of came.others) ≡ p.region =
    filled z (client opened link run).state.regions p.holds done came.others 0 p.lengths old came.requests came.holds own below (omega (arith, size)) start in
    let good = subst (λ (ev : List RunEvent). GoesOn (server_rules opened) ServerGood 0 (initial_server opened) ev) all (server_good opened link run typed asked served matched) in
    let settled = settled_along opened es (first_preserve (server_rules opened) ServerGood 0 (initial_server opened) es (FrameReceived f ∷ more) good) in
    let next = later_preserve (server_rules opened) ServerGood 0 (initial_server opened) es (FrameReceived f ∷ more) good in
    let fine = accesses_settled (places_after 0 es) k f segment (let n = next.0.1 in omega (arith, n)) allowed settled in
    let r = x.region some in
    ap (λ (s : ℕ). region_bytes (region_grants f.end k.regions) k.regions (k.accesses_received ++ tagged_access f segment) s) (ap (λ (n : ℕ). sink_of k.regions c.number n) (sym position) ∙ x.found some)
    ∙ held_parts f.end x.sink k.regions (k.accesses_received ++ tagged_access f segment) r.region fine r.there r.own
    ∙ (λ i. after_parts x.sink (r.holds i) (came.parts i))
    ∙ laid_tagged x.sink old came.outs ∙ ap (λ (ss : List Segment). bytes_after_segments x.sink old ss) came.tagged ∙ laid
