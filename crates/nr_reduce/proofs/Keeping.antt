-- What a client keeps is enough to judge a message, to answer a Read Request, and to answer a call.
use Rattle.std.proofs.Common.{◌≡◌, ℕ, ◌-◌, Bool, cond, leb, List, [], ◌∷◌, ◌++◌, length, take, drop, Option, None, Some, Result, Ok, Err, refl, sym, ap, subst, ◌∙◌, arith}
use Rattle.nr_regions.specs.declared.denied.Denied.TheVariants as denied
use Rattle.nr_regions.specs.declared.right.Right.TheVariants.{Fetch}
use Rattle.nr_regions.specs.RegisteredMemory.{Region as HeldRegion, RegisteredMemory, Access, live_region, denial, denial_in, region_offer, bytes_in}
use Rattle.nr_regions.specs.Access.{contents}
use Rattle.nr_link.specs.declared.end.End.{End}
use Rattle.nr_link.specs.Output.{read_response}
use Rattle.nr_reduce.specs.declared.call.Call.{Call}
use Rattle.nr_reduce.specs.declared.call.Form.{Form}
use Rattle.nr_reduce.specs.declared.call.Refused.TheVariants as refusals
use Rattle.nr_reduce.specs.declared.call.Submission.{Submission}
use Rattle.nr_reduce.specs.declared.call.Submission.TheVariants as submissions
use Rattle.nr_reduce.specs.declared.mark.LinkParameters.{LinkParameters}
use Rattle.nr_reduce.specs.declared.outline.Plan.{Plan}
use Rattle.nr_reduce.specs.Limits.{numbers_end}
use Rattle.nr_reduce.specs.Plans.{TooLarge, regions_needed, plan_of}
use Rattle.nr_reduce.specs.OfferedRegions.{Region, region_grants, region_bytes, region_bytes_by}
use Rattle.nr_reduce.specs.OfferedMemory.{region_at, HoldsRegions, held_if_open, registered_region}
use Rattle.nr_reduce.specs.EndRules.{EndState, live}
use Rattle.nr_reduce.specs.ClientState.{OutstandingCall, ClientState, call_payload, plan_for, client_memory_at, WaitingCall, plan_unless, first_of}
use Rattle.nr_reduce.specs.SubmitAnswer.{unless_spent, by_plan, answer_by, submit_answer, calls_counted, unless_far_by, least_xid}
use Rattle.nr_reduce.specs.KeptCalls.{KeptCall, AreKept, numbered_from, numbered_calls}
use Rattle.nr_reduce.specs.KeptClient.{KeptClient, ClientKeeps, CallsKeep, MemoryKeeps, AreRising, bytes_under}
use Rattle.nr_reduce.specs.StandingLaws.{KeptJudges, KeptResponds, KeptAnswers, KeptCounts, least_kept, kept_answer_by_plan, kept_answer_if}
use Rattle.nr_reduce.proofs.MemorySteps.{holds_later}
use Rattle.nr_reduce.proofs.Conveying.{message_alike}
use Rattle.nr_regions.proofs.Holding.{live_parts}
use Rattle.std.proofs.lemmas.Bool.{ne_eqb}
use Rattle.nr_reduce.proofs.Numbered.{numbered_length}

-- ---- Messages

pub kept_judges : KeptJudges
kept_judges opened kept k count place named message keeps later few =
    let calls : CallsKeep kept.calls kept.next_xid k = keeps.calls refl in
    let memory : MemoryKeeps kept.memory k count = keeps.memory refl in
    message_alike k place kept.memory kept.calls named message calls.kept few
    (holds_later k.regions k.accesses_received count place kept.memory later keeps.accesses memory.holds) keeps.opens

-- ---- Read Requests

-- the bytes under an STag that may be read are those of the region
reached : (k : ClientState) (place : ℕ) (m : RegisteredMemory) (a : Access) → HoldsRegions k.regions k.accesses_received place m → denial m a ≡ None → bytes_under m a.stag ≡ client_memory_at k place a.stag
unfolding denial region_bytes
reached k place m a holds allowed = held_of (live_region m a.stag) refl ∙ by (region_at k.regions a.stag) refl
  where
    dead : live_region m a.stag ≡ None → ⊥
    dead none = (let wrong : Some denied.NoStag ≡ None = ap (λ (o : Option HeldRegion). denial_in (region_offer o) a) (sym none) ∙ allowed in cc)

    held_of : (o : Option HeldRegion) → live_region m a.stag ≡ o → bytes_under m a.stag ≡ bytes_in (live_region m a.stag)
    held_of None none = absurd (dead none)
    held_of (Some region) live = ap bytes_in ((live_parts m a.stag region live).1 ∙ sym live)

    held : (o : Option Region) → region_at k.regions a.stag ≡ o → live_region m a.stag ≡ registered_region (region_grants place k.regions) k.accesses_received o
    held o is = holds a.stag ∙ ap (λ (x : Option Region). registered_region (region_grants place k.regions) k.accesses_received x) is

    by_until : (r : Region) (u : Option ℕ) → r.until ≡ u → region_at k.regions a.stag ≡ Some r → bytes_in (live_region m a.stag) ≡ contents (region_grants place k.regions) r.stag r.bytes k.accesses_received
    by_until r None e is =
        ap bytes_in (held (Some r) is ∙ ap (λ (u : Option ℕ). held_if_open u (record { right = r.right; buf = contents (region_grants place k.regions) r.stag r.bytes k.accesses_received })) e)
    by_until r (Some until) e is =
        absurd (dead (held (Some r) is ∙ ap (λ (u : Option ℕ). held_if_open u (record { right = r.right; buf = contents (region_grants place k.regions) r.stag r.bytes k.accesses_received })) e))

    by : (o : Option Region) → region_at k.regions a.stag ≡ o → bytes_in (live_region m a.stag) ≡ region_bytes_by (region_grants place k.regions) k.accesses_received (region_at k.regions a.stag)
    by None is = absurd (dead (held None is))
    by (Some r) is = by_until r r.until refl is ∙ ap (λ (x : Option Region). region_bytes_by (region_grants place k.regions) k.accesses_received x) (sym is)

pub kept_responds : KeptResponds
kept_responds opened kept k count place r keeps later allowed =
    let memory : MemoryKeeps kept.memory k count = keeps.memory refl in
    let holds = holds_later k.regions k.accesses_received count place kept.memory later keeps.accesses memory.holds in
    ap (λ (bytes : List ℕ). read_response r.sink r.sink_to (take r.size (drop r.to bytes)))
    (sym (reached k place kept.memory (record { right = Fetch; stag = r.stag; to = r.to; len = r.size }) holds allowed))

-- ---- Calls

pub kept_count : (k : ClientState) (cs : List KeptCall) (os : List OutstandingCall) → AreKept k cs os → length cs ≡ length os
kept_count k [] [] is = refl
kept_count k [] (o ∷ os) is = absurd is
kept_count k (c ∷ cs) [] is = absurd is
kept_count k (c ∷ cs) (o ∷ os) is = (let rest = kept_count k cs os is.1 in omega (arith, rest))

-- the parts of an answer, one by one
answer_parts : Result Plan TooLarge → (grant count number : ℕ) → (least : Option ℕ) → (xid stag : ℕ) → Submission
answer_parts (Err large) grant count number least xid stag = submissions.Refused (refusals.TooLarge large.need large.room)
answer_parts (Ok plan) grant count number least xid stag =
    cond (leb grant count) (submissions.Refused (refusals.NoCredit count grant))
    (unless_far_by number xid least (unless_spent (numbers_end - xid) 1 (unless_spent (numbers_end - stag) (regions_needed plan) (submissions.Accepted xid))))

own_parts : (kept : KeptClient) (p : Result Plan TooLarge) → kept_answer_by_plan kept p ≡ answer_parts p kept.grant (length kept.calls) kept.number (least_kept kept.calls) kept.next_xid kept.memory.next
unfolding answer_parts
own_parts kept (Ok plan) = refl
own_parts kept (Err large) = refl

-- the least xid of the calls that are kept is that of the outstanding ones, or of those that wait
least_same : (k : ClientState) (n : ℕ) (cs : List KeptCall) (os : List OutstandingCall) (ws : List WaitingCall) → AreKept k cs (os ++ numbered_from n ws) → least_kept cs ≡ least_xid os ws
least_same k n [] [] [] is = refl
least_same k n [] [] (w ∷ ws) is = absurd is
least_same k n [] (o ∷ os) ws is = absurd is
least_same k n (c ∷ cs) [] [] is = absurd is
least_same k n (c ∷ cs) [] (w ∷ ws) is = ap (λ (xid : ℕ). Some xid) is.0.xid
least_same k n (c ∷ cs) (o ∷ os) ws is = ap (λ (xid : ℕ). Some xid) is.0.xid

client_parts : (k : ClientState) (p : Result Plan TooLarge) → by_plan k p ≡ answer_parts p k.grant (calls_counted k) k.terms.number (least_xid k.outstanding k.waiting) k.next_xid k.stag
unfolding answer_parts
client_parts k (Ok plan) = refl
client_parts k (Err large) = refl

-- a new call has the plan for the lengths of the state: its xid is that of none that waits
waits_below : (k : ClientState) (n next : ℕ) (cs : List KeptCall) (os : List OutstandingCall) (ws : List WaitingCall) → AreRising cs next → AreKept k cs (os ++ numbered_from n ws) → first_of ws next ≡ None
waits_below k n next cs os [] rising is = refl
waits_below k n next [] [] (w ∷ ws) rising is = absurd is
waits_below k n next (c ∷ cs) [] (w ∷ ws) rising is =
    ap (λ (b : Bool). cond b (Some w) None) (ne_eqb w.xid next (λ e. (let lt = rising.0 in let own = is.0.xid in omega (arith, lt, own, e))))
waits_below k n next [] (o ∷ os) (w ∷ ws) rising is = absurd is
waits_below k n next (c ∷ cs) (o ∷ os) (w ∷ ws) rising is = waits_below k n next cs os (w ∷ ws) rising.1.1 is.1

plan_same : (k : ClientState) (xid : ℕ) (call : Call) (form : Form) → first_of k.waiting xid ≡ None → plan_of (call_payload xid call) form k.up_max k.down_max ≡ plan_for k xid call form
unfolding plan_for
plan_same k xid call form none = sym (ap (λ (o : Option WaitingCall). plan_unless o (plan_of (call_payload xid call) form k.up_max k.down_max)) none)

answer_live : (opened : LinkParameters) (kept : KeptClient) (k : ClientState) (count : ℕ) (call : Call) (form : Form) → ClientKeeps opened kept (live k) count →
    kept_answer_by_plan kept (plan_of (call_payload kept.next_xid call) form kept.up_max kept.down_max) ≡ by_plan k (plan_for k k.next_xid call form)
answer_live opened kept k count call form keeps =
    let memory : MemoryKeeps kept.memory k count = keeps.memory refl in
    let calls : CallsKeep kept.calls kept.next_xid k = keeps.calls refl in
    let counted : length kept.calls ≡ calls_counted k = kept_count k kept.calls (numbered_calls k) calls.kept ∙ numbered_length k in
    let below : first_of k.waiting k.next_xid ≡ None = waits_below k k.sends k.next_xid kept.calls k.outstanding k.waiting (subst (λ (n : ℕ). AreRising kept.calls n) keeps.xid calls.rising) calls.kept in
    own_parts kept (plan_of (call_payload kept.next_xid call) form kept.up_max kept.down_max)
    ∙ (λ i. answer_parts (plan_of (call_payload (keeps.xid i) call) form (keeps.up i) (keeps.down i)) (keeps.grant i) (counted i) (keeps.opening.0 i)
    (least_same k k.sends kept.calls k.outstanding k.waiting calls.kept i) (keeps.xid i) (memory.next i))
    ∙ sym (client_parts k (plan_of (call_payload k.next_xid call) form k.up_max k.down_max))
    ∙ ap (by_plan k) (plan_same k k.next_xid call form below)

answer_if : (opened : LinkParameters) (kept : KeptClient) (e : EndState ClientState) (count : ℕ) (call : Call) (form : Form) → ClientKeeps opened kept e count → (x : Option End) → e.ended ≡ x →
    kept_answer_if kept call form x ≡ answer_by e.state call form x
answer_if opened kept e count call form keeps (Some end) is = refl
answer_if opened kept e count call form keeps None is =
    answer_live opened kept e.state count call form (subst (λ (y : Option End). ClientKeeps opened kept (record { state = e.state; ended = y }) count) is keeps)

pub kept_answers : KeptAnswers
unfolding submit_answer
kept_answers opened kept e count call form keeps =
    ap (kept_answer_if kept call form) keeps.ended ∙ answer_if opened kept e count call form keeps e.ended refl

pub kept_counts : KeptCounts
kept_counts opened kept e count keeps = (
  keeps.outstanding ∙ numbered_length e.state,
  (keeps.grant, λ lives. (let calls : CallsKeep kept.calls kept.next_xid e.state = keeps.calls lives in kept_count e.state kept.calls (numbered_calls e.state) calls.kept ∙ sym keeps.outstanding)),
)
