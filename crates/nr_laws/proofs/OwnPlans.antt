-- The message of a plan whose form isn't given is never judged to have bad chunks; the reads that a pending call has are its own.
use Rattle.std.proofs.Common.{◌≡◌, ℕ, ◌+◌, ◌^◌, ◌≤◌, ◌<◌, Bool, true, false, cond, not, ◌||◌, eqb, List, [], ◌∷◌, ◌++◌, length, drop, Some, Ok, refl, sym, ap, subst, ◌∙◌, arith, length-append}
use Rattle.std.specs.List.{find, AllByRecursion}
use Rattle.nr_xdr.specs.Item.{IsBytes, word}
use Rattle.nr_xdr.specs.Items.{encodings}
use Rattle.nr_xdr.specs.Fields.{word_at}
use Rattle.nr_xdr.proofs.WordBytes.{length_word}
use Rattle.nr_rpc.specs.declared.head.CallHead.TheVariants.{Version2}
use Rattle.nr_rpc.specs.Credential.{auth_of, no_verifier}
use Rattle.nr_rpc.specs.Call.{version2_items, call_head}
use Rattle.nr_header.specs.Reading.{header_of}
use Rattle.nr_link.specs.Reasons.{REASON_KIND, REASON_CALL}
use Rattle.nr_reduce.specs.declared.call.Call.{Call}
use Rattle.nr_reduce.specs.declared.call.Form.{Form}
use Rattle.nr_reduce.specs.declared.call.Submission.TheVariants as submissions
use Rattle.nr_reduce.specs.declared.mark.Mark.{Mark}
use Rattle.nr_reduce.specs.declared.mark.Mark.TheVariants as marks
use Rattle.nr_reduce.specs.declared.mark.LinkParameters.{LinkParameters}
use Rattle.nr_reduce.specs.declared.outline.Plan.{Plan}
use Rattle.nr_reduce.specs.Plans.{plan_of, regions_needed, call_message}
use Rattle.nr_reduce.specs.ChunkBytes.{IsNotGiven}
use Rattle.nr_reduce.specs.ClientState.{call_payload}
use Rattle.nr_reduce.specs.ServerState.{ServerState, PendingCall, PendingRead, is_pending}
use Rattle.nr_reduce.specs.ServerMessages.{Verdict, verdict, by_header}
use Rattle.nr_reduce.specs.ServerMessages.Verdict.{EndsLink, OtherVersion, BadChunks}
use Rattle.nr_reduce.specs.Asked.{AskedSoFar}
use Rattle.nr_reduce.proofs.BadMessages.{need_fine}
use Rattle.nr_reduce.proofs.Opens.{opens_call}
use Rattle.nr_laws.proofs.HeaderXid.{call_xid_lem}
use Rattle.nr_laws.proofs.SubmittedPlans.{same_submit}
use Rattle.nr_laws.proofs.PendingReads.{IsOwn, AreOwn}

-- a call's payload isn't empty: it begins with the xid
pub payload_some : (xid : ℕ) (call : Call) → 0 < length (call_payload xid call)
unfolding call_payload
payload_some xid call =
    let rest : List ℕ = encodings (drop 1 (version2_items xid call.prog call.vers call.proc (auth_of call.cred) no_verifier)) in
    omega (arith, length-append (call_head (Version2 xid call.prog call.vers call.proc call.cred 0)) call.args, length-append (word xid) rest, length_word xid)

-- ---- Its message

free_by : (k : ServerState) (m : List ℕ) (a b c : Bool) (v : Verdict) → cond a OtherVersion (cond b (EndsLink REASON_KIND) (cond c (EndsLink REASON_CALL) v)) ≡ BadChunks → c ≡ false
free_by k m true b c v e = absurd cc
free_by k m false true c v e = absurd cc
free_by k m false false true v e = absurd cc
free_by k m false false false v e = refl

-- a message that is refused for its chunks has an xid that isn't pending
refused_free : (k : ServerState) (m : List ℕ) → verdict k m ≡ BadChunks → is_pending k (word_at 0 m) ≡ false
unfolding verdict
refused_free k m e = free_by k m (not (eqb (word_at 4 m) 1)) (eqb (word_at 12 m) 3 || eqb (word_at 12 m) 4) (is_pending k (word_at 0 m)) (by_header k m (header_of m)) e

pub plan_suits : (k : ServerState) (payload : List ℕ) (form : Form) (up down xid credit stag : ℕ) (p : Plan) → IsBytes payload → IsNotGiven form → plan_of payload form up down ≡ Ok p → 0 < length payload → xid < 2 ^ 32 → credit < 2 ^ 32
    → stag + regions_needed p ≤ 2 ^ 32 → verdict k (call_message xid credit stag p) ≡ BadChunks → ⊥
plan_suits k payload form up down xid credit stag p bytes own planned some small_x small_c room bad =
    let free : is_pending k xid ≡ false = ap (λ (x : ℕ). is_pending k x) (sym (call_xid_lem xid credit stag p (omega (arith, small_x)))) ∙ refused_free k (call_message xid credit stag p) bad in
    need_fine k _ (sym (opens_call k payload form up down xid credit stag p bytes own planned some small_x small_c room free) ∙ bad)

-- ---- Its stream

pub own_found : (reads : List PendingRead) (number : ℕ) (calls : List PendingCall) (c : PendingCall) → AreOwn reads calls → find (λ (x : PendingCall). eqb x.number number) calls ≡ Some c → AllByRecursion (IsOwn c) reads
own_found reads number [] c h e = absurd cc
own_found reads number (d ∷ calls) c h e = by (eqb d.number number) e (λ f. own_found reads number calls c h.1 f)
  where
    by : (b : Bool) → cond b (Some d) (find (λ (x : PendingCall). eqb x.number number) calls) ≡ Some c → (find (λ (x : PendingCall). eqb x.number number) calls ≡ Some c → AllByRecursion (IsOwn c) reads) → AllByRecursion (IsOwn c) reads
    by true e more = (let same : d ≡ c = (let t : Some d ≡ Some c = e in cc) in subst (λ (x : PendingCall). AllByRecursion (IsOwn x) reads) same h.0)
    by false e more = more e

-- ---- Its Submit

pub one_form : (opened : LinkParameters) (link : ℕ) (run early late rest others : List Mark) (call other : Call) (form way : Form) (xid yid : ℕ) → AskedSoFar opened link run → xid ≡ yid
    → run ≡ early ++ marks.Submit link call form (submissions.Accepted xid) ∷ rest → run ≡ late ++ marks.Submit link other way (submissions.Accepted yid) ∷ others → form ≡ way
one_form opened link run early late rest others call other form way xid yid asked_so same here again =
    let m = (same_submit opened link run early late rest others call other form way xid yid asked_so same here again).mark in
    cc
