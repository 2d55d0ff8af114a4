-- On a matched link the payload of an Execute is of bytes, and has the RPC call head of the call that was accepted under its xid.
use Rattle.std.proofs.Common.{◌≡◌, ℕ, Bool, true, false, cond, eqb, List, [], ◌∷◌, ◌++◌, take, drop, replicate, Option, None, Some, Ok, refl, subst, ◌∙◌, arith}
use Rattle.std.specs.Prelude.{sum}
use Rattle.nr_xdr.specs.Item.{IsBytes, pad_len}
use Rattle.nr_xdr.proofs.WordBytes.{IsBytes_take, IsBytes_drop}
use Rattle.nr_rpc.specs.declared.head.CallHead.TheVariants as calls
use Rattle.nr_rpc.specs.Reading.{call_of}
use Rattle.nr_reduce.specs.declared.call.Call.{Call}
use Rattle.nr_reduce.specs.declared.call.Form.{Form}
use Rattle.nr_reduce.specs.declared.call.Form.TheVariants as forms
use Rattle.nr_reduce.specs.declared.call.Submission.TheVariants as submissions
use Rattle.nr_reduce.specs.declared.item.Item.{Item}
use Rattle.nr_reduce.specs.declared.item.Of.TheVariants as items
use Rattle.nr_outside.specs.declared.moment.Moment.{Moment}
use Rattle.nr_reduce.specs.declared.mark.Mark.{Mark}
use Rattle.nr_reduce.specs.declared.mark.Mark.TheVariants as marks
use Rattle.nr_reduce.specs.declared.mark.LinkParameters.{LinkParameters}
use Rattle.nr_reduce.specs.declared.outline.Plan.{Plan}
use Rattle.nr_reduce.specs.Items.{item_of, restored_payload}
use Rattle.nr_reduce.specs.Plans.{given_region}
use Rattle.nr_reduce.specs.Chunks.{whole}
use Rattle.nr_reduce.specs.PayloadLaws.{moved_by, given_conveyed}
use Rattle.nr_reduce.specs.ClientState.{call_payload}
use Rattle.nr_reduce.specs.Matched.{IsPrefixOf}
use Rattle.nr_reduce.specs.Asked.{AskedMark, IsAccepted}
use Rattle.nr_reduce.specs.Served.{ServedMark, IsExecuted}
use Rattle.nr_reduce.proofs.Calls.{executed_head}
use Rattle.nr_laws.specs.MarkAt.{MarkAt}
use Rattle.nr_laws.specs.MatchedSoFar.{MatchedSoFar}
use Rattle.nr_laws.specs.Typed.{TypedMark, IsTyped}
use Rattle.nr_laws.specs.Payloads.{HasPlan, form_conveyed}
use Rattle.nr_laws.proofs.Bytes.{bytes_both}
use Rattle.nr_laws.proofs.OnceByXid.{at_mark}
use Rattle.nr_laws.proofs.OwnHeads.{own_head_lem}
use Rattle.nr_laws.proofs.CallTargets.{bytes_zeros, bytes_region, item_by_lem, conveyed_head}
use Rattle.nr_laws.proofs.OwnPayloads.{payloads_are_own}
use Rattle.nr_laws.proofs.Basics.{some_is_lem}

-- ---- What a form conveys is of bytes

restored_bytes : (i : Item) (stream moved : List ℕ) → IsBytes stream → IsBytes moved → IsBytes (restored_payload i stream moved)
unfolding restored_payload
restored_bytes i stream moved fits bytes =
    bytes_both (take i.pos stream) (take i.len moved ++ (replicate (pad_len i.len) 0 ++ drop i.pos stream)) (IsBytes_take i.pos stream fits)
    (bytes_both (take i.len moved) (replicate (pad_len i.len) 0 ++ drop i.pos stream) (IsBytes_take i.len moved bytes)
    (bytes_both (replicate (pad_len i.len) 0) (drop i.pos stream) (bytes_zeros (pad_len i.len)) (IsBytes_drop i.pos stream fits)))

whole_bytes_lem : (stream region q : List ℕ) (lengths : List ℕ) → IsBytes stream → IsBytes region → whole items.Call stream (moved_by lengths region) ≡ Some q → IsBytes q
whole_bytes_lem stream region q [] fits bytes e = subst IsBytes (some_is_lem stream q e) fits
whole_bytes_lem stream region q (n ∷ lengths) fits bytes e =
    let i = item_by_lem stream region q (item_of items.Call stream) e in
    subst IsBytes i.2 (restored_bytes i.0 stream region fits bytes)

given_bytes : (own q : List ℕ) (at : ℕ) (o : Option (List ℕ)) → IsBytes own → given_conveyed own at o ≡ Some q → IsBytes q
given_bytes own q at None fits e = subst IsBytes (some_is_lem own q e) fits
given_bytes own q at (Some lengths) fits e = by (eqb at 0) e
  where
    region : List ℕ
    region = given_region own at (sum lengths)

    by : (b : Bool) → cond b (Some region) (whole items.Call (take at own) (moved_by lengths region)) ≡ Some q → IsBytes q
    by true e = subst IsBytes (some_is_lem region q e) (bytes_region own at (sum lengths) fits)
    by false e = whole_bytes_lem (take at own) region q lengths (IsBytes_take at own fits) (bytes_region own at (sum lengths) fits) e

pub conveyed_bytes : (form : Form) (own q : List ℕ) → IsBytes own → form_conveyed form own ≡ Some q → IsBytes q
conveyed_bytes forms.Auto own q fits e = subst IsBytes (some_is_lem own q e) fits
conveyed_bytes forms.Inline own q fits e = subst IsBytes (some_is_lem own q e) fits
conveyed_bytes forms.Chunk own q fits e = subst IsBytes (some_is_lem own q e) fits
conveyed_bytes forms.Long own q fits e = subst IsBytes (some_is_lem own q e) fits
conveyed_bytes (forms.Given offer) own q fits e = given_bytes own q offer.read_at offer.read fits e

-- ---- An Execute

-- the payload is of bytes, and has the call head of the call's own
pub record IsOwnPayload (xid : ℕ) (call : Call) (payload : List ℕ) : Type 0 where
  pub bytes : IsBytes payload
  pub args_at : ℕ
  pub head : call_of payload ≡ Ok (calls.Version2 xid call.prog call.vers call.proc call.cred args_at)

pub own_executes : (opened : LinkParameters) (link : ℕ) (run before : List Mark) (xid : ℕ) (plan : Plan) (moment : Moment) (payload : List ℕ) (place : ℕ) (reply : List ℕ) → IsTyped run → MatchedSoFar opened link run
    → (has : HasPlan opened link run xid plan) → MarkAt run before (marks.Execute link xid moment payload place reply) → IsOwnPayload xid has.call payload
own_executes opened link run before xid plan moment payload place reply typed far has at =
    let submit = marks.Submit link has.call has.form (submissions.Accepted xid) in
    let execute = marks.Execute link xid moment payload place reply in
    let accepted : IsAccepted opened link has.before has.call has.form xid = at_mark (AskedMark IsPrefixOf opened link) run has.before submit has.at.after has.at.is far.asked refl in
    let executed : IsExecuted opened link before xid payload = at_mark (ServedMark IsPrefixOf opened link) run before execute at.after at.is far.served refl in
    let small = accepted.xids in
    let typed_at : TypedMark has.before submit = at_mark TypedMark run has.before submit has.at.after has.at.is typed in
    let conveyed = payloads_are_own opened link run before xid plan moment payload place reply typed far has at in
    let own = own_head_lem xid has.call (omega (arith, small)) typed_at.2 accepted.writable in
    let head = executed_head opened link before xid payload executed in
    record {
      bytes = conveyed_bytes has.form (call_payload xid has.call) payload typed_at.0 conveyed;
      args_at = own.args_at;
      head = conveyed_head has.form (call_payload xid has.call) payload (calls.Version2 xid has.call.prog has.call.vers has.call.proc has.call.cred own.args_at) head.0 typed_at.0 own.is conveyed head.1.0 ∙ own.is;
    }
