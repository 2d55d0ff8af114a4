-- A call that was accepted under an xid is the one that is executed under it.
use Rattle.std.proofs.Common.{◌≡◌, ℕ, List, [], ◌∷◌, ◌++◌, refl, sym, ap, ◌∙◌, arith, append_assoc}
use Rattle.nr_reduce.specs.declared.call.Call.{Call}
use Rattle.nr_reduce.specs.declared.call.Form.{Form}
use Rattle.nr_reduce.specs.declared.call.Submission.TheVariants as submissions
use Rattle.nr_reduce.specs.declared.mark.Mark.{Mark}
use Rattle.nr_reduce.specs.declared.mark.Mark.TheVariants as marks
use Rattle.nr_reduce.specs.declared.mark.LinkParameters.{LinkParameters}
use Rattle.nr_reduce.specs.ClientState.{call_payload}
use Rattle.nr_reduce.specs.Asked.{AskedMark, AskedSoFar}
use Rattle.nr_reduce.specs.Served.{ServedMark}
use Rattle.nr_reduce.specs.Matched.{IsPrefixOf, MatchedMark}
use Rattle.nr_reduce.proofs.Placing.{xids_differ}
use Rattle.nr_laws.specs.Payloads.{form_conveyed, PayloadsAreOwn}
use Rattle.nr_laws.specs.Typed.{TypedMark}
use Rattle.nr_reduce.proofs.XidsFollow.{accepted_follows}
use Rattle.nr_laws.proofs.OnceByXid.{executed_at_lem, before_mark}
use Rattle.nr_laws.proofs.ExecutedReads.{read_call_lem}
use Rattle.nr_laws.proofs.Basics.{first_is_lem, rest_is_lem}
use Rattle.nr_reduce.specs.StandingLaws.{xid_of_send}

-- two positions of a list: one, or one after the other
data Places (pre : List Mark) (a : Mark) (post one : List Mark) (b : Mark) (two : List Mark) : Type 0 where
  AtOne : pre ≡ one → a ≡ b → Places pre a post one b two
  Behind : (between : List Mark) → post ≡ between ++ b ∷ two → Places pre a post one b two
  Before : (between : List Mark) → two ≡ between ++ a ∷ post → Places pre a post one b two

more_places : (x y : Mark) (pre : List Mark) (a : Mark) (post one : List Mark) (b : Mark) (two : List Mark) → x ≡ y → Places pre a post one b two → Places (x ∷ pre) a post (y ∷ one) b two
more_places x y pre a post one b two e (AtOne p q) = AtOne (λ i. e i ∷ p i) q
more_places x y pre a post one b two e (Behind between p) = Behind between p
more_places x y pre a post one b two e (Before between p) = Before between p

places : (pre : List Mark) (a : Mark) (post one : List Mark) (b : Mark) (two : List Mark) → pre ++ a ∷ post ≡ one ++ b ∷ two → Places pre a post one b two
places [] a post [] b two e = AtOne refl (first_is_lem a b post two e)
places [] a post (y ∷ one) b two e = Behind one (rest_is_lem a y post (one ++ b ∷ two) e)
places (x ∷ pre) a post [] b two e = Before pre (sym (rest_is_lem x b (pre ++ a ∷ post) two e))
places (x ∷ pre) a post (y ∷ one) b two e = more_places x y pre a post one b two (first_is_lem x y _ _ e) (places pre a post one b two (rest_is_lem x y _ _ e))

call_is_lem : (link xid : ℕ) (call other : Call) (form way : Form) → marks.Submit link call form (submissions.Accepted xid) ≡ marks.Submit link other way (submissions.Accepted xid) → (call ≡ other) × (form ≡ way)
call_is_lem link xid call other form way e = (cc, cc)

-- a run has one accepted Submit of an xid
record IsOneSubmit (pre : List Mark) (call : Call) (form : Form) (one : List Mark) (other : Call) (way : Form) : Type 0 where
  before : pre ≡ one
  call_is : call ≡ other
  form_is : form ≡ way

one_submit : (opened : LinkParameters) (link : ℕ) (run pre post one two : List Mark) (call other : Call) (form way : Form) (xid : ℕ) → AskedSoFar opened link run
    → run ≡ pre ++ marks.Submit link call form (submissions.Accepted xid) ∷ post → run ≡ one ++ marks.Submit link other way (submissions.Accepted xid) ∷ two → IsOneSubmit pre call form one other way
one_submit opened link run pre post one two call other form way xid asked p q = by (places pre a post one b two (sym p ∙ q))
  where
    a : Mark
    a = marks.Submit link call form (submissions.Accepted xid)

    b : Mark
    b = marks.Submit link other way (submissions.Accepted xid)

    by : Places pre a post one b two → IsOneSubmit pre call form one other way
    by (AtOne same mark) = (let c = call_is_lem link xid call other form way mark in record { before = same; call_is = c.0; form_is = c.1 })
    by (Behind between is) = absurd (let lt = xids_differ IsPrefixOf opened link run pre between two call other form way xid xid (p ∙ ap (λ (xs : List Mark). pre ++ a ∷ xs) is) asked in omega (arith, lt))
    by (Before between is) = absurd (let lt = xids_differ IsPrefixOf opened link run one between post other call way form xid xid (q ∙ ap (λ (xs : List Mark). one ++ b ∷ xs) is) asked in omega (arith, lt))

pub payloads_are_own : PayloadsAreOwn
payloads_are_own opened link run before xid plan moment payload place reply typed far has at =
    let execute = marks.Execute link xid moment payload place reply in
    let a = executed_at_lem opened link run before at.after xid moment payload place reply typed far at.is in
    let r = read_call_lem opened link before xid payload (before_mark TypedMark run before execute at.after at.is typed) (before_mark (AskedMark IsPrefixOf opened link) run before execute at.after at.is far.asked)
    (before_mark (ServedMark IsPrefixOf opened link) run before execute at.after at.is far.served) (before_mark (MatchedMark link) run before execute at.after at.is far.matched) a.executed in
    let w = r.submitted in
    let y = a.submit.submitted in
    let asked = before_mark (AskedMark IsPrefixOf opened link) run before execute at.after at.is far.asked in
    let p = accepted_follows opened link w.earlier _ _ _ (before_mark (AskedMark IsPrefixOf opened link) before w.earlier (marks.Submit link w.call w.form (submissions.Accepted w.xid)) w.later w.is asked) w.accepted in
    let q = accepted_follows opened link y.earlier _ _ _ (before_mark (AskedMark IsPrefixOf opened link) before y.earlier (marks.Submit link y.call y.form (submissions.Accepted y.xid)) y.later y.is asked) y.accepted in
    let x = a.submit.own_xid in
    let m = a.submit.number in
    let n = r.number_is in
    let c = w.counted in
    let own : w.xid ≡ xid = p ∙ ap (xid_of_send opened) (omega (arith, m, n, c)) ∙ sym q ∙ x in
    let whole : run ≡ w.earlier ++ marks.Submit link w.call w.form (submissions.Accepted w.xid) ∷ (w.later ++ execute ∷ at.after) =
    at.is ∙ ap (λ (xs : List Mark). xs ++ execute ∷ at.after) w.is ∙ append_assoc w.earlier (marks.Submit link w.call w.form (submissions.Accepted w.xid) ∷ w.later) (execute ∷ at.after) in
    let there : run ≡ w.earlier ++ marks.Submit link w.call w.form (submissions.Accepted xid) ∷ (w.later ++ execute ∷ at.after) =
    whole ∙ ap (λ (y : ℕ). w.earlier ++ marks.Submit link w.call w.form (submissions.Accepted y) ∷ (w.later ++ execute ∷ at.after)) own in
    let one = one_submit opened link run w.earlier (w.later ++ execute ∷ at.after) has.before has.at.after w.call has.call w.form has.form xid far.asked there has.at.is in
    (λ i. form_conveyed (sym one.form_is i) (call_payload (sym own i) (sym one.call_is i))) ∙ r.conveyed
