-- A link of which there are no marks.
use Rattle.std.specs.Prelude.{◌||◌, ◌&&◌, not}
use Rattle.std.specs.List.{AllByRecursion, filter, list_any}
use Rattle.std.proofs.Common.{◌≡◌, ◌≢◌, ℕ, true, false, eqb, List, [], ◌∷◌, ◌++◌, map, Option, None, Some, refl, ap, sym, subst, ◌∙◌, append-nil, append_assoc}
use Rattle.std.proofs.lemmas.Bool.{ne_eqb}
use Rattle.nr_reduce.specs.Events.{events}
use Rattle.nr_wire.specs.declared.hello.Side.TheVariants.{Initiator, Responder}
use Rattle.nr_link.specs.Agreement.{terms_with}
use Rattle.nr_link.specs.declared.end.End.{End}
use Rattle.nr_reduce.specs.ClientState.{waiting_from}
use Rattle.nr_reduce.specs.History.{AcceptedCall, accepted_calls, is_dropped, completed_calls}
use Rattle.nr_reduce.specs.Opening.{ServerOpened}
use Rattle.nr_reduce.specs.Reopening.{reopened}
use Rattle.nr_reduce.specs.Run.{client}
use Rattle.nr_reduce.specs.declared.mark.LinkParameters.{LinkParameters}
use Rattle.nr_reduce.specs.declared.mark.Mark.{Mark}
use Rattle.nr_reduce.specs.declared.mark.ResumedCall.{ResumedCall}
use Rattle.nr_requester.specs.Reopening.{HasNoMark, link_of as mark_link}
use Rattle.nr_responder.specs.ResponderState.{ResponderSide, end_of}
use Rattle.nr_responder.specs.Standing.{RepresentsServer}
use Rattle.nr_texts.specs.declared.opening.Opening.{Opening}
use Rattle.nr_drill.specs.Drill.{Setting, client_of, link_of, settles}
use Rattle.nr_drill.proofs.Carried.{not_drop}
use Rattle.nr_drill.proofs.Followed.{no_event, unconcerned}
use Rattle.nr_world.specs.LinkStands.{as_waiting, due_calls, settles_elsewhere, waiting_calls}
use Rattle.nr_world.specs.Steps.{OpensServerSo}
use Rattle.nr_world.proofs.Apart.{not_accepted, not_given_up}
use Rattle.nr_world.proofs.CallLines.{due_still, waits_same}
use Rattle.nr_world.proofs.WaitingCalls.{leaves_calls}
use Rattle.nr_world.proofs.Writes.{server_stays}
use Rattle.nr_link.specs.declared.end.End.TheVariants as ends
use Rattle.nr_reduce.specs.declared.mark.Mark.TheVariants as marks

abbrev pub NoneOf : ℕ → List Mark → Type 0
NoneOf link run = AllByRecursion (λ (mark : Mark). link_of mark ≢ link) run

pub lives_on : (o : Option End) → o ≡ None → o ≢ Some ends.Memory
lives_on o none e = absurd (let no = sym none ∙ e in cc)

-- ---- Its server

pub server_over : (o : LinkParameters) (link : ℕ) (before more : List Mark) (v : ResponderSide) → NoneOf link more → end_of v ≢ Some ends.Memory → RepresentsServer o link before v → RepresentsServer o link (before ++ more) v
server_over o link before [] v none memory h = subst (λ (run : List Mark). RepresentsServer o link run v) (sym (append-nil before)) h
server_over o link before (mark ∷ more) v none memory h =
    subst (λ (run : List Mark). RepresentsServer o link run v) (append_assoc before (mark ∷ []) more)
    (server_over o link (before ++ mark ∷ []) more v none.1 memory (server_stays o link before v mark (unconcerned link Responder mark none.0) memory h))

-- it isn't dropped
pub stands_still : (link : ℕ) (run : List Mark) → NoneOf link run → is_dropped link run ≡ false
stands_still link [] none = refl
stands_still link (mark ∷ run) none = (λ i. not_drop link mark none.0 i || stands_still link run none.1 i)

-- the next link's server is opened as that of the link before it, which is as the first line says
pub opened_so : (opening : Opening) (o : LinkParameters) (link : ℕ) (run : List Mark) (next : LinkParameters) → next ≡ reopened o link run → OpensServerSo opening o →
    ServerOpened next opening.credits opening.credits (terms_with opening.server_units opening.invalidates)
unfolding reopened
opened_so opening o link run next is so = (
  ap (λ (p : LinkParameters). p.granted) is ∙ so.granted,
  ap (λ (p : LinkParameters). p.receives) is ∙ so.receives,
  ap (λ (p : LinkParameters). p.server) is ∙ so.server,
  ap (λ (p : LinkParameters). p.low) is ∙ so.low,
)

pub next_server : (opening : Opening) (o : LinkParameters) (link : ℕ) (run : List Mark) → OpensServerSo opening o → OpensServerSo opening (reopened o link run)
unfolding reopened
next_server opening o link run so = record { granted = so.granted; low = so.low; receives = so.receives; server = so.server }

-- ---- Its client

pub next_first : (o : LinkParameters) (link : ℕ) (run : List Mark) → (reopened o link run).first_xid ≡ (client o link run).state.next_xid
unfolding reopened
next_first o link run = refl

-- the link of a mark, as nr_requester has it
same_link : (mark : Mark) → mark_link mark ≡ link_of mark
same_link (marks.Submit l call form answer) = refl
same_link (marks.Wrote l side bytes) = refl
same_link (marks.Fed l side bytes) = refl
same_link (marks.Execute l xid moment payload place reply) = refl
same_link (marks.Done l xid outcome) = refl
same_link (marks.Lost l xid) = refl
same_link (marks.Forget l xid) = refl
same_link (marks.Revoke l xid bytes) = refl
same_link (marks.Drop l) = refl
same_link (marks.Told l what) = refl

pub no_mark_of : (link : ℕ) (run : List Mark) → NoneOf link run → HasNoMark link run
no_mark_of link [] none = tt
no_mark_of link (mark ∷ run) none = ((λ same. none.0 (sym (same_link mark) ∙ same)), no_mark_of link run none.1)

-- the calls that it was opened with
abbrev pub resumed_call : ResumedCall → AcceptedCall
resumed_call r = record { xid = r.xid; call = r.call; form = r.form }

abbrev pub next_calls : LinkParameters → List AcceptedCall
next_calls o = map resumed_call o.resumed

waits_from : (rs : List ResumedCall) (stag : ℕ) → map as_waiting (waiting_from stag rs) ≡ map resumed_call rs
waits_from [] stag = refl
waits_from (r ∷ rs) stag = ap (λ (cs : List AcceptedCall). resumed_call r ∷ cs) (waits_from rs _)

all_due : (cs : List AcceptedCall) → filter (λ (a : AcceptedCall). true) cs ≡ cs
all_due [] = refl
all_due (c ∷ cs) = ap (λ (rest : List AcceptedCall). c ∷ rest) (all_due cs)

waits_before : (o : LinkParameters) (link : ℕ) → waiting_calls o link [] ≡ next_calls o
unfolding client events
waits_before o link = waits_from o.resumed o.first_stag

due_before : (o : LinkParameters) (link : ℕ) → due_calls o link [] ≡ next_calls o
unfolding due_calls accepted_calls completed_calls
due_before o link = all_due (waiting_calls o link []) ∙ waits_before o link

waits_over : (o : LinkParameters) (link : ℕ) (before more : List Mark) → NoneOf link more → waiting_calls o link (before ++ more) ≡ waiting_calls o link before
waits_over o link before [] none = ap (λ (run : List Mark). waiting_calls o link run) (append-nil before)
waits_over o link before (mark ∷ more) none =
    ap (λ (run : List Mark). waiting_calls o link run) (sym (append_assoc before (mark ∷ []) more))
    ∙ waits_over o link (before ++ mark ∷ []) more none.1 ∙ waits_same o link before mark (no_event link Initiator before mark none.0)

due_over : (o : LinkParameters) (link : ℕ) (before more : List Mark) → NoneOf link more → due_calls o link (before ++ more) ≡ due_calls o link before
due_over o link before [] none = ap (λ (run : List Mark). due_calls o link run) (append-nil before)
due_over o link before (mark ∷ more) none =
    ap (λ (run : List Mark). due_calls o link run) (sym (append_assoc before (mark ∷ []) more))
    ∙ due_over o link (before ++ mark ∷ []) more none.1 ∙ due_still o link before mark (leaves_calls o link before mark (not_accepted link mark none.0)) (not_given_up link mark none.0)

pub waits_at_first : (o : LinkParameters) (link : ℕ) (run : List Mark) → NoneOf link run → waiting_calls o link run ≡ next_calls o
waits_at_first o link run none = waits_over o link [] run none ∙ waits_before o link

pub due_at_first : (o : LinkParameters) (link : ℕ) (run : List Mark) → NoneOf link run → due_calls o link run ≡ next_calls o
due_at_first o link run none = due_over o link [] run none ∙ due_before o link

-- all marks are of other links
pub elsewhere_all : (s : Setting) (link xid : ℕ) (run : List Mark) → NoneOf link run → list_any (settles s (client_of s link) xid) run ≡ list_any (settles_elsewhere s link xid) run
elsewhere_all s link xid [] none = refl
elsewhere_all s link xid (mark ∷ run) none =
    let other : eqb (link_of mark) link ≡ false = ne_eqb (link_of mark) link none.0 in
    (λ i. (not (sym other i) && settles s (client_of s link) xid mark) || elsewhere_all s link xid run none.1 i)
