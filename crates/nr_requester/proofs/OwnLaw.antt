-- A requester keeps the law of its side, so far.
use Rattle.std.proofs.Common.{ℕ, List, [], ◌++◌, take, drop, refl, sym, subst, ◌∙◌, append-nil, take-append-drop}
use Rattle.nr_wire.specs.declared.hello.Side.TheVariants.{Initiator}
use Rattle.nr_reduce.specs.declared.call.Submission.TheVariants as submissions
use Rattle.nr_reduce.specs.declared.mark.Mark.{Mark}
use Rattle.nr_reduce.specs.declared.mark.Mark.TheVariants as marks
use Rattle.nr_reduce.specs.Asked.{AskedMark}
use Rattle.nr_reduce.specs.Matched.{IsPrefixOf}
use Rattle.nr_reduce.specs.Credits.{WithinGrant}
use Rattle.nr_reduce.specs.Standing.{ClientRepresents, ClientRunsOut}
use Rattle.nr_reduce.proofs.Standing.{AtEachMark_more, client_queue_lem}
use Rattle.nr_reduce.proofs.Submitting.{accepted_keeps}
use Rattle.nr_reduce.proofs.Unconcerned.{none_asked, none_granted}
use Rattle.nr_reduce.proofs.Unresumed.{none_waits}
use Rattle.nr_requester.specs.RequesterState.{queue_of, kept_client, input_kept}
use Rattle.nr_requester.specs.Laws.{SubmitKeepsLaw, DrainKeepsLaw, DrainOutKeepsLaw, QueueIsAllDue, RefusedKeepsLaw, PieceKeepsLaw, DrainKeepsGrant, LawBegins, OthersKeepLaw}
use Rattle.nr_requester.proofs.Accepting.{answers_as_client}

pub submit_keeps_law : SubmitKeepsLaw
submit_keeps_law opened link h run call form xid s answer numbers writable asked grant =
    let mark : Mark = marks.Submit link call form (submissions.Accepted xid) in
    let kept = accepted_keeps opened link run call form xid (sym (answers_as_client opened link h run call form s) ∙ answer) (none_waits opened link run s.first.resumed) numbers asked writable in (
      AtEachMark_more (AskedMark IsPrefixOf opened link) [] run mark asked (λ same. kept.0),
      AtEachMark_more (WithinGrant opened link) [] run mark grant (λ same. kept.1),
    )

pub drain_keeps_law : DrainKeepsLaw
drain_keeps_law opened link h run n s asked =
    let queue : List ℕ = queue_of h.state in
    let parts : ClientRepresents opened link (kept_client h.state) (input_kept h) (take n queue ++ drop n queue) run =
    subst (λ (q : List ℕ). ClientRepresents opened link (kept_client h.state) (input_kept h) q run) (sym (take-append-drop n queue)) s.keeps.kept in
    AtEachMark_more (AskedMark IsPrefixOf opened link) [] run (marks.Wrote link Initiator (take n queue)) asked
    (λ same. ((client_queue_lem opened link (kept_client h.state) (input_kept h) (take n queue) (drop n queue) run run).0 parts).0)

pub drain_out_keeps_law : DrainOutKeepsLaw
drain_out_keeps_law opened link h stopped run n out asked =
    let queue : List ℕ = queue_of h.state in
    let parts : ClientRunsOut opened link (kept_client h.state) (take n queue ++ drop n queue) stopped run =
    subst (λ (q : List ℕ). ClientRunsOut opened link (kept_client h.state) q stopped run) (sym (take-append-drop n queue)) out.out in
    AtEachMark_more (AskedMark IsPrefixOf opened link) [] run (marks.Wrote link Initiator (take n queue)) asked
    (λ same. (client_queue_lem opened link (kept_client h.state) (input_kept h) (take n queue) (drop n queue) stopped run).1 parts)

pub queue_is_all_due : QueueIsAllDue
queue_is_all_due opened link h run s =
    let queue : List ℕ = queue_of h.state in
    let parts : ClientRepresents opened link (kept_client h.state) (input_kept h) (queue ++ []) run =
    subst (λ (q : List ℕ). ClientRepresents opened link (kept_client h.state) (input_kept h) q run) (sym (append-nil queue)) s.keeps.kept in
    ((client_queue_lem opened link (kept_client h.state) (input_kept h) queue [] run run).0 parts).1 refl

-- ---- Marks of which nothing is asked

pub refused_keeps_law : RefusedKeepsLaw
refused_keeps_law opened link run call form why asked grant =
    let mark : Mark = marks.Submit link call form (submissions.Refused why) in
    (AtEachMark_more (AskedMark IsPrefixOf opened link) [] run mark asked tt, AtEachMark_more (WithinGrant opened link) [] run mark grant tt)

pub piece_keeps_law : PieceKeepsLaw
piece_keeps_law opened link run piece asked grant =
    let mark : Mark = marks.Fed link Initiator piece in
    (AtEachMark_more (AskedMark IsPrefixOf opened link) [] run mark asked tt, AtEachMark_more (WithinGrant opened link) [] run mark grant tt)

pub drain_keeps_grant : DrainKeepsGrant
drain_keeps_grant opened link run bytes grant = AtEachMark_more (WithinGrant opened link) [] run (marks.Wrote link Initiator bytes) grant tt

pub law_begins : LawBegins
law_begins opened link = (tt, tt)

pub others_keep_law : OthersKeepLaw
others_keep_law opened link run mark none asked grant =
    (AtEachMark_more (AskedMark IsPrefixOf opened link) [] run mark asked (none_asked IsPrefixOf opened link run mark none), AtEachMark_more (WithinGrant opened link) [] run mark grant (none_granted opened link run mark none))
