-- A responder keeps the law of its side.
use Rattle.std.proofs.Common.{◌≡◌, ℕ, Bool, List, [], ◌++◌, take, None, refl, sym, ap, subst, ◌∙◌, inl, inr}
use Rattle.nr_wire.specs.declared.hello.Side.TheVariants.{Initiator, Responder}
use Rattle.nr_link.specs.Input.{InputState, initial_input, input_count, input_frames}
use Rattle.nr_reduce.specs.declared.mark.Mark.{Mark}
use Rattle.nr_reduce.specs.declared.mark.Mark.TheVariants as marks
use Rattle.nr_reduce.specs.History.{bytes_sent}
use Rattle.nr_reduce.specs.Matched.{IsPrefixOf}
use Rattle.nr_reduce.specs.Asked.{IsAll}
use Rattle.nr_reduce.specs.Served.{ServedMark}
use Rattle.nr_reduce.specs.Server.{initial_server}
use Rattle.nr_reduce.specs.Run.{output_due}
use Rattle.nr_reduce.specs.Standing.{ServerRepresents, ServerRunsOut, input_events}
use Rattle.nr_reduce.proofs.Standing.{AtEachMark_more, server_queue_lem}
use Rattle.nr_reduce.proofs.Unconcerned.{no_mark_events, none_fed, none_served, none_written, not_fed, not_judged}
use Rattle.nr_endpoint.specs.SendQueue.{SendQueue, writable, written}
use Rattle.nr_endpoint.specs.LinkState.{LinkSide}
use Rattle.nr_responder.specs.ResponderState.{queue, queued_bytes, end_of, may_write}
use Rattle.nr_responder.specs.Keeping.{Begins, KeepsEnd}
use Rattle.nr_responder.specs.Keeping.Begins.{BeforeHello, AfterHello}
use Rattle.nr_responder.specs.Standing.{ResponderRepresents}
use Rattle.nr_responder.specs.Laws.{IsOfOthers, OthersLeaveIt, LawBegins, OthersKeepLaw, PieceKeepsLaw, ExecuteKeepsLaw, ToldKeepsLaw, DrainKeepsLaw, FullBegins, OthersKeepFull, PieceKeepsFull, ExecuteKeepsFull, ToldKeepsFull, QueueIsAllDue, AllMayBeWritten, DrainKeepsFull}
use Rattle.nr_responder.proofs.Drained.{split_queue}
use Rattle.nr_responder.proofs.Marks.{no_event_represents, stays_out}

-- ---- A mark of others

-- it is no event of the server
no_input_events : (link : ℕ) (input : InputState) (mark : Mark) → IsOfOthers link mark → input_events link Responder input mark ≡ []
no_input_events link input mark other = no_mark_events link Responder (input_count input) (input_frames input) mark (not_judged link Responder mark other) (not_fed link Responder mark other)

pub others_leave_it : OthersLeaveIt
others_leave_it opened link v run mark other (inl h) =
    inl (no_event_represents opened link run v mark (none_fed link Responder mark (not_fed link Responder mark other)) (none_written link Responder mark (not_judged link Responder mark other)) (λ input. no_input_events link input mark other) h)
others_leave_it opened link v run mark other (inr out) =
    inr (stays_out opened link run v v mark out refl (record { calls = refl; ready = refl; credits = refl }) refl (ap (λ (bytes : List ℕ). bytes ++ queue v) (none_written link Responder mark (not_judged link Responder mark other))))

-- ---- The law of a mark

pub law_begins : LawBegins
law_begins opened link = tt

pub others_keep_law : OthersKeepLaw
others_keep_law opened link run mark other served = AtEachMark_more (ServedMark IsPrefixOf opened link) [] run mark served (none_served IsPrefixOf opened link run mark (not_judged link Responder mark other))

pub piece_keeps_law : PieceKeepsLaw
piece_keeps_law opened link run piece served = AtEachMark_more (ServedMark IsPrefixOf opened link) [] run (marks.Fed link Responder piece) served tt

pub execute_keeps_law : ExecuteKeepsLaw
execute_keeps_law opened link run xid moment payload place reply next served =
    AtEachMark_more (ServedMark IsPrefixOf opened link) [] run (marks.Execute link xid moment payload place reply) served (λ same. next)

pub told_keeps_law : ToldKeepsLaw
told_keeps_law opened link run what range served = AtEachMark_more (ServedMark IsPrefixOf opened link) [] run (marks.Told link what) served (λ same. range)

-- what is written of a queue, and what is left of it
pub drain_keeps_law : DrainKeepsLaw
drain_keeps_law opened link v run n within h served =
    AtEachMark_more (ServedMark IsPrefixOf opened link) [] run (marks.Wrote link Responder taken) served (λ same. by h)
  where
    q : SendQueue
    q = v.link.state.send_queue

    taken : List ℕ
    taken = take n (may_write v)

    left : List ℕ
    left = queued_bytes (written n q)

    parts : taken ++ left ≡ queue v
    parts = split_queue v.link.state.has_hello n q within

    by : ResponderRepresents opened link run v → IsPrefixOf (bytes_sent link Responder run ++ taken) (output_due opened link Responder run)
    by (inl s) =
        let represents_parts : ServerRepresents opened link s.end s.input (taken ++ left) run = subst (λ (bytes : List ℕ). ServerRepresents opened link s.end s.input bytes run) (sym parts) s.stands in
        ((server_queue_lem opened link s.end None s.input taken left run).0 represents_parts).0
    by (inr out) =
        let out_parts : ServerRunsOut opened link (end_of v) (taken ++ left) run = subst (λ (bytes : List ℕ). ServerRunsOut opened link (end_of v) bytes run) (sym parts) out.output in
        (server_queue_lem opened link (initial_server opened) (end_of v) (initial_input Initiator) taken left run).1 out_parts

-- ---- In full

pub full_begins : FullBegins
full_begins opened link = tt

pub others_keep_full : OthersKeepFull
others_keep_full opened link run mark other served = AtEachMark_more (ServedMark IsAll opened link) [] run mark served (none_served IsAll opened link run mark (not_judged link Responder mark other))

pub piece_keeps_full : PieceKeepsFull
piece_keeps_full opened link run piece served = AtEachMark_more (ServedMark IsAll opened link) [] run (marks.Fed link Responder piece) served tt

pub execute_keeps_full : ExecuteKeepsFull
execute_keeps_full opened link run xid moment payload place reply next served =
    AtEachMark_more (ServedMark IsAll opened link) [] run (marks.Execute link xid moment payload place reply) served (λ same. next)

pub told_keeps_full : ToldKeepsFull
told_keeps_full opened link run what range served = AtEachMark_more (ServedMark IsAll opened link) [] run (marks.Told link what) served (λ same. range)

pub queue_is_all_due : QueueIsAllDue
queue_is_all_due opened link v run s = s.stands.output

all_writable : (l : LinkSide) → Begins l → writable l.state.has_hello l.state.send_queue ≡ queued_bytes l.state.send_queue
all_writable l (BeforeHello place awaited hello none) =
    ap (λ (b : Bool). writable b l.state.send_queue) hello ∙ ap (λ (bytes : List ℕ). l.state.send_queue.hello ++ bytes) (sym none)
all_writable l (AfterHello place awaited hello) = ap (λ (b : Bool). writable b l.state.send_queue) hello

pub all_may_be_written : AllMayBeWritten
all_may_be_written opened link v run s = by s.keeps
  where
    by : KeepsEnd opened s.end s.input v → may_write v ≡ queue v
    by (inl live) = all_writable v.link live.1.begins
    by (inr ended) = ended.sendable

pub drain_keeps_full : DrainKeepsFull
drain_keeps_full opened link v run s served =
    AtEachMark_more (ServedMark IsAll opened link) [] run (marks.Wrote link Responder (may_write v)) served
    (λ same. ap (λ (bytes : List ℕ). bytes_sent link Responder run ++ bytes) (all_may_be_written opened link v run s) ∙ s.stands.output)
