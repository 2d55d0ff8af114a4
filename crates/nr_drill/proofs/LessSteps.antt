-- Each step of a drain leaves less work.
use Rattle.std.proofs.Common.{◌≡◌, ℕ, List, [], ◌++◌, ◌∙◌, append-nil}
use Rattle.nr_wire.specs.declared.hello.Side.{Side}
use Rattle.nr_wire.specs.declared.hello.Side.TheVariants.{Initiator, Responder}
use Rattle.nr_reduce.specs.declared.mark.Mark.{Mark}
use Rattle.nr_reduce.specs.declared.mark.LinkParameters.{LinkParameters}
use Rattle.nr_reduce.specs.History.{bytes_sent}
use Rattle.nr_reduce.specs.Run.{output_due}
use Rattle.nr_drill.specs.Drill.{Setting, Drill}
use Rattle.nr_drill.specs.WorkLeft.DrainStep.{AllUp, Work, AllDown}
use Rattle.nr_drill.specs.Drains.{IsRunning, StepsLeaveLess}
use Rattle.nr_drill.proofs.Lawful.{Keeps, left_is, due_of}
use Rattle.nr_drill.proofs.Carried.{Carries}
use Rattle.nr_drill.proofs.LessWork.{work_less}
use Rattle.nr_drill.proofs.LessUp.{up_less_lem}
use Rattle.nr_drill.proofs.LessDown.{down_less_lem}

all_due : (o : LinkParameters) (link : ℕ) (side : Side) (run : List Mark) → bytes_sent link side run ≡ output_due o link side run → bytes_sent link side run ++ [] ≡ output_due o link side run
all_due o link side run is = append-nil (bytes_sent link side run) ∙ is

pub running_keeps : (s : Setting) (link : ℕ) (d : Drill) → IsRunning s link d → Keeps s link d
running_keeps s link d r =
    let o = s.opened link in
    let up = all_due o link Initiator d.marks r.asked.written in
    let down = all_due o link Responder d.marks r.served.written in (
      record { asked = r.asked.each; served = r.served.each; accepts = r.accepts; client = due_of o link Initiator d.marks [] up; server = due_of o link Responder d.marks [] down; resent = r.asked.resent },
      record { client = left_is o link Initiator d.marks [] up; server = left_is o link Responder d.marks [] down },
      r.asked.none_left,
    )

pub running_carries : (s : Setting) (link : ℕ) (d : Drill) → IsRunning s link d → Carries link d
running_carries s link d r = record { matched = r.matched; room = r.room; carried = λ e. record { up = r.up e; down = r.down e }; gone = r.gone }

pub steps_leave_less : StepsLeaveLess
steps_leave_less s link AllUp old numbers r moves typed = up_less_lem s link old (running_keeps s link old r) r.room r.server_heard moves
steps_leave_less s link Work old numbers r moves typed = work_less s link old (running_keeps s link old r) r.room moves
steps_leave_less s link AllDown old numbers r moves typed = down_less_lem s link old numbers (running_keeps s link old r) (running_carries s link old r) r.client_heard moves typed
