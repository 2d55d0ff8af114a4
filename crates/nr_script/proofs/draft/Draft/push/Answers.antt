use Rattle.std.proofs.Common.{◌<◌, ◌^◌, ◌+◌, length, sym, ap, ◌∙◌, arith}
use Rattle.nr_script.specs.Script.{seconds_in}
use Rattle.nr_script.proofs.Counts.{room, counted_are, seconds_more}
use Rattle.nr_script.proofs.draft.Draft.push.Goals as goal

pub count_call-requires-clause-room : goal.count_call-requires-clause-room
count_call-requires-clause-room c =
    let lines = c.self.inside.lines in
    let short : length lines.items < 2 ^ 63 = omega (arith, lines.ok.0, lines.ok.1, lines.small) in
    room c.self.inside.calls lines.items c.self.invariant.1 short

pub invariant_of-self-2 : goal.invariant_of-self-2
invariant_of-self-2 c =
    rw (c.in_ok-push.ensures.items, c.count_call.ensures, c.caller-client.ensures, c.seconds_in-seconds.ensures) (
      c.self.invariant.0,
      counted_are c.self.inside.calls c.self.inside.lines.items c.args.line c.self.invariant.1,
      ap (λ n. n + seconds_in c.args.line) c.self.invariant.2 ∙ sym (seconds_more c.self.inside.lines.items c.args.line),
    )
