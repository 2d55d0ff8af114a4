use Rattle.std.proofs.Common.{◌≡◌, ◌≢◌, ℕ, Option, Some, None, sym, ap, ◌∙◌}
use Rattle.nr_link.specs.declared.end.End.{End}
use Rattle.nr_link.specs.declared.end.End.TheVariants as ends
use Rattle.nr_responder.specs.Sound.{state_of}
use Rattle.nr_responder.proofs.Handled.{same_fed}
use Rattle.nr_responder.proofs.OldCalls.{heard_now, old_stops, ready_behind, stops_bounded, stops_for, stops_old}
use Rattle.nr_responder.proofs.server_end.ServerEnd.stop.Goals as goal

pub end_for-requires-clause-frame : goal.end_for-requires-clause-frame
end_for-requires-clause-frame c = ready_behind (state_of c.args.self.now) c.requires.live c.requires.next c.requires.stands

pub end_for-requires-clause-reason : goal.end_for-requires-clause-reason
end_for-requires-clause-reason c = old_stops c.args.reason c.requires.reason

pub unreachable-requires : goal.unreachable-requires
unreachable-requires c = absurd ((stops_for (state_of c.args.self.now) (state_of c.end_for.new.self) c.args.reason c.requires.live c.end_for.ensures.ended).1 (sym c.end.ensures ∙ c.in-None.is))

pub returns-clause-end : goal.returns-clause-end
returns-clause-end c = λ other.
    let both = stops_for (state_of c.args.self.now) (state_of c.end_for.new.self) c.args.reason c.requires.live c.end_for.ensures.ended in
    let ended = sym c.end.ensures ∙ c.in-Some.is in
    let why = both.0 (λ memory. other (let h = sym ended ∙ memory in cc)) in
    (let h = sym ended ∙ why in cc)

pub returns-clause-last : goal.returns-clause-last
returns-clause-last c = λ opened link run h. (heard_now opened link run (state_of c.args.self.now) c.requires.live h).last

pub returns-clause-stands : goal.returns-clause-stands
returns-clause-stands c = λ opened link run xid h. stops_old opened link run (state_of c.args.self.now) (state_of c.end_for.new.self) c.args.reason xid c.requires.reason c.requires.live c.requires.next c.end_for.ensures.ended h

pub returns-clause-bounded : goal.returns-clause-bounded
returns-clause-bounded c = stops_bounded (state_of c.args.self.now) (state_of c.end_for.new.self) c.args.reason c.requires.live c.end_for.ensures.ended

pub returns-clause-fed : goal.returns-clause-fed
returns-clause-fed c = same_fed c.args.self.now.endpoint.link c.end_for.new.self.endpoint.link c.end_for.ensures.input
