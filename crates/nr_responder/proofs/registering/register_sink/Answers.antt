use Rattle.std.proofs.Common.{◌≤◌, ℕ, ap, subst, arith}
use Rattle.nr_header.specs.Constants.{PAYLOAD_MAX}
use Rattle.nr_regions.specs.RegisteredMemory.{Claim, nothing_outside}
use Rattle.nr_responder.specs.declared.call.OpenSink.{OpenSink}
use Rattle.nr_responder.specs.Sound.{HasOutside}
use Rattle.nr_responder.proofs.RegisteredSinks.{registered_held, registered_kept, registered_outside}
use Rattle.nr_responder.proofs.Removed.{all_pushed_as}
use Rattle.nr_responder.proofs.registering.register_sink.Goals as goal

pub returns-clause-held : goal.returns-clause-held
returns-clause-held c =
    registered_held c.args.endpoint.now.link c.register.new.self.link c.args.buf c.args.sinks.now.items c.push_reserved.new.self.items _ c.in-Ok.ensures.state c.in-Ok.ensures.claim c.in-Ok.ensures.held c.push_reserved.ensures.items c.requires.held

pub returns-clause-short : goal.returns-clause-short
returns-clause-short c =
    all_pushed_as (λ (s : OpenSink). s.registration.len ≤ PAYLOAD_MAX) c.args.sinks.now.items c.push_reserved.new.self.items _ c.requires.short (let len = ap (λ (x : Claim). x.len) c.in-Ok.ensures.claim in let few = c.requires.len in omega (arith, len, few)) c.push_reserved.ensures.items

pub returns-clause-outside : goal.returns-clause-outside
returns-clause-outside c = λ n h.
    subst (λ (k : ℕ). HasOutside c.register.new.self k) (omega arith) (registered_outside c.args.endpoint.now c.register.new.self c.args.buf nothing_outside n c.in-Ok.ensures.state c.in-Ok.ensures.outside c.requires.stags (omega arith) h)

pub returns-clause-kept : goal.returns-clause-kept
returns-clause-kept c = registered_kept c.args.endpoint.now c.register.new.self nothing_outside c.in-Ok.ensures.outside
