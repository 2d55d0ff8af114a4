use Rattle.std.proofs.Common.{◌+◌, ◌≤◌, drop, ap, ◌∙◌, arith}
use Rattle.std.proofs.lemmas.List.{length-drop, length-take}
use Rattle.nr_header.specs.Constants.{PAYLOAD_MAX}
use Rattle.nr_regions.specs.RegisteredMemory.{Claim, outside_window, window_bytes}
use Rattle.nr_responder.specs.declared.call.OpenSink.{OpenSink}
use Rattle.nr_responder.proofs.RegisteredSinks.{registered_held, registered_outside}
use Rattle.nr_responder.proofs.Removed.{all_pushed_as}
use Rattle.nr_responder.proofs.registering.register_part.Goals as goal

pub returns-clause-held : goal.returns-clause-held
returns-clause-held c =
    registered_held c.args.endpoint.now.link c.register_window.new.self.link (window_bytes c.args.window.0 c.args.window.1 c.args.buf) c.args.sinks.now.items c.push_reserved.new.self.items _ c.in-Ok.ensures.state c.in-Ok.ensures.claim c.in-Ok.ensures.held c.push_reserved.ensures.items c.requires.held

pub returns-clause-short : goal.returns-clause-short
returns-clause-short c =
    all_pushed_as (λ (s : OpenSink). s.registration.len ≤ PAYLOAD_MAX) c.args.sinks.now.items c.push_reserved.new.self.items _ c.requires.short (let len = ap (λ (x : Claim). x.len) c.in-Ok.ensures.claim ∙ length-take c.args.window.1 (drop c.args.window.0 c.args.buf) in let few = c.requires.len in omega (arith, len, few)) c.push_reserved.ensures.items

pub returns-clause-outside : goal.returns-clause-outside
returns-clause-outside c = λ n h.
    registered_outside c.args.endpoint.now c.register_window.new.self (window_bytes c.args.window.0 c.args.window.1 c.args.buf) (outside_window c.args.window.0 c.args.window.1 c.args.buf) n c.in-Ok.ensures.state c.in-Ok.ensures.outside c.requires.stags
    (let one = length-take c.args.window.0 c.args.buf in let two = length-drop (c.args.window.0 + c.args.window.1) c.args.buf in omega (arith, one, two, c.requires.small, c.requires.window)) h
