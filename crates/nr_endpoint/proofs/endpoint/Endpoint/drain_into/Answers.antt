use Rattle.std.proofs.Common.{◌≡◌, List, ℕ, take}
use Rattle.std.specs.Prelude.{OnOk}
use Rattle.std.specs.Io.KnownBytes.{Appends}
use Rattle.nr_endpoint.proofs.Standing.{drained, on_err}
use Rattle.nr_endpoint.proofs.endpoint.Endpoint.drain_into.Goals as goal

pub returns-in_err-drain_into-clause-taken : goal.returns-in_err-drain_into-clause-taken
returns-in_err-drain_into-clause-taken g c =
    drained (λ (bytes : List ℕ). Appends (g.K.Sink.taken c.args.sink.now) (g.K.Sink.taken c.drain_into.new.sink) bytes) (λ (n len : ℕ). Unit {0}) (λ (n len : ℕ). OnOk c.from_residual.result (n ≡ len)) (λ n len is. on_err c.from_residual.result c.from_residual.ensures.0 (n ≡ len))
    (record { awaited = c.self.inside.awaited; rest = take c.self.inside.staged c.self.inside.staging.items; state = c.self.inside.link.state }) c.self.inside.staging.items c.args.self.now c.drain_into.new.self.state c.self.view_is c.in_err-drain_into.ensures.written

pub returns-clause-taken : goal.returns-clause-taken
returns-clause-taken g c =
    drained (λ (bytes : List ℕ). Appends (g.K.Sink.taken c.args.sink.now) (g.K.Sink.taken c.drain_into.new.sink) bytes) (λ (n len : ℕ). n ≡ len) (λ (n len : ℕ). n ≡ len) (λ n len is. is)
    (record { awaited = c.self.inside.awaited; rest = take c.self.inside.staged c.self.inside.staging.items; state = c.self.inside.link.state }) c.self.inside.staging.items c.args.self.now c.drain_into.new.self.state c.self.view_is c.in_ok-drain_into.ensures.written
