-- How a gateway that a configuration asks for ends, and what the status of its run says. `O` and `C` are the types of the
-- remote link's sink and of the rule on calls.
use Rattle.std.specs.Prelude.{◌≡◌, ℕ}
use Rattle.nr_outside.specs.Streams.{SourceAt, SinkAt}
use Rattle.nr_serve.specs.declared.stop.ServeStop.{ServeStop}
use Rattle.nr_gateway.specs.Gateways.{Around}
use Rattle.nr_gateway.specs.Stops.{Done, Stopped}
use Rattle.nr_top.specs.Serving.{ReportsStop}
use Rattle.nr_top.specs.Statuses as statuses

-- What the status says. With the status of a link fault (3) the fault count of the acceptor or of the dialer rose.
pub data GatewayEnds (O C : Type 0) (status : ℕ) (input input' : SourceAt) (out out' err err' : SinkAt) (before after : Around) : Type 0 where
  Gated : status ≡ statuses.done → Done O C input input' out out' before after → err' ≡ err → GatewayEnds O C status input input' out out' err err' before after
  NotGated : (stop : ServeStop) → Stopped O C stop input input' out out' before after → ReportsStop stop status err err' →
      GatewayEnds O C status input input' out out' err err' before after
