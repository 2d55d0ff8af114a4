-- A command and a connection on one link are of their types, whatever is known of the input.
use Rattle.std.proofs.Common.{ℕ, List, Result, Err, inl, inr}
use Rattle.nr_xdr.specs.Item.{IsBytes}
use Rattle.nr_outside.specs.Streams.{SinkAt, SourceAt}
use Rattle.nr_words.specs.Lines.{Text}
use Rattle.nr_words.specs.declared.commands.Action.{Action}
use Rattle.nr_words.specs.declared.commands.Action.TheVariants as actions
use Rattle.nr_client.specs.declared.client_end.ClientEnd.{ClientEnd}
use Rattle.nr_commands.specs.Running.{text_of}
use Rattle.nr_commands.specs.Running.Runs.{NotOpened, Opened}
use Rattle.nr_commands.specs.Sessions.{SessionAt}
use Rattle.nr_service_laws.specs.Exchanges.{tells_text}
use Rattle.nr_service_laws.proofs.ByteCalls.{AreWords}
use Rattle.nr_service_laws.proofs.ByteCommands.{command_calls, parents_bytes, put_calls}
use Rattle.nr_service_laws.proofs.ByteExchanges.{CallsAreBytes}
use Rattle.nr_pair_laws.specs.AnyInputs.{NamesAreBytes, PairsOverAnyInputAreTyped, ReadsOnlyBytes}
use Rattle.nr_pair_laws.proofs.Pairs.{sides_typed}

calls_of_bytes : (uid gid : ℕ) (export : List ℕ) (action : Action Text) (input input' : SourceAt) (out out' : SinkAt) (s s' : SessionAt) (text : Result (List ℕ) ClientEnd)
    (is : text_of uid gid export action input input' out out' s s' text) → AreWords uid gid → IsBytes export → NamesAreBytes action → ReadsOnlyBytes uid gid export action input input' out out' s s' text is
    → CallsAreBytes (tells_text uid gid export action input input' out out' s s' text is).made
calls_of_bytes uid gid export actions.Mount input input' out out' s s' text is words e names reads = command_calls uid gid export actions.Mount input input' out out' s s' text is words e names
calls_of_bytes uid gid export (actions.List path) input input' out out' s s' text is words e names reads = command_calls uid gid export (actions.List path) input input' out out' s s' text is words e names
calls_of_bytes uid gid export (actions.Stat path) input input' out out' s s' text is words e names reads = command_calls uid gid export (actions.Stat path) input input' out out' s s' text is words e names
calls_of_bytes uid gid export (actions.ReadLink path) input input' out out' s s' text is words e names reads = command_calls uid gid export (actions.ReadLink path) input input' out out' s s' text is words e names
calls_of_bytes uid gid export (actions.MakeDirectory path) input input' out out' s s' text is words e names reads = command_calls uid gid export (actions.MakeDirectory path) input input' out out' s s' text is words e names
calls_of_bytes uid gid export (actions.Remove path) input input' out out' s s' text is words e names reads = command_calls uid gid export (actions.Remove path) input input' out out' s s' text is words e names
calls_of_bytes uid gid export (actions.Link path target) input input' out out' s s' text is words e names reads = command_calls uid gid export (actions.Link path target) input input' out out' s s' text is words e names
calls_of_bytes uid gid export (actions.Get path) input input' out out' s s' text is words e names reads = command_calls uid gid export (actions.Get path) input input' out out' s s' text is words e names
calls_of_bytes uid gid export (actions.Put path) input input' out out' s s' text (inl (place, (mid, (finds, (done, ((writes, counts), silent))))), same) words e names reads =
    put_calls uid gid export path input input' words e names s s' text place mid finds (done, ((writes, counts), silent)) reads
calls_of_bytes uid gid export (actions.Put path) input input' out out' s s' text (inr (end, (finds, gone)), same) words e names reads =
    (parents_bytes uid gid export path words e names s s' (Err end) finds).0

pub pairs_over_any_input_are_typed_lem : PairsOverAnyInputAreTyped
pairs_over_any_input_are_typed_lem limits first J opened link outside outside' end connection c before after input input' out out' result (NotOpened why is fails same_input same_out) names reads tree entries = tt
pairs_over_any_input_are_typed_lem limits first J opened link outside outside' end connection c before after input input' out out' result (Opened dialed s s' opens prints closes) names reads tree entries = λ ran both sides.
    sides_typed limits first J opened link outside outside' end connection ran.run both
    (tells_text c.uid c.gid c.export c.action input input' out prints.written s s' prints.text prints.made).made ran.first_link ran.own ran.asked ran.marks_are sides tree entries
    (calls_of_bytes c.uid c.gid c.export c.action input input' out prints.written s s' prints.text prints.made (names.uid, names.gid) names.export names.names reads)
