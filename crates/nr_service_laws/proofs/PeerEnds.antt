-- What the end of a command that opened a session says, whatever its server does.
use Rattle.std.proofs.Common.{List, Result, Err, subst}
use Rattle.nr_outside.specs.Faults.{Rises}
use Rattle.nr_outside.specs.Streams.{SinkAt, SourceAt}
use Rattle.nr_words.specs.Lines.{Text}
use Rattle.nr_words.specs.declared.commands.Client.{Client}
use Rattle.nr_shared.specs.declared.call_end.CallEnd.TheVariants as calls
use Rattle.nr_client.specs.declared.client_end.ClientEnd.{ClientEnd}
use Rattle.nr_client.specs.declared.client_end.ClientEnd.TheVariants as client
use Rattle.nr_commands.specs.Running.Runs.{NotOpened, Opened}
use Rattle.nr_commands.specs.Sessions.{CountsFaults, SessionAt}
use Rattle.nr_service_laws.specs.Exchanges.{Exchange, tells_text}
use Rattle.nr_service_laws.specs.PeerEnds.{EndSays, EndsSay}
use Rattle.nr_service_laws.proofs.AnyOutcomes.{PeerEnd, given_by_peer}
use Rattle.nr_service_laws.proofs.Judged.{Any}
use Rattle.nr_service_laws.proofs.JudgedParts.{EndsAs, GivenIs}
use Rattle.nr_service_laws.proofs.ReplyCommands.{replies_exclude_ends_lem}

says : (c : Client Text) (made : List Exchange) (s s' : SessionAt) (input input' : SourceAt) (out out' : SinkAt) (end : ClientEnd) → CountsFaults {A = Unit {0}} s s' (Err end)
    → EndsAs (PeerEnd c input made (Rises input.faults input'.faults) (Rises out.faults out'.faults)) end s' → EndSays c made s s' input input' out out' end
says c made s s' input input' out out' client.DialFault counts given = given
says c made s s' input input' out out' (client.Link (calls.Ended end)) counts given = given
says c made s s' input input' out out' (client.Link calls.LinkRead) counts given = (counts.0, given)
says c made s s' input input' out out' (client.Link calls.LinkWrite) counts given = counts.1
says c made s s' input input' out out' (client.Link calls.Closed) counts given = given
says c made s s' input input' out out' (client.Link (calls.Tries n)) counts given = given
says c made s s' input input' out out' (client.Link calls.DialFault) counts given = given
says c made s s' input input' out out' (client.Link (calls.Spent left_over need)) counts given = given
says c made s s' input input' out out' (client.Link (calls.TooLarge need room)) counts given = given
says c made s s' input input' out out' (client.Link (calls.Budget count)) counts given = given
says c made s s' input input' out out' (client.Link calls.Memory) counts given = given
says c made s s' input input' out out' (client.Rpc kind code) counts given = given
says c made s s' input input' out out' (client.Mount status) counts given = given
says c made s s' input input' out out' (client.Nfs status) counts given = given
says c made s s' input input' out out' client.Chunk counts given = given
says c made s s' input input' out out' (client.Version low high) counts given = given
says c made s s' input input' out out' (client.BadReply at reason) counts given = given
says c made s s' input input' out out' (client.BadPath at) counts given = given
says c made s s' input input' out out' client.InputFault counts given = given
says c made s s' input input' out out' client.OutputFault counts given = given
says c made s s' input input' out out' (client.Budget count) counts given = given
says c made s s' input input' out out' client.Memory counts given = tt

pub ends_say_lem : EndsSay
ends_say_lem c before after input input' out out' result (NotOpened end is fails same_input same_out) = tt
ends_say_lem c before after input input' out out' result (Opened dialed s s' opens prints closes) = λ end is.
    let made = (tells_text c.uid c.gid c.export c.action input input' out prints.written s s' prints.text prints.made).made in
    says c made s s' input input' out out' end
    (subst (λ (r : Result (Unit {0}) ClientEnd). CountsFaults s s' r) is (replies_exclude_ends_lem c before after input input' out out' result (Opened dialed s s' opens prints closes)).0)
    (subst (λ (r : Result (Unit {0}) ClientEnd). GivenIs Any (PeerEnd c input made (Rises input.faults input'.faults) (Rises out.faults out'.faults)) r s') is
    (given_by_peer c before dialed s s' input input' out out' result opens prints))
