-- What the laws of nr_laws say of the memory of a link that keeps its laws.
use Rattle.std.specs.Prelude.{ℕ, List, []}
use Rattle.nr_link.proofs.TakenSegments.{frame_taken}
use Rattle.nr_reduce.specs.declared.mark.Mark.{Mark}
use Rattle.nr_reduce.specs.declared.mark.LinkParameters.{LinkParameters}
use Rattle.nr_reduce.specs.Asked.{AskedMark, AskedSoFar, IsAll, Asked}
use Rattle.nr_reduce.specs.Matched.{IsPrefixOf}
use Rattle.nr_reduce.specs.EndRules.{end_state_after}
use Rattle.nr_reduce.specs.Client.{client_rules, initial_client}
use Rattle.nr_reduce.proofs.SoFarLaws.{AtEachMark_each, asked_mark}
use Rattle.nr_laws.specs.Typed.{IsTyped}
use Rattle.nr_laws.proofs.Touched.{client_touched, server_touched}
use Rattle.nr_laws.proofs.Frozen.{revoke_stands}
use Rattle.nr_laws.proofs.DoneBack.{done_hands_back}
use Rattle.nr_laws.proofs.SinkRegions.{server_refuses_requests}
use Rattle.nr_laws.proofs.AllowedBytes.{client_bytes_are_allowed, server_bytes_are_allowed}
use Rattle.nr_laws.proofs.SentBytes.{sent_bytes_are_allowed}
use Rattle.nr_drill.specs.Memory.{KeepsMemory}

pub keeps_memory : (opened : LinkParameters) (link : ℕ) (run : List Mark) → IsTyped run → Asked opened link run → KeepsMemory opened link run
keeps_memory opened link run typed asked =
    let sofar : AskedSoFar opened link run = AtEachMark_each (AskedMark IsAll opened link) (AskedMark IsPrefixOf opened link) [] run (asked_mark opened link) asked.each in
    record {
      client_touched = λ earlier later f segment access is lives after reads asks.
          client_touched opened link run earlier later f segment access is lives after
          (frame_taken (end_state_after (client_rules opened) (initial_client opened) earlier).state.invalidates f segment reads) asks;
      server_touched = server_touched opened link run;
      server_read = server_refuses_requests opened link run;
      client_holds = client_bytes_are_allowed opened link run;
      server_holds = server_bytes_are_allowed opened link run;
      disclosed = λ offset byte is. sent_bytes_are_allowed opened link run offset byte sofar is;
      revoked = λ before xid bytes at. revoke_stands opened link run before xid bytes typed sofar at;
      done = λ before xid outcome r at there own. done_hands_back opened link run before xid outcome r typed sofar at there own;
    }
