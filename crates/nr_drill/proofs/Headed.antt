-- A run that follows a script is the run of a drill: the headline.
use Rattle.std.proofs.Common.{◌≢◌, List, arith, refl}
use Rattle.nr_reduce.specs.declared.mark.Mark.{Mark}
use Rattle.nr_reduce.specs.KeepsCalls.{FitsChanges, KeepsCalls}
use Rattle.nr_reduce.specs.KeepsReplyLimits.{KeepsReplyLimits}
use Rattle.nr_laws.specs.EndCauses.{HasNoOldCall}
use Rattle.nr_tree.specs.Tree.{Tree}
use Rattle.nr_tree.specs.Sane.{IsSane}
use Rattle.nr_plain.proofs.PlainServers.{server_is_plain}
use Rattle.nr_plain.proofs.KeptCalls.{server_keeps_calls}
use Rattle.nr_plain.proofs.ChangesFit.{server_fits_changes}
use Rattle.nr_script.specs.Script.{ScriptLines, IsScript}
use Rattle.nr_drill.specs.Drill.{SerialServer, plain_of}
use Rattle.nr_drill.specs.DrillSetup.{drill_setup, server_of}
use Rattle.nr_drill.specs.Follows.{Follows, last_setting}
use Rattle.nr_drill.specs.Headline.{IsDrillRun}
use Rattle.nr_drill.specs.InBytes.{RepliedInBytes}
use Rattle.nr_drill.proofs.CarriedLinks.{follows_keeps}
use Rattle.nr_drill.proofs.NumberedRuns.{follows_journaled, follows_numbers}
use Rattle.nr_drill.proofs.NumberedDrills.{typed, memory, completes, changes, once, entries}
use Rattle.nr_drill.proofs.PlacesByLinks.{places_rise}
use Rattle.nr_drill.proofs.NoOldCalls.{standing_has_no_old}
use Rattle.nr_drill.proofs.StayingLinks.{both_stay, have_completed}
use Rattle.nr_drill.proofs.Drained.{follows_waits}
use Rattle.nr_drill.proofs.SettledCalls.{all_settled}
use Rattle.nr_drill.proofs.DrainedSteps.{follows_leaves_less}

-- if the server is a plain one that keeps its calls, whose replies to changes fit every offer, and each reply is bytes
pub follows_is_drill : (server : SerialServer) (script : ScriptLines) (run : List Mark) → IsScript script → KeepsReplyLimits (plain_of server) → KeepsCalls server.reply_to server.adds → FitsChanges (plain_of server) → RepliedInBytes run → Follows server script run →
    IsDrillRun server script run
follows_is_drill server script run is plain keeps fits replied follows = record {
  follows = follows;
  typed = typed server script run is replied follows;
  journaled = follows_journaled server script run is replied follows;
  numbers = λ link within. follows_numbers server script run is replied follows link within;
  laws = λ link within. follows_keeps server script run is replied follows link within;
  memory = λ link within. memory server script run is replied follows link within;
  outcomes = λ link within matched. completes server script run is replied follows plain keeps link within matched;
  changes = λ link within. changes server script run is replied follows plain keeps.one fits link within;
  places = λ link other executing within other_within executing_within same matched executing_matched.
      places_rise server script run is replied follows keeps.one link other executing within other_within executing_within same matched executing_matched;
  once = once server script run is replied follows keeps.one;
  entries = λ link within numbered matched. entries server script run is replied follows keeps link within numbered matched;
  staying = λ link within matched standing kept_memory conveyed.
      (let old : ((last_setting follows).opened link).client.number ≢ 0 → HasNoOldCall link run = (λ numbered. standing_has_no_old server script run is replied follows keeps.one link within matched standing numbered) in
      let both = both_stay server script run is replied follows plain keeps link within matched old kept_memory conveyed in record {
        client_stays = both.0;
        server_stays = both.1;
        complete = λ ends. (let waits = follows_waits server script run is replied follows link within (matched link within.0 (omega arith) refl) standing ends in
            (waits, have_completed server script run is replied follows plain keeps link within matched old kept_memory conveyed waits));
        done = λ ends. (have_completed server script run is replied follows plain keeps link within matched old kept_memory conveyed
            (follows_waits server script run is replied follows link within (matched link within.0 (omega arith) refl) standing ends)).has_done (follows_keeps server script run is replied follows link within).handed;
        settled = λ ends. all_settled server script run is replied follows link within standing
            (have_completed server script run is replied follows plain keeps link within matched old kept_memory conveyed (follows_waits server script run is replied follows link within (matched link within.0 (omega arith) refl) standing ends))
            (follows_keeps server script run is replied follows link within).handed;
      });
  drains = λ link within. follows_leaves_less server script run is replied (typed server script run is replied follows) follows link;
}

-- So it is of a drill's own server: what is left to a driver is to follow its script, and that its replies are bytes by their type.
pub drill_is_run : (tree : Tree) (script : ScriptLines) (run : List Mark) → IsSane tree → IsScript script → RepliedInBytes run → Follows (server_of (drill_setup tree script.opening)) script run →
    IsDrillRun (server_of (drill_setup tree script.opening)) script run
drill_is_run tree script run sane is replied follows =
    let setup = drill_setup tree script.opening in
    follows_is_drill (server_of setup) script run is (server_is_plain setup sane) (server_keeps_calls setup) (server_fits_changes setup) replied follows
