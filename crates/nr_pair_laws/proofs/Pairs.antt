-- A command and a connection that are the sides of one list of marks.
use Rattle.std.proofs.Common.{◌≡◌, ◌⊎◌, ℕ, ◌<◌, ◌^◌, arith, List, [], ◌++◌, length, Option, None, Some, Err, inl, inr, sym, ap, subst, ◌∙◌}
use Rattle.std.specs.List.{AllByRecursion, flat_map}
use Rattle.std.proofs.lemmas.Option.{none-some}
use Rattle.nr_outside.specs.declared.moment.Moment.{Moment}
use Rattle.nr_wire.specs.declared.hello.Side.TheVariants.{Responder}
use Rattle.nr_link.specs.declared.end.End.{End}
use Rattle.nr_reduce.specs.declared.mark.Entry.{Entry}
use Rattle.nr_reduce.specs.declared.mark.LinkParameters.{LinkParameters}
use Rattle.nr_reduce.specs.declared.mark.Mark.{Mark}
use Rattle.nr_reduce.specs.declared.mark.TaggedEntry.{TaggedEntry}
use Rattle.nr_reduce.specs.Asked.{AskedSoFar, IsAll}
use Rattle.nr_reduce.specs.AtEachMark.{AtEachMark}
use Rattle.nr_reduce.specs.EndRules.{EndState}
use Rattle.nr_reduce.specs.Opening.{IsFirstLink, IsOpened}
use Rattle.nr_reduce.specs.NumberedJournal.{entries_alone, number_heard}
use Rattle.nr_reduce.specs.Run.{end_of_side, server}
use Rattle.nr_reduce.specs.Served.{Served, ServedMark}
use Rattle.nr_reduce.specs.ServerState.{ServerState}
use Rattle.nr_laws.specs.EndCauses.{AgreesAgain, HasNoOldCall, KeepLaws}
use Rattle.nr_laws.specs.MatchedSoFar.{MatchedSoFar}
use Rattle.nr_laws.specs.PlainLinks.{AtPlacesOn, HasPlainReplies}
use Rattle.nr_laws.specs.Stays.{ConveyedMark, NotRevokedMark}
use Rattle.nr_laws.specs.Typed.{IsTyped}
use Rattle.nr_laws.proofs.NeitherEnds.{links_stay}
use Rattle.nr_laws.proofs.NoOldCalls.{no_old_call}
use Rattle.nr_laws.proofs.NumbersHeard.{heard_or_none}
use Rattle.nr_laws.proofs.PlacedLinks.{placed_links_have_plain_replies}
use Rattle.nr_tree.specs.Sane.{IsSane}
use Rattle.nr_plain.specs.Added.{entries_of_call}
use Rattle.nr_plain.specs.History.{AllPlaced, AreOfCalls, Opening, setup_in}
use Rattle.nr_plain.specs.Replies.{plain_reply}
use Rattle.nr_plain.specs.ReplyLaws.{plain_server}
use Rattle.nr_plain.specs.Setup.{Setup}
use Rattle.nr_plain.proofs.PlainServers.{server_is_plain}
use Rattle.nr_byte_laws.specs.InBytes.{EntriesInBytes, IsInBytes}
use Rattle.nr_byte_laws.proofs.ByteClients.{none_again}
use Rattle.nr_shared.specs.declared.call_end.CallEnd.TheVariants as calls
use Rattle.nr_client.specs.declared.client_end.ClientEnd.TheVariants as client
use Rattle.nr_commands.specs.Running.Runs.{NotOpened, Opened}
use Rattle.nr_host.specs.Connections.{Outside, answer_of, answers_of}
use Rattle.nr_host.specs.Ending.{IsCause}
use Rattle.nr_host.specs.declared.connection_limits.ConnectionLimits.{ConnectionLimits}
use Rattle.nr_host.specs.declared.conn_end.ConnEnd.{ConnEnd}
use Rattle.nr_host.specs.Steps.{with_failed}
use Rattle.nr_host.proofs.Turning.{alone_more}
use Rattle.nr_host.proofs.Unnumbered.{answers_handled, over_of_marks}
use Rattle.nr_host_laws.specs.OwnMarks.{own_marks}
use Rattle.nr_host_laws.proofs.Lawful.{keep_the_law}
use Rattle.nr_host_laws.proofs.OwnMarks.{same_server}
use Rattle.nr_host_laws.proofs.TypedMarks.{RepliesInBytes, all_bytes, of_calls_bytes, replies_of}
use Rattle.nr_service_laws.specs.ClientMarks.{AreMarksOf, IsOwn, without_bytes}
use Rattle.nr_service_laws.specs.Exchanges.{Exchange, tells_text}
use Rattle.nr_service_laws.specs.ServedCommands.{client_marks}
use Rattle.nr_service_laws.proofs.ByteCommands.{command_calls}
use Rattle.nr_service_laws.proofs.ByteExchanges.{CallsAreBytes}
use Rattle.nr_service_laws.proofs.OpenLinks.{agrees_first, conveyed, not_revoked, own_each}
use Rattle.nr_service_laws.proofs.ServedOutcomes.{first_waits}
use Rattle.nr_service_laws.proofs.ServedLaws.{ServerKeeps, matched_by, served_keep_laws_lem}
use Rattle.nr_pair_laws.specs.Pairs.{AreSidesOf, ConnectionsHaveARun, IsConnectionRun, PairsAreServed, PairsAreTyped}
use Rattle.nr_pair_laws.proofs.AnsweredCalls.{exchanged_in, exchanges_answered}
use Rattle.nr_pair_laws.proofs.PlacedCalls.{each_placed, served_calls}
use Rattle.nr_pair_laws.proofs.ServerSide.{heard_same, placed_in_both, served_in_both}
use Rattle.nr_pair_laws.proofs.TypedPairs.{pair_is_typed}

pub connections_have_a_run_lem : ConnectionsHaveARun
connections_have_a_run_lem limits first J opened link before after end served other same history =
    let kept = keep_the_law limits before after end other served link in
    record { read = kept.0; failed = kept.1.0; ended = kept.1.1.0; served = kept.1.1.1 opened same; history = history; over = λ none. over_of_marks limits kept.0 link before (with_failed kept.1.0 after) kept.1.1.0.ahead kept.1.1.0.more kept.1.1.0.run kept.1.1.0.runs none first J history }

-- ---- A link that stays

abbrev pub plain_replies : Setup → List Entry → Moment → List ℕ → Option (List ℕ)
plain_replies s entries moment payload = plain_reply s entries (length entries) moment payload

ended_server : (opened : LinkParameters) (link : ℕ) (run own : List Mark) (why : End) → own_marks link run ≡ own → end_of_side opened link Responder run ≡ None → (server opened link own).ended ≡ Some why → ⊥
unfolding end_of_side
ended_server opened link run own why same open_still out =
    none-some why (sym open_still ∙ ap (λ (x : EndState ServerState). x.ended) (same_server opened link run ∙ ap (λ (r : List Mark). server opened link r) same) ∙ out)

-- the client's marks are those of a command
never_ends : (s : Setup) → IsSane s.tree → (opened : LinkParameters) (link : ℕ) (both : List Mark) → IsOpened opened → AgreesAgain opened → IsTyped both → KeepLaws opened link both → HasNoOldCall link both → HasPlainReplies (plain_server s) link both
    → AllByRecursion (IsOwn link) (client_marks link both) → end_of_side opened link Responder both ≡ None
never_ends s sane opened link both fine again typed laws fresh plain owns =
    (links_stay (plain_replies s) entries_of_call opened link both fine again typed laws fresh (own_each (NotRevokedMark link) link [] both (not_revoked link) owns)
    (own_each (ConveyedMark opened link) link [] both (conveyed opened link) owns) (server_is_plain s sane) plain).1

-- ---- The pair

pub placed_of : (s : Setup) (J : List Entry) (n : ℕ) (link : ℕ) (own both : List Mark) → own_marks link both ≡ own → AllPlaced s J n (answers_of own) → AllPlaced s J n (served_calls link both)
unfolding answers_of
placed_of s J n link own both same placed = subst (λ (r : List Mark). AllPlaced s J n (flat_map answer_of r)) (sym same) placed

-- what is known of both sides, whatever the types of the marks
record BothSides (opened : LinkParameters) (link : ℕ) (run both : List Mark) : Type 0 where
  keeps : ServerKeeps opened link run both
  far : MatchedSoFar opened link both
  owns : AllByRecursion (IsOwn link) (client_marks link both)

both_sides : (opened : LinkParameters) (link : ℕ) (run own both : List Mark) → AllByRecursion (IsOwn link) run → AskedSoFar opened link run
    → AreSidesOf link run own both → Served opened link own → BothSides opened link run both
both_sides opened link run own both owns asked sides law =
    let served : AtEachMark (ServedMark IsAll opened link) [] both =
    served_in_both IsAll opened link both (subst (λ (r : List Mark). AtEachMark (ServedMark IsAll opened link) [] r) (sym sides.server_side) law.each) in
    let keeps : ServerKeeps opened link run both = record { client_side = sides.client_side; served = served; matched = sides.matched } in
    record {
      keeps = keeps;
      far = matched_by opened link run both owns asked keeps;
      owns = subst (λ (r : List Mark). AllByRecursion (IsOwn link) r) (sym sides.client_side) owns;
    }

-- the calls of a client without a number at their places
pub record BothPlaced (s : Setup) (J : List Entry) (n : ℕ) (link : ℕ) (both : List Mark) : Type 0 where
  pub placed : AllPlaced s J n (served_calls link both)
  pub at_places : AtPlacesOn (plain_server s) J link both
  pub plain : HasPlainReplies (plain_server s) link both

pub both_placed : (s : Setup) (J : List Entry) (n : ℕ) (link : ℕ) (own both : List Mark) → own_marks link both ≡ own → AllPlaced s J n (answers_of own) → BothPlaced s J n link both
both_placed s J n link own both same placed =
    let places = placed_of s J n link own both same placed in
    let at_places : AtPlacesOn (plain_server s) J link both = placed_in_both (plain_server s) J link both (each_placed s J link n [] (own_marks link both) places) in
    record { placed = places; at_places = at_places; plain = placed_links_have_plain_replies (plain_replies s) entries_of_call J link both at_places }

-- a server that is fed what a client without a number sends hears none
pub none_heard : (opened : LinkParameters) (link : ℕ) (own both : List Mark) → own_marks link both ≡ own → IsTyped both → MatchedSoFar opened link both → opened.client.number ≡ 0 → number_heard own link ≡ 0
none_heard opened link own both same typed far none =
    sym (heard_same link both ∙ ap (λ (r : List Mark). number_heard r link) same) ∙ by (heard_or_none opened link both typed far (let fits : opened.client.number < 2 ^ 64 = omega (arith, none) in fits))
  where
    by : (number_heard both link ≡ 0) ⊎ (number_heard both link ≡ opened.client.number) → number_heard both link ≡ 0
    by (inl zero) = zero
    by (inr heard) = heard ∙ none

-- the replies of a connection are bytes, whether its client has a number or not
pub connection_replies : (limits : ConnectionLimits) (first : Opening) (J : List Entry) (opened : LinkParameters) (link : ℕ) (outside outside' : Outside) (end : ConnEnd)
    (connection : IsConnectionRun limits first J opened link outside outside' end) (both : List Mark) → own_marks link both ≡ connection.ended.run → IsInBytes (setup_in first).tree → EntriesInBytes J
    → RepliesInBytes (flat_map answer_of (own_marks link both))
connection_replies limits first J opened link outside outside' end connection both same tree entries =
    let T : List TaggedEntry = connection.history.entries in
    let runs = connection.ended.runs in
    let over = runs.over first T connection.history.is in
    let all : EntriesInBytes (entries_alone (T ++ over.more)) =
    subst EntriesInBytes (sym (alone_more T over.more))
    (all_bytes (setup_in first) (entries_alone T) (entries_alone over.more) (subst EntriesInBytes (sym connection.history.journal) entries) over.of_calls) in
    subst (λ (r : List Mark). RepliesInBytes (flat_map answer_of r)) (sym same)
    (replies_of (setup_in first) (number_heard connection.ended.run link) (T ++ over.more) (length T) runs.turns over.mine connection.ended.run (answers_handled runs.turns connection.ended.run runs.handled) tree all over.turned)

pub pairs_are_served_lem : PairsAreServed
pairs_are_served_lem limits first J opened link outside outside' end connection c before after input input' out out' result (NotOpened why is fails same_input same_out) session same sane = tt
pairs_are_served_lem limits first J opened link outside outside' end connection c before after input input' out out' result (Opened dialed s s' opens prints closes) session same sane = λ ran both sides typed.
    let setup = setup_in first in
    let own = connection.ended.run in
    let made = (tells_text c.uid c.gid c.export c.action input input' out prints.written s s' prints.text prints.made).made in
    let b = both_sides opened link ran.run own both ran.own ran.asked sides connection.served in
    let none = none_heard opened link own both sides.server_side typed b.far ran.unnumbered in
    let over = connection.over none in
    let journal : List Entry = J ++ over.more in
    let p = both_placed setup journal (length J) link own both sides.server_side over.placed in
    let are = subst (λ (r : List Mark). AreMarksOf link made (without_bytes r)) (sym sides.client_side) ran.marks_are in
    let fresh = no_old_call opened link both typed b.far ran.unnumbered in (
      none,
      record {
        served = record { client_side = sides.client_side; typed = typed; served = b.keeps.served; matched = sides.matched; plain = p.plain };
        at_places = p.at_places;
        answered = exchanges_answered setup sane journal (length J) opened link (first_waits opened link ran.first_link.resumed) both typed b.far p.plain p.placed made are;
        stays = λ why is. by (λ laws. ended_server opened link both own why sides.server_side (never_ends setup sane opened link both session.fine (agrees_first opened ran.first_link.agreed) typed laws fresh p.plain b.owns)
            (subst (λ (e : ConnEnd). IsCause opened link own outside'.left e) is (connection.ended.cause opened same)).0)
            (served_keep_laws_lem opened link c before after input input' out out' result (Opened dialed s s' opens prints closes) ran (plain_replies setup) entries_of_call both session.fine
            (record { client_side = sides.client_side; typed = typed; served = b.keeps.served; matched = sides.matched; limits = server_is_plain setup sane; plain = p.plain })).1;
      },
    )
  where
    by : {K : Type 0} → (K → ⊥) → (result ≡ Err (client.Link calls.LinkWrite)) ⊎ K → result ≡ Err (client.Link calls.LinkWrite)
    by clash (inl failed) = failed
    by clash (inr laws) = absurd (clash laws)

-- a list with both sides is of its types, if each call of the command is of bytes
pub sides_typed : (limits : ConnectionLimits) (first : Opening) (J : List Entry) (opened : LinkParameters) (link : ℕ) (outside outside' : Outside) (end : ConnEnd)
    (connection : IsConnectionRun limits first J opened link outside outside' end) (run both : List Mark) (made : List Exchange) → IsFirstLink opened → AllByRecursion (IsOwn link) run → AskedSoFar opened link run
    → AreMarksOf link made (without_bytes run) → AreSidesOf link run connection.ended.run both → IsInBytes (setup_in first).tree → AreOfCalls (setup_in first) [] J → CallsAreBytes made → IsTyped both
sides_typed limits first J opened link outside outside' end connection run both made first_link owns asked are sides tree entries words =
    let b = both_sides opened link run connection.ended.run both owns asked sides connection.served in
    let replies = connection_replies limits first J opened link outside outside' end connection both sides.server_side tree (of_calls_bytes (setup_in first) [] J entries) in
    let are_both = subst (λ (r : List Mark). AreMarksOf link made (without_bytes r)) (sym sides.client_side) are in
    pair_is_typed opened link both made (none_again opened first_link.resumed) b.far replies b.owns
    (subst (λ (r : List Mark). AreMarksOf link made r) (exchanged_in link both) are_both) words sides.no_others

pub pairs_are_typed_lem : PairsAreTyped
pairs_are_typed_lem limits first J opened link outside outside' end connection c before after input input' out out' result (NotOpened why is fails same_input same_out) of tree entries = tt
pairs_are_typed_lem limits first J opened link outside outside' end connection c before after input input' out out' result (Opened dialed s s' opens prints closes) of tree entries = λ ran both sides.
    sides_typed limits first J opened link outside outside' end connection ran.run both
    (tells_text c.uid c.gid c.export c.action input input' out prints.written s s' prints.text prints.made).made ran.first_link ran.own ran.asked ran.marks_are sides tree entries
    (command_calls c.uid c.gid c.export c.action input input' out prints.written s s' prints.text prints.made (of.uid, of.gid) of.export of.names)
