-- Each executed call that adds an entry is answered by its reply, whatever was offered, also one whose client has a number: a call that has its entry
-- is answered by the reply to the call of that entry.
use Rattle.std.proofs.Common.{◌≡◌, ◌≢◌, ℕ, ◌≤◌, List, [], ◌∷◌, ◌++◌, length, Option, None, Some, refl, sym, ap, subst, ◌∙◌, append-nil}
use Rattle.std.specs.Prelude.{slice_get}
use Rattle.nr_header.specs.WithinLimits.{ListsWithin}
use Rattle.nr_header.specs.declared.header.ChunkLists.{ChunkLists}
use Rattle.nr_outside.specs.declared.moment.Moment.{Moment}
use Rattle.nr_rpc.specs.Reading.{call_of, target_of}
use Rattle.nr_wire.specs.declared.hello.Side.TheVariants.{Responder}
use Rattle.nr_reduce.specs.declared.mark.Entry.{Entry}
use Rattle.nr_reduce.specs.declared.mark.LinkParameters.{LinkParameters}
use Rattle.nr_reduce.specs.declared.mark.Mark.{Mark}
use Rattle.nr_reduce.specs.declared.mark.Mark.TheVariants as marks
use Rattle.nr_reduce.specs.declared.mark.TaggedEntry.{TaggedEntry}
use Rattle.nr_reduce.specs.AtEachMark.{AtEachMark}
use Rattle.nr_reduce.specs.Events.{events}
use Rattle.nr_reduce.specs.KeepsCalls.{AddsOneAtMost, FitsChanges}
use Rattle.nr_reduce.specs.KeepsReplyLimits.{KeepsReplyLimits}
use Rattle.nr_reduce.specs.Limits.{send_unit}
use Rattle.nr_reduce.specs.Matched.{IsPrefixOf}
use Rattle.nr_reduce.specs.NumberedJournal.{Standing, standing_for, tagged_journal, number_heard, entries_alone, IsExecutedBy, NumberedMark}
use Rattle.nr_reduce.specs.NumberedJournal.Standing.{Old, Kept, New}
use Rattle.nr_reduce.specs.Run.{server}
use Rattle.nr_reduce.specs.Served.{ServedSoFar, ServedMark, IsExecuted}
use Rattle.nr_reduce.specs.Server.{answer_of_target, offer_of}
use Rattle.nr_reduce.specs.ServerState.{ServerState}
use Rattle.nr_reduce.proofs.Calls.{execute_answered}
use Rattle.nr_reduce.proofs.OwnLimits.{server_limits_of}
use Rattle.nr_laws.specs.ChunkOutcomes.{answer_held, IsAnswered}
use Rattle.nr_laws.specs.MarkAt.{MarkAt}
use Rattle.nr_laws.specs.OnceEach.{NumberedChangesAreAnswered}
use Rattle.nr_laws.specs.PlainLinks.{server_with}
use Rattle.nr_laws.specs.Typed.{TypedMark}
use Rattle.nr_laws.proofs.AnsweredChanges.{some_of}
use Rattle.nr_laws.proofs.Basics.{some_is_lem}
use Rattle.nr_laws.proofs.JournalPlaces.{journal_from, get_last, kept_entry}
use Rattle.nr_laws.proofs.KeptAtServer.{kept_at_server}
use Rattle.nr_laws.proofs.KeptEntries.{tag_of, kept_numbered, entry_added}
use Rattle.nr_laws.proofs.OnceByXid.{at_mark, before_mark}
use Rattle.nr_laws.proofs.ServerOutputs.{found_fits}

module _ (reply_to : List Entry → Moment → List ℕ → Option (List ℕ)) (adds : Moment → List ℕ → List ℕ → List Entry) (number : ℕ → ℕ) (before : List Mark) (few : AddsOneAtMost adds) (limits : KeepsReplyLimits (server_with reply_to adds))
    (fits : FitsChanges (server_with reply_to adds)) (client xid : ℕ) (moment : Moment) (payload : List ℕ) (place : ℕ) (reply : List ℕ) (more : adds moment payload reply ≢ []) where
  abbrev J : List TaggedEntry
  J = journal_from reply_to adds number [] before

  -- of a call that has its entry
  kept_fits : (at : ℕ) → standing_for J client xid ≡ Kept at → IsExecutedBy (server_with reply_to adds) J (Kept at) moment payload place reply → (offer : ChunkLists) (down : ℕ) → ListsWithin offer → send_unit ≤ down
      → answer_of_target offer down reply (target_of (call_of payload)) ≢ None
  kept_fits at kept law offer down within enough =
      let k = law.1 in
      let some = kept_numbered J client xid at kept in
      let entry = kept_entry J client xid at kept in
      let there : slice_get J at ≡ Some k.own =
      (λ i. slice_get (k.is_cut i) ((sym law.0 ∙ k.is_place) i)) ∙ get_last k.earlier k.own k.later in
      let same : k.own ≡ entry.own = some_is_lem k.own entry.own (sym there ∙ entry.there) in
      let a = entry_added reply_to adds number before at k.own few there in
      let tag = tag_of (number a.link) a.xid a.entry k.own a.own (λ e. some (sym entry.client_is ∙ sym (ap (λ (t : TaggedEntry). t.client) same) ∙ e)) in
      fits (entries_alone k.earlier) moment moment a.moment payload a.payload a.reply reply k.own.xid k.own.entry offer down (a.adds_it ∙ ap (λ (e : Entry). e ∷ []) tag.entry_is) k.replied more within enough

  executed_fits : (s : Standing) → standing_for J client xid ≡ s → IsExecutedBy (server_with reply_to adds) J s moment payload place reply → (offer : ChunkLists) (down : ℕ) → ListsWithin offer → send_unit ≤ down
      → answer_of_target offer down reply (target_of (call_of payload)) ≢ None
  executed_fits (Old top) is law offer down within enough = absurd law
  executed_fits (Kept at) is law offer down within enough = kept_fits at is law offer down within enough
  executed_fits New is law offer down within enough = limits.change (entries_alone J) moment payload reply offer down law.1 more within enough

pub numbered_changes_are_answered : NumberedChangesAreAnswered
unfolding server tagged_journal
numbered_changes_are_answered reply_to adds opened link T run before xid moment payload place reply limits few fits typed journaled served at more =
    let mark : Mark = marks.Execute link xid moment payload place reply in
    let x : IsExecuted opened link before xid payload = at_mark (ServedMark IsPrefixOf opened link) run before mark at.after at.is served refl in
    let first = before_mark TypedMark run before mark at.after at.is typed in
    let kept = before_mark (ServedMark IsPrefixOf opened link) run before mark at.after at.is served in
    let es = events link Responder before in
    let k : ServerState = (server opened link before).state in
    let holds = kept_at_server opened link before first kept es [] (sym (append-nil es)) in
    let law = at_mark (NumberedMark (server_with reply_to adds) (number_heard run)) run before mark at.after at.is journaled.each in
    let down = (server_limits_of opened link before).down in
    let J : List TaggedEntry = journal_from reply_to adds (number_heard run) [] before in
    let held = executed_fits reply_to adds (number_heard run) before few limits fits (number_heard run link) xid moment payload place reply more (standing_for J (number_heard run link) xid) refl law (offer_of k xid) k.down_max (found_fits xid k.calls holds.fit).within down.0 in
    let a = some_of (answer_held opened link before xid payload reply) held in
    record { answer = a.0; is_held = a.1; due = (execute_answered opened link before xid moment payload place reply x).0 a.0 a.1 }
