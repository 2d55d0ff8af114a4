-- One call more that the plain server executes, and a connection that it served.
use Rattle.std.proofs.Common.{◌≡◌, ◌≢◌, ◌≤◌, ℕ, List, [], ◌∷◌, ◌++◌, length, Option, None, Some, refl, sym, ap, ◌∙◌, subst, append_assoc, append-nil, arith}
use Rattle.std.specs.Prelude.{◌⊎◌}
use Rattle.nr_outside.specs.declared.moment.Moment.{Moment}
use Rattle.nr_links.specs.Moments.{Gives}
use Rattle.nr_plain.specs.History.{Answered, Executes, OnlyOthersAdded, PassView}
use Rattle.nr_plain.proofs.PassCalls.{over_executed, over_others, over_none}
use Rattle.nr_record_loop.specs.Connections.{BreaksOffIn, Exchange, IsNoCall, IsServedBy, IsTooLong, Unanswered, SinkCount as LoopSinkCount, SourceCount as LoopSourceCount, calls as exchanged_calls, loop_at, written as exchanged_replies}
use Rattle.nr_record_loop.specs.declared.answering.NoReply.{NoReply}
use Rattle.nr_record_loop.specs.declared.answering.NoReply.TheVariants as reasons
use Rattle.nr_record_loop.specs.declared.loop_end.LoopEnd.{LoopEnd}
use Rattle.nr_record_loop.specs.declared.loop_end.LoopEnd.TheVariants as loops
use Rattle.nr_record_host.specs.RecordRuns.{GivesAll, IsRecordCause, IsRecordsServed, MoreAt, NO_CLIENT, SinkCount, SourceCount, TookAt, UnreadAt, around, calls, exchanges_of, moments}
use Rattle.nr_record_host.specs.private.PlainCalls.{GivenFor, IsServerReason, PlainDid, record_end}
use Rattle.nr_record_host.specs.declared.record_end.RecordEnd.{RecordEnd}
use Rattle.nr_record_host.specs.declared.record_end.RecordEnd.TheVariants as ends

gives_more : (before now after : Option (List Moment)) (given : List Moment) (moment : Moment) → GivesAll before now given → Gives now after moment → GivesAll before after (given ++ moment ∷ [])
gives_more before now None given moment all one = tt
gives_more before now (Some after) given moment all one =
    let (earlier, view, is) = one in
    let all' : GivesAll before (Some earlier) given = subst (λ (o : Option (List Moment)). GivesAll before o given) view all in
    let (first, begun, all_is) = all' in
    (first, begun, is ∙ ap (λ (l : List Moment). l ++ moment ∷ []) all_is ∙ append_assoc first given (moment ∷ []))

gives_none : (gave : Option (List Moment)) → GivesAll gave gave []
gives_none None = tt
gives_none (Some given) = (given, refl, sym (append-nil given))

exchanges_end : (xs : List Answered) (x : Answered) → exchanges_of (xs ++ x ∷ []) ≡ exchanges_of xs ++ record { call = x.payload; reply = x.reply } ∷ []
exchanges_end [] x = refl
exchanges_end (y ∷ xs) x = ap (λ (l : List Exchange). record { call = y.payload; reply = y.reply } ∷ l) (exchanges_end xs x)

moments_end : (xs : List Answered) (x : Answered) → moments (xs ++ x ∷ []) ≡ moments xs ++ x.moment ∷ []
moments_end [] x = refl
moments_end (y ∷ xs) x = ap (λ (l : List Moment). y.moment ∷ l) (moments_end xs x)

module _ (gave gave' : Option (List Moment)) (view view' : PassView) (moment : Moment) (gives : Gives gave gave' moment) (first_gave : Option (List Moment)) (first_view : PassView) (xs : List Exchange)
    (did : PlainDid first_gave gave first_view view xs None) where
  -- the moments of the calls that were answered, and no others
  own : GivesAll first_gave gave (moments did.answered)
  own = subst (GivesAll first_gave gave) (ap (λ (l : List Moment). moments did.answered ++ l) did.given_for ∙ append-nil (moments did.answered)) did.gives

  pub did_more : (payload reply : List ℕ) (place : ℕ) → Executes view view' NO_CLIENT moment payload reply place
      → PlainDid first_gave gave' first_view view' (xs ++ record { call = payload; reply = reply } ∷ []) None
  did_more payload reply place executes =
      let x : Answered = record { payload = payload; moment = moment; place = place; reply = reply } in
      record {
        answered = did.answered ++ x ∷ [];
        exchanges_are = ap (λ (l : List Exchange). l ++ record { call = payload; reply = reply } ∷ []) did.exchanges_are ∙ sym (exchanges_end did.answered x);
        given = [];
        given_for = refl;
        over = over_executed first_view view view' NO_CLIENT moment payload reply place did.answered did.over executes;
        gives = subst (GivesAll first_gave gave') (sym (append-nil (moments (did.answered ++ x ∷ [])) ∙ moments_end did.answered x))
            (gives_more first_gave gave gave' (moments did.answered) moment own gives);
      }

  pub did_none : OnlyOthersAdded view view' → (call : List ℕ) (reason : NoReply) → IsServerReason reason
      → PlainDid first_gave gave' first_view view' xs (Some (record { call = call; reason = reason }))
  did_none found call reason other = record {
    answered = did.answered;
    exchanges_are = did.exchanges_are;
    given = moment ∷ [];
    given_for = (refl, other);
    over = over_others first_view view view' did.answered did.over found;
    gives = gives_more first_gave gave gave' (moments did.answered) moment own gives;
  }

pub did_nothing : (gave : Option (List Moment)) (view : PassView) → PlainDid gave gave view view [] None
did_nothing gave view = record { answered = []; exchanges_are = refl; given = []; given_for = refl; over = over_none view; gives = gives_none gave }

-- at most one moment was given for a call that has no reply
one_at_most : (more : Option Unanswered) (given : List Moment) → GivenFor more given → length given ≤ 1
one_at_most None given is = omega (arith, ap length is)
one_at_most (Some x) given is = omega (arith, is.0)

-- a connection whose calls the plain server executed
module _ {S : Type 0} (gave_of : S → Option (List Moment)) (view_of : S → PassView) (left given taken left' given' taken' : Option (List ℕ)) (u u' : S) where
  abbrev Served : LoopEnd → Type 0
  Served end = IsServedBy (λ a b xs more. PlainDid (gave_of a) (gave_of b) (view_of a) (view_of b) xs more) (loop_at left given taken u) (loop_at left' given' taken' u') end

  abbrev Plainly : RecordEnd → Type 0
  Plainly end = IsRecordsServed (around left given taken (gave_of u) (view_of u)) (around left' given' taken' (gave_of u') (view_of u')) end

  -- it leaves no call without a reply for a cause of its own
  pub never_unanswered : (end : LoopEnd) → Served end → end ≢ loops.Unanswered
  never_unanswered end s is =
      let t : Served loops.Unanswered = subst Served is s in
      let none : GivenFor (Some (record { call = t.more_is.call; reason = reasons.Other })) t.serves.did.given =
      subst (λ (more : Option Unanswered). GivenFor more t.serves.did.given) t.more_is.more_is t.serves.did.given_for in
      none.1

  no_moment : (end : LoopEnd) (s : Served end) → s.more ≡ None → s.serves.did.given ≡ []
  no_moment end s none = subst (λ (more : Option Unanswered). GivenFor more s.serves.did.given) none s.serves.did.given_for

  replies_are : (end : LoopEnd) (s : Served end) → s.took ≡ exchanged_replies s.exchanges → s.took ≡ exchanged_replies (exchanges_of s.serves.did.answered)
  replies_are end s is = is ∙ ap exchanged_replies s.serves.did.exchanges_are

  as_end : (end : LoopEnd) (e : RecordEnd) (s : Served end) → UnreadAt e s.unread → TookAt e s.took s.serves.did.answered → MoreAt e s.serves.did.given
      → IsRecordCause left' (s.stream ++ s.unread) s.rest (calls s.serves.did.answered) s.others e → Plainly e
  as_end end e s unread took more cause =
      let d = s.serves.did in
      record {
        stream = s.stream;
        unread = s.unread;
        records = s.records;
        rest = s.rest;
        exchanges = d.answered;
        others = s.others;
        more = d.given;
        took = s.took;
        encode = s.encode;
        limit = s.limit;
        order = s.order ∙ ap (λ (l : List Exchange). exchanged_calls l ++ s.others) d.exchanges_are;
        serves = record { handed = s.serves.handed; taken = s.serves.taken; over = d.over; gave = d.gives };
        within = s.within;
        unread_is = unread;
        took_is = took;
        more_is = more;
        cause = cause;
      }

  bad : (at reason : ℕ) (s : Served (loops.Bad at reason)) → Plainly (ends.Bad at reason)
  bad at reason s =
      let d = s.serves.did in
      as_end (loops.Bad at reason) (ends.Bad at reason) s tt (replies_are (loops.Bad at reason) s s.took_is)
      (one_at_most s.more d.given d.given_for, λ e. no_moment (loops.Bad at reason) s (s.more_is.0 e))
      (subst (λ (l : List Exchange). IsTooLong (s.stream ++ s.unread) (exchanged_calls l) s.others at reason ⊎ IsNoCall (s.stream ++ s.unread) (exchanged_calls l) s.others at reason) d.exchanges_are s.cause)

  pub plainly_served : (end : LoopEnd) → Served end → Plainly (record_end end)
  plainly_served loops.Closed s = as_end loops.Closed ends.Closed s s.unread_is (replies_are loops.Closed s s.took_is) (no_moment loops.Closed s s.more_is) s.cause
  plainly_served (loops.Cut at) s = as_end (loops.Cut at) (ends.Cut at) s s.unread_is (replies_are (loops.Cut at) s s.took_is) (no_moment (loops.Cut at) s s.more_is) s.cause
  plainly_served loops.LinkRead s = as_end loops.LinkRead ends.LinkRead s s.unread_is (replies_are loops.LinkRead s s.took_is) (no_moment loops.LinkRead s s.more_is) s.cause
  plainly_served loops.LinkWrite s = as_end loops.LinkWrite ends.LinkWrite s tt (subst (λ (l : List Exchange). BreaksOffIn s.took l) s.serves.did.exchanges_are s.took_is) (no_moment loops.LinkWrite s s.more_is) tt
  plainly_served (loops.Bad at reason) s = bad at reason s
  plainly_served (loops.Budget read) s = as_end (loops.Budget read) (ends.Budget read) s s.unread_is (replies_are (loops.Budget read) s s.took_is) (no_moment (loops.Budget read) s s.more_is) s.cause
  plainly_served loops.Memory s = as_end loops.Memory ends.Memory s tt (replies_are loops.Memory s s.took_is) (one_at_most s.more s.serves.did.given s.serves.did.given_for) tt
  plainly_served loops.Unanswered s = absurd (never_unanswered loops.Unanswered s refl)

-- the counts at the end of the loop are those at the end of the connection
pub source_same : (end : LoopEnd) (before after : ℕ) → LoopSourceCount end before after → SourceCount (record_end end) before after
source_same loops.Closed before after same = same
source_same (loops.Cut at) before after same = same
source_same loops.LinkRead before after rises = rises
source_same loops.LinkWrite before after same = same
source_same (loops.Bad at reason) before after same = same
source_same (loops.Budget read) before after same = same
source_same loops.Memory before after same = same
source_same loops.Unanswered before after same = same

pub sink_same : (end : LoopEnd) (before after : ℕ) → LoopSinkCount end before after → SinkCount (record_end end) before after
sink_same loops.Closed before after same = same
sink_same (loops.Cut at) before after same = same
sink_same loops.LinkRead before after same = same
sink_same loops.LinkWrite before after rises = rises
sink_same (loops.Bad at reason) before after same = same
sink_same (loops.Budget read) before after same = same
sink_same loops.Memory before after same = same
sink_same loops.Unanswered before after same = same
