-- Calls have their places on a link that is matched with its earlier ones, if none is executed once its client has left it: an entry that is kept is then
-- of an earlier link, or of this one.
use Rattle.std.proofs.Common.{◌≡◌, ◌≢◌, ℕ, Bool, true, false, eqb, eqb-true, eq-eqb, List, [], ◌∷◌, ◌++◌, refl, sym, ap, subst, ◌∙◌, append_assoc, ◌⊎◌, inl, inr}
use Rattle.nr_outside.specs.declared.moment.Moment.{Moment}
use Rattle.nr_wire.specs.declared.hello.Side.TheVariants.{Responder}
use Rattle.nr_reduce.specs.declared.mark.LinkParameters.{LinkParameters}
use Rattle.nr_reduce.specs.declared.mark.Mark.{Mark}
use Rattle.nr_reduce.specs.declared.mark.Mark.TheVariants as marks
use Rattle.nr_reduce.specs.Events.{events}
use Rattle.nr_reduce.specs.NumberedJournal.{number_heard}
use Rattle.nr_laws.specs.MatchedSoFar.{MatchedSoFar}
use Rattle.nr_laws.specs.OnceEach.{IsEarlier, MatchedWithEarlier, OpenedWithEarlier, IsLinkOf, IsLeft, ExecutesUntilLeft, LinksAreAtPlacesUntilLeft}
use Rattle.nr_laws.specs.Typed.{IsTyped}
use Rattle.nr_laws.proofs.KeptEntries.{HaveSamePayload}
use Rattle.nr_laws.proofs.NumberedPlaces.{ExecutedOf, executed_of, same_payload, links_at_places}
use Rattle.nr_laws.proofs.OldCalls.{executed_some}

module _ (opened : ℕ → LinkParameters) (link : ℕ) (run : List Mark) (typed : IsTyped run) (clients : IsLinkOf opened run (number_heard run link) link) (opens : OpenedWithEarlier opened run link) (matched : MatchedWithEarlier opened run link)
    (until : ExecutesUntilLeft opened run link) where
  itself : IsEarlier opened run link link
  itself = record { began = []; links = []; goes_on = refl }

  far : MatchedSoFar (opened link) link run
  far = matched link itself

  same_payloads : number_heard run link ≢ 0 → (before after : List Mark) (xid : ℕ) (moment : Moment) (payload : List ℕ) (place : ℕ) (reply : List ℕ) → run ≡ before ++ marks.Execute link xid moment payload place reply ∷ after
      → HaveSamePayload (number_heard run) before (number_heard run link) xid payload
  same_payloads some before after xid moment payload place reply is other same front mid now bytes at answer there = by (clients other some same)
    where
      execute : Mark
      execute = marks.Execute link xid moment payload place reply

      earliest : Mark
      earliest = marks.Execute other xid now bytes at answer

      in_run : run ≡ front ++ earliest ∷ (mid ++ execute ∷ after)
      in_run = is ∙ ap (λ (r : List Mark). r ++ execute ∷ after) there ∙ append_assoc front (earliest ∷ mid) (execute ∷ after)

      own : ExecutedOf link run xid payload
      own = executed_of (opened link) link run before after xid moment payload place reply typed far is

      before_it : IsEarlier opened run other link → bytes ≡ payload
      before_it e = same_payload opened run other link xid bytes payload e opens matched (executed_of (opened other) other run front (mid ++ execute ∷ after) xid now bytes at answer typed (matched other e) in_run) own

      -- a later link had begun, so the client had left this one
      left : IsEarlier opened run link other → (b : Bool) → eqb other link ≡ b → bytes ≡ payload
      left e true equal = before_it (record { began = []; links = []; goes_on = sym (eqb-true other link equal) })
      left e false differ =
          absurd (until before xid moment payload place reply (record { after = after; is = is }) (record {
            next = other;
            goes_on = e;
            other = λ equal. (let no : true ≡ false = sym (eq-eqb other link equal) ∙ differ in cc);
            begun = subst (λ (r : List Mark). events other Responder r ≢ []) (sym there) (executed_some other front mid xid now bytes at answer);
          }))

      by : IsEarlier opened run link other ⊎ IsEarlier opened run other link → bytes ≡ payload
      by (inl e) = left e (eqb other link) refl
      by (inr e) = before_it e

pub links_are_at_places_until_left : LinksAreAtPlacesUntilLeft
links_are_at_places_until_left reply_to adds opened link T run typed journaled keeps clients opens matched until =
    links_at_places reply_to adds opened link T run typed journaled keeps (λ some. far opened link run typed clients opens matched until) (same_payloads opened link run typed clients opens matched until)
