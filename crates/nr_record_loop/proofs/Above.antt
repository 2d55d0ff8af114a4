-- A fragment takes its record above the limit, and the records before it were answered.
use Rattle.std.proofs.Common.{◌≡◌, ℕ, List, ◌++◌, length, Option, Some, refl, sym, ap, ◌∙◌, subst, append_assoc, append-nil, arith}
use Rattle.nr_record.specs.Constants.{RECORD_MAX}
use Rattle.nr_record.specs.Records.{Cut, IsAboveAt, contents, encodings, fragments}
use Rattle.nr_record.specs.RecordsState.{IsAbove, IsState, RecordsState, RepresentsStream, Stands}
use Rattle.nr_record.specs.declared.fault.RecordFault.{RecordFault}
use Rattle.nr_record.specs.declared.fault.RecordFault.TheVariants as faults
use Rattle.nr_record.proofs.Above.{bad_above}
use Rattle.nr_record.proofs.Begun.{all_fit, all_short}
use Rattle.nr_record_loop.specs.Connections.{Exchange, IsTooLong, calls}
use Rattle.nr_record_loop.specs.private.Steps.{HasRead}
use Rattle.nr_record_loop.proofs.Exchanges.{contents_both}
use Rattle.nr_record_loop.proofs.Readers.{go_on, none_more}

-- it stands after these records
pub record AboveAfter (stream : List ℕ) (at : ℕ) (cuts : List Cut) : Type 0 where
  pub above : IsAboveAt stream at
  pub cuts_are : above.cuts ≡ cuts

above_now : (k : RecordsState) (stream : List ℕ) (taken at reason : ℕ) (s : Stands (IsState (Some (faults.Bad at reason)) k) k stream taken) → AboveAfter stream at s.cuts
above_now k stream taken at reason s =
    let a : IsAbove s.begun s.partial = s.state.2 in
    let e : List ℕ = encodings s.cuts in
    let f : List ℕ = fragments s.begun in
    record {
      above = record {
        cuts = s.cuts;
        fit = all_fit s.cuts s.within;
        begun = s.begun;
        begun_fit = all_short s.begun RECORD_MAX s.begun_within (omega arith);
        last = a.last;
        len = a.len;
        short = a.short;
        more = s.unread;
        above = a.above;
        stream_is = s.stream_is ∙ (ap (λ (l : List ℕ). l ++ s.unread) (sym (append_assoc e f s.partial)) ∙ (append_assoc (e ++ f) s.partial s.unread ∙ ap (λ (l : List ℕ). (e ++ f) ++ (l ++ s.unread)) a.partial_is));
        at_is = s.state.0;
      };
      cuts_are = refl;
    }

-- the records before it, as the reader has them
above_after : (k : RecordsState) (stream : List ℕ) (taken at reason : ℕ) (s : RepresentsStream k stream taken) → k.fault ≡ Some (faults.Bad at reason) → AboveAfter stream at s.cuts
above_after k stream taken at reason s bad =
    subst (λ (f : Option RecordFault). (t : Stands (IsState f k) k stream taken) → AboveAfter stream at t.cuts) (sym bad) (above_now k stream taken at reason) s

-- if all complete records were answered, these are they
pub too_long : (k : RecordsState) (stream : List ℕ) (xs : List Exchange) (at reason : ℕ) (h : HasRead k stream xs) → k.fault ≡ Some (faults.Bad at reason) → length xs ≡ length h.stands.cuts
    → IsTooLong stream (calls xs) (contents (go_on k stream xs h).more) at reason
too_long k stream xs at reason h bad all =
    let a = above_after k stream (length xs) at reason h.stands bad in
    let first = bad_above k stream (length xs) at reason h.stands bad in
    let g = go_on k stream xs h in
    let none = none_more k stream xs h all in
    record {
      others_are = ap contents none;
      fault = (first.0, a.above, first.2);
      before = ap contents (a.cuts_are ∙ g.cuts_are) ∙ contents_both h.done g.more ∙ ap (λ (m : List Cut). contents h.done ++ contents m) none
          ∙ append-nil (contents h.done) ∙ h.calls_are;
    }
