-- The bytes of the marks of a shared requester's history.
use Rattle.std.proofs.Common.{◌≡◌, ◌≢◌, ℕ, Bool, true, cond, ◌&&◌, eqb, List, [], ◌∷◌, ◌++◌, take, drop, Option, None, Some, refl, sym, ap, subst, ◌∙◌, append_assoc, append-nil}
use Rattle.std.specs.List.{flat_map}
use Rattle.std.proofs.lemmas.Grind.{flat_map-append}
use Rattle.std.proofs.lemmas.List.{take-append-drop}
use Rattle.std.proofs.lemmas.Option.{none-some}
use Rattle.nr_wire.specs.declared.hello.Side.TheVariants.{Initiator}
use Rattle.nr_reduce.specs.declared.mark.Mark.{Mark}
use Rattle.nr_reduce.specs.History.{bytes_received, bytes_sent, fed_at, written_at}
use Rattle.nr_reduce.proofs.Standing.{itself}
use Rattle.nr_shared.specs.declared.entry.Entry.{Entry}
use Rattle.nr_shared.specs.declared.entry.Entry.TheVariants as entries
use Rattle.nr_shared.specs.declared.entry.Stop.{Stop}
use Rattle.nr_shared.specs.declared.entry.Stop.TheVariants as causes
use Rattle.nr_shared.specs.Histories.{bytes_fed, bytes_written, present, present_after, rejoins, stop_of, tries_of, written_by}
use Rattle.nr_shared.specs.OneLink.{mark_at, run_of}
use Rattle.nr_shared.specs.Output.{EntriesMayFollow, IsTryLeft, MayFollow, MayStop}
use Rattle.nr_shared.proofs.Histories.{stop_end}

-- ---- Bytes that were written

one_kept : (link : ℕ) (bytes : List ℕ) → cond (eqb link link && true) bytes [] ++ [] ≡ bytes
one_kept link bytes = ap (λ (b : Bool). cond (b && true) bytes [] ++ []) (itself link) ∙ append-nil bytes

written_one : (n link : ℕ) (e : Entry) → flat_map (written_at link Initiator) (mark_at n link e) ≡ written_by e
written_one n link (entries.Wrote bytes) = one_kept link bytes
written_one n link (entries.Initial initial) = refl
written_one n link (entries.Submit call form xid) = refl
written_one n link (entries.Fed bytes previous) = refl
written_one n link (entries.Done xid outcome submit) = refl
written_one n link (entries.Lost xid submit) = refl
written_one n link (entries.Forget xid submit) = refl
written_one n link (entries.Revoke xid bytes submit) = refl
written_one n link entries.WriteFailed = refl
written_one n link (entries.Stopped cause previous) = refl
written_one n link (entries.OutOfMemory piece previous) = refl
written_one n link (entries.Rejoin sink previous) = refl

written_all : (n link : ℕ) (history : List Entry) → flat_map (written_at link Initiator) (flat_map (mark_at n link) history) ≡ bytes_written history
written_all n link [] = refl
written_all n link (e ∷ history) =
    flat_map-append (written_at link Initiator) (mark_at n link e) (flat_map (mark_at n link) history)
    ∙ ap (λ (l : List ℕ). l ++ flat_map (written_at link Initiator) (flat_map (mark_at n link) history)) (written_one n link e)
    ∙ ap (λ (l : List ℕ). written_by e ++ l) (written_all n link history)

pub history_sent : (alone : List Mark) (n link : ℕ) (history : List Entry) → bytes_sent link Initiator (run_of alone n link history) ≡ bytes_sent link Initiator alone ++ bytes_written history
unfolding run_of bytes_sent
history_sent alone n link history =
    flat_map-append (written_at link Initiator) alone (flat_map (mark_at n link) history)
    ∙ ap (λ (l : List ℕ). flat_map (written_at link Initiator) alone ++ l) (written_all n link history)

-- ---- Bytes that were fed

abbrev pub fed_in : ℕ → ℕ → List Entry → List ℕ
fed_in n link history = flat_map (fed_at link Initiator) (flat_map (mark_at n link) history)

-- the same of the first entries of a history whose link isn't dialled again
none_tries : (front rest : List Entry) → tries_of (front ++ rest) ≡ None → tries_of front ≡ None
none_tries [] rest none = refl
none_tries (entries.Initial initial ∷ front) rest none = none
none_tries (entries.Submit call form xid ∷ front) rest none = refl
none_tries (entries.Wrote bytes ∷ front) rest none = refl
none_tries (entries.Fed bytes previous ∷ front) rest none = refl
none_tries (entries.Done xid outcome submit ∷ front) rest none = refl
none_tries (entries.Lost xid submit ∷ front) rest none = refl
none_tries (entries.Forget xid submit ∷ front) rest none = refl
none_tries (entries.Revoke xid bytes submit ∷ front) rest none = refl
none_tries (entries.WriteFailed ∷ front) rest none = refl
none_tries (entries.Stopped cause previous ∷ front) rest none = refl
none_tries (entries.OutOfMemory piece previous ∷ front) rest none = refl
none_tries (entries.Rejoin sink previous ∷ front) rest none = refl

-- why no more is fed over it stays so
stop_stays : (front : List Entry) (e : Entry) (cause : Stop) → MayFollow front e → tries_of front ≡ None → stop_of front ≡ Some cause → stop_of (front ++ e ∷ []) ≡ Some cause
stop_stays front e cause may none is = stop_end front e ∙ by e may
  where
    no_try : IsTryLeft (tries_of front) (rejoins front) → ⊥
    no_try left = subst (λ (o : Option ℕ). IsTryLeft o (rejoins front)) none left

    fed_not : stop_of front ≡ None → ⊥
    fed_not goes = absurd (none-some cause (sym goes ∙ is))

    no_stop : (c : Stop) → MayStop c front → ⊥
    no_stop causes.LinkRead may = fed_not may.0
    no_stop causes.Closed may = fed_not may.0
    no_stop causes.Budget may = fed_not may.0
    no_stop causes.Memory may = may
    no_stop causes.DialFault may = may
    no_stop (causes.Spent left need) may = no_try may.0.try_left
    no_stop causes.NotReopened may = no_try may.try_left

    by : (x : Entry) → MayFollow front x → (present_after (present front) x).stopped ≡ Some cause
    by (entries.Initial initial) may = is
    by (entries.Submit call form xid) may = is
    by (entries.Wrote bytes) may = is
    by (entries.Fed bytes previous) may = is
    by (entries.Done xid outcome submit) may = is
    by (entries.Lost xid submit) may = is
    by (entries.Forget xid submit) may = is
    by (entries.Revoke xid bytes submit) may = is
    by entries.WriteFailed may = is
    by (entries.Stopped c previous) may = absurd (no_stop c may)
    by (entries.OutOfMemory piece previous) may = absurd (fed_not may.0)
    by (entries.Rejoin sink previous) may = absurd (no_try may.try_left)

-- after an end nothing is fed
record FeedsNone (n link : ℕ) (front rest : List Entry) (cause : Stop) : Type 0 where
  marks : fed_in n link rest ≡ []
  bytes : bytes_fed rest ≡ []
  stays : stop_of (front ++ rest) ≡ Some cause

none_fed : (n link : ℕ) (front rest : List Entry) (cause : Stop) → EntriesMayFollow (front ++ rest) → tries_of (front ++ rest) ≡ None → stop_of front ≡ Some cause → FeedsNone n link front rest cause
none_fed n link front [] cause may none is = record { marks = refl; bytes = refl; stays = ap (λ (h : List Entry). stop_of h) (append-nil front) ∙ is }
none_fed n link front (e ∷ rest) cause may none is =
    let whole = append_assoc front (e ∷ []) rest in
    let later = none_fed n link (front ++ e ∷ []) rest cause (λ before after x same. may before after x (sym whole ∙ same)) (ap (λ (h : List Entry). tries_of h) whole ∙ none)
    (stop_stays front e cause (may front rest e refl) (none_tries front (e ∷ rest) none) is) in
    let moved = by e (may front rest e refl) later.marks later.bytes in
    record { marks = moved.0; bytes = moved.1; stays = ap (λ (h : List Entry). stop_of h) (sym whole) ∙ later.stays }
  where
    fed_not : stop_of front ≡ None → ⊥
    fed_not goes = absurd (none-some cause (sym goes ∙ is))

    by : (x : Entry) → MayFollow front x → fed_in n link rest ≡ [] → bytes_fed rest ≡ [] → (fed_in n link (x ∷ rest) ≡ []) × (bytes_fed (x ∷ rest) ≡ [])
    by (entries.Fed bytes previous) follows marks_none bytes_none = absurd (fed_not follows.0)
    by (entries.OutOfMemory piece previous) follows marks_none bytes_none = absurd (fed_not follows.0)
    by (entries.Initial initial) follows marks_none bytes_none = (marks_none, bytes_none)
    by (entries.Submit call form xid) follows marks_none bytes_none = (marks_none, bytes_none)
    by (entries.Wrote bytes) follows marks_none bytes_none = (marks_none, bytes_none)
    by (entries.Done xid outcome submit) follows marks_none bytes_none = (marks_none, bytes_none)
    by (entries.Lost xid submit) follows marks_none bytes_none = (marks_none, bytes_none)
    by (entries.Forget xid submit) follows marks_none bytes_none = (marks_none, bytes_none)
    by (entries.Revoke xid bytes submit) follows marks_none bytes_none = (marks_none, bytes_none)
    by entries.WriteFailed follows marks_none bytes_none = (marks_none, bytes_none)
    by (entries.Stopped c previous) follows marks_none bytes_none = (marks_none, bytes_none)
    by (entries.Rejoin sink previous) follows marks_none bytes_none = (marks_none, bytes_none)

-- All bytes that were fed are those of its marks, and then some of a piece for which memory ran out.
pub record FeedsAll (n link : ℕ) (history : List Entry) : Type 0 where
  pub ahead : List ℕ
  pub is : fed_in n link history ++ ahead ≡ bytes_fed history
  pub all : stop_of history ≢ Some causes.Memory → ahead ≡ []

-- the same of the entries that follow on others
record FeedsRest (n link : ℕ) (front rest : List Entry) : Type 0 where
  ahead : List ℕ
  is : fed_in n link rest ++ ahead ≡ bytes_fed rest
  all : stop_of (front ++ rest) ≢ Some causes.Memory → ahead ≡ []

-- the same of an entry and those after it; `front` has the entry at its end
record FeedsWith (n link : ℕ) (front : List Entry) (x : Entry) (rest : List Entry) : Type 0 where
  ahead : List ℕ
  is : fed_in n link (x ∷ rest) ++ ahead ≡ bytes_fed (x ∷ rest)
  all : stop_of (front ++ rest) ≢ Some causes.Memory → ahead ≡ []

all_fed : (n link : ℕ) (front rest : List Entry) → EntriesMayFollow (front ++ rest) → tries_of (front ++ rest) ≡ None → FeedsRest n link front rest
all_fed n link front [] may none = record { ahead = []; is = refl; all = λ other. refl }
all_fed n link front (e ∷ rest) may none =
    let whole = append_assoc front (e ∷ []) rest in
    let later : EntriesMayFollow ((front ++ e ∷ []) ++ rest) = λ before after x same. may before after x (sym whole ∙ same) in
    let none_later : tries_of ((front ++ e ∷ []) ++ rest) ≡ None = ap (λ (h : List Entry). tries_of h) whole ∙ none in
    let a = by e (λ cause is. none_fed n link (front ++ e ∷ []) rest cause later none_later is) (stop_end front e) (all_fed n link (front ++ e ∷ []) rest later none_later) in
    record { ahead = a.ahead; is = a.is; all = λ other. a.all (λ is. other (ap (λ (h : List Entry). stop_of h) (sym whole) ∙ is)) }
  where
    by : (x : Entry) → ((cause : Stop) → stop_of (front ++ e ∷ []) ≡ Some cause → FeedsNone n link (front ++ e ∷ []) rest cause) → stop_of (front ++ e ∷ []) ≡ (present_after (present front) x).stopped
        → FeedsRest n link (front ++ e ∷ []) rest → FeedsWith n link (front ++ e ∷ []) x rest
    by (entries.Fed bytes previous) nothing is r = record {
      ahead = r.ahead;
      is = append_assoc (cond (eqb link link && true) bytes []) (fed_in n link rest) r.ahead
          ∙ ap (λ (b : Bool). cond (b && true) bytes [] ++ (fed_in n link rest ++ r.ahead)) (itself link)
          ∙ ap (λ (l : List ℕ). bytes ++ l) r.is;
      all = r.all;
    }
    by (entries.OutOfMemory piece previous) nothing is r =
        let none_more = nothing causes.Memory is in
        record {
          ahead = drop n piece;
          is = ap (λ (b : Bool). (cond (b && true) (take n piece) [] ++ fed_in n link rest) ++ drop n piece) (itself link)
              ∙ ap (λ (l : List ℕ). (take n piece ++ l) ++ drop n piece) none_more.marks
              ∙ ap (λ (l : List ℕ). l ++ drop n piece) (append-nil (take n piece))
              ∙ take-append-drop n piece
              ∙ sym (ap (λ (l : List ℕ). piece ++ l) none_more.bytes ∙ append-nil piece);
          all = λ other. absurd (other none_more.stays);
        }
    by (entries.Stopped cause previous) nothing is r =
        let none_more = nothing cause is in
        record { ahead = []; is = append-nil (fed_in n link rest) ∙ none_more.marks ∙ sym none_more.bytes; all = λ other. refl }
    by (entries.Initial initial) nothing is r = record { ahead = r.ahead; is = r.is; all = r.all }
    by (entries.Submit call form xid) nothing is r = record { ahead = r.ahead; is = r.is; all = r.all }
    by (entries.Wrote bytes) nothing is r = record { ahead = r.ahead; is = r.is; all = r.all }
    by (entries.Done xid outcome submit) nothing is r = record { ahead = r.ahead; is = r.is; all = r.all }
    by (entries.Lost xid submit) nothing is r = record { ahead = r.ahead; is = r.is; all = r.all }
    by (entries.Forget xid submit) nothing is r = record { ahead = r.ahead; is = r.is; all = r.all }
    by (entries.Revoke xid bytes submit) nothing is r = record { ahead = r.ahead; is = r.is; all = r.all }
    by entries.WriteFailed nothing is r = record { ahead = r.ahead; is = r.is; all = r.all }
    by (entries.Rejoin sink previous) nothing is r = record { ahead = r.ahead; is = r.is; all = r.all }

pub history_fed : (n link : ℕ) (history : List Entry) → EntriesMayFollow history → tries_of history ≡ None → FeedsAll n link history
history_fed n link history may none = let a = all_fed n link [] history may none in record { ahead = a.ahead; is = a.is; all = a.all }

pub history_received : (alone : List Mark) (n link : ℕ) (history : List Entry) (f : FeedsAll n link history)
    → bytes_received link Initiator (run_of alone n link history) ++ f.ahead ≡ bytes_received link Initiator alone ++ bytes_fed history
unfolding run_of bytes_received
history_received alone n link history f =
    ap (λ (l : List ℕ). l ++ f.ahead) (flat_map-append (fed_at link Initiator) alone (flat_map (mark_at n link) history))
    ∙ append_assoc (flat_map (fed_at link Initiator) alone) (fed_in n link history) f.ahead
    ∙ ap (λ (l : List ℕ). flat_map (fed_at link Initiator) alone ++ l) f.is
