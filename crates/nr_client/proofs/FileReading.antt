-- A file is read: one READ more is submitted, or answered.
use Rattle.std.proofs.Common.{◌≡◌, ℕ, suc, ◌+◌, ◌<◌, ◌≤◌, if◌then◌else◌, List, [], ◌∷◌, ◌++◌, length, Option, Result, Ok, inl, inr, ◌⊎◌, refl, sym, ap, subst, ◌∙◌}
use Rattle.std.proofs.lemmas.Bool.{lt-ltb}
use Rattle.std.proofs.lemmas.List.Sums.{fold-append}
use Rattle.std.proofs.KnownBytes.{Appends-nil, Appends-trans}
use Rattle.nr_nfs_base.specs.declared.attributes.Attributes.{Attributes}
use Rattle.nr_nfs_res.specs.declared.bytes.ReadOk.{ReadOk}
use Rattle.nr_reduce.specs.declared.call.Call.{Call}
use Rattle.nr_reduce.specs.declared.call.Outcome.{Outcome}
use Rattle.nr_client.specs.declared.client_end.ClientEnd.{ClientEnd}
use Rattle.nr_client.specs.Following.Next.{Calls}
use Rattle.nr_client.specs.Reading.{FileRead, IsMadeAlone, OpenRead, after_reply, file_read, is_at_piece, next_read, piece_left, read_ahead, read_call, read_result, reading, reads_max, starts_at, with_data, with_size, ReadingOver, IsMadeAheadOver, NoneIsMadeAheadOver}
use Rattle.nr_client.specs.Reading.FileRead.{NothingKnown, SizeKnown}
use Rattle.nr_client.specs.Reading.ReadStepOver.{MakesAlone, AsksAhead, TakesOldest, Looks}
use Rattle.nr_client.specs.Requests.{getattr_call, getattr_result, AsksOver}
use Rattle.nr_client.specs.private.OpenReads.{GivesData, IsFull, IsInPiece, MayAsk, ReadSoFar, ReadsAhead, reads_from}
use Rattle.nr_client.specs.Relations.{CallRelations, KeepsTicketsOver, LooksOver, OpensTicketOver}
use Rattle.nr_client.proofs.FilePieces.{asks_next, asks_none, next_after_last, not_at_piece, now_at_piece, reads_with_last}
use Rattle.nr_client.proofs.Tickets.{open_with_last, still_open}

-- a moment of it
abbrev pub moment : {V : Type 0} → List Outcome → List OpenRead → V → ReadingOver V
moment outcomes waiting b = record { outcomes = outcomes; waiting = waiting; link = b }

-- what comes next: a READ before the size, and nothing from there on
pub next_is : (uid gid : ℕ) (file : List ℕ) (size at : ℕ) (bytes : List ℕ) → at < size
    → next_read uid gid file (SizeKnown size at bytes) ≡ Calls (read_call uid gid file at (piece_left size at))
next_is uid gid file size at bytes below = rw (lt-ltb at size below) refl

pub follows : (uid gid : ℕ) (file : List ℕ) (size at : ℕ) (bytes : List ℕ) (outcomes : List Outcome) → at < size → file_read outcomes ≡ SizeKnown size at bytes
    → reading uid gid file outcomes ≡ Calls (read_call uid gid file at (piece_left size at))
follows uid gid file size at bytes outcomes below state = ap (next_read uid gid file) state ∙ next_is uid gid file size at bytes below

-- one outcome more
pub state_after : (outcomes : List Outcome) (outcome : Outcome) (state : FileRead) → file_read outcomes ≡ state → file_read (outcomes ++ outcome ∷ []) ≡ after_reply state outcome
state_after outcomes outcome state is = fold-append after_reply NothingKnown outcomes (outcome ∷ []) ∙ ap (λ (s : FileRead). after_reply s outcome) is

pub came_with : (outcomes : List Outcome) (outcome : Outcome) (size at : ℕ) (bytes : List ℕ) (read : Result ReadOk ClientEnd) → file_read outcomes ≡ SizeKnown size at bytes
    → read_result (piece_left size at) outcome ≡ read → file_read (outcomes ++ outcome ∷ []) ≡ with_data size at bytes read
came_with outcomes outcome size at bytes read state reads = state_after outcomes outcome (SizeKnown size at bytes) state ∙ ap (with_data size at bytes) reads

-- ---- Each step

pub read_started : {V : Type 0} (rel : CallRelations V) (uid gid : ℕ) (file : List ℕ) (b c : V) (taken : Option (List ℕ)) (attributes : Attributes)
    → AsksOver rel getattr_result (getattr_call uid gid file) b c (Ok attributes) → ReadSoFar rel uid gid file attributes.size (starts_at b) taken 0 0 [] c taken
read_started {V} rel uid gid file b c taken attributes (inl (outcome, (answered, reads))) =
    record {
      between = starts_at b ∷ [];
      outcomes = outcome ∷ [];
      bytes = [];
      made = (MakesAlone (getattr_call uid gid file) outcome (refl, refl) answered refl refl, refl);
      state = ap with_size reads;
      appends = Appends-nil taken;
    }
read_started {V} rel uid gid file b c taken attributes (inr (inl (end, (is, rest)))) = absurd (cc)
read_started {V} rel uid gid file b c taken attributes (inr (inr (is, rest))) = absurd (cc)

reads_length : (uid gid : ℕ) (file : List ℕ) (size from : ℕ) (xids : List ℕ) → length (reads_from uid gid file size from xids) ≡ length xids
reads_length uid gid file size from [] = refl
reads_length uid gid file size from (xid ∷ xids) = ap suc (reads_length uid gid file size (from + piece_left size from) xids)

-- a READ is submitted ahead
pub is_ahead : {V : Type 0} (rel : CallRelations V) (uid gid : ℕ) (file : List ℕ) (size at next : ℕ) (xids : List ℕ) (bytes : List ℕ) (outcomes : List Outcome) (b : V)
    → at < size → file_read outcomes ≡ SizeKnown size at bytes → ReadsAhead rel b size at next xids → MayAsk rel size next xids b
    → IsMadeAheadOver rel uid gid file (moment outcomes (reads_from uid gid file size at xids) b) (read_call uid gid file next (piece_left size next))
is_ahead {V} rel uid gid file size at next xids bytes outcomes b below state ahead may = (
  ap is_at_piece state ∙ now_at_piece size at below ahead.piece bytes,
  (
    ap (λ (s : FileRead). read_ahead uid gid file s (reads_from uid gid file size at xids)) state ∙ asks_next uid gid file size at next xids bytes may.0 ahead.next_is,
    by may.1,
  ),
)
  where
    by : (xids ≡ []) ⊎ (rel.has_credit b × (length xids < reads_max)) → (reads_from uid gid file size at xids ≡ []) ⊎ (rel.has_credit b × (length (reads_from uid gid file size at xids) < reads_max))
    by (inl none) = inl (ap (reads_from uid gid file size at) none)
    by (inr (credit, fewer)) = inr (credit, subst (λ (n : ℕ). n < reads_max) (sym (reads_length uid gid file size at xids)) fewer)

pub asked_more : {V : Type 0} (rel : CallRelations V) (uid gid : ℕ) (file : List ℕ) (size at next : ℕ) (xids : List ℕ) (xid : ℕ) (first : ReadingOver V) (t u : Option (List ℕ)) (b c : V)
    → at < size → ReadsAhead rel b size at next xids → MayAsk rel size next xids b → rel.submits b c (read_call uid gid file next (piece_left size next)) xid
    → ReadSoFar rel uid gid file size first t at at xids b u → ReadSoFar rel uid gid file size first t at at (xids ++ xid ∷ []) c u
asked_more {V} rel uid gid file size at next xids xid first t u b c below ahead may submits so_far =
    let read : OpenRead = record { xid = xid; call = read_call uid gid file next (piece_left size next) } in
    let waiting = reads_from uid gid file size at xids in
    let last : reads_from uid gid file size at (xids ++ xid ∷ []) ≡ waiting ++ read ∷ [] =
    reads_with_last uid gid file size at xids xid
    ∙ ap (λ (n : ℕ). waiting ++ (record { xid = xid; call = read_call uid gid file n (piece_left size n) }) ∷ []) (sym ahead.next_is) in
    record {
      between = moment so_far.outcomes waiting b ∷ so_far.between;
      outcomes = so_far.outcomes;
      bytes = so_far.bytes;
      made = (AsksAhead read (is_ahead rel uid gid file size at next xids so_far.bytes so_far.outcomes b below so_far.state ahead may) submits refl last, so_far.made);
      state = so_far.state;
      appends = so_far.appends;
    }

-- the link was asked whether a call can be submitted, or it wasn't
pub looks_not : {V : Type 0} (rel : CallRelations V) (v : V) → LooksOver rel v v
looks_not rel v = inl refl

pub looked_ahead : {V : Type 0} (rel : CallRelations V) (v w : V) (size at next : ℕ) (xids : List ℕ) → KeepsTicketsOver rel v w → ReadsAhead rel v size at next xids → ReadsAhead rel w size at next xids
looked_ahead rel v w size at next xids keeps ahead = record { piece = ahead.piece; next_is = ahead.next_is; open_all = still_open rel v w xids keeps ahead.open_all }

pub looked_on : {V : Type 0} (rel : CallRelations V) (uid gid : ℕ) (file : List ℕ) (size at from : ℕ) (xids : List ℕ) (first : ReadingOver V) (t u : Option (List ℕ)) (b c : V)
    → LooksOver rel b c → ReadSoFar rel uid gid file size first t at from xids b u → ReadSoFar rel uid gid file size first t at from xids c u
looked_on {V} rel uid gid file size at from xids first t u b c (inl same) so_far = subst (λ (v : V). ReadSoFar rel uid gid file size first t at from xids v u) (sym same) so_far
looked_on rel uid gid file size at from xids first t u b c (inr looks) so_far = record {
  between = moment so_far.outcomes (reads_from uid gid file size from xids) b ∷ so_far.between;
  outcomes = so_far.outcomes;
  bytes = so_far.bytes;
  made = (Looks looks refl refl, so_far.made);
  state = so_far.state;
  appends = so_far.appends;
}

-- no other is
pub none_ahead : {V : Type 0} (rel : CallRelations V) (uid gid : ℕ) (file : List ℕ) (size at next : ℕ) (xids : List ℕ) (bytes : List ℕ) (outcomes : List Outcome) (b : V)
    → file_read outcomes ≡ SizeKnown size at bytes → ReadsAhead rel b size at next xids → IsFull rel size next xids b
    → NoneIsMadeAheadOver rel uid gid file (moment outcomes (reads_from uid gid file size at xids) b)
none_ahead {V} rel uid gid file size at next xids bytes outcomes b state ahead (inl above) =
    inl (ap (λ (s : FileRead). read_ahead uid gid file s (reads_from uid gid file size at xids)) state ∙ asks_none uid gid file size at next xids bytes above ahead.next_is)
none_ahead {V} rel uid gid file size at next xids bytes outcomes b state ahead (inr (some, inl full)) = inr (inl full)
none_ahead {V} rel uid gid file size at next xids bytes outcomes b state ahead (inr (some, inr many)) = inr (inr (subst (λ (n : ℕ). reads_max ≤ n) (sym (reads_length uid gid file size at xids)) many))

-- the state after the data of a READ were written
pub data_came : (size at at' count step : ℕ) (bytes : List ℕ) (outcomes : List Outcome) (outcome : Outcome) (results : ReadOk) → file_read outcomes ≡ SizeKnown size at bytes
    → count ≡ piece_left size at → at' ≡ at + step → read_result count outcome ≡ Ok results → step ≡ (if results.eof then count else length results.bytes)
    → file_read (outcomes ++ outcome ∷ []) ≡ SizeKnown size at' (bytes ++ results.bytes)
data_came size at at' count step bytes outcomes outcome results state same goes reads is =
    came_with outcomes outcome size at bytes (Ok results) state (subst (λ (n : ℕ). read_result n outcome ≡ Ok results) same reads)
    ∙ ap (λ (k : ℕ). SizeKnown size k (bytes ++ results.bytes)) (ap (λ (n : ℕ). at + (if results.eof then n else length results.bytes)) (sym same) ∙ ap (λ (n : ℕ). at + n) (sym is) ∙ sym goes)

-- the oldest READ was answered
pub taken_more : {V : Type 0} (rel : CallRelations V) (uid gid : ℕ) (file : List ℕ) (size at at' next count step : ℕ) (xid : ℕ) (xids : List ℕ) (outcome : Outcome) (first : ReadingOver V) (t u v : Option (List ℕ)) (b c : V)
    → at < size → ReadsAhead rel b size at next (xid ∷ xids) → IsFull rel size next (xid ∷ xids) b → count ≡ piece_left size at → at' ≡ at + step
    → rel.completes xid outcome b c → GivesData count outcome step u v
    → ReadSoFar rel uid gid file size first t at at (xid ∷ xids) b u → ReadSoFar rel uid gid file size first t at' (at + piece_left size at) xids c v
taken_more {V} rel uid gid file size at at' next count step xid xids outcome first t u v b c below ahead full same goes completes (results, (reads, (is, appends))) so_far =
    record {
      between = moment so_far.outcomes (reads_from uid gid file size at (xid ∷ xids)) b ∷ so_far.between;
      outcomes = so_far.outcomes ++ outcome ∷ [];
      bytes = so_far.bytes ++ results.bytes;
      made = (
        TakesOldest (record { xid = xid; call = read_call uid gid file at (piece_left size at) }) outcome
            (none_ahead rel uid gid file size at next (xid ∷ xids) so_far.bytes so_far.outcomes b so_far.state ahead full)
            (follows uid gid file size at so_far.bytes so_far.outcomes below so_far.state) completes refl refl,
        so_far.made,
      );
      state = data_came size at at' count step so_far.bytes so_far.outcomes outcome results so_far.state same goes reads is;
      appends = Appends-trans t u v so_far.bytes results.bytes so_far.appends appends;
    }

-- a READ of the rest of a piece is made alone
pub is_alone : {V : Type 0} (rel : CallRelations V) (uid gid : ℕ) (file : List ℕ) (size at end : ℕ) (waiting : List OpenRead) (bytes : List ℕ) (outcomes : List Outcome) (b : V)
    → at < size → at < end → IsInPiece size at end → file_read outcomes ≡ SizeKnown size at bytes
    → IsMadeAlone uid gid file (moment outcomes waiting b) (read_call uid gid file at (piece_left size at))
is_alone {V} rel uid gid file size at end waiting bytes outcomes b below within piece state =
    (follows uid gid file size at bytes outcomes below state, ap is_at_piece state ∙ not_at_piece size at end within piece bytes)

pub alone_more : {V : Type 0} (rel : CallRelations V) (uid gid : ℕ) (file : List ℕ) (size at at' end count step from : ℕ) (xids : List ℕ) (outcome : Outcome) (first : ReadingOver V) (t u v : Option (List ℕ)) (b c : V)
    → at < size → at < end → IsInPiece size at end → count ≡ piece_left size at → at' ≡ at + step
    → rel.answers b c (read_call uid gid file at count) outcome → GivesData count outcome step u v
    → ReadSoFar rel uid gid file size first t at from xids b u → ReadSoFar rel uid gid file size first t at' from xids c v
alone_more {V} rel uid gid file size at at' end count step from xids outcome first t u v b c below within piece same goes answered (results, (reads, (is, appends))) so_far =
    let waiting = reads_from uid gid file size from xids in
    let alone : rel.answers b c (read_call uid gid file at (piece_left size at)) outcome = subst (λ (n : ℕ). rel.answers b c (read_call uid gid file at n) outcome) same answered in
    record {
      between = moment so_far.outcomes waiting b ∷ so_far.between;
      outcomes = so_far.outcomes ++ outcome ∷ [];
      bytes = so_far.bytes ++ results.bytes;
      made = (
        MakesAlone (read_call uid gid file at (piece_left size at)) outcome (is_alone rel uid gid file size at end waiting so_far.bytes so_far.outcomes b below within piece so_far.state) alone refl refl,
        so_far.made,
      );
      state = data_came size at at' count step so_far.bytes so_far.outcomes outcome results so_far.state same goes reads is;
      appends = Appends-trans t u v so_far.bytes results.bytes so_far.appends appends;
    }

pub taken_from : {V : Type 0} (rel : CallRelations V) (uid gid : ℕ) (file : List ℕ) (size at at' next count step : ℕ) (xid : ℕ) (xs xids : List ℕ) (outcome : Outcome) (first : ReadingOver V) (t u v : Option (List ℕ)) (b c : V)
    → xs ≡ xid ∷ xids → at < size → ReadsAhead rel b size at next xs → IsFull rel size next xs b → count ≡ piece_left size at → at' ≡ at + step
    → rel.completes xid outcome b c → GivesData count outcome step u v
    → ReadSoFar rel uid gid file size first t at at xs b u → ReadSoFar rel uid gid file size first t at' (at + piece_left size at) xids c v
taken_from {V} rel uid gid file size at at' next count step xid xs xids outcome first t u v b c is below ahead full same goes completes gives so_far =
    taken_more rel uid gid file size at at' next count step xid xids outcome first t u v b c below
    (subst (λ (l : List ℕ). ReadsAhead rel b size at next l) is ahead) (subst (λ (l : List ℕ). IsFull rel size next l b) is full) same goes completes gives
    (subst (λ (l : List ℕ). ReadSoFar rel uid gid file size first t at at l b u) is so_far)

-- ---- A READ that was submitted, by the call and the tickets

call_is : (uid gid : ℕ) (file : List ℕ) (size next count : ℕ) (call : Call) → call ≡ read_call uid gid file next count → count ≡ piece_left size next
    → call ≡ read_call uid gid file next (piece_left size next)
call_is uid gid file size next count call is same = is ∙ ap (read_call uid gid file next) same

pub asked_from : {V : Type 0} (rel : CallRelations V) (uid gid : ℕ) (file : List ℕ) (size at next count : ℕ) (xids ys : List ℕ) (xid : ℕ) (call : Call) (first : ReadingOver V) (t u : Option (List ℕ)) (b c : V)
    → ys ≡ xids ++ xid ∷ [] → call ≡ read_call uid gid file next count → count ≡ piece_left size next
    → at < size → ReadsAhead rel b size at next xids → MayAsk rel size next xids b → rel.submits b c call xid
    → ReadSoFar rel uid gid file size first t at at xids b u → ReadSoFar rel uid gid file size first t at at ys c u
asked_from {V} rel uid gid file size at next count xids ys xid call first t u b c all is same below ahead may submits so_far =
    subst (λ (l : List ℕ). ReadSoFar rel uid gid file size first t at at l c u) (sym all)
    (asked_more rel uid gid file size at next xids xid first t u b c below ahead may
    (subst (λ (a : Call). rel.submits b c a xid) (call_is uid gid file size next count call is same) submits) so_far)

pub ahead_from : {V : Type 0} (rel : CallRelations V) (size at next count : ℕ) (xids ys : List ℕ) (xid : ℕ) (call : Call) (v w : V)
    → ys ≡ xids ++ xid ∷ [] → count ≡ piece_left size next → OpensTicketOver rel xid call v w → ReadsAhead rel v size at next xids → ReadsAhead rel w size at (next + count) ys
ahead_from {V} rel size at next count xids ys xid call v w all same opens ahead =
    subst (λ (l : List ℕ). ReadsAhead rel w size at (next + count) l) (sym all)
    (record {
      piece = ahead.piece;
      next_is =
          ap (λ (n : ℕ). next + n) same ∙ ap (λ (n : ℕ). n + piece_left size n) ahead.next_is ∙ sym (next_after_last size at xids xid);
      open_all = open_with_last rel xid call v w xids opens ahead.open_all;
    })
