-- How the reading of a file ends.
use Rattle.std.proofs.Common.{◌≡◌, ℕ, ◌+◌, ◌<◌, ◌≤◌, List, [], ◌∷◌, ◌++◌, length, take, Option, Result, Ok, Err, inl, inr, ◌⊎◌, arith, refl, sym, ap, subst, ◌∙◌, append-nil}
use Rattle.std.proofs.lemmas.Bool.{le-ltb}
use Rattle.std.proofs.lemmas.List.{length-append}
use Rattle.std.proofs.Math.Seq.{take-append-add}
use Rattle.std.proofs.KnownBytes.{Appends-nil, Appends-trans}
use Rattle.std.specs.Io.KnownBytes.{Appends}
use Rattle.nr_nfs_base.specs.declared.attributes.Attributes.{Attributes}
use Rattle.nr_nfs_res.specs.declared.bytes.ReadOk.{ReadOk}
use Rattle.nr_reduce.specs.declared.call.Call.{Call}
use Rattle.nr_reduce.specs.declared.call.Outcome.{Outcome}
use Rattle.nr_shared.specs.declared.call_end.CallEnd.{CallEnd}
use Rattle.nr_client.specs.declared.client_end.ClientEnd.{ClientEnd}
use Rattle.nr_client.specs.declared.client_end.ClientEnd.TheVariants as client
use Rattle.nr_client.specs.Following.Next.{Returns}
use Rattle.nr_client.specs.Reading.{EndsAtReply, FileRead, OpenRead, TakesPart, bytes_of, bytes_read, file_read, next_read, piece_left, read_call, read_result, starts_at, with_size, ReadingOver, EndsReadingOver, ReadsFileOver, ForgetsCallsOver}
use Rattle.nr_client.specs.Reading.FileRead.{SizeKnown, ReadEnds}
use Rattle.nr_client.specs.Reading.ReadStepOver.{MakesAlone, TakesOldest}
use Rattle.nr_client.specs.Reading.EndsReadingOver.{EndsByReplies, OutputFails, NotAnswered, NotSubmitted, OldestForgotten}
use Rattle.nr_client.specs.Requests.{getattr_call, getattr_result, AsksOver}
use Rattle.nr_client.specs.Results.{Gives}
use Rattle.nr_client.specs.private.OpenReads.{GivesNone, HasEnded, IsFull, IsInPiece, MayAsk, ReadSoFar, ReadsAhead, reads_from}
use Rattle.nr_client.specs.Relations.{CallRelations}
use Rattle.nr_client.specs.Following.{UnansweredOver}
use Rattle.nr_client.proofs.CallsMade.{end_in, end_of_reply}
use Rattle.nr_client.proofs.FilePieces.{xids_from}
use Rattle.nr_client.proofs.FileReading.{came_with, follows, is_ahead, is_alone, moment, none_ahead}

-- the bytes of the replies, by their state
pub takes_bytes : (outcomes : List Outcome) (state : FileRead) (t u : Option (List ℕ)) → file_read outcomes ≡ state → Appends t u (bytes_of state) → Appends t u (bytes_read outcomes)
takes_bytes outcomes state t u is appends = subst (λ (s : FileRead). Appends t u (bytes_of s)) (sym is) appends

-- nothing more was written
took_nothing : (t u v : Option (List ℕ)) (bytes : List ℕ) → Appends t u bytes → Appends u v [] → Appends t v bytes
took_nothing t u v bytes first none = subst (λ (l : List ℕ). Appends t v l) (append-nil bytes) (Appends-trans t u v bytes [] first none)

-- all was read
pub all_read : {V : Type 0} (rel : CallRelations V) (uid gid : ℕ) (file : List ℕ) (size at from : ℕ) (xids : List ℕ) (first : ReadingOver V) (t u : Option (List ℕ)) (b : V)
    → size ≤ at → ReadSoFar rel uid gid file size first t at from xids b u → HasEnded rel uid gid file first t xids b u (Ok tt)
all_read {V} rel uid gid file size at from xids first t u b above so_far =
    let returns : next_read uid gid file (SizeKnown size at so_far.bytes) ≡ Returns (Ok tt) = rw (le-ltb at size above) refl in
    record {
      between = so_far.between;
      last = moment so_far.outcomes (reads_from uid gid file size from xids) b;
      made = so_far.made;
      left = reads_from uid gid file size from xids;
      same = xids_from uid gid file size from xids;
      ends = EndsByReplies refl (inr (ap (next_read uid gid file) so_far.state ∙ returns)) refl
          (inl (takes_bytes so_far.outcomes (SizeKnown size at so_far.bytes) t u so_far.state so_far.appends));
    }

-- memory ran out before a call was made
pub out_before : {V : Type 0} (rel : CallRelations V) (uid gid : ℕ) (file : List ℕ) (size at from : ℕ) (xids : List ℕ) (first : ReadingOver V) (t u : Option (List ℕ)) (b : V)
    → ReadSoFar rel uid gid file size first t at from xids b u → HasEnded rel uid gid file first t xids b u (Err client.Memory)
out_before {V} rel uid gid file size at from xids first t u b so_far =
    record {
      between = so_far.between;
      last = moment so_far.outcomes (reads_from uid gid file size from xids) b;
      made = so_far.made;
      left = reads_from uid gid file size from xids;
      same = xids_from uid gid file size from xids;
      ends = EndsByReplies refl (inl refl) refl (inl (takes_bytes so_far.outcomes (SizeKnown size at so_far.bytes) t u so_far.state so_far.appends));
    }

-- a READ was not submitted
pub not_submitted : {V : Type 0} (rel : CallRelations V) (uid gid : ℕ) (file : List ℕ) (size at next : ℕ) (xids : List ℕ) (end : CallEnd) (first : ReadingOver V) (t u : Option (List ℕ)) (b c : V)
    → at < size → ReadsAhead rel b size at next xids → MayAsk rel size next xids b
    → rel.refuses b c (read_call uid gid file next (piece_left size next)) end
    → ReadSoFar rel uid gid file size first t at at xids b u → HasEnded rel uid gid file first t xids c u (Err (client.Link end))
not_submitted {V} rel uid gid file size at next xids end first t u b c below ahead may refuses so_far =
    record {
      between = so_far.between;
      last = moment so_far.outcomes (reads_from uid gid file size at xids) b;
      made = so_far.made;
      left = reads_from uid gid file size at xids;
      same = xids_from uid gid file size at xids;
      ends = NotSubmitted (read_call uid gid file next (piece_left size next)) end
          (is_ahead rel uid gid file size at next xids so_far.bytes so_far.outcomes b below so_far.state ahead may) refl refuses refl
          (inl (takes_bytes so_far.outcomes (SizeKnown size at so_far.bytes) t u so_far.state so_far.appends));
    }

-- the oldest READ has no answer
pub oldest_forgotten : {V : Type 0} (rel : CallRelations V) (uid gid : ℕ) (file : List ℕ) (size at next : ℕ) (xid : ℕ) (xids : List ℕ) (end : CallEnd) (first : ReadingOver V) (t u : Option (List ℕ)) (b c : V)
    → at < size → ReadsAhead rel b size at next (xid ∷ xids) → IsFull rel size next (xid ∷ xids) b → rel.forgets xid end b c
    → ReadSoFar rel uid gid file size first t at at (xid ∷ xids) b u → HasEnded rel uid gid file first t xids c u (Err (client.Link end))
oldest_forgotten {V} rel uid gid file size at next xid xids end first t u b c below ahead full forgets so_far =
    record {
      between = so_far.between;
      last = moment so_far.outcomes (reads_from uid gid file size at (xid ∷ xids)) b;
      made = so_far.made;
      left = reads_from uid gid file size (at + piece_left size at) xids;
      same = xids_from uid gid file size (at + piece_left size at) xids;
      ends = OldestForgotten (record { xid = xid; call = read_call uid gid file at (piece_left size at) }) end
          (none_ahead rel uid gid file size at next (xid ∷ xids) so_far.bytes so_far.outcomes b so_far.state ahead full)
          (follows uid gid file size at so_far.bytes so_far.outcomes below so_far.state) refl forgets refl
          (inl (takes_bytes so_far.outcomes (SizeKnown size at so_far.bytes) t u so_far.state so_far.appends));
    }

-- a READ of the rest of a piece has no answer
pub not_answered : {V : Type 0} (rel : CallRelations V) (uid gid : ℕ) (file : List ℕ) (size at end count from : ℕ) (xids : List ℕ) (why : ClientEnd) (first : ReadingOver V) (t u : Option (List ℕ)) (b c : V)
    → at < size → at < end → IsInPiece size at end → count ≡ piece_left size at → UnansweredOver rel (read_call uid gid file at count) b c why
    → ReadSoFar rel uid gid file size first t at from xids b u → HasEnded rel uid gid file first t xids c u (Err why)
not_answered {V} rel uid gid file size at end count from xids why first t u b c below within piece same unanswered so_far =
    let waiting = reads_from uid gid file size from xids in
    record {
      between = so_far.between;
      last = moment so_far.outcomes waiting b;
      made = so_far.made;
      left = waiting;
      same = xids_from uid gid file size from xids;
      ends = NotAnswered (read_call uid gid file at (piece_left size at)) why (is_alone rel uid gid file size at end waiting so_far.bytes so_far.outcomes b below within piece so_far.state) refl
          (subst (λ (n : ℕ). UnansweredOver rel (read_call uid gid file at n) b c why) same unanswered) refl
          (inl (takes_bytes so_far.outcomes (SizeKnown size at so_far.bytes) t u so_far.state so_far.appends));
    }

-- ---- A reply without data, or of which some were not written

at_none : (uid gid : ℕ) (file : List ℕ) (size at : ℕ) (bytes : List ℕ) (outcomes : List Outcome) (outcome : Outcome) (why : ClientEnd) (t u v : Option (List ℕ))
    → file_read outcomes ≡ SizeKnown size at bytes → Appends t u bytes → Gives {A = ReadOk} (Err why) (read_result (piece_left size at) outcome) → Appends u v []
    → EndsAtReply uid gid file (outcomes ++ outcome ∷ []) t v (Err why)
at_none uid gid file size at bytes outcomes outcome why t u v state appends gives none =
    by (end_of_reply {A = ReadOk} (Unit {0}) why (read_result (piece_left size at) outcome) gives)
  where
    all : Appends t v bytes
    all = took_nothing t u v bytes appends none

    by : (why ≡ client.Memory) ⊎ ((read_result (piece_left size at) outcome ≡ Err why) × Gives {A = Unit {0}} (Err why) (Err why))
        → EndsAtReply uid gid file (outcomes ++ outcome ∷ []) t v (Err why)
    by (inl memory) =
        inl (
          inl (ap (λ (e : ClientEnd). Err e) memory),
          inr (ap (λ (e : ClientEnd). Err e) memory, (outcomes, outcome, (refl, takes_bytes outcomes (SizeKnown size at bytes) t v state all))),
        )
    by (inr (reads, same)) =
        let came = came_with outcomes outcome size at bytes (Err why) state reads in
        inl (inr (ap (next_read uid gid file) came), inl (takes_bytes (outcomes ++ outcome ∷ []) (ReadEnds why bytes) t v came all))

at_part : (uid gid : ℕ) (file : List ℕ) (size at : ℕ) (before : List ℕ) (outcomes : List Outcome) (outcome : Outcome) (t u v : Option (List ℕ))
    (results : ReadOk) (n : ℕ) → file_read outcomes ≡ SizeKnown size at before → Appends t u before → read_result (piece_left size at) outcome ≡ Ok results
    → n < length results.bytes → Appends u v (take n results.bytes)
    → TakesPart (outcomes ++ outcome ∷ []) t v
at_part uid gid file size at before outcomes outcome t u v results n state appends reads short part =
    let more = outcomes ++ outcome ∷ [] in
    let all : bytes_read more ≡ before ++ results.bytes = ap (λ (s : FileRead). bytes_of s) (came_with outcomes outcome size at before (Ok results) state reads) in
    let earlier : bytes_read outcomes ≡ before = ap (λ (s : FileRead). bytes_of s) state in
    let cut : take (length before + n) (bytes_read more) ≡ before ++ take n results.bytes =
    ap (λ (l : List ℕ). take (length before + n) l) all ∙ take-append-add before results.bytes n in
    let from : length (bytes_read outcomes) ≤ length before + n =
    subst (λ (l : List ℕ). length l ≤ length before + n) (sym earlier) (omega arith) in
    let within : length before + n < length (bytes_read more) =
    subst (λ (l : List ℕ). length before + n < length l) (sym all) (omega (arith, short, length-append before results.bytes)) in
    (outcomes, outcome, length before + n, (refl, (from, (within, subst (λ (l : List ℕ). Appends t v l) (sym cut) (Appends-trans t u v before (take n results.bytes) appends part)))))

-- whichever calls were made
pub at_reply : (uid gid : ℕ) (file : List ℕ) (size at count : ℕ) (bytes : List ℕ) (outcomes : List Outcome) (outcome : Outcome) (why : ClientEnd) (t u v : Option (List ℕ))
    → count ≡ piece_left size at → file_read outcomes ≡ SizeKnown size at bytes → Appends t u bytes → GivesNone count outcome why u v
    → EndsAtReply uid gid file (outcomes ++ outcome ∷ []) t v (Err why)
at_reply uid gid file size at count bytes outcomes outcome why t u v same state appends (inl (gives, none)) =
    at_none uid gid file size at bytes outcomes outcome why t u v state appends
    (subst (λ (n : ℕ). Gives {A = ReadOk} (Err why) (read_result n outcome)) same gives) none
at_reply uid gid file size at count bytes outcomes outcome why t u v same state appends (inr (is, (results, n, (reads, (short, part))))) =
    inr (ap (λ (e : ClientEnd). Err e) is, at_part uid gid file size at bytes outcomes outcome t u v results n state appends (subst (λ (k : ℕ). read_result k outcome ≡ Ok results) same reads) short part)

of_reply : {V : Type 0} (rel : CallRelations V) (uid gid : ℕ) (file : List ℕ) (outcomes : List Outcome) (waiting : List OpenRead) (t v : Option (List ℕ)) (b : V) (given : Result (Unit {0}) ClientEnd)
    → EndsAtReply uid gid file outcomes t v given → EndsReadingOver rel uid gid file (moment outcomes waiting b) waiting b t v given
of_reply {V} rel uid gid file outcomes waiting t v b given (inl (why, took)) = EndsByReplies refl why refl took
of_reply {V} rel uid gid file outcomes waiting t v b given (inr (is, part)) = OutputFails is refl refl part

ends_data : {V : Type 0} (rel : CallRelations V) (uid gid : ℕ) (file : List ℕ) (size at count : ℕ) (bytes : List ℕ) (outcomes : List Outcome) (outcome : Outcome) (waiting : List OpenRead) (why : ClientEnd) (t u v : Option (List ℕ)) (b : V)
    → count ≡ piece_left size at → file_read outcomes ≡ SizeKnown size at bytes → Appends t u bytes → GivesNone count outcome why u v
    → EndsReadingOver rel uid gid file (moment (outcomes ++ outcome ∷ []) waiting b) waiting b t v (Err why)
ends_data {V} rel uid gid file size at count bytes outcomes outcome waiting why t u v b same state appends gives =
    of_reply rel uid gid file (outcomes ++ outcome ∷ []) waiting t v b (Err why) (at_reply uid gid file size at count bytes outcomes outcome why t u v same state appends gives)

-- of the oldest READ, and of one of the rest of a piece
pub oldest_fails : {V : Type 0} (rel : CallRelations V) (uid gid : ℕ) (file : List ℕ) (size at next count : ℕ) (xid : ℕ) (xids : List ℕ) (outcome : Outcome) (why : ClientEnd) (first : ReadingOver V) (t u v : Option (List ℕ)) (b c : V)
    → at < size → ReadsAhead rel b size at next (xid ∷ xids) → IsFull rel size next (xid ∷ xids) b → count ≡ piece_left size at → rel.completes xid outcome b c → GivesNone count outcome why u v
    → ReadSoFar rel uid gid file size first t at at (xid ∷ xids) b u → HasEnded rel uid gid file first t xids c v (Err why)
oldest_fails {V} rel uid gid file size at next count xid xids outcome why first t u v b c below ahead full same completes gives so_far =
    let waiting = reads_from uid gid file size (at + piece_left size at) xids in
    record {
      between = moment so_far.outcomes (reads_from uid gid file size at (xid ∷ xids)) b ∷ so_far.between;
      last = moment (so_far.outcomes ++ outcome ∷ []) waiting c;
      made = (
        TakesOldest (record { xid = xid; call = read_call uid gid file at (piece_left size at) }) outcome
            (none_ahead rel uid gid file size at next (xid ∷ xids) so_far.bytes so_far.outcomes b so_far.state ahead full)
            (follows uid gid file size at so_far.bytes so_far.outcomes below so_far.state) completes refl refl,
        so_far.made,
      );
      left = waiting;
      same = xids_from uid gid file size (at + piece_left size at) xids;
      ends = ends_data rel uid gid file size at count so_far.bytes so_far.outcomes outcome waiting why t u v c same so_far.state so_far.appends gives;
    }

pub alone_fails : {V : Type 0} (rel : CallRelations V) (uid gid : ℕ) (file : List ℕ) (size at end count from : ℕ) (xids : List ℕ) (outcome : Outcome) (why : ClientEnd) (first : ReadingOver V) (t u v : Option (List ℕ)) (b c : V)
    → at < size → at < end → IsInPiece size at end → count ≡ piece_left size at → rel.answers b c (read_call uid gid file at count) outcome → GivesNone count outcome why u v
    → ReadSoFar rel uid gid file size first t at from xids b u → HasEnded rel uid gid file first t xids c v (Err why)
alone_fails {V} rel uid gid file size at end count from xids outcome why first t u v b c below within piece same answered gives so_far =
    let waiting = reads_from uid gid file size from xids in
    let alone : rel.answers b c (read_call uid gid file at (piece_left size at)) outcome = subst (λ (n : ℕ). rel.answers b c (read_call uid gid file at n) outcome) same answered in
    record {
      between = moment so_far.outcomes waiting b ∷ so_far.between;
      last = moment (so_far.outcomes ++ outcome ∷ []) waiting c;
      made = (
        MakesAlone (read_call uid gid file at (piece_left size at)) outcome (is_alone rel uid gid file size at end waiting so_far.bytes so_far.outcomes b below within piece so_far.state) alone refl refl,
        so_far.made,
      );
      left = waiting;
      same = xids_from uid gid file size from xids;
      ends = ends_data rel uid gid file size at count so_far.bytes so_far.outcomes outcome waiting why t u v c same so_far.state so_far.appends gives;
    }

pub forgotten_from : {V : Type 0} (rel : CallRelations V) (uid gid : ℕ) (file : List ℕ) (size at next : ℕ) (xid : ℕ) (xs xids : List ℕ) (end : CallEnd) (first : ReadingOver V) (t u : Option (List ℕ)) (b c : V)
    → xs ≡ xid ∷ xids → at < size → ReadsAhead rel b size at next xs → IsFull rel size next xs b → rel.forgets xid end b c
    → ReadSoFar rel uid gid file size first t at at xs b u → HasEnded rel uid gid file first t xids c u (Err (client.Link end))
forgotten_from {V} rel uid gid file size at next xid xs xids end first t u b c is below ahead full forgets so_far =
    oldest_forgotten rel uid gid file size at next xid xids end first t u b c below
    (subst (λ (l : List ℕ). ReadsAhead rel b size at next l) is ahead) (subst (λ (l : List ℕ). IsFull rel size next l b) is full) forgets
    (subst (λ (l : List ℕ). ReadSoFar rel uid gid file size first t at at l b u) is so_far)

pub fails_from : {V : Type 0} (rel : CallRelations V) (uid gid : ℕ) (file : List ℕ) (size at next count : ℕ) (xid : ℕ) (xs xids : List ℕ) (outcome : Outcome) (why : ClientEnd) (first : ReadingOver V) (t u v : Option (List ℕ)) (b c : V)
    → xs ≡ xid ∷ xids → at < size → ReadsAhead rel b size at next xs → IsFull rel size next xs b → count ≡ piece_left size at → rel.completes xid outcome b c → GivesNone count outcome why u v
    → ReadSoFar rel uid gid file size first t at at xs b u → HasEnded rel uid gid file first t xids c v (Err why)
fails_from {V} rel uid gid file size at next count xid xs xids outcome why first t u v b c is below ahead full same completes gives so_far =
    oldest_fails rel uid gid file size at next count xid xids outcome why first t u v b c below
    (subst (λ (l : List ℕ). ReadsAhead rel b size at next l) is ahead) (subst (λ (l : List ℕ). IsFull rel size next l b) is full) same completes gives
    (subst (λ (l : List ℕ). ReadSoFar rel uid gid file size first t at at l b u) is so_far)

pub not_submitted_from : {V : Type 0} (rel : CallRelations V) (uid gid : ℕ) (file : List ℕ) (size at next count : ℕ) (xids ys : List ℕ) (call : Call) (end : CallEnd) (first : ReadingOver V) (t u : Option (List ℕ)) (b c : V)
    → ys ≡ xids → call ≡ read_call uid gid file next count → count ≡ piece_left size next → at < size → ReadsAhead rel b size at next xids → MayAsk rel size next xids b
    → rel.refuses b c call end
    → ReadSoFar rel uid gid file size first t at at xids b u → HasEnded rel uid gid file first t ys c u (Err (client.Link end))
not_submitted_from {V} rel uid gid file size at next count xids ys call end first t u b c all is same below ahead may refuses so_far =
    let asked : call ≡ read_call uid gid file next (piece_left size next) = is ∙ ap (read_call uid gid file next) same in
    subst (λ (l : List ℕ). HasEnded rel uid gid file first t l c u (Err (client.Link end))) (sym all)
    (not_submitted rel uid gid file size at next xids end first t u b c below ahead may
    (subst (λ (a : Call). rel.refuses b c a end) asked refuses) so_far)

pub out_before_from : {V : Type 0} (rel : CallRelations V) (uid gid : ℕ) (file : List ℕ) (size at from : ℕ) (xids ys : List ℕ) (first : ReadingOver V) (t u : Option (List ℕ)) (b : V)
    → ys ≡ xids → ReadSoFar rel uid gid file size first t at from xids b u → HasEnded rel uid gid file first t ys b u (Err client.Memory)
out_before_from {V} rel uid gid file size at from xids ys first t u b all so_far =
    subst (λ (l : List ℕ). HasEnded rel uid gid file first t l b u (Err client.Memory)) (sym all) (out_before rel uid gid file size at from xids first t u b so_far)

-- ---- All of it

-- the READs that are left are forgotten
pub read_and_forgot : {V : Type 0} (rel : CallRelations V) (uid gid : ℕ) (file : List ℕ) (xids : List ℕ) (b c d : V) (t u : Option (List ℕ)) (given : Result (Unit {0}) ClientEnd)
    → HasEnded rel uid gid file (starts_at b) t xids c u given → ForgetsCallsOver rel xids c d → ReadsFileOver rel uid gid file b d t u given
read_and_forgot {V} rel uid gid file xids b c d t u given ended forgets =
    record {
      between = ended.between;
      last = ended.last;
      made = ended.made;
      left = ended.left;
      ended = c;
      ends = ended.ends;
      forgets = subst (λ (l : List ℕ). ForgetsCallsOver rel l c d) (sym ended.same) forgets;
    }

-- the size did not come
pub size_failed : {V : Type 0} (rel : CallRelations V) (uid gid : ℕ) (file : List ℕ) (b c : V) (t : Option (List ℕ)) (end : ClientEnd)
    → AsksOver {A = Attributes} rel getattr_result (getattr_call uid gid file) b c (Err end) → ReadsFileOver rel uid gid file b c t t (Err end)
size_failed {V} rel uid gid file b c t end (inl (outcome, (answered, gives))) =
    record {
      between = starts_at b ∷ [];
      last = moment (outcome ∷ []) [] c;
      made = (MakesAlone (getattr_call uid gid file) outcome (refl, refl) answered refl refl, refl);
      left = [];
      ended = c;
      ends = by (end_of_reply {A = Attributes} (Unit {0}) end (getattr_result outcome) gives);
      forgets = refl;
    }
  where
    by : (end ≡ client.Memory) ⊎ ((getattr_result outcome ≡ Err end) × Gives {A = Unit {0}} (Err end) (Err end))
        → EndsReadingOver rel uid gid file (moment (outcome ∷ []) [] c) [] c t t (Err end)
    by (inl memory) =
        EndsByReplies refl (inl (ap (λ (e : ClientEnd). Err e) memory)) refl (inr (ap (λ (e : ClientEnd). Err e) memory, ([], outcome, (refl, Appends-nil t))))
    by (inr (reads, same)) =
        EndsByReplies refl (inr (ap (λ (r : Result Attributes ClientEnd). next_read uid gid file (with_size r)) reads)) refl
        (inl (takes_bytes (outcome ∷ []) (ReadEnds end []) t t (ap with_size reads) (Appends-nil t)))
size_failed {V} rel uid gid file b c t end (inr (inl (cause, (is, rest)))) =
    record {
      between = [];
      last = starts_at b;
      made = refl;
      left = [];
      ended = c;
      ends = NotAnswered (getattr_call uid gid file) (client.Link cause) (refl, refl) (ap (λ (e : ClientEnd). Err e) (ap (end_in {A = Attributes}) is)) (inl (cause, (refl, rest))) refl (inl (Appends-nil t));
      forgets = refl;
    }
size_failed {V} rel uid gid file b c t end (inr (inr (is, rest))) =
    record {
      between = [];
      last = starts_at b;
      made = refl;
      left = [];
      ended = c;
      ends = EndsByReplies rest (inl (ap (λ (e : ClientEnd). Err e) (ap (end_in {A = Attributes}) is))) refl (inl (Appends-nil t));
      forgets = refl;
    }
