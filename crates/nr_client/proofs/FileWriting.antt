-- A file is written, one WRITE after another.
use Rattle.std.proofs.Common.{◌≡◌, ℕ, ◌+◌, ◌-◌, ◌<◌, ◌≤◌, ◌⊎◌, Bool, true, false, min, List, [], ◌∷◌, ◌++◌, length, take, drop, Option, Some, None, IfSome, Result, Ok, Err, inl, inr, arith, refl, sym, ap, subst, ◌∙◌, append-nil, append_assoc, take-append-drop}
use Rattle.std.proofs.lemmas.Bool.{cases_lt, lt-ltb, le-ltb}
use Rattle.std.proofs.lemmas.List.{length-append, length-take, length-take-le, take-take, take_all, take_at, drop_at, drop-take}
use Rattle.std.proofs.lemmas.List.Sums.{fold-append}
use Rattle.std.specs.Io.KnownBytes.{IsAtEnd}
use Rattle.nr_nfs_base.specs.Limits.{transfer_max}
use Rattle.nr_outside.specs.Content.{HandsOut}
use Rattle.nr_outside.proofs.Moves.{HandsOut_append}
use Rattle.nr_reduce.specs.declared.call.Outcome.{Outcome}
use Rattle.nr_client.specs.declared.client_end.ClientEnd.{ClientEnd}
use Rattle.nr_client.specs.declared.client_end.ClientEnd.TheVariants as client
use Rattle.nr_client.specs.Following.Next.{Calls, Returns}
use Rattle.nr_client.specs.Results.{Gives, IsOfCall}
use Rattle.nr_outside.specs.Whole.{input_max}
use Rattle.nr_client.specs.Writing.{FileWrite, IsRead, IsReadAhead, IsStopped, StopsAtFault, after_write_reply, create_call, created_file, file_write, next_write, piece_at, with_count, with_handle, write_call, write_end, write_result, writing, WritesFileOver, EndsWritingOver}
use Rattle.nr_client.specs.Writing.EndsWritingOver.{FollowsInput, InputFails}
use Rattle.nr_client.specs.Writing.FileWrite.{Created, NotCreated}
use Rattle.nr_client.specs.private.FileSteps.{FailsToWrite, StreamsOn, StreamsSoFar, StreamsTo, WriteSoFar, WritesOn}
use Rattle.nr_client.specs.private.InputWindows.{EndsAt, IsFull, IsOfInput, IsReadyAt, MayFollow, TakesMore, WindowState, wanted_at}
use Rattle.nr_client.specs.Relations.{CallRelations}
use Rattle.nr_client.specs.Requests.{AsksOver}
use Rattle.nr_client.specs.Following.{FollowsOver, MakesCallsOver, EndsWithOver}
use Rattle.nr_client.proofs.CallsMade.{calls_more, ends_answered, ends_done, ends_unanswered, follows_asked, memory_ends}

write_is : (uid gid : ℕ) (dir name input file : List ℕ) (at : ℕ) → at < length (take input_max input)
    → next_write uid gid dir name input (Created file at) ≡ Calls (write_call uid gid file at (piece_at input at))
write_is uid gid dir name input file at below = rw (lt-ltb at (length (take input_max input)) below) refl

end_is : (uid gid : ℕ) (dir name input file : List ℕ) (at : ℕ) → length (take input_max input) ≤ at
    → next_write uid gid dir name input (Created file at) ≡ Returns (write_end input)
end_is uid gid dir name input file at above = rw (le-ltb at (length (take input_max input)) above) refl

-- one outcome more
written_after : (input : List ℕ) (outcomes : List Outcome) (outcome : Outcome) (state : FileWrite) → file_write input outcomes ≡ state
    → file_write input (outcomes ++ outcome ∷ []) ≡ after_write_reply input state outcome
written_after input outcomes outcome state is =
    fold-append (after_write_reply input) NotCreated outcomes (outcome ∷ []) ∙ ap (λ (s : FileWrite). after_write_reply input s outcome) is

next_call : {V : Type 0} (rel : CallRelations V) (uid gid : ℕ) (dir name input : List ℕ) (b c : V) (file bytes : List ℕ) (at : ℕ) → at < length (take input_max input) → bytes ≡ piece_at input at
    → (so_far : WriteSoFar rel uid gid dir name input b c file at) → writing uid gid dir name input so_far.outcomes ≡ Calls (write_call uid gid file at bytes)
next_call {V} rel uid gid dir name input b c file bytes at below same so_far =
    ap (next_write uid gid dir name input) so_far.state ∙ write_is uid gid dir name input file at below ∙ ap (λ (l : List ℕ). Calls (write_call uid gid file at l)) (sym same)

-- what the outcome of a WRITE says
counted : {V : Type 0} (rel : CallRelations V) (uid gid : ℕ) (dir name input : List ℕ) (b c : V) (file bytes : List ℕ) (at : ℕ) (outcome : Outcome) (read : Result ℕ ClientEnd) → bytes ≡ piece_at input at
    → (so_far : WriteSoFar rel uid gid dir name input b c file at) → write_result (length bytes) outcome ≡ read
    → file_write input (so_far.outcomes ++ outcome ∷ []) ≡ with_count file at read
counted {V} rel uid gid dir name input b c file bytes at outcome read same so_far reads =
    let here : write_result (length (piece_at input at)) outcome ≡ read = ap (λ (l : List ℕ). write_result (length l) outcome) (sym same) ∙ reads in
    written_after input so_far.outcomes outcome (Created file at) so_far.state ∙ ap (with_count file at) here

write_started : {V : Type 0} (rel : CallRelations V) (uid gid : ℕ) (dir name input : List ℕ) (b c : V) (file : List ℕ)
    → AsksOver rel created_file (create_call uid gid dir name) b c (Ok file) → WriteSoFar rel uid gid dir name input b c file 0
write_started {V} rel uid gid dir name input b c file (inl (outcome, (answered, reads))) =
    record {
      outcomes = outcome ∷ [];
      made = (create_call uid gid dir name, c, (refl, (answered, refl)));
      state = ap with_handle reads;
    }
write_started {V} rel uid gid dir name input b c file (inr (inl (end, (is, rest)))) = absurd (cc)
write_started {V} rel uid gid dir name input b c file (inr (inr (is, rest))) = absurd (cc)

create_failed : {V : Type 0} (rel : CallRelations V) (uid gid : ℕ) (dir name input : List ℕ) (b c : V) (end : ClientEnd)
    → AsksOver {A = List ℕ} rel created_file (create_call uid gid dir name) b c (Err end) → FollowsOver rel (writing uid gid dir name input) b c (Err end)
create_failed {V} rel uid gid dir name input b c end asked =
    follows_asked rel (writing uid gid dir name input) created_file b c (create_call uid gid dir name) end refl
    (λ outcome reads. ap (λ (r : Result (List ℕ) ClientEnd). next_write uid gid dir name input (with_handle r)) reads) asked

write_stepped : {V : Type 0} (rel : CallRelations V) (uid gid : ℕ) (dir name input : List ℕ) (b c d : V) (file bytes : List ℕ) (at at' : ℕ)
    → at < length (take input_max input) → bytes ≡ piece_at input at → WriteSoFar rel uid gid dir name input b c file at
    → WritesOn rel uid gid file bytes at at' c d → WriteSoFar rel uid gid dir name input b d file at'
write_stepped {V} rel uid gid dir name input b c d file bytes at at' below same so_far on =
    record {
      outcomes = so_far.outcomes ++ on.outcome ∷ [];
      made = calls_more rel (writing uid gid dir name input) so_far.outcomes b c d (write_call uid gid file at bytes) on.outcome so_far.made
          (next_call rel uid gid dir name input b c file bytes at below same so_far) on.answered;
      state = counted rel uid gid dir name input b c file bytes at on.outcome (Ok on.count) same so_far on.reads ∙ ap (Created file) (sym on.offset);
    }

-- ---- What a window has

none_follows : (ended : Bool) (rest : List ℕ) → ended ≡ true → MayFollow ended rest → rest ≡ []
none_follows true rest is may = may
none_follows false rest is may = absurd (cc)

wanted_below : (at : ℕ) → at < input_max → wanted_at at ≡ min transfer_max (input_max - at)
wanted_below at below = rw (lt-ltb at input_max below) refl

wanted_above : (at : ℕ) → input_max ≤ at → wanted_at at ≡ 1
wanted_above at above = rw (le-ltb at input_max above) refl

wanted_some : (at : ℕ) → 0 < wanted_at at
wanted_some at = by (cases_lt at input_max)
  where
    by : (at < input_max) ⊎ (input_max ≤ at) → 0 < wanted_at at
    by (inl below) = omega (arith, below, wanted_below at below)
    by (inr above) = omega (arith, wanted_above at above)

wanted_within : (at : ℕ) → wanted_at at ≤ transfer_max
wanted_within at = by (cases_lt at input_max)
  where
    by : (at < input_max) ⊎ (input_max ≤ at) → wanted_at at ≤ transfer_max
    by (inl below) = omega (arith, below, wanted_below at below)
    by (inr above) = omega (arith, wanted_above at above)

take_twice : (m n : ℕ) (l : List ℕ) → take m (take n l) ≡ take (min m n) l
take_twice m n l = by (cases_lt m n)
  where
    by : (m < n) ⊎ (n ≤ m) → take m (take n l) ≡ take (min m n) l
    by (inl less) = let same : m ≡ min m n = omega arith in take-take m n l (omega arith) ∙ ap (λ (k : ℕ). take k l) same
    by (inr above) =
        let same : n ≡ min m n = omega arith in
        let short : length (take n l) ≤ m = omega (arith, length-take n l) in
        take_all m (take n l) short ∙ ap (λ (k : ℕ). take k l) same

-- the front of what a window has, of the bytes from there on
kept_is_front : (kept rest : List ℕ) (n : ℕ) (ended : Bool) → (length kept ≡ n) ⊎ (ended ≡ true) → length kept ≤ n → MayFollow ended rest → take n (kept ++ rest) ≡ kept
kept_is_front kept rest n ended (inl full) within may = take_at kept rest n full
kept_is_front kept rest n ended (inr end) within may =
    ap (λ (l : List ℕ). take n (kept ++ l)) (none_follows ended rest end may) ∙ ap (take n) (append-nil kept) ∙ take_all n kept within

-- is what a WRITE sends
piece_is : (written kept rest : List ℕ) (at : ℕ) (ended : Bool) → length written ≡ at → at < input_max → (length kept ≡ wanted_at at) ⊎ (ended ≡ true) → length kept ≤ wanted_at at → MayFollow ended rest
    → piece_at ((written ++ kept) ++ rest) at ≡ kept
piece_is written kept rest at ended offset below full within may =
    let sum : input_max ≡ at + (input_max - at) = omega arith in
    let from : drop at ((written ++ kept) ++ rest) ≡ kept ++ rest = ap (drop at) (append_assoc written kept rest) ∙ drop_at written (kept ++ rest) at offset in
    ap (λ (n : ℕ). take transfer_max (drop at (take n ((written ++ kept) ++ rest)))) sum
    ∙ ap (take transfer_max) (drop-take at (input_max - at) ((written ++ kept) ++ rest) ∙ ap (take (input_max - at)) from)
    ∙ take_twice transfer_max (input_max - at) (kept ++ rest)
    ∙ ap (λ (n : ℕ). take n (kept ++ rest)) (sym (wanted_below at below))
    ∙ kept_is_front kept rest (wanted_at at) ended full within may

more_is_left : (written kept rest : List ℕ) (at : ℕ) → length written ≡ at → at < input_max → 0 < length kept → at < length (take input_max ((written ++ kept) ++ rest))
more_is_left written kept rest at offset below some =
    omega (arith, length-take input_max ((written ++ kept) ++ rest), length-append (written ++ kept) rest, length-append written kept)

-- ---- The rest of an input

-- what an input has left, if it is known
abbrev pub known_rest : Option (List ℕ) → List ℕ
known_rest None = []
known_rest (Some left) = left

rest_is_known : (left : Option (List ℕ)) → IfSome left (λ known. known_rest left ≡ known)
rest_is_known None = tt
rest_is_known (Some left) = refl

none_left : (left : Option (List ℕ)) → IsAtEnd left → known_rest left ≡ []
none_left None end = refl
none_left (Some left) end = end

rest_may_follow : (ended : Bool) (left : Option (List ℕ)) → EndsAt ended left → MayFollow ended (known_rest left)
rest_may_follow true left ends = none_left left ends
rest_may_follow false left ends = tt

-- ---- What was written so far

-- the file was created
pub streams_begin : {V : Type 0} (rel : CallRelations V) (uid gid : ℕ) (dir name : List ℕ) (b c : V) (left given left' given' : Option (List ℕ)) (file : List ℕ) (w : WindowState)
    → HandsOut left given left' given' w.kept → IsReadyAt 0 left' w → AsksOver rel created_file (create_call uid gid dir name) b c (Ok file) → StreamsSoFar rel uid gid dir name b c left given left' given' file 0 w
streams_begin {V} rel uid gid dir name b c left given left' given' file w hands ready asked =
    record {
      written = [];
      hands_out = hands;
      offset = refl;
      begins = λ rest may. let same : piece_at (w.kept ++ rest) 0 ≡ w.kept = piece_is [] w.kept rest 0 w.ended refl (omega arith) ready.full ready.within may in
          let len : length (piece_at (w.kept ++ rest) 0) ≡ length w.kept = ap (λ (l : List ℕ). length l) same in omega (arith, len);
      calls = λ rest may. write_started rel uid gid dir name (w.kept ++ rest) b c file asked;
    }

-- a WRITE was answered
streams_written : {V : Type 0} (rel : CallRelations V) (uid gid : ℕ) (dir name : List ℕ) (b c d : V) (left given left' given' : Option (List ℕ)) (file : List ℕ) (at count : ℕ) (w : WindowState)
    → IsReadyAt at left' w → at < input_max → 0 < length w.kept → count ≤ length w.kept → WritesOn rel uid gid file w.kept at (at + count) c d
    → StreamsSoFar rel uid gid dir name b c left given left' given' file at w
    → StreamsSoFar rel uid gid dir name b d left given left' given' file (at + count) (record { kept = drop count w.kept; ended = w.ended })
streams_written {V} rel uid gid dir name b c d left given left' given' file at count w ready below some within on s =
    let same : (s.written ++ take count w.kept) ++ drop count w.kept ≡ s.written ++ w.kept =
    append_assoc s.written (take count w.kept) (drop count w.kept) ∙ ap (λ (l : List ℕ). s.written ++ l) (take-append-drop count w.kept) in
    record {
      written = s.written ++ take count w.kept;
      hands_out = subst (λ (l : List ℕ). HandsOut left given left' given' l) (sym same) s.hands_out;
      offset = omega (arith, s.offset, length-append s.written (take count w.kept), length-take-le count w.kept within);
      begins = λ rest may. subst (λ (l : List ℕ). length (piece_at (l ++ rest) 0) ≤ length l) (sym same) (s.begins rest may);
      calls = λ rest may. subst (λ (l : List ℕ). WriteSoFar rel uid gid dir name (l ++ rest) b d file (at + count)) (sym same)
          (write_stepped rel uid gid dir name ((s.written ++ w.kept) ++ rest) b c d file w.kept at (at + count)
          (more_is_left s.written w.kept rest at s.offset below some) (sym (piece_is s.written w.kept rest at w.ended s.offset below ready.full ready.within may)) (s.calls rest may) on);
    }

-- more was read
streams_filled : {V : Type 0} (rel : CallRelations V) (uid gid : ℕ) (dir name : List ℕ) (b c : V) (left given left' given' left'' given'' : Option (List ℕ)) (file : List ℕ) (at wanted : ℕ) (w v : WindowState)
    → TakesMore wanted left' given' left'' given'' w v → StreamsSoFar rel uid gid dir name b c left given left' given' file at w → StreamsSoFar rel uid gid dir name b c left given left'' given'' file at v
streams_filled {V} rel uid gid dir name b c left given left' given' left'' given'' file at wanted w v takes s =
    let same : (s.written ++ w.kept) ++ takes.more ≡ s.written ++ v.kept = append_assoc s.written w.kept takes.more ∙ ap (λ (l : List ℕ). s.written ++ l) (sym takes.kept) in
    let all : (rest : List ℕ) → (s.written ++ w.kept) ++ (takes.more ++ rest) ≡ (s.written ++ v.kept) ++ rest =
    λ rest. sym (append_assoc (s.written ++ w.kept) takes.more rest) ∙ ap (λ (l : List ℕ). l ++ rest) same in
    let len : length ((s.written ++ w.kept) ++ takes.more) ≡ length (s.written ++ v.kept) = ap (λ (l : List ℕ). length l) same in
    record {
      written = s.written;
      hands_out = subst (λ (l : List ℕ). HandsOut left given left'' given'' l) same (HandsOut_append left given left' given' left'' given'' (s.written ++ w.kept) takes.more s.hands_out takes.hands_out);
      offset = s.offset;
      begins = λ rest may. subst (λ (l : List ℕ). length (piece_at l 0) ≤ length (s.written ++ v.kept)) (all rest)
          (let first = s.begins (takes.more ++ rest) (takes.follows rest may) in omega (arith, first, len, length-append (s.written ++ w.kept) takes.more));
      calls = λ rest may. subst (λ (l : List ℕ). WriteSoFar rel uid gid dir name l b c file at) (all rest) (s.calls (takes.more ++ rest) (takes.follows rest may));
    }

streams_on : {V : Type 0} (rel : CallRelations V) (uid gid : ℕ) (file : List ℕ) (at count : ℕ) (w v : WindowState) (c d : V) (left given left' given' : Option (List ℕ))
    → IsReadyAt at left w → at < input_max → 0 < length w.kept → count ≤ length w.kept → WritesOn rel uid gid file w.kept at (at + count) c d
    → TakesMore (wanted_at (at + count)) left given left' given' (record { kept = drop count w.kept; ended = w.ended }) v
    → StreamsOn rel uid gid file at (at + count) w v c d left given left' given'
streams_on {V} rel uid gid file at count w v c d left given left' given' ready below some within on takes dir name b first first_given s =
    streams_filled rel uid gid dir name b d first first_given left given left' given' file (at + count) (wanted_at (at + count)) (record { kept = drop count w.kept; ended = w.ended }) v takes
    (streams_written rel uid gid dir name b c d first first_given left given file at count w ready below some within on s)

-- ---- The ends

-- how far it was read
read_ahead : (input : List ℕ) (outcomes : List Outcome) (file : List ℕ) (at : ℕ) (written kept : List ℕ) → file_write input outcomes ≡ Created file at → length written ≡ at → length kept ≤ transfer_max
    → IsReadAhead (file_write input outcomes) (written ++ kept)
read_ahead input outcomes file at written kept state offset within =
    subst (λ (s : FileWrite). IsReadAhead s (written ++ kept)) (sym state) (omega (arith, length-append written kept))

-- these outcomes, of those and more
first_outcomes : (outcomes more : List Outcome) → take (length outcomes) (outcomes ++ more) ≡ outcomes
first_outcomes outcomes more = take_at outcomes more (length outcomes) refl

-- the calls so far, some more, and the end
ends_after : {V : Type 0} (rel : CallRelations V) (uid gid : ℕ) (dir name handed rest : List ℕ) (b c d : V) (first more all : List Outcome) (result : Result (Unit {0}) ClientEnd)
    → first ++ more ≡ all → MakesCallsOver rel (writing uid gid dir name (handed ++ rest)) all b c → EndsWithOver rel (writing uid gid dir name (handed ++ rest) all) c d result
    → IsReadAhead (file_write (handed ++ rest) first) handed → EndsWritingOver rel uid gid dir name handed rest b d result
ends_after {V} rel uid gid dir name handed rest b c d first more all result same made ends ahead =
    FollowsInput (record { outcomes = all; between = c; made = made; ends = ends }) (length first)
    (subst (λ (l : List Outcome). IsReadAhead (file_write (handed ++ rest) l) handed) (sym (ap (take (length first)) (sym same) ∙ first_outcomes first more)) ahead)

-- a WRITE has no answer, or its answer no count
write_failed : {V : Type 0} (rel : CallRelations V) (uid gid : ℕ) (dir name handed rest : List ℕ) (b c d : V) (file bytes : List ℕ) (at : ℕ) (end : ClientEnd)
    → at < length (take input_max (handed ++ rest)) → bytes ≡ piece_at (handed ++ rest) at → (s : WriteSoFar rel uid gid dir name (handed ++ rest) b c file at)
    → IsReadAhead (file_write (handed ++ rest) s.outcomes) handed → FailsToWrite rel uid gid file bytes at c d end → EndsWritingOver rel uid gid dir name handed rest b d (Err end)
write_failed {V} rel uid gid dir name handed rest b c d file bytes at end below same s ahead (inl unanswered) =
    ends_after rel uid gid dir name handed rest b c d s.outcomes [] s.outcomes (Err end) (append-nil s.outcomes) s.made
    (ends_unanswered rel (writing uid gid dir name (handed ++ rest)) s.outcomes c d (write_call uid gid file at bytes) end
    (next_call rel uid gid dir name (handed ++ rest) b c file bytes at below same s) unanswered) ahead
write_failed {V} rel uid gid dir name handed rest b c d file bytes at end below same s ahead (inr (outcome, (answered, gives))) =
    let input : List ℕ = handed ++ rest in
    ends_after rel uid gid dir name handed rest b d d s.outcomes (outcome ∷ []) (s.outcomes ++ outcome ∷ []) (Err end) refl
    (calls_more rel (writing uid gid dir name input) s.outcomes b c d (write_call uid gid file at bytes) outcome s.made (next_call rel uid gid dir name input b c file bytes at below same s) answered)
    (ends_answered rel (writing uid gid dir name input) (s.outcomes ++ outcome ∷ []) d end (write_result (length bytes) outcome) gives
    (λ reads. ap (next_write uid gid dir name input) (counted rel uid gid dir name input b c file bytes at outcome (Err end) same s reads))) ahead

-- all was written
write_completed : {V : Type 0} (rel : CallRelations V) (uid gid : ℕ) (dir name handed rest : List ℕ) (b c : V) (file : List ℕ) (at : ℕ) (result : Result (Unit {0}) ClientEnd)
    → length (take input_max (handed ++ rest)) ≤ at → (s : WriteSoFar rel uid gid dir name (handed ++ rest) b c file at) → IsReadAhead (file_write (handed ++ rest) s.outcomes) handed
    → write_end (handed ++ rest) ≡ result → Gives result result → EndsWritingOver rel uid gid dir name handed rest b c result
write_completed {V} rel uid gid dir name handed rest b c file at result above s ahead is gives =
    ends_after rel uid gid dir name handed rest b c c s.outcomes [] s.outcomes result (append-nil s.outcomes) s.made
    (ends_done rel (writing uid gid dir name (handed ++ rest)) s.outcomes c result
    (ap (next_write uid gid dir name (handed ++ rest)) s.state ∙ end_is uid gid dir name (handed ++ rest) file at above ∙ ap (λ (r : Result (Unit {0}) ClientEnd). Returns r) is) gives) ahead

-- an end that a call has is none of the input
read_of_call : (end : ClientEnd) (handed rest : List ℕ) → IsOfCall end → IsRead (Err end) handed rest
read_of_call client.DialFault handed rest of = tt
read_of_call (client.Link end) handed rest of = tt
read_of_call (client.Rpc kind code) handed rest of = tt
read_of_call (client.Mount status) handed rest of = tt
read_of_call (client.Nfs status) handed rest of = tt
read_of_call client.Chunk handed rest of = tt
read_of_call (client.Version low high) handed rest of = tt
read_of_call (client.BadReply at reason) handed rest of = tt
read_of_call (client.BadPath at) handed rest of = tt
read_of_call client.InputFault handed rest of = tt
read_of_call client.OutputFault handed rest of = tt
read_of_call (client.Budget count) handed rest of = absurd of
read_of_call client.Memory handed rest of = tt

-- so far, with what is left of the input
streams_end : {V : Type 0} (rel : CallRelations V) (uid gid : ℕ) (dir name : List ℕ) (b c d : V) (left given left' given' : Option (List ℕ)) (file : List ℕ) (at : ℕ) (w : WindowState) (result : Result (Unit {0}) ClientEnd)
    → EndsAt w.ended left' → (s : StreamsSoFar rel uid gid dir name b c left given left' given' file at w) → IsRead result (s.written ++ w.kept) (known_rest left')
    → EndsWritingOver rel uid gid dir name (s.written ++ w.kept) (known_rest left') b d result → WritesFileOver rel uid gid dir name b d left given left' given' result
streams_end {V} rel uid gid dir name b c d left given left' given' file at w result ends s read writes =
    record {
      handed = s.written ++ w.kept;
      rest = known_rest left';
      hands_out = s.hands_out;
      is_rest = rest_is_known left';
      is_read = read;
      begins = inr (s.begins (known_rest left') (rest_may_follow w.ended left' ends));
      calls = writes;
    }

streams_failed : {V : Type 0} (rel : CallRelations V) (uid gid : ℕ) (file : List ℕ) (at : ℕ) (w : WindowState) (c d : V) (left given : Option (List ℕ)) (end : ClientEnd)
    → IsReadyAt at left w → at < input_max → 0 < length w.kept → IsOfCall end → FailsToWrite rel uid gid file w.kept at c d end → StreamsTo rel uid gid file at w c d left given left given (Err end)
streams_failed {V} rel uid gid file at w c d left given end ready below some of fails dir name b first first_given s =
    let rest : List ℕ = known_rest left in
    let may : MayFollow w.ended rest = rest_may_follow w.ended left ready.ends in
    streams_end rel uid gid dir name b c d first first_given left given file at w (Err end) ready.ends s (read_of_call end (s.written ++ w.kept) rest of)
    (write_failed rel uid gid dir name (s.written ++ w.kept) rest b c d file w.kept at end
    (more_is_left s.written w.kept rest at s.offset below some) (sym (piece_is s.written w.kept rest at w.ended s.offset below ready.full ready.within may)) (s.calls rest may)
    (read_ahead ((s.written ++ w.kept) ++ rest) (s.calls rest may).outcomes file at s.written w.kept (s.calls rest may).state s.offset (omega (arith, ready.within, wanted_within at))) fails)

-- why no more was read says nothing of what was
read_of_input : (end : ClientEnd) (handed rest : List ℕ) → IsOfInput end → IsRead (Err end) handed rest
read_of_input end handed rest (inl is) = subst (λ (e : ClientEnd). IsRead (Err e) handed rest) (sym is) tt
read_of_input end handed rest (inr is) = subst (λ (e : ClientEnd). IsRead (Err e) handed rest) (sym is) tt

-- the calls so far, and no more was read
write_stopped : {V : Type 0} (rel : CallRelations V) (uid gid : ℕ) (dir name handed rest : List ℕ) (b c : V) (file : List ℕ) (at : ℕ) (end : ClientEnd)
    → (s : WriteSoFar rel uid gid dir name (handed ++ rest) b c file at) → IsReadAhead (file_write (handed ++ rest) s.outcomes) handed → IsOfInput end
    → EndsWritingOver rel uid gid dir name handed rest b c (Err end)
write_stopped {V} rel uid gid dir name handed rest b c file at end s ahead (inl is) = InputFails s.outcomes (ap (λ (e : ClientEnd). Err e) is) s.made ahead
write_stopped {V} rel uid gid dir name handed rest b c file at end s ahead (inr is) =
    subst (λ (e : ClientEnd). EndsWritingOver rel uid gid dir name handed rest b c (Err e)) (sym is)
    (ends_after rel uid gid dir name handed rest b c c s.outcomes [] s.outcomes (Err client.Memory) (append-nil s.outcomes) s.made
    (memory_ends rel (writing uid gid dir name (handed ++ rest) s.outcomes) c) ahead)

-- no more was read after a WRITE
streams_stopped : {V : Type 0} (rel : CallRelations V) (uid gid : ℕ) (file : List ℕ) (at count : ℕ) (w v : WindowState) (c d : V) (left given left' given' : Option (List ℕ)) (end : ClientEnd)
    → IsReadyAt at left w → at < input_max → 0 < length w.kept → count ≤ length w.kept → WritesOn rel uid gid file w.kept at (at + count) c d
    → TakesMore (wanted_at (at + count)) left given left' given' (record { kept = drop count w.kept; ended = w.ended }) v → IsOfInput end
    → StreamsTo rel uid gid file at w c d left given left' given' (Err end)
streams_stopped {V} rel uid gid file at count w v c d left given left' given' end ready below some within on takes of dir name b first first_given before =
    let s = streams_on rel uid gid file at count w v c d left given left' given' ready below some within on takes dir name b first first_given before in
    let ends : EndsAt v.ended left' = takes.ends ready.ends in
    let rest : List ℕ = known_rest left' in
    let may : MayFollow v.ended rest = rest_may_follow v.ended left' ends in
    streams_end rel uid gid dir name b d d first first_given left' given' file (at + count) v (Err end) ends s (read_of_input end (s.written ++ v.kept) rest of)
    (write_stopped rel uid gid dir name (s.written ++ v.kept) rest b d file (at + count) end (s.calls rest may)
    (read_ahead ((s.written ++ v.kept) ++ rest) (s.calls rest may).outcomes file (at + count) s.written v.kept (s.calls rest may).state s.offset (omega (arith, takes.within, wanted_within (at + count)))) of)

-- nothing is left in the window
pub streams_done : {V : Type 0} (rel : CallRelations V) (uid gid : ℕ) (file : List ℕ) (at : ℕ) (w : WindowState) (c : V) (left given : Option (List ℕ))
    → IsReadyAt at left w → length w.kept ≤ 0 → (dir name : List ℕ) (b : V) (first first_given : Option (List ℕ))
    → StreamsSoFar rel uid gid dir name b c first first_given left given file at w → WritesFileOver rel uid gid dir name b c first first_given left given (Ok tt)
streams_done {V} rel uid gid file at w c left given ready none dir name b first first_given s =
    let rest : List ℕ = known_rest left in
    let may : MayFollow w.ended rest = rest_may_follow w.ended left ready.ends in
    let ended : w.ended ≡ true = at_end ready.full in
    let no_rest : rest ≡ [] = none_follows w.ended rest ended may in
    let len : length ((s.written ++ w.kept) ++ rest) ≡ at =
    ap (λ (l : List ℕ). length ((s.written ++ w.kept) ++ l)) no_rest ∙ (omega (arith, none, s.offset, length-append (s.written ++ w.kept) [], length-append s.written w.kept)) in
    streams_end rel uid gid dir name b c c first first_given left given file at w (Ok tt) ready.ends s no_rest
    (write_completed rel uid gid dir name (s.written ++ w.kept) rest b c file at (Ok tt)
    (omega (arith, len, length-take input_max ((s.written ++ w.kept) ++ rest))) (s.calls rest may)
    (read_ahead ((s.written ++ w.kept) ++ rest) (s.calls rest may).outcomes file at s.written w.kept (s.calls rest may).state s.offset (omega (arith, ready.within, wanted_within at)))
    (fits ((s.written ++ w.kept) ++ rest) (omega (arith, len, ready.offset))) refl)
  where
    at_end : IsFull (wanted_at at) w → w.ended ≡ true
    at_end (inl full) = absurd (omega (arith, full, none, wanted_some at))
    at_end (inr ended) = ended

    fits : (input : List ℕ) → length input ≤ input_max → write_end input ≡ Ok tt
    fits input within = rw (le-ltb input_max (length input) within) refl

-- one byte is left that is beyond the maximum
pub streams_beyond : {V : Type 0} (rel : CallRelations V) (uid gid : ℕ) (file : List ℕ) (at : ℕ) (w : WindowState) (c : V) (left given : Option (List ℕ))
    → IsReadyAt at left w → input_max ≤ at → 0 < length w.kept → (dir name : List ℕ) (b : V) (first first_given : Option (List ℕ))
    → StreamsSoFar rel uid gid dir name b c first first_given left given file at w → WritesFileOver rel uid gid dir name b c first first_given left given (Err (client.Budget input_max))
streams_beyond {V} rel uid gid file at w c left given ready above some dir name b first first_given s =
    let rest : List ℕ = known_rest left in
    let may : MayFollow w.ended rest = rest_may_follow w.ended left ready.ends in
    let handed : input_max < length (s.written ++ w.kept) = omega (arith, above, some, s.offset, length-append s.written w.kept) in
    streams_end rel uid gid dir name b c c first first_given left given file at w (Err (client.Budget input_max)) ready.ends s handed
    (write_completed rel uid gid dir name (s.written ++ w.kept) rest b c file at (Err (client.Budget input_max))
    (omega (arith, above, length-take input_max ((s.written ++ w.kept) ++ rest))) (s.calls rest may)
    (read_ahead ((s.written ++ w.kept) ++ rest) (s.calls rest may).outcomes file at s.written w.kept (s.calls rest may).state s.offset (omega (arith, ready.within, wanted_within at)))
    (beyond ((s.written ++ w.kept) ++ rest) (omega (arith, handed, length-append (s.written ++ w.kept) rest))) refl)
  where
    beyond : (input : List ℕ) → input_max < length input → write_end input ≡ Err (client.Budget input_max)
    beyond input more = rw (lt-ltb input_max (length input) more) refl

-- ---- One turn of the loop, by what the functions give

-- the count is within what the window has, and that was sent
count_within : (piece kept : List ℕ) (count : ℕ) → piece ≡ kept → count ≤ length piece → count ≤ length kept
count_within piece kept count same within = subst (λ (l : List ℕ). count ≤ length l) same within

takes_by : (at count wanted : ℕ) (w m v : WindowState) (left given left' given' : Option (List ℕ)) → m ≡ record { kept = drop count w.kept; ended = w.ended } → wanted ≡ wanted_at (at + count)
    → TakesMore wanted left given left' given' m v → TakesMore (wanted_at (at + count)) left given left' given' (record { kept = drop count w.kept; ended = w.ended }) v
takes_by at count wanted w m v left given left' given' moved is takes =
    subst (λ (n : ℕ). TakesMore n left given left' given' (record { kept = drop count w.kept; ended = w.ended }) v) is (subst (λ (x : WindowState). TakesMore wanted left given left' given' x v) moved takes)

pub on_by : {V : Type 0} (rel : CallRelations V) (uid gid : ℕ) (file piece : List ℕ) (at count wanted : ℕ) (w m v : WindowState) (c d : V) (left given left' given' : Option (List ℕ))
    → IsReadyAt at left w → at < input_max → 0 < length w.kept → piece ≡ w.kept → count ≤ length piece → WritesOn rel uid gid file piece at (at + count) c d
    → m ≡ record { kept = drop count w.kept; ended = w.ended } → wanted ≡ wanted_at (at + count) → TakesMore wanted left given left' given' m v
    → StreamsOn rel uid gid file at (at + count) w v c d left given left' given'
on_by {V} rel uid gid file piece at count wanted w m v c d left given left' given' ready below some same within on moved is takes =
    streams_on rel uid gid file at count w v c d left given left' given' ready below some (count_within piece w.kept count same within)
    (subst (λ (l : List ℕ). WritesOn rel uid gid file l at (at + count) c d) same on) (takes_by at count wanted w m v left given left' given' moved is takes)

pub stopped_by : {V : Type 0} (rel : CallRelations V) (uid gid : ℕ) (file piece : List ℕ) (at count wanted : ℕ) (w m v : WindowState) (c d : V) (left given left' given' : Option (List ℕ)) (end : ClientEnd)
    → IsReadyAt at left w → at < input_max → 0 < length w.kept → piece ≡ w.kept → count ≤ length piece → WritesOn rel uid gid file piece at (at + count) c d
    → m ≡ record { kept = drop count w.kept; ended = w.ended } → wanted ≡ wanted_at (at + count) → TakesMore wanted left given left' given' m v → IsOfInput end
    → StreamsTo rel uid gid file at w c d left given left' given' (Err end)
stopped_by {V} rel uid gid file piece at count wanted w m v c d left given left' given' end ready below some same within on moved is takes of =
    streams_stopped rel uid gid file at count w v c d left given left' given' end ready below some (count_within piece w.kept count same within)
    (subst (λ (l : List ℕ). WritesOn rel uid gid file l at (at + count) c d) same on) (takes_by at count wanted w m v left given left' given' moved is takes) of

pub failed_by : {V : Type 0} (rel : CallRelations V) (uid gid : ℕ) (file piece : List ℕ) (at : ℕ) (w : WindowState) (c d : V) (left given : Option (List ℕ)) (end : ClientEnd)
    → IsReadyAt at left w → at < input_max → 0 < length w.kept → piece ≡ w.kept → IsOfCall end → FailsToWrite rel uid gid file piece at c d end → StreamsTo rel uid gid file at w c d left given left given (Err end)
failed_by {V} rel uid gid file piece at w c d left given end ready below some same of fails =
    streams_failed rel uid gid file at w c d left given end ready below some of (subst (λ (l : List ℕ). FailsToWrite rel uid gid file l at c d end) same fails)

-- ---- Before the file is created

-- CREATE has no handle
pub create_ended : {V : Type 0} (rel : CallRelations V) (uid gid : ℕ) (dir name : List ℕ) (b c : V) (left given left' given' : Option (List ℕ)) (w : WindowState) (end : ClientEnd)
    → HandsOut left given left' given' w.kept → IsReadyAt 0 left' w → IsOfCall end → AsksOver {A = List ℕ} rel created_file (create_call uid gid dir name) b c (Err end)
    → WritesFileOver rel uid gid dir name b c left given left' given' (Err end)
create_ended {V} rel uid gid dir name b c left given left' given' w end hands ready of asked =
    let rest : List ℕ = known_rest left' in
    let may : MayFollow w.ended rest = rest_may_follow w.ended left' ready.ends in
    let same : length (piece_at (w.kept ++ rest) 0) ≡ length w.kept = ap (λ (l : List ℕ). length l) (piece_is [] w.kept rest 0 w.ended refl (omega arith) ready.full ready.within may) in
    record {
      handed = w.kept;
      rest = rest;
      hands_out = hands;
      is_rest = rest_is_known left';
      is_read = read_of_call end w.kept rest of;
      begins = inr (omega (arith, same));
      calls = FollowsInput (create_failed rel uid gid dir name (w.kept ++ rest) b c end asked) 0 (omega (arith, ready.within, wanted_within 0));
    }

-- what was read at first
first_takes : (wanted : ℕ) (left given left' given' : Option (List ℕ)) (w v : WindowState) → wanted ≡ wanted_at 0 → w ≡ record { kept = []; ended = false } → TakesMore wanted left given left' given' w v
    → TakesMore (wanted_at 0) left given left' given' (record { kept = []; ended = false }) v
first_takes wanted left given left' given' w v is empty takes =
    subst (λ (n : ℕ). TakesMore n left given left' given' (record { kept = []; ended = false }) v) is (subst (λ (x : WindowState). TakesMore wanted left given left' given' x v) empty takes)

pub first_handed : (wanted : ℕ) (left given left' given' : Option (List ℕ)) (w v : WindowState) → wanted ≡ wanted_at 0 → w ≡ record { kept = []; ended = false } → TakesMore wanted left given left' given' w v
    → HandsOut left given left' given' v.kept
first_handed wanted left given left' given' w v is empty takes =
    let first = first_takes wanted left given left' given' w v is empty takes in
    subst (λ (l : List ℕ). HandsOut left given left' given' l) (sym first.kept) first.hands_out

-- the first bytes were not all read, and no call was made
nothing_made : {V : Type 0} (rel : CallRelations V) (uid gid : ℕ) (dir name handed rest : List ℕ) (b : V) (end : ClientEnd) → length handed ≤ transfer_max → IsOfInput end
    → EndsWritingOver rel uid gid dir name handed rest b b (Err end)
nothing_made {V} rel uid gid dir name handed rest b end within (inl is) = InputFails [] (ap (λ (e : ClientEnd). Err e) is) refl within
nothing_made {V} rel uid gid dir name handed rest b end within (inr is) =
    subst (λ (e : ClientEnd). EndsWritingOver rel uid gid dir name handed rest b b (Err e)) (sym is)
    (FollowsInput (record { outcomes = []; between = b; made = refl; ends = (client.Memory, (refl, inr (refl, refl))) }) 0 within)

pub read_failed : {V : Type 0} (rel : CallRelations V) (uid gid : ℕ) (dir name : List ℕ) (b : V) (wanted : ℕ) (left given left' given' : Option (List ℕ)) (w v : WindowState) (end : ClientEnd)
    → wanted ≡ wanted_at 0 → w ≡ record { kept = []; ended = false } → TakesMore wanted left given left' given' w v → IsOfInput end → WritesFileOver rel uid gid dir name b b left given left' given' (Err end)
read_failed {V} rel uid gid dir name b wanted left given left' given' w v end is empty takes of =
    let first = first_takes wanted left given left' given' w v is empty takes in
    let len : length v.kept ≡ length first.more = ap (λ (l : List ℕ). length l) first.kept in
    record {
      handed = first.more;
      rest = known_rest left';
      hands_out = first.hands_out;
      is_rest = rest_is_known left';
      is_read = read_of_input end first.more (known_rest left') of;
      begins = inl refl;
      calls = nothing_made rel uid gid dir name first.more (known_rest left') b end (omega (arith, len, first.within, wanted_within 0)) of;
    }

-- ---- A read of the input that failed

pub call_stops : {N : Type 0} (faults : N → ℕ) (left given : N → Option (List ℕ)) (before after : N) (end : ClientEnd) → IsOfCall end → StopsAtFault faults left given (Err end) before after
call_stops faults left given before after client.DialFault of = tt
call_stops faults left given before after (client.Link end) of = tt
call_stops faults left given before after (client.Rpc kind code) of = tt
call_stops faults left given before after (client.Mount status) of = tt
call_stops faults left given before after (client.Nfs status) of = tt
call_stops faults left given before after client.Chunk of = tt
call_stops faults left given before after (client.Version low high) of = tt
call_stops faults left given before after (client.BadReply at reason) of = tt
call_stops faults left given before after (client.BadPath at) of = tt
call_stops faults left given before after client.InputFault of = absurd of
call_stops faults left given before after client.OutputFault of = tt
call_stops faults left given before after (client.Budget count) of = tt
call_stops faults left given before after client.Memory of = tt

-- nothing was read after this end of an input
pub stops_of_input : {N : Type 0} (faults : N → ℕ) (left given : N → Option (List ℕ)) (before after : N) (end : ClientEnd) → IsOfInput end → IsStopped faults left given before after
    → StopsAtFault faults left given (Err end) before after
stops_of_input faults left given before after end (inl is) s = subst (λ (e : ClientEnd). StopsAtFault faults left given (Err e) before after) (sym is) s
stops_of_input faults left given before after end (inr is) s = subst (λ (e : ClientEnd). StopsAtFault faults left given (Err e) before after) (sym is) tt

-- after reads at which its fault count stood still
pub stops_after : {N : Type 0} (faults : N → ℕ) (left given : N → Option (List ℕ)) (result : Result (Unit {0}) ClientEnd) (before middle after : N) → faults middle ≡ faults before → StopsAtFault faults left given result middle after → StopsAtFault faults left given result before after
stops_after faults left given (Ok done) before middle after same stops = tt
stops_after faults left given (Err client.DialFault) before middle after same stops = tt
stops_after faults left given (Err (client.Link end)) before middle after same stops = tt
stops_after faults left given (Err (client.Rpc kind code)) before middle after same stops = tt
stops_after faults left given (Err (client.Mount status)) before middle after same stops = tt
stops_after faults left given (Err (client.Nfs status)) before middle after same stops = tt
stops_after faults left given (Err client.Chunk) before middle after same stops = tt
stops_after faults left given (Err (client.Version low high)) before middle after same stops = tt
stops_after faults left given (Err (client.BadReply at reason)) before middle after same stops = tt
stops_after faults left given (Err (client.BadPath at)) before middle after same stops = tt
stops_after faults left given (Err client.InputFault) before middle after same stops = record { failed = stops.failed; unrisen = stops.unrisen ∙ same; nothing = stops.nothing }
stops_after faults left given (Err client.OutputFault) before middle after same stops = tt
stops_after faults left given (Err (client.Budget count)) before middle after same stops = tt
stops_after faults left given (Err client.Memory) before middle after same stops = tt
