-- A script that is made from a seed is a script.
use Rattle.std.specs.Prelude.{◌%◌, ◌&&◌}
use Rattle.std.specs.List.{AllByRecursion, range_with_len}
use Rattle.std.proofs.Common.{◌≡◌, ℕ, zero, suc, ◌+◌, ◌^◌, ◌≤◌, ◌<◌, Bool, true, false, cond, eqb, leb, List, [], ◌∷◌, ◌++◌, ◌*◌, length, map, refl, arith}
use Rattle.std.proofs.lemmas.Bool.{le-leb}
use Rattle.std.proofs.lemmas.List.{length-append}
use Rattle.std.proofs.lemmas.Nat.{mod_below}
use Rattle.nr_xdr.specs.Item.{IsBytes, hyper}
use Rattle.nr_xdr.specs.Item.Item.{Unsigned, Hyper, Opaque}
use Rattle.nr_xdr.specs.Items.{encodings}
use Rattle.nr_texts.specs.declared.opening.Opening.{Opening}
use Rattle.nr_script.specs.declared.script.Line.{Line}
use Rattle.nr_texts.specs.Limits.{clients_max, default_capacity, default_units}
use Rattle.nr_script.specs.Limits.{calls_max}
use Rattle.nr_script.specs.Script.{may_follow, is_client, FollowOn, HasWritableCred, IsTypedLine, IsScript}
use Rattle.nr_script.specs.Generator.{next, drawn, below, file_args, read_args, written_bytes, file_sync, write_head, write_args, readdir_args, proc_drawn, args_drawn, after_args, move_lines, call_line, turn_lines, drawn_turn, after_drawn_turn, drawn_lines, drawn_credits, made_script, offsets_end, read_counts_end, write_counts_end, listing_count}
use Rattle.nr_script.proofs.ByteLists.{no_bytes_lem, bytes_more, bytes_both, hyper_bytes, items_bytes}

each_append : {X : Type 0} (P : X → Type 0) (xs ys : List X) → AllByRecursion P xs → AllByRecursion P ys → AllByRecursion P (xs ++ ys)
each_append P [] ys h k = k
each_append P (x ∷ xs) ys h k = (h.0, each_append P xs ys h.1 k)

-- ===== arguments

file_bytes : (file : ℕ) → IsBytes (file_args file)
file_bytes file = items_bytes (Opaque (hyper file) ∷ []) (hyper_bytes file, tt)

read_bytes_lem : (offset count : ℕ) → IsBytes (read_args offset count)
read_bytes_lem offset count = items_bytes (Opaque (hyper 2) ∷ Hyper offset ∷ Unsigned count ∷ []) (hyper_bytes 2, (tt, (tt, tt)))

places_bytes : (places : List ℕ) → IsBytes (map (λ place. place % 256) places)
places_bytes [] = no_bytes_lem
places_bytes (place ∷ places) = bytes_more (place % 256) (map (λ place. place % 256) places) (mod_below place 256 (omega arith)) (places_bytes places)

write_bytes : (offset count : ℕ) → IsBytes (write_args offset count)
write_bytes offset count =
    bytes_both (write_head offset count) (encodings (Opaque (written_bytes offset count) ∷ []))
    (items_bytes (Opaque (hyper 2) ∷ Hyper offset ∷ Unsigned count ∷ Unsigned file_sync ∷ []) (hyper_bytes 2, (tt, (tt, (tt, tt)))))
    (items_bytes (Opaque (written_bytes offset count) ∷ []) (places_bytes (range_with_len offset count), tt))

readdir_bytes : (count : ℕ) → IsBytes (readdir_args count)
readdir_bytes count = items_bytes (Opaque (hyper 4) ∷ Hyper 0 ∷ Hyper 0 ∷ Unsigned count ∷ []) (hyper_bytes 4, (tt, (tt, (tt, tt))))

-- ===== calls

small_if : (b : Bool) (x y : ℕ) → x < 2 ^ 32 → y < 2 ^ 32 → cond b x y < 2 ^ 32
small_if true x y h g = h
small_if false x y h g = g

bytes_if : (b : Bool) (x y : List ℕ) → IsBytes x → IsBytes y → IsBytes (cond b x y)
bytes_if true x y h g = h
bytes_if false x y h g = g

proc_small : (kind : ℕ) → proc_drawn kind < 2 ^ 32
unfolding proc_drawn
proc_small kind =
    small_if (eqb kind 0) _ _ (omega arith) (small_if (eqb kind 1) _ _ (omega arith) (small_if (eqb kind 2) _ _ (omega arith)
    (small_if (eqb kind 3) _ _ (omega arith) (small_if (eqb kind 4) _ _ (omega arith) (omega arith)))))

args_bytes : (kind state : ℕ) → IsBytes (args_drawn kind state)
unfolding args_drawn
args_bytes kind state =
    bytes_if (eqb kind 0) _ _ no_bytes_lem
    (bytes_if (eqb kind 1) _ _ (file_bytes 2)
    (bytes_if (eqb kind 2) _ _ (read_bytes_lem (below offsets_end (next state)) (below read_counts_end (next (next state))))
    (bytes_if (eqb kind 3) _ _ (write_bytes (below offsets_end (next state)) (below write_counts_end (next (next state))))
    (bytes_if (eqb kind 4) _ _ (readdir_bytes listing_count) (file_bytes 3)))))

-- ===== lines

-- a line that may stand anywhere, is of its type, and has no credential
record LineIsMade (opening : Opening) (line : Line) : Type 0 where
  follows : (before : List Line) → may_follow opening before line ≡ true
  typed : IsTypedLine line
  cred : HasWritableCred line

client_is_lem : (opening : Opening) (state : ℕ) → 1 ≤ opening.clients → is_client opening (below opening.clients state + 1) ≡ true
client_is_lem opening state some =
    let low = mod_below (drawn state) opening.clients (omega (arith, some)) in
    both (leb 1 (below opening.clients state + 1)) (leb (below opening.clients state + 1) opening.clients)
    (le-leb 1 (below opening.clients state + 1) (omega arith)) (le-leb (below opening.clients state + 1) opening.clients (omega (arith, low)))
  where
    both : (a b : Bool) → a ≡ true → b ≡ true → a && b ≡ true
    both true b e f = f
    both false b e f = absurd cc

abbrev AreMade : Opening → List Line → Type 0
AreMade opening all = AllByRecursion (LineIsMade opening) all

move_if : (opening : Opening) (b : Bool) (x y : List Line) → AreMade opening x → AreMade opening y → AreMade opening (cond b x y)
move_if opening true x y h g = h
move_if opening false x y h g = g

move_made : (opening : Opening) (client kind state : ℕ) → is_client opening client ≡ true → AreMade opening (move_lines client kind state)
unfolding move_lines
move_made opening client kind state is =
    move_if opening (eqb kind 0) _ _ tt
    (move_if opening (eqb kind 1) _ _ (record { follows = λ before. is; typed = tt; cred = tt }, tt)
    (move_if opening (eqb kind 2) _ _ (record { follows = λ before. is; typed = tt; cred = tt }, tt)
    (move_if opening (eqb kind 3) _ _ (record { follows = λ before. is; typed = tt; cred = tt }, tt) (record { follows = λ before. refl; typed = tt; cred = tt }, tt))))

call_line_made : (opening : Opening) (client kind state : ℕ) → is_client opening client ≡ true → LineIsMade opening (call_line client kind state)
call_line_made opening client kind state is =
    record { follows = λ before. is; typed = (tt, omega arith, omega arith, proc_small kind, args_bytes kind state); cred = tt }

turn_made : (opening : Opening) (client kind state : ℕ) → is_client opening client ≡ true → AreMade opening (turn_lines client kind state)
turn_made opening client kind state is =
    (call_line_made opening client kind state is, move_made opening client (below 5 (next (after_args kind state))) (next (after_args kind state)) is)

lines_made : (opening : Opening) (calls state : ℕ) → 1 ≤ opening.clients → AreMade opening (drawn_lines opening.clients calls state)
lines_made opening zero state some = (record { follows = λ before. refl; typed = tt; cred = tt }, tt)
lines_made opening (suc calls) state some =
    each_append (LineIsMade opening) (drawn_turn opening.clients state) (drawn_lines opening.clients calls (after_drawn_turn state))
    (turn_made opening (below opening.clients (next state) + 1) (below 6 (next (next state))) (next (next state)) (client_is_lem opening (next state) some))
    (lines_made opening calls (after_drawn_turn state) some)

all_follow : (opening : Opening) (before all : List Line) → AreMade opening all → FollowOn opening before all
all_follow opening before [] h = tt
all_follow opening before (line ∷ all) h = (h.0.follows before, all_follow opening (before ++ line ∷ []) all h.1)

all_typed_lem : (opening : Opening) (all : List Line) → AreMade opening all → AllByRecursion IsTypedLine all
all_typed_lem opening [] h = tt
all_typed_lem opening (line ∷ all) h = (h.0.typed, all_typed_lem opening all h.1)

all_creds : (opening : Opening) (all : List Line) → AreMade opening all → AllByRecursion HasWritableCred all
all_creds opening [] h = tt
all_creds opening (line ∷ all) h = (h.0.cred, all_creds opening all h.1)

-- ===== how many

move_len : (b : Bool) (x y : List Line) → length x ≤ 1 → length y ≤ 1 → length (cond b x y) ≤ 1
move_len true x y h g = h
move_len false x y h g = g

moves_len : (client kind state : ℕ) → length (move_lines client kind state) ≤ 1
unfolding move_lines
moves_len client kind state =
    move_len (eqb kind 0) _ _ (omega arith)
    (move_len (eqb kind 1) _ _ (omega arith) (move_len (eqb kind 2) _ _ (omega arith) (move_len (eqb kind 3) _ _ (omega arith) (omega arith))))

turn_len : (clients state : ℕ) → length (drawn_turn clients state) ≤ 2
turn_len clients state =
    let kind = next (next state) in
    let move = next (after_args (below 6 kind) kind) in
    let few : length (move_lines (below clients (next state) + 1) (below 5 move) move) ≤ 1 = moves_len (below clients (next state) + 1) (below 5 move) move in
    omega (arith, few)

lines_len : (clients calls state : ℕ) → length (drawn_lines clients calls state) ≤ 2 * calls + 1
lines_len clients zero state = omega arith
lines_len clients (suc calls) state =
    let both : length (drawn_turn clients state ++ drawn_lines clients calls (after_drawn_turn state)) ≡ length (drawn_turn clients state) + length (drawn_lines clients calls (after_drawn_turn state)) = length-append (drawn_turn clients state) (drawn_lines clients calls (after_drawn_turn state)) in
    let one : length (drawn_turn clients state) ≤ 2 = turn_len clients state in
    let rest : length (drawn_lines clients calls (after_drawn_turn state)) ≤ 2 * calls + 1 = lines_len clients calls (after_drawn_turn state) in
    omega (arith, both, one, rest)

pub made_is : (seed clients calls : ℕ) → 1 ≤ clients → clients ≤ clients_max → calls ≤ calls_max → IsScript (made_script seed clients calls)
unfolding made_script
made_is seed clients calls some few short =
    let opening : Opening = record { clients = clients; credits = drawn_credits; capacity = default_capacity; client_units = default_units; server_units = default_units; numbered = false; invalidates = false } in
    let made = lines_made opening calls seed some in
    let all = drawn_lines clients calls seed in
    record {
      some_clients = some;
      few_clients = few;
      some_credits = omega arith;
      few_credits = omega arith;
      capacity = omega arith;
      some_client_units = omega arith;
      few_client_units = omega arith;
      some_server_units = omega arith;
      few_server_units = omega arith;
      few_lines = (let count : length all ≤ 2 * calls + 1 = lines_len clients calls seed in omega (arith, count, short));
      follow_on = all_follow opening [] all made;
      creds = all_creds opening all made;
      typed = all_typed_lem opening all made;
    }
