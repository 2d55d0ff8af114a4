-- The script that is made from a seed: calls of clients, each followed by a move, and a drain in the end. All is own.
use Rattle.std.specs.Prelude.{ℕ, false, zero, suc, ◌+◌, ◌*◌, ◌/◌, ◌%◌, ◌==◌, ◌||◌, if◌then◌else◌, List, [], ◌∷◌, ◌++◌, map}
use Rattle.std.specs.List.{range_with_len}
use Rattle.nr_xdr.specs.Item.{hyper}
use Rattle.nr_xdr.specs.Item.Item.{Unsigned, Hyper, Opaque}
use Rattle.nr_xdr.specs.Items.{encodings}
use Rattle.nr_nfs_base.specs.Procedures.{nfs_program, nfs_version}
use Rattle.nr_reduce.specs.declared.call.Form.TheVariants.{Auto}
use Rattle.nr_script.specs.declared.script.Line.{Line}
use Rattle.nr_script.specs.declared.script.Line.TheVariants as lines
use Rattle.nr_texts.specs.Limits.{default_capacity, default_units}
use Rattle.nr_script.specs.Script.{ScriptLines}

-- ===== draws

-- the state of the generator after a draw, and what is drawn then
unfoldable pub next : ℕ → ℕ
next state = (state * 6364136223846793005 + 1442695040888963407) % 18446744073709551616

abbrev pub drawn : ℕ → ℕ
drawn state = state / 8589934592

-- a number below a bound, from the state after its draw
abbrev pub below : ℕ → ℕ → ℕ
below bound state = drawn state % bound

-- ===== arguments (RFC 1813 section 3.3), by file number

abbrev pub file_args : ℕ → List ℕ
file_args file = encodings (Opaque (hyper file) ∷ [])

abbrev pub read_args : ℕ → ℕ → List ℕ
read_args offset count = encodings (Opaque (hyper 2) ∷ Hyper offset ∷ Unsigned count ∷ [])

-- byte i is (offset + i) mod 256; stable is FILE_SYNC
abbrev pub written_bytes : ℕ → ℕ → List ℕ
written_bytes offset count = map (λ place. place % 256) (range_with_len offset count)

abbrev pub file_sync : ℕ
file_sync = 2

-- what precedes the bytes of a WRITE
abbrev pub write_head : ℕ → ℕ → List ℕ
write_head offset count = encodings (Opaque (hyper 2) ∷ Hyper offset ∷ Unsigned count ∷ Unsigned file_sync ∷ [])

abbrev pub write_args : ℕ → ℕ → List ℕ
write_args offset count = write_head offset count ++ encodings (Opaque (written_bytes offset count) ∷ [])

-- from cookie 0 on, with a verifier of zeros
abbrev pub readdir_args : ℕ → List ℕ
readdir_args count = encodings (Opaque (hyper 4) ∷ Hyper 0 ∷ Hyper 0 ∷ Unsigned count ∷ [])

-- ===== a call: NULL; GETATTR of 2; READ of 2; WRITE of 2; READDIR of 4; READLINK of 3

unfoldable pub proc_drawn : ℕ → ℕ
proc_drawn kind =
    if kind == 0 then 0 else (if kind == 1 then 1 else (if kind == 2 then 6 else (if kind == 3 then 7 else (if kind == 4 then 16 else 5))))

-- what the numbers that are drawn stay below (offsets, counts, the bytes of a move), and the count of a READDIR
abbrev pub offsets_end : ℕ
offsets_end = 8192

abbrev pub read_counts_end : ℕ
read_counts_end = 4096

abbrev pub write_counts_end : ℕ
write_counts_end = 2048

abbrev pub listing_count : ℕ
listing_count = 4096

abbrev pub pieces_end : ℕ
pieces_end = 3000

unfoldable pub args_drawn : ℕ → ℕ → List ℕ
args_drawn kind state =
    if kind == 0 then []
    else (if kind == 1 then file_args 2
    else (if kind == 2 then read_args (below offsets_end (next state)) (below read_counts_end (next (next state)))
    else (if kind == 3 then write_args (below offsets_end (next state)) (below write_counts_end (next (next state)))
    else (if kind == 4 then readdir_args listing_count else file_args 3))))

-- the state after the draws of a READ or a WRITE: an offset and a count
abbrev pub after_args : ℕ → ℕ → ℕ
after_args kind state = if kind == 2 || kind == 3 then next (next state) else state

-- ===== a move of that client: none; up; work; down; a drain of all links

unfoldable pub move_lines : ℕ → ℕ → ℕ → List Line
move_lines client kind state =
    if kind == 0 then []
    else (if kind == 1 then lines.Up client (below pieces_end (next state)) ∷ []
    else (if kind == 2 then lines.Work client ∷ []
    else (if kind == 3 then lines.Down client (below pieces_end (next state)) ∷ [] else lines.Drain ∷ [])))

abbrev pub after_move : ℕ → ℕ → ℕ
after_move kind state = if kind == 1 || kind == 3 then next state else state

-- ===== a script

-- a call of this kind and a move, and the state after their draws
abbrev pub call_line : ℕ → ℕ → ℕ → Line
call_line client kind state = lines.Call client Auto nfs_program nfs_version (proc_drawn kind) (args_drawn kind state)

abbrev pub turn_lines : ℕ → ℕ → ℕ → List Line
turn_lines client kind state = let move = next (after_args kind state) in call_line client kind state ∷ move_lines client (below 5 move) move

abbrev pub after_turn : ℕ → ℕ → ℕ
after_turn kind state = let move = next (after_args kind state) in after_move (below 5 move) move

-- a client's number, a kind of call, the call's draws, a kind of move, the move's draw
abbrev pub drawn_turn : ℕ → ℕ → List Line
drawn_turn clients state = let kind = next (next state) in turn_lines (below clients (next state) + 1) (below 6 kind) kind

abbrev pub after_drawn_turn : ℕ → ℕ
after_drawn_turn state = let kind = next (next state) in after_turn (below 6 kind) kind

abbrev pub drawn_lines : ℕ → ℕ → ℕ → List Line
drawn_lines clients zero state = lines.Drain ∷ []
drawn_lines clients (suc calls) state = drawn_turn clients state ++ drawn_lines clients calls (after_drawn_turn state)

abbrev pub drawn_credits : ℕ
drawn_credits = 8

-- the script of a seed, of this many clients and calls
unfoldable pub made_script : ℕ → ℕ → ℕ → ScriptLines
made_script seed clients calls = record {
  opening = record { clients = clients; credits = drawn_credits; capacity = default_capacity; client_units = default_units; server_units = default_units; numbered = false; invalidates = false };
  lines = drawn_lines clients calls seed;
}
