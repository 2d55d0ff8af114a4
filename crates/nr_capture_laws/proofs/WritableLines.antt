-- What the lines of a script say that is read or made: its forms are those that a word can say, its credentials are those of a drill.
use Rattle.std.specs.Prelude.{codes}
use Rattle.std.specs.List.{AllByRecursion}
use Rattle.std.specs.Str.{bytes_eq}
use Rattle.std.proofs.Common.{◌≡◌, ℕ, zero, suc, ◌+◌, Bool, true, false, cond, eqb, List, [], ◌∷◌, ◌++◌, Option, None, Some, Result, Ok, Err, refl, subst}
use Rattle.nr_rpc.specs.declared.cred.Cred.TheVariants as creds
use Rattle.nr_texts.specs.declared.opening.Opening.{Opening}
use Rattle.nr_texts.specs.Words.{◌>>=◌, number_in, bytes_in, arguments_in, parts, one_number, two_numbers, space, newline}
use Rattle.nr_texts.specs.Forms.{form_in, IsWritableForm}
use Rattle.nr_texts.specs.Openings.{opening_in, sys_cred}
use Rattle.nr_texts.proofs.TypedTexts.{If, then_if, if_if, all_more, IsAny, any_if, writable_form_if, PairSmall, two_if}
use Rattle.nr_capture.specs.Writable.{IsWritableCred}
use Rattle.nr_script.specs.declared.script.Line.{Line}
use Rattle.nr_script.specs.declared.script.Line.TheVariants as lines
use Rattle.nr_script.specs.Lines.{sys_line, cred_line_of, cred_line, target_in, call_with, call_line, client_line, number_line, side_in, raw_line, drain_line, later_line, plain_line, line_named, line_in}
use Rattle.nr_script.specs.Script.{ScriptLines, may_follow, is_ascii, is_skipped, opened_by, followed_by, with_words, if_read, with_text, script_at_end, read_on, script_from, script_of}
use Rattle.nr_script.specs.Generator.{next, below, after_args, move_lines, turn_lines, drawn_turn, after_drawn_turn, drawn_lines, made_script}

-- a line that says its form and its credential completely
abbrev pub IsWritableLine : Line → Type 0
IsWritableLine (lines.Cred client cred) = IsWritableCred cred
IsWritableLine (lines.Call client form prog vers proc args) = IsWritableForm form
IsWritableLine line = Unit {0}

abbrev pub AreWritable : ScriptLines → Type 0
AreWritable script = AllByRecursion IsWritableLine script.lines

-- ===== lines that are read

sys_writable : (client : ℕ) (words : List (List ℕ)) → If IsWritableLine (sys_line client words)
sys_writable client words = then_if PairSmall IsWritableLine (two_numbers words) (λ p. Some (lines.Cred client (sys_cred p.0 p.1))) (two_if words) (λ p h. (refl, h.0, h.1))

cred_of_writable : (client : ℕ) (words : List (List ℕ)) → If IsWritableLine (cred_line_of client words)
cred_of_writable client [] = sys_writable client []
cred_of_writable client (none ∷ []) = if_if IsWritableLine (bytes_eq none (codes "none")) (Some (lines.Cred client creds.None)) None tt tt
cred_of_writable client (none ∷ more ∷ others) = sys_writable client (none ∷ more ∷ others)

cred_writable : (words : List (List ℕ)) → If IsWritableLine (cred_line words)
cred_writable [] = tt
cred_writable (client ∷ others) = then_if IsAny IsWritableLine (number_in client) (λ c. cred_line_of c others) (any_if (number_in client)) (λ c any. cred_of_writable c others)

call_writable : (words : List (List ℕ)) → If IsWritableLine (call_line words)
call_writable [] = tt
call_writable (client ∷ []) = tt
call_writable (client ∷ form ∷ []) = tt
call_writable (client ∷ form ∷ program ∷ []) = tt
call_writable (client ∷ form ∷ program ∷ proc ∷ []) = tt
call_writable (client ∷ form ∷ program ∷ proc ∷ args ∷ []) =
    then_if IsAny IsWritableLine (target_in client program proc) (λ t. arguments_in args >>= λ bytes. call_with t (form_in form) bytes) (any_if (target_in client program proc))
    (λ t any. then_if IsAny IsWritableLine (arguments_in args) (λ bytes. call_with t (form_in form) bytes) (any_if (arguments_in args))
    (λ bytes some. then_if IsWritableForm IsWritableLine (form_in form) (λ f. Some (lines.Call t.0 f t.1.prog t.1.vers t.2 bytes)) (writable_form_if form) (λ f h. h)))
call_writable (client ∷ form ∷ program ∷ proc ∷ args ∷ more ∷ others) = tt

client_writable : (line : ℕ → Line) (words : List (List ℕ)) → ((c : ℕ) → IsWritableLine (line c)) → If IsWritableLine (client_line line words)
client_writable line words h = then_if IsAny IsWritableLine (one_number words) (λ c. Some (line c)) (any_if (one_number words)) (λ c any. h c)

number_writable : (line : ℕ → ℕ → Line) (words : List (List ℕ)) → ((c n : ℕ) → IsWritableLine (line c n)) → If IsWritableLine (number_line line words)
number_writable line words h = then_if IsAny IsWritableLine (two_numbers words) (λ p. Some (line p.0 p.1)) (any_if (two_numbers words)) (λ p any. h p.0 p.1)

raw_writable : (words : List (List ℕ)) → If IsWritableLine (raw_line words)
raw_writable [] = tt
raw_writable (client ∷ []) = tt
raw_writable (client ∷ way ∷ []) = tt
raw_writable (client ∷ way ∷ hex ∷ []) =
    then_if IsAny IsWritableLine (number_in client) (λ c. side_in way >>= λ side. bytes_in hex >>= λ bytes. Some (lines.Raw c side bytes)) (any_if (number_in client))
    (λ c any. then_if IsAny IsWritableLine (side_in way) (λ side. bytes_in hex >>= λ bytes. Some (lines.Raw c side bytes)) (any_if (side_in way))
    (λ side some. then_if IsAny IsWritableLine (bytes_in hex) (λ bytes. Some (lines.Raw c side bytes)) (any_if (bytes_in hex)) (λ bytes more. tt)))
raw_writable (client ∷ way ∷ hex ∷ more ∷ others) = tt

drain_writable : (words : List (List ℕ)) → If IsWritableLine (drain_line words)
drain_writable [] = tt
drain_writable (word ∷ others) = tt

later_writable : (name : List ℕ) (others : List (List ℕ)) → If IsWritableLine (later_line name others)
later_writable name others =
    if_if IsWritableLine (bytes_eq name (codes "forget")) (number_line lines.Forget others) _ (number_writable lines.Forget others (λ c n. tt))
    (if_if IsWritableLine (bytes_eq name (codes "revoke")) (number_line lines.Revoke others) _ (number_writable lines.Revoke others (λ c n. tt))
    (if_if IsWritableLine (bytes_eq name (codes "drop")) (client_line lines.Drop others) _ (client_writable lines.Drop others (λ c. tt))
    (if_if IsWritableLine (bytes_eq name (codes "rejoin")) (client_line lines.Rejoin others) _ (client_writable lines.Rejoin others (λ c. tt))
    (if_if IsWritableLine (bytes_eq name (codes "grant")) (number_line lines.Grant others) _ (number_writable lines.Grant others (λ c n. tt))
    (if_if IsWritableLine (bytes_eq name (codes "drain")) (drain_line others) None (drain_writable others) tt)))))

plain_writable : (name : List ℕ) (others : List (List ℕ)) → If IsWritableLine (plain_line name others)
plain_writable name others =
    if_if IsWritableLine (bytes_eq name (codes "up")) (number_line lines.Up others) _ (number_writable lines.Up others (λ c n. tt))
    (if_if IsWritableLine (bytes_eq name (codes "down")) (number_line lines.Down others) _ (number_writable lines.Down others (λ c n. tt))
    (if_if IsWritableLine (bytes_eq name (codes "work")) (client_line lines.Work others) _ (client_writable lines.Work others (λ c. tt))
    (if_if IsWritableLine (bytes_eq name (codes "tick")) (client_line lines.Tick others) (later_line name others) (client_writable lines.Tick others (λ c. tt)) (later_writable name others))))

named_writable : (name : List ℕ) (others : List (List ℕ)) → If IsWritableLine (line_named name others)
named_writable name others =
    if_if IsWritableLine (bytes_eq name (codes "cred")) (cred_line others) _ (cred_writable others)
    (if_if IsWritableLine (bytes_eq name (codes "call")) (call_line others) _ (call_writable others)
    (if_if IsWritableLine (bytes_eq name (codes "raw")) (raw_line others) (plain_line name others) (raw_writable others) (plain_writable name others)))

line_writable : (words : List (List ℕ)) → If IsWritableLine (line_in words)
unfolding line_in
line_writable [] = tt
line_writable (name ∷ others) = named_writable name others

-- ===== a script that is read

opened_writable : (o : Option Opening) → If AreWritable (opened_by o)
opened_writable None = tt
opened_writable (Some o) = tt

followed_writable : (script : ScriptLines) (line : Option Line) → AreWritable script → If IsWritableLine line → If AreWritable (followed_by script line)
followed_writable script None is h = tt
followed_writable script (Some line) is h =
    if_if AreWritable (may_follow script.opening script.lines line) (Some (record script { lines = script.lines ++ line ∷ [] })) None (all_more IsWritableLine script.lines line is h) tt

words_writable : (read : Option ScriptLines) (words : List (List ℕ)) → If AreWritable read → If AreWritable (with_words read words)
words_writable None words h = opened_writable (opening_in words)
words_writable (Some script) words h = followed_writable script (line_in words) h (line_writable words)

abbrev IfScript : Option ScriptLines → Type 0
IfScript read = If AreWritable read

read_writable : (read : Option ScriptLines) → If AreWritable read → If IfScript (if_read read)
read_writable None h = tt
read_writable (Some script) h = h

text_writable : (read : Option ScriptLines) (text : List ℕ) → If AreWritable read → If IfScript (with_text read text)
unfolding with_text
text_writable read text h =
    if_if IfScript (is_ascii text) (cond (is_skipped text) (Some read) (if_read (with_words read (parts space text)))) None
    (if_if IfScript (is_skipped text) (Some read) (if_read (with_words read (parts space text))) h (read_writable (with_words read (parts space text)) (words_writable read (parts space text) h))) tt

abbrev OkScript : Result ScriptLines ℕ → Type 0
OkScript (Ok script) = AreWritable script
OkScript (Err line) = Unit {0}

end_writable : (number : ℕ) (read : Option ScriptLines) (text : List ℕ) → If AreWritable read → OkScript (script_at_end number read text)
end_writable number read (c ∷ others) h = tt
end_writable number None [] h = tt
end_writable number (Some script) [] h = h

on_writable : (number : ℕ) (o : Option (Option ScriptLines)) (rest : Option ScriptLines → Result ScriptLines ℕ) → If IfScript o → ((read : Option ScriptLines) → If AreWritable read → OkScript (rest read)) → OkScript (read_on number o rest)
on_writable number None rest h g = tt
on_writable number (Some read) rest h g = g read h

from_writable : (number : ℕ) (read : Option ScriptLines) (texts : List (List ℕ)) → If AreWritable read → OkScript (script_from number read texts)
from_writable number read [] h = tt
from_writable number read (text ∷ []) h = end_writable number read text h
from_writable number read (text ∷ next ∷ others) h =
    on_writable number (with_text read text) (λ more. script_from (number + 1) more (next ∷ others)) (text_writable read text h) (λ more m. from_writable (number + 1) more (next ∷ others) m)

pub read_is_writable : (text : List ℕ) (script : ScriptLines) → script_of text ≡ Ok script → AreWritable script
unfolding script_of
read_is_writable text script e = subst OkScript e (from_writable 1 None (parts newline text) tt)

-- ===== a script that is made

abbrev Lines : List Line → Type 0
Lines all = AllByRecursion IsWritableLine all

cond_writable : (b : Bool) (x y : List Line) → Lines x → Lines y → Lines (cond b x y)
cond_writable true x y h g = h
cond_writable false x y h g = g

move_writable : (client kind state : ℕ) → Lines (move_lines client kind state)
unfolding move_lines
move_writable client kind state =
    cond_writable (eqb kind 0) _ _ tt (cond_writable (eqb kind 1) _ _ (tt, tt) (cond_writable (eqb kind 2) _ _ (tt, tt) (cond_writable (eqb kind 3) _ _ (tt, tt) (tt, tt))))

both_writable : (xs ys : List Line) → Lines xs → Lines ys → Lines (xs ++ ys)
both_writable [] ys h g = g
both_writable (x ∷ xs) ys h g = (h.0, both_writable xs ys h.1 g)

turn_writable : (client kind state : ℕ) → Lines (turn_lines client kind state)
turn_writable client kind state = (tt, move_writable client (below 5 (next (after_args kind state))) (next (after_args kind state)))

drawn_writable : (clients calls state : ℕ) → Lines (drawn_lines clients calls state)
drawn_writable clients zero state = (tt, tt)
drawn_writable clients (suc calls) state =
    both_writable (drawn_turn clients state) (drawn_lines clients calls (after_drawn_turn state))
    (turn_writable (below clients (next state) + 1) (below 6 (next (next state))) (next (next state))) (drawn_writable clients calls (after_drawn_turn state))

pub made_is_writable : (seed clients calls : ℕ) → AreWritable (made_script seed clients calls)
unfolding made_script
made_is_writable seed clients calls = drawn_writable clients calls seed
