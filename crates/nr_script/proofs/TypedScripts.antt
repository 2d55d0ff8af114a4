-- A text that is a script says one that is of its types: what is read as a number is a word, and what is read as bytes are bytes.
use Rattle.std.specs.Prelude.{◌-◌, ◌==◌, codes, length, count_by}
use Rattle.std.specs.List.{AllByRecursion}
use Rattle.std.specs.Str.{bytes_eq}
use Rattle.std.proofs.Common.{◌≡◌, ℕ, ◌+◌, ◌≤◌, Bool, true, false, cond, List, [], ◌∷◌, ◌++◌, Option, None, Some, Result, Ok, Err, refl, sym, subst, arith, append-nil, append_assoc}
use Rattle.std.proofs.lemmas.List.{length-append}
use Rattle.std.proofs.lemmas.List.Sums.{count_by-le-length}
use Rattle.std.proofs.lemmas.List.Splits.{length-slice_split}
use Rattle.nr_xdr.specs.Item.{IsBytes}
use Rattle.nr_rpc.specs.declared.cred.Cred.TheVariants as creds
use Rattle.nr_outside.specs.Whole.{input_max}
use Rattle.nr_texts.specs.declared.opening.Opening.{Opening}
use Rattle.nr_texts.specs.declared.program.Program.{Program}
use Rattle.nr_texts.specs.Limits.{clients_max}
use Rattle.nr_texts.specs.Words.{◌>>=◌, IsWord, number_in, bytes_in, arguments_in, parts, one_number, two_numbers, space, newline}
use Rattle.nr_reduce.specs.Plans.{HasWordPosition}
use Rattle.nr_texts.specs.Forms.{form_in, program_in}
use Rattle.nr_texts.specs.Openings.{opening_in, sys_cred, IsOpening}
use Rattle.nr_texts.proofs.TypedTexts.{If, then_if, if_if, all_more, IsAny, any_if, small_if, bytes_if, arguments_if, form_if, ProgramSmall, program_if, PairSmall, two_if, opening_if}
use Rattle.nr_script.specs.declared.script.Line.{Line}
use Rattle.nr_script.specs.declared.script.Line.TheVariants as lines
use Rattle.nr_script.specs.Lines.{sys_line, cred_line_of, cred_line, target_in, call_with, call_line, client_line, number_line, side_in, raw_line, drain_line, later_line, plain_line, line_named, line_in}
use Rattle.nr_script.specs.Script.{ScriptLines, may_follow, is_ascii, is_skipped, opened_by, followed_by, with_words, if_read, with_text, script_at_end, read_on, script_from, script_of, FollowOn, HasWritableCred, IsTypedLine, IsScript}
use Rattle.nr_script.specs.private.Steps.{opened}
use Rattle.nr_script.proofs.ByteLists.{decided}

-- ===== lines

-- a line is of its type, and its credential can be encoded
abbrev LineIsRight : Line → Type 0
LineIsRight line = IsTypedLine line × HasWritableCred line

sys_right : (client uid gid : ℕ) → IsWord uid → IsWord gid → LineIsRight (lines.Cred client (sys_cred uid gid))
sys_right client uid gid u g = ((decided (codes "drill") refl, (omega arith, (omega arith, (u, (g, (omega arith, tt)))))), (omega arith, omega arith))

sys_if : (client : ℕ) (words : List (List ℕ)) → If LineIsRight (sys_line client words)
sys_if client words = then_if PairSmall LineIsRight (two_numbers words) (λ p. Some (lines.Cred client (sys_cred p.0 p.1))) (two_if words) (λ p h. sys_right client p.0 p.1 h.0 h.1)

cred_of_if : (client : ℕ) (words : List (List ℕ)) → If LineIsRight (cred_line_of client words)
cred_of_if client [] = sys_if client []
cred_of_if client (none ∷ []) = if_if LineIsRight (bytes_eq none (codes "none")) (Some (lines.Cred client creds.None)) None (tt, tt) tt
cred_of_if client (none ∷ more ∷ others) = sys_if client (none ∷ more ∷ others)

cred_if : (words : List (List ℕ)) → If LineIsRight (cred_line words)
cred_if [] = tt
cred_if (client ∷ others) = then_if IsAny LineIsRight (number_in client) (λ c. cred_line_of c others) (any_if (number_in client)) (λ c any. cred_of_if c others)

abbrev TargetSmall : ℕ × Program × ℕ → Type 0
TargetSmall t = IsWord t.1.prog × IsWord t.1.vers × IsWord t.2

target_if : (client program proc : List ℕ) → If TargetSmall (target_in client program proc)
target_if client program proc =
    then_if IsAny TargetSmall (number_in client) (λ c. program_in program >>= λ p. number_in proc >>= λ n. Some (c, p, n)) (any_if (number_in client))
    (λ c any. then_if ProgramSmall TargetSmall (program_in program) (λ p. number_in proc >>= λ n. Some (c, p, n)) (program_if program)
    (λ p small. then_if IsWord TargetSmall (number_in proc) (λ n. Some (c, p, n)) (small_if proc) (λ n fits. (small.0, small.1, fits))))

call_if : (words : List (List ℕ)) → If LineIsRight (call_line words)
call_if [] = tt
call_if (client ∷ []) = tt
call_if (client ∷ form ∷ []) = tt
call_if (client ∷ form ∷ program ∷ []) = tt
call_if (client ∷ form ∷ program ∷ proc ∷ []) = tt
call_if (client ∷ form ∷ program ∷ proc ∷ args ∷ []) =
    then_if TargetSmall LineIsRight (target_in client program proc) (λ t. arguments_in args >>= λ bytes. call_with t (form_in form) bytes) (target_if client program proc)
    (λ t small. then_if IsBytes LineIsRight (arguments_in args) (λ bytes. call_with t (form_in form) bytes) (arguments_if args)
    (λ bytes h. then_if HasWordPosition LineIsRight (form_in form) (λ f. Some (lines.Call t.0 f t.1.prog t.1.vers t.2 bytes)) (form_if form)
    (λ f typed. ((typed, small.0, small.1, small.2, h), tt))))
call_if (client ∷ form ∷ program ∷ proc ∷ args ∷ more ∷ others) = tt

client_if : (line : ℕ → Line) (words : List (List ℕ)) → ((c : ℕ) → LineIsRight (line c)) → If LineIsRight (client_line line words)
client_if line words h = then_if IsAny LineIsRight (one_number words) (λ c. Some (line c)) (any_if (one_number words)) (λ c any. h c)

number_if : (line : ℕ → ℕ → Line) (words : List (List ℕ)) → ((c n : ℕ) → LineIsRight (line c n)) → If LineIsRight (number_line line words)
number_if line words h = then_if IsAny LineIsRight (two_numbers words) (λ p. Some (line p.0 p.1)) (any_if (two_numbers words)) (λ p any. h p.0 p.1)

raw_if : (words : List (List ℕ)) → If LineIsRight (raw_line words)
raw_if [] = tt
raw_if (client ∷ []) = tt
raw_if (client ∷ way ∷ []) = tt
raw_if (client ∷ way ∷ hex ∷ []) =
    then_if IsAny LineIsRight (number_in client) (λ c. side_in way >>= λ side. bytes_in hex >>= λ bytes. Some (lines.Raw c side bytes)) (any_if (number_in client))
    (λ c any. then_if IsAny LineIsRight (side_in way) (λ side. bytes_in hex >>= λ bytes. Some (lines.Raw c side bytes)) (any_if (side_in way))
    (λ side any. then_if IsBytes LineIsRight (bytes_in hex) (λ bytes. Some (lines.Raw c side bytes)) (bytes_if hex) (λ bytes h. (h, tt))))
raw_if (client ∷ way ∷ hex ∷ more ∷ others) = tt

drain_if : (words : List (List ℕ)) → If LineIsRight (drain_line words)
drain_if [] = (tt, tt)
drain_if (word ∷ others) = tt

later_if : (name : List ℕ) (others : List (List ℕ)) → If LineIsRight (later_line name others)
later_if name others =
    if_if LineIsRight (bytes_eq name (codes "forget")) (number_line lines.Forget others) _ (number_if lines.Forget others (λ c n. (tt, tt)))
    (if_if LineIsRight (bytes_eq name (codes "revoke")) (number_line lines.Revoke others) _ (number_if lines.Revoke others (λ c n. (tt, tt)))
    (if_if LineIsRight (bytes_eq name (codes "drop")) (client_line lines.Drop others) _ (client_if lines.Drop others (λ c. (tt, tt)))
    (if_if LineIsRight (bytes_eq name (codes "rejoin")) (client_line lines.Rejoin others) _ (client_if lines.Rejoin others (λ c. (tt, tt)))
    (if_if LineIsRight (bytes_eq name (codes "grant")) (number_line lines.Grant others) _ (number_if lines.Grant others (λ c n. (tt, tt)))
    (if_if LineIsRight (bytes_eq name (codes "drain")) (drain_line others) None (drain_if others) tt)))))

plain_if : (name : List ℕ) (others : List (List ℕ)) → If LineIsRight (plain_line name others)
plain_if name others =
    if_if LineIsRight (bytes_eq name (codes "up")) (number_line lines.Up others) _ (number_if lines.Up others (λ c n. (tt, tt)))
    (if_if LineIsRight (bytes_eq name (codes "down")) (number_line lines.Down others) _ (number_if lines.Down others (λ c n. (tt, tt)))
    (if_if LineIsRight (bytes_eq name (codes "work")) (client_line lines.Work others) _ (client_if lines.Work others (λ c. (tt, tt)))
    (if_if LineIsRight (bytes_eq name (codes "tick")) (client_line lines.Tick others) (later_line name others) (client_if lines.Tick others (λ c. (tt, tt))) (later_if name others))))

named_line : (name : List ℕ) (others : List (List ℕ)) → If LineIsRight (line_named name others)
named_line name others =
    if_if LineIsRight (bytes_eq name (codes "cred")) (cred_line others) _ (cred_if others)
    (if_if LineIsRight (bytes_eq name (codes "call")) (call_line others) _ (call_if others)
    (if_if LineIsRight (bytes_eq name (codes "raw")) (raw_line others) (plain_line name others) (raw_if others) (plain_if name others)))

line_if : (words : List (List ℕ)) → If LineIsRight (line_in words)
unfolding line_in
line_if [] = tt
line_if (name ∷ others) = named_line name others

-- ===== a script

follow_more : (opening : Opening) (before all : List Line) (line : Line) → may_follow opening (before ++ all) line ≡ true → FollowOn opening before all → FollowOn opening before (all ++ line ∷ [])
follow_more opening before [] line e h = (subst (λ (b : List Line). may_follow opening b line ≡ true) (append-nil before) e, tt)
follow_more opening before (l ∷ all) line e h =
    (h.0, follow_more opening (before ++ l ∷ []) all line (subst (λ (b : List Line). may_follow opening b line ≡ true) (sym (append_assoc before (l ∷ []) all)) e) h.1)

-- a script that is being read, but for its number of lines
record IsRead (script : ScriptLines) : Type 0 where
  opening : IsOpening script.opening
  follow_on : FollowOn script.opening [] script.lines
  creds : AllByRecursion HasWritableCred script.lines
  typed : AllByRecursion IsTypedLine script.lines

opened_if : (o : Option Opening) → If IsOpening o → If IsRead (opened_by o)
opened_if None h = tt
opened_if (Some o) h = record {
  opening = h;
  follow_on = tt;
  creds = tt;
  typed = tt;
}

followed_if : (script : ScriptLines) (line : Option Line) → IsRead script → If LineIsRight line → If IsRead (followed_by script line)
followed_if script None is h = tt
followed_if script (Some line) is h = by (may_follow script.opening script.lines line) refl
  where
    by : (b : Bool) → may_follow script.opening script.lines line ≡ b → If IsRead (cond b (Some (record script { lines = script.lines ++ line ∷ [] })) None)
    by true e = record {
      opening = is.opening;
      follow_on = follow_more script.opening [] script.lines line e is.follow_on;
      creds = all_more HasWritableCred script.lines line is.creds h.1;
      typed = all_more IsTypedLine script.lines line is.typed h.0;
    }
    by false e = tt

words_if : (read : Option ScriptLines) (words : List (List ℕ)) → If IsRead read → If IsRead (with_words read words)
words_if None words h = opened_if (opening_in words) (opening_if words)
words_if (Some script) words h = followed_if script (line_in words) h (line_if words)

abbrev IfScript : Option ScriptLines → Type 0
IfScript read = If IsRead read

read_it : (read : Option ScriptLines) → If IsRead read → If IfScript (if_read read)
read_it None h = tt
read_it (Some script) h = h

text_if : (read : Option ScriptLines) (text : List ℕ) → If IsRead read → If IfScript (with_text read text)
unfolding with_text
text_if read text h =
    if_if IfScript (is_ascii text) (cond (is_skipped text) (Some read) (if_read (with_words read (parts space text)))) None
    (if_if IfScript (is_skipped text) (Some read) (if_read (with_words read (parts space text))) h (read_it (with_words read (parts space text)) (words_if read (parts space text) h))) tt

-- the first line names few clients
pub opened_clients : (line : List ℕ) (opening : Opening) → with_text None line ≡ Some (Some (opened opening)) → opening.clients ≤ clients_max
opened_clients line opening e = (subst (λ (o : Option (Option ScriptLines)). If IfScript o) e (text_if None line tt)).opening.few_clients

abbrev OkScript : Result ScriptLines ℕ → Type 0
OkScript (Ok script) = IsRead script
OkScript (Err line) = Unit {0}

end_if : (number : ℕ) (read : Option ScriptLines) (text : List ℕ) → If IsRead read → OkScript (script_at_end number read text)
end_if number read (c ∷ others) h = tt
end_if number None [] h = tt
end_if number (Some script) [] h = h

on_if : (number : ℕ) (o : Option (Option ScriptLines)) (rest : Option ScriptLines → Result ScriptLines ℕ) → If IfScript o → ((read : Option ScriptLines) → If IsRead read → OkScript (rest read)) → OkScript (read_on number o rest)
on_if number None rest h g = tt
on_if number (Some read) rest h g = g read h

from_if : (number : ℕ) (read : Option ScriptLines) (texts : List (List ℕ)) → If IsRead read → OkScript (script_from number read texts)
from_if number read [] h = tt
from_if number read (text ∷ []) h = end_if number read text h
from_if number read (text ∷ next ∷ others) h =
    on_if number (with_text read text) (λ more. script_from (number + 1) more (next ∷ others)) (text_if read text h) (λ more m. from_if (number + 1) more (next ∷ others) m)

-- ===== its number of lines: at most that of the parts of its text

abbrev HasFew : ℕ → ScriptLines → Type 0
HasFew n script = length script.lines ≤ n

abbrev OkFew : ℕ → Result ScriptLines ℕ → Type 0
OkFew n (Ok script) = length script.lines ≤ n
OkFew n (Err line) = Unit {0}

opened_few : (n : ℕ) (o : Option Opening) → If (HasFew (n + 1)) (opened_by o)
opened_few n None = tt
opened_few n (Some opening) = omega arith

followed_few : (n : ℕ) (script : ScriptLines) (line : Option Line) → HasFew n script → If (HasFew (n + 1)) (followed_by script line)
followed_few n script None h = tt
followed_few n script (Some line) h =
    if_if (HasFew (n + 1)) (may_follow script.opening script.lines line) (Some (record script { lines = script.lines ++ line ∷ [] })) None
    (let one : length (script.lines ++ line ∷ []) ≡ length script.lines + 1 = length-append script.lines (line ∷ []) in omega (arith, one, h)) tt

words_few : (n : ℕ) (read : Option ScriptLines) (words : List (List ℕ)) → If (HasFew n) read → If (HasFew (n + 1)) (with_words read words)
words_few n None words h = opened_few n (opening_in words)
words_few n (Some script) words h = followed_few n script (line_in words) h

abbrev IfFew : ℕ → Option ScriptLines → Type 0
IfFew n read = If (HasFew n) read

read_few : (n : ℕ) (read : Option ScriptLines) → If (HasFew n) read → If (IfFew n) (if_read read)
read_few n None h = tt
read_few n (Some script) h = h

more_few : (n : ℕ) (read : Option ScriptLines) → If (HasFew n) read → If (HasFew (n + 1)) read
more_few n None h = tt
more_few n (Some script) h = omega (arith, h)

text_few : (n : ℕ) (read : Option ScriptLines) (text : List ℕ) → If (HasFew n) read → If (IfFew (n + 1)) (with_text read text)
unfolding with_text
text_few n read text h =
    if_if (IfFew (n + 1)) (is_ascii text) (cond (is_skipped text) (Some read) (if_read (with_words read (parts space text)))) None
    (if_if (IfFew (n + 1)) (is_skipped text) (Some read) (if_read (with_words read (parts space text))) (more_few n read h)
    (read_few (n + 1) (with_words read (parts space text)) (words_few n read (parts space text) h))) tt

end_few : (n number : ℕ) (read : Option ScriptLines) (text : List ℕ) → If (HasFew n) read → OkFew n (script_at_end number read text)
end_few n number read (c ∷ others) h = tt
end_few n number None [] h = tt
end_few n number (Some script) [] h = h

on_few : (m n number : ℕ) (o : Option (Option ScriptLines)) (rest : Option ScriptLines → Result ScriptLines ℕ) → If (IfFew m) o → ((read : Option ScriptLines) → If (HasFew m) read → OkFew n (rest read)) → OkFew n (read_on number o rest)
on_few m n number None rest h g = tt
on_few m n number (Some read) rest h g = g read h

from_few : (n number : ℕ) (read : Option ScriptLines) (texts : List (List ℕ)) → If (HasFew n) read → OkFew (n + length texts - 1) (script_from number read texts)
from_few n number read [] h = tt
from_few n number read (text ∷ []) h = (let same : n ≡ n + 1 - 1 = omega arith in subst (λ (m : ℕ). OkFew m (script_at_end number read text)) same (end_few n number read text h))
from_few n number read (text ∷ next ∷ others) h =
    let same : (n + 1) + length (next ∷ others) - 1 ≡ n + length (text ∷ next ∷ others) - 1 = omega arith in
    on_few (n + 1) (n + length (text ∷ next ∷ others) - 1) number (with_text read text) (λ more. script_from (number + 1) more (next ∷ others)) (text_few n read text h)
    (λ more m. subst (λ (k : ℕ). OkFew k (script_from (number + 1) more (next ∷ others))) same (from_few (n + 1) (number + 1) more (next ∷ others) m))

-- What a text says, if it is a script, is one: its numbers are in range, each line may follow those before it, and all is of its types. It has no
-- more lines than its text has bytes.
pub script_is : (text : List ℕ) (script : ScriptLines) → length text ≤ input_max → script_of text ≡ Ok script → IsScript script
unfolding script_of
script_is text script short e =
    let is : IsRead script = subst OkScript e (from_if 1 None (parts newline text) tt) in
    let few : length script.lines ≤ 0 + length (parts newline text) - 1 = subst (OkFew (0 + length (parts newline text) - 1)) e (from_few 0 1 None (parts newline text) tt) in
    let count : length (parts newline text) ≡ count_by (λ c. c == newline) text + 1 = length-slice_split (λ c. c == newline) text in
    let within : count_by (λ c. c == newline) text ≤ length text = count_by-le-length (λ c. c == newline) text in
    record {
      some_clients = is.opening.some_clients;
      few_clients = is.opening.few_clients;
      some_credits = is.opening.some_credits;
      few_credits = is.opening.few_credits;
      capacity = is.opening.capacity;
      some_client_units = is.opening.some_client_units;
      few_client_units = is.opening.few_client_units;
      some_server_units = is.opening.some_server_units;
      few_server_units = is.opening.few_server_units;
      few_lines = omega (arith, few, count, within, short);
      follow_on = is.follow_on;
      creds = is.creds;
      typed = is.typed;
    }
