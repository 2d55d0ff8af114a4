-- Marks that are written are read back.
use Rattle.std.specs.Prelude.{codes}
use Rattle.std.specs.Str.{bytes_eq}
use Rattle.std.specs.Str.Parse.{AllDigits}
use Rattle.std.specs.Fmt.{decimal}
use Rattle.std.proofs.Common.{◌≡◌, ℕ, ◌<◌, Bool, true, false, cond, List, [], ◌∷◌, ◌++◌, length, Option, None, Some, refl, sym, ap, ◌∙◌, arith, append_assoc, ne_eqb}
use Rattle.std.proofs.lemmas.Fmt.{decimal_is_IsNumeral}
use Rattle.std.proofs.lemmas.Str.Parse.{digit_from_value}
use Rattle.nr_xdr.specs.Item.{IsBytes}
use Rattle.nr_rpc.specs.declared.cred.Cred.{Cred}
use Rattle.nr_rpc.specs.declared.cred.Cred.TheVariants as creds
use Rattle.nr_wire.specs.declared.hello.Side.{Side}
use Rattle.nr_wire.specs.declared.hello.Side.TheVariants.{Initiator, Responder}
use Rattle.nr_reduce.specs.declared.call.Call.{Call}
use Rattle.nr_reduce.specs.declared.call.Form.{Form}
use Rattle.nr_reduce.specs.declared.call.Outcome.{Outcome}
use Rattle.nr_reduce.specs.declared.call.Outcome.TheVariants as outcomes
use Rattle.nr_texts.specs.declared.program.Program.{Program}
use Rattle.nr_texts.specs.Words.{◌>>=◌, space, newline, parts, number_in, two_numbers, IsWord}
use Rattle.nr_texts.specs.Forms.{dot, numbered_program, IsWritableForm}
use Rattle.nr_texts.specs.Openings.{sys_cred}
use Rattle.nr_capture.specs.declared.capture.CapturedMark.{CapturedMark}
use Rattle.nr_capture.specs.declared.capture.CapturedMark.TheVariants as marks
use Rattle.nr_capture.specs.Marks.{cred_in, called_in, call_in, side_in, piece_mark, reply_with, outcome_in, done_with, exec_in, call_mark_in, mark_in}
use Rattle.nr_capture.specs.Capture.{link_of}
use Rattle.nr_capture.specs.Texts.{two_numbers_text, bytes_text, form_text, cred_text, call_text, side_text, outcome_text, mark_text}
use Rattle.nr_capture.specs.Writable.{IsWritableCred, IsWritableCall, IsWritableOutcome, IsWritableMark}
use Rattle.nr_capture.proofs.WrittenWords.{lacks, lacks_both, parts_cons, joined, one_part, with_word, IsNoDigit, decimal_lacks, word_back, bytes_back, arguments_back, bytes_lack}
use Rattle.nr_capture.proofs.WrittenForms.{form_back, form_lacks, space_outside, newline_outside}

-- ===== two numbers

no_space : IsNoDigit space
no_space le = omega (arith, le)

number_lacks : (c n : ℕ) → IsNoDigit c → IsWord n → lacks c (decimal n) ≡ true
number_lacks c n out h = decimal_lacks c n out (omega (arith, h))

one_number_part : (n : ℕ) → IsWord n → parts space (decimal n) ≡ decimal n ∷ []
one_number_part n h = one_part space (decimal n) (number_lacks space n no_space h)

-- two numbers with a character between them
two_by : (c a b : ℕ) → IsNoDigit c → IsWord a → IsWord b → parts c (decimal a ++ c ∷ [] ++ decimal b) ≡ decimal a ∷ decimal b ∷ []
two_by c a b out h k = with_word c (decimal a) (decimal b) (decimal a ∷ []) (one_part c (decimal a) (number_lacks c a out h)) (number_lacks c b out k)

pub two_parts : (a b : ℕ) → IsWord a → IsWord b → parts space (two_numbers_text a b) ≡ decimal a ∷ decimal b ∷ []
two_parts a b h k = two_by space a b no_space h k

pub two_back : (a b : ℕ) → IsWord a → IsWord b → two_numbers (decimal a ∷ decimal b ∷ []) ≡ Some (a, b)
two_back a b h k = rw (word_back a h, word_back b k) refl

-- a name before two numbers
named_two : (name : List ℕ) (a b : ℕ) → lacks space name ≡ true → IsWord a → IsWord b → parts space (name ++ space ∷ [] ++ two_numbers_text a b) ≡ name ∷ decimal a ∷ decimal b ∷ []
named_two name a b free h k = joined space name (two_numbers_text a b) (name ∷ []) (decimal a ∷ decimal b ∷ []) (one_part space name free) (two_parts a b h k)

-- two numbers with a dot between them
abbrev dotted : ℕ → ℕ → List ℕ
dotted a b = decimal a ++ codes "." ++ decimal b

dotted_parts : (a b : ℕ) → IsWord a → IsWord b → parts dot (dotted a b) ≡ decimal a ∷ decimal b ∷ []
dotted_parts a b h k = two_by dot a b (λ le. omega (arith, le)) h k

dotted_lacks : (c a b : ℕ) → IsNoDigit c → lacks c (codes ".") ≡ true → IsWord a → IsWord b → lacks c (dotted a b) ≡ true
dotted_lacks c a b out e h k = lacks_both c (decimal a ++ codes ".") (decimal b) (lacks_both c (decimal a) (codes ".") (number_lacks c a out h) e) (number_lacks c b out k)

-- ===== calls

digits_no_name : (ds rest : List ℕ) → AllDigits 10 ds → 0 < length ds → bytes_eq (ds ++ rest) (codes "none") ≡ false
digits_no_name [] rest d some = absurd (omega (arith, some))
digits_no_name (c ∷ ds) rest d some =
    let k = digit_from_value c d.0 in
    rw (ne_eqb c 110 (λ is. omega (arith, is, k.1))) refl

no_name : (n : ℕ) (rest : List ℕ) → IsWord n → bytes_eq (decimal n ++ rest) (codes "none") ≡ false
no_name n rest h = let is = decimal_is_IsNumeral n (omega (arith, h)) in digits_no_name (decimal n) rest is.0.1 is.0.0

sys_back : (uid gid : ℕ) → IsWord uid → IsWord gid → cred_in (dotted uid gid) ≡ Some (sys_cred uid gid)
sys_back uid gid h k =
    ap (λ (is : Bool). cond is (Some creds.None) (two_numbers (parts dot (dotted uid gid)) >>= λ p. Some (sys_cred p.0 p.1)))
    (ap (λ (word : List ℕ). bytes_eq word (codes "none")) (append_assoc (decimal uid) (codes ".") (decimal gid)) ∙ no_name uid (codes "." ++ decimal gid) h)
    ∙ ap (λ (ps : List (List ℕ)). two_numbers ps >>= λ p. Some (sys_cred p.0 p.1)) (dotted_parts uid gid h k)
    ∙ ap (λ (o : Option (ℕ × ℕ)). o >>= λ p. Some (sys_cred p.0 p.1)) (two_back uid gid h k)

cred_back : (cred : Cred) → IsWritableCred cred → cred_in (cred_text cred) ≡ Some cred
cred_back creds.None h = refl
cred_back (creds.Sys stamp machine uid gid gids) h = sys_back uid gid h.1 h.2 ∙ ap (λ (c : Cred). Some c) (sym h.0)
cred_back (creds.Other flavor) h = absurd h

cred_lacks : (c : ℕ) (cred : Cred) → IsNoDigit c → lacks c (codes ".") ≡ true → lacks c (codes "none") ≡ true → IsWritableCred cred → lacks c (cred_text cred) ≡ true
cred_lacks c creds.None out e f h = f
cred_lacks c (creds.Sys stamp machine uid gid gids) out e f h = dotted_lacks c uid gid out e h.1 h.2
cred_lacks c (creds.Other flavor) out e f h = absurd h

abbrev call_words : Call → List (List ℕ)
call_words call = dotted call.prog call.vers ∷ decimal call.proc ∷ cred_text call.cred ∷ bytes_text call.args ∷ []

call_parts : (call : Call) → IsWritableCall call → parts space (call_text call) ≡ call_words call
unfolding call_text
call_parts call h =
    let program : List ℕ = dotted call.prog call.vers in
    let called : List ℕ = program ++ codes " " ++ decimal call.proc in
    let from : List ℕ = called ++ codes " " ++ cred_text call.cred in
    let one : parts space program ≡ program ∷ [] = one_part space program (dotted_lacks space call.prog call.vers no_space refl h.prog h.vers) in
    let two : parts space called ≡ program ∷ decimal call.proc ∷ [] = with_word space program (decimal call.proc) (program ∷ []) one (number_lacks space call.proc no_space h.proc) in
    let three : parts space from ≡ program ∷ decimal call.proc ∷ cred_text call.cred ∷ [] =
    with_word space called (cred_text call.cred) (program ∷ decimal call.proc ∷ []) two (cred_lacks space call.cred no_space refl refl h.cred) in
    with_word space from (bytes_text call.args) (program ∷ decimal call.proc ∷ cred_text call.cred ∷ []) three (bytes_lack space call.args refl refl h.args)

program_back : (prog vers : ℕ) → IsWord prog → IsWord vers → numbered_program (parts dot (dotted prog vers)) ≡ Some (record { prog = prog; vers = vers })
program_back prog vers h k = ap numbered_program (dotted_parts prog vers h k) ∙ both
  where
    both : numbered_program (decimal prog ∷ decimal vers ∷ []) ≡ Some (record { prog = prog; vers = vers })
    both = rw (word_back prog h, word_back vers k) refl

called_back : (prog vers proc : ℕ) → IsWord prog → IsWord vers → IsWord proc → called_in (dotted prog vers) (decimal proc) ≡ Some (record { prog = prog; vers = vers }, proc)
called_back prog vers proc h k l =
    ap (λ (o : Option Program). o >>= λ p. number_in (decimal proc) >>= λ n. Some (p, n)) (program_back prog vers h k)
    ∙ ap (λ (o : Option ℕ). o >>= λ n. Some (record { prog = prog; vers = vers }, n)) (word_back proc l)

call_back : (call : Call) → IsWritableCall call → call_in (dotted call.prog call.vers) (decimal call.proc) (cred_text call.cred) (bytes_text call.args) ≡ Some call
call_back call h = rw (called_back call.prog call.vers call.proc h.prog h.vers h.proc, cred_back call.cred h.cred, arguments_back call.args h.args) refl

-- ===== lines

submit_parts : (link xid : ℕ) (form : Form) (call : Call) → IsWord link → IsWord xid → IsWritableForm form → IsWritableCall call →
    parts space (mark_text (marks.Submit link xid form call)) ≡ codes "submit" ∷ decimal link ∷ decimal xid ∷ form_text form ∷ call_words call
unfolding mark_text
submit_parts link xid form call l x f h =
    let named : List ℕ = codes "submit " ++ two_numbers_text link xid in
    let formed : List ℕ = named ++ codes " " ++ form_text form in
    let one : parts space named ≡ codes "submit" ∷ decimal link ∷ decimal xid ∷ [] = named_two (codes "submit") link xid refl l x in
    let two : parts space formed ≡ codes "submit" ∷ decimal link ∷ decimal xid ∷ form_text form ∷ [] =
    with_word space named (form_text form) (codes "submit" ∷ decimal link ∷ decimal xid ∷ []) one (form_lacks space form space_outside f) in
    joined space formed (call_text call) (codes "submit" ∷ decimal link ∷ decimal xid ∷ form_text form ∷ []) (call_words call) two (call_parts call h)

submit_back : (link xid : ℕ) (form : Form) (call : Call) → IsWord link → IsWord xid → IsWritableForm form → IsWritableCall call →
    mark_in (codes "submit" ∷ decimal link ∷ decimal xid ∷ form_text form ∷ call_words call) ≡ Some (marks.Submit link xid form call)
unfolding mark_in
submit_back link xid form call l x f h = rw (two_back link xid l x, form_back form f, call_back call h) refl

abbrev side_words : Side → List ℕ
side_words Initiator = codes "client"
side_words Responder = codes "server"

side_lacks_space : (side : Side) → lacks space (side_words side) ≡ true
side_lacks_space Initiator = refl
side_lacks_space Responder = refl

side_spaced : (side : Side) → side_text side ≡ space ∷ side_words side ++ space ∷ []
side_spaced Initiator = refl
side_spaced Responder = refl

piece_parts : (name : List ℕ) (link : ℕ) (side : Side) (bytes : List ℕ) → lacks space name ≡ true → IsWord link → IsBytes bytes →
    parts space (name ++ space ∷ [] ++ decimal link ++ side_text side ++ bytes_text bytes) ≡ name ∷ decimal link ∷ side_words side ∷ bytes_text bytes ∷ []
piece_parts name link side bytes free l h =
    let x : List ℕ = name ++ space ∷ [] ++ decimal link in
    let word : List ℕ = side_words side in
    let end : List ℕ = bytes_text bytes in
    let one : parts space x ≡ name ∷ decimal link ∷ [] = with_word space name (decimal link) (name ∷ []) (one_part space name free) (number_lacks space link no_space l) in
    let two : parts space (word ++ space ∷ [] ++ end) ≡ word ∷ end ∷ [] = with_word space word end (word ∷ []) (one_part space word (side_lacks_space side)) (bytes_lack space bytes refl refl h) in
    ap (λ (t : List ℕ). parts space (x ++ t ++ end)) (side_spaced side)
    ∙ ap (parts space) (append_assoc x (space ∷ word ++ space ∷ []) end)
    ∙ parts_cons space x (word ++ space ∷ [] ++ end)
    ∙ (λ i. one i ++ two i)

side_back : (side : Side) → side_in (side_words side) ≡ Some side
side_back Initiator = refl
side_back Responder = refl

piece_back : (mark : ℕ → Side → List ℕ → CapturedMark) (link : ℕ) (side : Side) (b : ℕ) (bytes : List ℕ) → IsWord link → IsBytes (b ∷ bytes) →
    piece_mark mark (decimal link ∷ side_words side ∷ bytes_text (b ∷ bytes) ∷ []) ≡ Some (mark link side (b ∷ bytes))
piece_back mark link side b bytes l h = rw (word_back link l, side_back side, bytes_back b bytes h) refl

abbrev outcome_parts : Outcome → List (List ℕ)
outcome_parts (outcomes.Reply payload) = codes "reply" ∷ bytes_text payload ∷ []
outcome_parts outcomes.Chunk = codes "chunk" ∷ []
outcome_parts (outcomes.Version low high) = codes "version" ∷ decimal low ∷ decimal high ∷ []

-- what follows the space after a call's numbers
abbrev outcome_rest : Outcome → List ℕ
outcome_rest (outcomes.Reply payload) = codes "reply " ++ bytes_text payload
outcome_rest outcomes.Chunk = codes "chunk"
outcome_rest (outcomes.Version low high) = codes "version " ++ two_numbers_text low high

outcome_spaced : (outcome : Outcome) → outcome_text outcome ≡ space ∷ outcome_rest outcome
outcome_spaced (outcomes.Reply payload) = refl
outcome_spaced outcomes.Chunk = refl
outcome_spaced (outcomes.Version low high) = refl

rest_parts : (outcome : Outcome) → IsWritableOutcome outcome → parts space (outcome_rest outcome) ≡ outcome_parts outcome
rest_parts (outcomes.Reply payload) h = with_word space (codes "reply") (bytes_text payload) (codes "reply" ∷ []) refl (bytes_lack space payload refl refl h)
rest_parts outcomes.Chunk h = refl
rest_parts (outcomes.Version low high) h = named_two (codes "version") low high refl h.0 h.1

done_parts : (link xid : ℕ) (outcome : Outcome) → IsWord link → IsWord xid → IsWritableOutcome outcome →
    parts space (mark_text (marks.Done link xid outcome)) ≡ codes "done" ∷ decimal link ∷ decimal xid ∷ outcome_parts outcome
unfolding mark_text
done_parts link xid outcome l x h =
    let named : List ℕ = codes "done " ++ two_numbers_text link xid in
    let words : List (List ℕ) = codes "done" ∷ decimal link ∷ decimal xid ∷ [] in
    let one : parts space named ≡ words = named_two (codes "done") link xid refl l x in
    ap (λ (t : List ℕ). parts space (named ++ t)) (outcome_spaced outcome)
    ∙ parts_cons space named (outcome_rest outcome)
    ∙ (λ i. one i ++ rest_parts outcome h i)

outcome_back : (outcome : Outcome) → IsWritableOutcome outcome → outcome_in (outcome_parts outcome) ≡ Some outcome
outcome_back (outcomes.Reply payload) h = ap (λ (o : Option (List ℕ)). reply_with o) (arguments_back payload h)
outcome_back outcomes.Chunk h = refl
outcome_back (outcomes.Version low high) h = ap (λ (o : Option (ℕ × ℕ)). o >>= λ p. Some (outcomes.Version p.0 p.1)) (two_back low high h.0 h.1)

done_back : (link xid : ℕ) (outcome : Outcome) → IsWord link → IsWord xid → IsWritableOutcome outcome →
    mark_in (codes "done" ∷ decimal link ∷ decimal xid ∷ outcome_parts outcome) ≡ Some (marks.Done link xid outcome)
unfolding mark_in
done_back link xid outcome l x h =
    ap (λ (o : Option (ℕ × ℕ)). o >>= λ at. done_with at (outcome_in (outcome_parts outcome))) (two_back link xid l x) ∙ ap (done_with (link, xid)) (outcome_back outcome h)

call_mark_back : (mark : ℕ → ℕ → CapturedMark) (link xid : ℕ) → IsWord link → IsWord xid → call_mark_in mark (decimal link ∷ decimal xid ∷ []) ≡ Some (mark link xid)
call_mark_back mark link xid l x = ap (λ (o : Option (ℕ × ℕ)). o >>= λ at. Some (mark at.0 at.1)) (two_back link xid l x)

exec_back : (link xid seconds : ℕ) → IsWord link → IsWord xid → IsWord seconds → exec_in (decimal link ∷ decimal xid ∷ decimal seconds ∷ []) ≡ Some (marks.Exec link xid seconds)
exec_back link xid seconds l x s = rw (two_back link xid l x, word_back seconds s) refl

-- the link of a mark, which is a number of 32 bits
pub mark_back : (mark : CapturedMark) → IsWritableMark mark → IsWord (link_of mark) → mark_in (parts space (mark_text mark)) ≡ Some mark
unfolding mark_in mark_text
mark_back (marks.Submit link xid form call) h l = ap mark_in (submit_parts link xid form call l h.0 h.1 h.2) ∙ submit_back link xid form call l h.0 h.1 h.2
mark_back (marks.Out link side []) h l = absurd (let some = h.0 in omega (arith, some))
mark_back (marks.Out link side (b ∷ bytes)) h l = ap mark_in (piece_parts (codes "out") link side (b ∷ bytes) refl l h.1) ∙ piece_back marks.Out link side b bytes l h.1
mark_back (marks.In link side []) h l = absurd (let some = h.0 in omega (arith, some))
mark_back (marks.In link side (b ∷ bytes)) h l = ap mark_in (piece_parts (codes "in") link side (b ∷ bytes) refl l h.1) ∙ piece_back marks.In link side b bytes l h.1
mark_back (marks.Exec link xid seconds) h l =
    ap mark_in (with_word space (codes "exec " ++ two_numbers_text link xid) (decimal seconds) (codes "exec" ∷ decimal link ∷ decimal xid ∷ []) (named_two (codes "exec") link xid refl l h.0)
    (number_lacks space seconds no_space h.1)) ∙ exec_back link xid seconds l h.0 h.1
mark_back (marks.Done link xid outcome) h l = ap mark_in (done_parts link xid outcome l h.0 h.1) ∙ done_back link xid outcome l h.0 h.1
mark_back (marks.Forget link xid) h l =
    ap mark_in (named_two (codes "forget") link xid refl l h) ∙ call_mark_back marks.Forget link xid l h
mark_back (marks.Revoke link xid) h l =
    ap mark_in (named_two (codes "revoke") link xid refl l h) ∙ call_mark_back marks.Revoke link xid l h
mark_back (marks.Drop link) h l =
    ap mark_in (with_word space (codes "drop") (decimal link) (codes "drop" ∷ []) refl (number_lacks space link no_space l))
    ∙ ap (λ (o : Option ℕ). o >>= λ n. Some (marks.Drop n)) (word_back link l)
mark_back (marks.Grant link credits) h l =
    ap mark_in (named_two (codes "grant") link credits refl l h) ∙ call_mark_back marks.Grant link credits l h

-- ===== no line has a newline

no_newline : IsNoDigit newline
no_newline le = omega (arith, le)

-- two texts without a newline, with a space between them
spaced_lack : (x y : List ℕ) → lacks newline x ≡ true → lacks newline y ≡ true → lacks newline (x ++ codes " " ++ y) ≡ true
spaced_lack x y e f = lacks_both newline (x ++ codes " ") y (lacks_both newline x (codes " ") e refl) f

pub two_lack : (a b : ℕ) → IsWord a → IsWord b → lacks newline (two_numbers_text a b) ≡ true
two_lack a b h k = spaced_lack (decimal a) (decimal b) (number_lacks newline a no_newline h) (number_lacks newline b no_newline k)

named_lack : (name : List ℕ) (a b : ℕ) → lacks newline name ≡ true → IsWord a → IsWord b → lacks newline (name ++ two_numbers_text a b) ≡ true
named_lack name a b e h k = lacks_both newline name (two_numbers_text a b) e (two_lack a b h k)

side_lacks : (side : Side) → lacks newline (side_text side) ≡ true
side_lacks Initiator = refl
side_lacks Responder = refl

piece_lacks : (name : List ℕ) (link : ℕ) (side : Side) (bytes : List ℕ) → lacks newline name ≡ true → IsWord link → IsBytes bytes → lacks newline (name ++ decimal link ++ side_text side ++ bytes_text bytes) ≡ true
piece_lacks name link side bytes e l h =
    lacks_both newline (name ++ decimal link ++ side_text side) (bytes_text bytes)
    (lacks_both newline (name ++ decimal link) (side_text side) (lacks_both newline name (decimal link) e (number_lacks newline link no_newline l)) (side_lacks side))
    (bytes_lack newline bytes refl refl h)

outcome_lacks : (outcome : Outcome) → IsWritableOutcome outcome → lacks newline (outcome_text outcome) ≡ true
outcome_lacks (outcomes.Reply payload) h = lacks_both newline (codes " reply ") (bytes_text payload) refl (bytes_lack newline payload refl refl h)
outcome_lacks outcomes.Chunk h = refl
outcome_lacks (outcomes.Version low high) h = named_lack (codes " version ") low high refl h.0 h.1

call_lacks : (call : Call) → IsWritableCall call → lacks newline (call_text call) ≡ true
unfolding call_text
call_lacks call h =
    let program : List ℕ = dotted call.prog call.vers in
    let called : List ℕ = program ++ codes " " ++ decimal call.proc in
    let from : List ℕ = called ++ codes " " ++ cred_text call.cred in
    let one : lacks newline called ≡ true = spaced_lack program (decimal call.proc) (dotted_lacks newline call.prog call.vers no_newline refl h.prog h.vers) (number_lacks newline call.proc no_newline h.proc) in
    let two : lacks newline from ≡ true = spaced_lack called (cred_text call.cred) one (cred_lacks newline call.cred no_newline refl refl h.cred) in
    spaced_lack from (bytes_text call.args) two (bytes_lack newline call.args refl refl h.args)

pub mark_lacks : (mark : CapturedMark) → IsWritableMark mark → IsWord (link_of mark) → lacks newline (mark_text mark) ≡ true
unfolding mark_text
mark_lacks (marks.Submit link xid form call) h l =
    let named : List ℕ = codes "submit " ++ two_numbers_text link xid in
    let formed : List ℕ = named ++ codes " " ++ form_text form in
    let one : lacks newline formed ≡ true = spaced_lack named (form_text form) (named_lack (codes "submit ") link xid refl l h.0) (form_lacks newline form newline_outside h.1) in
    spaced_lack formed (call_text call) one (call_lacks call h.2)
mark_lacks (marks.Out link side bytes) h l = piece_lacks (codes "out ") link side bytes refl l h.1
mark_lacks (marks.In link side bytes) h l = piece_lacks (codes "in ") link side bytes refl l h.1
mark_lacks (marks.Exec link xid seconds) h l =
    spaced_lack (codes "exec " ++ two_numbers_text link xid) (decimal seconds) (named_lack (codes "exec ") link xid refl l h.0) (number_lacks newline seconds no_newline h.1)
mark_lacks (marks.Done link xid outcome) h l =
    lacks_both newline (codes "done " ++ two_numbers_text link xid) (outcome_text outcome) (named_lack (codes "done ") link xid refl l h.0) (outcome_lacks outcome h.1)
mark_lacks (marks.Forget link xid) h l = named_lack (codes "forget ") link xid refl l h
mark_lacks (marks.Revoke link xid) h l = named_lack (codes "revoke ") link xid refl l h
mark_lacks (marks.Drop link) h l = lacks_both newline (codes "drop ") (decimal link) refl (number_lacks newline link no_newline l)
mark_lacks (marks.Grant link credits) h l = named_lack (codes "grant ") link credits refl l h
