-- The text of a capture is read back as the capture.
use Rattle.std.specs.Prelude.{codes, if◌then◌else◌}
use Rattle.std.specs.List.{AllByRecursion, flat_map}
use Rattle.std.specs.Fmt.{decimal}
use Rattle.std.proofs.Common.{◌≡◌, ℕ, ◌+◌, ◌^◌, ◌<◌, ◌≤◌, Bool, true, false, cond, ◌&&◌, ◌==◌, leb, List, [], ◌∷◌, ◌++◌, Option, None, Some, Result, Ok, Err, IfOk, refl, sym, ap, ◌∙◌, arith, append-nil, append_assoc, eqb-true, leb-true}
use Rattle.nr_wire.specs.Constants.{UNITS_MAX}
use Rattle.nr_reduce.specs.Limits.{credits_max}
use Rattle.nr_texts.specs.declared.opening.Opening.{Opening}
use Rattle.nr_texts.specs.Limits.{clients_max, default_capacity, default_units, capacity_max}
use Rattle.nr_texts.specs.Words.{◌>>=◌, space, newline, parts, number_within, IsWord}
use Rattle.nr_texts.specs.Openings.{capacity_in, sizes_of, sizes_in, numbered_in, invalidate_in, opening_of, opening_in, IsOpening}
use Rattle.nr_texts.proofs.TypedTexts.{both_true_lem}
use Rattle.nr_capture.specs.declared.capture.CapturedMark.{CapturedMark}
use Rattle.nr_capture.specs.Capture.{CaptureLines, is_link, link_of, with_mark, with_line, opened_by, with_first_line, marks_from, capture_of}
use Rattle.nr_capture.specs.Texts.{two_numbers_text, capacity_text, sizes_text, numbered_text, invalidate_text, opening_text, mark_text, line_text, capture_text}
use Rattle.nr_capture.specs.Writable.{IsWritableMark, IsWritable}
use Rattle.nr_capture.proofs.Steps.{more, first_more}
use Rattle.nr_capture.proofs.WrittenWords.{lacks, lacks_both, parts_cons, joined, one_part, with_word, IsNoDigit, decimal_lacks, number_back}
use Rattle.nr_capture.proofs.WrittenMarks.{two_parts, two_lack, mark_back, mark_lacks}

-- ===== the first line

-- a text and its words, with what is the default left out
abbrev capacity_by : Bool → ℕ → List ℕ
capacity_by is capacity = if is then [] else codes " capacity " ++ decimal capacity

abbrev sizes_by : Bool → ℕ → ℕ → List ℕ
sizes_by is client server = if is then [] else codes " sizes " ++ two_numbers_text client server

abbrev sizes_words : Bool → ℕ → ℕ → List (List ℕ)
sizes_words is client server = if is then [] else codes "sizes" ∷ decimal client ∷ decimal server ∷ []

abbrev capacity_words : Bool → ℕ → List (List ℕ)
capacity_words is capacity = if is then [] else codes "capacity" ∷ decimal capacity ∷ []

abbrev invalidate_words : Bool → List (List ℕ)
invalidate_words is = if is then codes "invalidate" ∷ [] else []

abbrev numbered_words : Bool → List (List ℕ)
numbered_words is = if is then codes "numbered" ∷ [] else []

abbrev last_words : Bool → Bool → List (List ℕ)
last_words numbered invalidates = numbered_words numbered ++ invalidate_words invalidates

no_space : IsNoDigit space
no_space le = omega (arith, le)

no_newline : IsNoDigit newline
no_newline le = omega (arith, le)

capacity_parts : (b : Bool) (x : List ℕ) (xs : List (List ℕ)) (capacity : ℕ) → parts space x ≡ xs → capacity < 2 ^ 64 → parts space (x ++ capacity_by b capacity) ≡ xs ++ capacity_words b capacity
capacity_parts true x xs capacity e k = ap (parts space) (append-nil x) ∙ e ∙ sym (append-nil xs)
capacity_parts false x xs capacity e k =
    let two : parts space (codes "capacity " ++ decimal capacity) ≡ codes "capacity" ∷ decimal capacity ∷ [] =
    with_word space (codes "capacity") (decimal capacity) (codes "capacity" ∷ []) refl (decimal_lacks space capacity no_space k) in
    parts_cons space x (codes "capacity " ++ decimal capacity) ∙ (λ i. e i ++ two i)

sizes_parts : (s : Bool) (x : List ℕ) (xs : List (List ℕ)) (client server : ℕ) → parts space x ≡ xs → IsWord client → IsWord server → parts space (x ++ sizes_by s client server) ≡ xs ++ sizes_words s client server
sizes_parts true x xs client server e c t = ap (parts space) (append-nil x) ∙ e ∙ sym (append-nil xs)
sizes_parts false x xs client server e c t =
    let three : parts space (codes "sizes " ++ two_numbers_text client server) ≡ codes "sizes" ∷ decimal client ∷ decimal server ∷ [] =
    joined space (codes "sizes") (two_numbers_text client server) (codes "sizes" ∷ []) (decimal client ∷ decimal server ∷ []) refl (two_parts client server c t) in
    parts_cons space x (codes "sizes " ++ two_numbers_text client server) ∙ (λ i. e i ++ three i)

numbered_parts : (n : Bool) (x : List ℕ) (xs : List (List ℕ)) → parts space x ≡ xs → parts space (x ++ numbered_text n) ≡ xs ++ numbered_words n
numbered_parts true x xs e = parts_cons space x (codes "numbered") ∙ ap (λ (p : List (List ℕ)). p ++ codes "numbered" ∷ []) e
numbered_parts false x xs e = ap (parts space) (append-nil x) ∙ e ∙ sym (append-nil xs)

invalidate_parts : (v : Bool) (x : List ℕ) (xs : List (List ℕ)) → parts space x ≡ xs → parts space (x ++ invalidate_text v) ≡ xs ++ invalidate_words v
invalidate_parts true x xs e = parts_cons space x (codes "invalidate") ∙ ap (λ (p : List (List ℕ)). p ++ codes "invalidate" ∷ []) e
invalidate_parts false x xs e = ap (parts space) (append-nil x) ∙ e ∙ sym (append-nil xs)

no_capacity : (n v : Bool) → capacity_in (last_words n v) ≡ Some (default_capacity, last_words n v)
no_capacity true true = refl
no_capacity true false = refl
no_capacity false true = refl
no_capacity false false = refl

capacity_back : (b s n v : Bool) (capacity client server : ℕ) → capacity == default_capacity ≡ b → capacity ≤ capacity_max →
    capacity_in (capacity_words b capacity ++ sizes_words s client server ++ numbered_words n ++ invalidate_words v) ≡ Some (capacity, sizes_words s client server ++ numbered_words n ++ invalidate_words v)
capacity_back true true n v capacity client server is k = no_capacity n v ∙ ap (λ (c : ℕ). Some (c, last_words n v)) (sym (eqb-true capacity default_capacity is))
capacity_back true false n v capacity client server is k = ap (λ (c : ℕ). Some (c, sizes_words false client server ++ numbered_words n ++ invalidate_words v)) (sym (eqb-true capacity default_capacity is))
capacity_back false s n v capacity client server is k =
    ap (λ (o : Option ℕ). o >>= λ b. Some (b, sizes_words s client server ++ numbered_words n ++ invalidate_words v)) (number_back 0 capacity_max capacity (omega arith) k (omega (arith, k)))

no_sizes : (n v : Bool) → sizes_in (last_words n v) ≡ Some ((default_units, default_units), last_words n v)
no_sizes true true = refl
no_sizes true false = refl
no_sizes false true = refl
no_sizes false false = refl

units_back : (client server : ℕ) → (1 ≤ client) × (client ≤ UNITS_MAX) → (1 ≤ server) × (server ≤ UNITS_MAX) → sizes_of (decimal client) (decimal server) ≡ Some (client, server)
units_back client server c t =
    ap (λ (o : Option ℕ). o >>= λ a. number_within 1 UNITS_MAX (decimal server) >>= λ b. Some (a, b)) (number_back 1 UNITS_MAX client c.0 c.1 (let le = c.1 in omega (arith, le)))
    ∙ ap (λ (o : Option ℕ). o >>= λ b. Some (client, b)) (number_back 1 UNITS_MAX server t.0 t.1 (let le = t.1 in omega (arith, le)))

sizes_back : (s n v : Bool) (client server : ℕ) → client == default_units && server == default_units ≡ s → (1 ≤ client) × (client ≤ UNITS_MAX) → (1 ≤ server) × (server ≤ UNITS_MAX) →
    sizes_in (sizes_words s client server ++ numbered_words n ++ invalidate_words v) ≡ Some ((client, server), last_words n v)
sizes_back true n v client server is c t =
    let h = both_true_lem (client == default_units) (server == default_units) is in
    no_sizes n v
    ∙ ap (λ (units : ℕ). Some ((units, default_units), last_words n v)) (sym (eqb-true client default_units h.0))
    ∙ ap (λ (units : ℕ). Some ((client, units), last_words n v)) (sym (eqb-true server default_units h.1))
sizes_back false n v client server is c t = ap (λ (o : Option (ℕ × ℕ)). o >>= λ units. Some (units, last_words n v)) (units_back client server c t)

numbered_back : (n v : Bool) → numbered_in (last_words n v) ≡ (n, invalidate_words v)
numbered_back true true = refl
numbered_back true false = refl
numbered_back false true = refl
numbered_back false false = refl

invalidate_back : (v : Bool) → invalidate_in (invalidate_words v) ≡ Some v
invalidate_back true = refl
invalidate_back false = refl

opening_words : (b s : Bool) (o : Opening) → IsOpening o → o.capacity == default_capacity ≡ b → o.client_units == default_units && o.server_units == default_units ≡ s →
    opening_of (decimal o.clients) (decimal o.credits) (capacity_words b o.capacity ++ sizes_words s o.client_units o.server_units ++ numbered_words o.numbered ++ invalidate_words o.invalidates) ≡ Some o
opening_words b s o is e f =
    rw (
      number_back 1 clients_max o.clients is.some_clients is.few_clients (let le = is.few_clients in omega (arith, le)),
      number_back 1 credits_max o.credits is.some_credits is.few_credits (let le = is.few_credits in omega (arith, le)),
      capacity_back b s o.numbered o.invalidates o.capacity o.client_units o.server_units e is.capacity,
      sizes_back s o.numbered o.invalidates o.client_units o.server_units f (is.some_client_units, is.few_client_units) (is.some_server_units, is.few_server_units),
      numbered_back o.numbered o.invalidates,
      invalidate_back o.invalidates,
    ) refl

opening_parts : (b s : Bool) (o : Opening) → IsOpening o → parts space (codes "clients " ++ decimal o.clients ++ codes " credits " ++ decimal o.credits ++ capacity_by b o.capacity ++ sizes_by s o.client_units o.server_units ++ numbered_text o.numbered ++ invalidate_text o.invalidates)
    ≡ codes "clients" ∷ decimal o.clients ∷ codes "credits" ∷ decimal o.credits ∷ (capacity_words b o.capacity ++ sizes_words s o.client_units o.server_units ++ numbered_words o.numbered ++ invalidate_words o.invalidates)
opening_parts b s o is =
    let few = is.few_clients in let g = is.few_credits in let k = is.capacity in let c = is.few_client_units in let t = is.few_server_units in
    let x : List ℕ = codes "clients " ++ decimal o.clients in
    let y : List ℕ = x ++ codes " credits " ++ decimal o.credits in
    let one : parts space x ≡ codes "clients" ∷ decimal o.clients ∷ [] =
    with_word space (codes "clients") (decimal o.clients) (codes "clients" ∷ []) refl (decimal_lacks space o.clients no_space (omega (arith, few))) in
    let rest : parts space (codes "credits " ++ decimal o.credits) ≡ codes "credits" ∷ decimal o.credits ∷ [] =
    with_word space (codes "credits") (decimal o.credits) (codes "credits" ∷ []) refl (decimal_lacks space o.credits no_space (omega (arith, g))) in
    let two : parts space y ≡ codes "clients" ∷ decimal o.clients ∷ codes "credits" ∷ decimal o.credits ∷ [] =
    ap (parts space) (append_assoc x (codes " credits ") (decimal o.credits)) ∙ parts_cons space x (codes "credits " ++ decimal o.credits) ∙ (λ i. one i ++ rest i) in
    let words : List (List ℕ) = codes "clients" ∷ decimal o.clients ∷ codes "credits" ∷ decimal o.credits ∷ [] in
    let three = sizes_parts s (y ++ capacity_by b o.capacity) (words ++ capacity_words b o.capacity) o.client_units o.server_units
    (capacity_parts b y words o.capacity two (omega (arith, k))) (omega (arith, c)) (omega (arith, t)) in
    let z : List ℕ = y ++ capacity_by b o.capacity ++ sizes_by s o.client_units o.server_units in
    let four : List (List ℕ) = words ++ capacity_words b o.capacity ++ sizes_words s o.client_units o.server_units in
    invalidate_parts o.invalidates (z ++ numbered_text o.numbered) (four ++ numbered_words o.numbered) (numbered_parts o.numbered z four three)

opening_back : (o : Opening) → IsOpening o → opening_in (parts space (opening_text o)) ≡ Some o
unfolding opening_in opening_text
opening_back o is = ap opening_in (opening_parts (o.capacity == default_capacity) (o.client_units == default_units && o.server_units == default_units) o is) ∙ opening_words (o.capacity == default_capacity) (o.client_units == default_units && o.server_units == default_units) o is refl refl

capacity_lacks : (b : Bool) (capacity : ℕ) → capacity < 2 ^ 64 → lacks newline (capacity_by b capacity) ≡ true
capacity_lacks true capacity k = refl
capacity_lacks false capacity k = lacks_both newline (codes " capacity ") (decimal capacity) refl (decimal_lacks newline capacity no_newline k)

sizes_lack : (s : Bool) (client server : ℕ) → IsWord client → IsWord server → lacks newline (sizes_by s client server) ≡ true
sizes_lack true client server c t = refl
sizes_lack false client server c t = lacks_both newline (codes " sizes ") (two_numbers_text client server) refl (two_lack client server c t)

numbered_lacks : (n : Bool) → lacks newline (numbered_text n) ≡ true
numbered_lacks true = refl
numbered_lacks false = refl

invalidate_lacks : (v : Bool) → lacks newline (invalidate_text v) ≡ true
invalidate_lacks true = refl
invalidate_lacks false = refl

opening_lacks : (o : Opening) → IsOpening o → lacks newline (opening_text o) ≡ true
unfolding opening_text
opening_lacks o is =
    let few = is.few_clients in let g = is.few_credits in let k = is.capacity in let c = is.few_client_units in let t = is.few_server_units in
    let x : List ℕ = codes "clients " ++ decimal o.clients in
    let y : List ℕ = x ++ codes " credits " in
    let z : List ℕ = y ++ decimal o.credits in
    let one : lacks newline x ≡ true = lacks_both newline (codes "clients ") (decimal o.clients) refl (decimal_lacks newline o.clients no_newline (omega (arith, few))) in
    let two : lacks newline y ≡ true = lacks_both newline x (codes " credits ") one refl in
    let three : lacks newline z ≡ true = lacks_both newline y (decimal o.credits) two (decimal_lacks newline o.credits no_newline (omega (arith, g))) in
    let w : List ℕ = z ++ capacity_text o.capacity in
    let four : lacks newline w ≡ true = lacks_both newline z (capacity_text o.capacity) three (capacity_lacks (o.capacity == default_capacity) o.capacity (omega (arith, k))) in
    let five : lacks newline (w ++ sizes_text o.client_units o.server_units) ≡ true =
    lacks_both newline w (sizes_text o.client_units o.server_units) four
    (sizes_lack (o.client_units == default_units && o.server_units == default_units) o.client_units o.server_units (omega (arith, c)) (omega (arith, t))) in
    let six : lacks newline (w ++ sizes_text o.client_units o.server_units ++ numbered_text o.numbered) ≡ true =
    lacks_both newline (w ++ sizes_text o.client_units o.server_units) (numbered_text o.numbered) five (numbered_lacks o.numbered) in
    lacks_both newline (w ++ sizes_text o.client_units o.server_units ++ numbered_text o.numbered) (invalidate_text o.invalidates) six (invalidate_lacks o.invalidates)

-- ===== the marks

abbrev read_so_far : Opening → List CapturedMark → CaptureLines
read_so_far opening marks = record { opening = opening; marks = marks }

small_link : (opening : Opening) (link : ℕ) → opening.clients ≤ clients_max → is_link opening link ≡ true → IsWord link
small_link opening link few is =
    let le : link ≤ opening.clients = leb-true link opening.clients (both_true_lem (leb 1 link) (leb link opening.clients) is).1 in
    omega (arith, le, few)

line_back : (opening : Opening) (before : List CapturedMark) (mark : CapturedMark) → opening.clients ≤ clients_max → is_link opening (link_of mark) ≡ true → IsWritableMark mark →
    with_line (read_so_far opening before) (mark_text mark) ≡ Some (read_so_far opening (before ++ mark ∷ []))
unfolding with_line
line_back opening before mark few is h =
    ap (with_mark (read_so_far opening before)) (mark_back mark h (small_link opening (link_of mark) few is))
    ∙ ap (λ (b : Bool). cond b (Some (read_so_far opening (before ++ mark ∷ []))) None) is

marks_back : (number : ℕ) (opening : Opening) (before marks : List CapturedMark) → opening.clients ≤ clients_max →
    AllByRecursion (λ mark. is_link opening (link_of mark) ≡ true) marks → AllByRecursion IsWritableMark marks →
    marks_from number (read_so_far opening before) (parts newline (flat_map line_text marks)) ≡ Ok (read_so_far opening (before ++ marks))
marks_back number opening before [] few links all = ap (λ (m : List CapturedMark). Ok (read_so_far opening m)) (sym (append-nil before))
marks_back number opening before (mark ∷ marks) few links all =
    let rest : List ℕ = flat_map line_text marks in
    let free : lacks newline (mark_text mark) ≡ true = mark_lacks mark all.0 (small_link opening (link_of mark) few links.0) in
    let cutting : parts newline (line_text mark ++ rest) ≡ mark_text mark ∷ parts newline rest =
    joined newline (mark_text mark) rest (mark_text mark ∷ []) (parts newline rest) (one_part newline (mark_text mark) free) refl in
    more number (read_so_far opening before) (read_so_far opening (before ++ mark ∷ [])) (parts newline (line_text mark ++ rest)) (mark_text mark) rest cutting (line_back opening before mark few links.0 all.0)
    ∙ marks_back (number + 1) opening (before ++ mark ∷ []) marks few links.1 all.1
    ∙ ap (λ (m : List CapturedMark). Ok (read_so_far opening m)) (append_assoc before (mark ∷ []) marks)

first_back : (opening : Opening) → IsOpening opening → with_first_line (opening_text opening) ≡ Some (read_so_far opening [])
unfolding with_first_line
first_back opening h = ap opened_by (opening_back opening h)

pub capture_back : (capture : CaptureLines) → IsWritable capture → capture_of (capture_text capture) ≡ Ok capture
unfolding capture_of capture_text
capture_back capture is =
    let rest : List ℕ = flat_map line_text capture.marks in
    first_more (parts newline (opening_text capture.opening ++ codes "\n" ++ rest)) (opening_text capture.opening) rest (read_so_far capture.opening [])
    (joined newline (opening_text capture.opening) rest (opening_text capture.opening ∷ []) (parts newline rest)
    (one_part newline (opening_text capture.opening) (opening_lacks capture.opening is.opening)) refl) (first_back capture.opening is.opening)
    ∙ marks_back 2 capture.opening [] capture.marks is.opening.few_clients is.links is.marks

-- the text of a capture's first line and marks is read back as it
pub read_of : {E : Type 0} (capture : CaptureLines) (opening : Opening) (marks : List CapturedMark) (text : Result (List ℕ) E) → IsWritable capture → opening ≡ capture.opening → marks ≡ capture.marks →
    IfOk text (λ t. t ≡ capture_text (read_so_far opening marks)) → IfOk text (λ t. capture_of t ≡ Ok capture)
read_of capture opening marks (Ok text) is e f h = ap capture_of (h ∙ (λ i. capture_text (read_so_far (e i) (f i)))) ∙ capture_back capture is
read_of capture opening marks (Err fault) is e f h = tt
