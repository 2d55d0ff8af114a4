-- The run of a drill whose clients have no numbers: its marks are those of the first links, each of which keeps its laws.
use Rattle.std.specs.Prelude.{map}
use Rattle.std.specs.List.{AllByRecursion}
use Rattle.std.proofs.Common.{◌≡◌, ℕ, ◌≤◌, arith, List, [], ◌∷◌, ◌++◌, length, refl, sym, ap, subst, ◌∙◌}
use Rattle.std.proofs.lemmas.List.FromFn.{length-map-range_with_len}
use Rattle.nr_reduce.specs.declared.mark.Mark.{Mark}
use Rattle.nr_reduce.specs.declared.mark.LinkParameters.{LinkParameters}
use Rattle.nr_script.specs.Script.{ScriptLines, IsScript}
use Rattle.nr_drill.specs.Drill.{SerialServer, link_of, Setting, IsLink, client_of, links_of}
use Rattle.nr_drill.specs.Follows.{Follows, last_setting, parameters_of, setting_of}
use Rattle.nr_drill.specs.Headline.{IsDrillRun}
use Rattle.nr_drill.specs.LinkEnds.{AreClients}
use Rattle.nr_drill.specs.Lines.{IsUnnumbered}
use Rattle.nr_drill.proofs.FirstLinks.{opened_firsts, own_client}
use Rattle.nr_drill.proofs.Followed.{KeepsAll}
use Rattle.nr_drill.proofs.FirstLines.{follows_first}
use Rattle.nr_drill.proofs.BegunLinks.{lines_hold}
use Rattle.nr_drill.proofs.Numbering.{typed_replies}

-- as many links as clients
pub first_count : (server : SerialServer) (script : ScriptLines) (run : List Mark) → IsScript script → IsUnnumbered script → (follows : Follows server script run) → length follows.last.opened ≡ script.opening.clients
first_count server script run is none follows =
    ap (λ (os : List LinkParameters). length os) (follows_first server script run is none follows).links ∙ length-map-range_with_len (setting_of server script.opening).opened 1 script.opening.clients

own_all : (f : ℕ → ℕ) → ((k : ℕ) → f k ≡ k) → (ks : List ℕ) → map f ks ≡ ks
own_all f own [] = refl
own_all f own (k ∷ ks) = λ i. own k i ∷ own_all f own ks i

-- each client has the link of its number
pub first_clients : (server : SerialServer) (script : ScriptLines) (run : List Mark) → IsScript script → IsUnnumbered script → (follows : Follows server script run) →
    AreClients (last_setting follows) follows.last (links_of script.opening.clients)
first_clients server script run is none follows =
    let s : Setting = setting_of server script.opening in
    let own : map (client_of s) (links_of script.opening.clients) ≡ links_of script.opening.clients =
    own_all (client_of s) (λ link. own_client s link ((opened_firsts server script.opening none).unnumbered link)) (links_of script.opening.clients) in
    sym own ∙ (λ i. map (client_of (sym (follows_first server script run is none follows).setting i)) (links_of (sym (first_count server script run is none follows) i)))

pub first_laws : (server : SerialServer) (script : ScriptLines) (run : List Mark) → IsScript script → IsUnnumbered script → IsDrillRun server script run → (link : ℕ) → 1 ≤ link → link ≤ script.opening.clients →
    KeepsAll (parameters_of script.opening link) link run
first_laws server script run is none drill link low high =
    let count = first_count server script run is none drill.follows in
    let laws = drill.laws link (low, omega (arith, high, count)) in
    subst (λ (o : LinkParameters). KeepsAll o link run) (ap (λ (t : Setting). t.opened link) (follows_first server script run is none drill.follows).setting)
    (record { asked = laws.asked; served = laws.served; accepts = laws.accepts })

all_at : (P : Mark → Type 0) (before after : List Mark) (mark : Mark) → AllByRecursion P (before ++ mark ∷ after) → P mark
all_at P [] after mark h = h.0
all_at P (m ∷ before) after mark h = all_at P before after mark h.1

-- the link of each mark
pub first_link : (server : SerialServer) (script : ScriptLines) (run : List Mark) → IsScript script → IsUnnumbered script → IsDrillRun server script run → (before after : List Mark) (mark : Mark) → run ≡ before ++ mark ∷ after →
    (1 ≤ link_of mark) × (link_of mark ≤ script.opening.clients)
first_link server script run is none drill before after mark cut =
    let follows = drill.follows in
    let count = first_count server script run is none follows in
    let within = subst (AllByRecursion (λ (m : Mark). IsLink follows.last (link_of m))) (sym follows.marks_are ∙ cut) (lines_hold server script is run (typed_replies run drill.typed) follows).frame.within in
    let here = all_at (λ (m : Mark). IsLink follows.last (link_of m)) before after mark within in
    (here.0, (let most = here.1 in omega (arith, most, count)))
