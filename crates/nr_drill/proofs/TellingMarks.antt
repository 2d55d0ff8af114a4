-- What a report says is what its marks say.
use Rattle.std.proofs.Common.{◌≡◌, ℕ, zero, suc, ◌+◌, ◌-◌, ◌<◌, ◌≤◌, arith, Bool, true, false, cond, List, [], ◌∷◌, ◌++◌, length, map, take, drop, get_or, set, Some, refl, sym, ap, subst, ◌∙◌}
use Rattle.std.specs.Prelude.{◌||◌, is_some, slice_get, if◌then◌else◌, slice_index_or}
use Rattle.std.specs.List.{flat_map}
use Rattle.std.proofs.lemmas.Grind.{flat_map-append}
use Rattle.std.proofs.lemmas.List.{append-nil, length-map, take_more}
use Rattle.std.proofs.lemmas.Option.{slice_get-map}
use Rattle.std.specs.Option.{option_map}
use Rattle.nr_wire.specs.declared.hello.Side.{Side}
use Rattle.nr_wire.specs.declared.hello.Side.TheVariants.{Initiator, Responder}
use Rattle.nr_reduce.specs.declared.mark.Entry.{Entry}
use Rattle.nr_reduce.specs.declared.mark.Mark.{Mark}
use Rattle.nr_reduce.specs.declared.mark.Mark.TheVariants as marks
use Rattle.nr_reduce.specs.PlainJournal.{journal}
use Rattle.nr_reduce.specs.History.{bytes_sent, bytes_received, written_at, fed_at, is_dropped}
use Rattle.nr_reduce.specs.Run.{end_of_side}
use Rattle.nr_drill.specs.declared.report.CallReport.{CallReport}
use Rattle.nr_drill.specs.declared.report.LinkEnds.{LinkEnds}
use Rattle.nr_drill.specs.declared.report.LinkLog.{LinkLog}
use Rattle.nr_drill.specs.declared.report.LinkReport.{LinkReport}
use Rattle.nr_drill.specs.declared.report.LinkState.TheVariants as links
use Rattle.nr_drill.specs.declared.report.Report.{Report}
use Rattle.nr_drill.specs.declared.draft.Draft.{Draft}
use Rattle.nr_drill.specs.Drill.{Setting, client_of, journal_of}
use Rattle.std.proofs.Math.Seq.{take-append_seam}
use Rattle.nr_drill.specs.Follows.{last_setting}
use Rattle.nr_drill.specs.Headline.{log_of}
use Rattle.nr_drill.specs.LinkEnds.{AreEnds, ReportsRuns, ends_of}
use Rattle.nr_drill.specs.Reports.{at_last, call_reports, is_gone, link_report, link_reports, lost_if, reports_after, side_report}
use Rattle.nr_drill.specs.private.Drafts.{AddsToLog, AreCalls, AreNumbered, IsDraft, TellsCalls, at_last_by, entries_so_far, gone_by, link_reports_from, link_report_by}
use Rattle.nr_reduce.specs.NumberedJournal.{entries_alone}
use Rattle.nr_drill.proofs.EndingDrains.{Owned}
use Rattle.nr_drill.proofs.Numbering.{drill_numbered, drill_links, drill_owned}

-- ===== logs

module _ (link : ℕ) (run : List Mark) (mark : Mark) where
  sent_one : (side : Side) → bytes_sent link side (run ++ mark ∷ []) ≡ bytes_sent link side run ++ written_at link side mark
  unfolding bytes_sent
  sent_one side = flat_map-append (written_at link side) run (mark ∷ []) ∙ ap (λ (bs : List ℕ). flat_map (written_at link side) run ++ bs) (append-nil (written_at link side mark))

  received_one : (side : Side) → bytes_received link side (run ++ mark ∷ []) ≡ bytes_received link side run ++ fed_at link side mark
  unfolding bytes_received
  received_one side = flat_map-append (fed_at link side) run (mark ∷ []) ∙ ap (λ (bs : List ℕ). flat_map (fed_at link side) run ++ bs) (append-nil (fed_at link side mark))

pub log_more : (all : List Mark) (i : ℕ) (mark : Mark) (link : ℕ) (old new : LinkLog) → i < length all → mark ≡ get_or all i mark → AddsToLog link mark old new → old ≡ log_of (take i all) link
    → new ≡ log_of (take (i + 1) all) link
log_more all i mark link old new lt at adds is =
    let run : List Mark = take i all in
    let more : take (i + 1) all ≡ run ++ mark ∷ [] = take_more all i mark lt ∙ ap (λ (m : Mark). take i all ++ m ∷ []) (sym at) in
    let client_wrote : new.client_wrote ≡ bytes_sent link Initiator (take (i + 1) all) =
    adds.client_wrote ∙ ap (λ (o : LinkLog). o.client_wrote ++ written_at link Initiator mark) is ∙ sym (ap (bytes_sent link Initiator) more ∙ sent_one link run mark Initiator) in
    let server_wrote : new.server_wrote ≡ bytes_sent link Responder (take (i + 1) all) =
    adds.server_wrote ∙ ap (λ (o : LinkLog). o.server_wrote ++ written_at link Responder mark) is ∙ sym (ap (bytes_sent link Responder) more ∙ sent_one link run mark Responder) in
    let client_fed : new.client_was_fed ≡ bytes_received link Initiator (take (i + 1) all) =
    adds.client_was_fed ∙ ap (λ (o : LinkLog). o.client_was_fed ++ fed_at link Initiator mark) is ∙ sym (ap (bytes_received link Initiator) more ∙ received_one link run mark Initiator) in
    let server_fed : new.server_was_fed ≡ bytes_received link Responder (take (i + 1) all) =
    adds.server_was_fed ∙ ap (λ (o : LinkLog). o.server_was_fed ++ fed_at link Responder mark) is ∙ sym (ap (bytes_received link Responder) more ∙ received_one link run mark Responder) in
    λ k. record { client_wrote = client_wrote k; server_wrote = server_wrote k; client_was_fed = client_fed k; server_was_fed = server_fed k }

-- ===== call lines that are lost in the end

pub settled_one : {X : Type 0} (f : X → X) (first : List X) (i : ℕ) (r : X) → i < length first → r ≡ get_or (map f (take i first) ++ drop i first) i r
    → set (map f (take i first) ++ drop i first) i (f r) ≡ map f (take (suc i) first) ++ drop (suc i) first
settled_one f [] i r lt e = absurd (omega (arith, lt))
settled_one {X} f (x ∷ xs) zero r lt e = ap (λ (q : X). f q ∷ xs) e
settled_one {X} f (x ∷ xs) (suc i) r lt e = ap (λ (ys : List X). f x ∷ ys) (settled_one f xs i r (omega (arith, lt)) e)

pub settled_more : {X : Type 0} (f : X → X) (first calls : List X) (i : ℕ) (r new : X) → i < length first → calls ≡ map f (take i first) ++ drop i first → r ≡ get_or calls i r → new ≡ f r
    → set calls i new ≡ map f (take (i + 1) first) ++ drop (i + 1) first
settled_more {X} f first calls i r new lt is at e =
    let next : i + 1 ≡ suc i = omega arith in
    rw (next) ((λ k. set (is k) i (e k)) ∙ settled_one f first i r lt (subst (λ (xs : List X). r ≡ get_or xs i r) is at))

pub are_calls : (s : Setting) (clients : List ℕ) (count : ℕ) (all : List Mark) (ends : List LinkEnds) (d : Draft) (calls : List CallReport) (entries : List Entry) → IsDraft s clients count all all d
    → calls ≡ map (at_last_by ends) d.calls.items → entries ≡ d.journal.items → AreCalls s count all ends calls entries
are_calls s clients count all ends d calls entries h e j = record {
  calls_are = e ∙ ap (map (at_last_by ends)) h.calls;
  journal_is = j ∙ h.journal;
  within = λ k r at. h.within k r (subst (λ (cs : List CallReport). slice_get cs k ≡ Some r) (sym h.calls) at);
}

-- ===== what last links came to

or_is : (a b : Bool) → cond a true b ≡ (a || b)
or_is true b = refl
or_is false b = refl

map_same : {X Y : Type 0} (f g : X → Y) (xs : List X) → ((j : ℕ) (x : X) → slice_get xs j ≡ Some x → f x ≡ g x) → map f xs ≡ map g xs
map_same f g [] same = refl
map_same f g (x ∷ xs) same = (let h = same 0 x refl in let rest = map_same f g xs (λ j y at. same (suc j) y at) in λ i. h i ∷ rest i)

get_index : (xs : List ℕ) (i other : ℕ) → i < length xs → slice_get xs i ≡ Some (slice_index_or xs i other)
get_index [] i other lt = absurd (omega (arith, lt))
get_index (x ∷ xs) zero other lt = refl
get_index (x ∷ xs) (suc i) other lt = get_index xs i other (omega (arith, lt))

-- what a report says of marks, over a setting with these last links
record TellsMarks (s : Setting) (links : List ℕ) (run : List Mark) (report : Report) : Type 0 where
  pub journal : report.journal ≡ entries_alone (journal_of s run)
  pub calls : report.calls ≡ call_reports s links run
  pub links_are : report.links ≡ link_reports s links run

module _ (s : Setting) (run : List Mark) where
  one_link : (client link : ℕ) → client_of s link ≡ client → link_report_by client (ends_of s run link) ≡ link_report s run link
  one_link client link own = ap (λ (c : ℕ). if is_dropped link run then record { client = c; state = links.Dropped } ∷ []
      else side_report c Initiator (end_of_side (s.opened link) link Initiator run) ++ side_report c Responder (end_of_side (s.opened link) link Responder run)) (sym own)

  links_from : (k : ℕ) (all : List ℕ) → Owned (λ (c : ℕ) (link : ℕ). client_of s link ≡ c) k all → link_reports_from k (map (ends_of s run) all) ≡ flat_map (link_report s run) all
  links_from k [] own = refl
  links_from k (link ∷ all) own =
      let next : k + 1 ≡ suc k = omega arith in
      let rest = ap (λ (m : ℕ). link_reports_from m (map (ends_of s run) all)) next ∙ links_from (suc k) all own.1 in
      λ i. one_link k link own.0 i ++ rest i

  module _ (all : List ℕ) (ends : List LinkEnds) (are : AreEnds s all run ends) where
    count : length ends ≡ length all
    count = ap (λ (es : List LinkEnds). length es) are ∙ length-map all (ends_of s run)

    end_at : (i other : ℕ) → i < length all → slice_get ends i ≡ Some (ends_of s run (slice_index_or all i other))
    end_at i other lt =
        ap (λ (es : List LinkEnds). slice_get es i) are ∙ slice_get-map (ends_of s run) all i ∙ ap (option_map (ends_of s run)) (get_index all i other lt)

    at_last_is : (r : CallReport) → 1 ≤ r.client → r.client ≤ length ends → at_last_by ends r ≡ at_last s all run r
    at_last_is r low high =
        let link : ℕ = slice_index_or all (r.client - 1) r.client in
        let many = count in
        let gone : gone_by (slice_get ends (r.client - 1)) ≡ is_gone s run link =
        ap gone_by (end_at (r.client - 1) r.client (omega (arith, low, high, many))) ∙ or_is (is_dropped link run) (is_some (end_of_side (s.opened link) link Initiator run)) in
        ap (λ (b : Bool). record r { state = lost_if b r.state }) gone

    tells : (report : Report) → Owned (λ (c : ℕ) (link : ℕ). client_of s link ≡ c) 1 all → AreCalls s (length ends) run ends report.calls report.journal → report.links ≡ link_reports_from 1 ends → TellsMarks s all run report
    unfolding call_reports link_reports
    tells report own calls links_are = record {
      journal = calls.journal_is;
      calls = calls.calls_are ∙ map_same (at_last_by ends) (at_last s all run) (reports_after s run) (λ j r at. (let w = calls.within j r at in at_last_is r w.0 w.1));
      links_are = links_are ∙ ap (link_reports_from 1) are ∙ links_from 1 all own;
    }

-- ===== the report of a drill's run

report_own : (clients : List ℕ) (ends : List LinkEnds) (report : Report) → TellsCalls clients report.marks ends report.calls report.journal → report.links ≡ link_reports_from 1 ends → ReportsRuns report.marks clients ends report
report_own clients ends report calls links server script is drill adds clients_are ends_are =
    let run : List Mark = report.marks in
    let s : Setting = last_setting drill.follows in
    let all : List ℕ = drill.follows.last.last_links in
    let many : length ends ≡ script.opening.clients = count s run all ends ends_are ∙ drill_links server script run is drill in
    let numbered : AreNumbered s clients (length ends) run = subst (λ (n : ℕ). AreNumbered s clients n run) (sym many) (drill_numbered server script run is drill adds clients clients_are) in
    let told : TellsMarks s all run report = tells s run all ends ends_are report (drill_owned server script run is drill) (calls s numbered) links in
    record { drill = drill; journal = told.journal; calls = told.calls; links = told.links_are }

pub report_tells : (run : List Mark) (clients : List ℕ) (ends : List LinkEnds) (report : Report) → report.marks ≡ run → TellsCalls clients run ends report.calls report.journal → report.links ≡ link_reports_from 1 ends → ReportsRuns run clients ends report
report_tells run clients ends report marks_are calls links =
    subst (λ (r : List Mark). ReportsRuns r clients ends report) marks_are
    (report_own clients ends report (subst (λ (r : List Mark). TellsCalls clients r ends report.calls report.journal) (sym marks_are) calls) links)

pub parts_tell : (run marks : List Mark) (clients : List ℕ) (ends : List LinkEnds) (report : Report) (calls : List CallReport) (entries : List Entry) (links : List LinkReport) → run ≡ marks → report.marks ≡ marks
    → report.calls ≡ calls → report.journal ≡ entries → report.links ≡ links → TellsCalls clients run ends calls entries → links ≡ link_reports_from 1 ends → ReportsRuns marks clients ends report
parts_tell run marks clients ends report calls entries links same marks_are c j l calls_are links_are =
    report_tells marks clients ends report marks_are all (l ∙ links_are)
  where
    all : TellsCalls clients marks ends report.calls report.journal
    all s numbered =
        let h : AreCalls s (length ends) run ends calls entries = calls_are s (subst (AreNumbered s clients (length ends)) (sym same) numbered) in
        record {
          calls_are = c ∙ h.calls_are ∙ ap (λ (r : List Mark). map (at_last_by ends) (reports_after s r)) same;
          journal_is = j ∙ h.journal_is ∙ ap (entries_so_far s) same;
          within = λ k q at. h.within k q (subst (λ (r : List Mark). slice_get (reports_after s r) k ≡ Some q) (sym same) at);
        }

-- a vector whose slice was replaced
pub all_of : {X : Type 0} (len : ℕ) (new rest : List X) → length new ≡ len → take len (new ++ rest) ≡ new
all_of {X} len new rest e = ap (λ (n : ℕ). take n (new ++ rest)) (sym e) ∙ take-append_seam new rest
