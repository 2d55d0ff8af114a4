-- The lines of a script are within the limits of its world, and its run is that of a drill.
use Rattle.std.specs.List.{AllByRecursion, range_with_len}
use Rattle.std.proofs.Common.{◌≡◌, ℕ, ◌+◌, ◌≤◌, arith, true, leb, leb-true, List, [], ◌∷◌, ◌++◌, length, refl, sym, ap, subst, ◌∙◌, Bool, None, map, suc, zero, false}
use Rattle.std.proofs.lemmas.List.Sums.{sum_by-append}
use Rattle.nr_tree.specs.Tree.{Tree}
use Rattle.nr_texts.specs.declared.opening.Opening.{Opening}
use Rattle.nr_script.specs.declared.script.Line.{Line}
use Rattle.nr_texts.specs.Limits.{number_max, clients_max}
use Rattle.nr_script.specs.Script.{ScriptLines, IsScript, FollowOn, HasWritableCred, is_client, is_call_line, credits_in_range, may_follow, seconds_in, seconds_after}
use Rattle.nr_drill.specs.declared.report.Report.{Report}
use Rattle.nr_drill.specs.Drill.{client_of, start, links_of, IsLink, SerialServer, after_drop, after_drop_if, link_of, Drill, last_link, setting_now, Setting}
use Rattle.nr_drill.specs.DrillSetup.{drill_setup, server_of, GivesReport}
use Rattle.nr_drill.specs.Follows.{Follows, opened_drill, parameters_of}
use Rattle.nr_drill.proofs.Headed.{drill_is_run}
use Rattle.nr_world.specs.declared.world.World.{World}
use Rattle.nr_world.specs.private.Opened.{HasOpenLinks, HasFirst}
use Rattle.nr_world.specs.private.Results.{ReportsWorld}
use Rattle.nr_world.specs.private.Stands.{drill_setting, MakesLines, HasOpened, WorldStands, MayRejoin, MayRejoinIn}
use Rattle.nr_world.specs.private.Within.{IsClient, IsLineWithin, AreWithin, CanMakeAll}
use Rattle.nr_world.proofs.SameServer.{openings_clock}
use Rattle.nr_drill.proofs.FirstLines.{both_true}
use Rattle.nr_drill.proofs.Actions.{ActsIn, AnyRaw, IsLastOf, IsLineOf, all_act, line_kept, lines_of}
use Rattle.nr_drill.proofs.Actions.Action.{DropLink}
use Rattle.nr_drill.proofs.BegunLinks.{AreOpen, Holds, first_owner, first_then, holds_kept, index_map, index_range, open_drill, opened_count, first_count}
use Rattle.nr_drill.proofs.Lawful.{asked_so_far}
use Rattle.nr_drill.proofs.Links.{DrillHolds, LinkHolds}
use Rattle.nr_drill.proofs.OneRun.{made_once}
use Rattle.nr_drill.specs.InBytes.{RepliedInBytes, RepliedMark}
use Rattle.nr_reduce.proofs.Standing.{AtEachMark_more}
use Rattle.nr_reduce.proofs.Steps.{client_one}
use Rattle.nr_script.specs.Limits.{lines_max}
use Rattle.nr_world.specs.Steps.{MayLeave, OpensServerSo}
use Rattle.nr_reduce.specs.Run.{client}
use Rattle.nr_reduce.specs.EndRules.{EndState}
use Rattle.nr_reduce.specs.History.{is_dropped}
use Rattle.std.specs.Prelude.{slice_index_or, ◌-◌}
use Rattle.nr_reduce.specs.ClientState.{ClientState}
use Rattle.nr_reduce.specs.declared.mark.LinkParameters.{LinkParameters}
use Rattle.nr_reduce.specs.declared.mark.Mark.{Mark}
use Rattle.nr_script.specs.declared.script.Line.TheVariants as lines
use Rattle.nr_reduce.specs.declared.mark.Mark.TheVariants as marks

client_is : (opening : Opening) (client : ℕ) → is_client opening client ≡ true → IsClient opening.clients client
client_is opening client e =
    let both = both_true (leb 1 client) (leb client opening.clients) e in
    (leb-true 1 client both.0, leb-true client opening.clients both.1)

within : (opening : Opening) (before : List Line) (line : Line) → may_follow opening before line ≡ true → HasWritableCred line → IsLineWithin opening (seconds_after before) line
within opening before (lines.Cred client cred) e w = (client_is opening client e, w)
within opening before (lines.Call client form prog vers proc args) e w = client_is opening client e
within opening before (lines.Up client most) e w = client_is opening client e
within opening before (lines.Down client most) e w = client_is opening client e
within opening before (lines.Work client) e w = client_is opening client e
within opening before (lines.Tick more) e w = leb-true (seconds_after before + more) number_max e
within opening before (lines.Forget client number) e w = client_is opening client (both_true (is_client opening client) (is_call_line client number before) e).0
within opening before (lines.Revoke client number) e w = client_is opening client (both_true (is_client opening client) (is_call_line client number before) e).0
within opening before (lines.Drop client) e w = client_is opening client e
within opening before (lines.Rejoin client) e w = client_is opening client (both_true (is_client opening client) opening.numbered e).0
within opening before (lines.Grant client credits) e w =
    let both = both_true (is_client opening client) (credits_in_range opening credits) e in
    let credits_fit = both_true (leb 1 credits) (leb credits opening.credits) both.1 in
    (client_is opening client both.0, (leb-true 1 credits credits_fit.0, leb-true credits opening.credits credits_fit.1))
within opening before (lines.Raw client side bytes) e w = client_is opening client e
within opening before lines.Drain e w = tt

one_more : (before : List Line) (line : Line) → seconds_after (before ++ line ∷ []) ≡ seconds_after before + seconds_in line
unfolding seconds_after
one_more before line = sum_by-append seconds_in before (line ∷ []) ∙ ap (λ (n : ℕ). seconds_after before + n) (omega arith)

all_within : (opening : Opening) (before all : List Line) → FollowOn opening before all → AllByRecursion HasWritableCred all → AreWithin opening (seconds_after before) all
all_within opening before [] h w = tt
all_within opening before (line ∷ all) h w =
    (within opening before line h.0 w.0, subst (λ (n : ℕ). AreWithin opening n all) (one_more before line) (all_within opening (before ++ line ∷ []) all h.1 w.1))

none_before : seconds_after [] ≡ 0
unfolding seconds_after
none_before = refl

opened_clock : (tree : Tree) (opening : Opening) → (opened_drill (server_of (drill_setup tree opening)) opening).seconds ≡ 0
unfolding opened_drill
opened_clock tree opening = openings_clock (drill_setting tree opening) (links_of opening.clients) (start (drill_setting tree opening) opening.clients)

-- ===== the world whose first links are open

range_length : (from n : ℕ) → length (range_with_len from n) ≡ n
range_length from zero = refl
range_length from (suc n) = ap (λ (m : ℕ). suc m) (range_length (from + 1) n)

all_within_first : (d : Drill) (clients : ℕ) (run : List Mark) → clients ≤ length d.opened → AllByRecursion (λ (mark : Mark). (1 ≤ link_of mark) × (link_of mark ≤ clients)) run → AllByRecursion (λ (mark : Mark). IsLink d (link_of mark)) run
all_within_first d clients [] le h = tt
all_within_first d clients (mark ∷ run) le h = ((h.0.0, (let most = h.0.1 in omega (arith, most, le))), all_within_first d clients run le h.1)

own_clients : (opening : Opening) (s : Setting) → s.opened ≡ parameters_of opening → (from n : ℕ) → map (client_of s) (range_with_len from n) ≡ range_with_len from n
own_clients opening s is from zero = refl
own_clients opening s is from (suc n) =
    let own : client_of s from ≡ from = ap (λ (o : ℕ → LinkParameters). client_of (record { server = s.server; opened = o }) from) is ∙ first_owner opening from in
    (λ i. own i ∷ own_clients opening s is (from + 1) n i)

pub first_world : (tree : Tree) (script : ScriptLines) (w : World) → IsScript script → HasFirst tree script.opening script.opening.clients (opened_drill (server_of (drill_setup tree script.opening)) script.opening) w →
    WorldStands tree script.opening (opened_drill (server_of (drill_setup tree script.opening)) script.opening) w
first_world tree script w is h = record {
  opened = subst (λ (t : Setting). HasOpened tree script.opening t clients d w) (sym at_first) h.opened;
  frame = record {
    count = first_count server script is;
    pipes = first.room ∙ sym many;
    owned = λ c low high. subst (λ (l : ℕ). IsLink d l × (client_of (setting_now s d) l ≡ c)) (sym (last_is c low))
        ((low, omega (arith, high, many)), subst (λ (t : Setting). client_of t c ≡ c) (sym at_first) (first_owner script.opening c));
    within = all_within_first d clients d.marks (omega (arith, many)) first.within;
  };
  servers = λ c low high. subst (λ (t : Setting). OpensServerSo script.opening (t.opened (last_link c d))) (sym at_first) (record { granted = refl; low = refl; receives = refl; server = refl });
  owners = h.owners ∙ sym (own_clients script.opening s refl 1 clients) ∙ (λ i. map (client_of (sym at_first i)) (range_with_len 1 (sym many i)));
}
  where
    server : SerialServer
    server = server_of (drill_setup tree script.opening)

    s : Setting
    s = drill_setting tree script.opening

    clients : ℕ
    clients = script.opening.clients

    d : Drill
    d = opened_drill server script.opening

    first : AreOpen server script clients d
    first = open_drill server script is

    many : length d.opened ≡ clients
    many = opened_count server script is

    last_is : (c : ℕ) → 1 ≤ c → last_link c d ≡ c
    last_is c low = ap (λ (ls : List ℕ). slice_index_or ls (c - 1) c) first.last_links ∙ index_range 1 clients (c - 1) c (omega (arith, low))

    at_first : setting_now s d ≡ s
    at_first =
        ap (λ (all : List LinkParameters). record s { opened = λ link. slice_index_or (s.opened 0 ∷ all) link (s.opened link) }) first.opened
        ∙ (λ i. record s { opened = λ link. index_map s.opened 0 (suc clients) link link (omega arith) i })

-- ===== a client may leave its link, wherever a script says `rejoin`

drop_client : (o : LinkParameters) (link : ℕ) (run : List Mark) → client o link (run ++ marks.Drop link ∷ []) ≡ client o link run
drop_client o link run = client_one o link run (marks.Drop link)

may_leave : (s : Setting) (opening : Opening) (n c link : ℕ) (d : Drill) → IsLastOf opening.clients c link d → opening.numbered ≡ true → (client ((setting_now s d).opened link) link d.marks).ended ≡ None → DrillHolds s opening n d →
    MayLeave ((setting_now s d).opened link) link d.marks
may_leave s opening n c link d last numbered stays h =
    let k : LinkHolds opening n ((setting_now s d).opened link) link d.marks = h.links link (h.frame.owned c link last).0 in
    record {
      numbered = k.terms.numbered numbered;
      typed = h.typed.typed;
      opens = k.opened;
      asked = asked_so_far ((setting_now s d).opened link) link d.marks k.lawful;
      none_due = k.due;
      stays = stays;
    }

may_rejoin : (s : Setting) (opening : Opening) (n c : ℕ) (d : Drill) → suc n ≤ lines_max → (1 ≤ c) × (c ≤ opening.clients) → opening.numbered ≡ true → Holds s opening n d → MayRejoin s (lines.Rejoin c) d
may_rejoin s opening n c d within here numbered holds replied stays = by (is_dropped (last_link c d) d.marks) refl
  where
    link : ℕ
    link = last_link c d

    last : IsLastOf opening.clients c link d
    last = record { low = here.0; high = here.1; is = refl }

    by : (b : Bool) → is_dropped link d.marks ≡ b → MayLeave ((setting_now s d).opened link) link (after_drop_if b link d).marks
    by true gone = may_leave s opening n c link d last numbered stays (holds.1 (omega (arith, within)) replied)
    by false stands =
        let dropped : Drill = after_drop link d in
        let still : Holds s opening n dropped = (holds_kept s opening AnyRaw AnyRaw).action n c link DropLink d last tt tt holds in
        let also : RepliedInBytes dropped.marks = AtEachMark_more RepliedMark [] d.marks (marks.Drop link) replied tt in
        may_leave s opening n c link dropped (record { low = here.0; high = here.1; is = refl }) numbered (ap (λ (r : EndState ClientState). r.ended) (drop_client ((setting_now s d).opened link) link d.marks) ∙ stays)
        (still.1 (omega (arith, within)) also)

may_one : (s : Setting) (opening : Opening) (n : ℕ) (line : Line) (d : Drill) → suc n ≤ lines_max → IsLineOf opening AnyRaw line → Holds s opening n d → MayRejoin s line d
may_one s opening n (lines.Cred client cred) d within is h = tt
may_one s opening n (lines.Call client form prog vers proc args) d within is h = tt
may_one s opening n (lines.Up client most) d within is h = tt
may_one s opening n (lines.Down client most) d within is h = tt
may_one s opening n (lines.Work client) d within is h = tt
may_one s opening n (lines.Tick seconds) d within is h = tt
may_one s opening n (lines.Forget client number) d within is h = tt
may_one s opening n (lines.Revoke client number) d within is h = tt
may_one s opening n (lines.Drop client) d within is h = tt
may_one s opening n (lines.Rejoin client) d within is h = may_rejoin s opening n client d within is.0 is.1 h
may_one s opening n (lines.Grant client credits) d within is h = tt
may_one s opening n (lines.Raw client side bytes) d within is h = tt
may_one s opening n lines.Drain d within is h = tt

may_all : (s : Setting) (opening : Opening) (n : ℕ) (all : List Line) (d : Drill) → n + length all ≤ lines_max → AllByRecursion (IsLineOf opening AnyRaw) all → AllByRecursion (ActsIn AnyRaw) all → Holds s opening n d →
    MayRejoinIn s opening.clients all d
may_all s opening n [] d within are acts h = tt
may_all s opening n (line ∷ all) d within are acts h = (
  may_one s opening n line d (omega (arith, within)) are.0 h,
  λ next made. may_all s opening (suc n) all next (omega (arith, within)) are.1 acts.1 (line_kept s opening AnyRaw AnyRaw (Holds s opening) (holds_kept s opening AnyRaw AnyRaw) n opening.clients line d next are.0 acts.0 made h),
)

pub script_may : (tree : Tree) (script : ScriptLines) → IsScript script →
    MayRejoinIn (drill_setting tree script.opening) script.opening.clients script.lines (opened_drill (server_of (drill_setup tree script.opening)) script.opening)
script_may tree script is =
    may_all (drill_setting tree script.opening) script.opening 0 script.lines (opened_drill (server_of (drill_setup tree script.opening)) script.opening) (let few = is.few_lines in omega (arith, few)) (lines_of script is) (all_act script.lines)
    (first_then (server_of (drill_setup tree script.opening)) script is)

-- a world that has just opened can make all lines of the script
pub lines_fit : (script : ScriptLines) (w : World) → IsScript script → HasOpenLinks script.opening w → CanMakeAll script.lines w
lines_fit script w is (tree, sane, stands) = (
  tree,
  script.opening,
  opened_drill (server_of (drill_setup tree script.opening)) script.opening,
  first_world tree script w is stands,
  subst (λ (n : ℕ). AreWithin script.opening n script.lines) (none_before ∙ sym (opened_clock tree script.opening)) (all_within script.opening [] script.lines is.follow_on is.creds),
  script_may tree script is,
)

pub runs_script : (script : ScriptLines) (w n : World) (report : Report) → IsScript script → HasOpenLinks script.opening w → MakesLines script.lines w n → ReportsWorld n report → GivesReport script report
runs_script script w n report is (tree, sane, stands) makes told =
    let server = server_of (drill_setup tree script.opening) in
    let (last, made, there) = makes tree script.opening (opened_drill server script.opening) (first_world tree script w is stands) (script_may tree script is) in
    let follows : Follows server script last.marks = record { last = last; makes = made; marks_are = refl } in
    let run = drill_is_run tree script last.marks sane.sane is there.opened.replies follows in
    (tree, sane.drill, told tree script last there is run (made_once (drill_setting tree script.opening) script.opening.clients script.lines (opened_drill server script.opening) run.follows.last last run.follows.makes made))

-- as many links as clients, at most as many as a script has
pub few_links : (script : ScriptLines) (w n : World) → IsScript script → HasOpenLinks script.opening w → MakesLines script.lines w n → length n.links.items ≤ clients_max
few_links script w n is (tree, sane, stands) makes =
    let (last, made, there) = makes tree script.opening (opened_drill (server_of (drill_setup tree script.opening)) script.opening) (first_world tree script w is stands) (script_may tree script is) in
    omega (arith, there.opened.count, is.few_clients)

-- ===== as the code has it: the first line and the lines of a script

pub lines_fit_as : (script : ScriptLines) (opening : Opening) (all : List Line) (w : World) → opening ≡ script.opening → all ≡ script.lines → IsScript script → HasOpenLinks opening w → CanMakeAll all w
lines_fit_as script opening all w o e is h = subst (λ (lines : List Line). CanMakeAll lines w) (sym e) (lines_fit script w is (subst (λ (x : Opening). HasOpenLinks x w) o h))

pub few_links_as : (script : ScriptLines) (opening : Opening) (all : List Line) (w n : World) → opening ≡ script.opening → all ≡ script.lines → IsScript script → HasOpenLinks opening w → MakesLines all w n → length n.links.items ≤ clients_max
few_links_as script opening all w n o e is h makes = few_links script w n is (subst (λ (x : Opening). HasOpenLinks x w) o h) (subst (λ (lines : List Line). MakesLines lines w n) e makes)

pub runs_script_as : (script : ScriptLines) (opening : Opening) (all : List Line) (w n : World) (report : Report) → opening ≡ script.opening → all ≡ script.lines → IsScript script → HasOpenLinks opening w → MakesLines all w n → ReportsWorld n report → GivesReport script report
runs_script_as script opening all w n report o e is h makes told =
    runs_script script w n report is (subst (λ (x : Opening). HasOpenLinks x w) o h) (subst (λ (lines : List Line). MakesLines lines w n) e makes) told
