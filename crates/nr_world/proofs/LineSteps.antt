-- What a line makes of a world, and lines one after another.
use Rattle.std.specs.Prelude.{slice_set, slice_index_or, ◌-◌}
use Rattle.std.specs.List.{AllByRecursion, list_all}
use Rattle.std.proofs.Common.{◌≡◌, Bool, false, ℕ, ◌+◌, ◌<◌, ◌≤◌, arith, zero, suc, List, [], ◌∷◌, length, drop, add-zero, add-one, get_or, refl, sym, ap, subst, ◌∙◌, Option, Some, true, None}
use Rattle.std.proofs.lemmas.List.{length-set}
use Rattle.std.proofs.Math.Seq.{drop-cons}
use Rattle.std.proofs.Math.ListN.{drop_of_length-le}
use Rattle.nr_reduce.specs.History.{is_dropped}
use Rattle.nr_rpc.specs.Credential.{CanWriteCred}
use Rattle.nr_rpc.specs.declared.cred.Cred.{Cred}
use Rattle.nr_tree.specs.Tree.{Tree}
use Rattle.nr_texts.specs.declared.opening.Opening.{Opening}
use Rattle.nr_script.specs.declared.script.Line.{Line}
use Rattle.nr_texts.specs.Limits.{number_max}
use Rattle.nr_script.specs.Script.{seconds_in}
use Rattle.nr_drill.specs.Drill.{Setting, Drill, cred_of, with_cred, last_link, setting_now, after_moves, after_round, after_drop_if, after_leaving, after_rejoin, after_rejoin_on, with_link}
use Rattle.nr_drill.specs.DrillSetup.{drill_setup}
use Rattle.nr_drill.specs.Follows.{Drains, MakeAll, Makes, is_still}
use Rattle.nr_reduce.specs.Reopening.{reopened}
use Rattle.nr_reduce.specs.Run.{client}
use Rattle.nr_link.specs.declared.end.End.{End}
use Rattle.nr_drill.proofs.Followed.{cred_at, with_cred_at}
use Rattle.nr_world.specs.DrillLinkState.{DrillLinkState}
use Rattle.nr_world.specs.LinkStands.{LinkStands}
use Rattle.nr_world.specs.Steps.{ServerStands}
use Rattle.nr_world.proofs.Granting.{receives_are}
use Rattle.nr_world.specs.declared.world.World.{World}
use Rattle.nr_world.specs.private.Stands.{drill_setting, WorldStands, Steps, MakesLine, MakesLines, MayRejoinIn}
use Rattle.nr_reduce.specs.Served.{CreditsInRange}
use Rattle.nr_world.specs.private.Within.{IsClient, MayGrant, IsLineWithin, AreWithin, CanMake, CanMakeAll}
use Rattle.nr_world.proofs.Others.{link_stays}
use Rattle.nr_world.proofs.Rounds.{KeepsLinks, over_links, round_keeps}
use Rattle.nr_world.proofs.SameServer.{up_leaves, down_leaves, submit_leaves, forget_leaves, revoke_leaves, raw_leaves, work_clock, moves_clock, opening_leaves}
use Rattle.nr_rpc.specs.declared.cred.Cred.TheVariants as creds
use Rattle.nr_script.specs.declared.script.Line.TheVariants as lines

-- ===== what a line needs

-- a client of the script has a link and a credential
pub record HasClient (w : World) (client : ℕ) : Type 0 where
  pub link : IsClient (length w.links.items) client
  pub cred : CanWriteCred (slice_index_or w.creds.items (client - 1) creds.None)
  pub creds : IsClient (length w.creds.items) client

has_client : (tree : Tree) (opening : Opening) (d : Drill) (w : World) (client : ℕ) → WorldStands tree opening d w → IsClient opening.clients client → HasClient w client
has_client tree opening d w client h is = record {
  link = (is.0, omega (arith, h.opened.count, is.1));
  creds = (is.0, omega (arith, h.opened.creds_count, is.1));
  cred = cred_at w.creds.items (client - 1) h.opened.creds_fit;
}

-- the client that a line names
abbrev pub Names : Line → ℕ → Type 0
Names (lines.Cred client cred) c = client ≡ c
Names (lines.Call client form prog vers proc args) c = client ≡ c
Names (lines.Up client most) c = client ≡ c
Names (lines.Down client most) c = client ≡ c
Names (lines.Work client) c = client ≡ c
Names (lines.Tick more) c = ⊥
Names (lines.Forget client number) c = client ≡ c
Names (lines.Revoke client number) c = client ≡ c
Names (lines.Drop client) c = client ≡ c
Names (lines.Rejoin client) c = client ≡ c
Names (lines.Grant client credits) c = client ≡ c
Names (lines.Raw client side bytes) c = client ≡ c
Names lines.Drain c = ⊥

names_client : (opening : Opening) (seconds client : ℕ) (line : Line) → Names line client → IsLineWithin opening seconds line → IsClient opening.clients client
names_client opening seconds client (lines.Cred c cred) e h = subst (IsClient opening.clients) e h.0
names_client opening seconds client (lines.Call c form prog vers proc args) e h = subst (IsClient opening.clients) e h
names_client opening seconds client (lines.Up c most) e h = subst (IsClient opening.clients) e h
names_client opening seconds client (lines.Down c most) e h = subst (IsClient opening.clients) e h
names_client opening seconds client (lines.Work c) e h = subst (IsClient opening.clients) e h
names_client opening seconds client (lines.Tick more) e h = absurd e
names_client opening seconds client (lines.Forget c number) e h = subst (IsClient opening.clients) e h
names_client opening seconds client (lines.Revoke c number) e h = subst (IsClient opening.clients) e h
names_client opening seconds client (lines.Drop c) e h = subst (IsClient opening.clients) e h
names_client opening seconds client (lines.Rejoin c) e h = subst (IsClient opening.clients) e h
names_client opening seconds client (lines.Grant c credits) e h = subst (IsClient opening.clients) e h.0
names_client opening seconds client (lines.Raw c side bytes) e h = subst (IsClient opening.clients) e h
names_client opening seconds client lines.Drain e h = absurd e

pub client_of : (w : World) (line is : Line) (client : ℕ) → line ≡ is → Names is client → CanMake line w → HasClient w client
client_of w line is client e names (tree, opening, d, stands, within) =
    has_client tree opening d w client stands (names_client opening d.seconds client is names (subst (IsLineWithin opening d.seconds) e within))

-- the server of the link has as many receives as the first line says
pub may_grant : (w : World) (line : Line) (client credits : ℕ) → line ≡ lines.Grant client credits → CanMake line w → MayGrant w client credits
may_grant w line client credits e (tree, opening, d, stands, within) v =
    let h : IsLineWithin opening d.seconds (lines.Grant client credits) = subst (IsLineWithin opening d.seconds) e within in
    let t : Setting = setting_now (drill_setting tree opening) d in
    let receives = receives_are t (last_link client d) d (slice_index_or w.links.items (client - 1) v) (stands.opened.links client v h.0.0 h.0.1) ∙ (stands.servers client h.0.0 h.0.1).receives in
    subst (λ (most : ℕ). CreditsInRange most credits) (sym receives) h.1

pub clock_of : (w : World) (line : Line) (more : ℕ) → line ≡ lines.Tick more → CanMake line w → w.seconds + more ≤ number_max
clock_of w line more e (tree, opening, d, stands, within) =
    let bound : d.seconds + more ≤ number_max = subst (IsLineWithin opening d.seconds) e within in
    subst (λ (n : ℕ). n + more ≤ number_max) (sym stands.opened.seconds) bound

-- ===== what a line makes

-- a world with another clock, or with other credentials
pub record IsAfterLine (w n : World) : Type 0 where
  pub first_line : n.opening ≡ w.opening
  pub links : n.links.items ≡ w.links.items
  pub owners : n.owners.items ≡ w.owners.items
  pub marks : n.marks ≡ w.marks
  pub server : n.server ≡ w.server

others_same : (tree : Tree) (opening : Opening) (seconds : ℕ) (all : List Cred) (d : Drill) (w n : World) → WorldStands tree opening d w → IsAfterLine w n → n.seconds ≡ seconds → n.creds.items ≡ all →
    length all ≡ opening.clients → AllByRecursion CanWriteCred all → WorldStands tree opening (record d { seconds = seconds; creds = all }) n
others_same tree opening seconds all d w n h a clock creds count fit =
    let new : Drill = record d { seconds = seconds; creds = all } in
    let t : Setting = setting_now (drill_setting tree opening) d in
    record {
      opened = record {
        first_line = a.first_line ∙ h.opened.first_line;
        count = ap length a.links ∙ h.opened.count;
        links = λ c v first last. subst (λ (links : List DrillLinkState). LinkStands t (last_link c d) new (slice_index_or links (c - 1) v)) (sym a.links)
            (link_stays t (last_link c d) d seconds all (slice_index_or w.links.items (c - 1) v) (h.opened.links c v first last));
        marks = a.marks ∙ h.opened.marks;
        replies = h.opened.replies;
        seconds = clock;
        creds = creds;
        creds_count = ap length creds ∙ count;
        creds_fit = subst (AllByRecursion CanWriteCred) (sym creds) fit;
        server = subst (ServerStands (drill_setup tree opening) new) (sym a.server) (record { entries = h.opened.server.entries; heard = h.opened.server.heard });
      };
      frame = record { count = h.frame.count; pipes = h.frame.pipes; owned = h.frame.owned; within = h.frame.within };
      servers = h.servers;
      owners = a.owners ∙ h.owners;
    }

pub tick_makes : (more : ℕ) (w n : World) → IsAfterLine w n → n.seconds ≡ w.seconds + more → n.creds.items ≡ w.creds.items → MakesLine (lines.Tick more) w n
tick_makes more w n a clock creds tree opening d h may = (
  record d { seconds = d.seconds + more },
  refl,
  others_same tree opening (d.seconds + more) d.creds d w n h a (clock ∙ ap (λ (k : ℕ). k + more) h.opened.seconds) (creds ∙ h.opened.creds) (ap length (sym h.opened.creds) ∙ h.opened.creds_count)
      (subst (AllByRecursion CanWriteCred) h.opened.creds h.opened.creds_fit),
)

pub cred_makes : (client : ℕ) (cred : Cred) (w n : World) → CanWriteCred cred → IsAfterLine w n → n.seconds ≡ w.seconds → n.creds.items ≡ slice_set w.creds.items (client - 1) cred → MakesLine (lines.Cred client cred) w n
cred_makes client cred w n fits a clock creds tree opening d h may = (
  with_cred client cred d,
  refl,
  others_same tree opening d.seconds (slice_set d.creds (client - 1) cred) d w n h a (clock ∙ h.opened.seconds) (creds ∙ ap (λ (all : List Cred). slice_set all (client - 1) cred) h.opened.creds)
      (length-set d.creds (client - 1) cred ∙ ap length (sym h.opened.creds) ∙ h.opened.creds_count)
      (with_cred_at d.creds (client - 1) cred (subst (AllByRecursion CanWriteCred) h.opened.creds h.opened.creds_fit) fits),
)

pub cred_fits : (w : World) (client : ℕ) (cred : Cred) → CanMake (lines.Cred client cred) w → CanWriteCred cred
cred_fits w client cred (tree, opening, d, stands, within) = within.1

-- a step of one link is a line
pub step_makes : (line : Line) (step : Setting → Drill → Drill) (w n : World) → ((s : Setting) (clients : ℕ) (d : Drill) → Makes s clients line d (step s d)) → Steps step w n → MakesLine line w n
step_makes line step w n is steps tree opening d h may = (step (drill_setting tree opening) d, is (drill_setting tree opening) opening.clients d, steps tree opening d h)

pub line_is : (old new : World) (line is : Line) → line ≡ is → MakesLine is old new → MakesLine line old new
line_is old new line is e h = subst (λ (l : Line). MakesLine l old new) (sym e) h

-- ===== lines, one after another

-- lines that are made so far, and what is left
abbrev pub LinesSoFar : World → World → List Line → ℕ → Type 0
LinesSoFar old now all at = CanMakeAll (drop at all) now × ((tree : Tree) (opening : Opening) (d : Drill) → WorldStands tree opening d old → MayRejoinIn (drill_setting tree opening) opening.clients all d →
    (mid : Drill) × WorldStands tree opening mid now × MayRejoinIn (drill_setting tree opening) opening.clients (drop at all) mid
    × ((last : Drill) → MakeAll (drill_setting tree opening) opening.clients (drop at all) mid last → MakeAll (drill_setting tree opening) opening.clients all d last))

-- the clock after a line
round_clock : (s : Setting) (links : List ℕ) (d : Drill) → (after_round s links d).seconds ≡ d.seconds
round_clock s [] d = refl
round_clock s (link ∷ links) d = round_clock s links (after_moves s link d) ∙ moves_clock s link d

drain_clock : (s : Setting) (links : List ℕ) (rounds : ℕ) (d new : Drill) → Drains s links rounds d new → new.seconds ≡ d.seconds
drain_clock s links zero d new h = ap (λ (x : Drill). x.seconds) h.1
drain_clock s links (suc rounds) d new h = drain_clock s links rounds (after_round s links d) new h.1 ∙ round_clock s links d

drop_clock : (dropped : Bool) (link : ℕ) (d : Drill) → (after_drop_if dropped link d).seconds ≡ d.seconds
drop_clock true link d = refl
drop_clock false link d = refl

leaving_clock : (s : Setting) (c link : ℕ) (d : Drill) → (after_leaving s c link d).seconds ≡ d.seconds
leaving_clock s c link d =
    let begun : Drill = with_link c (reopened ((setting_now s d).opened link) link d.marks) d in
    (opening_leaves (setting_now s begun) (last_link c begun) begun).seconds

rejoin_clock : (s : Setting) (c : ℕ) (d : Drill) → (after_rejoin s c d).seconds ≡ d.seconds
unfolding after_rejoin
rejoin_clock s c d = by (client ((setting_now s d).opened (last_link c d)) (last_link c d) d.marks).ended
  where
    dropped : Drill
    dropped = after_drop_if (is_dropped (last_link c d) d.marks) (last_link c d) d

    by : (ended : Option End) → (after_rejoin_on s c (last_link c d) ended d).seconds ≡ d.seconds
    by (Some end) = refl
    by None = leaving_clock s c (last_link c d) dropped ∙ drop_clock (is_dropped (last_link c d) d.marks) (last_link c d) d

line_clock : (s : Setting) (clients : ℕ) (line : Line) (d new : Drill) → Makes s clients line d new → new.seconds ≡ d.seconds + seconds_in line
line_clock s clients (lines.Cred client cred) d new h = ap (λ (x : Drill). x.seconds) h ∙ sym (add-zero d.seconds)
line_clock s clients (lines.Call client form prog vers proc args) d new h =
    ap (λ (x : Drill). x.seconds) h ∙ (submit_leaves (setting_now s d) (last_link client d) (record { prog = prog; vers = vers; proc = proc; cred = cred_of client d; args = args }) form d).seconds ∙ sym (add-zero d.seconds)
line_clock s clients (lines.Up client most) d new h = ap (λ (x : Drill). x.seconds) h ∙ (up_leaves (setting_now s d) (last_link client d) most d).seconds ∙ sym (add-zero d.seconds)
line_clock s clients (lines.Down client most) d new h = ap (λ (x : Drill). x.seconds) h ∙ (down_leaves (setting_now s d) (last_link client d) most d).seconds ∙ sym (add-zero d.seconds)
line_clock s clients (lines.Work client) d new h = ap (λ (x : Drill). x.seconds) h ∙ work_clock (setting_now s d) (last_link client d) d ∙ sym (add-zero d.seconds)
line_clock s clients (lines.Tick more) d new h = ap (λ (x : Drill). x.seconds) h
line_clock s clients (lines.Forget client number) d new h = ap (λ (x : Drill). x.seconds) h ∙ (forget_leaves (setting_now s d) (last_link client d) number d).seconds ∙ sym (add-zero d.seconds)
line_clock s clients (lines.Revoke client number) d new h = ap (λ (x : Drill). x.seconds) h ∙ (revoke_leaves (setting_now s d) (last_link client d) number d).seconds ∙ sym (add-zero d.seconds)
line_clock s clients (lines.Drop client) d new h = ap (λ (x : Drill). x.seconds) h ∙ sym (add-zero d.seconds)
line_clock s clients (lines.Rejoin client) d new h = ap (λ (x : Drill). x.seconds) h ∙ rejoin_clock s client d ∙ sym (add-zero d.seconds)
line_clock s clients (lines.Grant client credits) d new h = ap (λ (x : Drill). x.seconds) h ∙ sym (add-zero d.seconds)
line_clock s clients (lines.Raw client side bytes) d new h =
    ap (λ (x : Drill). x.seconds) h ∙ (raw_leaves (setting_now s d) (last_link client d) side bytes (is_dropped (last_link client d) d.marks) d).seconds ∙ sym (add-zero d.seconds)
line_clock s clients lines.Drain d new h = drain_clock (setting_now s d) d.last_links h.0 d new h.1 ∙ sym (add-zero d.seconds)

pub lines_on : (old now next : World) (all : List Line) (at : ℕ) (e : Line) → at < length all → LinesSoFar old now all at → MakesLine (get_or all at e) now next → LinesSoFar old next all (at + 1)
lines_on old now next all at e lt (can, goes) makes = (still can, further)
  where
    left : drop at all ≡ get_or all at e ∷ drop (at + 1) all
    left = rw (add-one) (drop-cons all at e lt)

    still : CanMakeAll (drop at all) now → CanMakeAll (drop (at + 1) all) next
    still (tree, opening, d, stands, within, may) =
        let s : Setting = drill_setting tree opening in
        let rejoins : MayRejoinIn s opening.clients (get_or all at e ∷ drop (at + 1) all) d = subst (λ (xs : List Line). MayRejoinIn s opening.clients xs d) left may in
        let (new, made, there) = makes tree opening d stands rejoins.0 in
        let all_within : AreWithin opening d.seconds (get_or all at e ∷ drop (at + 1) all) = subst (AreWithin opening d.seconds) left within in
        let clock = line_clock s opening.clients (get_or all at e) d new made in
        (tree, opening, new, there, subst (λ (n : ℕ). AreWithin opening n (drop (at + 1) all)) (sym clock) all_within.1, rejoins.1 new made)

    further : (tree : Tree) (opening : Opening) (d : Drill) → WorldStands tree opening d old → MayRejoinIn (drill_setting tree opening) opening.clients all d →
        (mid : Drill) × WorldStands tree opening mid next × MayRejoinIn (drill_setting tree opening) opening.clients (drop (at + 1) all) mid
        × ((last : Drill) → MakeAll (drill_setting tree opening) opening.clients (drop (at + 1) all) mid last → MakeAll (drill_setting tree opening) opening.clients all d last)
    further tree opening d h may =
        let s : Setting = drill_setting tree opening in
        let (mid, stands, may_rest, rest) = goes tree opening d h may in
        let rejoins : MayRejoinIn s opening.clients (get_or all at e ∷ drop (at + 1) all) mid = subst (λ (xs : List Line). MayRejoinIn s opening.clients xs mid) left may_rest in
        let (new, made, there) = makes tree opening mid stands rejoins.0 in
        (new, there, rejoins.1 new made, λ last after. rest last (subst (λ (xs : List Line). MakeAll s opening.clients xs mid last) (sym left) (new, made, after)))

pub lines_end : (old now : World) (all : List Line) (at : ℕ) → length all ≤ at → LinesSoFar old now all at → MakesLines all old now
lines_end old now all at le (can, goes) tree opening d h may =
    let (mid, stands, may_rest, rest) = goes tree opening d h may in
    (mid, rest mid (subst (λ (xs : List Line). MakeAll (drill_setting tree opening) opening.clients xs mid mid) (sym (drop_of_length-le all le)) refl), stands)

pub line_within : (w : World) (all : List Line) (at : ℕ) (e : Line) → at < length all → CanMakeAll (drop at all) w → CanMake (get_or all at e) w
line_within w all at e lt (tree, opening, d, stands, within, may) =
    let left : drop at all ≡ get_or all at e ∷ drop (at + 1) all = rw (add-one) (drop-cons all at e lt) in
    let all_within : AreWithin opening d.seconds (get_or all at e ∷ drop (at + 1) all) = subst (AreWithin opening d.seconds) left within in
    (tree, opening, d, stands, all_within.0)

-- ===== drains

-- a world in which some rounds were made
abbrev pub RoundsSoFar : World → World → Type 0
RoundsSoFar old now = (tree : Tree) (opening : Opening) (d : Drill) → WorldStands tree opening d old →
    (mid : Drill) × WorldStands tree opening mid now × KeepsLinks d mid
    × ((rounds : ℕ) (new : Drill) → Drains (setting_now (drill_setting tree opening) d) d.last_links rounds mid new → (more : ℕ) × Drains (setting_now (drill_setting tree opening) d) d.last_links more d new)

pub rounds_begin : (w : World) → RoundsSoFar w w
rounds_begin w tree opening d h = (d, h, (refl, refl), λ rounds new drains. (rounds, drains))

pub rounds_on : (old now next : World) (still : Bool) → still ≡ false → RoundsSoFar old now →
    ((tree : Tree) (opening : Opening) (d : Drill) → WorldStands tree opening d now → still ≡ list_all (is_still (setting_now (drill_setting tree opening) d) d) d.last_links) →
    ((tree : Tree) (opening : Opening) (d : Drill) → WorldStands tree opening d now → WorldStands tree opening (after_round (setting_now (drill_setting tree opening) d) d.last_links d) next) → RoundsSoFar old next
rounds_on old now next still moves so_far are round tree opening d h =
    let s : Setting = drill_setting tree opening in
    let (mid, stands, keeps, goes) = so_far tree opening d h in
    let here : list_all (is_still (setting_now s d) mid) d.last_links ≡ false = over_links s (λ t links. list_all (is_still t mid) links ≡ false) d mid keeps (sym (are tree opening mid stands) ∙ moves) in
    let after : WorldStands tree opening (after_round (setting_now s d) d.last_links mid) next = over_links s (λ t links. WorldStands tree opening (after_round t links mid) next) d mid keeps (round tree opening mid stands) in
    let one : KeepsLinks mid (after_round (setting_now s d) d.last_links mid) = round_keeps (setting_now s d) d.last_links mid in
    (after_round (setting_now s d) d.last_links mid, after, (one.0 ∙ keeps.0, one.1 ∙ keeps.1), λ rounds new drains. goes (suc rounds) new (here, drains))

pub rounds_end : (old now : World) (still : Bool) → still ≡ true → RoundsSoFar old now →
    ((tree : Tree) (opening : Opening) (d : Drill) → WorldStands tree opening d now → still ≡ list_all (is_still (setting_now (drill_setting tree opening) d) d) d.last_links) → MakesLine lines.Drain old now
rounds_end old now still ends so_far are tree opening d h may =
    let s : Setting = drill_setting tree opening in
    let (mid, stands, keeps, goes) = so_far tree opening d h in
    let here : list_all (is_still (setting_now s d) mid) d.last_links ≡ true = over_links s (λ t links. list_all (is_still t mid) links ≡ true) d mid keeps (sym (are tree opening mid stands) ∙ ends) in
    (mid, goes zero mid (here, refl), stands)
