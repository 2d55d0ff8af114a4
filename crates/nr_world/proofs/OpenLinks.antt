-- Links open one after another.
use Rattle.std.specs.Prelude.{slice_index_or, ◌-◌, replicate}
use Rattle.std.specs.List.{AllByRecursion, range_with_len}
use Rattle.std.proofs.Common.{◌≡◌, ◌≢◌, ℕ, zero, suc, ◌+◌, ◌<◌, ◌≤◌, arith, Bool, true, false, eqb, eqb-true, List, [], ◌∷◌, ◌++◌, length, get_or, refl, sym, ap, subst, ◌∙◌, length-append, add-one}
use Rattle.std.proofs.lemmas.Bool.{eq-eqb}
use Rattle.std.proofs.lemmas.List.{get_or_append_left, get_or-replicate}
use Rattle.std.proofs.Math.Seq.{get_or-append_seam}
use Rattle.nr_reduce.specs.declared.mark.Mark.{Mark}
use Rattle.nr_rpc.specs.Credential.{CanWriteCred}
use Rattle.nr_rpc.specs.declared.cred.Cred.{Cred}
use Rattle.nr_tree.specs.Steps.{IsBelow}
use Rattle.nr_tree.specs.Tree.{Tree}
use Rattle.nr_texts.specs.declared.opening.Opening.{Opening}
use Rattle.nr_drill.specs.Drill.{client_of, link_of, Setting, Drill, empty_pipes, start, links_of, after_opening, after_openings}
use Rattle.nr_drill.specs.DrillSetup.{drill_setup}
use Rattle.nr_drill.specs.Follows.{opened_drill}
use Rattle.nr_drill.proofs.BegunLinks.{first_owner, index_range}
use Rattle.nr_reduce.specs.NumberedJournal.{tagged_journal}
use Rattle.nr_plain.specs.Numbered.{RepresentsTagged}
use Rattle.nr_plain.specs.Stands.{PlainServerState}
use Rattle.nr_world.specs.DrillServers.{DrillServerState}
use Rattle.nr_world.proofs.JournalSteps.{stays}
use Rattle.nr_drill.specs.InBytes.{RepliedInBytes}
use Rattle.nr_drill.proofs.Followed.{Extends, opening_adds}
use Rattle.nr_world.specs.DrillLinkState.{DrillLinkState}
use Rattle.nr_world.specs.LinkStands.{LinkStands}
use Rattle.nr_world.specs.Steps.{HasNoMarkOf, ServerStands, IsBeforeOpening, Opens}
use Rattle.nr_world.specs.declared.world.World.{World}
use Rattle.nr_world.specs.private.Stands.{drill_setting}
use Rattle.nr_world.specs.private.Opened.{HasFirst, OpensAll, OpensLink}
use Rattle.nr_world.proofs.Others.{others_stand}
use Rattle.nr_world.proofs.Rounds.{openings_from, openings_end}
use Rattle.nr_world.proofs.SameServer.{opening_leaves}
use Rattle.nr_reduce.specs.declared.mark.Mark.TheVariants as marks
use Rattle.nr_rpc.specs.declared.cred.Cred.TheVariants as creds

-- the links from a place on haven't opened
abbrev Unopened : ℕ → ℕ → Drill → Type 0
Unopened clients at d = (link : ℕ) → at < link → link < clients + 1 → IsBeforeOpening link d

abbrev pub OpenedSoFar : Opening → World → World → ℕ → Type 0
OpenedSoFar opening old now at = (tree : Tree) → HasFirst tree opening 0 (start (drill_setting tree opening) opening.clients) old →
    (d : Drill) × HasFirst tree opening at d now × Unopened opening.clients at d
    × (after_openings (drill_setting tree opening) (range_with_len (at + 1) (opening.clients - at)) d ≡ after_openings (drill_setting tree opening) (links_of opening.clients) (start (drill_setting tree opening) opening.clients))

-- ===== before anything happened

pub start_unopened : (s : Setting) (clients : ℕ) → Unopened clients 0 (start s clients)
start_unopened s clients link first last = record {
  first = first;
  room = subst (λ (n : ℕ). link ≤ n) (sym (length-replicate clients)) (omega (arith, last));
  pipes = get_or-replicate clients (link - 1) empty_pipes empty_pipes (omega (arith, first, last));
  none = tt;
}
  where
    length-replicate : (n : ℕ) → length (replicate n empty_pipes) ≡ n
    length-replicate zero = refl
    length-replicate (suc n) = ap suc (length-replicate n)

pub openings_begin : (opening : Opening) (w : World) → OpenedSoFar opening w w 0
openings_begin opening w tree h =
    let all : opening.clients - 0 ≡ opening.clients = omega arith in
    (start (drill_setting tree opening) opening.clients, h, start_unopened (drill_setting tree opening) opening.clients, ap (λ (n : ℕ). after_openings (drill_setting tree opening) (range_with_len 1 n) (start (drill_setting tree opening) opening.clients)) all)

no_creds_count : (n : ℕ) → length (replicate n creds.None) ≡ n
no_creds_count zero = refl
no_creds_count (suc n) = ap suc (no_creds_count n)

no_creds_fit : (n : ℕ) → AllByRecursion CanWriteCred (replicate n creds.None)
no_creds_fit zero = tt
no_creds_fit (suc n) = (tt, no_creds_fit n)

pub one_more_cred : (n : ℕ) → replicate n creds.None ++ creds.None ∷ [] ≡ replicate (n + 1) creds.None
one_more_cred n = by n ∙ ap (λ (k : ℕ). replicate k creds.None) (sym (add-one n))
  where
    by : (k : ℕ) → replicate k creds.None ++ creds.None ∷ [] ≡ replicate (suc k) creds.None
    by zero = refl
    by (suc k) = ap (λ (all : List Cred). creds.None ∷ all) (by k)

-- a server without entries stands for no marks
no_marks_stand : (tree : Tree) (opening : Opening) (kept : DrillServerState) (server : PlainServerState) → kept ≡ record { server = server; seconds = [] } → RepresentsTagged (drill_setup tree opening) [] server →
    ServerStands (drill_setup tree opening) (start (drill_setting tree opening) opening.clients) kept
unfolding tagged_journal
no_marks_stand tree opening kept server is h = subst (ServerStands (drill_setup tree opening) (start (drill_setting tree opening) opening.clients)) (sym is) (record {
  entries = record { represents = h; calls = λ at entry lt. absurd (omega (arith, lt)); moments = refl };
  heard = tt;
})

-- a world in which nothing happened yet
pub start_stands : (tree : Tree) (opening : Opening) (w : World) (server : PlainServerState) → w.opening ≡ opening → w.links.items ≡ [] → w.owners.items ≡ [] → w.marks ≡ [] → w.seconds ≡ 0 → w.creds.items ≡ replicate opening.clients creds.None →
    w.server ≡ record { server = server; seconds = [] } → RepresentsTagged (drill_setup tree opening) [] server → HasFirst tree opening 0 (start (drill_setting tree opening) opening.clients) w
start_stands tree opening w server first links owners run seconds all is stands = record {
  opened = record {
    first_line = first;
    count = ap length links;
    links = λ c v low high. absurd (omega (arith, low, high));
    marks = run;
    replies = tt;
    seconds = seconds;
    creds = all;
    creds_count = ap length all ∙ no_creds_count opening.clients;
    creds_fit = subst (AllByRecursion CanWriteCred) (sym all) (no_creds_fit opening.clients);
    server = no_marks_stand tree opening w.server server is stands;
  };
  owners = owners;
  last_links = refl;
}

-- a tree that is far below a limit
pub below_more : (a b : ℕ) (t : Tree) → a ≤ b → IsBelow a t → IsBelow b t
below_more a b t le h = record { next = (let lt = h.next in omega (arith, lt, le)); cookies = λ n node is. (let lt = h.cookies n node is in omega (arith, lt, le)) }

-- ===== one link opens

none_more : (link acted : ℕ) (run added : List Mark) → acted ≢ link → AllByRecursion (λ (mark : Mark). link_of mark ≢ link) run → AllByRecursion (λ (mark : Mark). link_of mark ≡ acted) added →
    AllByRecursion (λ (mark : Mark). link_of mark ≢ link) (run ++ added)
none_more link acted [] [] ne h g = tt
none_more link acted [] (mark ∷ added) ne h g = (λ same. ne (sym g.0 ∙ same), none_more link acted [] added ne tt g.1)
none_more link acted (mark ∷ run) added ne h g = (h.0, none_more link acted run added ne h.1 g)

before_stays : (acted link : ℕ) (old new : Drill) → 1 ≤ acted → acted ≢ link → Extends acted old new → IsBeforeOpening link old → IsBeforeOpening link new
before_stays acted link old new some ne x h = record {
  first = h.first;
  room = subst (λ (n : ℕ). link ≤ n) (sym x.room) h.room;
  pipes = x.pipes link (λ same. ne (let first = h.first in omega (arith, same, first, some))) ∙ h.pipes;
  none = subst (AllByRecursion (λ (mark : Mark). link_of mark ≢ link)) (sym x.marks.is) (none_more link acted old.marks x.marks.added ne h.none x.marks.own);
}

-- the world `n` is the world `w` after the first link of a client opened
pub record IsAfterOpening (client : ℕ) (w : World) (v : DrillLinkState) (n : World) : Type 0 where
  pub first_line : n.opening ≡ w.opening
  pub links : n.links.items ≡ w.links.items ++ v ∷ []
  pub owners : n.owners.items ≡ w.owners.items ++ client ∷ []
  pub server : n.server ≡ w.server
  pub seconds : n.seconds ≡ w.seconds
  pub creds : n.creds.items ≡ w.creds.items

-- the first links are their clients', in order
own_first : (tree : Tree) (opening : Opening) (link : ℕ) → client_of (drill_setting tree opening) link ≡ link
own_first tree opening link = first_owner opening link

last_first : (links : List ℕ) (clients c : ℕ) → links ≡ range_with_len 1 clients → 1 ≤ c → slice_index_or links (c - 1) c ≡ c
last_first links clients c is low = ap (λ (ls : List ℕ). slice_index_or ls (c - 1) c) is ∙ index_range 1 clients (c - 1) c (omega (arith, low))

open_links : (tree : Tree) (opening : Opening) (at : ℕ) (old new : Drill) (links : List DrillLinkState) (v : DrillLinkState) → length links ≡ at → Extends (at + 1) old new → LinkStands (drill_setting tree opening) (at + 1) new v →
    ((link : ℕ) (e : DrillLinkState) → 1 ≤ link → link ≤ at → LinkStands (drill_setting tree opening) link old (slice_index_or links (link - 1) e)) →
    (link : ℕ) (e : DrillLinkState) → 1 ≤ link → link ≤ at + 1 → LinkStands (drill_setting tree opening) link new (slice_index_or (links ++ v ∷ []) (link - 1) e)
open_links tree opening at old new links v count x own each link e first last = by (eqb link (at + 1)) refl
  where
    s : Setting
    s = drill_setting tree opening

    by : (b : Bool) → eqb link (at + 1) ≡ b → LinkStands s link new (get_or (links ++ v ∷ []) (link - 1) e)
    by true same =
        let this : link ≡ at + 1 = eqb-true link (at + 1) same in
        let place : length links ≡ link - 1 = omega (arith, count, this) in
        subst (λ (l : ℕ). LinkStands s l new (get_or (links ++ v ∷ []) (link - 1) e)) (sym this)
        (subst (LinkStands s (at + 1) new) (sym (get_or-append_seam links v [] e) ∙ ap (λ (i : ℕ). get_or (links ++ v ∷ []) i e) place) own)
    by false other =
        let ne : link ≢ at + 1 = (λ same. differs (sym other ∙ eq-eqb link (at + 1) same)) in
        let lt : link - 1 < length links = omega (arith, count, ne, first, last) in
        let owners : client_of s (at + 1) ≢ client_of s link = (λ same. ne (sym (own_first tree opening link) ∙ sym same ∙ own_first tree opening (at + 1))) in
        subst (LinkStands s link new) (sym (get_or_append_left links (v ∷ []) e (link - 1) lt)) (others_stand s (at + 1) link old new (get_or links (link - 1) e) (omega arith) owners x (each link e first (omega (arith, ne, last))))
      where
        differs : false ≡ true → ⊥
        differs e = absurd cc

no_mark_of : (tree : Tree) (opening : Opening) (link : ℕ) (run : List Mark) → AllByRecursion (λ (mark : Mark). link_of mark ≢ link) run → HasNoMarkOf (drill_setting tree opening) (client_of (drill_setting tree opening) link) run
no_mark_of tree opening link [] h = tt
no_mark_of tree opening link (mark ∷ run) h =
    (λ same. h.0 (sym (own_first tree opening (link_of mark)) ∙ same ∙ own_first tree opening link), no_mark_of tree opening link run h.1)

first_range : (n : ℕ) → range_with_len 1 n ++ (n + 1) ∷ [] ≡ range_with_len 1 (n + 1)
first_range n = by 1 n ∙ ap (λ (k : ℕ). range_with_len 1 k) (sym (add-one n))
  where
    by : (from k : ℕ) → range_with_len from k ++ (k + from) ∷ [] ≡ range_with_len from (suc k)
    by from zero = let place : 0 + from ≡ from = omega arith in ap (λ (m : ℕ). m ∷ []) place
    by from (suc k) =
        let next : suc k + from ≡ k + (from + 1) = omega arith in
        ap (λ (m : ℕ). from ∷ (range_with_len (from + 1) k ++ m ∷ [])) next ∙ ap (λ (xs : List ℕ). from ∷ xs) (by (from + 1) k)

opens_next : (tree : Tree) (opening : Opening) (at : ℕ) (d : Drill) (w n : World) (v : DrillLinkState) → at < opening.clients → HasFirst tree opening at d w → Unopened opening.clients at d →
    Opens (at + 1) opening v w.marks n.marks → IsAfterOpening (at + 1) w v n → HasFirst tree opening (at + 1) (after_opening (drill_setting tree opening) (at + 1) d) n
opens_next tree opening at d w n v lt h un opens a =
    let s : Setting = drill_setting tree opening in
    let new : Drill = after_opening s (at + 1) d in
    let leaves = opening_leaves s (at + 1) d in
    let x = opening_adds s (at + 1) d in
    let before : IsBeforeOpening (at + 1) d = un (at + 1) (omega arith) (omega (arith, lt)) in
    let stands = opens s d refl before (no_mark_of tree opening (at + 1) d.marks before.none) h.opened.marks (subst RepliedInBytes (sym h.opened.marks) h.opened.replies) in
    let links : new.last_links ≡ range_with_len 1 opening.clients = x.last_links ∙ h.last_links in
    record {
      opened = record {
        first_line = a.first_line ∙ h.opened.first_line;
        count = ap length a.links ∙ length-append w.links.items (v ∷ []) ∙ ap (λ (k : ℕ). k + 1) h.opened.count;
        links = λ c e first last. subst (λ (l : ℕ). LinkStands s l new (slice_index_or n.links.items (c - 1) e)) (sym (last_first new.last_links opening.clients c links first))
            (subst (λ (all : List DrillLinkState). LinkStands s c new (slice_index_or all (c - 1) e)) (sym a.links)
            (open_links tree opening at d new w.links.items v h.opened.count x stands.stands
            (λ link f low high. subst (λ (l : ℕ). LinkStands s l d (slice_index_or w.links.items (link - 1) f)) (last_first d.last_links opening.clients link h.last_links low) (h.opened.links link f low high)) c e first last));
        marks = stands.marks;
        replies = subst RepliedInBytes stands.marks stands.replies;
        seconds = a.seconds ∙ h.opened.seconds ∙ sym leaves.seconds;
        creds = a.creds ∙ h.opened.creds ∙ sym x.creds;
        creds_count = ap length a.creds ∙ h.opened.creds_count;
        creds_fit = subst (AllByRecursion CanWriteCred) (sym a.creds) h.opened.creds_fit;
        server = subst (λ (k : DrillServerState). ServerStands (drill_setup tree opening) new k) (sym a.server) (stays (drill_setup tree opening) d new w.server leaves h.opened.server);
      };
      owners = a.owners ∙ ap (λ (xs : List ℕ). xs ++ (at + 1) ∷ []) h.owners ∙ first_range at;
      last_links = links;
    }

pub opens_one : (client : ℕ) (w n : World) (v : DrillLinkState) → Opens client w.opening v w.marks n.marks → IsAfterOpening client w v n → OpensLink client w n
opens_one client w n v opens a tree opening at d same lt h un =
    let s : Setting = drill_setting tree opening in
    let opens_here : Opens (at + 1) opening v w.marks n.marks = subst (λ (o : Opening). Opens (at + 1) o v w.marks n.marks) h.opened.first_line (subst (λ (c : ℕ). Opens c w.opening v w.marks n.marks) same opens) in
    subst (λ (c : ℕ). HasFirst tree opening c (after_opening s c d) n) (sym same) (opens_next tree opening at d w n v lt h un opens_here (subst (λ (c : ℕ). IsAfterOpening c w v n) same a))

-- ===== all first links

pub openings_on : (opening : Opening) (old w n : World) (at : ℕ) → at < opening.clients → OpenedSoFar opening old w at → OpensLink (at + 1) w n → OpenedSoFar opening old n (at + 1)
openings_on opening old w n at lt so_far opens tree h =
    let s : Setting = drill_setting tree opening in
    let (d, stands, un, rest) = so_far tree h in
    let x = opening_adds s (at + 1) d in (
      after_opening s (at + 1) d,
      opens tree opening at d refl lt stands un,
      λ link later last. before_stays (at + 1) link d (after_opening s (at + 1) d) (omega arith) (λ same. absurd (omega (arith, same, later))) x (un link (omega (arith, later)) last),
      openings_from s opening.clients at d lt ∙ rest,
    )

pub openings_all : (opening : Opening) (old w : World) (at : ℕ) → at ≡ opening.clients → OpenedSoFar opening old w at → OpensAll opening old w
unfolding opened_drill
openings_all opening old w at e so_far tree h =
    let s : Setting = drill_setting tree opening in
    let (d, stands, un, rest) = so_far tree h in
    subst (λ (x : Drill). HasFirst tree opening opening.clients x w) (openings_end s opening.clients at d (omega (arith, e)) ∙ rest)
    (subst (λ (k : ℕ). HasFirst tree opening k d w) e stands)
