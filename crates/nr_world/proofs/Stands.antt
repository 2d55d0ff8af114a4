-- A step of one link is a step of the world.
use Rattle.std.specs.Prelude.{OnOk, IfOk, slice_index_or, slice_set, ◌-◌}
use Rattle.std.specs.List.{AllByRecursion, range_with_len}
use Rattle.std.proofs.Common.{◌≡◌, ◌≢◌, ℕ, ◌+◌, ◌<◌, ◌≤◌, arith, List, ◌∷◌, length, map, Result, Ok, Err, Bool, true, false, eqb, eqb-true, get_or, set, refl, sym, ap, subst, ◌∙◌, []}
use Rattle.std.proofs.lemmas.List.{get_or-set_same, get_or-set_other, length-set}
use Rattle.std.proofs.lemmas.Bool.{eq-eqb}
use Rattle.nr_reduce.specs.declared.call.Call.{Call}
use Rattle.nr_reduce.specs.declared.call.Form.{Form}
use Rattle.nr_reduce.specs.declared.mark.LinkParameters.{LinkParameters}
use Rattle.nr_reduce.specs.declared.mark.Mark.{Mark}
use Rattle.nr_rpc.specs.Credential.{CanWriteCred}
use Rattle.nr_rpc.specs.declared.cred.Cred.{Cred}
use Rattle.nr_tree.specs.Tree.{Tree}
use Rattle.nr_laws.proofs.Basics.{each_append}
use Rattle.nr_texts.specs.declared.opening.Opening.{Opening}
use Rattle.nr_drill.specs.Drill.{Setting, Drill, IsLink, client_of, last_link, link_of, setting_now, after_submit}
use Rattle.nr_drill.specs.DrillSetup.{drill_setup}
use Rattle.nr_drill.specs.InBytes.{RepliedInBytes}
use Rattle.nr_drill.proofs.Followed.{Extends}
use Rattle.nr_world.specs.DrillLinkState.{DrillLinkState}
use Rattle.nr_world.specs.DrillServers.{DrillServerState}
use Rattle.nr_world.specs.LinkStands.{LinkStands}
use Rattle.nr_world.specs.Steps.{StandsAt, Goes, OpensServerSo, Works, ServerStands}
use Rattle.nr_world.specs.declared.steps.Procedure.{Procedure}
use Rattle.nr_world.specs.declared.world.World.{World}
use Rattle.nr_world.specs.private.Stands.{drill_setting, HasLastLinks, HasOpened, WorldStands, Steps, call_of_client}
use Rattle.nr_world.specs.private.Within.{IsClient}
use Rattle.nr_world.proofs.JournalSteps.{stays}
use Rattle.nr_world.proofs.Others.{others_stand}
use Rattle.nr_world.proofs.SameServer.{Leaves}

pub on_ok : {T E : Type 0} (r : Result T E) (P Q : Type 0) → OnOk r P → (P → Q) → OnOk r Q
on_ok (Ok x) P Q h f = f h
on_ok (Err e) P Q h f = tt

pub if_ok : {T E : Type 0} (r : Result T E) (P Q : T → Type 0) → IfOk r P → ((x : T) → P x → Q x) → IfOk r Q
if_ok (Ok x) P Q h f = f x h
if_ok (Err e) P Q h f = tt

-- ---- The link that a client has

pub link_of_client : (tree : Tree) (opening : Opening) (t : Setting) (clients : ℕ) (d : Drill) (w : World) (c : ℕ) (v : DrillLinkState) → HasOpened tree opening t clients d w → IsClient (length w.links.items) c →
    v ≡ slice_index_or w.links.items (c - 1) v → LinkStands t (last_link c d) d v
link_of_client tree opening t clients d w c v h is e = subst (LinkStands t (last_link c d) d) (sym e) (h.links c v is.0 (omega (arith, h.count, is.1)))

pub stands_at : (tree : Tree) (opening : Opening) (t : Setting) (clients : ℕ) (d : Drill) (w : World) (c : ℕ) (v : DrillLinkState) → HasOpened tree opening t clients d w → IsClient (length w.links.items) c →
    v ≡ slice_index_or w.links.items (c - 1) v → StandsAt t (last_link c d) d v w.marks
stands_at tree opening t clients d w c v h is e = record {
  stands = link_of_client tree opening t clients d w c v h is e;
  marks = h.marks;
  replies = subst RepliedInBytes (sym h.marks) h.replies;
}

pub link_at : (tree : Tree) (opening : Opening) (t : Setting) (clients : ℕ) (d : Drill) (w : World) (at : ℕ) (v : DrillLinkState) → HasOpened tree opening t clients d w → at < clients → v ≡ slice_index_or w.links.items at v →
    LinkStands t (last_link (at + 1) d) d v
link_at tree opening t clients d w at v h lt e =
    let place : at + 1 - 1 ≡ at = omega arith in
    link_of_client tree opening t clients d w (at + 1) v h (omega arith, omega (arith, h.count, lt)) (e ∙ sym (ap (λ (i : ℕ). slice_index_or w.links.items i v) place))

-- a client of the world is one of the script, and has a link of its own
pub client_in : (tree : Tree) (opening : Opening) (t : Setting) (clients : ℕ) (d : Drill) (w : World) (c : ℕ) → HasOpened tree opening t clients d w → IsClient (length w.links.items) c → c ≤ clients
client_in tree opening t clients d w c h is = omega (arith, h.count, is.1)

-- ---- A step of it leaves the others

false_true : false ≢ true
false_true e = absurd cc

-- each client has a link of its own
abbrev HasOwn : Setting → ℕ → Drill → Type 0
HasOwn t clients d = (c : ℕ) → 1 ≤ c → c ≤ clients → (1 ≤ last_link c d) × (client_of t (last_link c d) ≡ c)

each_stands : (t : Setting) (client clients : ℕ) (old new : Drill) (links : List DrillLinkState) (v : DrillLinkState) → length links ≡ clients → IsClient clients client → HasOwn t clients old → Extends (last_link client old) old new →
    LinkStands t (last_link client old) new v → ((c : ℕ) (e : DrillLinkState) → 1 ≤ c → c ≤ clients → LinkStands t (last_link c old) old (slice_index_or links (c - 1) e)) →
    (c : ℕ) (e : DrillLinkState) → 1 ≤ c → c ≤ clients → LinkStands t (last_link c old) new (slice_index_or (slice_set links (client - 1) v) (c - 1) e)
each_stands t client clients old new links v count is has x own each c e first last = by (eqb c client) refl
  where
    by : (b : Bool) → eqb c client ≡ b → LinkStands t (last_link c old) new (get_or (set links (client - 1) v) (c - 1) e)
    by true same =
        let at : c ≡ client = eqb-true c client same in
        let lt : client - 1 < length links = omega (arith, count, is.0, is.1) in
        subst (λ (k : ℕ). LinkStands t (last_link k old) new (get_or (set links (client - 1) v) (k - 1) e)) (sym at)
        (subst (LinkStands t (last_link client old) new) (sym (get_or-set_same links (client - 1) v e lt)) own)
    by false other =
        let ne : c ≢ client = (λ same. false_true (sym other ∙ eq-eqb c client same)) in
        let apart : c - 1 ≢ client - 1 = (λ same. ne (omega (arith, same, first, is.0))) in
        let mine = has client is.0 is.1 in
        let theirs = has c first last in
        let owners : client_of t (last_link client old) ≢ client_of t (last_link c old) = (λ same. ne (sym theirs.1 ∙ sym same ∙ mine.1)) in
        subst (LinkStands t (last_link c old) new) (sym (get_or-set_other links (client - 1) (c - 1) v e apart))
        (others_stand t (last_link client old) (last_link c old) old new (get_or links (c - 1) e) mine.0 owners x (each c e first last))

-- ---- The links of the clients stay

abbrev Owns : Setting → (links : List ℕ) → (opened : List LinkParameters) → ℕ → Type 0
Owns s links opened c =
    ((1 ≤ slice_index_or links (c - 1) c) × (slice_index_or links (c - 1) c ≤ length opened))
    × (client_of (record s { opened = λ link. slice_index_or (s.opened 0 ∷ opened) link (s.opened link) }) (slice_index_or links (c - 1) c) ≡ c)

-- the server of its link is opened as the first line says
abbrev pub HasServer : Setting → Opening → (links : List ℕ) → (opened : List LinkParameters) → ℕ → Type 0
HasServer s opening links opened c = OpensServerSo opening (slice_index_or (s.opened 0 ∷ opened) (slice_index_or links (c - 1) c) (s.opened (slice_index_or links (c - 1) c)))

abbrev IsWithin : List LinkParameters → Mark → Type 0
IsWithin opened mark = (1 ≤ link_of mark) × (link_of mark ≤ length opened)

all_within : (opened : List LinkParameters) (link : ℕ) (added : List Mark) → (1 ≤ link) × (link ≤ length opened) → AllByRecursion (λ (mark : Mark). link_of mark ≡ link) added → AllByRecursion (IsWithin opened) added
all_within opened link [] is own = tt
all_within opened link (mark ∷ added) is own = (subst (λ (l : ℕ). (1 ≤ l) × (l ≤ length opened)) (sym own.0) is, all_within opened link added is own.1)

pub frame_stays : (s : Setting) (clients link : ℕ) (d new : Drill) → HasLastLinks s clients d → IsLink d link → Extends link d new → HasLastLinks s clients new
frame_stays s clients link d new f is x = record {
  count = ap length x.last_links ∙ f.count;
  pipes = x.room ∙ f.pipes ∙ sym (ap length x.opened);
  owned = λ c first last. subst (λ (links : List ℕ). Owns s links new.opened c) (sym x.last_links) (subst (λ (all : List LinkParameters). Owns s d.last_links all c) (sym x.opened) (f.owned c first last));
  within = subst (λ (all : List LinkParameters). AllByRecursion (IsWithin all) new.marks) (sym x.opened)
      (subst (AllByRecursion (IsWithin d.opened)) (sym x.marks.is) (each_append (IsWithin d.opened) d.marks x.marks.added f.within (all_within d.opened link x.marks.added is x.marks.own)));
}

-- ---- The world after a step

-- the world `n` is the world `w` after a step of the link of a client
pub record IsAfterStep (w : World) (c : ℕ) (v : DrillLinkState) (n : World) : Type 0 where
  pub first_line : n.opening ≡ w.opening
  pub links : n.links.items ≡ slice_set w.links.items (c - 1) v
  pub owners : n.owners.items ≡ w.owners.items
  pub seconds : n.seconds ≡ w.seconds
  pub creds : n.creds.items ≡ w.creds.items

pub world_steps : (tree : Tree) (opening : Opening) (c : ℕ) (d new : Drill) (w n : World) (v : DrillLinkState) → WorldStands tree opening d w → IsClient (length w.links.items) c → Extends (last_link c d) d new → new.seconds ≡ d.seconds →
    IsAfterStep w c v n → StandsAt (setting_now (drill_setting tree opening) d) (last_link c d) new v n.marks → ServerStands (drill_setup tree opening) new n.server → WorldStands tree opening new n
world_steps tree opening c d new w n v h is x clock a at server =
    let s : Setting = drill_setting tree opening in
    let t : Setting = setting_now s d in
    let same : t ≡ setting_now s new = (λ i. record s { opened = λ link. slice_index_or (s.opened 0 ∷ sym x.opened i) link (s.opened link) }) in
    let most : c ≤ opening.clients = client_in tree opening t opening.clients d w c h.opened is in
    let own : HasOwn t opening.clients d = (λ k first last. ((h.frame.owned k first last).0.0, (h.frame.owned k first last).1)) in
    let stand : (k : ℕ) (e : DrillLinkState) → 1 ≤ k → k ≤ opening.clients → LinkStands t (last_link k d) new (slice_index_or n.links.items (k - 1) e) =
    (λ k e first last. subst (λ (links : List DrillLinkState). LinkStands t (last_link k d) new (slice_index_or links (k - 1) e)) (sym a.links)
    (each_stands t c opening.clients d new w.links.items v h.opened.count (is.0, most) own x at.stands h.opened.links k e first last)) in
    record {
      opened = subst (λ (u : Setting). HasOpened tree opening u opening.clients new n) same (record {
        first_line = a.first_line ∙ h.opened.first_line;
        count = ap length a.links ∙ length-set w.links.items (c - 1) v ∙ h.opened.count;
        links = λ k e first last. subst (λ (ls : List ℕ). LinkStands t (slice_index_or ls (k - 1) k) new (slice_index_or n.links.items (k - 1) e)) (sym x.last_links) (stand k e first last);
        marks = at.marks;
        replies = subst RepliedInBytes at.marks at.replies;
        seconds = a.seconds ∙ h.opened.seconds ∙ sym clock;
        creds = a.creds ∙ h.opened.creds ∙ sym x.creds;
        creds_count = ap length a.creds ∙ h.opened.creds_count;
        creds_fit = subst (AllByRecursion CanWriteCred) (sym a.creds) h.opened.creds_fit;
        server = server;
      });
      frame = frame_stays s opening.clients (last_link c d) d new h.frame (h.frame.owned c is.0 most).0 x;
      servers = λ k first last. subst (λ (links : List ℕ). HasServer s opening links new.opened k) (sym x.last_links) (subst (λ (all : List LinkParameters). HasServer s opening d.last_links all k) (sym x.opened) (h.servers k first last));
      owners = a.owners ∙ h.owners ∙ (λ i. map (client_of (same i)) (range_with_len 1 (length (sym x.opened i))));
    }

-- what a step of a link makes of a drill, if it executes no call
abbrev pub IsQuiet : (Setting → ℕ → Drill → Drill) → Type 0
IsQuiet step = (s : Setting) (link : ℕ) (d : Drill) → Extends link d (step s link d) × Leaves d (step s link d)

pub world_goes : (step : Setting → ℕ → Drill → Drill) → IsQuiet step → (c : ℕ) (w n : World) (before after : DrillLinkState) → before ≡ slice_index_or w.links.items (c - 1) before → IsClient (length w.links.items) c →
    IsAfterStep w c after n → n.server ≡ w.server → Goes step before after w.marks n.marks → Steps (λ s d. step (setting_now s d) (last_link c d) d) w n
world_goes step quiet c w n before after e is a same goes tree opening d h =
    let t : Setting = setting_now (drill_setting tree opening) d in
    let link : ℕ = last_link c d in
    let both = quiet t link d in
    let kept : ServerStands (drill_setup tree opening) (step t link d) n.server =
    subst (λ (k : DrillServerState). ServerStands (drill_setup tree opening) (step t link d) k) (sym same) (stays (drill_setup tree opening) d (step t link d) w.server both.1 h.opened.server) in
    world_steps tree opening c d (step t link d) w n after h is both.0 both.1.seconds a (goes t link d (stands_at tree opening t opening.clients d w c before h.opened is e)) kept

-- and if it executes calls
abbrev pub KeepsClock : (Setting → ℕ → Drill → Drill) → Type 0
KeepsClock step = (s : Setting) (link : ℕ) (d : Drill) → Extends link d (step s link d) × ((step s link d).seconds ≡ d.seconds)

pub world_works : (step : Setting → ℕ → Drill → Drill) → KeepsClock step → (c : ℕ) (w n : World) (before after : DrillLinkState) → before ≡ slice_index_or w.links.items (c - 1) before → IsClient (length w.links.items) c →
    IsAfterStep w c after n → Works step w.seconds before after w.marks n.marks w.server n.server → Steps (λ s d. step (setting_now s d) (last_link c d) d) w n
world_works step keeps c w n before after e is a works tree opening d h =
    let t : Setting = setting_now (drill_setting tree opening) d in
    let link : ℕ = last_link c d in
    let both = keeps t link d in
    let new = works (drill_setup tree opening) t.opened link d (sym h.opened.seconds) h.opened.server (stands_at tree opening t opening.clients d w c before h.opened is e) in
    world_steps tree opening c d (step t link d) w n after h is both.0 both.1 a new.0 new.1

-- a call with the credential that the client has
pub submit_goes : (client : ℕ) (w n : World) (call : Call) (form copy : Form) (procedure : Procedure) (args : List ℕ) → call ≡ call_of_client w.creds.items client procedure args → copy ≡ form →
    Steps (λ s d. after_submit (setting_now s d) (last_link client d) call copy d) w n → Steps (λ s d. after_submit (setting_now s d) (last_link client d) (call_of_client d.creds client procedure args) form d) w n
submit_goes client w n call form copy procedure args is same steps tree opening d h =
    let t : Setting = setting_now (drill_setting tree opening) d in
    let link : ℕ = last_link client d in
    subst (λ (x : Call). WorldStands tree opening (after_submit t link x form d) n) (is ∙ ap (λ (all : List Cred). call_of_client all client procedure args) h.opened.creds)
    (subst (λ (f : Form). WorldStands tree opening (after_submit t link call f d) n) same (steps tree opening d h))
