-- What lines make of a drill whose clients have no numbers: each acts on the link of its client's number, which is opened as at first. The server of
-- each such link has heard its client.
use Rattle.std.specs.Prelude.{◌-◌, slice_index_or, ◌&&◌}
use Rattle.std.specs.List.{AllByRecursion, range_with_len}
use Rattle.std.proofs.Common.{◌≡◌, ℕ, zero, suc, ◌+◌, ◌≤◌, arith, List, [], ◌∷◌, refl, sym, ap, ◌∙◌, subst, Bool, true, false, leb, ◌++◌}
use Rattle.nr_reduce.specs.History.{is_dropped}
use Rattle.nr_reduce.specs.declared.mark.Mark.{Mark}
use Rattle.nr_texts.specs.declared.opening.Opening.{Opening}
use Rattle.nr_script.specs.declared.script.Line.{Line}
use Rattle.nr_script.specs.declared.script.Line.TheVariants as lines
use Rattle.nr_drill.specs.Drill.{SerialServer, Setting, Drill, last_link, links_of, setting_now, cred_of, after_submit, after_up, after_down, after_work, after_forget, after_revoke, after_drop, after_raw, after_grant, start, after_moves, after_round, after_opening, after_openings}
use Rattle.nr_drill.specs.Follows.{after_line, Drains, Makes, MakeAll, Follows, parameters_of, setting_of, opened_drill}
use Rattle.nr_drill.specs.Lines.{IsClient, IsUnnumbered}
use Rattle.nr_drill.proofs.FirstLinks.{now_is}
use Rattle.nr_drill.proofs.Opening.{heard_by_lem}
use Rattle.nr_drill.proofs.BegunLinks.{open_drill}
use Rattle.nr_drill.proofs.Followed.{KeepsLinks, extending_keeps, same_setting, submit_adds, up_adds, down_adds, work_adds, forget_adds, revoke_adds, drop_adds, raw_adds, grant_adds, moves_adds, opening_adds}
use Rattle.nr_drill.proofs.Actions.{action_keeps, then_keep}
use Rattle.nr_drill.proofs.Actions.Action.{SubmitCall, FeedUp, FeedDown, WorkOnce, ForgetCall, RevokeCall, DropLink, PutRaw, GrantCredits}
use Rattle.nr_reduce.specs.declared.call.Call.{Call}
use Rattle.nr_script.specs.Script.{ScriptLines, IsScript, FollowOn, may_follow, is_client, is_call_line, credits_in_range}
use Rattle.std.proofs.lemmas.Bool.{leb-true}
use Rattle.nr_reduce.specs.declared.mark.LinkParameters.{LinkParameters}
use Rattle.nr_drill.specs.Unnumbered.{first_line, FirstMakes, FirstMakeAll, Heard}

-- a line names a client from 1 on
abbrev pub NamesClient : Line → Type 0
NamesClient (lines.Cred client cred) = Unit {0}
NamesClient (lines.Call client form prog vers proc args) = 1 ≤ client
NamesClient (lines.Up client most) = 1 ≤ client
NamesClient (lines.Down client most) = 1 ≤ client
NamesClient (lines.Work client) = 1 ≤ client
NamesClient (lines.Tick seconds) = Unit {0}
NamesClient (lines.Forget client number) = 1 ≤ client
NamesClient (lines.Revoke client number) = 1 ≤ client
NamesClient (lines.Drop client) = 1 ≤ client
NamesClient (lines.Rejoin client) = 1 ≤ client
NamesClient (lines.Raw client side bytes) = 1 ≤ client
NamesClient (lines.Grant client credits) = 1 ≤ client
NamesClient lines.Drain = Unit {0}

pub both_true : (a b : Bool) → a && b ≡ true → (a ≡ true) × (b ≡ true)
both_true true b e = (refl, e)
both_true false b e = absurd cc

from_one : (opening : Opening) (client : ℕ) → is_client opening client ≡ true → 1 ≤ client
from_one opening client e = leb-true 1 client (both_true (leb 1 client) (leb client opening.clients) e).0

names_client : (opening : Opening) (before : List Line) (line : Line) → may_follow opening before line ≡ true → NamesClient line
names_client opening before (lines.Cred client cred) e = tt
names_client opening before (lines.Call client form prog vers proc args) e = from_one opening client e
names_client opening before (lines.Up client most) e = from_one opening client e
names_client opening before (lines.Down client most) e = from_one opening client e
names_client opening before (lines.Work client) e = from_one opening client e
names_client opening before (lines.Tick seconds) e = tt
names_client opening before (lines.Forget client number) e = from_one opening client (both_true (is_client opening client) (is_call_line client number before) e).0
names_client opening before (lines.Revoke client number) e = from_one opening client (both_true (is_client opening client) (is_call_line client number before) e).0
names_client opening before (lines.Drop client) e = from_one opening client e
names_client opening before (lines.Rejoin client) e = from_one opening client (both_true (is_client opening client) opening.numbered e).0
names_client opening before (lines.Raw client side bytes) e = from_one opening client e
names_client opening before (lines.Grant client credits) e = from_one opening client (both_true (is_client opening client) (credits_in_range opening credits) e).0
names_client opening before lines.Drain e = tt

pub all_name : (opening : Opening) (before all : List Line) → FollowOn opening before all → AllByRecursion NamesClient all
all_name opening before [] h = tt
all_name opening before (line ∷ others) h = (names_client opening before line h.0, all_name opening (before ++ line ∷ []) others h.1)

-- a line with which no client begins another link, as all lines of a script whose clients have no numbers are
abbrev pub IsFit : Line → Type 0
IsFit (lines.Rejoin client) = ⊥
IsFit line = Unit {0}

line_fits : (opening : Opening) (before : List Line) (line : Line) → opening.numbered ≡ false → may_follow opening before line ≡ true → IsFit line
line_fits opening before (lines.Cred client cred) none e = tt
line_fits opening before (lines.Call client form prog vers proc args) none e = tt
line_fits opening before (lines.Up client most) none e = tt
line_fits opening before (lines.Down client most) none e = tt
line_fits opening before (lines.Work client) none e = tt
line_fits opening before (lines.Tick seconds) none e = tt
line_fits opening before (lines.Forget client number) none e = tt
line_fits opening before (lines.Revoke client number) none e = tt
line_fits opening before (lines.Drop client) none e = tt
line_fits opening before (lines.Rejoin client) none e = absurd (let wrong : true ≡ false = sym (both_true (is_client opening client) opening.numbered e).1 ∙ none in cc)
line_fits opening before (lines.Raw client side bytes) none e = tt
line_fits opening before (lines.Grant client credits) none e = tt
line_fits opening before lines.Drain none e = tt

fit_from : (opening : Opening) (before all : List Line) → opening.numbered ≡ false → FollowOn opening before all → AllByRecursion IsFit all
fit_from opening before [] none h = tt
fit_from opening before (line ∷ others) none h = (line_fits opening before line none h.0, fit_from opening (before ++ line ∷ []) others none h.1)

pub all_fit : (server : SerialServer) (script : ScriptLines) → IsScript script → IsUnnumbered script → AllByRecursion IsFit script.lines
all_fit server script is none = fit_from script.opening [] script.lines none is.follow_on

-- ===== what a line leaves of the links

no_links : (old new : Drill) → new ≡ old → KeepsLinks old new
no_links old new e = record { opened = ap (λ (d : Drill). d.opened) e; last_links = ap (λ (d : Drill). d.last_links) e }

round_keeps : (s : Setting) (links : List ℕ) (d : Drill) → KeepsLinks d (after_round s links d)
round_keeps s [] d = no_links d d refl
round_keeps s (l ∷ links) d =
    then_keep d (after_moves s l d) (after_round s links (after_moves s l d)) (extending_keeps l d (after_moves s l d) (moves_adds s l d)) (round_keeps s links (after_moves s l d))

drain_keeps : (s : Setting) (links : List ℕ) (rounds : ℕ) (old new : Drill) → Drains s links rounds old new → KeepsLinks old new
drain_keeps s links zero old new drains = no_links old new drains.1
drain_keeps s links (suc rounds) old new drains = then_keep old (after_round s links old) new (round_keeps s links old) (drain_keeps s links rounds (after_round s links old) new drains.1)

line_keeps : (s : Setting) (line : Line) (d : Drill) → IsFit line → KeepsLinks d (after_line s line d)
line_keeps s (lines.Cred client cred) d w = record { opened = refl; last_links = refl }
line_keeps s (lines.Call client form prog vers proc args) d w =
    let call : Call = record { prog = prog; vers = vers; proc = proc; cred = cred_of client d; args = args } in
    action_keeps (setting_now s d) (last_link client d) (SubmitCall call form) d
line_keeps s (lines.Up client most) d w = action_keeps (setting_now s d) (last_link client d) (FeedUp most) d
line_keeps s (lines.Down client most) d w = action_keeps (setting_now s d) (last_link client d) (FeedDown most) d
line_keeps s (lines.Work client) d w = action_keeps (setting_now s d) (last_link client d) WorkOnce d
line_keeps s (lines.Tick seconds) d w = record { opened = refl; last_links = refl }
line_keeps s (lines.Forget client number) d w = action_keeps (setting_now s d) (last_link client d) (ForgetCall number) d
line_keeps s (lines.Revoke client number) d w = action_keeps (setting_now s d) (last_link client d) (RevokeCall number) d
line_keeps s (lines.Drop client) d w = action_keeps (setting_now s d) (last_link client d) DropLink d
line_keeps s (lines.Rejoin client) d w = absurd w
line_keeps s (lines.Raw client side bytes) d w = action_keeps (setting_now s d) (last_link client d) (PutRaw side bytes) d
line_keeps s (lines.Grant client credits) d w = action_keeps (setting_now s d) (last_link client d) (GrantCredits credits) d
line_keeps s lines.Drain d w = record { opened = refl; last_links = refl }

made_by_line : (s : Setting) (line : Line) (old new : Drill) → IsFit line → new ≡ after_line s line old → KeepsLinks old new
made_by_line s line old new w e = then_keep old (after_line s line old) new (line_keeps s line old w) (no_links (after_line s line old) new e)

made_keeps : (s : Setting) (clients : ℕ) (line : Line) (old new : Drill) → IsFit line → Makes s clients line old new → KeepsLinks old new
made_keeps s clients (lines.Cred client cred) old new w e = made_by_line s (lines.Cred client cred) old new w e
made_keeps s clients (lines.Call client form prog vers proc args) old new w e = made_by_line s (lines.Call client form prog vers proc args) old new w e
made_keeps s clients (lines.Up client most) old new w e = made_by_line s (lines.Up client most) old new w e
made_keeps s clients (lines.Down client most) old new w e = made_by_line s (lines.Down client most) old new w e
made_keeps s clients (lines.Work client) old new w e = made_by_line s (lines.Work client) old new w e
made_keeps s clients (lines.Tick seconds) old new w e = made_by_line s (lines.Tick seconds) old new w e
made_keeps s clients (lines.Forget client number) old new w e = made_by_line s (lines.Forget client number) old new w e
made_keeps s clients (lines.Revoke client number) old new w e = made_by_line s (lines.Revoke client number) old new w e
made_keeps s clients (lines.Drop client) old new w e = made_by_line s (lines.Drop client) old new w e
made_keeps s clients (lines.Rejoin client) old new w e = absurd w
made_keeps s clients (lines.Raw client side bytes) old new w e = made_by_line s (lines.Raw client side bytes) old new w e
made_keeps s clients (lines.Grant client credits) old new w e = made_by_line s (lines.Grant client credits) old new w e
made_keeps s clients lines.Drain old new w e = drain_keeps (setting_now s old) old.last_links e.0 old new e.1

lines_keep : (s : Setting) (clients : ℕ) (all : List Line) (old new : Drill) → AllByRecursion IsFit all → MakeAll s clients all old new → KeepsLinks old new
lines_keep s clients [] old new w e = no_links old new e
lines_keep s clients (line ∷ others) old new w e = then_keep old e.0 new (made_keeps s clients line old e.0 w.0 e.1) (lines_keep s clients others e.0 new w.1 e.2)

openings_keep_links : (s : Setting) (links : List ℕ) (d : Drill) → KeepsLinks d (after_openings s links d)
openings_keep_links s [] d = no_links d d refl
openings_keep_links s (l ∷ links) d =
    then_keep d (after_opening s l d) (after_openings s links (after_opening s l d)) (extending_keeps l d (after_opening s l d) (opening_adds s l d)) (openings_keep_links s links (after_opening s l d))

opened_links : (server : SerialServer) (opening : Opening) → KeepsLinks (start (setting_of server opening) opening.clients) (opened_drill server opening)
unfolding opened_drill
opened_links server opening = openings_keep_links (setting_of server opening) (links_of opening.clients) (start (setting_of server opening) opening.clients)

-- ===== the links of a script whose clients have no numbers

pub record HasFirstLinks (server : SerialServer) (opening : Opening) (d : Drill) : Type 0 where
  pub setting : setting_now (setting_of server opening) d ≡ setting_of server opening
  pub last_links : d.last_links ≡ links_of opening.clients
  pub links : d.opened ≡ (start (setting_of server opening) opening.clients).opened

at_first : (server : SerialServer) (opening : Opening) (d : Drill) → opening.numbered ≡ false → KeepsLinks (start (setting_of server opening) opening.clients) d → HasFirstLinks server opening d
at_first server opening d none k = record { setting = now_is server opening opening.clients d none k.opened; last_links = k.last_links; links = k.opened }

pub opened_first_links : (server : SerialServer) (opening : Opening) → opening.numbered ≡ false → HasFirstLinks server opening (opened_drill server opening)
opened_first_links server opening none = at_first server opening (opened_drill server opening) none (opened_links server opening)

pub follows_first : (server : SerialServer) (script : ScriptLines) (run : List Mark) → IsScript script → IsUnnumbered script → (f : Follows server script run) → HasFirstLinks server script.opening f.last
follows_first server script run is none f =
    let s = setting_of server script.opening in
    at_first server script.opening f.last none
    (then_keep (start s script.opening.clients) (opened_drill server script.opening) f.last (opened_links server script.opening) (lines_keep s script.opening.clients script.lines (opened_drill server script.opening) f.last (all_fit server script is none) f.makes))

-- ===== so lines act on the first links

pub index_in : (from n i x : ℕ) → x ≡ from + i → slice_index_or (range_with_len from n) i x ≡ x
index_in from zero i x e = refl
index_in from (suc n) zero x e = omega (arith, e)
index_in from (suc n) (suc i) x e = index_in (from + 1) n i x (omega (arith, e))

pub own_last : (clients client : ℕ) (d : Drill) → 1 ≤ client → d.last_links ≡ links_of clients → last_link client d ≡ client
own_last clients client d some is = ap (λ (links : List ℕ). slice_index_or links (client - 1) client) is ∙ index_in 1 clients (client - 1) client (omega (arith, some))

line_is : (s : Setting) (clients : ℕ) (line : Line) (d : Drill) → setting_now s d ≡ s → d.last_links ≡ links_of clients → IsFit line → NamesClient line → after_line s line d ≡ first_line s line d
line_is s clients (lines.Cred client cred) d now last w n = refl
line_is s clients (lines.Call client form prog vers proc args) d now last w n =
    λ i. after_submit (now i) (own_last clients client d n last i) (record { prog = prog; vers = vers; proc = proc; cred = cred_of client d; args = args }) form d
line_is s clients (lines.Up client most) d now last w n = λ i. after_up (now i) (own_last clients client d n last i) most d
line_is s clients (lines.Down client most) d now last w n = λ i. after_down (now i) (own_last clients client d n last i) most d
line_is s clients (lines.Work client) d now last w n = λ i. after_work (now i) (own_last clients client d n last i) d
line_is s clients (lines.Tick seconds) d now last w n = refl
line_is s clients (lines.Forget client number) d now last w n = λ i. after_forget (now i) (own_last clients client d n last i) number d
line_is s clients (lines.Revoke client number) d now last w n = λ i. after_revoke (now i) (own_last clients client d n last i) number d
line_is s clients (lines.Drop client) d now last w n = λ i. after_drop (own_last clients client d n last i) d
line_is s clients (lines.Rejoin client) d now last w n = absurd w
line_is s clients (lines.Raw client side bytes) d now last w n = λ i. after_raw (own_last clients client d n last i) side bytes (is_dropped (own_last clients client d n last i) d.marks) d
line_is s clients (lines.Grant client credits) d now last w n = λ i. after_grant (own_last clients client d n last i) credits d
line_is s clients lines.Drain d now last w n = refl

pub drains_first : (s : Setting) (clients rounds : ℕ) (old new : Drill) → setting_now s old ≡ s → old.last_links ≡ links_of clients →
    Drains (setting_now s old) old.last_links rounds old new → Drains s (links_of clients) rounds old new
drains_first s clients rounds old new now last h =
    subst (λ (t : Setting). Drains t (links_of clients) rounds old new) now (subst (λ (links : List ℕ). Drains (setting_now s old) links rounds old new) last h)

pub first_drains : (s : Setting) (clients rounds : ℕ) (old new : Drill) → setting_now s old ≡ s → old.last_links ≡ links_of clients →
    Drains s (links_of clients) rounds old new → Drains (setting_now s old) old.last_links rounds old new
first_drains s clients rounds old new now last h =
    subst (λ (t : Setting). Drains t old.last_links rounds old new) (sym now) (subst (λ (links : List ℕ). Drains s links rounds old new) (sym last) h)

makes_first : (s : Setting) (clients : ℕ) (line : Line) (old new : Drill) → setting_now s old ≡ s → old.last_links ≡ links_of clients → IsFit line → NamesClient line → Makes s clients line old new → FirstMakes s clients line old new
makes_first s clients (lines.Cred client cred) old new now last w n e = e ∙ line_is s clients (lines.Cred client cred) old now last w n
makes_first s clients (lines.Call client form prog vers proc args) old new now last w n e = e ∙ line_is s clients (lines.Call client form prog vers proc args) old now last w n
makes_first s clients (lines.Up client most) old new now last w n e = e ∙ line_is s clients (lines.Up client most) old now last w n
makes_first s clients (lines.Down client most) old new now last w n e = e ∙ line_is s clients (lines.Down client most) old now last w n
makes_first s clients (lines.Work client) old new now last w n e = e ∙ line_is s clients (lines.Work client) old now last w n
makes_first s clients (lines.Tick seconds) old new now last w n e = e ∙ line_is s clients (lines.Tick seconds) old now last w n
makes_first s clients (lines.Forget client number) old new now last w n e = e ∙ line_is s clients (lines.Forget client number) old now last w n
makes_first s clients (lines.Revoke client number) old new now last w n e = e ∙ line_is s clients (lines.Revoke client number) old now last w n
makes_first s clients (lines.Drop client) old new now last w n e = e ∙ line_is s clients (lines.Drop client) old now last w n
makes_first s clients (lines.Rejoin client) old new now last w n e = e ∙ line_is s clients (lines.Rejoin client) old now last w n
makes_first s clients (lines.Raw client side bytes) old new now last w n e = e ∙ line_is s clients (lines.Raw client side bytes) old now last w n
makes_first s clients (lines.Grant client credits) old new now last w n e = e ∙ line_is s clients (lines.Grant client credits) old now last w n
makes_first s clients lines.Drain old new now last w n e = (e.0, drains_first s clients e.0 old new now last e.1)

first_makes : (s : Setting) (clients : ℕ) (line : Line) (old new : Drill) → setting_now s old ≡ s → old.last_links ≡ links_of clients → IsFit line → NamesClient line → FirstMakes s clients line old new → Makes s clients line old new
first_makes s clients (lines.Cred client cred) old new now last w n e = e ∙ sym (line_is s clients (lines.Cred client cred) old now last w n)
first_makes s clients (lines.Call client form prog vers proc args) old new now last w n e = e ∙ sym (line_is s clients (lines.Call client form prog vers proc args) old now last w n)
first_makes s clients (lines.Up client most) old new now last w n e = e ∙ sym (line_is s clients (lines.Up client most) old now last w n)
first_makes s clients (lines.Down client most) old new now last w n e = e ∙ sym (line_is s clients (lines.Down client most) old now last w n)
first_makes s clients (lines.Work client) old new now last w n e = e ∙ sym (line_is s clients (lines.Work client) old now last w n)
first_makes s clients (lines.Tick seconds) old new now last w n e = e ∙ sym (line_is s clients (lines.Tick seconds) old now last w n)
first_makes s clients (lines.Forget client number) old new now last w n e = e ∙ sym (line_is s clients (lines.Forget client number) old now last w n)
first_makes s clients (lines.Revoke client number) old new now last w n e = e ∙ sym (line_is s clients (lines.Revoke client number) old now last w n)
first_makes s clients (lines.Drop client) old new now last w n e = e ∙ sym (line_is s clients (lines.Drop client) old now last w n)
first_makes s clients (lines.Rejoin client) old new now last w n e = e ∙ sym (line_is s clients (lines.Rejoin client) old now last w n)
first_makes s clients (lines.Raw client side bytes) old new now last w n e = e ∙ sym (line_is s clients (lines.Raw client side bytes) old now last w n)
first_makes s clients (lines.Grant client credits) old new now last w n e = e ∙ sym (line_is s clients (lines.Grant client credits) old now last w n)
first_makes s clients lines.Drain old new now last w n e = (e.0, first_drains s clients e.0 old new now last e.1)

-- ===== of all lines

later : (s : Setting) (clients : ℕ) (line : Line) (old new : Drill) → setting_now s old ≡ s → IsFit line → Makes s clients line old new → old.last_links ≡ links_of clients →
    (setting_now s new ≡ s) × (new.last_links ≡ links_of clients)
later s clients line old new now w e last =
    let keeps = made_keeps s clients line old new w e in
    (same_setting s old new keeps ∙ now, keeps.last_links ∙ last)

pub all_first : (s : Setting) (clients : ℕ) (all : List Line) (old new : Drill) → setting_now s old ≡ s → old.last_links ≡ links_of clients → AllByRecursion IsFit all → AllByRecursion NamesClient all →
    MakeAll s clients all old new → FirstMakeAll s clients all old new
all_first s clients [] old new now last w n e = e
all_first s clients (line ∷ others) old new now last w n e =
    let next = later s clients line old e.0 now w.0 e.1 last in
    (e.0, makes_first s clients line old e.0 now last w.0 n.0 e.1, all_first s clients others e.0 new next.0 next.1 w.1 n.1 e.2)

pub all_makes : (s : Setting) (clients : ℕ) (all : List Line) (old new : Drill) → setting_now s old ≡ s → old.last_links ≡ links_of clients → AllByRecursion IsFit all → AllByRecursion NamesClient all →
    FirstMakeAll s clients all old new → MakeAll s clients all old new
all_makes s clients [] old new now last w n e = e
all_makes s clients (line ∷ others) old new now last w n e =
    let made = first_makes s clients line old e.0 now last w.0 n.0 e.1 in
    let next = later s clients line old e.0 now w.0 made last in
    (e.0, made, all_makes s clients others e.0 new next.0 next.1 w.1 n.1 e.2)

-- from the drill whose links are open, of a script whose clients have no numbers
made_first : (server : SerialServer) (opening : Opening) (all : List Line) (old new : Drill) → HasFirstLinks server opening old → AllByRecursion IsFit all → AllByRecursion NamesClient all →
    MakeAll (setting_of server opening) opening.clients all old new → FirstMakeAll (setting_of server opening) opening.clients all old new
made_first server opening all old new first w n e = all_first (setting_of server opening) opening.clients all old new first.setting first.last_links w n e

pub follows_made : (server : SerialServer) (script : ScriptLines) (run : List Mark) → IsScript script → IsUnnumbered script → (follows : Follows server script run) →
    FirstMakeAll (setting_of server script.opening) script.opening.clients script.lines (opened_drill server script.opening) follows.last
follows_made server script run is none follows =
    made_first server script.opening script.lines (opened_drill server script.opening) follows.last (opened_first_links server script.opening none) (all_fit server script is none)
    (all_name script.opening [] script.lines is.follow_on) follows.makes

-- ===== the servers of such links heard their clients, and do so after lines

line_heard : (o : LinkParameters) (s : Setting) (link : ℕ) (line : Line) (d : Drill) → Heard o link d.marks → Heard o link (first_line s line d).marks
line_heard o s link (lines.Cred client cred) d h = h
line_heard o s link (lines.Call client form prog vers proc args) d h =
    let call : Call = record { prog = prog; vers = vers; proc = proc; cred = cred_of client d; args = args } in
    heard_by_lem o link client d (after_submit s client call form d) (submit_adds s client call form d) h
line_heard o s link (lines.Up client most) d h = heard_by_lem o link client d (after_up s client most d) (up_adds s client most d) h
line_heard o s link (lines.Down client most) d h = heard_by_lem o link client d (after_down s client most d) (down_adds s client most d) h
line_heard o s link (lines.Work client) d h = heard_by_lem o link client d (after_work s client d) (work_adds s client d) h
line_heard o s link (lines.Tick seconds) d h = h
line_heard o s link (lines.Forget client number) d h = heard_by_lem o link client d (after_forget s client number d) (forget_adds s client number d) h
line_heard o s link (lines.Revoke client number) d h = heard_by_lem o link client d (after_revoke s client number d) (revoke_adds s client number d) h
line_heard o s link (lines.Drop client) d h = heard_by_lem o link client d (after_drop client d) (drop_adds client d) h
line_heard o s link (lines.Rejoin client) d h = h
line_heard o s link (lines.Raw client side bytes) d h = heard_by_lem o link client d (after_raw client side bytes (is_dropped client d.marks) d) (raw_adds client side bytes (is_dropped client d.marks) d) h
line_heard o s link (lines.Grant client credits) d h = heard_by_lem o link client d (after_grant client credits d) (grant_adds client credits d) h
line_heard o s link lines.Drain d h = h

round_heard : (o : LinkParameters) (s : Setting) (link : ℕ) (links : List ℕ) (d : Drill) → Heard o link d.marks → Heard o link (after_round s links d).marks
round_heard o s link [] d h = h
round_heard o s link (l ∷ links) d h = round_heard o s link links (after_moves s l d) (heard_by_lem o link l d (after_moves s l d) (moves_adds s l d) h)

pub drain_heard : (o : LinkParameters) (s : Setting) (link : ℕ) (links : List ℕ) (rounds : ℕ) (old new : Drill) → Drains s links rounds old new → Heard o link old.marks → Heard o link new.marks
drain_heard o s link links zero old new drains h = subst (λ (d : Drill). Heard o link d.marks) (sym drains.1) h
drain_heard o s link links (suc rounds) old new drains h = drain_heard o s link links rounds (after_round s links old) new drains.1 (round_heard o s link links old h)

made_heard : (o : LinkParameters) (s : Setting) (clients link : ℕ) (line : Line) (old new : Drill) → FirstMakes s clients line old new → Heard o link old.marks → Heard o link new.marks
made_heard o s clients link (lines.Cred client cred) old new e h = subst (λ (d : Drill). Heard o link d.marks) (sym e) (line_heard o s link (lines.Cred client cred) old h)
made_heard o s clients link (lines.Call client form prog vers proc args) old new e h = subst (λ (d : Drill). Heard o link d.marks) (sym e) (line_heard o s link (lines.Call client form prog vers proc args) old h)
made_heard o s clients link (lines.Up client most) old new e h = subst (λ (d : Drill). Heard o link d.marks) (sym e) (line_heard o s link (lines.Up client most) old h)
made_heard o s clients link (lines.Down client most) old new e h = subst (λ (d : Drill). Heard o link d.marks) (sym e) (line_heard o s link (lines.Down client most) old h)
made_heard o s clients link (lines.Work client) old new e h = subst (λ (d : Drill). Heard o link d.marks) (sym e) (line_heard o s link (lines.Work client) old h)
made_heard o s clients link (lines.Tick seconds) old new e h = subst (λ (d : Drill). Heard o link d.marks) (sym e) (line_heard o s link (lines.Tick seconds) old h)
made_heard o s clients link (lines.Forget client number) old new e h = subst (λ (d : Drill). Heard o link d.marks) (sym e) (line_heard o s link (lines.Forget client number) old h)
made_heard o s clients link (lines.Revoke client number) old new e h = subst (λ (d : Drill). Heard o link d.marks) (sym e) (line_heard o s link (lines.Revoke client number) old h)
made_heard o s clients link (lines.Drop client) old new e h = subst (λ (d : Drill). Heard o link d.marks) (sym e) (line_heard o s link (lines.Drop client) old h)
made_heard o s clients link (lines.Rejoin client) old new e h = subst (λ (d : Drill). Heard o link d.marks) (sym e) (line_heard o s link (lines.Rejoin client) old h)
made_heard o s clients link (lines.Raw client side bytes) old new e h = subst (λ (d : Drill). Heard o link d.marks) (sym e) (line_heard o s link (lines.Raw client side bytes) old h)
made_heard o s clients link (lines.Grant client credits) old new e h = subst (λ (d : Drill). Heard o link d.marks) (sym e) (line_heard o s link (lines.Grant client credits) old h)
made_heard o s clients link lines.Drain old new e h = drain_heard o s link (links_of clients) e.0 old new e.1 h

pub lines_heard : (o : LinkParameters) (s : Setting) (clients link : ℕ) (all : List Line) (old new : Drill) → FirstMakeAll s clients all old new → Heard o link old.marks → Heard o link new.marks
lines_heard o s clients link [] old new e h = subst (λ (d : Drill). Heard o link d.marks) (sym e) h
lines_heard o s clients link (line ∷ others) old new e h = lines_heard o s clients link others e.0 new e.2 (made_heard o s clients link line old e.0 e.1 h)

pub opened_heard : (server : SerialServer) (script : ScriptLines) → IsScript script → IsUnnumbered script → (link : ℕ) → IsClient script link → Heard (parameters_of script.opening link) link (opened_drill server script.opening).marks
opened_heard server script is none link within = ((open_drill server script is).links link within.0 within.1).heard
