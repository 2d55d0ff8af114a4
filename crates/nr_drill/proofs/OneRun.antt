-- A script has one run at most; and what is made by lines and by one more is made by all of them.
use Rattle.std.proofs.Common.{◌≡◌, ℕ, zero, suc, List, [], ◌∷◌, ◌++◌, refl, sym, ap, ◌∙◌, subst}
use Rattle.nr_reduce.specs.declared.mark.Mark.{Mark}
use Rattle.nr_script.specs.declared.script.Line.{Line}
use Rattle.nr_script.specs.declared.script.Line.TheVariants as lines
use Rattle.nr_script.specs.Script.{ScriptLines}
use Rattle.nr_drill.specs.Drill.{SerialServer, Setting, Drill, after_round, setting_now}
use Rattle.nr_drill.specs.Follows.{Drains, Makes, MakeAll, Follows, setting_of, opened_drill}

drains_once : (s : Setting) (links : List ℕ) (n m : ℕ) (old one two : Drill) → Drains s links n old one → Drains s links m old two → one ≡ two
drains_once s links zero zero old one two h g = h.1 ∙ sym g.1
drains_once s links zero (suc m) old one two h g = let e = sym h.0 ∙ g.0 in absurd cc
drains_once s links (suc n) zero old one two h g = let e = sym g.0 ∙ h.0 in absurd cc
drains_once s links (suc n) (suc m) old one two h g = drains_once s links n m (after_round s links old) one two h.1 g.1

makes_once : (s : Setting) (clients : ℕ) (line : Line) (old one two : Drill) → Makes s clients line old one → Makes s clients line old two → one ≡ two
makes_once s clients (lines.Cred client cred) old one two h g = h ∙ sym g
makes_once s clients (lines.Call client form prog vers proc args) old one two h g = h ∙ sym g
makes_once s clients (lines.Up client most) old one two h g = h ∙ sym g
makes_once s clients (lines.Down client most) old one two h g = h ∙ sym g
makes_once s clients (lines.Work client) old one two h g = h ∙ sym g
makes_once s clients (lines.Tick seconds) old one two h g = h ∙ sym g
makes_once s clients (lines.Forget client number) old one two h g = h ∙ sym g
makes_once s clients (lines.Revoke client number) old one two h g = h ∙ sym g
makes_once s clients (lines.Drop client) old one two h g = h ∙ sym g
makes_once s clients (lines.Rejoin client) old one two h g = h ∙ sym g
makes_once s clients (lines.Raw client side bytes) old one two h g = h ∙ sym g
makes_once s clients (lines.Grant client credits) old one two h g = h ∙ sym g
makes_once s clients lines.Drain old one two h g = drains_once (setting_now s old) old.last_links h.0 g.0 old one two h.1 g.1

pub made_once : (s : Setting) (clients : ℕ) (all : List Line) (old one two : Drill) → MakeAll s clients all old one → MakeAll s clients all old two → one ≡ two
made_once s clients [] old one two h g = h ∙ sym g
made_once s clients (line ∷ all) old one two (mid, h, k) (other, g, l) =
    let same : mid ≡ other = makes_once s clients line old mid other h g in
    made_once s clients all mid one two k (subst (λ (d : Drill). MakeAll s clients all d two) (sym same) l)

pub one_run : (server : SerialServer) (script : ScriptLines) (run other : List Mark) → Follows server script run → Follows server script other → run ≡ other
one_run server script run other h g =
    let same : h.last ≡ g.last = made_once (setting_of server script.opening) script.opening.clients script.lines (opened_drill server script.opening) h.last g.last h.makes g.makes in
    h.marks_are ∙ ap (λ (d : Drill). d.marks) same ∙ sym g.marks_are

pub last_made : (s : Setting) (clients : ℕ) (before : List Line) (line : Line) (old mid new : Drill) → MakeAll s clients before old mid → Makes s clients line mid new → MakeAll s clients (before ++ line ∷ []) old new
last_made s clients [] line old mid new made is = (new, subst (λ (d : Drill). Makes s clients line d new) made is, refl)
last_made s clients (first ∷ before) line old mid new made is = (made.0, made.1, last_made s clients before line made.0 mid new made.2 is)
