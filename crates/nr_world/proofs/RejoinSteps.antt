-- A line that has a client begin its next link.
use Rattle.std.specs.Prelude.{◌-◌, is_some, slice_index_or}
use Rattle.std.proofs.Common.{◌≡◌, ℕ, Bool, true, false, length, Option, None, Some, refl, ap, sym, subst, ◌∙◌}
use Rattle.nr_wire.specs.declared.hello.Side.TheVariants.{Initiator}
use Rattle.nr_link.specs.declared.end.End.{End}
use Rattle.nr_reduce.specs.History.{is_dropped}
use Rattle.nr_reduce.specs.Run.{client, end_of_side}
use Rattle.nr_tree.specs.Tree.{Tree}
use Rattle.nr_texts.specs.declared.opening.Opening.{Opening}
use Rattle.nr_drill.specs.Drill.{Setting, Drill, last_link, setting_now, after_drop, after_drop_if, after_leaving, after_rejoin, after_rejoin_on}
use Rattle.nr_world.specs.DrillLinkState.{DrillLinkState}
use Rattle.nr_world.specs.LinkStands.{LinkStands}
use Rattle.nr_world.specs.Steps.{MayLeave}
use Rattle.nr_world.specs.declared.world.World.{World}
use Rattle.nr_world.specs.private.Stands.{BeginsLink, MakesLine, Steps, WorldStands, drill_setting}
use Rattle.nr_world.specs.private.Within.{IsClient}
use Rattle.nr_world.proofs.Stands.{link_of_client}
use Rattle.nr_script.specs.declared.script.Line.TheVariants as lines

-- the client's end, by the setting and the marks
abbrev EndOf : Setting → ℕ → Drill → Option End
EndOf s c d = (client ((setting_now s d).opened (last_link c d)) (last_link c d) d.marks).ended

ended_stays : (s : Setting) (c : ℕ) (d : Drill) → is_some (EndOf s c d) ≡ true → after_rejoin s c d ≡ d
unfolding after_rejoin
ended_stays s c d e = by (EndOf s c d) e
  where
    by : (ended : Option End) → is_some ended ≡ true → after_rejoin_on s c (last_link c d) ended d ≡ d
    by (Some end) e = refl
    by None e = absurd cc

leaves_if : (s : Setting) (c : ℕ) (d : Drill) (dropped : Bool) → EndOf s c d ≡ None → is_dropped (last_link c d) d.marks ≡ dropped → after_rejoin s c d ≡ after_leaving s c (last_link c d) (after_drop_if dropped (last_link c d) d)
unfolding after_rejoin
leaves_if s c d dropped live is =
    ap (λ (ended : Option End). after_rejoin_on s c (last_link c d) ended d) live ∙ ap (λ (b : Bool). after_leaving s c (last_link c d) (after_drop_if b (last_link c d) d)) is

-- what the code reads of the client and of the link
abbrev ReadsEnd : DrillLinkState → Option End → Type 0
ReadsEnd v end = (s : Setting) (link : ℕ) (d : Drill) → LinkStands s link d v → end ≡ end_of_side (s.opened link) link Initiator d.marks

abbrev ReadsDropped : DrillLinkState → Bool → Type 0
ReadsDropped v dropped = (s : Setting) (link : ℕ) (d : Drill) → LinkStands s link d v → dropped ≡ is_dropped link d.marks

end_read : (tree : Tree) (opening : Opening) (d : Drill) (c : ℕ) (w : World) (v : DrillLinkState) (end : Option End) → v ≡ slice_index_or w.links.items (c - 1) v → IsClient (length w.links.items) c → ReadsEnd v end → WorldStands tree opening d w →
    end ≡ EndOf (drill_setting tree opening) c d
unfolding end_of_side
end_read tree opening d c w v end e is reads h =
    let t : Setting = setting_now (drill_setting tree opening) d in
    reads t (last_link c d) d (link_of_client tree opening t opening.clients d w c v h.opened is e)

dropped_read : (tree : Tree) (opening : Opening) (d : Drill) (c : ℕ) (w : World) (v : DrillLinkState) (dropped : Bool) → v ≡ slice_index_or w.links.items (c - 1) v → IsClient (length w.links.items) c → ReadsDropped v dropped → WorldStands tree opening d w →
    is_dropped (last_link c d) d.marks ≡ dropped
dropped_read tree opening d c w v dropped e is reads h =
    let t : Setting = setting_now (drill_setting tree opening) d in
    sym (reads t (last_link c d) d (link_of_client tree opening t opening.clients d w c v h.opened is e))

-- nothing happens if the client has ended
pub rejoin_ended : (c : ℕ) (w : World) (v : DrillLinkState) (end : Option End) → v ≡ slice_index_or w.links.items (c - 1) v → IsClient (length w.links.items) c → ReadsEnd v end → is_some end ≡ true → MakesLine (lines.Rejoin c) w w
rejoin_ended c w v end e is reads ended tree opening d h may =
    let s : Setting = drill_setting tree opening in
    let same : after_rejoin s c d ≡ d = ended_stays s c d (ap (λ (o : Option End). is_some o) (sym (end_read tree opening d c w v end e is reads h)) ∙ ended) in
    (d, sym same, h)

-- the link is dropped already
pub rejoin_dropped : (c : ℕ) (w n : World) (v u : DrillLinkState) (end : Option End) (dropped : Bool) → v ≡ slice_index_or w.links.items (c - 1) v → u ≡ slice_index_or w.links.items (c - 1) u → IsClient (length w.links.items) c → ReadsEnd v end → end ≡ None → ReadsDropped u dropped →
    dropped ≡ true → BeginsLink c w n → MakesLine (lines.Rejoin c) w n
rejoin_dropped c w n v u end dropped e f is reads live reads_dropped gone begins tree opening d h may =
    let s : Setting = drill_setting tree opening in
    let link : ℕ = last_link c d in
    let none : EndOf s c d ≡ None = sym (end_read tree opening d c w v end e is reads h) ∙ live in
    let there : is_dropped link d.marks ≡ true = dropped_read tree opening d c w u dropped f is reads_dropped h ∙ gone in
    let leave : MayLeave ((setting_now s d).opened link) link d.marks = subst (λ (b : Bool). MayLeave ((setting_now s d).opened link) link (after_drop_if b link d).marks) there (may h.opened.replies none) in
    (after_leaving s c link d, sym (leaves_if s c d true none there), begins tree opening d h leave)

-- the link is dropped first
pub rejoin_drops : (c : ℕ) (w m n : World) (v u : DrillLinkState) (end : Option End) (dropped : Bool) → v ≡ slice_index_or w.links.items (c - 1) v → u ≡ slice_index_or w.links.items (c - 1) u → IsClient (length w.links.items) c → ReadsEnd v end → end ≡ None → ReadsDropped u dropped →
    dropped ≡ false → Steps (λ s d. after_drop (last_link c d) d) w m → BeginsLink c m n → MakesLine (lines.Rejoin c) w n
rejoin_drops c w m n v u end dropped e f is reads live reads_dropped stands drops begins tree opening d h may =
    let s : Setting = drill_setting tree opening in
    let link : ℕ = last_link c d in
    let none : EndOf s c d ≡ None = sym (end_read tree opening d c w v end e is reads h) ∙ live in
    let there : is_dropped link d.marks ≡ false = dropped_read tree opening d c w u dropped f is reads_dropped h ∙ stands in
    let leave : MayLeave ((setting_now s d).opened link) link (after_drop link d).marks = subst (λ (b : Bool). MayLeave ((setting_now s d).opened link) link (after_drop_if b link d).marks) there (may h.opened.replies none) in
    (after_leaving s c link (after_drop link d), sym (leaves_if s c d false none there), begins tree opening (after_drop link d) (drops tree opening d h) leave)
