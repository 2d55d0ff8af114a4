-- The opcode of a segment that is read is supported.
use Rattle.std.proofs.Common.{◌≡◌, ℕ, Bool, true, false, not, ◌||◌, ◌&&◌, eqb, ltb, cond, List, Option, Some, None, Result, Ok, Err, refl, sym, ap, subst, ◌∙◌}
use Rattle.nr_wire.specs.Hello.{value_unless}
use Rattle.nr_wire.specs.Segment.{Segment, segment_of, frame_reason, segment_by_form, flaw_by, ddp_header_len, is_supported, is_tagged, is_tagged_opcode, is_untagged_opcode, is_of_other_form, opcode_of, queue_of, ddp_version, rdmap_version, ulpdu_len}
use Rattle.nr_wire.specs.Segment.Segment.{Untagged}
use Rattle.nr_wire.specs.Constants.{OPCODE_SEND_INVALIDATE, REASON_OPCODE}
use Rattle.nr_link.specs.Ending.{is_not_taken, segment_taken}

if_none_lem : (b : Bool) (r : ℕ) (o : Option ℕ) → cond b (Some r) o ≡ None → (b ≡ false) × (o ≡ None)
if_none_lem true r o is = absurd cc
if_none_lem false r o is = (refl, is)

not_not : (b : Bool) → not b ≡ false → b ≡ true
not_not true is = refl
not_not false is = absurd cc

no_reason : (size : ℕ) (tagged : Bool) (ddp rdmap opcode queue : ℕ) → flaw_by size tagged ddp rdmap opcode queue ≡ None → (is_supported opcode ≡ true) × (is_of_other_form tagged opcode ≡ false)
no_reason size tagged ddp rdmap opcode queue is =
    let a = if_none_lem (ltb size (ddp_header_len tagged)) 5 _ is in
    let b = if_none_lem (not (eqb ddp 1)) 6 _ a.1 in
    let c = if_none_lem (not (eqb rdmap 1)) 7 _ b.1 in
    let d = if_none_lem (not (is_supported opcode)) 8 _ c.1 in
    let e = if_none_lem (is_of_other_form tagged opcode) 9 _ d.1 in
    (not_not (is_supported opcode) d.0, e.0)

untagged_of : (a b : Bool) → (a || b) ≡ true → a ≡ false → b ≡ true
untagged_of true b is none = absurd cc
untagged_of false b is none = is

value_is_lem : (o : Option ℕ) (value segment : Segment) → value_unless o value ≡ Ok segment → (o ≡ None) × (value ≡ segment)
value_is_lem None value segment is = (refl, (let h : value ≡ segment = cc in h))
value_is_lem (Some reason) value segment is = absurd cc

-- an untagged segment has an untagged opcode, and isn't of a Send with Invalidate
pub record IsSupportedBy (segment : Segment) : Type 0 where
  pub untagged : (last : Bool) (opcode w queue msn offset : ℕ) (payload : List ℕ) → segment ≡ Untagged last opcode w queue msn offset payload → is_untagged_opcode opcode ≡ true
  pub plain : (last : Bool) (opcode w queue msn offset : ℕ) (payload : List ℕ) → segment ≡ Untagged last opcode w queue msn offset payload → eqb opcode OPCODE_SEND_INVALIDATE ≡ false

by_form : (tagged : Bool) (frame : List ℕ) → is_supported (opcode_of frame) ≡ true → is_of_other_form tagged (opcode_of frame) ≡ false → eqb (opcode_of frame) OPCODE_SEND_INVALIDATE ≡ false → IsSupportedBy (segment_by_form tagged frame)
by_form true frame supported form other = record { untagged = λ last opcode w queue msn offset payload is. absurd cc; plain = λ last opcode w queue msn offset payload is. absurd cc }
by_form false frame supported form other = record {
  untagged = λ last opcode w queue msn offset payload is.
      let same : opcode_of frame ≡ opcode = cc in
      ap is_untagged_opcode (sym same) ∙ untagged_of (is_tagged_opcode (opcode_of frame)) (is_untagged_opcode (opcode_of frame)) supported form;
  plain = λ last opcode w queue msn offset payload is.
      let same : opcode_of frame ≡ opcode = cc in
      ap (λ (n : ℕ). eqb n OPCODE_SEND_INVALIDATE) (sym same) ∙ other;
}

taken_parts : (b : Bool) (r : Result Segment ℕ) (segment : Segment) → cond b (Err REASON_OPCODE) r ≡ Ok segment → (b ≡ false) × (r ≡ Ok segment)
taken_parts true r segment is = absurd cc
taken_parts false r segment is = (refl, is)

not_four : (b : Bool) → (b && true) ≡ false → b ≡ false
not_four true is = absurd cc
not_four false is = refl

pub supported : (frame : List ℕ) (segment : Segment) → segment_taken false frame ≡ Ok segment → IsSupportedBy segment
unfolding segment_taken segment_of frame_reason
supported frame segment is =
    let taken = taken_parts (is_not_taken false frame (segment_of frame)) (segment_of frame) segment is in
    let other : eqb (opcode_of frame) OPCODE_SEND_INVALIDATE ≡ false = not_four (eqb (opcode_of frame) OPCODE_SEND_INVALIDATE) (ap (is_not_taken false frame) (sym taken.1) ∙ taken.0) in
    let v : (flaw_by (ulpdu_len frame) (is_tagged frame) (ddp_version frame) (rdmap_version frame) (opcode_of frame) (queue_of frame) ≡ None) × (segment_by_form (is_tagged frame) frame ≡ segment) =
    value_is_lem (flaw_by (ulpdu_len frame) (is_tagged frame) (ddp_version frame) (rdmap_version frame) (opcode_of frame) (queue_of frame)) (segment_by_form (is_tagged frame) frame) segment taken.1 in
    let fine : (is_supported (opcode_of frame) ≡ true) × (is_of_other_form (is_tagged frame) (opcode_of frame) ≡ false) = no_reason (ulpdu_len frame) (is_tagged frame) (ddp_version frame) (rdmap_version frame) (opcode_of frame) (queue_of frame) v.0 in
    subst IsSupportedBy v.1 (by_form (is_tagged frame) frame fine.0 fine.1 other)
