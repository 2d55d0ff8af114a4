-- The STag that a message names for an offer is one of those that its call was given.
use Rattle.std.proofs.Common.{◌≡◌, ℕ, Bool, true, false, eqb, List, [], ◌∷◌, Option, None, Some, refl, sym, ap, ◌∙◌, eq-eqb}
use Rattle.std.specs.List.{list_any, flat_map}
use Rattle.nr_regions.specs.declared.right.Right.{Right}
use Rattle.nr_reduce.specs.declared.outline.Plan.{Plan}
use Rattle.nr_reduce.specs.Holds.{no_segments}
use Rattle.nr_reduce.specs.Plans.{Buffer, buffers, buffer_if, has_segment, entries_from, read_list, write_list, reply_chunk, lists_of, segments_from, read_stag, write_stag, reply_stag}
use Rattle.nr_reduce.specs.ClientState.{OutstandingCall}
use Rattle.nr_reduce.specs.ClientMessages.{is_given}
use Rattle.nr_reduce.specs.Server.{first_handle, or_handle, read_handle, named_stag}
use Rattle.nr_laws.proofs.DistinctKeys.{or_left_lem, any_left, any_right}

abbrev IsAmong : ℕ → List Buffer → Type 0
IsAmong stag bs = list_any (λ b. eqb b.stag stag) bs ≡ true

one_among : (b : Bool) (stag named : ℕ) (right : Right) (bytes : List ℕ) → b ≡ true → stag ≡ named → IsAmong named (buffer_if b stag right bytes)
one_among true stag named right bytes some same = or_left_lem (eqb stag named) false (eq-eqb stag named same)
one_among false stag named right bytes some same = absurd cc

-- ---- The three lists

-- the first handle of a list is the STag of its region, which is there
record FirstOf (b : Bool) (stag named : ℕ) : Type 0 where
  some : b ≡ true
  same : stag ≡ named

read_first : (stag named : ℕ) (at : Option ℕ) (lengths : List ℕ) (p : Plan) → p.read ≡ lengths → read_handle (read_list stag p at) ≡ Some named → FirstOf (has_segment (Some lengths)) (read_stag stag p) named
read_first stag named None lengths p is e = absurd cc
read_first stag named (Some at) lengths p is e = by lengths (ap (λ (ns : List ℕ). read_handle (entries_from at (read_stag stag p) 0 ns)) (sym is) ∙ e)
  where
    by : (ns : List ℕ) → read_handle (entries_from at stag 0 ns) ≡ Some named → FirstOf (has_segment (Some ns)) stag named
    by [] e = absurd cc
    by (n ∷ ns) e = record { some = refl; same = (let s : stag ≡ named = cc in s) }

segments_first : (stag named : ℕ) (lengths : List ℕ) → first_handle (segments_from stag 0 lengths) ≡ Some named → FirstOf (has_segment (Some lengths)) stag named
segments_first stag named [] e = absurd cc
segments_first stag named (n ∷ ns) e = record { some = refl; same = (let s : stag ≡ named = cc in s) }

write_first : (stag named : ℕ) (write : Option (List ℕ)) → first_handle (flat_map (λ chunk. chunk) (write_list stag write)) ≡ Some named → FirstOf (has_segment write) stag named
write_first stag named None e = absurd cc
write_first stag named (Some []) e = absurd cc
write_first stag named (Some (n ∷ ns)) e = record { some = refl; same = (let s : stag ≡ named = cc in s) }

reply_first : (stag named : ℕ) (reply : Option (List ℕ)) → first_handle (no_segments (reply_chunk stag reply)) ≡ Some named → FirstOf (has_segment reply) stag named
reply_first stag named None e = absurd cc
reply_first stag named (Some lengths) e = segments_first stag named lengths e

-- ---- Of an offer

either_handle : {X : Type 0} (a b : Option ℕ) (stag : ℕ) → or_handle a b ≡ Some stag → (a ≡ Some stag → X) → (b ≡ Some stag → X) → X
either_handle None b stag e first second = second e
either_handle (Some s) b stag e first second = first e

pub named_given : (stag named : ℕ) (p : Plan) → named_stag (lists_of stag p) ≡ Some named → list_any (λ b. eqb b.stag named) (buffers stag p) ≡ true
unfolding named_stag lists_of buffers
named_given stag named p e =
    either_handle (read_handle (read_list stag p p.read_at)) (or_handle (first_handle (flat_map (λ chunk. chunk) (write_list (write_stag stag p) p.write))) (first_handle (no_segments (reply_chunk (reply_stag stag p) p.reply)))) named e
    (λ own. (let f = read_first stag named p.read_at p.read p refl own in any_left (λ b. eqb b.stag named) (buffer_if (has_segment (Some p.read)) _ _ _) _ (one_among (has_segment (Some p.read)) (read_stag stag p) named _ _ f.some f.same)))
    (λ later.
    any_right (λ b. eqb b.stag named) (buffer_if (has_segment (Some p.read)) _ _ _) _
    (either_handle (first_handle (flat_map (λ chunk. chunk) (write_list (write_stag stag p) p.write))) (first_handle (no_segments (reply_chunk (reply_stag stag p) p.reply))) named later
    (λ own. (let f = write_first (write_stag stag p) named p.write own in any_left (λ b. eqb b.stag named) (buffer_if (has_segment p.write) _ _ _) _ (one_among (has_segment p.write) (write_stag stag p) named _ _ f.some f.same)))
    (λ own. (let f = reply_first (reply_stag stag p) named p.reply own in any_right (λ b. eqb b.stag named) (buffer_if (has_segment p.write) _ _ _) _ (one_among (has_segment p.reply) (reply_stag stag p) named _ _ f.some f.same)))))

pub call_given : (o : OutstandingCall) (named : ℕ) → named_stag (lists_of o.stag o.plan) ≡ Some named → is_given o named ≡ true
call_given o named e = named_given o.stag named o.plan e
