-- Entries of reads, calls and sinks as the definitions of a run see them.
use Rattle.std.proofs.Common.{◌≡◌, ℕ, Bool, ◌||◌, ◌&&◌, eqb, List, [], ◌∷◌, map, refl, ap}
use Rattle.std.specs.List.{list_any}
use Rattle.nr_responder.specs.declared.call.Pending.{Pending}
use Rattle.nr_responder.specs.declared.call.ReadEntry.{ReadEntry}
use Rattle.nr_responder.specs.Views.{call_view, read_view}

pub reads_view : (number : ℕ) (reads : List ReadEntry) → list_any (λ r. eqb r.number number) (map read_view reads) ≡ list_any (λ r. eqb r.number number) reads
reads_view number [] = refl
reads_view number (r ∷ reads) = ap (λ (b : Bool). eqb r.number number || b) (reads_view number reads)

pub reads_at_view : (number position : ℕ) (reads : List ReadEntry) → list_any (λ r. eqb r.number number && eqb r.position position) (map read_view reads) ≡ list_any (λ r. eqb r.number number && eqb r.position position) reads
reads_at_view number position [] = refl
reads_at_view number position (r ∷ reads) = ap (λ (b : Bool). (eqb r.number number && eqb r.position position) || b) (reads_at_view number position reads)

pub numbers_view : (number : ℕ) (calls : List Pending) → list_any (λ c. eqb c.number number) (map call_view calls) ≡ list_any (λ c. eqb c.number number) calls
numbers_view number [] = refl
numbers_view number (c ∷ calls) = ap (λ (b : Bool). eqb c.number number || b) (numbers_view number calls)
