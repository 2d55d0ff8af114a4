-- The regions of an accepted call offer what the lists of its message say.
use Rattle.std.proofs.Common.{◌≡◌, ℕ, ◌+◌, ◌^◌, ◌≤◌, ◌<◌, Bool, true, false, List, [], ◌∷◌, ◌++◌, length, map, replicate, Option, None, Some, Ok, refl, sym, subst, arith, inl}
use Rattle.std.specs.List.{AllByRecursion}
use Rattle.std.proofs.lemmas.List.{length-replicate, map-append}
use Rattle.nr_xdr.specs.Item.{IsBytes}
use Rattle.nr_regions.specs.declared.right.Right.{Right}
use Rattle.nr_regions.specs.declared.right.Right.TheVariants.{Fetch, Fill}
use Rattle.nr_link.specs.Agreement.{IsSendLimit}
use Rattle.nr_reduce.specs.declared.call.Form.{Form}
use Rattle.nr_reduce.specs.declared.outline.Plan.{Plan}
use Rattle.nr_reduce.specs.OfferedRegions.{Region}
use Rattle.nr_reduce.specs.Plans.{Buffer, buffer_if, buffers, has_segment, total, read_stag, write_stag, reply_stag, segments_from, entries_from, read_list, write_list, reply_chunk, lists_of, plan_of, regions_needed, call_message, HasWordPosition}
use Rattle.nr_reduce.specs.Holds.{first_chunk, no_segments}
use Rattle.nr_reduce.specs.ChunkBytes.{lists_by}
use Rattle.nr_reduce.specs.ClientState.{region_of}
use Rattle.nr_reduce.proofs.WrittenChunks.{added_up, sum_added}
use Rattle.nr_laws.proofs.CallWords.{call_words_lem}
use Rattle.nr_laws.proofs.ConveyedCalls.{planned_fits, plan_reads}
use Rattle.nr_laws.proofs.ConveyedForms.{planned_chunk}
use Rattle.nr_laws.proofs.OfferedAccesses.{IsOffered, PartOffered, EntryOffered, ListsOffered, SendOffered, offers_left, offers_right, offered_less}

-- ---- The segments of one region

parts_offered : (regions : List Region) (xid stag size at : ℕ) (ns : List ℕ) → IsOffered xid stag Fill size regions → at + added_up ns ≤ size → AllByRecursion (PartOffered regions xid) (segments_from stag at ns)
parts_offered regions xid stag size at [] h le = tt
parts_offered regions xid stag size at (n ∷ ns) h le =
    (offered_less xid stag Fill (at + n) size regions (omega (arith, le)) h, parts_offered regions xid stag size (at + n) ns h (omega (arith, le)))

entries_offered : (regions : List Region) (xid position stag size at : ℕ) (ns : List ℕ) → IsOffered xid stag Fetch size regions → at + added_up ns ≤ size → AllByRecursion (EntryOffered regions xid) (entries_from position stag at ns)
entries_offered regions xid position stag size at [] h le = tt
entries_offered regions xid position stag size at (n ∷ ns) h le =
    (offered_less xid stag Fetch (at + n) size regions (omega (arith, le)) h, entries_offered regions xid position stag size (at + n) ns h (omega (arith, le)))

write_offered : (regions : List Region) (xid stag : ℕ) (w : Option (List ℕ)) → (has_segment w ≡ true → IsOffered xid stag Fill (total w) regions) → AllByRecursion (PartOffered regions xid) (first_chunk (write_list stag w))
write_offered regions xid stag None h = tt
write_offered regions xid stag (Some []) h = tt
write_offered regions xid stag (Some (n ∷ ns)) h = parts_offered regions xid stag (total (Some (n ∷ ns))) 0 (n ∷ ns) (h refl) (omega (arith, sum_added (n ∷ ns)))

reply_offered : (regions : List Region) (xid stag : ℕ) (r : Option (List ℕ)) → (has_segment r ≡ true → IsOffered xid stag Fill (total r) regions) → AllByRecursion (PartOffered regions xid) (no_segments (reply_chunk stag r))
reply_offered regions xid stag None h = tt
reply_offered regions xid stag (Some []) h = tt
reply_offered regions xid stag (Some (n ∷ ns)) h = parts_offered regions xid stag (total (Some (n ∷ ns))) 0 (n ∷ ns) (h refl) (omega (arith, sum_added (n ∷ ns)))

read_offered : (regions : List Region) (xid stag : ℕ) (p : Plan) (at : Option ℕ) (ns : List ℕ) → p.read ≡ ns → added_up ns ≤ length p.region → (has_segment (Some ns) ≡ true → IsOffered xid stag Fetch (length p.region) regions)
    → AllByRecursion (EntryOffered regions xid) (read_list stag p at)
read_offered regions xid stag p None ns is le h = tt
read_offered regions xid stag p (Some position) [] is le h = subst (λ (ms : List ℕ). AllByRecursion (EntryOffered regions xid) (entries_from position stag 0 ms)) (sym is) tt
read_offered regions xid stag p (Some position) (n ∷ ns) is le h =
    subst (λ (ms : List ℕ). AllByRecursion (EntryOffered regions xid) (entries_from position stag 0 ms)) (sym is) (entries_offered regions xid position stag (length p.region) 0 (n ∷ ns) (h refl) (omega (arith, le)))

-- ---- The regions of a plan

buffer_offered : (xid place stag : ℕ) (right : Right) (bytes : List ℕ) (b : Bool) → b ≡ true → IsOffered xid stag right (length bytes) (map (region_of xid place) (buffer_if b stag right bytes))
buffer_offered xid place stag right bytes true e = inl (record { own_stag = refl; own_call = refl; own_right = refl; room = omega arith })
buffer_offered xid place stag right bytes false e = absurd cc

offered_left : (xid place stag : ℕ) (right : Right) (n : ℕ) (xs ys : List Buffer) → IsOffered xid stag right n (map (region_of xid place) xs) → IsOffered xid stag right n (map (region_of xid place) (xs ++ ys))
offered_left xid place stag right n xs ys h =
    subst (IsOffered xid stag right n) (sym (map-append (region_of xid place) xs ys)) (offers_left (map (region_of xid place) xs) (map (region_of xid place) ys) xid stag right n h)

offered_right : (xid place stag : ℕ) (right : Right) (n : ℕ) (xs ys : List Buffer) → IsOffered xid stag right n (map (region_of xid place) ys) → IsOffered xid stag right n (map (region_of xid place) (xs ++ ys))
offered_right xid place stag right n xs ys h =
    subst (IsOffered xid stag right n) (sym (map-append (region_of xid place) xs ys)) (offers_right (map (region_of xid place) xs) (map (region_of xid place) ys) xid stag right n h)

filled_offered : (xid place stag n : ℕ) (b : Bool) → b ≡ true → IsOffered xid stag Fill n (map (region_of xid place) (buffer_if b stag Fill (replicate n 0)))
filled_offered xid place stag n b e =
    subst (λ (m : ℕ). IsOffered xid stag Fill m (map (region_of xid place) (buffer_if b stag Fill (replicate n 0)))) (length-replicate {A = ℕ} n 0) (buffer_offered xid place stag Fill (replicate n 0) b e)

pub plan_offered : (xid place stag : ℕ) (p : Plan) → length p.region ≡ added_up p.read → ListsOffered (map (region_of xid place) (buffers stag p)) xid (lists_of stag p)
unfolding buffers lists_of
plan_offered xid place stag p size =
    let read = buffer_if (has_segment (Some p.read)) (read_stag stag p) Fetch p.region in
    let write = buffer_if (has_segment p.write) (write_stag stag p) Fill (replicate (total p.write) 0) in
    let reply = buffer_if (has_segment p.reply) (reply_stag stag p) Fill (replicate (total p.reply) 0) in
    let regions = map (region_of xid place) (read ++ (write ++ reply)) in
    record {
      write = write_offered regions xid (write_stag stag p) p.write
          (λ e. offered_right xid place (write_stag stag p) Fill (total p.write) read (write ++ reply)
          (offered_left xid place (write_stag stag p) Fill (total p.write) write reply (filled_offered xid place (write_stag stag p) (total p.write) (has_segment p.write) e)));
      reply = reply_offered regions xid (reply_stag stag p) p.reply
          (λ e. offered_right xid place (reply_stag stag p) Fill (total p.reply) read (write ++ reply)
          (offered_right xid place (reply_stag stag p) Fill (total p.reply) write reply (filled_offered xid place (reply_stag stag p) (total p.reply) (has_segment p.reply) e)));
      read = read_offered regions xid (read_stag stag p) p p.read_at p.read refl (omega (arith, size))
          (λ e. offered_left xid place (read_stag stag p) Fetch (length p.region) read (write ++ reply) (buffer_offered xid place (read_stag stag p) Fetch p.region (has_segment (Some p.read)) e));
    }

-- ---- The message of a plan

pub planned_offered : (payload : List ℕ) (form : Form) (up down xid credit place stag : ℕ) (p : Plan) → IsSendLimit up → plan_of payload form up down ≡ Ok p → IsBytes payload → HasWordPosition form → xid < 2 ^ 32 → stag + regions_needed p ≤ 2 ^ 32
    → SendOffered (map (region_of xid place) (buffers stag p)) (call_message xid credit stag p)
planned_offered payload form up down xid credit place stag p limit e bytes typed small stags = λ h is.
    let fine = planned_fits payload form up down stag p limit e bytes typed stags in
    let r = plan_reads xid credit stag p h fine.0 fine.1 small is in
    let size = (planned_chunk payload form up down p e).size in
    let regions : List Region = map (region_of xid place) (buffers stag p) in
    subst (λ (n : ℕ). ListsOffered regions n (lists_by h.body)) (sym (call_words_lem xid credit stag p small).xid_is)
    (subst (ListsOffered regions xid) (sym r.lists) (plan_offered xid place stag p size))
