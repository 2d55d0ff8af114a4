-- What the Send of a call conveys by the regions of its client.
use Rattle.std.proofs.Common.{◌≡◌, ℕ, ◌+◌, ◌^◌, ◌≤◌, true, cond, List, [], ◌∷◌, ◌++◌, length, take, drop, Option, None, Some, IfSome, Result, Ok, refl, sym, ap, subst, ◌∙◌, arith, eq-eqb}
use Rattle.std.specs.Prelude.{sum}
use Rattle.std.specs.List.{flat_map}
use Rattle.std.proofs.Math.Seq.{take-add}
use Rattle.std.proofs.lemmas.List.{take_all, drop-drop}
use Rattle.std.proofs.lemmas.List.Concat.{flat_map-cons}
use Rattle.std.proofs.lemmas.List.Sums.{sum_by-cons}
use Rattle.nr_wire.specs.declared.hello.Side.TheVariants.{Initiator}
use Rattle.nr_header.specs.declared.header.ReadSegment.{ReadSegment}
use Rattle.nr_reduce.specs.declared.call.Submission.TheVariants as submissions
use Rattle.nr_reduce.specs.declared.mark.Mark.{Mark}
use Rattle.nr_reduce.specs.declared.mark.Mark.TheVariants as marks
use Rattle.nr_reduce.specs.declared.outline.Plan.{Plan}
use Rattle.nr_reduce.specs.Plans.{TooLarge, has_segment, plan_of, lists_of, read_list, entries_from, regions_needed, call_message, read_stag}
use Rattle.nr_reduce.specs.Chunks.{Bytes, at_position, entry_bytes, read_bytes, call_conveyed}
use Rattle.nr_reduce.specs.ChunkBytes.{ChunkHolds}
use Rattle.nr_reduce.specs.ClientState.{ClientState, call_payload, stag_for}
use Rattle.nr_reduce.specs.Matched.{IsPrefixOf}
use Rattle.nr_reduce.specs.Asked.{AskedMark, IsAccepted, IsPlannedAs}
use Rattle.nr_reduce.specs.Run.{client, placed_bytes}
use Rattle.nr_header.specs.declared.header.Header.{Header}
use Rattle.nr_reduce.proofs.Asking.{asks}
use Rattle.nr_laws.specs.Typed.{TypedMark}
use Rattle.nr_laws.specs.SendsConvey.{SendsConvey, OwnSendsConvey}
use Rattle.nr_laws.proofs.ConveyedCalls.{planned_fits, plan_reads}
use Rattle.nr_laws.proofs.ConveyedForms.{HasChunk, no_bytes_lem, planned_chunk, plan_conveys}
use Rattle.nr_laws.proofs.WaitingCalls.{accepted_stags, accepted_plan}
use Rattle.nr_reduce.proofs.ReadChunks.{chunk_stays}
use Rattle.nr_laws.proofs.HeaderXid.{header_xid, call_xid_lem}
use Rattle.nr_laws.proofs.OnceByXid.{at_mark}
use Rattle.nr_reduce.proofs.WrittenChunks.{added_up, sum_added}

-- ---- What the entries of a read chunk bring

at_all_lem : (position handle offset : ℕ) (lengths : List ℕ) → at_position position (entries_from position handle offset lengths) ≡ entries_from position handle offset lengths
at_all_lem position handle offset [] = refl
at_all_lem position handle offset (n ∷ lengths) =
    let entry : ReadSegment = record { position = position; handle = handle; length = n; offset = offset } in
    (λ i. cond (eq-eqb position position refl i) (entry ∷ at_all_lem position handle (offset + n) lengths i) (at_position position (entries_from position handle (offset + n) lengths)))

joined_entries_lem : (memory : Bytes) (position handle offset : ℕ) (lengths : List ℕ) → flat_map (entry_bytes memory) (entries_from position handle offset lengths) ≡ take (sum lengths) (drop offset (memory handle))
joined_entries_lem memory position handle offset [] = refl
joined_entries_lem memory position handle offset (n ∷ lengths) =
    flat_map-cons (entry_bytes memory) (record { position = position; handle = handle; length = n; offset = offset }) (entries_from position handle (offset + n) lengths)
    ∙ ap (λ (xs : List ℕ). take n (drop offset (memory handle)) ++ xs) (joined_entries_lem memory position handle (offset + n) lengths)
    ∙ ap (λ (xs : List ℕ). take n (drop offset (memory handle)) ++ take (sum lengths) xs) (sym (drop-drop n offset (memory handle)))
    ∙ sym (take-add n (sum lengths) (drop offset (memory handle)))
    ∙ ap (λ (k : ℕ). take k (drop offset (memory handle))) (sym (sum_by-cons (λ (k : ℕ). k) n lengths))

entries_bring : (memory : Bytes) (position stag : ℕ) (ns : List ℕ) (region : List ℕ) → length region ≡ added_up ns → (has_segment (Some ns) ≡ true → memory stag ≡ region) → read_bytes memory (entries_from position stag 0 ns) position ≡ region
unfolding read_bytes
entries_bring memory position stag [] region size holds = sym (no_bytes_lem region size)
entries_bring memory position stag (n ∷ ns) region size holds =
    ap (λ (es : List ReadSegment). flat_map (entry_bytes memory) es) (at_all_lem position stag 0 (n ∷ ns))
    ∙ joined_entries_lem memory position stag 0 (n ∷ ns)
    ∙ ap (λ (xs : List ℕ). take (sum (n ∷ ns)) xs) (holds refl)
    ∙ take_all (sum (n ∷ ns)) region (let s = sum_added (n ∷ ns) in omega (arith, s, size))

chunk_holds : (memory : Bytes) (stag : ℕ) (p : Plan) → HasChunk p → (has_segment (Some p.read) ≡ true → memory stag ≡ p.region) → ChunkHolds (read_bytes memory (lists_of stag p).read) p
unfolding lists_of
chunk_holds memory stag p chunk holds = by p.read_at refl
  where
    by : (o : Option ℕ) → p.read_at ≡ o → IfSome o (λ position. read_bytes memory (read_list stag p p.read_at) position ≡ p.region)
    by None at = tt
    by (Some position) at = ap (λ (o : Option ℕ). read_bytes memory (read_list stag p o) position) at ∙ entries_bring memory position stag p.read p.region chunk.size holds

-- ---- The law

abbrev made : Plan → Result Plan TooLarge
made p = Ok p

same_plan_lem : (p q : Plan) → made p ≡ made q → p ≡ q
same_plan_lem p q e = (let t : Ok p ≡ Ok q = e in cc)

pub sends_convey : SendsConvey
sends_convey opened link run xid plan header typed asked has reads =
    let before : List Mark = has.before in
    let k : ClientState = (client opened link before).state in
    let submit : Mark = marks.Submit link has.call has.form (submissions.Accepted xid) in
    let accepted : IsAccepted opened link before has.call has.form xid = at_mark (AskedMark IsPrefixOf opened link) run before submit has.at.after has.at.is asked refl in
    let fine = at_mark TypedMark run before submit has.at.after has.at.is typed in
    let payload : List ℕ = call_payload xid has.call in
    let same : accepted.plan ≡ plan = same_plan_lem accepted.plan plan (sym accepted.planned ∙ has.planned) in
    let stag : ℕ = stag_for k xid in
    let stags : stag + regions_needed plan ≤ 2 ^ 32 = subst (λ (p : Plan). stag + regions_needed p ≤ 2 ^ 32) same (accepted_stags opened link before has.call has.form xid accepted) in
    let formed : IsPlannedAs xid has.call has.form plan = accepted_plan opened link before has.call has.form xid plan accepted has.planned in
    let up : ℕ = formed.up in
    let down : ℕ = formed.down in
    let limit = formed.up_fits in
    let planned : plan_of payload has.form up down ≡ Ok plan = formed.planned in
    let fits = planned_fits payload has.form up down stag plan limit planned fine.0 fine.1 stags in
    let r = plan_reads xid opened.wished stag plan header fits.0 fits.1 accepted.xids reads in
    let memory : Bytes = placed_bytes opened link Initiator run in
    let offered : has_segment (Some plan.read) ≡ true → memory stag ≡ plan.region = λ some.
    ap (λ (whole : List Mark). placed_bytes opened link Initiator whole stag) has.at.is
    ∙ subst (λ (p : Plan). placed_bytes opened link Initiator (before ++ submit ∷ has.at.after) (read_stag stag p) ≡ p.region) same
    (chunk_stays opened link before has.at.after has.call has.form xid accepted (subst (λ (p : Plan). has_segment (Some p.read) ≡ true) (sym same) some)) in
    let holds = chunk_holds memory stag plan (planned_chunk payload has.form up down plan planned) offered in
    record {
      own = header_xid (call_message xid opened.wished stag plan) header reads ∙ call_xid_lem xid opened.wished stag plan accepted.xids;
      lists = r.lists;
      conveys = (λ i. call_conveyed (r.inline i) (r.lists i).read (read_bytes memory (r.lists i).read))
          ∙ plan_conveys payload has.form up down stag plan (read_bytes memory (lists_of stag plan).read) fine.0 fine.1 limit planned stags holds;
    }

pub own_sends_convey : OwnSendsConvey
own_sends_convey opened link run xid plan fits typed asked has own =
    let before : List Mark = has.before in
    let k : ClientState = (client opened link before).state in
    let submit : Mark = marks.Submit link has.call has.form (submissions.Accepted xid) in
    let accepted : IsAccepted opened link before has.call has.form xid = at_mark (AskedMark IsPrefixOf opened link) run before submit has.at.after has.at.is asked refl in
    let fine = at_mark TypedMark run before submit has.at.after has.at.is typed in
    let same : accepted.plan ≡ plan = same_plan_lem accepted.plan plan (sym accepted.planned ∙ has.planned) in
    let stag : ℕ = stag_for k xid in
    let stags : stag + regions_needed plan ≤ 2 ^ 32 = subst (λ (p : Plan). stag + regions_needed p ≤ 2 ^ 32) same (accepted_stags opened link before has.call has.form xid accepted) in
    let formed : IsPlannedAs xid has.call has.form plan = accepted_plan opened link before has.call has.form xid plan accepted has.planned in
    let up : ℕ = formed.up in
    let down : ℕ = formed.down in
    let planned : plan_of (call_payload xid has.call) has.form up down ≡ Ok plan = formed.planned in
    let wished = fits.wished_fits in
    let m = asks (call_payload xid has.call) has.form up down xid opened.wished stag plan fine.0 own planned accepted.xids (omega (arith, wished)) stags in
    let header : Header = record { xid = xid; credit = opened.wished; body = m.body } in
    record { header = header; reads = m.reads; conveys = sends_convey opened link run xid plan header typed asked has m.reads }
