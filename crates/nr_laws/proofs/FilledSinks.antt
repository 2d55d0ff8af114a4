-- Read Responses to all reads of a call fill its sink with the bytes of the region that was read.
use Rattle.std.proofs.Common.{◌≡◌, ◌≢◌, ℕ, ◌+◌, ◌≤◌, ◌<◌, ◌^◌, Bool, true, false, cond, eqb, List, [], ◌∷◌, ◌++◌, length, take, drop, map, refl, sym, ap, ◌∙◌, arith, append_assoc, length-append, eqb-true, eq-eqb}
use Rattle.std.specs.List.{find}
use Rattle.std.proofs.Math.Seq.{take-add}
use Rattle.std.proofs.lemmas.List.{take_all, take_at, length-take, length-drop}
use Rattle.nr_xdr.specs.Item.{word, hyper, word_of}
use Rattle.nr_xdr.proofs.WordBytes.{length_word, word_of_word}
use Rattle.nr_link.specs.ReceiveState.{ReadRequest, read_request_in}
use Rattle.nr_regions.specs.RegisteredMemory.{bytes_after_write}
use Rattle.nr_reduce.specs.OfferedRegions.{Region}
use Rattle.nr_reduce.specs.ServerState.{PendingRead}
use Rattle.nr_reduce.specs.ChunkBytes.{bytes_after_segments}
use Rattle.nr_reduce.proofs.WrittenChunks.{added_up, laid_append}
use Rattle.nr_laws.proofs.Outputs.{request_payload, response_segments}
use Rattle.nr_laws.proofs.RequestFields.{request_again, part_at}
use Rattle.nr_laws.proofs.SinkReads.{own_reads, into, SinksBelow}
use Rattle.nr_laws.proofs.FetchedRegions.{IsFetched}
use Rattle.nr_laws.proofs.ClientResponses.{Answered, EachData, response_of, responses_of, requests_of}
use Rattle.nr_laws.proofs.SplitResponses.{laid_own, laid_other}

-- ---- The first read of a call

record FirstOwn (number position sink handle at : ℕ) (ns : List ℕ) (r : PendingRead) (more : List PendingRead) : Type 0 where
  n : ℕ
  left : List ℕ
  is : r ≡ record { number = number; position = position; sink = sink; at = at; size = n; stag = handle; to = at }
  rest : more ≡ own_reads number position sink handle (at + n) left
  sum : added_up ns ≡ n + added_up left

reads_head : (x y : PendingRead) (xs ys : List PendingRead) → x ∷ xs ≡ y ∷ ys → y ≡ x
reads_head x y xs ys e = (let t : x ≡ y = cc in sym t)

reads_rest : (x y : PendingRead) (xs ys : List PendingRead) → x ∷ xs ≡ y ∷ ys → ys ≡ xs
reads_rest x y xs ys e = sym (ap (λ (zs : List PendingRead). drop 1 zs) e)

first_own : (number position sink handle at : ℕ) (ns : List ℕ) (r : PendingRead) (more : List PendingRead) → own_reads number position sink handle at ns ≡ r ∷ more → FirstOwn number position sink handle at ns r more
first_own number position sink handle at [] r more e = absurd cc
first_own number position sink handle at (n ∷ ns) r more e = by (eqb n 0) refl e (λ f. first_own number position sink handle (at + n) ns r more f)
  where
    own : PendingRead
    own = record { number = number; position = position; sink = sink; at = at; size = n; stag = handle; to = at }

    by : (b : Bool) → eqb n 0 ≡ b → cond b [] (own ∷ []) ++ own_reads number position sink handle (at + n) ns ≡ r ∷ more → (own_reads number position sink handle (at + n) ns ≡ r ∷ more → FirstOwn number position sink handle (at + n) ns r more)
        → FirstOwn number position sink handle at (n ∷ ns) r more
    by true is e next =
        let none : n ≡ 0 = eqb-true n 0 is in
        let w = next e in
        let same : at + n ≡ at = omega (arith, none) in
        record {
          n = w.n;
          left = w.left;
          is = w.is ∙ ap (λ (m : ℕ). record { number = number; position = position; sink = sink; at = m; size = w.n; stag = handle; to = m }) same;
          rest = w.rest ∙ ap (λ (m : ℕ). own_reads number position sink handle (m + w.n) w.left) same;
          sum = (let s = w.sum in omega (arith, none, s));
        }
    by false is e next = record { n = n; left = ns; is = reads_head own r (own_reads number position sink handle (at + n) ns) more e; rest = reads_rest own r (own_reads number position sink handle (at + n) ns) more e; sum = refl }

none_own : (number position sink handle at : ℕ) (ns : List ℕ) → own_reads number position sink handle at ns ≡ [] → added_up ns ≡ 0
none_own number position sink handle at [] e = refl
none_own number position sink handle at (n ∷ ns) e = by (eqb n 0) refl e (λ f. none_own number position sink handle (at + n) ns f)
  where
    own : PendingRead
    own = record { number = number; position = position; sink = sink; at = at; size = n; stag = handle; to = at }

    by : (b : Bool) → eqb n 0 ≡ b → cond b [] (own ∷ []) ++ own_reads number position sink handle (at + n) ns ≡ [] → (own_reads number position sink handle (at + n) ns ≡ [] → added_up ns ≡ 0) → added_up (n ∷ ns) ≡ 0
    by true is e next = (let z = eqb-true n 0 is in let s = next e in omega (arith, z, s))
    by false is e next = absurd cc

-- ---- One response

pub record IsFilled (at : ℕ) (region old : List ℕ) : Type 0 where
  pub size : length old ≡ length region
  pub front : take at old ≡ take at region

filled_more : (at n : ℕ) (region old : List ℕ) → at + n ≤ length region → IsFilled at region old → IsFilled (at + n) region (bytes_after_write old at (take n (drop at region)))
filled_more at n region old room h =
    let own = take n (drop at region) in
    let len : length own ≡ n = (let a = length-take n (drop at region) in let b = length-drop at region in omega (arith, a, b, room)) in
    let front : take at old ++ own ≡ take (at + n) region = ap (λ (xs : List ℕ). xs ++ own) h.front ∙ sym (take-add at n region) in
    let back : List ℕ = drop (at + length own) old in
    let front_len : length (take at old ++ own) ≡ at + n = (let a = length-append (take at old) own in let b = length-take at old in let s = h.size in omega (arith, a, b, s, len, room)) in
    let same : bytes_after_write old at own ≡ (take at old ++ own) ++ back = sym (append_assoc (take at old) own back) in
    record {
      size = ap (λ (xs : List ℕ). length xs) same ∙ (let a = length-append (take at old ++ own) back in let b = length-drop (at + length own) old in let s = h.size in omega (arith, a, b, s, len, front_len, room));
      front = ap (λ (xs : List ℕ). take (at + n) xs) same ∙ take_at (take at old ++ own) back (at + n) front_len ∙ front;
    }

sink_word_lem : (r : PendingRead) → r.sink < 2 ^ 32 → (read_request_in (request_payload r)).sink ≡ r.sink
sink_word_lem r fits = ap word_of (part_at 0 4 [] (word r.sink) (hyper r.at ++ (word r.size ++ (word r.stag ++ hyper r.to))) refl (length_word r.sink)) ∙ word_of_word r.sink fits

-- ---- All of them

pub record SinkOf : Type 0 where
  pub number : ℕ
  pub position : ℕ
  pub sink : ℕ
  pub handle : ℕ
  pub region : List ℕ
  pub sink_fits : sink < 2 ^ 32
  pub handle_fits : handle < 2 ^ 32
  pub region_fits : length region < 2 ^ 32

head_request : (a : Answered) (others : List Answered) (p : List ℕ) (ps : List (List ℕ)) → a.request ∷ requests_of others ≡ p ∷ ps → (a.request ≡ p) × (requests_of others ≡ ps)
head_request a others p ps e = (first (a.request) p (requests_of others) ps e, ap (λ (zs : List (List ℕ)). drop 1 zs) e)
  where
    first : (x y : List ℕ) (xs ys : List (List ℕ)) → x ∷ xs ≡ y ∷ ys → x ≡ y
    first x y xs ys e = cc

pub filled : (z : SinkOf) (regions : List Region) → ((f : IsFetched regions z.handle) → f.region.bytes ≡ z.region) → (done : List PendingRead) (others : List Answered) (at : ℕ) (ns old : List ℕ) → requests_of others ≡ map request_payload done
    → EachData regions others → into z.sink done ≡ own_reads z.number z.position z.sink z.handle at ns → SinksBelow 4294967296 done → at + added_up ns ≡ length z.region → IsFilled at z.region old → bytes_after_segments z.sink old (responses_of others) ≡ z.region
filled z regions holds [] [] at ns old e d own below sum fill =
    let none = none_own z.number z.position z.sink z.handle at ns (sym own) in
    let s = fill.size in
    sym (take_all at old (omega (arith, none, sum, s))) ∙ fill.front ∙ take_all at z.region (omega (arith, none, sum))
filled z regions holds [] (a ∷ others) at ns old e d own below sum fill = absurd cc
filled z regions holds (r ∷ done) [] at ns old e d own below sum fill = absurd cc
filled z regions holds (r ∷ done) (a ∷ others) at ns old e d own below sum fill =
    let q = head_request a others (request_payload r) (map request_payload done) e in
    laid_append z.sink old (response_of a) (responses_of others)
    ∙ by (eqb r.sink z.sink) refl own q.0 (λ at ns old o s f. filled z regions holds done others at ns old q.1 d.1 o below.2 s f)
  where
    Next : Type 0
    Next = (at : ℕ) (ns old : List ℕ) → into z.sink done ≡ own_reads z.number z.position z.sink z.handle at ns → at + added_up ns ≡ length z.region → IsFilled at z.region old → bytes_after_segments z.sink old (responses_of others) ≡ z.region

    by : (b : Bool) → eqb r.sink z.sink ≡ b → cond b (r ∷ into z.sink done) (into z.sink done) ≡ own_reads z.number z.position z.sink z.handle at ns → a.request ≡ request_payload r → Next
        → bytes_after_segments z.sink (bytes_after_segments z.sink old (response_of a)) (responses_of others) ≡ z.region
    by false is own req next =
        let ne : (read_request_in a.request).sink ≢ z.sink = λ f. (let w : r.sink ≡ z.sink = sym (ap (λ (p : List ℕ). (read_request_in p).sink) req ∙ sink_word_lem r below.1) ∙ f in let t : true ≡ false = sym (eq-eqb r.sink z.sink w) ∙ is in absurd cc) in
        ap (λ (bytes : List ℕ). bytes_after_segments z.sink bytes (responses_of others)) (laid_other z.sink (read_request_in a.request).sink (read_request_in a.request).sink_to a.bytes old ne)
        ∙ next at ns old own sum fill
    by true is own req next =
        let w = first_own z.number z.position z.sink z.handle at ns r (into z.sink done) (sym own) in
        let s = w.sum in
        let fits = z.region_fits in
        let room : at + w.n ≤ length z.region = omega (arith, s, sum) in
        let fields : read_request_in a.request ≡ record { sink = z.sink; sink_to = at; size = w.n; stag = z.handle; to = at } =
        ap read_request_in req ∙ ap (λ (x : PendingRead). read_request_in (request_payload x)) w.is
        ∙ request_again z.sink at w.n z.handle at z.sink_fits (omega (arith, room, fits)) (omega (arith, room, fits)) z.handle_fits (omega (arith, room, fits)) in
        let f = d.0.fetched in
        let stag : (read_request_in a.request).stag ≡ z.handle = ap (λ (x : ReadRequest). x.stag) fields in
        let held : f.region.bytes ≡ z.region =
        holds (record { region = f.region; there = ap (λ (n : ℕ). find (λ (x : Region). eqb x.stag n) regions) (sym stag) ∙ f.there; own = f.own ∙ stag; right = f.right }) in
        let bytes : a.bytes ≡ take w.n (drop at z.region) = d.0.holds ∙ (λ i. take (fields i).size (drop (fields i).to (held i))) in
        let len : length (take w.n (drop at z.region)) ≤ w.n = (let x = length-take w.n (drop at z.region) in omega (arith, x)) in
        let size = fill.size in
        let laid : bytes_after_segments z.sink old (response_of a) ≡ bytes_after_write old at (take w.n (drop at z.region)) =
        (λ i. bytes_after_segments z.sink old (response_segments (fields i).sink (fields i).sink_to (bytes i)))
        ∙ laid_own z.sink at (take w.n (drop at z.region)) old (omega (arith, len, size, room)) in
        ap (λ (xs : List ℕ). bytes_after_segments z.sink xs (responses_of others)) laid
        ∙ next (at + w.n) w.left (bytes_after_write old at (take w.n (drop at z.region))) w.rest (omega (arith, s, sum)) (filled_more at w.n z.region old room fill)
