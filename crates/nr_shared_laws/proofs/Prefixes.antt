-- What is so of all links of a history is so of those of each beginning; and how many bytes of a piece were fed matters only once memory has run out.
use Rattle.std.proofs.Common.{◌≡◌, ◌⊎◌, ⊎_elim, inl, inr, ℕ, suc, Bool, true, false, List, [], ◌∷◌, ◌++◌, length, Option, None, Some, refl, sym, ap, subst, ◌∙◌}
use Rattle.std.specs.List.{AllByRecursion}
use Rattle.nr_link.specs.declared.end.End.{End}
use Rattle.nr_reduce.specs.declared.mark.LinkParameters.{LinkParameters}
use Rattle.nr_reduce.specs.declared.mark.Mark.{Mark}
use Rattle.nr_reduce.specs.Asked.{AskedMark, AskedSoFar}
use Rattle.nr_reduce.specs.Matched.{IsPrefixOf}
use Rattle.nr_reduce.specs.Opening.{IsOpened}
use Rattle.nr_reduce.specs.Run.{client}
use Rattle.nr_reduce.proofs.Steps.{AtEachMark_first}
use Rattle.nr_shared.specs.declared.entry.Entry.{Entry}
use Rattle.nr_shared.specs.declared.entry.Entry.TheVariants as entries
use Rattle.nr_shared.specs.declared.entry.InitialState.{InitialState}
use Rattle.nr_shared.specs.declared.entry.Stop.{Stop}
use Rattle.nr_shared.specs.declared.entry.Stop.TheVariants as causes
use Rattle.nr_shared.specs.Histories.{PresentLink, has_write_failed, initial_of, is_lost, is_lost_by, rejoins, stop_of}
use Rattle.nr_shared.specs.LinkRuns.{AllLinks, FitsHistory, LinkRun, OpenedLink, first_link, link_after, links_after, links_of, marks_at}
use Rattle.nr_shared.specs.Output.{MayFollow, MayRejoin, MayStop}
use Rattle.nr_shared.proofs.Histories.{present_end, rejoins_grow}
use Rattle.nr_shared.proofs.LinkRuns.{fits_fewer, is_rejoin, link_same, links_end, with_marks}

true_false : true ≡ false → ⊥
true_false e = absurd cc

none_some : {A : Type 0} (x : A) → None ≡ Some x → ⊥
none_some x e = absurd cc

-- ---- Beginnings

-- the client of the link keeps its law, and the link was opened in range
abbrev pub IsLawful : LinkParameters → ℕ → List Mark → Type 0
IsLawful opened link run = AskedSoFar opened link run × IsOpened opened

lawful_first : (opened : LinkParameters) (link : ℕ) (run ms : List Mark) → IsLawful opened link (run ++ ms) → IsLawful opened link run
lawful_first opened link run ms s = (AtEachMark_first (AskedMark IsPrefixOf opened link) [] run ms s.0, s.1)

lawful_left : (run ms : List Mark) (left : List OpenedLink) → AllByRecursion (λ (e : OpenedLink). IsLawful e.opened e.link (run ++ ms)) left → AllByRecursion (λ (e : OpenedLink). IsLawful e.opened e.link run) left
lawful_left run ms [] all = tt
lawful_left run ms (e ∷ left) all = (lawful_first e.opened e.link run ms all.0, lawful_left run ms left all.1)

back_one : (n next : ℕ) (l : LinkRun) (e : Entry) → AllLinks IsLawful (link_after n next l e) → AllLinks IsLawful l
back_one n next l e all = by (is_rejoin e) refl where
  rejoined : (f : Entry) → is_rejoin f ≡ true → AllLinks IsLawful (link_after n next l f) → AllLinks IsLawful l
  rejoined (entries.Rejoin sink previous) is every = every.1
  rejoined (entries.Initial initial) is every = absurd cc
  rejoined (entries.Submit call form xid) is every = absurd cc
  rejoined (entries.Wrote bytes) is every = absurd cc
  rejoined (entries.Fed bytes previous) is every = absurd cc
  rejoined (entries.Done xid outcome submit) is every = absurd cc
  rejoined (entries.Lost xid submit) is every = absurd cc
  rejoined (entries.Forget xid submit) is every = absurd cc
  rejoined (entries.Revoke xid bytes submit) is every = absurd cc
  rejoined entries.WriteFailed is every = absurd cc
  rejoined (entries.Stopped cause previous) is every = absurd cc
  rejoined (entries.OutOfMemory piece previous) is every = absurd cc

  more : AllLinks IsLawful (with_marks l (marks_at n l e)) → AllLinks IsLawful l
  more every = (lawful_first l.at.opened l.at.link l.run (marks_at n l e) every.0, lawful_left l.run (marks_at n l e) l.left every.1)

  by : (b : Bool) → is_rejoin e ≡ b → AllLinks IsLawful l
  by true is = rejoined e is all
  by false none = more (subst (λ (k : LinkRun). AllLinks IsLawful k) (link_same n next l e none) all)

back : (n : ℕ) (numbers : ℕ → ℕ) (l : LinkRun) (es : List Entry) → AllLinks IsLawful (links_after n numbers l es) → AllLinks IsLawful l
back n numbers l [] all = all
back n numbers l (e ∷ es) all = let next = numbers (suc (length l.left)) in back_one n next l e (back n numbers (link_after n next l e) es all)

after_append : (n : ℕ) (numbers : ℕ → ℕ) (l : LinkRun) (xs ys : List Entry) → links_after n numbers l (xs ++ ys) ≡ links_after n numbers (links_after n numbers l xs) ys
after_append n numbers l [] ys = refl
after_append n numbers l (x ∷ xs) ys = after_append n numbers (link_after n (numbers (suc (length l.left))) l x) xs ys

pub lawful_begin : (opened : LinkParameters) (numbers : ℕ → ℕ) (before : List Mark) (n : ℕ) (xs ys : List Entry) → AllLinks IsLawful (links_of opened numbers before n (xs ++ ys)) → AllLinks IsLawful (links_of opened numbers before n xs)
unfolding links_of
lawful_begin opened numbers before n xs ys all =
    let first = first_link opened numbers before in
    back n numbers (links_after n numbers first xs) ys (subst (λ (k : LinkRun). AllLinks IsLawful k) (after_append n numbers first xs ys) all)

-- the initial state is that of each beginning with an entry
initial_first : (x : Entry) (xs ys : List Entry) → initial_of (x ∷ xs) ≡ initial_of ((x ∷ xs) ++ ys)
initial_first (entries.Initial initial) xs ys = refl
initial_first (entries.Submit call form xid) xs ys = refl
initial_first (entries.Wrote bytes) xs ys = refl
initial_first (entries.Fed bytes previous) xs ys = refl
initial_first (entries.Done xid outcome submit) xs ys = refl
initial_first (entries.Lost xid submit) xs ys = refl
initial_first (entries.Forget xid submit) xs ys = refl
initial_first (entries.Revoke xid bytes submit) xs ys = refl
initial_first entries.WriteFailed xs ys = refl
initial_first (entries.Stopped cause previous) xs ys = refl
initial_first (entries.Rejoin sink previous) xs ys = refl
initial_first (entries.OutOfMemory piece previous) xs ys = refl

fits_before : (opened : LinkParameters) (numbers : ℕ → ℕ) (before : List Mark) (h ys : List Entry) → FitsHistory (h ++ ys) opened numbers before → is_lost h ≡ true → FitsHistory h opened numbers before
fits_before opened numbers before [] ys fits lost = absurd (let wrong : false ≡ true = lost in cc)
fits_before opened numbers before (x ∷ xs) ys (c, is, fits) lost =
    (c, initial_first x xs ys ∙ is, fits_fewer c (rejoins (x ∷ xs)) (rejoins ((x ∷ xs) ++ ys)) opened numbers before (rejoins_grow (x ∷ xs) ys) fits)

-- ---- Out of memory

abbrev is_out : Entry → Bool
is_out (entries.OutOfMemory piece previous) = true
is_out (entries.Initial initial) = false
is_out (entries.Submit call form xid) = false
is_out (entries.Wrote bytes) = false
is_out (entries.Fed bytes previous) = false
is_out (entries.Done xid outcome submit) = false
is_out (entries.Lost xid submit) = false
is_out (entries.Forget xid submit) = false
is_out (entries.Revoke xid bytes submit) = false
is_out entries.WriteFailed = false
is_out (entries.Stopped cause previous) = false
is_out (entries.Rejoin sink previous) = false

not_lost : (h : List Entry) → stop_of h ≡ Some causes.Memory → is_lost h ≡ true → ⊥
not_lost h memory lost = true_false (sym (subst (λ (o : Option Stop). is_lost_by (has_write_failed h) o ≡ true) memory lost))

not_stopped : (h : List Entry) (cause : Stop) → stop_of h ≡ Some causes.Memory → MayStop cause h → ⊥
not_stopped h causes.LinkRead memory may = none_some causes.Memory (sym may.0 ∙ memory)
not_stopped h causes.Closed memory may = none_some causes.Memory (sym may.0 ∙ memory)
not_stopped h causes.Budget memory may = none_some causes.Memory (sym may.0 ∙ memory)
not_stopped h causes.Memory memory may = may
not_stopped h causes.DialFault memory may = may
not_stopped h (causes.Spent left need) memory may = not_lost h memory may.0.lost
not_stopped h causes.NotReopened memory may = not_lost h memory may.lost

memory_stays : (h : List Entry) (e : Entry) → stop_of h ≡ Some causes.Memory → MayFollow h e → is_out e ≡ false → stop_of (h ++ e ∷ []) ≡ Some causes.Memory
memory_stays h (entries.Initial initial) memory may out = ap (λ (l : PresentLink). l.stopped) (present_end h (entries.Initial initial)) ∙ memory
memory_stays h (entries.Submit call form xid) memory may out = ap (λ (l : PresentLink). l.stopped) (present_end h (entries.Submit call form xid)) ∙ memory
memory_stays h (entries.Wrote bytes) memory may out = ap (λ (l : PresentLink). l.stopped) (present_end h (entries.Wrote bytes)) ∙ memory
memory_stays h (entries.Done xid outcome submit) memory may out = ap (λ (l : PresentLink). l.stopped) (present_end h (entries.Done xid outcome submit)) ∙ memory
memory_stays h (entries.Lost xid submit) memory may out = ap (λ (l : PresentLink). l.stopped) (present_end h (entries.Lost xid submit)) ∙ memory
memory_stays h (entries.Forget xid submit) memory may out = ap (λ (l : PresentLink). l.stopped) (present_end h (entries.Forget xid submit)) ∙ memory
memory_stays h (entries.Revoke xid bytes submit) memory may out = ap (λ (l : PresentLink). l.stopped) (present_end h (entries.Revoke xid bytes submit)) ∙ memory
memory_stays h entries.WriteFailed memory may out = ap (λ (l : PresentLink). l.stopped) (present_end h entries.WriteFailed) ∙ memory
memory_stays h (entries.Fed bytes previous) memory may out = absurd (none_some causes.Memory (sym may.0 ∙ memory))
memory_stays h (entries.Stopped cause previous) memory may out = absurd (not_stopped h cause memory may)
memory_stays h (entries.Rejoin sink previous) memory may out = absurd (not_lost h memory may.lost)
memory_stays h (entries.OutOfMemory piece previous) memory may out = absurd (true_false out)

memory_out : (h : List Entry) (e : Entry) → is_out e ≡ true → stop_of (h ++ e ∷ []) ≡ Some causes.Memory
memory_out h (entries.OutOfMemory piece previous) out = ap (λ (l : PresentLink). l.stopped) (present_end h (entries.OutOfMemory piece previous))
memory_out h (entries.Initial initial) out = absurd (true_false (sym out))
memory_out h (entries.Submit call form xid) out = absurd (true_false (sym out))
memory_out h (entries.Wrote bytes) out = absurd (true_false (sym out))
memory_out h (entries.Fed bytes previous) out = absurd (true_false (sym out))
memory_out h (entries.Done xid outcome submit) out = absurd (true_false (sym out))
memory_out h (entries.Lost xid submit) out = absurd (true_false (sym out))
memory_out h (entries.Forget xid submit) out = absurd (true_false (sym out))
memory_out h (entries.Revoke xid bytes submit) out = absurd (true_false (sym out))
memory_out h entries.WriteFailed out = absurd (true_false (sym out))
memory_out h (entries.Stopped cause previous) out = absurd (true_false (sym out))
memory_out h (entries.Rejoin sink previous) out = absurd (true_false (sym out))

after_same : (n next : ℕ) (l : LinkRun) (e : Entry) → is_out e ≡ false → link_after n next l e ≡ link_after 0 next l e
after_same n next l (entries.OutOfMemory piece previous) out = absurd (true_false out)
after_same n next l (entries.Initial initial) out = refl
after_same n next l (entries.Submit call form xid) out = refl
after_same n next l (entries.Wrote bytes) out = refl
after_same n next l (entries.Fed bytes previous) out = refl
after_same n next l (entries.Done xid outcome submit) out = refl
after_same n next l (entries.Lost xid submit) out = refl
after_same n next l (entries.Forget xid submit) out = refl
after_same n next l (entries.Revoke xid bytes submit) out = refl
after_same n next l entries.WriteFailed out = refl
after_same n next l (entries.Stopped cause previous) out = refl
after_same n next l (entries.Rejoin sink previous) out = refl

module _ (opened : LinkParameters) (numbers : ℕ → ℕ) (before : List Mark) (n : ℕ) where
  -- no piece is one at which memory ran out, or the last cause is that it did
  abbrev pub IsWhole : List Entry → Type 0
  IsWhole h = (links_of opened numbers before n h ≡ links_of opened numbers before 0 h) ⊎ (stop_of h ≡ Some causes.Memory)

  pub whole_end : (h : List Entry) (e : Entry) → MayFollow h e → IsWhole h → IsWhole (h ++ e ∷ [])
  whole_end h e may whole = by (is_out e) refl whole where
    by : (b : Bool) → is_out e ≡ b → IsWhole h → IsWhole (h ++ e ∷ [])
    by true out w = inr (memory_out h e out)
    by false out (inr memory) = inr (memory_stays h e memory may out)
    by false out (inl same) =
        let l = links_of opened numbers before n h in
        inl
        (links_end opened numbers before n h e
        ∙ (after_same n (numbers (suc (length l.left))) l e out ∙ (ap (λ (k : LinkRun). link_after 0 (numbers (suc (length k.left))) k e) same ∙ sym (links_end opened numbers before 0 h e))))

  -- the client of a link that may be left hasn't ended
  pub live_at : (h ys : List Entry) → FitsHistory (h ++ ys) opened numbers before → IsWhole h → MayRejoin h
      → (client (links_of opened numbers before n h).at.opened (links_of opened numbers before n h).at.link (links_of opened numbers before n h).run).ended ≡ None
  live_at h ys fits whole may = ⊎_elim
      (λ (same : links_of opened numbers before n h ≡ links_of opened numbers before 0 h).
      subst (λ (k : LinkRun). (client k.at.opened k.at.link k.run).ended ≡ None) (sym same) (may.live opened numbers before (fits_before opened numbers before h ys fits may.lost)))
      (λ (memory : stop_of h ≡ Some causes.Memory). absurd (not_lost h memory may.lost))
      whole
