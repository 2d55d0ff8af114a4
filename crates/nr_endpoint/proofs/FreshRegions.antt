-- Memory that holds no region and has given all STags: the last one was registered and released.
use Rattle.std.proofs.Common.{◌≡◌, ℕ, ◌+◌, Bool, true, false, cond, List, Option, Some, None, refl, sym, ap, ◌∙◌}
use Rattle.std.specs.Ordering.{nat_cmp, eq_by_cmp}
use Rattle.std.specs.Cmp.{nat_cmp_total}
use Rattle.std.specs.FinMap.{FinMap, empty, get, insert, remove, get-empty, get-insert, get-remove, same_map, nat_cmp-IsAntisymmetric}
use Rattle.nr_regions.specs.declared.right.Right.{Right}
use Rattle.nr_regions.specs.RegisteredMemory.{Claim, Outside, RegisteredMemory, initial_memory, after_register, after_release, claim_of}

undo_at : {X : Type 0} (m : FinMap nat_cmp X) (q : ℕ) (v : X) (b : Bool) → get m q ≡ None → cond b None (cond b (Some v) (get m q)) ≡ get m q
undo_at m q v true none = sym none
undo_at m q v false none = refl

-- to put one entry in and to take it out leaves none
removed : {X : Type 0} (none : FinMap nat_cmp X) (k : ℕ) (v : X) → none ≡ empty → remove (insert none k v) k ≡ none
removed none k v is =
    same_map nat_cmp_total nat_cmp-IsAntisymmetric _ _
    (λ q. get-remove nat_cmp_total (insert none k v) k q ∙ ap (cond (eq_by_cmp nat_cmp q k) None) (get-insert nat_cmp_total none k v q)
    ∙ undo_at none q v (eq_by_cmp nat_cmp q k) (ap (λ m. get m q) is ∙ get-empty nat_cmp q))

spent_memory : (n : ℕ) (right : Right) (buf : List ℕ) → after_release (after_register (initial_memory n) right buf) n ≡ initial_memory (n + 1)
unfolding initial_memory after_register after_release
spent_memory n right buf = λ i. record { next = n + 1; held = removed empty n (record { right = right; buf = buf }) refl i; dead = removed empty n false refl i }

pub released_memory : (m after last : RegisteredMemory) (n first : ℕ) (right : Right) (buf : List ℕ) (claim : Claim) → m ≡ initial_memory n → claim ≡ claim_of m buf → after ≡ after_register m right buf →
    last ≡ after_release after claim.stag → n + 1 ≡ first → last ≡ initial_memory first
unfolding initial_memory
released_memory m after last n first right buf claim is named registered released same =
    released
    ∙ (λ i. after_release (registered i) (named i).stag)
    ∙ ap (λ (x : RegisteredMemory). after_release (after_register x right buf) x.next) is
    ∙ spent_memory n right buf
    ∙ ap initial_memory same

pub released_outside : (m : RegisteredMemory) (none after last : FinMap nat_cmp Outside) (buf : List ℕ) (claim : Claim) (outside : Outside) → none ≡ empty → claim ≡ claim_of m buf → after ≡ insert none m.next outside →
    last ≡ remove after claim.stag → last ≡ empty
released_outside m none after last buf claim outside is named registered released =
    released
    ∙ (λ i. remove (registered i) (named i).stag)
    ∙ removed none m.next outside is
    ∙ is
