-- No buffer has bytes outside its region.
use Rattle.std.proofs.Common.{◌≡◌, ℕ, ◌+◌, ◌^◌, ◌≤◌, List, Option, None, Some, inl, inr, refl, sym, ap, subst, ◌∙◌, arith}
use Rattle.std.specs.Ordering.{nat_cmp}
use Rattle.std.specs.FinMap.{FinMap, empty, get, remove, same_map, nat_cmp-IsAntisymmetric}
use Rattle.std.specs.Cmp.{nat_cmp_total}
use Rattle.std.proofs.lemmas.Bool.{cases_eq}
use Rattle.nr_regions.proofs.Holding.{get_remove_here, get_remove_other}
use Rattle.nr_regions.specs.declared.right.Right.{Right}
use Rattle.nr_regions.specs.declared.right.Right.TheVariants.{Fetch, Fill}
use Rattle.nr_regions.specs.RegisteredMemory.{RegisteredMemory, Outside, outside_len, nothing_outside, initial_memory, after_release, after_register}
use Rattle.nr_regions.specs.Table.{IsTotal}
use Rattle.nr_regions.proofs.Totals.{sound_initial, sound_register, sound_release}
use Rattle.nr_wire.specs.declared.hello.Side.TheVariants.{Initiator}
use Rattle.nr_link.specs.declared.agreement.Agreement.{Agreement}
use Rattle.nr_link.specs.declared.agreement.SideTerms.{SideTerms}
use Rattle.nr_endpoint.specs.declared.offering.Offered.{Offered}
use Rattle.nr_endpoint.specs.EndpointState.{EndpointState}
use Rattle.nr_endpoint.specs.LinkState.{LinkSide, initial_link}
use Rattle.nr_endpoint.specs.Calls.{after_call}
use Rattle.nr_endpoint.specs.Calls.Call.{Release}
use Rattle.nr_endpoint.specs.Offering.{one_of, offered_count, outside_buffer, outside_offered, with_buffer, with_read, with_write_buffer, with_offered}
use Rattle.nr_requester.specs.HeldBytes.{NothingOutside}

-- ---- As it is opened

initial_next : (first_stag : ℕ) (terms : SideTerms) (earlier : Option Agreement) → (initial_link Initiator 1 first_stag terms earlier).state.memory.next ≡ first_stag
unfolding initial_link initial_memory
initial_next first_stag terms earlier = refl

pub opened_outside : (e : EndpointState) (first_stag : ℕ) (terms : SideTerms) (earlier : Option Agreement) → e.link ≡ initial_link Initiator 1 first_stag terms earlier → e.outside ≡ empty → first_stag ≤ 2 ^ 32 → NothingOutside e
opened_outside e first_stag terms earlier is none fits =
    let next : e.link.state.memory.next ≡ first_stag = ap (λ (l : LinkSide). l.state.memory.next) is ∙ initial_next first_stag terms earlier in
    subst (λ (n : ℕ). IsTotal outside_len n 0 e.outside) (sym next) (subst (λ (m : FinMap nat_cmp Outside). IsTotal outside_len first_stag 0 m) (sym none) (sound_initial outside_len first_stag fits))

-- ---- A region is released

release_next : (link : LinkSide) (stag : ℕ) → (after_call link (Release stag)).state.memory.next ≡ link.state.memory.next
unfolding after_call after_release
release_next link stag = refl

not_there : (stag : ℕ) (outside : FinMap nat_cmp Outside) → get outside stag ≡ None → remove outside stag ≡ outside
not_there stag outside none =
    same_map nat_cmp_total nat_cmp-IsAntisymmetric (remove outside stag) outside (λ q. elim (cases_eq q stag) [
      | inl e ↦ ap (λ (k : ℕ). get (remove outside stag) k) e ∙ get_remove_here outside stag ∙ sym none ∙ ap (λ (k : ℕ). get outside k) (sym e)
      | inr ne ↦ get_remove_other outside stag q ne
    ])

released_by : (next stag : ℕ) (outside : FinMap nat_cmp Outside) (o : Option Outside) → get outside stag ≡ o → IsTotal outside_len next 0 outside → IsTotal outside_len next 0 (remove outside stag)
released_by next stag outside None there s = subst (λ (m : FinMap nat_cmp Outside). IsTotal outside_len next 0 m) (sym (not_there stag outside there)) s
released_by next stag outside (Some x) there s = subst (λ (n : ℕ). IsTotal outside_len next n (remove outside stag)) (omega arith) (sound_release outside_len next 0 outside stag x s there)

pub released_outside : (e e2 : EndpointState) (stag : ℕ) → e2.link ≡ after_call e.link (Release stag) → e2.outside ≡ remove e.outside stag → NothingOutside e → NothingOutside e2
released_outside e e2 stag link_is is s =
    let next : e2.link.state.memory.next ≡ e.link.state.memory.next = ap (λ (l : LinkSide). l.state.memory.next) link_is ∙ release_next e.link stag in
    subst (λ (n : ℕ). IsTotal outside_len n 0 e2.outside) (sym next)
    (subst (λ (m : FinMap nat_cmp Outside). IsTotal outside_len e.link.state.memory.next 0 m) (sym is) (released_by e.link.state.memory.next stag e.outside (get e.outside stag) refl s))

-- ---- Buffers are registered

next_one : (m : RegisteredMemory) (right : Right) (buf : Option (List ℕ)) → (with_buffer m right buf).next ≡ m.next + one_of buf
unfolding after_register
next_one m right None = omega arith
next_one m right (Some buf) = refl

one_more : (m : RegisteredMemory) (right : Right) (buf : Option (List ℕ)) (outside : FinMap nat_cmp Outside) → m.next + one_of buf ≤ 2 ^ 32 → IsTotal outside_len m.next 0 outside → IsTotal outside_len (with_buffer m right buf).next 0 (outside_buffer m buf outside)
unfolding after_register
one_more m right None outside fits s = s
one_more m right (Some buf) outside fits s = sound_register outside_len m.next 0 outside nothing_outside s (omega (arith, fits)) (omega arith)

pub offered_outside : (e e2 : EndpointState) (o : Offered) → e2.link.state.memory ≡ with_offered e.link.state.memory o → e2.outside ≡ outside_offered e.link.state.memory o e.outside → e.link.state.memory.next + offered_count o ≤ 2 ^ 32 → NothingOutside e → NothingOutside e2
offered_outside e e2 o memory is fits s =
    let m : RegisteredMemory = e.link.state.memory in
    let n1 = next_one m Fetch o.read in
    let n2 = next_one (with_read m o) Fill o.write in
    let first = one_more m Fetch o.read e.outside (omega (arith, fits)) s in
    let second = one_more (with_read m o) Fill o.write (outside_buffer m o.read e.outside) (omega (arith, fits, n1)) first in
    let third = one_more (with_write_buffer m o) Fill o.reply (outside_buffer (with_read m o) o.write (outside_buffer m o.read e.outside)) (omega (arith, fits, n1, n2)) second in
    subst (λ (n : RegisteredMemory). IsTotal outside_len n.next 0 e2.outside) (sym memory) (subst (λ (x : FinMap nat_cmp Outside). IsTotal outside_len (with_offered m o).next 0 x) (sym is) third)

pub same_outside : (e e2 : EndpointState) → e2.link.state.memory.next ≡ e.link.state.memory.next → e2.outside ≡ e.outside → NothingOutside e → NothingOutside e2
same_outside e e2 next is s =
    subst (λ (n : ℕ). IsTotal outside_len n 0 e2.outside) (sym next) (subst (λ (m : FinMap nat_cmp Outside). IsTotal outside_len e.link.state.memory.next 0 m) (sym is) s)
