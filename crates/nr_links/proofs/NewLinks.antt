-- Links in memory, as links.
use Rattle.std.proofs.Common.{◌≡◌, ℕ, ◌<◌, ◌+◌, ◌^◌, List, [], Option, Some, None, Result, Ok, Err, OnOk, OnErr, take, drop, length, arith, refl, subst}
use Rattle.std.specs.Prelude.{option_map}
use Rattle.std.proofs.lemmas.Option.{none-some, same_Some}
use Rattle.std.proofs.lemmas.List.{length-map}
use Rattle.nr_links.specs.Links.{IsNewLink, IsNumbered, IsTold, MakesLink, CountsNumber}
use Rattle.nr_links.specs.MemLinks.{MemLinksState, MemState, new_link, after_made, after_failed, link_log, as_ended}
use Rattle.nr_links.specs.declared.mem_links.LinkPlan.{LinkPlan}
use Rattle.nr_links.specs.declared.mem_links.MemLink.{MemLink}

-- a new link in memory of this number
pub record IsNew (number : ℕ) (link : MemLink) : Type 0 where
  pub fresh : IsNewLink (Some (take link.source.inner.place link.source.inner.bytes)) (Some link.sink.inner.bytes) link.source.faults link.sink.faults
  pub given : take link.source.inner.place link.source.inner.bytes ≡ []
  pub taken : link.sink.inner.bytes ≡ []
  pub source : link.source.link ≡ number
  pub sink : link.sink.link ≡ number

-- what is made of a plan is a new link
pub made_new : (number : ℕ) (plan : Option LinkPlan) (link : MemLink) → option_map (new_link number) plan ≡ Some link → IsNew number link
made_new number None link made = absurd (none-some link made)
made_new number (Some plan) link made = subst (IsNew number) (same_Some (new_link number plan) link made) (record {
  fresh = record { nothing_given = refl; nothing_taken = refl; no_source_fault = refl; no_sink_fault = refl };
  given = refl;
  taken = refl;
  source = refl;
  sink = refl;
})

-- the bytes of a new link are told
pub told_new : (s : MemLinksState) (number : ℕ) (link : MemLink) → IsNew number link
    → IsTold (Some (link_log s)) (Some (take link.source.inner.place link.source.inner.bytes)) (Some (drop link.source.inner.place link.source.inner.bytes)) (Some link.sink.inner.bytes)
told_new s number link new = record {
  nothing_given = rw (new.given) refl;
  nothing_taken = rw (new.taken) refl;
  left_told = (drop link.source.inner.place link.source.inner.bytes, refl);
}

-- both halves have its number
pub numbered_new : (s : MemLinksState) (link : MemLink) → IsNew s.made link → IsNumbered (Some (link_log s)) s.made link.source.link link.sink.link
numbered_new s link new = record { source = new.source; sink = new.sink; counts = refl }

-- a call of a dialer or an acceptor that made a link makes one in the log
pub makes_link : {T E : Type 0} (r : Result T E) (s s' : MemState) (asked : List (List ℕ))
    → OnOk r (s' ≡ record { links = after_made s.links; asked = asked }) → OnOk r (length s'.links.ended < s'.links.made)
    → OnOk r (MakesLink (Some (link_log s.links)) (Some (link_log s'.links)))
makes_link (Ok link) s s' asked made room = (rw made refl, omega (arith, room, length-map s'.links.ended as_ended))
makes_link (Err error) s s' asked made room = tt

-- and has the next number
pub counts_number : {T E : Type 0} (r : Result T E) (s s' : MemState) (asked asked' : List (List ℕ))
    → OnOk r (s' ≡ record { links = after_made s.links; asked = asked }) → OnOk r (s'.links.made < 2 ^ 63)
    → OnErr r (s' ≡ record { links = after_failed s.links; asked = asked' })
    → CountsNumber r s.links.made s'.links.made
counts_number (Ok link) s s' asked asked' made few failed =
    let same : s'.links.made ≡ s.links.made + 1 = rw made refl in omega (arith, few, same)
counts_number (Err error) s s' asked asked' made few failed = rw failed refl
