-- Marks of bytes that move, one list after another.
use Rattle.std.proofs.Common.{◌≡◌, ℕ, ◌+◌, List, [], ◌∷◌, ◌++◌, length, Option, arith, refl, sym, ap, subst, ◌∙◌, append_assoc, append-nil}
use Rattle.std.specs.List.{AllByRecursion}
use Rattle.std.specs.Io.KnownBytes.{Appends}
use Rattle.std.proofs.KnownBytes.{Appends-nil, Appends-trans}
use Rattle.std.proofs.lemmas.Grind.{flat_map-append}
use Rattle.std.proofs.lemmas.List.{length-append}
use Rattle.nr_outside.specs.Content.{HandsOut}
use Rattle.nr_outside.proofs.Moves.{HandsOut_append, HandsOut_nil}
use Rattle.nr_wire.specs.declared.hello.Side.TheVariants.{Initiator}
use Rattle.nr_reduce.specs.declared.mark.Mark.{Mark}
use Rattle.nr_reduce.specs.declared.mark.Mark.TheVariants as marks
use Rattle.nr_reduce.specs.History.{bytes_received, bytes_sent, fed_at, written_at}
use Rattle.nr_reduce.proofs.Standing.{itself}
use Rattle.nr_client.specs.Transfers.{IsTransfer, LinkBytes, Moves, link_bytes}

received_both : (link : ℕ) (run more : List Mark) → bytes_received link Initiator (run ++ more) ≡ bytes_received link Initiator run ++ bytes_received link Initiator more
unfolding bytes_received
received_both link run more = flat_map-append (fed_at link Initiator) run more

sent_both : (link : ℕ) (run more : List Mark) → bytes_sent link Initiator (run ++ more) ≡ bytes_sent link Initiator run ++ bytes_sent link Initiator more
unfolding bytes_sent
sent_both link run more = flat_map-append (written_at link Initiator) run more

received_none : (link : ℕ) → bytes_received link Initiator [] ≡ []
unfolding bytes_received
received_none link = refl

sent_none : (link : ℕ) → bytes_sent link Initiator [] ≡ []
unfolding bytes_sent
sent_none link = refl

received_fed : (link : ℕ) (bytes : List ℕ) → bytes_received link Initiator (marks.Fed link Initiator bytes ∷ []) ≡ bytes
unfolding bytes_received
received_fed link bytes = rw (itself link) (append-nil bytes)

sent_fed : (link : ℕ) (bytes : List ℕ) → bytes_sent link Initiator (marks.Fed link Initiator bytes ∷ []) ≡ []
unfolding bytes_sent
sent_fed link bytes = refl

received_wrote : (link : ℕ) (bytes : List ℕ) → bytes_received link Initiator (marks.Wrote link Initiator bytes ∷ []) ≡ []
unfolding bytes_received
received_wrote link bytes = refl

sent_wrote : (link : ℕ) (bytes : List ℕ) → bytes_sent link Initiator (marks.Wrote link Initiator bytes ∷ []) ≡ bytes
unfolding bytes_sent
sent_wrote link bytes = rw (itself link) (append-nil bytes)

own_both : (link : ℕ) (run more : List Mark) → AllByRecursion (IsTransfer link) run → AllByRecursion (IsTransfer link) more → AllByRecursion (IsTransfer link) (run ++ more)
own_both link [] more first second = second
own_both link (m ∷ run) more first second = (first.0, own_both link run more first.1 second)

-- nothing moves
pub stays : (link : ℕ) (b : LinkBytes) → Moves link b b [] []
stays link b = record {
  own = tt;
  handed = subst (λ (bytes : List ℕ). HandsOut b.left b.given b.left b.given (bytes ++ [])) (sym (received_none link)) (HandsOut_nil b.left b.given);
  taken = subst (Appends b.taken b.taken) (sym (sent_none link)) (Appends-nil b.taken);
  count = (let none = ap (λ (bytes : List ℕ). length (bytes ++ [])) (received_none link) in omega (arith, none));
}

-- bytes move, and then more
pub moves_both : (link : ℕ) (b c d : LinkBytes) (ahead : List ℕ) (run more : List Mark) → Moves link b c [] run → Moves link c d ahead more → Moves link b d ahead (run ++ more)
moves_both link b c d ahead run more first second =
    let got = bytes_received link Initiator run in
    let then_got = bytes_received link Initiator more in
    let all : bytes_received link Initiator (run ++ more) ++ ahead ≡ (got ++ []) ++ (then_got ++ ahead) =
    ap (λ (bytes : List ℕ). bytes ++ ahead) (received_both link run more) ∙ append_assoc got then_got ahead
    ∙ ap (λ (bytes : List ℕ). bytes ++ (then_got ++ ahead)) (sym (append-nil got)) in
    record {
      own = own_both link run more first.own second.own;
      handed = subst (HandsOut b.left b.given d.left d.given) (sym all)
          (HandsOut_append b.left b.given c.left c.given d.left d.given (got ++ []) (then_got ++ ahead) first.handed second.handed);
      taken = subst (Appends b.taken d.taken) (sym (sent_both link run more))
          (Appends-trans b.taken c.taken d.taken (bytes_sent link Initiator run) (bytes_sent link Initiator more) first.taken second.taken);
      count = (let a = first.count in let z = second.count in let len = ap length all in let both = length-append (got ++ []) (then_got ++ ahead) in omega (arith, a, z, len, both));
    }

pub moves_wrote : (link : ℕ) (left given taken taken' : Option (List ℕ)) (read : ℕ) (bytes : List ℕ) → Appends taken taken' bytes
    → Moves link (link_bytes left given taken read) (link_bytes left given taken' read) [] (marks.Wrote link Initiator bytes ∷ [])
moves_wrote link left given taken taken' read bytes takes = record {
  own = (refl, tt);
  handed = subst (λ (got : List ℕ). HandsOut left given left given (got ++ [])) (sym (received_wrote link bytes)) (HandsOut_nil left given);
  taken = subst (Appends taken taken') (sym (sent_wrote link bytes)) takes;
  count = (let none = ap (λ (got : List ℕ). length (got ++ [])) (received_wrote link bytes) in omega (arith, none));
}

pub moves_fed : (link : ℕ) (left given left' given' taken : Option (List ℕ)) (read read' : ℕ) (bytes ahead : List ℕ) → HandsOut left given left' given' (bytes ++ ahead)
    → read + length (bytes ++ ahead) ≡ read' → Moves link (link_bytes left given taken read) (link_bytes left' given' taken read') ahead (marks.Fed link Initiator bytes ∷ [])
moves_fed link left given left' given' taken read read' bytes ahead hands counts = record {
  own = (refl, tt);
  handed = subst (λ (got : List ℕ). HandsOut left given left' given' (got ++ ahead)) (sym (received_fed link bytes)) hands;
  taken = subst (Appends taken taken) (sym (sent_fed link bytes)) (Appends-nil taken);
  count = ap (λ (got : List ℕ). read + length (got ++ ahead)) (received_fed link bytes) ∙ counts;
}

-- a read that handed out nothing
pub moves_none : (link : ℕ) (left given left' given' taken : Option (List ℕ)) (read : ℕ) → HandsOut left given left' given' [] → Moves link (link_bytes left given taken read) (link_bytes left' given' taken read) [] []
moves_none link left given left' given' taken read hands = record {
  own = tt;
  handed = subst (λ (got : List ℕ). HandsOut left given left' given' (got ++ [])) (sym (received_none link)) hands;
  taken = subst (Appends taken taken) (sym (sent_none link)) (Appends-nil taken);
  count = (let none = ap (λ (got : List ℕ). length (got ++ [])) (received_none link) in omega (arith, none));
}
