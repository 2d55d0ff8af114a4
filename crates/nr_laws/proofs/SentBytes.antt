-- Each byte that a client has sent is due for an event of it.
use Rattle.std.proofs.Common.{◌≡◌, ℕ, ◌+◌, List, [], ◌∷◌, ◌++◌, length, None, Some, refl, ap, subst, arith, length-append, inl, inr, ◌⊎◌, zero, suc}
use Rattle.std.specs.Prelude.{slice_get}
use Rattle.nr_wire.specs.declared.hello.Side.TheVariants.{Initiator}
use Rattle.nr_reduce.specs.Hellos.{client_hello}
use Rattle.nr_reduce.specs.declared.mark.LinkParameters.{LinkParameters}
use Rattle.nr_reduce.specs.History.{bytes_sent}
use Rattle.nr_reduce.specs.Events.{RunEvent, events}
use Rattle.nr_reduce.specs.EndRules.{EndState, output_for, output_for_all, next_end_state, end_state_after}
use Rattle.nr_reduce.specs.ClientState.{ClientState}
use Rattle.nr_reduce.specs.Client.{client_rules, initial_client}
use Rattle.nr_reduce.specs.Run.{output_due}
use Rattle.nr_laws.specs.Sent.{ClientSendsWhatIsDue, ServerSendsWhatIsDue, IsSentFor, SentBytesAreAllowed}
use Rattle.nr_laws.proofs.AllowedBytes.{nothing_else_is_disclosed}
use Rattle.nr_laws.proofs.Flows.{sent_up, sent_down}

-- ---- Bytes of lists

got_left : (xs ys : List ℕ) (at byte : ℕ) → slice_get xs at ≡ Some byte → slice_get (xs ++ ys) at ≡ Some byte
got_left [] ys zero byte e = absurd (let wrong : None ≡ Some byte = e in cc)
got_left [] ys (suc at) byte e = absurd (let wrong : None ≡ Some byte = e in cc)
got_left (x ∷ xs) ys zero byte e = e
got_left (x ∷ xs) ys (suc at) byte e = got_left xs ys at byte e

record OfSecond (xs ys : List ℕ) (at byte : ℕ) : Type 0 where
  index : ℕ
  at_is : at ≡ length xs + index
  byte_is : slice_get ys index ≡ Some byte

of_one : (xs ys : List ℕ) (at byte : ℕ) → slice_get (xs ++ ys) at ≡ Some byte → (slice_get xs at ≡ Some byte) ⊎ OfSecond xs ys at byte
of_one [] ys at byte e = inr (record { index = at; at_is = omega arith; byte_is = e })
of_one (x ∷ xs) ys zero byte e = inl e
of_one (x ∷ xs) ys (suc at) byte e = by (of_one xs ys at byte e)
  where
    by : (slice_get xs at ≡ Some byte) ⊎ OfSecond xs ys at byte → (slice_get xs at ≡ Some byte) ⊎ OfSecond (x ∷ xs) ys (suc at) byte
    by (inl h) = inl h
    by (inr h) = inr (record { index = h.index; at_is = (let e = h.at_is in omega (arith, e)); byte_is = h.byte_is })

-- ---- The event of a byte

record ForEvent (opened : LinkParameters) (r : EndState ClientState) (es : List RunEvent) (at byte : ℕ) : Type 0 where
  earlier : List RunEvent
  event : RunEvent
  later : List RunEvent
  is : es ≡ earlier ++ event ∷ later
  index : ℕ
  at_is : at ≡ length (output_for_all (client_rules opened) r earlier) + index
  byte_is : slice_get (output_for (client_rules opened) (end_state_after (client_rules opened) r earlier) event) index ≡ Some byte

for_event : (opened : LinkParameters) (r : EndState ClientState) (es : List RunEvent) (at byte : ℕ) → slice_get (output_for_all (client_rules opened) r es) at ≡ Some byte → ForEvent opened r es at byte
for_event opened r [] zero byte e = absurd (let wrong : None ≡ Some byte = e in cc)
for_event opened r [] (suc at) byte e = absurd (let wrong : None ≡ Some byte = e in cc)
for_event opened r (e ∷ es) at byte is = by (of_one out (output_for_all (client_rules opened) next es) at byte is) (λ index has. for_event opened next es index byte has)
  where
    out : List ℕ
    out = output_for (client_rules opened) r e

    next : EndState ClientState
    next = next_end_state (client_rules opened) r e

    by : (slice_get out at ≡ Some byte) ⊎ OfSecond out (output_for_all (client_rules opened) next es) at byte
        → ((index : ℕ) → slice_get (output_for_all (client_rules opened) next es) index ≡ Some byte → ForEvent opened next es index byte) → ForEvent opened r (e ∷ es) at byte
    by (inl h) rest = record { earlier = []; event = e; later = es; is = refl; index = at; at_is = omega arith; byte_is = h }
    by (inr h) rest =
        let more = rest h.index h.byte_is in
        let one = h.at_is in
        let two = more.at_is in
        let both = length-append out (output_for_all (client_rules opened) next more.earlier) in
        record {
          earlier = e ∷ more.earlier;
          event = more.event;
          later = more.later;
          is = ap (λ (xs : List RunEvent). e ∷ xs) more.is;
          index = more.index;
          at_is = omega (arith, one, two, both);
          byte_is = more.byte_is;
        }

pub client_sends_what_is_due : ClientSendsWhatIsDue
client_sends_what_is_due = sent_up

pub server_sends_what_is_due : ServerSendsWhatIsDue
server_sends_what_is_due = sent_down

pub sent_bytes_are_allowed : SentBytesAreAllowed
unfolding output_due
sent_bytes_are_allowed opened link run at byte asked e = by (of_one (client_hello opened) out at byte due)
  where
    es : List RunEvent
    es = events link Initiator run

    out : List ℕ
    out = output_for_all (client_rules opened) (initial_client opened) es

    due : slice_get (client_hello opened ++ out) at ≡ Some byte
    due =
        let p = sent_up opened link run asked in
        subst (λ (xs : List ℕ). slice_get xs at ≡ Some byte) p.1 (got_left (bytes_sent link Initiator run) p.0 at byte e)

    by : (slice_get (client_hello opened) at ≡ Some byte) ⊎ OfSecond (client_hello opened) out at byte → (slice_get (client_hello opened) at ≡ Some byte) ⊎ IsSentFor opened es at byte
    by (inl h) = inl h
    by (inr h) =
        let f = for_event opened (initial_client opened) es h.index byte h.byte_is in
        let one = h.at_is in
        let two = f.at_is in
        inr (record {
          earlier = f.earlier;
          event = f.event;
          later = f.later;
          is_received = f.is;
          index = f.index;
          offset_is = omega (arith, one, two);
          byte_is = f.byte_is;
          allowed = nothing_else_is_disclosed opened link run f.earlier f.later f.event f.is;
        })
