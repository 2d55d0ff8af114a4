-- The stream of a header that is read, and the limits of its lists.
use Rattle.std.proofs.Common.{◌≡◌, ℕ, List, ◌++◌, length, drop, Result, Ok, Err, refl, sym, ap, subst, ◌∙◌, arith, length-append}
use Rattle.std.specs.Prelude.{IfOk}
use Rattle.std.proofs.Math.Seq.{drop-append_seam}
use Rattle.nr_xdr.specs.Item.{IsBytes}
use Rattle.nr_header.specs.declared.fault.HeaderFault.{HeaderFault}
use Rattle.nr_header.specs.declared.header.Body.{Body}
use Rattle.nr_header.specs.declared.header.Body.TheVariants.{Msg, Nomsg, ErrVers, ErrChunk}
use Rattle.nr_header.specs.declared.header.Header.{Header}
use Rattle.nr_header.specs.declared.header.ChunkLists.{ChunkLists}
use Rattle.nr_header.specs.declared.header.HeaderFields.{HeaderFields}
use Rattle.nr_header.specs.Reading.{header_of}
use Rattle.nr_header.specs.declared.header.MessageKind.{MessageKind}
use Rattle.nr_header.specs.declared.header.MessageKind.TheVariants as kinds
use Rattle.nr_header.specs.declared.header.TransportError.TheVariants as errors
use Rattle.nr_header.specs.private.ListsRead.{HasOwnLists}
use Rattle.nr_header.specs.ReadInto.{body_with, lists_in, lists_of_body, lists_read, with_lists}
use Rattle.nr_header.specs.WithinLimits.{CanRead, StreamAt, IsMessage, StreamWithin, stream_after}
use Rattle.nr_header.proofs.Messages.{header_is_found}

within : (body : Body) (encoded stream bytes : List ℕ) → bytes ≡ encoded ++ stream → StreamAt body (length encoded) → StreamWithin body (length bytes)
within (Msg lists stream_at) encoded stream bytes is at = omega (arith, at, ap (λ (b : List ℕ). length b) is, length-append encoded stream)
within (Nomsg lists) encoded stream bytes is at = tt
within (ErrVers version low high) encoded stream bytes is at = tt
within (ErrChunk version) encoded stream bytes is at = tt

kept : (body : Body) (encoded stream bytes : List ℕ) → bytes ≡ encoded ++ stream → StreamAt body (length encoded) → CanRead body stream → CanRead body (stream_after body bytes)
kept (Msg lists stream_at) encoded stream bytes is at can =
    let same : stream ≡ drop stream_at bytes = sym ((λ i. drop (at i) (is i)) ∙ drop-append_seam encoded stream) in
    subst (CanRead (Msg lists stream_at)) same can
kept (Nomsg lists) encoded stream bytes is at can = subst (CanRead (Nomsg lists)) can.0 can
kept (ErrVers version low high) encoded stream bytes is at can = subst (CanRead (ErrVers version low high)) can can
kept (ErrChunk version) encoded stream bytes is at can = subst (CanRead (ErrChunk version)) can can

pub stream_within : (bytes : List ℕ) (r : Result Header HeaderFault) → IsBytes bytes → r ≡ header_of bytes → IfOk r (λ h. StreamWithin h.body (length bytes))
stream_within bytes (Ok h) fits is =
    let m : IsMessage h bytes = header_is_found bytes (Ok h) fits is in
    within h.body _ m.stream bytes m.parts m.place
stream_within bytes (Err fault) fits is = tt

pub limits_kept : (bytes : List ℕ) (r : Result Header HeaderFault) → IsBytes bytes → r ≡ header_of bytes → IfOk r (λ h. CanRead h.body (stream_after h.body bytes))
limits_kept bytes (Ok h) fits is =
    let m : IsMessage h bytes = header_is_found bytes (Ok h) fits is in
    kept h.body _ m.stream bytes m.parts m.place m.can
limits_kept bytes (Err fault) fits is = tt

-- The same of a header whose lists were read into a room.
pub stream_within_room : (bytes : List ℕ) (lists : ChunkLists) (r : Result HeaderFields HeaderFault) → IsBytes bytes → with_lists lists r ≡ header_of bytes → IfOk r (λ f. StreamWithin (body_with f.kind lists) (length bytes))
stream_within_room bytes lists (Ok f) fits is = stream_within bytes (with_lists lists (Ok f)) fits is
stream_within_room bytes lists (Err fault) fits is = tt

pub limits_kept_in_room : (bytes : List ℕ) (lists : ChunkLists) (r : Result HeaderFields HeaderFault) → IsBytes bytes → with_lists lists r ≡ header_of bytes → IfOk r (λ f. CanRead (body_with f.kind lists) (stream_after (body_with f.kind lists) bytes))
limits_kept_in_room bytes lists (Ok f) fits is = limits_kept bytes (with_lists lists (Ok f)) fits is
limits_kept_in_room bytes lists (Err fault) fits is = tt

own_lists : (kind : MessageKind) (lists : ChunkLists) → HasOwnLists kind lists → lists ≡ lists_of_body (body_with kind lists)
own_lists (kinds.Msg stream_at) lists own = refl
own_lists kinds.Nomsg lists own = refl
own_lists (kinds.Error version (errors.Vers low high)) lists own = own
own_lists (kinds.Error version errors.Chunk) lists own = own

pub lists_in_room : (bytes : List ℕ) (lists : ChunkLists) (r : Result HeaderFields HeaderFault) → with_lists lists r ≡ header_of bytes → IfOk r (λ f. HasOwnLists f.kind lists) → IfOk r (λ _. lists ≡ lists_in bytes)
lists_in_room bytes lists (Ok f) is own = own_lists f.kind lists own ∙ ap lists_read is
lists_in_room bytes lists (Err fault) is own = tt
