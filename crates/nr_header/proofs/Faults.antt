-- A fault in the lists is a fault of the message.
use Rattle.std.proofs.Common.{◌≡◌, ℕ, Result, Ok, Err, refl}
use Rattle.std.specs.Prelude.{MatchResult}
use Rattle.nr_xdr.specs.declared.decode.DecodeError.{DecodeError}
use Rattle.nr_xdr.specs.Matching.{MatchesValue}
use Rattle.nr_header.specs.declared.fault.HeaderFault.{HeaderFault}
use Rattle.nr_header.specs.declared.fault.HeaderFault.TheVariants.{BadChunks}
use Rattle.nr_header.specs.declared.header.Body.{Body}
use Rattle.nr_header.specs.declared.header.ChunkLists.{ChunkLists}
use Rattle.nr_header.specs.declared.header.MessageKind.{MessageKind}
use Rattle.nr_header.specs.ReadInto.{body_with}
use Rattle.nr_header.specs.private.ListsRead.{MatchesBody}
use Rattle.nr_header.specs.Reading.{in_lists}

pub body_is : (lists : ChunkLists) (r : Result MessageKind DecodeError) (answer : Result MessageKind HeaderFault) (read : Result Body ℕ) → MatchesValue (λ f. body_with f lists) r read
    → MatchResult r (λ found. answer ≡ Ok found) (λ error. answer ≡ Err (BadChunks error.at)) → MatchesBody lists answer (in_lists read)
body_is lists (Ok found) answer read h is = rw (is, h) refl
body_is lists (Err error) answer read h is = rw (is, h) refl
