-- Bytes that move over a link.
use Rattle.std.specs.Prelude.{◌≡◌, ℕ, ◌+◌, List, ◌++◌, length, Option}
use Rattle.std.specs.List.{AllByRecursion}
use Rattle.std.specs.Io.KnownBytes.{Appends}
use Rattle.nr_outside.specs.Content.{HandsOut}
use Rattle.nr_wire.specs.declared.hello.Side.TheVariants.{Initiator}
use Rattle.nr_reduce.specs.declared.mark.Mark.{Mark}
use Rattle.nr_reduce.specs.declared.mark.Mark.TheVariants as marks
use Rattle.nr_reduce.specs.History.{bytes_received, bytes_sent}

-- what is known of the source and the sink of a link, and how many bytes were read of it
pub record LinkBytes : Type 0 where
  pub left : Option (List ℕ)
  pub given : Option (List ℕ)
  pub taken : Option (List ℕ)
  pub read : ℕ

abbrev pub link_bytes : (left given taken : Option (List ℕ)) → ℕ → LinkBytes
link_bytes left given taken read = record { left = left; given = given; taken = taken; read = read }

-- a mark of the bytes of this link: its client wrote them, or they were fed to it
abbrev pub IsTransfer : ℕ → Mark → Type 0
IsTransfer link (marks.Wrote l Initiator bytes) = l ≡ link
IsTransfer link (marks.Fed l Initiator bytes) = l ≡ link
IsTransfer link mark = ⊥

-- Between these two moments nothing but these marks was made on the link. The sink took the bytes that they wrote. The source handed out the
-- bytes that they fed, and then `ahead`, and that many were read.
pub record Moves (link : ℕ) (before after : LinkBytes) (ahead : List ℕ) (moved : List Mark) : Type 0 where
  pub own : AllByRecursion (IsTransfer link) moved
  pub handed : HandsOut before.left before.given after.left after.given (bytes_received link Initiator moved ++ ahead)
  pub taken : Appends before.taken after.taken (bytes_sent link Initiator moved)
  pub count : before.read + length (bytes_received link Initiator moved ++ ahead) ≡ after.read
