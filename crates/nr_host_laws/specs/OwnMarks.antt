-- The marks of the server's side of a link, and all others.
use Rattle.std.specs.Prelude.{ℕ, ◌==◌, Bool, false, not, List}
use Rattle.std.specs.List.{filter}
use Rattle.nr_wire.specs.declared.hello.Side.TheVariants.{Responder}
use Rattle.nr_reduce.specs.declared.mark.Mark.{Mark}
use Rattle.nr_reduce.specs.declared.mark.Mark.TheVariants as marks

-- the marks of the server's side of a link
abbrev pub is_own : ℕ → Mark → Bool
is_own link (marks.Fed l Responder bytes) = l == link
is_own link (marks.Wrote l Responder bytes) = l == link
is_own link (marks.Execute l xid moment payload place reply) = l == link
is_own link (marks.Told l what) = l == link
is_own link mark = false

abbrev pub own_marks : ℕ → List Mark → List Mark
own_marks link run = filter (is_own link) run

abbrev pub other_marks : ℕ → List Mark → List Mark
other_marks link run = filter (λ mark. not (is_own link mark)) run
