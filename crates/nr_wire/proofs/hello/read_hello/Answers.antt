use Rattle.std.proofs.Common.{◌≡◌, ◌≤◌, ◌∙◌, ap, sym, length, take, arith}
use Rattle.nr_xdr.specs.Item.{IsBytes}
use Rattle.nr_wire.specs.declared.hello.Side.{Side}
use Rattle.nr_wire.specs.Hello.{IsAccepted, hello_encoding}
use Rattle.nr_wire.specs.Next.{hello_in}
use Rattle.nr_wire.specs.View.{next_hello}
use Rattle.nr_wire.proofs.Nexts.{if_whole}
use Rattle.nr_wire.proofs.Hellos.{hello_found, hello_again, hello_more, hello_bad}
use Rattle.nr_wire.proofs.hello.read_hello.Goals as goal

pub returns-clause-found : goal.returns-clause-found
returns-clause-found c =
    let side = c.args.side in
    let bytes = c.args.bytes.now in
    let fits : IsBytes bytes = λ i. omega (arith, c.type_inv.bytes i) in
    if_whole (next_hello c.read_hello_inner.result)
    (λ hello len. (hello.side ≡ side) × IsAccepted hello × (take len bytes ≡ hello_encoding hello) × (len ≤ length bytes))
    (λ hello len e.
    let f = hello_found side bytes hello len fits (sym c.read_hello_inner.ensures ∙ e) in
    (f.side_is, f.accepted, f.encoded_is, f.within))

pub returns-clause-only : goal.returns-clause-only
returns-clause-only c = λ hello more same accepted e.
    c.read_hello_inner.ensures ∙ ap (λ (s : Side). hello_in s c.args.bytes.now) (sym same) ∙ ap (hello_in hello.side) e ∙ hello_again hello more accepted

pub returns-clause-more : goal.returns-clause-more
returns-clause-more c = rw c.read_hello_inner.ensures (hello_more c.args.side c.args.bytes.now)

pub returns-clause-bad : goal.returns-clause-bad
returns-clause-bad c = λ reason. rw c.read_hello_inner.ensures (hello_bad c.args.side c.args.bytes.now reason)
