use Rattle.std.proofs.Common.{◌++◌, sym, ap, subst, ◌∙◌}
use Rattle.std.specs.Prelude.{IfSome}
use Rattle.nr_regions.specs.RegisteredMemory.{RegisteredMemory, IsHeld}
use Rattle.nr_endpoint.specs.LinkState.{LinkSide}
use Rattle.nr_requester.specs.RequesterState.{stag_of}
use Rattle.nr_reduce.specs.KeptClient.{released_all}
use Rattle.nr_requester.specs.HeldClaims.{claim_list}
use Rattle.nr_requester.specs.AfterPiece.{buffer_under}
use Rattle.nr_requester.specs.Buffers.{with_memory}
use Rattle.nr_requester.proofs.Releases.{first_held, rest_held, held_one, buffers_still, released_claims}
use Rattle.nr_requester.proofs.releasing.release_claims.Goals as goal

pub release_some-read-requires : goal.release_some-read-requires
release_some-read-requires c = first_held c.args.endpoint.now.link.state.memory 0 c.args.claims.read (claim_list c.args.claims.write ++ claim_list c.args.claims.reply) c.requires

pub release_some-write-requires : goal.release_some-write-requires
release_some-write-requires c =
    let m : RegisteredMemory = c.args.endpoint.now.link.state.memory in
    let first = ap (λ (l : LinkSide). l.state.memory) c.release_some-read.ensures.link in
    let held = rest_held m 0 c.args.claims.read (claim_list c.args.claims.write ++ claim_list c.args.claims.reply) c.requires in
    subst (λ (n : RegisteredMemory). IfSome c.args.claims.write (IsHeld n)) (sym first)
    (first_held (released_all m (stag_of c.args.claims.read)) 0 c.args.claims.write (claim_list c.args.claims.reply) held)

pub release_some-reply-requires : goal.release_some-reply-requires
release_some-reply-requires c =
    let m : RegisteredMemory = c.args.endpoint.now.link.state.memory in
    let first = ap (λ (l : LinkSide). l.state.memory) c.release_some-read.ensures.link in
    let second = ap (λ (l : LinkSide). l.state.memory) c.release_some-write.ensures.link ∙ ap (λ (n : RegisteredMemory). released_all n (stag_of c.args.claims.write)) first in
    let held = rest_held (released_all m (stag_of c.args.claims.read)) 0 c.args.claims.write (claim_list c.args.claims.reply) (rest_held m 0 c.args.claims.read (claim_list c.args.claims.write ++ claim_list c.args.claims.reply) c.requires) in
    subst (λ (n : RegisteredMemory). IfSome c.args.claims.reply (IsHeld n)) (sym second)
    (held_one (released_all (released_all m (stag_of c.args.claims.read)) (stag_of c.args.claims.write)) 0 c.args.claims.reply held)

pub returns-clause-buffers : goal.returns-clause-buffers
returns-clause-buffers c =
    let m : RegisteredMemory = c.args.endpoint.now.link.state.memory in
    let n : RegisteredMemory = released_all m (stag_of c.args.claims.read) in
    let first = ap (λ (l : LinkSide). l.state.memory) c.release_some-read.ensures.link in
    let second = ap (λ (l : LinkSide). l.state.memory) c.release_some-write.ensures.link ∙ ap (λ (x : RegisteredMemory). released_all x (stag_of c.args.claims.write)) first in
    let b = buffers_still m 0 c.args.claims c.requires in
    λ i. record {
      read = c.release_some-read.ensures.buffer i;
      write = (c.release_some-write.ensures.buffer ∙ ap (λ (x : RegisteredMemory). buffer_under x c.args.claims.write) first ∙ b.0) i;
      reply = (c.release_some-reply.ensures.buffer ∙ ap (λ (x : RegisteredMemory). buffer_under x c.args.claims.reply) second ∙ b.1) i;
    }

pub returns-clause-link : goal.returns-clause-link
returns-clause-link c =
    c.release_some-reply.ensures.link
    ∙ ap (λ (l : LinkSide). with_memory (released_all l.state.memory (stag_of c.args.claims.reply)) l)
    (c.release_some-write.ensures.link ∙ ap (λ (l : LinkSide). with_memory (released_all l.state.memory (stag_of c.args.claims.write)) l) c.release_some-read.ensures.link)
    ∙ ap (λ (x : RegisteredMemory). with_memory x c.args.endpoint.now.link) (sym (released_claims c.args.endpoint.now.link.state.memory c.args.claims))
