use Rattle.std.proofs.Common.{ℕ, suc, List, [], length, get_or, sym, ap, subst, ◌∙◌, arith}
use Rattle.nr_endpoint.specs.LinkState.{LinkSide}
use Rattle.nr_endpoint.specs.Receives.{IsReceive}
use Rattle.nr_responder.proofs.Posted.{post_more}
use Rattle.nr_responder.proofs.server_end.post_until.Goals as goal

pub post-requires-clause-len : goal.post-requires-clause-len
post-requires-clause-len c =
    subst (λ (xs : List (List ℕ)). IsReceive c.args.endpoint.now.link.state.receive_queue.receive_length (get_or xs 0 [])) c.in-Some.ensures.items
    (c.posts.invariant.bufs 0 [] (omega (arith, ap (λ (xs : List (List ℕ)). length xs) c.in-Some.ensures.items)))
    ∙ sym (ap (λ (l : LinkSide). l.state.receive_queue.receive_length) c.posts.invariant.link)

pub posts-preserved : goal.posts-preserved
posts-preserved c = record {
  left_are = omega (arith, ap (λ (xs : List (List ℕ)). length xs) c.in-Some.ensures.items, c.posts.invariant.left_are);
  link = c.post.ensures.state ∙ post_more c.args.endpoint.now.link c.posts.endpoint.link c.posts.i c.posts.invariant.link;
  bufs = λ k d lt.
      subst (λ (xs : List (List ℕ)). IsReceive c.args.endpoint.now.link.state.receive_queue.receive_length (get_or xs (suc k) d)) c.in-Some.ensures.items
      (c.posts.invariant.bufs (suc k) d (omega (arith, lt, ap (λ (xs : List (List ℕ)). length xs) c.in-Some.ensures.items)));
  room = c.pop_front.ensures.capacity ∙ c.posts.invariant.room;
  outside = c.post.ensures.outside ∙ c.posts.invariant.outside;
  staging = c.post.ensures.staging ∙ c.posts.invariant.staging;
}
