use Rattle.std.proofs.Common.{arith, slice_get}
use Rattle.std.proofs.lemmas.Grind.{common_steps}
use Rattle.std.proofs.lemmas.Result.{IfOk-weaker}
use Rattle.nr_links.proofs.NewLinks.{made_new, told_new, numbered_new, makes_link, counts_number}
use Rattle.nr_links.proofs.mem_acceptor.MemAcceptorAcceptor.TheImpl.Goals as goal

pub accept-tells : goal.accept-tells
accept-tells c = record {
  before = grind (arith, common_steps);
  listens = grind (arith, common_steps);
  asked = grind (arith, common_steps);
  fresh = IfOk-weaker c.result _ _ (λ link h. (made_new c.args.self.now.links.made (slice_get c.args.self.now.links.plans 0) (record { source = link.0; sink = link.1 }) h).fresh) c.ensures.link;
  told = IfOk-weaker c.result _ _ (λ link h. told_new c.new.self.now.links c.args.self.now.links.made (record { source = link.0; sink = link.1 }) (made_new c.args.self.now.links.made (slice_get c.args.self.now.links.plans 0) (record { source = link.0; sink = link.1 }) h)) c.ensures.link;
  numbered = IfOk-weaker c.result _ _ (λ link h. numbered_new c.args.self.now.links (record { source = link.0; sink = link.1 }) (made_new c.args.self.now.links.made (slice_get c.args.self.now.links.plans 0) (record { source = link.0; sink = link.1 }) h)) c.ensures.link;
  made = makes_link c.result c.args.self.now c.new.self.now _ c.ensures.ok c.ensures.room;
  next = counts_number c.result c.args.self.now c.new.self.now _ _ c.ensures.ok c.ensures.few c.ensures.err;
  lost = grind (arith, common_steps);
  err = grind (arith, common_steps);
  counted = grind (arith, common_steps);
  never_falls = c.ensures.never_falls;
}
