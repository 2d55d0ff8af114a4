use Rattle.std.proofs.Common.{refl, sym, subst}
use Rattle.std.specs.Borrow.{Bor}
use Rattle.nr_outside.specs.Streams.{sink_at, source_at}
use Rattle.nr_words.specs.Lines.{Text, plain_action}
use Rattle.nr_words.specs.declared.commands.Action.{Action}
use Rattle.nr_commands.specs.Running.{text_of_over}
use Rattle.nr_commands.proofs.run.text_of.Goals as goal

pub returns-in-Mount : goal.returns-in-Mount
returns-in-Mount g c =
    subst (λ (a : Action (Bor Text)). text_of_over g.L.Calls.relations c.args.session.now.uid c.args.session.now.gid c.args.export.now (plain_action a) (source_at (g.N.Source.left c.args.input.now) (g.N.Source.given c.args.input.now) (g.N.Source.faults c.args.input.now)) (source_at (g.N.Source.left c.args.input.now) (g.N.Source.given c.args.input.now) (g.N.Source.faults c.args.input.now)) (sink_at (g.K.Sink.taken c.args.out.now) (g.K.Sink.faults c.args.out.now)) (sink_at (g.K.Sink.taken c.args.out.now) (g.K.Sink.faults c.args.out.now)) (g.L.Calls.at c.args.session.now.link) (g.L.Calls.at c.mount_text.new.session.link) c.mount_text.result) (sym c.in-Mount.is) (c.mount_text.ensures.part, (refl, refl))

pub returns-in-List : goal.returns-in-List
returns-in-List g c =
    subst (λ (a : Action (Bor Text)). text_of_over g.L.Calls.relations c.args.session.now.uid c.args.session.now.gid c.args.export.now (plain_action a) (source_at (g.N.Source.left c.args.input.now) (g.N.Source.given c.args.input.now) (g.N.Source.faults c.args.input.now)) (source_at (g.N.Source.left c.args.input.now) (g.N.Source.given c.args.input.now) (g.N.Source.faults c.args.input.now)) (sink_at (g.K.Sink.taken c.args.out.now) (g.K.Sink.faults c.args.out.now)) (sink_at (g.K.Sink.taken c.args.out.now) (g.K.Sink.faults c.args.out.now)) (g.L.Calls.at c.args.session.now.link) (g.L.Calls.at c.list_text.new.session.link) c.list_text.result) (sym c.in-List.is) (c.list_text.ensures.part, (refl, refl))

pub returns-in-Stat : goal.returns-in-Stat
returns-in-Stat g c =
    subst (λ (a : Action (Bor Text)). text_of_over g.L.Calls.relations c.args.session.now.uid c.args.session.now.gid c.args.export.now (plain_action a) (source_at (g.N.Source.left c.args.input.now) (g.N.Source.given c.args.input.now) (g.N.Source.faults c.args.input.now)) (source_at (g.N.Source.left c.args.input.now) (g.N.Source.given c.args.input.now) (g.N.Source.faults c.args.input.now)) (sink_at (g.K.Sink.taken c.args.out.now) (g.K.Sink.faults c.args.out.now)) (sink_at (g.K.Sink.taken c.args.out.now) (g.K.Sink.faults c.args.out.now)) (g.L.Calls.at c.args.session.now.link) (g.L.Calls.at c.stat_text.new.session.link) c.stat_text.result) (sym c.in-Stat.is) (c.stat_text.ensures.part, (refl, refl))

pub returns-in-ReadLink : goal.returns-in-ReadLink
returns-in-ReadLink g c =
    subst (λ (a : Action (Bor Text)). text_of_over g.L.Calls.relations c.args.session.now.uid c.args.session.now.gid c.args.export.now (plain_action a) (source_at (g.N.Source.left c.args.input.now) (g.N.Source.given c.args.input.now) (g.N.Source.faults c.args.input.now)) (source_at (g.N.Source.left c.args.input.now) (g.N.Source.given c.args.input.now) (g.N.Source.faults c.args.input.now)) (sink_at (g.K.Sink.taken c.args.out.now) (g.K.Sink.faults c.args.out.now)) (sink_at (g.K.Sink.taken c.args.out.now) (g.K.Sink.faults c.args.out.now)) (g.L.Calls.at c.args.session.now.link) (g.L.Calls.at c.read_link_text.new.session.link) c.read_link_text.result) (sym c.in-ReadLink.is) (c.read_link_text.ensures.part, (refl, refl))

pub returns-in-MakeDirectory : goal.returns-in-MakeDirectory
returns-in-MakeDirectory g c =
    subst (λ (a : Action (Bor Text)). text_of_over g.L.Calls.relations c.args.session.now.uid c.args.session.now.gid c.args.export.now (plain_action a) (source_at (g.N.Source.left c.args.input.now) (g.N.Source.given c.args.input.now) (g.N.Source.faults c.args.input.now)) (source_at (g.N.Source.left c.args.input.now) (g.N.Source.given c.args.input.now) (g.N.Source.faults c.args.input.now)) (sink_at (g.K.Sink.taken c.args.out.now) (g.K.Sink.faults c.args.out.now)) (sink_at (g.K.Sink.taken c.args.out.now) (g.K.Sink.faults c.args.out.now)) (g.L.Calls.at c.args.session.now.link) (g.L.Calls.at c.make_directory.new.session.link) c.make_directory.result) (sym c.in-MakeDirectory.is) (c.make_directory.ensures.part, (refl, refl))

pub returns-in-Remove : goal.returns-in-Remove
returns-in-Remove g c =
    subst (λ (a : Action (Bor Text)). text_of_over g.L.Calls.relations c.args.session.now.uid c.args.session.now.gid c.args.export.now (plain_action a) (source_at (g.N.Source.left c.args.input.now) (g.N.Source.given c.args.input.now) (g.N.Source.faults c.args.input.now)) (source_at (g.N.Source.left c.args.input.now) (g.N.Source.given c.args.input.now) (g.N.Source.faults c.args.input.now)) (sink_at (g.K.Sink.taken c.args.out.now) (g.K.Sink.faults c.args.out.now)) (sink_at (g.K.Sink.taken c.args.out.now) (g.K.Sink.faults c.args.out.now)) (g.L.Calls.at c.args.session.now.link) (g.L.Calls.at c.remove.new.session.link) c.remove.result) (sym c.in-Remove.is) (c.remove.ensures.part, (refl, refl))

pub returns-in-Link : goal.returns-in-Link
returns-in-Link g c =
    subst (λ (a : Action (Bor Text)). text_of_over g.L.Calls.relations c.args.session.now.uid c.args.session.now.gid c.args.export.now (plain_action a) (source_at (g.N.Source.left c.args.input.now) (g.N.Source.given c.args.input.now) (g.N.Source.faults c.args.input.now)) (source_at (g.N.Source.left c.args.input.now) (g.N.Source.given c.args.input.now) (g.N.Source.faults c.args.input.now)) (sink_at (g.K.Sink.taken c.args.out.now) (g.K.Sink.faults c.args.out.now)) (sink_at (g.K.Sink.taken c.args.out.now) (g.K.Sink.faults c.args.out.now)) (g.L.Calls.at c.args.session.now.link) (g.L.Calls.at c.make_link.new.session.link) c.make_link.result) (sym c.in-Link.is) (c.make_link.ensures.part, (refl, refl))

pub returns-in-Put : goal.returns-in-Put
returns-in-Put g c =
    subst (λ (a : Action (Bor Text)). text_of_over g.L.Calls.relations c.args.session.now.uid c.args.session.now.gid c.args.export.now (plain_action a) (source_at (g.N.Source.left c.args.input.now) (g.N.Source.given c.args.input.now) (g.N.Source.faults c.args.input.now)) (source_at (g.N.Source.left c.put.new.input) (g.N.Source.given c.put.new.input) (g.N.Source.faults c.put.new.input)) (sink_at (g.K.Sink.taken c.args.out.now) (g.K.Sink.faults c.args.out.now)) (sink_at (g.K.Sink.taken c.args.out.now) (g.K.Sink.faults c.args.out.now)) (g.L.Calls.at c.args.session.now.link) (g.L.Calls.at c.put.new.session.link) c.put.result) (sym c.in-Put.is) (c.put.ensures, refl)

pub returns-in-Get : goal.returns-in-Get
returns-in-Get g c =
    subst (λ (a : Action (Bor Text)). text_of_over g.L.Calls.relations c.args.session.now.uid c.args.session.now.gid c.args.export.now (plain_action a) (source_at (g.N.Source.left c.args.input.now) (g.N.Source.given c.args.input.now) (g.N.Source.faults c.args.input.now)) (source_at (g.N.Source.left c.args.input.now) (g.N.Source.given c.args.input.now) (g.N.Source.faults c.args.input.now)) (sink_at (g.K.Sink.taken c.args.out.now) (g.K.Sink.faults c.args.out.now)) (sink_at (g.K.Sink.taken c.get.new.out) (g.K.Sink.faults c.get.new.out)) (g.L.Calls.at c.args.session.now.link) (g.L.Calls.at c.get.new.session.link) c.get.result) (sym c.in-Get.is) (c.get.ensures, refl)
