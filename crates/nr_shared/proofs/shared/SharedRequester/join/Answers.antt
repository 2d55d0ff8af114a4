use Rattle.std.proofs.Common.{sym, ◌∙◌}
use Rattle.nr_turnstile.specs.Passes.{seen_by}
use Rattle.nr_shared.proofs.Ends.{law_joined}
use Rattle.nr_shared.proofs.Resting.{caller_joined, joined_one, keeps_first, keeps_second}
use Rattle.nr_shared.proofs.shared.SharedRequester.join.Goals as goal

pub returns-clause-rests : goal.returns-clause-rests
returns-clause-rests g c = let r = c.requires.0 in let o = c.requires.1 in record {
  main = c.join.ensures.rests.0;
  source = c.join-2.ensures.rests.0;
  initial_source = r.initial_source;
  has_seen = joined_one (seen_by c.args.pass.now.source) (seen_by c.args.other.source) (seen_by c.join-2.new.pass) r.initial_source o.initial_source c.join-2.ensures.joined.0 r.has_seen o.has_seen;
  home = r.home;
  caller = caller_joined c.args.pass.now.main c.args.other.main c.join.new.pass r.caller o.caller c.join.ensures.joined;
  law = law_joined (seen_by c.args.pass.now.main) (seen_by c.args.other.main) (seen_by c.join.new.pass) c.join.ensures.joined.0 r.law o.law;
}

pub returns-clause-keeps : goal.returns-clause-keeps
returns-clause-keeps g c = let r = c.requires.0 in let o = c.requires.1 in let j = c.join.ensures.joined in (
  keeps_first c.args.pass.now.main c.args.other.main c.join.new.pass r.caller o.caller j,
  keeps_second c.args.pass.now.main c.args.other.main c.join.new.pass r.caller o.caller j,
)

pub returns-clause-source : goal.returns-clause-source
returns-clause-source g c = let r = c.requires.0 in let o = c.requires.1 in
    joined_one (seen_by c.args.pass.now.source) (seen_by c.args.other.source) (seen_by c.join-2.new.pass) r.initial_source o.initial_source c.join-2.ensures.joined.0 r.has_seen o.has_seen ∙ sym r.has_seen

pub returns-clause-longer : goal.returns-clause-longer
returns-clause-longer g c = c.join.ensures.joined.0
