use Rattle.std.proofs.Common.{[], ◌∷◌, sym, ap, ◌∙◌}
use Rattle.nr_turnstile.specs.Passes.{home_of, seen_by}
use Rattle.nr_shared.proofs.Closed.{same_initial_source}
use Rattle.nr_shared.proofs.shared.SharedRequester.close.Goals as goal

pub take_back-requires-clause-feeds : goal.take_back-requires-clause-feeds
take_back-requires-clause-feeds g c = let r = c.requires in let s = c.close-reader.ensures in let f = s.1 in
    (f.0, (f.2, ap (λ b. home_of b.pass.value) (same_initial_source r.initial_source f.0 (seen_by c.args.pass.source) s.0 r.has_seen f.1 s.2) ∙ r.home))

pub returns : goal.returns
returns g c = let r = c.requires in let s = c.close-reader.ensures in let f = s.1 in
    (f.0, (r.has_seen ∙ ap (λ b. b ∷ []) (sym (same_initial_source r.initial_source f.0 (seen_by c.args.pass.source) s.0 r.has_seen f.1 s.2)), c.take_back.ensures f.0 f.2))
