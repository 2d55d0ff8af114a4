use Rattle.std.proofs.Common.{[], ◌∷◌, ◌++◌, sym, ap, subst, ◌∙◌}
use Rattle.nr_record.specs.RecordsState.{RecordsState, kept, RepresentsStream, KeepsWaiting}
use Rattle.nr_record.proofs.Standing.{byte_stands}
use Rattle.nr_record.proofs.Waiting.{byte_count, byte_keeps}
use Rattle.nr_record.proofs.records.Records.read_header.Goals as goal

pub returns-clause-stands : goal.returns-clause-stands
returns-clause-stands c = λ stream taken s. let k = kept c.args.self.now in
    subst (λ (l : RecordsState). RepresentsStream l (stream ++ c.args.byte ∷ []) taken) (sym c.add_to_header.ensures) (byte_stands c.args.byte k stream taken c.ranges.byte.fits c.requires.state.0 c.requires.state.1 s)

pub returns-clause-count : goal.returns-clause-count
returns-clause-count c = ap (λ (l : RecordsState). l.count) c.add_to_header.ensures ∙ byte_count c.args.byte (kept c.args.self.now)

pub returns-clause-keeps : goal.returns-clause-keeps
returns-clause-keeps c = let k = kept c.args.self.now in subst (λ (l : RecordsState). KeepsWaiting k l) (sym c.add_to_header.ensures) (byte_keeps c.args.byte k)
