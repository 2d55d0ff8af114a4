use Rattle.std.proofs.Common.{[], ◌∷◌}
use Rattle.nr_shared.proofs.opening.share.Given as goal

abbrev pub ghosts-share_reader : goal.ghosts-share_reader
ghosts-share_reader g a = record { source_history = record { source = a._source.now; dialer = a._dialer.now; addr = a._addr.now; pass = a._pass.now; read = a.reader.read } ∷ [] }
