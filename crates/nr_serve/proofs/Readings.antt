-- A configuration that is read.
use Rattle.std.proofs.Common.{◌≡◌, ℕ, List, None, refl}
use Rattle.std.specs.Prelude.{◌<◌, length, IfSome}
use Rattle.nr_outside.specs.Content.{HandsOut}
use Rattle.nr_outside.specs.Streams.{SourceAt, ReadsAll}
use Rattle.nr_outside.specs.Whole.{CountAtEnd, LengthAtEnd}
use Rattle.nr_outside.specs.declared.whole.ReadEnd.{ReadEnd}
use Rattle.nr_outside.specs.declared.whole.ReadEnd.TheVariants as ends
use Rattle.nr_words.specs.Settings.{config_of}
use Rattle.nr_words.specs.declared.settings.ConfigFault.{ConfigFault}
use Rattle.nr_words.specs.declared.settings.ConfigFault.TheVariants as faults
use Rattle.nr_outside.specs.Whole.{input_max}
use Rattle.nr_serve.specs.Stops.{StoppedReading, stop_of_config, stop_of_read}

pub reading_stopped : (end : ReadEnd) (input input' : SourceAt) (bytes : List ℕ) → HandsOut input.left input.given input'.left input'.given bytes → LengthAtEnd end input_max bytes
    → CountAtEnd end input.faults input'.faults → (end ≡ ends.TooLong → IfSome input.left (λ left. input_max < length left)) → StoppedReading (stop_of_read end) input input'
reading_stopped ends.Failed input input' bytes reads len count long = ((bytes, reads, len), count)
reading_stopped ends.TooLong input input' bytes reads len count long = (long refl, (bytes, reads, len), count)
reading_stopped ends.Memory input input' bytes reads len count long = ((bytes, reads, len), count)

pub config_stopped : (fault : ConfigFault) (input input' : SourceAt) (text : List ℕ) → ReadsAll input_max input input' text → (fault ≡ faults.Bad → config_of text ≡ None)
    → StoppedReading (stop_of_config fault) input input'
config_stopped faults.Bad input input' text all none = (text, (all, none refl))
config_stopped faults.Memory input input' text all none = ((text, all.handed, all.within), all.unfailing)
