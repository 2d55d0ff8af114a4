use Rattle.std.proofs.Common.{◌≡◌, refl, List, [], ◌∷◌, true, codes}
use Rattle.clap.specs.Words.{Text, fault_of, is_simple, is_simple_and_free}
use Rattle.clap.specs.declared.error.kind.ErrorKind.TheVariants as kind
use Rattle.std.proofs.Common.{Result, Ok, Err, Option, None, Bor, false, sym, ap, subst, ◌∙◌}
use Rattle.std.specs.List.{list_any}
use Rattle.std.proofs.lemmas.Bool.{false≢true}
use Rattle.nr_words.specs.declared.commands.Command.{Command}
use Rattle.nr_words.specs.declared.words.WordsFault.{WordsFault}
use Rattle.nr_words.specs.declared.words.WordsFault.TheVariants as faults
use Rattle.nr_words.specs.Lines.{line_of}
use Rattle.nr_words.specs.Reads.{IsAsked, Reads, ReadsBy, ReadsOther, asks, refuses}
use Rattle.clap.proofs.OnLiterals.{clap_on_literals}
use Rattle.nr_words.specs.Program.{program_app}

pub known : is_simple_and_free program_app ≡ true
unfolding clap_on_literals program_app
known = refl

pub known_simple : is_simple program_app ≡ true
unfolding clap_on_literals program_app
known_simple = refl

pub help_asked : (name : Text) → fault_of program_app (name ∷ codes "--help" ∷ []) ≡ kind.DisplayHelp ∷ []
unfolding clap_on_literals program_app
help_asked name = refl

pub version_asked : (name : Text) → fault_of program_app (name ∷ codes "--version" ∷ []) ≡ kind.DisplayVersion ∷ []
unfolding clap_on_literals program_app
version_asked name = refl

pub help_of_get : (name : Text) → fault_of program_app (name ∷ codes "get" ∷ codes "--help" ∷ []) ≡ kind.DisplayHelp ∷ []
unfolding clap_on_literals program_app
help_of_get name = refl

pub bare : (name : Text) → fault_of program_app (name ∷ []) ≡ kind.MissingSubcommand ∷ []
unfolding clap_on_literals program_app
bare name = refl

-- words that ask for help, or for the version, get it, unless memory runs out
asked_other : (words : List Text) (result : Result (Command (Bor Text)) WordsFault) → (list_any refuses (fault_of program_app words) ≡ false)
    → (list_any asks (fault_of program_app words) ≡ true) → ReadsOther words result → IsAsked result
asked_other words (Ok command) never asks_it r = absurd (false≢true (sym (ap (list_any asks) r.0) ∙ asks_it))
asked_other words (Err (faults.Asked text)) never asks_it r = tt
asked_other words (Err (faults.Refused text)) never asks_it r = absurd (false≢true (sym never ∙ r))
asked_other words (Err faults.Bad) never asks_it r = absurd (false≢true (sym (ap (list_any asks) r.0) ∙ asks_it))
asked_other words (Err faults.Memory) never asks_it r = tt

asked_by : (words : List Text) (result : Result (Command (Bor Text)) WordsFault) → line_of words ≡ None → (list_any refuses (fault_of program_app words) ≡ false)
    → (list_any asks (fault_of program_app words) ≡ true) → Reads words result → IsAsked result
asked_by words result none never asks_it r = asked_other words result never asks_it (subst (λ (line : Option (Command Text)). ReadsBy line words result) none r)

pub help_shown : (name : Text) (result : Result (Command (Bor Text)) WordsFault) → Reads (name ∷ codes "--help" ∷ []) result → IsAsked result
help_shown name result r = asked_by (name ∷ codes "--help" ∷ []) result refl (ap (list_any refuses) (help_asked name)) (ap (list_any asks) (help_asked name)) r

pub version_shown : (name : Text) (result : Result (Command (Bor Text)) WordsFault) → Reads (name ∷ codes "--version" ∷ []) result → IsAsked result
version_shown name result r = asked_by (name ∷ codes "--version" ∷ []) result refl (ap (list_any refuses) (version_asked name)) (ap (list_any asks) (version_asked name)) r
