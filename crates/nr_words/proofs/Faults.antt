use Rattle.std.proofs.Common.{◌≡◌, ◌⊎◌, refl, sym, ap, ◌∙◌, inl, inr, Bool, true, false, List, [], ◌∷◌, Err}
use Rattle.std.specs.Prelude.{◌||◌}
use Rattle.std.specs.List.{list_any}
use Rattle.std.proofs.lemmas.Bool.{false≢true}
use Rattle.clap.specs.Words.{Text, IsAmong, fault_of}
use Rattle.clap.specs.declared.error.kind.ErrorKind.{ErrorKind}
use Rattle.clap.specs.declared.error.kind.ErrorKind.TheVariants.{OutOfMemory}
use Rattle.nr_words.specs.declared.words.WordsFault.{WordsFault}
use Rattle.nr_words.specs.declared.words.WordsFault.TheVariants.{Asked, Refused, Bad, Memory}
use Rattle.nr_words.specs.Reads.{IsFaultOf, ReadsOther, asks, refuses}
use Rattle.nr_words.specs.Program.{program_app}

or_true : (a b : Bool) → b ≡ true → (a || b) ≡ true
or_true true b e = refl
or_true false b e = e

pub any_among : (p : ErrorKind → Bool) (k : ErrorKind) (ks : List ErrorKind) → IsAmong k ks → p k ≡ true → list_any p ks ≡ true
any_among p k [] h e = absurd h
any_among p k (x ∷ xs) (inl same) e = rw (← same, e) refl
any_among p k (x ∷ xs) (inr more) e = or_true (p x) (list_any p xs) (any_among p k xs more e)

pub read_of_fault : (words : List Text) (k : ErrorKind) (fault : WordsFault) → IsFaultOf k fault → (k ≡ OutOfMemory) ⊎ IsAmong k (fault_of program_app words) → ReadsOther words (Err fault)
read_of_fault words k (Asked text) t (inl memory) = absurd (false≢true (sym (ap asks memory) ∙ t))
read_of_fault words k (Asked text) t (inr among) = any_among asks k (fault_of program_app words) among t
read_of_fault words k (Refused text) t (inl memory) = absurd (false≢true (sym (ap refuses memory) ∙ t))
read_of_fault words k (Refused text) t (inr among) = any_among refuses k (fault_of program_app words) among t
read_of_fault words k Bad t h = absurd t
read_of_fault words k Memory t h = tt
