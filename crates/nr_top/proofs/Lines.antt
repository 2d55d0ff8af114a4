-- The ranges of a command of a line.
use Rattle.std.proofs.Common.{◌≡◌, ℕ, ◌<◌, ◌≤◌, Bool, true, false, arith, refl, subst}
use Rattle.std.specs.Prelude.{◌&&◌}
use Rattle.std.proofs.lemmas.Bool.{false≢true}
use Rattle.std.proofs.lemmas.Bool.Decides.{nat_tests}
use Rattle.std.specs.Borrow.{Bor}
use Rattle.nr_client.specs.Jobs.{jobs_max}
use Rattle.nr_words.specs.Lines.{Text, is_positional, plain_client, plain_command}
use Rattle.nr_words.specs.Limits.{tries_max}
use Rattle.nr_words.specs.Reads.{are_jobs, are_tries, are_units, is_client, is_command, is_number}
use Rattle.nr_words.specs.declared.commands.Command.{Command}
use Rattle.nr_words.specs.declared.commands.GetByJobs.{GetByJobs}
use Rattle.nr_words.specs.declared.commands.NumberedClient.{NumberedClient}
use Rattle.nr_words.specs.declared.commands.Command.TheVariants as commands
use Rattle.nr_top.specs.Sources.{HasRanges}
use Rattle.nr_top.specs.declared.drill.ScriptSource.TheVariants as sources

ranges : (seed clients calls : ℕ) (log : Bool) → is_command (commands.GeneratedDrill seed clients calls log) ≡ true → HasRanges (sources.Seed seed clients calls)
ranges seed clients calls log possible = grind (arith, possible)

-- a script is made for its clients and calls
pub has_ranges : (command : Command (Bor Text)) (seed clients calls : ℕ) (log : Bool) → command ≡ commands.GeneratedDrill seed clients calls log → is_command (plain_command command) ≡ true
    → HasRanges (sources.Seed seed clients calls)
has_ranges command seed clients calls log is possible =
    ranges seed clients calls log (subst (λ (k : Command (Bor Text)). is_command (plain_command k) ≡ true) is possible)

last_of : (a b c d e : Bool) → (a && b && c && d && e) ≡ true → e ≡ true
last_of true true true true e is = is
last_of true true true false e is = absurd (false≢true is)
last_of true true false d e is = absurd (false≢true is)
last_of true false c d e is = absurd (false≢true is)
last_of false b c d e is = absurd (false≢true is)

few_jobs : (jobs : ℕ) → are_jobs jobs ≡ true → (0 < jobs) × (jobs ≤ jobs_max)
few_jobs jobs is = grind (arith, nat_tests, is)

-- a `get` has 2 to 16 jobs
pub has_jobs : (command : Command (Bor Text)) (get : GetByJobs (Bor Text)) → command ≡ commands.GetByJobs get → is_command (plain_command command) ≡ true → (0 < get.jobs) × (get.jobs ≤ jobs_max)
has_jobs command get is possible =
    few_jobs get.jobs (last_of (is_positional get.addr.now) (is_positional get.export.now) (is_positional get.path.now) (are_units get.units) (are_jobs get.jobs)
    (subst (λ (k : Command (Bor Text)). is_command (plain_command k) ≡ true) is possible))

both_of : (a b c : Bool) → (a && b && c) ≡ true → (b ≡ true) × (c ≡ true)
both_of true true true is = (refl, refl)
both_of true true false is = absurd (false≢true is)
both_of true false c is = absurd (false≢true is)
both_of false b c is = absurd (false≢true is)

few_numbers : (number tries : ℕ) → is_number number ≡ true → are_tries tries ≡ true → (0 < number) × (tries ≤ tries_max)
few_numbers number tries a b = grind (arith, nat_tests, a, b)

-- the number of a client isn't 0, and its tries are at most 16
pub has_numbers : (command : Command (Bor Text)) (client : NumberedClient (Bor Text)) → command ≡ commands.NumberedClient client → is_command (plain_command command) ≡ true
    → (0 < client.number) × (client.tries ≤ tries_max)
has_numbers command client is possible =
    let both = both_of (is_client (plain_client client.client)) (is_number client.number) (are_tries client.tries)
    (subst (λ (k : Command (Bor Text)). is_command (plain_command k) ≡ true) is possible) in
    few_numbers client.number client.tries both.0 both.1
