-- The command of a line is one that a line can ask for: its positionals are positionals, its numbers in their ranges.
use Rattle.std.proofs.Common.{◌≡◌, ℕ, ◌<◌, ◌≤◌, Bool, true, false, cond, eqb, zero, suc, List, [], ◌∷◌, Option, Some, None, option_map, refl, sym, subst, arith}
use Rattle.std.specs.Prelude.{◌&&◌, nat_le, is_some, option_and_then, unwrap_or}
use Rattle.std.proofs.lemmas.Bool.Decides.{nat_tests}
use Rattle.std.proofs.lemmas.Bool.{eqb-true, false≢true}
use Rattle.std.proofs.lemmas.Option.{option_and_then_some, same_Some, none-some}
use Rattle.nr_words.specs.declared.commands.Command.{Command}
use Rattle.nr_words.specs.declared.commands.Command.TheVariants as commands
use Rattle.nr_words.specs.declared.commands.Client.{Client}
use Rattle.nr_words.specs.declared.commands.GetByJobs.{GetByJobs}
use Rattle.nr_words.specs.declared.commands.Action.{Action}
use Rattle.nr_words.specs.declared.commands.Action.TheVariants as actions
use Rattle.nr_words.specs.declared.lines.Subcommand.{Subcommand}
use Rattle.nr_words.specs.declared.lines.Subcommand.TheVariants as subcommands
use Rattle.nr_words.specs.declared.options.OptionName.{OptionName}
use Rattle.nr_words.specs.declared.options.OptionName.TheVariants as option_names
use Rattle.nr_words.specs.declared.options.Options.{Options}
use Rattle.nr_words.specs.declared.lines.Positionals.{Positionals}
use Rattle.nr_words.specs.declared.lines.State.{State}
use Rattle.nr_words.specs.Limits.{calls_max, client_number_max, clients_max, default_jobs, default_units, jobs_max, tries_max, units_max}
use Rattle.nr_words.specs.Numbers.{has_leading_zero, number_within, numeral_within, value_after, within}
use Rattle.nr_words.specs.Lines.{Text, after_free_word, after_name, after_word, arity, by_jobs, client, client_of, complete, drill_of, finished, get_of, is_positional, line_of, once, option_named, start, step, steps, subcommand_named, takes, with_invalidate, with_log, with_number, with_positional, with_value, without_number}
use Rattle.nr_words.specs.Reads.{are_jobs, are_tries, are_units, is_action, is_client, is_command, is_number}

-- ---- Numbers in their ranges

abbrev InRange : (low high : ℕ) → Option ℕ → Type 0
InRange low high None = Unit {0}
InRange low high (Some n) = (low ≤ n) × (n ≤ high)

within_fits : (low high : ℕ) (value : Option ℕ) → InRange low high (within low high value)
within_fits low high None = tt
within_fits low high (Some n) = by (nat_le low n) (nat_le n high) refl refl
  where
    by : (a b : Bool) → nat_le low n ≡ a → nat_le n high ≡ b → InRange low high (cond (a && b) (Some n) None)
    by true true p q = grind (arith, nat_tests, p, q)
    by true false p q = tt
    by false b p q = tt

number_fits : (low high : ℕ) (text : Text) → InRange low high (number_within low high text)
number_fits low high [] = tt
number_fits low high (byte ∷ bytes) = within_fits low high (value_after 0 (byte ∷ bytes))

numeral_fits : (low high : ℕ) (text : Text) → InRange low high (numeral_within low high text)
numeral_fits low high text = by (has_leading_zero text)
  where
    by : (b : Bool) → InRange low high (cond b None (number_within low high text))
    by true = tt
    by false = number_fits low high text

record OptionsFit (o : Options) : Type 0 where
  inline : InRange 1 units_max o.inline
  number : InRange 1 client_number_max o.number
  tries : InRange 0 tries_max o.tries
  jobs : InRange 1 jobs_max o.jobs
  clients : InRange 1 clients_max o.clients
  calls : InRange 1 calls_max o.calls

once_fits : (old value : Option ℕ) (with_number : ℕ → Options) (o : Options) → once old value with_number ≡ Some o → ((n : ℕ) → value ≡ Some n → OptionsFit (with_number n)) → OptionsFit o
once_fits None (Some n) with_number o e f = subst OptionsFit (same_Some _ _ e) (f n refl)
once_fits None None with_number o e f = absurd (none-some _ e)
once_fits (Some m) value with_number o e f = absurd (none-some _ e)

value_fits : (o : Options) (name : OptionName) (word : Text) (t : Options) → OptionsFit o → with_value o name word ≡ Some t → OptionsFit t
value_fits o option_names.Uid word t fits e = once_fits o.uid _ _ t e (λ n is. record { inline = fits.inline; number = fits.number; tries = fits.tries; jobs = fits.jobs; clients = fits.clients; calls = fits.calls })
value_fits o option_names.Gid word t fits e = once_fits o.gid _ _ t e (λ n is. record { inline = fits.inline; number = fits.number; tries = fits.tries; jobs = fits.jobs; clients = fits.clients; calls = fits.calls })
value_fits o option_names.Inline word t fits e = once_fits o.inline _ _ t e (λ n is. record { inline = subst (InRange 1 units_max) is (numeral_fits 1 units_max word); number = fits.number; tries = fits.tries; jobs = fits.jobs; clients = fits.clients; calls = fits.calls })
value_fits o option_names.Invalidate word t fits e = absurd (none-some _ e)
value_fits o option_names.Client word t fits e = once_fits o.number _ _ t e (λ n is. record { inline = fits.inline; number = subst (InRange 1 client_number_max) is (numeral_fits 1 client_number_max word); tries = fits.tries; jobs = fits.jobs; clients = fits.clients; calls = fits.calls })
value_fits o option_names.Tries word t fits e = once_fits o.tries _ _ t e (λ n is. record { inline = fits.inline; number = fits.number; tries = subst (InRange 0 tries_max) is (numeral_fits 0 tries_max word); jobs = fits.jobs; clients = fits.clients; calls = fits.calls })
value_fits o option_names.Jobs word t fits e = once_fits o.jobs _ _ t e (λ n is. record { inline = fits.inline; number = fits.number; tries = fits.tries; jobs = subst (InRange 1 jobs_max) is (numeral_fits 1 jobs_max word); clients = fits.clients; calls = fits.calls })
value_fits o option_names.Seed word t fits e = once_fits o.seed _ _ t e (λ n is. record { inline = fits.inline; number = fits.number; tries = fits.tries; jobs = fits.jobs; clients = fits.clients; calls = fits.calls })
value_fits o option_names.Clients word t fits e = once_fits o.clients _ _ t e (λ n is. record { inline = fits.inline; number = fits.number; tries = fits.tries; jobs = fits.jobs; clients = subst (InRange 1 clients_max) is (numeral_fits 1 clients_max word); calls = fits.calls })
value_fits o option_names.Calls word t fits e = once_fits o.calls _ _ t e (λ n is. record { inline = fits.inline; number = fits.number; tries = fits.tries; jobs = fits.jobs; clients = fits.clients; calls = subst (InRange 1 calls_max) is (numeral_fits 1 calls_max word) })
value_fits o option_names.Log word t fits e = absurd (none-some _ e)

invalidate_fits : (o : Options) (t : Options) → OptionsFit o → with_invalidate o ≡ Some t → OptionsFit t
invalidate_fits o t fits e = by o.invalidates e
  where
    by : (b : Bool) → cond b None (Some (record o { invalidates = true })) ≡ Some t → OptionsFit t
    by true e = absurd (none-some t e)
    by false e = subst OptionsFit (same_Some _ t e) (record { inline = fits.inline; number = fits.number; tries = fits.tries; jobs = fits.jobs; clients = fits.clients; calls = fits.calls })

log_fits : (o : Options) (t : Options) → OptionsFit o → with_log o ≡ Some t → OptionsFit t
log_fits o t fits e = by o.log e
  where
    by : (b : Bool) → cond b None (Some (record o { log = true })) ≡ Some t → OptionsFit t
    by true e = absurd (none-some t e)
    by false e = subst OptionsFit (same_Some _ t e) (record { inline = fits.inline; number = fits.number; tries = fits.tries; jobs = fits.jobs; clients = fits.clients; calls = fits.calls })

-- ---- Positionals

record PositionalsFit (p : Positionals Text) : Type 0 where
  first : 0 < p.count → is_positional p.first ≡ true
  second : 1 < p.count → is_positional p.second ≡ true
  third : 2 < p.count → is_positional p.third ≡ true
  fourth : 3 < p.count → is_positional p.fourth ≡ true

positional_fits : (p : Positionals Text) (word : Text) (t : Positionals Text) → PositionalsFit p → is_positional word ≡ true → with_positional p word ≡ Some t → PositionalsFit t
positional_fits p word t fits good e = by (eqb p.count 0) (eqb p.count 1) (eqb p.count 2) (eqb p.count 3) refl refl refl e
  where
    by : (a b c d : Bool) → eqb p.count 1 ≡ b → eqb p.count 2 ≡ c → eqb p.count 3 ≡ d
        → cond a (Some (record p { count = 1; first = word })) (cond b (Some (record p { count = 2; second = word })) (cond c (Some (record p { count = 3; third = word })) (cond d (Some (record p { count = 4; fourth = word })) None))) ≡ Some t → PositionalsFit t
    by true b c d is1 is2 is3 e = subst PositionalsFit (same_Some _ _ e) (record {
      first = λ lt. good;
      second = λ lt. absurd (omega (arith, lt));
      third = λ lt. absurd (omega (arith, lt));
      fourth = λ lt. absurd (omega (arith, lt));
    })
    by false true c d is1 is2 is3 e = let n : p.count ≡ 1 = eqb-true p.count 1 is1 in subst PositionalsFit (same_Some _ _ e) (record {
      first = λ lt. fits.first (omega (arith, n));
      second = λ lt. good;
      third = λ lt. absurd (omega (arith, lt));
      fourth = λ lt. absurd (omega (arith, lt));
    })
    by false false true d is1 is2 is3 e = let n : p.count ≡ 2 = eqb-true p.count 2 is2 in subst PositionalsFit (same_Some _ _ e) (record {
      first = λ lt. fits.first (omega (arith, n));
      second = λ lt. fits.second (omega (arith, n));
      third = λ lt. good;
      fourth = λ lt. absurd (omega (arith, lt));
    })
    by false false false true is1 is2 is3 e = let n : p.count ≡ 3 = eqb-true p.count 3 is3 in subst PositionalsFit (same_Some _ _ e) (record {
      first = λ lt. fits.first (omega (arith, n));
      second = λ lt. fits.second (omega (arith, n));
      third = λ lt. fits.third (omega (arith, n));
      fourth = λ lt. good;
    })
    by false false false false is1 is2 is3 e = absurd (none-some _ e)

-- ---- Word by word

record StateFits (s : State Text) : Type 0 where
  options : OptionsFit s.options
  positionals : PositionalsFit s.positionals

mapped : {A B : Type 0} (f : A → B) (o : Option A) (y : B) (P : B → Type 0) → option_map f o ≡ Some y → ((x : A) → o ≡ Some x → P (f x)) → P y
mapped f None y P e k = absurd (none-some y e)
mapped f (Some x) y P e k = subst P (same_Some (f x) y e) (k x refl)

waiting_fits : (s : State Text) (name : OptionName) (t : State Text) → StateFits s → Some (record s { waiting = Some name }) ≡ Some t → StateFits t
waiting_fits s name t fits e = subst StateFits (same_Some _ t e) (record { options = fits.options; positionals = fits.positionals })

name_fits : (s : State Text) (name : OptionName) (t : State Text) → StateFits s → after_name s name ≡ Some t → StateFits t
name_fits s option_names.Invalidate t fits e = mapped _ (with_invalidate s.options) t StateFits e (λ o is. record { options = invalidate_fits s.options o fits.options is; positionals = fits.positionals })
name_fits s option_names.Log t fits e = mapped _ (with_log s.options) t StateFits e (λ o is. record { options = log_fits s.options o fits.options is; positionals = fits.positionals })
name_fits s option_names.Uid t fits e = waiting_fits s _ t fits e
name_fits s option_names.Gid t fits e = waiting_fits s _ t fits e
name_fits s option_names.Inline t fits e = waiting_fits s _ t fits e
name_fits s option_names.Client t fits e = waiting_fits s _ t fits e
name_fits s option_names.Tries t fits e = waiting_fits s _ t fits e
name_fits s option_names.Jobs t fits e = waiting_fits s _ t fits e
name_fits s option_names.Seed t fits e = waiting_fits s _ t fits e
name_fits s option_names.Clients t fits e = waiting_fits s _ t fits e
name_fits s option_names.Calls t fits e = waiting_fits s _ t fits e

free_word_fits : (subcommand : Subcommand) (s : State Text) (name : Option OptionName) (word : Text) (t : State Text) → StateFits s → after_free_word subcommand s name word ≡ Some t → StateFits t
free_word_fits subcommand s (Some name) word t fits e = by (takes subcommand name) e
  where
    by : (b : Bool) → cond b (after_name s name) None ≡ Some t → StateFits t
    by true e = name_fits s name t fits e
    by false e = absurd (none-some t e)
free_word_fits subcommand s None word t fits e = by (is_positional word) refl e
  where
    by : (b : Bool) → is_positional word ≡ b → cond b (option_map (λ (p : Positionals Text). record s { positionals = p }) (with_positional s.positionals word)) None ≡ Some t → StateFits t
    by true good e = mapped _ (with_positional s.positionals word) t StateFits e (λ p is. record { options = fits.options; positionals = positional_fits s.positionals word p fits.positionals good is })
    by false good e = absurd (none-some t e)

word_fits : (subcommand : Subcommand) (s : State Text) (waiting : Option OptionName) (word : Text) (t : State Text) → StateFits s → after_word subcommand s waiting word ≡ Some t → StateFits t
word_fits subcommand s (Some name) word t fits e = mapped _ (with_value s.options name word) t StateFits e (λ o is. record { options = value_fits s.options name word o fits.options is; positionals = fits.positionals })
word_fits subcommand s None word t fits e = free_word_fits subcommand s (option_named word) word t fits e

steps_fit : (subcommand : Subcommand) (s : State Text) (words : List Text) (t : State Text) → StateFits s → steps subcommand s words ≡ Some t → StateFits t
unfolding steps
steps_fit subcommand s [] t fits e = subst StateFits (same_Some s t e) fits
steps_fit subcommand s (word ∷ words) t fits e =
    option_and_then_some (λ (s' : State Text). steps subcommand s' words) (step subcommand s word) t e
    (λ s' is more. steps_fit subcommand s' words t (word_fits subcommand s s.waiting word s' fits is) more)

start_fits : StateFits start
start_fits = record {
  options = record { inline = tt; number = tt; tries = tt; jobs = tt; clients = tt; calls = tt };
  positionals = record {
    first = λ lt. absurd (omega (arith, lt));
    second = λ lt. absurd (omega (arith, lt));
    third = λ lt. absurd (omega (arith, lt));
    fourth = λ lt. absurd (omega (arith, lt));
  };
}

-- ---- The command

drill_possible : (seed clients calls : Option ℕ) (log : Bool) (c : Command Text) → InRange 1 clients_max clients → InRange 1 calls_max calls → drill_of seed clients calls log ≡ Some c → is_command c ≡ true
drill_possible None None None log c a b e = subst (λ (x : Command Text). is_command x ≡ true) (same_Some _ c e) refl
drill_possible (Some seed) (Some n) (Some m) log c a b e =
    subst (λ (x : Command Text). is_command x ≡ true) (same_Some _ c e) (grind (arith, nat_tests, a.0, a.1, b.0, b.1))
drill_possible None None (Some m) log c a b e = absurd (none-some c e)
drill_possible None (Some n) calls log c a b e = absurd (none-some c e)
drill_possible (Some seed) None calls log c a b e = absurd (none-some c e)
drill_possible (Some seed) (Some n) None log c a b e = absurd (none-some c e)

units_possible : (inline : Option ℕ) → InRange 1 units_max inline → are_units (unwrap_or inline default_units) ≡ true
units_possible None h = refl
units_possible (Some n) h = grind (arith, nat_tests, h.0, h.1)

number_possible : (number : ℕ) → (1 ≤ number) × (number ≤ client_number_max) → is_number number ≡ true
number_possible number h = grind (arith, nat_tests, h.0, h.1)

tries_possible : (tries : ℕ) → (0 ≤ tries) × (tries ≤ tries_max) → are_tries tries ≡ true
tries_possible tries h = grind (arith, nat_tests, h.1)

numbered_possible : (number tries : Option ℕ) (client : Client Text) (c : Command Text) → InRange 1 client_number_max number → InRange 0 tries_max tries → is_client client ≡ true
    → with_number number tries client ≡ Some c → is_command c ≡ true
numbered_possible None None client c a b good e = subst (λ (x : Command Text). is_command x ≡ true) (same_Some _ c e) good
numbered_possible (Some number) (Some tries) client c a b good e =
    let has_number = number_possible number a in
    let has_tries = tries_possible tries b in
    subst (λ (x : Command Text). is_command x ≡ true) (same_Some _ c e) (rw (good, has_number, has_tries) refl)
numbered_possible None (Some tries) client c a b good e = absurd (none-some c e)
numbered_possible (Some number) None client c a b good e = absurd (none-some c e)

client_possible : (o : Options) (p : Positionals Text) (action : Action Text) (c : Command Text) → OptionsFit o → PositionalsFit p → 2 ≤ p.count → is_action action ≡ true → client o p action ≡ Some c → is_command c ≡ true
client_possible o p action c opt fits two good e =
    let one = fits.first (omega (arith, two)) in
    let other = fits.second (omega (arith, two)) in
    let units = units_possible o.inline opt.inline in
    numbered_possible o.number o.tries (client_of o p action) c opt.number opt.tries (rw (one, other, units, good) refl) e

jobs_fit : (jobs : Option ℕ) → InRange 1 jobs_max jobs → (1 ≤ unwrap_or jobs default_jobs) × (unwrap_or jobs default_jobs ≤ jobs_max)
jobs_fit None h = (omega arith, omega arith)
jobs_fit (Some n) h = h

past_one : (n : ℕ) → 1 ≤ n → eqb n 1 ≡ false → 2 ≤ n
past_one zero h e = absurd (omega (arith, h))
past_one (suc zero) h e = absurd (false≢true (sym e))
past_one (suc (suc n)) h e = omega arith

jobs_possible : (number tries : Option ℕ) (get : GetByJobs Text) (c : Command Text) → is_command (commands.GetByJobs get) ≡ true → without_number number tries get ≡ Some c → is_command c ≡ true
jobs_possible None None get c good e = subst (λ (x : Command Text). is_command x ≡ true) (same_Some _ c e) good
jobs_possible (Some number) tries get c good e = absurd (none-some c e)
jobs_possible None (Some tries) get c good e = absurd (none-some c e)

get_possible : (o : Options) (p : Positionals Text) (jobs : ℕ) (c : Command Text) → OptionsFit o → PositionalsFit p → p.count ≡ 3 → (1 ≤ jobs) × (jobs ≤ jobs_max) → get_of o p jobs ≡ Some c → is_command c ≡ true
get_possible o p jobs c opt fits n within e = by (eqb jobs 1) refl e
  where
    several : eqb jobs 1 ≡ false → are_jobs jobs ≡ true
    several not_one = grind (arith, nat_tests, past_one jobs within.0 not_one, within.1)

    by : (b : Bool) → eqb jobs 1 ≡ b → cond b (client o p (actions.Get p.third)) (without_number o.number o.tries (by_jobs o p jobs)) ≡ Some c → is_command c ≡ true
    by true is e = client_possible o p _ c opt fits (omega (arith, n)) (fits.third (omega (arith, n))) e
    by false is e =
        let one = fits.first (omega (arith, n)) in
        let other = fits.second (omega (arith, n)) in
        let path = fits.third (omega (arith, n)) in
        let units = units_possible o.inline opt.inline in
        let jobs_are = several is in
        jobs_possible o.number o.tries (by_jobs o p jobs) c (rw (one, other, path, units, jobs_are) refl) e

complete_possible : (subcommand : Subcommand) (o : Options) (p : Positionals Text) (c : Command Text) → OptionsFit o → PositionalsFit p → p.count ≡ arity subcommand → complete subcommand o p ≡ Some c → is_command c ≡ true
complete_possible subcommands.Serve o p c opt fits n e = subst (λ (x : Command Text). is_command x ≡ true) (same_Some _ c e) (fits.first (omega (arith, n)))
complete_possible subcommands.Gate o p c opt fits n e = subst (λ (x : Command Text). is_command x ≡ true) (same_Some _ c e) (fits.first (omega (arith, n)))
complete_possible subcommands.Mount o p c opt fits n e = client_possible o p _ c opt fits (omega (arith, n)) refl e
complete_possible subcommands.List o p c opt fits n e = client_possible o p _ c opt fits (omega (arith, n)) (fits.third (omega (arith, n))) e
complete_possible subcommands.Stat o p c opt fits n e = client_possible o p _ c opt fits (omega (arith, n)) (fits.third (omega (arith, n))) e
complete_possible subcommands.ReadLink o p c opt fits n e = client_possible o p _ c opt fits (omega (arith, n)) (fits.third (omega (arith, n))) e
complete_possible subcommands.MakeDirectory o p c opt fits n e = client_possible o p _ c opt fits (omega (arith, n)) (fits.third (omega (arith, n))) e
complete_possible subcommands.Remove o p c opt fits n e = client_possible o p _ c opt fits (omega (arith, n)) (fits.third (omega (arith, n))) e
complete_possible subcommands.Put o p c opt fits n e = client_possible o p _ c opt fits (omega (arith, n)) (fits.third (omega (arith, n))) e
complete_possible subcommands.Get o p c opt fits n e = get_possible o p (unwrap_or o.jobs default_jobs) c opt fits n (jobs_fit o.jobs opt.jobs) e
complete_possible subcommands.Link o p c opt fits n e =
    let path = fits.third (omega (arith, n)) in
    let target = fits.fourth (omega (arith, n)) in
    client_possible o p _ c opt fits (omega (arith, n)) (rw (path, target) refl) e
complete_possible subcommands.Drill o p c opt fits n e = drill_possible o.seed o.clients o.calls o.log c opt.clients opt.calls e

command_possible : (subcommand : Subcommand) (s : State Text) (c : Command Text) → StateFits s → finished subcommand s ≡ Some c → is_command c ≡ true
command_possible subcommand s c fits e = by (is_some s.waiting) (eqb s.positionals.count (arity subcommand)) refl e
  where
    by : (a b : Bool) → eqb s.positionals.count (arity subcommand) ≡ b → cond a None (cond b (complete subcommand s.options s.positionals) None) ≡ Some c → is_command c ≡ true
    by true b is e = absurd (none-some c e)
    by false false is e = absurd (none-some c e)
    by false true is e = complete_possible subcommand s.options s.positionals c fits.options fits.positionals (eqb-true _ _ is) e

pub line_possible : (words : List Text) (c : Command Text) → line_of words ≡ Some c → is_command c ≡ true
line_possible [] c e = absurd (none-some c e)
line_possible (name ∷ []) c e = absurd (none-some c e)
line_possible (name ∷ word ∷ words) c e =
    option_and_then_some (λ (subcommand : Subcommand). option_and_then (finished subcommand) (steps subcommand start words)) (subcommand_named word) c e
    (λ subcommand named done. option_and_then_some (finished subcommand) (steps subcommand start words) c done
    (λ s walked end. command_possible subcommand s c (steps_fit subcommand start words s start_fits walked) end))
