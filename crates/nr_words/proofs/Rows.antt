use Rattle.std.proofs.Common.{◌≡◌, Option, Some, None, option_map, refl, sym, ap, ap₂, ◌∙◌, Global, Bor, List}
use Rattle.std.specs.Prelude.{Box}
use Rattle.std.specs.Box.{box_value}
use Rattle.std.proofs.lemmas.Option.{same_Some}
use Rattle.clap.specs.Words.{Row, Text, found_of, rows_of, subcommand_rows, subcommand_rows_of, subcommand_name_of}
use Rattle.clap.specs.declared.parser.matches.ArgMatches.{ArgMatches}
use Rattle.clap.specs.declared.parser.matches.SubCommand.{SubCommand}
use Rattle.clap.specs.declared.parser.matches.ArgMatches.TheViews.{out-ArgMatches, out-SubCommand}

go : (r : Option (Bor Text × Bor ArgMatches)) (s : Option (Box SubCommand Global)) → option_map (λ p. p.0.now) r ≡ option_map (λ b. (out-SubCommand (box_value b)).name.now) s
    → option_map (λ p. rows_of (found_of p.1.now)) r ≡ option_map (λ p. p.1) (subcommand_rows s) → subcommand_rows s ≡ option_map (λ p. (p.0.now, rows_of (found_of p.1.now))) r
go None None a b = refl
go None (Some s) a b = cc
go (Some r) None a b = cc
go (Some r) (Some s) a b = ap Some (ap₂ (λ (x : Text) (y : List Row). (x, y)) (sym (same_Some _ _ a)) (sym (same_Some _ _ b)))

pub joined : (r : Option (Bor Text × Bor ArgMatches)) (m : ArgMatches) → option_map (λ p. p.0.now) r ≡ subcommand_name_of m
    → option_map (λ p. rows_of (found_of p.1.now)) r ≡ option_map (λ p. p.1) (subcommand_rows (out-ArgMatches m).subcommand)
    → subcommand_rows_of m ≡ option_map (λ p. (p.0.now, rows_of (found_of p.1.now))) r
joined r m a b = go r (out-ArgMatches m).subcommand a b

-- of a subcommand that was used
pub found_rows : (r : Option (Bor Text × Bor ArgMatches)) (m : ArgMatches) (name : Bor Text) (given : Bor ArgMatches) → r ≡ Some (name, given) → option_map (λ p. p.0.now) r ≡ subcommand_name_of m
    → option_map (λ p. rows_of (found_of p.1.now)) r ≡ option_map (λ p. p.1) (subcommand_rows (out-ArgMatches m).subcommand) → subcommand_rows_of m ≡ Some (name.now, rows_of (found_of given.now))
found_rows r m name given is a b = joined r m a b ∙ ap (λ (o : Option (Bor Text × Bor ArgMatches)). option_map (λ p. (p.0.now, rows_of (found_of p.1.now))) o) is
