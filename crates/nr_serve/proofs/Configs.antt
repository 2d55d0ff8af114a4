-- The ranges of a configuration.
use Rattle.std.proofs.Common.{◌≡◌, ℕ, ℤ, pos, negsuc, ◌≤◌, Bool, true, false, List, Option, Some, None, refl, subst, arith}
use Rattle.std.specs.Prelude.{◌==◌, ◌&&◌, nat_le, if◌then◌else◌, codes, option_and_then, option_map}
use Rattle.std.proofs.lemmas.Option.{none-some, same_Some}
use Rattle.std.specs.Str.{is_utf8}
use Rattle.toml.specs.Data.{Members}
use Rattle.toml.specs.Parse.{parse_document}
use Rattle.nr_words.specs.declared.settings.Settings.{Settings}
use Rattle.nr_words.specs.Lines.{Text}
use Rattle.nr_words.specs.Limits.{capacity_max, connections_max, credits_max, default_units, units_max}
use Rattle.nr_words.specs.Settings.{choices_of, config_of, count, flag_at, in_range, integer_at, keys_of, number_at, number_or, numbers_of, path_at, present_at, settings_of, text_at, verifier_at}
use Rattle.nr_serve.specs.Stops.{InRanges}

-- what a step gives came of what the step before gave
pub and_then_some : {A B : Type 0} (f : A → Option B) (o : Option A) (y : B) → option_and_then f o ≡ Some y → (x : A) × ((o ≡ Some x) × (f x ≡ Some y))
and_then_some f None y is = absurd (none-some y is)
and_then_some f (Some x) y is = (x, (refl, is))

pub map_some : {A B : Type 0} (f : A → B) (o : Option A) (y : B) → option_map f o ≡ Some y → (x : A) × ((o ≡ Some x) × (f x ≡ y))
map_some f None y is = absurd (none-some y is)
map_some f (Some x) y is = (x, (refl, same_Some (f x) y is))

pub if_some : {A : Type 0} (b : Bool) (o : Option A) (y : A) → (if b then o else None) ≡ Some y → (b ≡ true) × (o ≡ Some y)
if_some true o y is = (refl, is)
if_some false o y is = absurd (none-some y is)

both : (a b : Bool) → (a && b) ≡ true → (a ≡ true) × (b ≡ true)
both true b is = (refl, is)
both false b is = absurd cc

within : (low high n : ℕ) (z : ℤ) → in_range low high z ≡ Some n → n ≤ high
within low high n (negsuc m) is = absurd (none-some n is)
within low high n (pos m) is =
    let (range, same) = if_some (nat_le low m && nat_le m high) (Some m) n is in
    let top : nat_le m high ≡ true = (both (nat_le low m) (nat_le m high) range).1 in
    let most : m ≤ high = grind (arith, top) in
    subst (λ (k : ℕ). k ≤ high) (same_Some m n same) most

pub number_within : (low high n : ℕ) (key : Text) (members : Members) → number_at low high key members ≡ Some n → n ≤ high
number_within low high n key members is =
    let (z, (at, range)) = and_then_some (in_range low high) (integer_at key members) n is in
    within low high n z range

number_or_within : (high n : ℕ) (key : Text) (members : Members) (b : Bool) → (if b then Some high else number_at 1 high key members) ≡ Some n → n ≤ high
number_or_within high n key members true is = (let same : high ≡ n = same_Some high n is in omega (arith, same))
number_or_within high n key members false is = number_within 1 high n key members is

ranges : (members : Members) (s : Settings Text) → settings_of members ≡ Some s → InRanges s
ranges members s is =
    let (keys, e0) = if_some (count members == keys_of members) _ s is in
    let (listen, (at1, e1)) = and_then_some _ (text_at (codes "listen") members) s e0 in
    let (export, (at2, e2)) = and_then_some _ (path_at (codes "export") members) s e1 in
    let (numbers, (at3, e3)) = and_then_some _ (numbers_of members) s e2 in
    let (verifier, (at4, e4)) = and_then_some _ (verifier_at (codes "write_verifier") members) s e3 in
    let (choices, (at5, same)) = map_some _ (choices_of numbers.credits members) s e4 in
    let (records, (at9, e9)) = and_then_some _ (flag_at (codes "record") members) choices at5 in
    let (units, (at10, e10)) = and_then_some _ (number_or default_units 1 units_max (codes "inline") members) choices e9 in
    let (fewest, (at11, e11)) = and_then_some _ (number_or numbers.credits 1 numbers.credits (codes "low_credits") members) choices e10 in
    let (invalidates, (at12, chosen)) = map_some _ (flag_at (codes "invalidate") members) choices e11 in
    let low : choices.low_credits ≤ numbers.credits = rw (← chosen) (number_or_within numbers.credits fewest (codes "low_credits") members (present_at (codes "low_credits") members == 0) at11) in
    let (credits, (at6, e6)) = and_then_some _ (number_at 1 credits_max (codes "credits") members) numbers at3 in
    let (capacity, (at7, e7)) = and_then_some _ (number_at 0 capacity_max (codes "capacity") members) numbers e6 in
    let (connections, (at8, made)) = map_some _ (number_at 1 connections_max (codes "connections") members) numbers e7 in
    let few : numbers.credits ≤ credits_max = rw (← made) (number_within 1 credits_max credits (codes "credits") members at6) in
    let small : numbers.capacity ≤ capacity_max = rw (← made) (number_within 0 capacity_max capacity (codes "capacity") members at7) in
    let short : numbers.connections ≤ connections_max = rw (← made) (number_within 1 connections_max connections (codes "connections") members at8) in
    record {
      credits = subst (λ (t : Settings Text). t.credits ≤ credits_max) same few;
      low = subst (λ (t : Settings Text). t.low_credits ≤ t.credits) same low;
      capacity = subst (λ (t : Settings Text). t.capacity ≤ capacity_max) same small;
      connections = subst (λ (t : Settings Text). t.connections ≤ connections_max) same short;
    }

pub in_ranges : (text : List ℕ) (s : Settings Text) → config_of text ≡ Some s → InRanges s
in_ranges text s is =
    let (utf8, e0) = if_some (is_utf8 text) _ s is in
    let (members, (parsed, e1)) = and_then_some settings_of (parse_document text) s e0 in
    ranges members s e1
