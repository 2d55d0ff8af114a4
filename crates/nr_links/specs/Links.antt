-- Links: what is known of those that a dialer or an acceptor made.
use Rattle.std.specs.Prelude.{◌≡◌, ℕ, ⊤, ◌+◌, ◌<◌, Bool, nat_lt, ◌||◌, List, [], ◌∷◌, ◌++◌, length, Option, None, Some, IfSome, MatchBool, Result, Ok, Err}
use Rattle.nr_outside.specs.Faults.{Rises, next_count}

-- a link as it was hung up: its number, the bytes that its source had handed out, those that it had left, and the bytes that
-- its sink had taken, each if it is known
pub record EndedLink : Type 0 where
  pub number : ℕ
  pub given : Option (List ℕ)
  pub left : Option (List ℕ)
  pub taken : Option (List ℕ)

abbrev pub ended_link : ℕ → Option (List ℕ) → Option (List ℕ) → Option (List ℕ) → EndedLink
ended_link number given left taken = record { number = number; given = given; left = left; taken = taken }

-- how many links were made, and those that were hung up, in order
pub record LinkLog : Type 0 where
  pub made : ℕ
  pub ended : List EndedLink

-- a link was hung up
abbrev pub EndsLink : Option LinkLog → Option LinkLog → EndedLink → Type 0
EndsLink None new link = ⊤
EndsLink (Some log) new link = new ≡ Some (record log { ended = log.ended ++ link ∷ [] })

-- fewer links were hung up than made, if the log is known
abbrev pub HasOpenLink : Option LinkLog → Type 0
HasOpenLink known = IfSome known (λ log. length log.ended < log.made)

-- one link more was made
abbrev pub CountsLink : Option LinkLog → Option LinkLog → Type 0
CountsLink None new = ⊤
CountsLink (Some log) new = new ≡ Some (record log { made = log.made + 1 })

-- a link was made, which is now to be hung up
abbrev pub MakesLink : Option LinkLog → Option LinkLog → Type 0
MakesLink old new = CountsLink old new × HasOpenLink new

-- a new link: nothing has moved, and nothing has failed
pub record IsNewLink (given taken : Option (List ℕ)) (source_faults sink_faults : ℕ) : Type 0 where
  pub nothing_given : IfSome given (λ bytes. bytes ≡ [])
  pub nothing_taken : IfSome taken (λ bytes. bytes ≡ [])
  pub no_source_fault : source_faults ≡ 0
  pub no_sink_fault : sink_faults ≡ 0

-- a new link whose bytes are known
pub record IsToldNew (given left taken : Option (List ℕ)) : Type 0 where
  pub nothing_given : given ≡ Some []
  pub nothing_taken : taken ≡ Some []
  pub left_told : (bytes : List ℕ) × (left ≡ Some bytes)

-- if the log is known, so are the bytes of a new link
abbrev pub IsTold : Option LinkLog → (given left taken : Option (List ℕ)) → Type 0
IsTold known given left taken = IfSome known (λ _. IsToldNew given left taken)

-- both halves of a new link have the next number, which is how many links were made before, if the log is known
pub record IsNumbered (known : Option LinkLog) (next source_link sink_link : ℕ) : Type 0 where
  pub source : source_link ≡ next
  pub sink : sink_link ≡ next
  pub counts : IfSome known (λ log. log.made ≡ next)

-- the number after a call that made a link, or failed
abbrev pub CountsNumber : {T E : Type 0} → Result T E → (before after : ℕ) → Type 0
CountsNumber (Ok link) before after = after ≡ next_count before
CountsNumber (Err error) before after = after ≡ before

-- whether a call of the source or of the sink of a link failed
abbrev pub is_faulty : ℕ → ℕ → Bool
is_faulty source_faults sink_faults = nat_lt 0 source_faults || nat_lt 0 sink_faults

-- the count of lost links rises if the link that is hung up had a fault, and else stays
abbrev pub CountsLost : ℕ → ℕ → ℕ → ℕ → Type 0
CountsLost source_faults sink_faults before after =
    MatchBool (is_faulty source_faults sink_faults) (Rises before after) (after ≡ before)
