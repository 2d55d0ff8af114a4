-- Two parts of a command, one after the other.
use Rattle.std.proofs.Common.{◌≡◌, ℕ, Result, Ok, Err, inl, inr, refl, subst}
use Rattle.nr_client.specs.declared.client_end.ClientEnd.{ClientEnd}
use Rattle.nr_commands.specs.Sessions.{PartOver, ThenOver}

pub then_ends : {A B V : Type 0} (first : PartOver V A) (next : A → PartOver V B) (s s' : V) (given : Result A ClientEnd) (end : ClientEnd)
    → given ≡ Err end → first s s' given → ThenOver first next s s' (Err end)
then_ends {A} first next s s' given end is made = inr (end, (subst (λ (r : Result A ClientEnd). first s s' r) is made, refl))

pub then_goes : {A B V : Type 0} (first : PartOver V A) (next : A → PartOver V B) (s mid s' : V) (given : Result A ClientEnd) (value : A) (result : Result B ClientEnd)
    → given ≡ Ok value → first s mid given → next value mid s' result → ThenOver first next s s' result
then_goes {A} first next s mid s' given value result is made goes = inl (value, (mid, (subst (λ (r : Result A ClientEnd). first s mid r) is made, goes)))

-- the user and the group of a session are kept
pub with_user : {A V : Type 0} (part : ℕ → ℕ → PartOver V A) (u v u' v' : ℕ) (s s' : V) (result : Result A ClientEnd)
    → (u' ≡ u) × (v' ≡ v) → part u' v' s s' result → part u v s s' result
with_user part u v u' v' s s' result same is =
    subst (λ (n : ℕ). part n v s s' result) same.0 (subst (λ (n : ℕ). part u' n s s' result) same.1 is)
