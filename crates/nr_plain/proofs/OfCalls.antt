-- Entries that are those of calls.
use Rattle.std.proofs.Common.{◌≡◌, ℕ, List, [], ◌∷◌, ◌++◌, length, Some, ⊎_elim, sym, subst, append_assoc, append-nil}
use Rattle.nr_xdr.specs.Item.{IsBytes}
use Rattle.nr_outside.specs.declared.moment.Moment.{Moment}
use Rattle.nr_reduce.specs.declared.mark.Entry.{Entry}
use Rattle.nr_plain.specs.Added.{entries_of_call}
use Rattle.nr_plain.specs.Replies.{plain_reply}
use Rattle.nr_plain.specs.Setup.{Setup}
use Rattle.nr_plain.specs.History.{AddsOne, AreOfCalls}
use Rattle.nr_plain.proofs.OneEntry.{few}

-- entries of calls, and then entries of calls after those
pub both_of_calls : (s : Setup) (J xs ys : List Entry) → AreOfCalls s J xs → AreOfCalls s (J ++ xs) ys → AreOfCalls s J (xs ++ ys)
both_of_calls s J [] ys none more = subst (λ (l : List Entry). AreOfCalls s l ys) (append-nil J) more
both_of_calls s J (e ∷ xs) ys (one, rest) more =
    (one, both_of_calls s (J ++ e ∷ []) xs ys rest (subst (λ (l : List Entry). AreOfCalls s l ys) (sym (append_assoc J (e ∷ []) xs)) more))

-- the later ones of them
pub later_of_calls : (s : Setup) (J xs ys : List Entry) → AreOfCalls s J (xs ++ ys) → AreOfCalls s (J ++ xs) ys
later_of_calls s J [] ys all = subst (λ (l : List Entry). AreOfCalls s l ys) (sym (append-nil J)) all
later_of_calls s J (e ∷ xs) ys (one, rest) =
    subst (λ (l : List Entry). AreOfCalls s l ys) (append_assoc J (e ∷ []) xs) (later_of_calls s (J ++ e ∷ []) xs ys rest)

-- the earlier ones of them
pub earlier_of_calls : (s : Setup) (J xs ys : List Entry) → AreOfCalls s J (xs ++ ys) → AreOfCalls s J xs
earlier_of_calls s J [] ys all = tt
earlier_of_calls s J (e ∷ xs) ys (one, rest) = (one, earlier_of_calls s (J ++ e ∷ []) xs ys rest)

-- what a call adds, one entry or none
pub of_call : (s : Setup) (J : List Entry) (m : Moment) (payload reply : List ℕ) (place : ℕ) → IsBytes payload → place ≡ length J → plain_reply s J place m payload ≡ Some reply
    → AreOfCalls s J (entries_of_call m payload reply)
of_call s J m payload reply place bytes at replied = ⊎_elim
    (λ (none : entries_of_call m payload reply ≡ []). subst (λ (es : List Entry). AreOfCalls s J es) (sym none) tt)
    (λ (one : AddsOne m payload reply). subst (λ (es : List Entry). AreOfCalls s J es) (sym one.1) (
      record {
        moment = m;
        payload = payload;
        reply = reply;
        bytes = bytes;
        replied = subst (λ (k : ℕ). plain_reply s J k m payload ≡ Some reply) at replied;
        adds = one.1;
      },
      tt,
    ))
    (few m payload reply)
