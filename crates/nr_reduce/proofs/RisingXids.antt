-- On a link that was opened in range the xids rise in the order of their Sends, from 1 on.
use Rattle.std.proofs.Common.{ℕ, zero, suc, ◌+◌, ◌<◌, ◌≤◌, List, [], ◌∷◌, map, arith}
use Rattle.nr_link.specs.declared.agreement.Agreement.{Agreement}
use Rattle.nr_reduce.specs.declared.mark.LinkParameters.{LinkParameters}
use Rattle.nr_reduce.specs.declared.mark.ResumedCall.{ResumedCall}
use Rattle.nr_reduce.specs.Opening.{IsOpened, AreResumed, lengths_before}
use Rattle.nr_reduce.specs.StandingLaws.{xid_after, xid_of_send}

abbrev xids_of : List ResumedCall → List ℕ
xids_of rs = map (λ (r : ResumedCall). r.xid) rs

at_least : (agreed : Agreement) (first : ℕ) (rs : List ResumedCall) (next n : ℕ) → AreResumed agreed first rs next → first ≤ xid_after (xids_of rs) next n
at_least agreed first [] next n h = omega (arith, h)
at_least agreed first (r ∷ rs) next zero h = h.0
at_least agreed first (r ∷ rs) next (suc n) h = (let a = h.0 in let b = at_least agreed (r.xid + 1) rs next n h.1.1 in omega (arith, a, b))

rising : (agreed : Agreement) (first : ℕ) (rs : List ResumedCall) (next n m : ℕ) → AreResumed agreed first rs next → n < m → xid_after (xids_of rs) next n < xid_after (xids_of rs) next m
rising agreed first [] next n m h lt = omega (arith, lt)
rising agreed first (r ∷ rs) next zero zero h lt = absurd (omega (arith, lt))
rising agreed first (r ∷ rs) next (suc n) zero h lt = absurd (omega (arith, lt))
rising agreed first (r ∷ rs) next zero (suc m) h lt = (let b = at_least agreed (r.xid + 1) rs next m h.1.1 in omega (arith, b))
rising agreed first (r ∷ rs) next (suc n) (suc m) h lt = rising agreed (r.xid + 1) rs next n m h.1.1 (omega (arith, lt))

pub xids_rise : (opened : LinkParameters) (n m : ℕ) → IsOpened opened → n < m → xid_of_send opened n < xid_of_send opened m
unfolding xid_of_send
xids_rise opened n m h lt = rising (lengths_before opened.agreed) 1 opened.resumed opened.first_xid n m h.resumed lt

pub xids_from_one : (opened : LinkParameters) (n : ℕ) → IsOpened opened → 1 ≤ xid_of_send opened n
unfolding xid_of_send
xids_from_one opened n h = at_least (lengths_before opened.agreed) 1 opened.resumed opened.first_xid n h.resumed
