-- What the two ends of a link are opened with.
use Rattle.std.specs.Prelude.{◌≡◌, ℕ, ◌+◌, ◌<◌, ◌≤◌, List, [], ◌∷◌, Option, None, Some}
use Rattle.nr_rpc.specs.Credential.{CanWriteCred}
use Rattle.nr_link.specs.declared.agreement.SideTerms.{SideTerms}
use Rattle.nr_reduce.specs.declared.mark.LinkParameters.{LinkParameters}
use Rattle.nr_reduce.specs.declared.mark.ResumedCall.{ResumedCall}
use Rattle.nr_reduce.specs.Limits.{numbers_end, credits_max}
use Rattle.nr_reduce.specs.ClientState.{stag_after}
use Rattle.nr_reduce.specs.Asked.{IsPlannedAs}
use Rattle.nr_link.specs.declared.agreement.Agreement.{Agreement}
use Rattle.nr_link.specs.Agreement.{default_agreement}

-- The xids of calls that are sent again rise, and are below the first new one. Each goes out by a plan of its form, for lengths of Sends up to
-- those that an earlier hello agreed on, and its credential can be encoded.
abbrev pub lengths_before : Option Agreement → Agreement
lengths_before None = default_agreement
lengths_before (Some agreed) = agreed

pub record IsResumed (agreed : Agreement) (r : ResumedCall) : Type 0 where
  pub planned : IsPlannedAs r.xid r.call r.form r.plan
  pub up : planned.up ≤ agreed.up
  pub down : planned.down ≤ agreed.down
  pub writable : CanWriteCred r.call.cred

abbrev pub AreResumed : Agreement → (first : ℕ) → List ResumedCall → (next : ℕ) → Type 0
AreResumed agreed first [] next = first ≤ next
AreResumed agreed first (r ∷ calls) next = (first ≤ r.xid) × (IsResumed agreed r × AreResumed agreed (r.xid + 1) calls next)

-- First numbers are from 1 on and at most numbers_end, also after calls that are sent again have their STags. Credits are from 1 to credits_max,
-- and the server has a receive for each credit that it grants.
pub record IsOpened (opened : LinkParameters) : Type 0 where
  pub xid : 0 < opened.first_xid
  pub xid_fits : opened.first_xid ≤ numbers_end
  pub stag : 0 < opened.first_stag
  pub stag_fits : stag_after opened.first_stag opened.resumed ≤ numbers_end
  pub resumed : AreResumed (lengths_before opened.agreed) 1 opened.resumed opened.first_xid
  pub wished : 0 < opened.wished
  pub wished_fits : opened.wished ≤ credits_max
  pub granted : 0 < opened.granted
  pub granted_fits : opened.granted ≤ credits_max
  pub receives : opened.granted ≤ opened.receives

-- the server grants these credits, and at most `low` while it is busy; it has a receive for each, and has these terms
abbrev pub ServerOpened : LinkParameters → (credits low : ℕ) → SideTerms → Type 0
ServerOpened opened credits low terms = (opened.granted ≡ credits) × (opened.receives ≡ credits) × (opened.server ≡ terms) × (opened.low ≡ low)

-- the link was not reopened: its client sends no call again, and no earlier hello agreed on anything
pub record IsFirstLink (opened : LinkParameters) : Type 0 where
  pub resumed : opened.resumed ≡ []
  pub agreed : opened.agreed ≡ None

-- the client wishes for these credits and has these terms, on a link that was not reopened
abbrev pub ClientOpened : LinkParameters → (credits : ℕ) → SideTerms → Type 0
ClientOpened opened credits terms = (opened.wished ≡ credits) × ((opened.client ≡ terms) × IsFirstLink opened)
