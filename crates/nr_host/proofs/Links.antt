-- Links that a server takes one after another, by what makes their jobs.
use Rattle.std.proofs.Common.{◌≡◌, ℕ, Bool, List, ◌∙◌, subst}
use Rattle.nr_links.specs.Links.{EndedLink}
use Rattle.nr_turnstile.specs.declared.plays.View.{View}
use Rattle.nr_plain.specs.History.{PassView}
use Rattle.nr_plain.specs.declared.history_entry.HistoryEntry.{HistoryEntry}
use Rattle.nr_accept.specs.Accepting as accept
use Rattle.nr_accept.proofs.Links.{seen_as, serves_as}
use Rattle.nr_host.specs.Serving.{KeepsView, Serves, ServesByPass}
use Rattle.nr_host.specs.declared.connection_limits.ConnectionLimits.{ConnectionLimits}
use Rattle.nr_host.specs.declared.link_end.LinkEnd.{LinkEnd}

-- what a pass with this view knows
abbrev pub view_of_pass : View HistoryEntry → PassView
view_of_pass v = record { seen = v.seen; mine = v.mine }

module _ {S : Type 0} (limits_of : S → ConnectionLimits) (records_of : S → Bool) (view_of : S → PassView) where
  -- it allows each connection what it allowed
  abbrev AllowsSame : S → S → Type 0
  AllowsSame p q = (limits_of q ≡ limits_of p) × (records_of q ≡ records_of p)

  abbrev Makes : S → S → Type 0
  Makes p q = KeepsView (view_of p) (view_of q) × AllowsSame p q

  abbrev Served : S → EndedLink → EndedLink → ℕ → ℕ → LinkEnd → S → Type 0
  Served p opened closed source_faults sink_faults end q =
      ServesByPass (limits_of p) (records_of p) (view_of p) opened closed source_faults sink_faults end (view_of q) × AllowsSame p q

  module _ (limits : ConnectionLimits) (records : Bool) where
    abbrev Allows : S → Type 0
    Allows s = (limits_of s ≡ limits) × (records_of s ≡ records)

    makes_as : (p q : S) → Allows p → Makes p q → Allows q × KeepsView (view_of p) (view_of q)
    makes_as p q allows (view, same) = ((same.0 ∙ allows.0, same.1 ∙ allows.1), view)

    served_as : (p q : S) (opened closed : EndedLink) (source_faults sink_faults : ℕ) (end : LinkEnd) → Allows p → Served p opened closed source_faults sink_faults end q
        → Allows q × ServesByPass limits records (view_of p) opened closed source_faults sink_faults end (view_of q)
    served_as p q opened closed source_faults sink_faults end allows (served, same) = (
      (same.0 ∙ allows.0, same.1 ∙ allows.1),
      subst (λ (b : Bool). ServesByPass limits b (view_of p) opened closed source_faults sink_faults end (view_of q)) allows.1
          (subst (λ (l : ConnectionLimits). ServesByPass l (records_of p) (view_of p) opened closed source_faults sink_faults end (view_of q)) allows.0 served),
    )

    -- links that were taken by jobs that allow each connection this
    pub links_served : (before after : accept.Between S) (ends : List LinkEnd) → Allows before.view → accept.Serves Makes Served before ends after
        → Serves limits records (seen_as view_of before) ends (seen_as view_of after)
    links_served before after ends allows served =
        serves_as view_of Allows Makes Served KeepsView (ServesByPass limits records) makes_as served_as before after ends allows served
