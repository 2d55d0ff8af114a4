-- What a caller that waits needs of the link.
use Rattle.std.specs.Prelude.{◌≡◌, ⊤, ◌⊎◌, true, List, None}
use Rattle.nr_shared.specs.declared.caller_turns.Need.{Need}
use Rattle.nr_shared.specs.declared.caller_turns.Need.TheVariants as needs
use Rattle.nr_shared.specs.declared.entry.Entry.{Entry}
use Rattle.nr_shared.specs.declared.requester_with_sink.RequesterWithSink.{RequesterWithSink}
use Rattle.nr_shared.specs.Histories.{is_lost_by}
use Rattle.nr_shared.specs.Output.{IsTryLeft, MayFeed, MayRejoin}

-- More is read only while it may be fed, and the next link is dialled only while the lost one may be left.
abbrev pub IsNeeded : Need → List Entry → Type 0
IsNeeded needs.Nothing history = ⊤
IsNeeded needs.Input history = MayFeed history
IsNeeded needs.Link history = MayRejoin history

-- No other cause than a loss is there for which no more is fed; and if the link at hand is lost, it may be dialled again.
pub record GoesOn {O C : Type 0} (m : RequesterWithSink O C) : Type 0 where
  pub no_other : (m.stopped ≡ None) ⊎ (is_lost_by m.write_failed m.stopped ≡ true)
  pub again : is_lost_by m.write_failed m.stopped ≡ true → IsTryLeft m.tries m.rejoined
