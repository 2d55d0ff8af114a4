-- A `put` command whose calls are answered by one server.
use Rattle.std.specs.Prelude.{◌≡◌, ℕ, ◌≤◌, List, [], ◌∷◌, length, Ok}
use Rattle.std.specs.Io.KnownBytes.{IsAtEnd}
use Rattle.nr_outside.specs.Content.{HandsOut}
use Rattle.nr_outside.specs.Streams.{SourceAt}
use Rattle.nr_reduce.specs.declared.mark.Entry.{Entry}
use Rattle.nr_tree.specs.Sane.{IsSane}
use Rattle.nr_plain.specs.Setup.{Setup}
use Rattle.nr_client.specs.Paths.{path_names}
use Rattle.nr_commands.specs.Commands.{Puts}
use Rattle.nr_commands.specs.Sessions.{SessionAt}
use Rattle.nr_service_laws.specs.Exchanges.{Exchange, tells_put}
use Rattle.nr_service_laws.specs.Exchanges.Exchange.{Answered, Forgotten, GivenUp, HandedOver, Submitted}
use Rattle.nr_reply_laws.specs.Replies.{AreIds}
use Rattle.nr_pair_laws.specs.AnyInputs.{input_left, input_read}
use Rattle.nr_pair_laws.specs.FilesAt.{KeepPath, NumbersFit}
use Rattle.nr_pair_laws.specs.Pairs.{AreAnsweredFrom, OpenCall, place_after}
use Rattle.nr_pair_laws.specs.PutThenGet.{HoldsFile, root_handle}

-- Of the calls of a command each was answered at a place, and the last of them, with what it added, up to the place `to`. No entry of others before a
-- place, from the call before on, changes what a path leads to.
abbrev pub OthersKeep : (s : Setup) (J : List Entry) (names : List (List ℕ)) (to least : ℕ) (waiting : List OpenCall) (made : List Exchange) → AreAnsweredFrom s J least waiting made → Type 0
OthersKeep s J names to least waiting [] answered = to ≡ least
OthersKeep s J names to least waiting (Answered call outcome ∷ made) (place, (a, (low, rest))) =
    KeepPath s J root_handle names least place × OthersKeep s J names to (place_after s J call outcome place a) waiting made rest
OthersKeep s J names to least waiting (Submitted xid call ∷ made) rest = OthersKeep s J names to least (record { xid = xid; call = call; least = least } ∷ waiting) made rest
OthersKeep s J names to least waiting (HandedOver xid outcome ∷ made) (next, (low, (all, rest))) =
    KeepPath s J root_handle names least next × OthersKeep s J names to next waiting made rest
OthersKeep s J names to least waiting (Forgotten call ∷ made) rest = OthersKeep s J names to least waiting made rest
OthersKeep s J names to least waiting (GivenUp xid ∷ made) rest = OthersKeep s J names to least waiting made rest

-- The input gave these bytes, all that it had, also an input that tells nothing of what it has: what was left of it is nothing. The path leads to a file
-- with just these bytes, in the tree at this place of the journal.
pub record PutsInput (s : Setup) (J : List Entry) (names : List (List ℕ)) (bytes left : List ℕ) (input input' : SourceAt) (to : ℕ) : Type 0 where
  pub hands_out : HandsOut input.left input.given input'.left input'.given bytes
  pub all : IsAtEnd input'.left
  pub all_read : left ≡ []
  pub within : to ≤ length J
  pub holds : HoldsFile s J names bytes to

-- A `put` was done, and its calls were answered at places of a journal, as `pairs_are_served` says of one whose link is a pair. If the entries of others
-- between its calls don't change what the path leads to, the path leads to a file with the bytes that the `put` read of its input, at the place after its
-- last call. These bytes are known by its own clause (`input_read`), also of an input that tells nothing, as standard input.
abbrev pub CommandsPutTheirInput : Type 0
CommandsPutTheirInput =
    (s : Setup) (J : List Entry) (uid gid : ℕ) (export path : List ℕ) (names : List (List ℕ)) (input input' : SourceAt) (before after : SessionAt) (text : List ℕ)
    (puts : Puts uid gid export path input input' before after (Ok text)) (least to : ℕ)
    (answered : AreAnsweredFrom s J least [] (tells_put uid gid export path input input' before after (Ok text) puts).made) →
    IsSane s.tree → NumbersFit s J → AreIds uid gid → path_names path ≡ Ok names →
    OthersKeep s J names to least [] (tells_put uid gid export path input input' before after (Ok text) puts).made answered →
    PutsInput s J names (input_read uid gid export path input input' before after (Ok text) puts) (input_left uid gid export path input input' before after (Ok text) puts) input input' to
