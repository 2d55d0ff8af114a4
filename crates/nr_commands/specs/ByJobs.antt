-- `get` by several jobs, from its words to its end.
use Rattle.std.specs.Prelude.{◌≡◌, ℕ, List, Result, Ok, Err}
use Rattle.nr_outside.specs.Streams.{SinkAt, SourceAt}
use Rattle.nr_link.specs.Agreement.{terms_with}
use Rattle.nr_words.specs.Lines.{Text}
use Rattle.nr_words.specs.declared.commands.GetByJobs.{GetByJobs}
use Rattle.nr_client.specs.declared.client_end.ClientEnd.{ClientEnd}
use Rattle.nr_client.specs.Dialing.{DialerAt, OpenFails}
use Rattle.nr_client.specs.Jobs.{LinkAt, ReadsFileByJobs, link_at}
use Rattle.nr_client.specs.Reading.{OutputFaults}
use Rattle.nr_commands.specs.Commands.{Finds}
use Rattle.nr_commands.specs.Running.{Closes, HangsUp, Opens}
use Rattle.nr_commands.specs.Sessions.{SessionAt, sink_of, source_of}

-- the link of a session
abbrev pub link_of : SessionAt → LinkAt
link_of s = link_at s.requester (source_of s) (sink_of s) s.bytes.read

-- A file was read by jobs over the link of a session, whose source and sink came back so, and its bytes were written to the output. Then the link, of
-- this number, was hung up.
pub record ReadsAndHangsUp (uid gid : ℕ) (file : List ℕ) (number : ℕ) (s : SessionAt) (before after : DialerAt) (out out' : SinkAt)
    (result : Result (Unit {0}) ClientEnd) : Type 0 where
  pub source : SourceAt
  pub sink : SinkAt
  pub reads : ReadsFileByJobs uid gid file (link_of s) source sink out.taken out'.taken result
  pub out_count : OutputFaults result out.faults out'.faults
  pub hangs_up : HangsUp number source sink before after

-- No session was opened; or one was, and no file was found; or the file was read. Nothing else was printed.
pub data GetsByJobs (get : GetByJobs Text) (before after : DialerAt) (out out' : SinkAt) (result : Result (Unit {0}) ClientEnd) : Type 0 where
  NotOpened : (end : ClientEnd) → result ≡ Err end → OpenFails end get.addr before after → out' ≡ out → GetsByJobs get before after out out' result
  NotFound : (dialed : DialerAt) → (s s' : SessionAt) → (end : ClientEnd) → (opens : Opens get.addr (terms_with get.units get.invalidates) before dialed s)
      → Finds get.uid get.gid get.export get.path s s' (Err end) → result ≡ Err end → out' ≡ out → Closes opens.number s' dialed after
      → GetsByJobs get before after out out' result
  Found : (dialed : DialerAt) → (s s' : SessionAt) → (file : List ℕ) → (opens : Opens get.addr (terms_with get.units get.invalidates) before dialed s)
      → Finds get.uid get.gid get.export get.path s s' (Ok file) → ReadsAndHangsUp get.uid get.gid file opens.number s' dialed after out out' result
      → GetsByJobs get before after out out' result
