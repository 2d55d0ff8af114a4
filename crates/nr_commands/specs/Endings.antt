-- The text for each reason that a command was not done.
use Rattle.std.specs.Prelude.{ℕ, List, ◌++◌, codes}
use Rattle.std.specs.Fmt.{decimal}
use Rattle.nr_regions.specs.declared.denied.Denied.{Denied}
use Rattle.nr_regions.specs.declared.denied.Denied.TheVariants as denials
use Rattle.nr_link.specs.declared.end.End.{End}
use Rattle.nr_link.specs.declared.end.End.TheVariants as ends
use Rattle.nr_nfs_base.specs.MountStatus.{mount_status_number}
use Rattle.nr_nfs_base.specs.Status.{status_number}
use Rattle.nr_shared.specs.declared.call_end.CallEnd.{CallEnd}
use Rattle.nr_shared.specs.declared.call_end.CallEnd.TheVariants as calls
use Rattle.nr_client.specs.declared.client_end.RpcKind.{RpcKind}
use Rattle.nr_client.specs.declared.client_end.RpcKind.TheVariants as kinds
use Rattle.nr_client.specs.declared.client_end.ClientEnd.{ClientEnd}
use Rattle.nr_client.specs.declared.client_end.ClientEnd.TheVariants as client

-- a line of these words; the same with a number, or two, after them
unfoldable pub line : List ℕ → List ℕ
line words = words ++ codes "\n"

unfoldable pub line_with : List ℕ → ℕ → List ℕ
line_with words number = words ++ decimal number ++ codes "\n"

unfoldable pub line_with_two : List ℕ → ℕ → ℕ → List ℕ
line_with_two words first second = words ++ decimal first ++ codes " " ++ decimal second ++ codes "\n"

abbrev pub denial_words : Denied → List ℕ
denial_words denials.NoStag = codes " nostag\n"
denial_words denials.Bounds = codes " bounds\n"
denial_words denials.Right = codes " right\n"

unfoldable pub denied_text : ℕ → ℕ → Denied → List ℕ
denied_text stag offset why = codes "protocol denied " ++ decimal stag ++ codes " " ++ decimal offset ++ denial_words why

-- the client's side of the link has ended
abbrev pub link_text : End → List ℕ
link_text (ends.Bad at reason) = line_with_two (codes "protocol bad ") at reason
link_text (ends.Denied stag offset why) = denied_text stag offset why
link_text (ends.NoBuffer msn) = line_with (codes "protocol nobuffer ") msn
link_text (ends.Terminated reason) = line_with (codes "protocol terminated ") reason
link_text ends.Memory = line (codes "memory")

-- a call has no answer
abbrev pub call_text : CallEnd → List ℕ
call_text (calls.Ended end) = link_text end
call_text calls.LinkRead = line (codes "link fault")
call_text calls.LinkWrite = line (codes "link fault")
call_text calls.Closed = line (codes "link closed")
call_text (calls.Tries n) = line (codes "link closed")
call_text calls.DialFault = line (codes "link fault")
call_text (calls.Spent left need) = line_with (codes "budget ") left
call_text (calls.TooLarge need room) = line_with (codes "budget ") need
call_text (calls.Budget read) = line_with (codes "budget ") read
call_text calls.Memory = line (codes "memory")

-- the server refused a call: its accept status, or its reject status (RFC 5531 section 9)
abbrev pub rpc_words : RpcKind → List ℕ
rpc_words kinds.Accept = codes "rpc accept "
rpc_words kinds.Reject = codes "rpc reject "

-- a command was not done
abbrev pub end_text : ClientEnd → List ℕ
end_text client.DialFault = line (codes "link fault")
end_text (client.Link end) = call_text end
end_text (client.Rpc kind code) = line_with (rpc_words kind) code
end_text (client.Mount status) = line_with (codes "mount ") (mount_status_number status)
end_text (client.Nfs status) = line_with (codes "nfs ") (status_number status)
end_text client.Chunk = line (codes "chunk")
end_text (client.Version low high) = line_with_two (codes "version ") low high
end_text (client.BadReply at reason) = line_with_two (codes "protocol bad ") at reason
end_text (client.BadPath at) = line_with (codes "bad path ") at
end_text client.InputFault = line (codes "input fault")
end_text client.OutputFault = line (codes "output fault")
end_text (client.Budget count) = line_with (codes "budget ") count
end_text client.Memory = line (codes "memory")
