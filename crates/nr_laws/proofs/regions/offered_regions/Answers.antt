use Rattle.nr_laws.proofs.OfferedChunks.{client_regions_are_chunks, live_client_regions_are_outstanding}
use Rattle.nr_laws.proofs.ClosedForCalls.{client_regions_close_with_calls, calls_add_chunks}
use Rattle.nr_laws.proofs.SendRegions.{server_regions_are_chunks}
use Rattle.nr_laws.proofs.AddedRegions.{sends_add_chunks, nothing_else_adds_regions, closed_regions_stay}
use Rattle.nr_laws.proofs.LiveRegions.{live_server_regions_are_read}
use Rattle.nr_laws.proofs.ClosedRegions.{server_regions_close_when_read}
use Rattle.nr_laws.proofs.regions.offered_regions.Goals as goal

pub returns-clause-client_chunks : goal.returns-clause-client_chunks
returns-clause-client_chunks c = client_regions_are_chunks

pub returns-clause-client_live : goal.returns-clause-client_live
returns-clause-client_live c = live_client_regions_are_outstanding

pub returns-clause-server_chunks : goal.returns-clause-server_chunks
returns-clause-server_chunks c = server_regions_are_chunks

pub returns-clause-sends : goal.returns-clause-sends
returns-clause-sends c = sends_add_chunks

pub returns-clause-nothing_else : goal.returns-clause-nothing_else
returns-clause-nothing_else c = nothing_else_adds_regions

pub returns-clause-server_live : goal.returns-clause-server_live
returns-clause-server_live c = live_server_regions_are_read

pub returns-clause-server_closed : goal.returns-clause-server_closed
returns-clause-server_closed c = server_regions_close_when_read

pub returns-clause-closed_stay : goal.returns-clause-closed_stay
returns-clause-closed_stay c = closed_regions_stay

pub returns-clause-client_closed : goal.returns-clause-client_closed
returns-clause-client_closed c = client_regions_close_with_calls

pub returns-clause-calls : goal.returns-clause-calls
returns-clause-calls c = calls_add_chunks
