pub mod FaultList
pub mod Standing
pub mod ReceiveQueueBuffers
pub mod ReceiveQueueBytes
pub mod ReceiveQueueSteps
mod Cuts
pub mod SendQueues
mod WrittenOut
mod OutputPieces
pub mod Alive
pub mod WholeFrames
pub mod Queued
pub mod Taken
pub mod StagedFrames
pub mod OneStep
pub mod Pieces
pub mod CutLaws
pub mod MemoryLaws
pub mod ReadLaws
pub mod Agreed
pub mod HellosFrom
mod FreshRegions
mod HeldSends
pub mod AlongFrames
pub mod HelloLaws
pub mod HelloFirst
pub mod EndLaws
pub mod LastOutput
pub mod PlaceOrder
pub mod DeliveryLaws
pub mod FedBytes
pub mod ClaimLaws
pub mod StreamLaws
pub mod GrantLaws
pub mod WholeCalls
pub mod Requested
pub mod ItemEnds
pub mod OutputItems
pub mod OutputSizes
pub mod QueuedItems
pub mod Bounds
pub mod KeptLists
pub mod AgreesByHellos
pub mod KeptSizes
pub mod Received
pub mod OneDelivery
pub mod ReceivedEvents
pub mod Sides
