-- A lightly loaded ring: what its traffic comes to, over events and over calls, and that its events have one order.
-- Begun, and not proved yet: QuietTraffic, QuietOrder, QuietCalls and QuietRun are claims as they shall stand.
pub mod Quiet
pub mod Order
pub mod Told
