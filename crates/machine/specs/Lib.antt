-- Documents 01 and 02 as definitions: words that rules are written in (Bytes, Lists, Fields), then 01's sections,
-- mostly in its order; of 02, Traffic, Load and Survey. docs/PROOFS.md, "What must be believed", says which module is
-- which section.
pub mod Bytes
pub mod Lists
pub mod Verdict
pub mod Ring
pub mod Fields
pub mod Image
pub mod Stages
pub mod Sound
pub mod Fresh
pub mod Events
pub mod Stopped
pub mod Run
pub mod Traffic
pub mod Balance
pub mod Alone
pub mod Tape
pub mod Refusals
pub mod Answers
pub mod Load
pub mod Survey
pub mod Host
pub mod Text
pub mod Report
