pub mod Ids
pub mod Orders
pub mod Placed
pub mod Amounts
pub mod Commands
pub mod States
pub mod Drafts
pub mod Issue
pub mod Master
pub mod Kept
pub mod Room
pub mod Opened
pub mod SideNames
pub mod Worlds
pub mod Sent
pub mod Openings
pub mod Names
pub mod Stopped
pub mod Owners
pub mod Alone
pub mod Acks
pub mod Registers
pub mod Launches
pub mod Sources
pub mod Accepts
pub mod Histories
pub mod Told
pub mod Origins
pub mod Trails
pub mod SideTrails
pub mod OriginWorlds
pub mod Premises
pub mod Events
pub mod Counts
pub mod Gapless
pub mod Offered
pub mod Growth
pub mod AllIssued
pub mod DraftOrigins
pub mod AcknowledgedAt
pub mod AcknowledgedGrowth
mod Lists
mod OriginSent
mod Silent
mod Quiet
mod Calls
mod Offers
mod Entries
mod Gone
mod Waits
mod Tasks
mod Once
mod OriginAcks
