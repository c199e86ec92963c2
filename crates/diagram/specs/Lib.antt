-- What a reader has to believe, in the order of 002 and 01: diagrams, paths, effects, the day, its checks and steps, the
-- claims about every run of accepted steps, and the count of own updates. No bibs, values or bytes.
pub mod Sizes
pub mod Diagram
pub mod Leads
pub mod Effects
pub mod Views
pub mod RootPaths
pub mod Construction
pub mod Numbering
pub mod Names
pub mod Day
pub mod Checks
pub mod Steps
pub mod Rules
pub mod Reuse
pub mod Pool
pub mod Counts
pub mod Summed
pub mod Arbitration
pub mod Closed
pub mod Witness
pub mod Single
pub mod Lawful
pub mod Marks
pub mod Accepted
pub mod Examples
