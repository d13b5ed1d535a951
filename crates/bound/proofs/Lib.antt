-- The bound over the rule, who keeps the rule, and the handler as a schedule of its own; each module over those before it.
pub mod Pages
pub mod Rule
pub mod Schedule
pub mod Phases
pub mod Competitive
pub mod Orders
pub mod Story
pub mod Series
pub mod Ring
pub mod Frames
pub mod Handler
pub mod Own
pub mod Distinct
pub mod Examples
