-- Schedules, the rule that the handler keeps, orders of leaving, and the handler in the large.
pub mod Pages
pub mod Schedule
pub mod Rule
pub mod Orders
pub mod Story
pub mod Frames
pub mod Handler
