-- What follows from what is known of a reader's and a writer's bytes.
pub mod Known
