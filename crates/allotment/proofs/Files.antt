-- The promise of a call, on the files and the areas: what an accepted call leaves, what two files alike mean, and the whole record.
pub mod AreaSeats
pub mod Accepting
pub mod Bodies
pub mod AlikeRounds
pub mod AsLists
pub mod Promised
pub mod Closing
pub mod Putting
pub mod Answering
