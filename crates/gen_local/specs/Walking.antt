-- What the walk through a log keeps on its way. No public contract speaks of it but those of the laws of the
-- walk.
pub mod Brought
pub mod Judged
pub mod Laws
pub mod State
