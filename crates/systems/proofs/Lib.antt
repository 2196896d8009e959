pub mod Listed
pub mod LocksHeld
pub mod LockCall
pub mod Judging
