-- What is proved about the definitions: places and claims, what a call leaves untouched, that every book stays lawful, and that a written
-- block is read back.
pub mod Claims
pub mod Each
pub mod Places
pub mod Clash
pub mod Untouched
pub mod Answers
pub mod Held
pub mod Readings
pub mod Names
pub mod Allowed
pub mod Calls
pub mod Parser
pub mod ReadBack
pub mod Writer
pub mod OneBlock
pub mod Lockstep
pub mod LateJoin
