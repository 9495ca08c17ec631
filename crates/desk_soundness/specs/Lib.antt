pub mod Sound
pub mod SoundLog
pub mod SoundMemory
pub mod Wording
