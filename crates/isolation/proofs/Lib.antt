-- Isolation: what other societies do alters no answer that a society gets, and no entry or ready bit under its roots.
pub mod Alike
pub mod Bits
pub mod Readings
pub mod Isolation
