-- Property 3's mathematics, over the seams: theorems that know of the rules of calls only the laws of Laws.antt.
-- Changes composed; ledgers nested, and what they hold; the laws.
pub mod Composition
pub mod Nesting
pub mod EnteringNested
pub mod Entries
pub mod FiringNested
pub mod SoundParts
pub mod Laws
-- What the laws give: each part of a call keeps a ledger nested and formed.
pub mod Settling
pub mod Installing
pub mod Turning
pub mod MovingNested
pub mod ClosingNested
pub mod SignalNested
pub mod Forming
pub mod Locality
-- Soundness is kept by every call; progress; firings fall.
pub mod SoundBegin
pub mod SoundEvent
pub mod SoundRetraction
pub mod SoundKept
pub mod Progress
pub mod FiringsFall
-- Restoration: the invariant, each part of a call, whole calls, lists of calls.
pub mod ForwardScopes
pub mod Invariant
pub mod InvariantMoving
pub mod InvariantClosing
pub mod InvariantRetraction
pub mod InvariantCalls
pub mod Histories
-- Runs of a scope, and what they do.
pub mod ScopeRuns
pub mod Effects
