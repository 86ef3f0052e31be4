mod FoundLemmas
mod HitLemmas
mod QueryLemmas
mod StoredLemmas
mod WatchLemmas
mod WordLemmas
