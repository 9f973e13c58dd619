pub mod OwnLane
pub mod OwnLaneFitLemmas
