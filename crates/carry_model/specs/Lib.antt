-- What Change 3 of document 02 means, in its order; then its promises and the demands of its call; last computed results.
pub mod Carry
pub mod Restart
pub mod Continued
pub mod CarryDemands
pub mod CarryRows
