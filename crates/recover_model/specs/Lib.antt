-- What Change 2 of document 02 means, in its order; then its promises and the demands of its calls; last computed results.
pub mod ClockText
pub mod Recover
pub mod RecoverCalls
pub mod Recovered
pub mod RecoverDemands
pub mod RecoverRows
