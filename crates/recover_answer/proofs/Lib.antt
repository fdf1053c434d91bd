-- Laws of what the recover program prints, and the demand of its printing function.
pub mod RecoveryShown
pub mod Demand
