-- Laws of the judgement.
pub mod Judging
