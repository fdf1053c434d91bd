-- Laws of the calls; the other folders prove the functions.
pub mod PlayedLine
pub mod PartLines
pub mod OnePart
pub mod PartListed
pub mod WholeCall
