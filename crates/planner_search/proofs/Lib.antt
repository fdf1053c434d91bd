-- Laws of the search: the way along what is kept, the answer, and the search space cleared.
pub mod Zeros
pub mod KeptWay
pub mod Answer
