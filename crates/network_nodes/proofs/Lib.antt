-- Laws of node lines and the `out` line.
pub mod AddingNodes
pub mod BadAddresses
pub mod AddingOut
