pub mod DepthIsolation
pub mod DepthLaw
pub mod DepthTag
pub mod DepthViolation
pub mod WriteOrExecute
pub mod WriteOrExecuteLaw
