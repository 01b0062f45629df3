pub mod FirstBroken
pub mod SizedNumbers
pub mod PlainNumbers
pub mod Accepted
pub mod WholeWatts
pub mod CommitmentRules
pub mod inside
