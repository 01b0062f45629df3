pub mod Verdicts
pub mod SameTexts
pub mod TextLengths
pub mod Accepting
pub mod CheckedAlike
pub mod Rewriting
