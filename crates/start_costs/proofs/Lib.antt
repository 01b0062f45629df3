pub mod RegularStarts
