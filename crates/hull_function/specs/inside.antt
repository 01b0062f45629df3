pub mod HullParts
