pub mod LawfulRows
