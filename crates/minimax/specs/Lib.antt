pub mod Minimax
