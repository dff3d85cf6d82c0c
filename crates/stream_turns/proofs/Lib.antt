pub mod RowOfTurn
pub mod OwnBoard
