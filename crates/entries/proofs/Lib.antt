pub mod Front
pub mod NumeralAnswers
pub mod LexAnswers
pub mod Desk
pub mod ListAnswers
pub mod HitAnswers
