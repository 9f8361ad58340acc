pub mod MoveAnswer
