-- How a search narrows, and what an insertion moves.
mod Narrowing
mod Moving
