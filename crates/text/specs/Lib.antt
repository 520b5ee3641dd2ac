-- The text of numbers and lines, and the page that it is written on.
pub mod Text
pub mod Page
