-- Steps of the code, by which its functions say what they do: no answer and no promise of a call names them.
pub mod Pushes
