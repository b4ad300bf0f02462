-- Trees in which two phrases of one production over one span are equal.
pub use Rattle.source_lex.specs.Uniform.{Holds, HoldPieces, HaveSameSpan, IsUniform}
