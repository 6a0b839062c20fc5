-- Counts of faults, which never fall.
pub use Rattle.rent_buf.specs.Counts.{Rose}
