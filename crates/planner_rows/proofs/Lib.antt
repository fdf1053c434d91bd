-- Laws of the table of rows: writing the order of a row, the row of a path, rows that are written, and where the choices of a row lead.
pub mod RowWriting
pub mod PathRows
pub mod KnownRows
pub mod LandList
pub mod RowLaws
