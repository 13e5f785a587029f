-- What `src/list.rt` declares that holds values.
pub mod List
