pub mod MenusLemmas
