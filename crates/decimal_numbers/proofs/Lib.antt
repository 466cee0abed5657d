pub mod NumberLemmas
