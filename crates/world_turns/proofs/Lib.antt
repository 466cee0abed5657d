pub mod SendingLemmas
pub mod NamingLemmas
pub mod PayloadLemmas
