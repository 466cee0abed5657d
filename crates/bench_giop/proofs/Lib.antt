pub mod DepositLaws
