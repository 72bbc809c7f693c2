pub mod SettleLaws
