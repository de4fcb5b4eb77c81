pub mod RangeAsk
pub mod Content
