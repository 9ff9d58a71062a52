pub mod ForCallers
mod BoolLaws
mod Digits
mod EachLaws
mod JoinLaws
mod ListLaws
mod NameLaws
mod NameOrders
mod NumberLaws
mod OptionLaws
mod PlaceLaws
mod Registers
mod ResultLaws
mod RisingLaws
mod RowLaws
mod TestLaws
mod Words
