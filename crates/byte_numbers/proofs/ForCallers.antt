-- What callers cite of numbers as bytes.
pub use Rattle.byte_numbers.proofs.Numbers.{IsBytes-drop, Takes, length-number, number-big_number, number_again, number_none, number_takes}
