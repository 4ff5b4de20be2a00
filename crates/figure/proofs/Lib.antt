-- Fields: a Float's figure by the fields of its bits. Writes: texts that are written one behind the other. Digits: a number's
-- text, digit by digit. Signs: an i64's text.
pub mod Fields
pub mod Writes
pub mod Digits
pub mod Signs
