-- The most bytes of a number, a text and a line.
use Rattle.std.specs.Prelude.{ℕ, ◌+◌, ◌*◌}

-- a u64 in decimal
abbrev pub longest_number : ℕ
longest_number = 20

-- after a space
abbrev pub longest_spaced : ℕ
longest_spaced = 1 + longest_number

-- a report's is the longest: its word of six letters and eleven numbers
abbrev pub longest_text : ℕ
longest_text = 6 + 11 * longest_spaced

-- command number, space, text, LF
abbrev pub longest_line : ℕ
longest_line = longest_number + 1 + longest_text + 1
