-- For the code alone: the hash of the numbers of ids.
use Rattle.std.specs.Prelude.{ℕ, ◌+◌, ◌*◌, ◌/◌, ◌%◌, ◌^◌, bit_and, bit_xor}

-- a number of four bytes moves on by one byte, of which the lowest comes first
abbrev pub with_byte : ℕ → ℕ → ℕ
with_byte number byte = number / 256 + byte * 16777216

-- four numbers that follow each other share a place, and their highest bytes tell them apart
abbrev pub hash : ℕ → ℕ
hash number = bit_xor (number / 4) (bit_and ((number * 2654435761) % 2 ^ 32) 4278190080)
