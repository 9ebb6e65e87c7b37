-- Which bucket a name falls into: FNV-1a of 64 bits, modulo the number of buckets.
use Rattle.std.specs.Prelude.{ℕ, ◌*◌, ◌%◌, List, fold}
use Rattle.std.specs.Int.Bits.{bit_xor}

-- the hash with one octet more
abbrev pub hash_step : ℕ → ℕ → ℕ
hash_step hash x = (bit_xor hash x * 1099511628211) % 18446744073709551616

abbrev pub hash_of : List ℕ → ℕ
hash_of octets = fold hash_step 14695981039346656037 octets

abbrev pub bucket_at : List ℕ → ℕ → ℕ
bucket_at octets buckets = hash_of octets % buckets
