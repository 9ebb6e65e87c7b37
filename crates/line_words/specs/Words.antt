-- How the words and numbers of a line are read.
use Rattle.std.specs.Prelude.{◌≡◌, ℕ, ◌+◌, ◌-◌, ◌*◌, nat_lt, false, List, Option, Some, None, if◌then◌else◌}
use Rattle.std.specs.List.{list_any}
use Rattle.mail_model.specs.Smtp.{is_blank}

-- no blank, so the octets are one word
abbrev pub IsOneWord : List ℕ → Type 0
IsOneWord word = list_any is_blank word ≡ false

-- the value with one digit more, while it stays below 2^64
abbrev pub shifted : Option ℕ → ℕ → Option ℕ
shifted None x = None
shifted (Some n) x = if nat_lt (n * 10 + (x - 48)) 18446744073709551616 then Some (n * 10 + (x - 48)) else None

-- the same below 2^128
abbrev pub shifted_long : Option ℕ → ℕ → Option ℕ
shifted_long None x = None
shifted_long (Some n) x = if nat_lt (n * 10 + (x - 48)) 340282366920938463463374607431768211456 then Some (n * 10 + (x - 48)) else None
