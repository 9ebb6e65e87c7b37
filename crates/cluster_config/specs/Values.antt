-- What a plan file, as a TOML value, holds under its keys.
use Rattle.std.specs.Prelude.{ℕ, suc, pos, List, Option, Some, None}
use Rattle.toml.specs.Data.{Data, Items, no_items, item, string, integer, get}

-- a whole number that is not negative
abbrev pub natural : Option Data → Option ℕ
natural (Some (integer (pos n))) = Some n
natural _ = None

abbrev pub text : Option Data → Option (List ℕ)
text (Some (string octets)) = Some octets
text _ = None

-- the whole number, and the text, under a key
abbrev pub number_at : List ℕ → Data → Option ℕ
number_at key file = natural (get key file)

abbrev pub text_at : List ℕ → Data → Option (List ℕ)
text_at key file = text (get key file)

-- how many items an array has
abbrev pub count : Items → ℕ
count no_items = 0
count (item d more) = suc (count more)
