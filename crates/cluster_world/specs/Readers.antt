-- Whose disk is read as a letter is heard.
use Rattle.std.specs.Prelude.{ℕ, Option, Some, None}
use Rattle.object_model.specs.Letters.{Body, Letter}
use Rattle.object_model.specs.Letters.Body.{FetchAsk}

-- one that asks for octets of a message has its receiver read them
abbrev pub reader_by : ℕ → Body → Option ℕ
reader_by to (FetchAsk user id from most) = Some to
reader_by to body = None

abbrev pub reader_of : Option Letter → Option ℕ
reader_of None = None
reader_of (Some letter) = reader_by letter.to letter.body
