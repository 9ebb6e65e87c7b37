-- Letters of calls that read, and the others.
use Rattle.std.specs.Prelude.{Bool, false, Option, Some, None}
use Rattle.object_model.specs.Letters.{Letter, is_read_body}

-- whether there is a letter, one of a call that reads
abbrev pub is_of_reads : Option Letter → Bool
is_of_reads None = false
is_of_reads (Some letter) = is_read_body letter.body
