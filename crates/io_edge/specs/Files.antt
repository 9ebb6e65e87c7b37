-- The files of a yard in memory.
use Rattle.std.specs.Prelude.{ℕ, nat_eq, List, [], ◌∷◌, Option, Some, None, string_bytes, if◌then◌else◌}
use Rattle.std.specs.Cmp.Lexicographic.{pointwise}
use Rattle.io_edge.specs.declared.named_file.NamedFile.{NamedFile}

-- what the first of the files that have this name holds
abbrev pub octets_in : List NamedFile → List ℕ → Option (List ℕ)
octets_in [] name = None
octets_in (file ∷ files) name = if pointwise nat_eq (string_bytes file.name) name then Some file.octets.items else octets_in files name
