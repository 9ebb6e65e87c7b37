-- Files one after another.
use Rattle.std.proofs.Common.{◌≡◌, ◌<◌, ◌+◌, ℕ, nat_eq, List, length, drop, get_or, string_bytes, Some, if◌then◌else◌}
use Rattle.std.proofs.lemmas.List.{drop_more}
use Rattle.std.specs.Cmp.Lexicographic.{pointwise}
use Rattle.io_edge.specs.Files.{octets_in}
use Rattle.io_edge.specs.declared.named_file.NamedFile.{NamedFile}

pub octets_next : (files : List NamedFile) (name : List ℕ) (i : ℕ) (d : NamedFile) → i < length files
    → octets_in (drop i files) name ≡ (if pointwise nat_eq (string_bytes (get_or files i d).name) name then Some (get_or files i d).octets.items else octets_in (drop (i + 1) files) name)
octets_next files name i d h = rw (drop_more files i d h)
