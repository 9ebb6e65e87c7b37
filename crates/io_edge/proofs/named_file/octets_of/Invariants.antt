use Rattle.std.proofs.Common.{◌≡◌, drop}
use Rattle.io_edge.specs.Files.{octets_in}
use Rattle.io_edge.proofs.named_file.octets_of.Given as goal

-- the files that are left give what all give
abbrev pub invariant-loop-file : goal.invariant-loop-file
invariant-loop-file l = octets_in (drop l.file-index l.files) l.name ≡ octets_in l.files l.name
