-- How long a connection may wait.
use Rattle.std.specs.Prelude.{ℕ}
use Rattle.io_edge.specs.declared.yard.Protocol.{Protocol}
use Rattle.io_edge.specs.declared.yard.Protocol.TheVariants.{Smtp, Pop}

-- in seconds: RFC 5321 section 4.5.3.2.7, and RFC 1939 section 3
abbrev pub patience_of : Protocol → ℕ
patience_of Smtp = 300
patience_of Pop = 600
