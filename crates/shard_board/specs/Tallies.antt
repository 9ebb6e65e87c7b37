-- Counts of passes.
use Rattle.std.specs.Prelude.{ℕ, ◌+◌, ◌-◌, ◌^◌, min}
use Rattle.call_tickets.specs.declared.tally.Tally.{Tally}

-- a count stays at its greatest
abbrev pub both : ℕ → ℕ → ℕ
both a b = min (a + b) (2 ^ 64 - 1)

-- what two passes counted together
abbrev pub counts_of_both : Tally → Tally → Tally
counts_of_both a b = record {
  stored = both a.stored b.stored;
  listed = both a.listed b.listed;
  wrong = both a.wrong b.wrong;
  part = both a.part b.part;
  gone = both a.gone b.gone;
  dropped = both a.dropped b.dropped;
  failed = both a.failed b.failed;
  down = both a.down b.down;
  worn = both a.worn b.worn;
  in_use = both a.in_use b.in_use;
  no_profile = both a.no_profile b.no_profile;
  leaves = both a.leaves b.leaves;
}
