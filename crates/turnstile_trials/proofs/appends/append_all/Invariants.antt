use Rattle.std.proofs.Common.{◌≡◌, ◌++◌, take, true}
use Rattle.turnstile.specs.Passes.{own_entries, joined_entries, quota, IsPassOf}
use Rattle.turnstile_trials.proofs.appends.append_all.Given as goal

abbrev pub invariant-loop-n : goal.invariant-loop-n
invariant-loop-n g l = record {
  pass : IsPassOf l.turnstile l.pass;
  quota_is : quota l.pass ≡ quota l.fn.pass;
  joined_is : joined_entries l.pass ≡ joined_entries l.fn.pass;
  own_is : l.lasted ≡ true → own_entries l.pass ≡ own_entries l.fn.pass ++ take l.n-index l.numbers;
}
