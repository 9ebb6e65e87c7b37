use Rattle.turnstile.proofs.Worked.{one_entry_serves_one}
use Rattle.turnstile.proofs.laws.an_entry_serves_one_pass.Goals as goal

pub returns : goal.returns
returns c = one_entry_serves_one
