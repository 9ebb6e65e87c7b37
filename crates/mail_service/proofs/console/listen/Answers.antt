use Rattle.std.proofs.Common.{◌∙◌, le_trans}
use Rattle.mail_service.proofs.Listening.{read_more}
use Rattle.mail_service.proofs.console.listen.Goals as goal

-- the line did not end the console
pub loop-preserved : goal.loop-preserved
loop-preserved g c = let i = c.loop.invariant in let t = c.in_default.ensures.turned in record {
  next = tt;
  finite = tt;
  belongs = c.in_default.ensures.belongs;
  quota = c.in_default.ensures.quota ∙ i.quota;
  read_later = le_trans i.read_later c.in_default.ensures.read_later;
  read = read_more _ _ _ c.loop.number c.saturating_add-number.result t.0 i.read c.saturating_add-number.ensures t.1 t.2;
  write_later = le_trans i.write_later c.in_default.ensures.write_later;
}
