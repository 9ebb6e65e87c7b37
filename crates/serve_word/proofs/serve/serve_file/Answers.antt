use Rattle.std.proofs.Common.{inl, refl}
use Rattle.serve_word.proofs.Served.{begun, doors_begun}
use Rattle.serve_word.proofs.serve.serve_file.Goals as goal

pub returns-in-Ok-clause-serves : goal.returns-in-Ok-clause-serves
returns-in-Ok-clause-serves g c = let r = c.in-Ok.ensures.reads in
    begun _ _ _ _ _ _ _ _ _ _ _ _ _ _ _ _ _ _ _ _ _ _ _ c.in-Ok.ensures.handed c.in-Ok.ensures.returned c.in-Ok.ensures.opened c.in-Ok.ensures.closed (c.serve_parts.ensures.serves _ r.0 r.1 r.2)

pub returns-in-Ok-clause-door_fault : goal.returns-in-Ok-clause-door_fault
returns-in-Ok-clause-door_fault g c is = doors_begun _ _ _ _ _ _ _ _ _ _ _ _ c.in-Ok.ensures.unopened c.in-Ok.ensures.opened c.in-Ok.ensures.closed (c.serve_parts.ensures.door_fault is)

-- no plan was read
pub returns-in-Err-clause-serves : goal.returns-in-Err-clause-serves
returns-in-Err-clause-serves g c = inl (record {
  fault = c.in-Err.fault;
  unread = c.in-Err.ensures.reads;
  is = c.unread.ensures;
  silent = record { opened = c.in-Err.ensures.opened; closed = c.in-Err.ensures.closed; left = refl; held = refl };
  untaken = c.in-Err.ensures.handed;
  ungiven = c.in-Err.ensures.returned;
})
