use Rattle.trace_lines.proofs.Pieces.{three_more}
use Rattle.trace_lines.proofs.trace.add_received.Goals as goal

pub returns : goal.returns
returns c = three_more _ _ _ _ _ _ _ c.in_ok-extend_from_slice.ensures.items c.in_ok-extend_from_slice-2.ensures.items c.in_ok-extend_from_slice-3.ensures.items
