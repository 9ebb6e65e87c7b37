-- The tape of three nodes is good.
use Rattle.std.proofs.Common.{◌≡◌, ℕ, Bool, [], ◌++◌, length, flat_map, Some, None, refl, ap, arith, codes, if◌then◌else◌}
use Rattle.mail_model.specs.Lines.{ended}
use Rattle.mail_model.specs.Tape.{planned}
use Rattle.worked_sessions.specs.ThreeNodes.{three_nodes, posted_lines}
use Rattle.worked_sessions.proofs.Lines.{has_alice}
use Rattle.accepted_tapes.proofs.Accepts.{letters_accepted}
use Rattle.porcupine_server.specs.Complete.{IsGoodTape}
use Rattle.porcupine_server.specs.PostedTape.{posted_head, posted_tape}
use Rattle.porcupine_server.proofs.PlanHead.{one_line, one_each, whole_draft, drafts}

plan_is : planned (whole_draft 3) ≡ Some three_nodes
plan_is = ap (λ (b : Bool). if b then Some three_nodes else None) has_alice

octets : length (flat_map ended posted_lines ++ ended (codes "end")) ≡ 190
octets = refl

pub posted_tape_is_good : IsGoodTape posted_tape
posted_tape_is_good = record {
  head = posted_head;
  draft = whole_draft 3;
  go = codes "go";
  plan = three_nodes;
  lines = posted_lines;
  last = codes "end";
  behind = [];
  whole = refl;
  head_each = one_each posted_head refl;
  go_one = one_line (codes "go") refl;
  each = one_each posted_lines refl;
  last_one = one_line (codes "end") refl;
  drafts = drafts 3 (codes "nodes 3") (codes "copies 3 3") refl refl;
  goes = refl;
  plan_is = plan_is;
  ends = refl;
  accepted = letters_accepted;
  short = omega (arith, octets);
}
