-- The tape of one message is good.
use Rattle.std.proofs.Common.{◌≡◌, Bool, List, [], ◌∷◌, ◌++◌, length, flat_map, Some, None, refl, ap, subst, arith, codes, if◌then◌else◌}
use Rattle.mail_model.specs.Lines.{ended}
use Rattle.mail_model.specs.Tape.{planned}
use Rattle.mail_model.specs.Tape.Order.{Say}
use Rattle.session_model.specs.Talk.TalkState.{Mailing}
use Rattle.session_model.specs.Sessions.{Session}
use Rattle.session_model.specs.Run.{IsHandled}
use Rattle.worked_sessions.specs.OneMessage.{small_plan, small_lines, greeted, texting, small_mail, waiting, at_hello}
use Rattle.worked_sessions.proofs.Lines.{idle_line, has_alice, text_lines}
use Rattle.joint_world.specs.First.{first_world}
use Rattle.accepted_tapes.specs.Accepted.{AreAccepted}
use Rattle.accepted_tapes.proofs.AcceptedLines.{Leads, Chained, chain_accepts}
use Rattle.accepted_tapes.proofs.AcceptedLines.Stage.{Fresh, One, On, Unknown}
use Rattle.accepted_tapes.proofs.OneSession.{tells, idle_is_on}
use Rattle.accepted_tapes.proofs.Told.{hears_order, told_chain}
use Rattle.porcupine_server.specs.Complete.{IsGoodTape}
use Rattle.porcupine_server.specs.SmallTape.{small_head, small_tape}
use Rattle.porcupine_server.proofs.PlanHead.{one_line, one_each, whole_draft, drafts}

pub plan_is : planned (whole_draft 1) ≡ Some small_plan
plan_is = ap (λ (b : Bool). if b then Some small_plan else None) has_alice

-- the run lines

period : Leads small_plan small_lines (codes "say 1 .") (One at_hello) On
period = record {
  accepts = λ been sessions calls w meets. (Say 1 (codes "."), refl, hears_order 1 refl small_lines at_hello (codes ".") been sessions meets.0 refl, λ denied. tt);
  moves = λ been sessions calls w acts outputs new left next meets handled follows sound.
      let t = tells small_plan been at_hello (codes "say 1 .") (codes ".") acts outputs new (Mailing texting) (Mailing greeted) small_mail waiting refl refl
      (record { is_unit = text_lines; whole = refl; led = (refl, refl) }) refl refl refl idle_line
      (subst (λ (ss : List Session). IsHandled small_plan been ss (codes "say 1 .") acts outputs new) meets.0 handled) sound in
      (t.asked.session, t.asked.is, t.asked.idles);
}

quit : Leads small_plan small_lines (codes "say 1 QUIT") On Unknown
quit = record {
  accepts = λ been sessions calls w meets. (Say 1 (codes "QUIT"), refl, hears_order 1 refl small_lines meets.0 (codes "QUIT") been sessions meets.1 (idle_is_on meets.0 meets.2), λ denied. tt);
  moves = λ been sessions calls w acts outputs new left next meets handled follows sound. tt;
}

chained : Chained small_plan small_lines small_lines Fresh
chained = told_chain 1 refl small_lines (codes "say 1 ." ∷ codes "say 1 QUIT" ∷ []) (On, period, (Unknown, quit, tt))

accepted : AreAccepted small_plan small_lines
accepted map front line rest acts outputs sessions calls w members split runs follows sound alone =
    chain_accepts small_plan small_lines small_lines Fresh chained [] [] [] (first_world 1 map) (refl, refl, refl, (map, members, refl)) front line rest acts outputs sessions calls w split runs follows sound

octets : length (flat_map ended small_lines ++ ended (codes "end")) ≡ 157
octets = refl

pub one_tape_is_good : IsGoodTape small_tape
one_tape_is_good = record {
  head = small_head;
  draft = whole_draft 1;
  go = codes "go";
  plan = small_plan;
  lines = small_lines;
  last = codes "end";
  behind = [];
  whole = refl;
  head_each = one_each small_head refl;
  go_one = one_line (codes "go") refl;
  each = one_each small_lines refl;
  last_one = one_line (codes "end") refl;
  drafts = drafts 1 (codes "nodes 1") (codes "copies 1 1") refl refl;
  goes = refl;
  plan_is = plan_is;
  ends = refl;
  accepted = accepted;
  short = omega (arith, octets);
}
