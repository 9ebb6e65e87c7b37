-- What the plain program does with a step that looks into a map of a node. At literals all else computes, but what a map holds is told by lemmas.
use Rattle.std.proofs.Common.{◌≡◌, ℕ, nat_le, Bool, true, false, List, [], ◌∷◌, ◌++◌, length, Option, Some, None, refl, sym, ap, ◌∙◌}
use Rattle.std.specs.FinMap as fin
use Rattle.std.specs.FinMap.{empty, insert, remove, contains_key, entries, put, len-empty, len-entries, len-remove, entries-insert}
use Rattle.object_model.specs.Keys.{key_cmp}
use Rattle.object_model.proofs.MapLaws.{key_total}
use Rattle.object_model.specs.Mishaps.MishapKind.{Dropped}
use Rattle.mail_model.specs.Identity.{Key, State}
use Rattle.mail_model.specs.Plan.{Plan}
use Rattle.mail_model.specs.Record.{Record}
use Rattle.object_model.specs.UpdateLog.{Logged}
use Rattle.object_model.specs.Letters.{Number, Letter}
use Rattle.cluster_model.specs.Cluster.{Ticket, Node, with_slot}
use Rattle.cluster_model.specs.Rules.{idle, ticket_at, told_at, hear_told, hear_ack, hear_retired, acked_at, retired_at, end_ticket, push}
use Rattle.cluster_model.specs.Thrown.{is_stale, answers_ticket, with_stamps}
use Rattle.cluster_model.specs.Thrown.Why.{Late}
use Rattle.cluster_model.specs.Progress.{NodeAnswer, ask_of, entries_with}
use Rattle.cluster_model.specs.Progress.Ask.{Pending, Done}
use Rattle.cluster_model.specs.Deeds.{slot_up, hear, hear_body}
use Rattle.cluster_model.specs.Room.{due_to, keys_pushed}
use Rattle.cluster_model.specs.World.{World, missed}
use Rattle.cluster_model.specs.Steps.{letter_at, node_name_fault, letters_end, step_fault}
use Rattle.cluster_model.specs.Steps.Step.{AskFor, GiveUp, Post, DropLetter, PushTo}
use Rattle.cluster_model.specs.Steps.Said.{Asked, Heard, Thrown, Sent, Finished}
use Rattle.cluster_model.specs.Makes.{IsUp, after}
use Rattle.cluster_model.specs.Steps.StepOutcome.{Says}
use Rattle.cluster_model.specs.Plain.{kept, without_letter, Goes}

pub drops : (plan : Plan) (octets : List ℕ) (w : World) (number : ℕ) (letter : Letter) → step_fault plan (DropLetter number) w ≡ None → letter_at number w.flying ≡ Some letter
    → missed Dropped w.slots letter ≡ w.slots → Goes plan octets w (DropLetter number) (Says Finished) (record w { flying = without_letter number w.flying })
drops plan octets w number letter fits here is = record { is = rw fits (rw here (rw is refl)) }

-- a map that had one entry, and one that has it no more
nothing : {A : Type 0} (es : List A) → length es ≡ 0 → es ≡ []
nothing [] e = refl
nothing (x ∷ es) e = absurd (cc e)

pub no_entries : entries (empty {X = Logged} {R = key_cmp}) ≡ []
no_entries = nothing (entries (empty {X = Logged} {R = key_cmp})) (sym (len-entries (empty {X = Logged} {R = key_cmp})) ∙ len-empty key_cmp Logged)

pub one_entry : (key : Key) (entry : Logged) → entries (insert (empty {R = key_cmp}) key entry) ≡ (key, entry) ∷ []
one_entry key entry = entries-insert key_total empty key entry ∙ ap (put key_cmp key entry) no_entries

pub emptied : (key : Key) (entry : Logged) → contains_key (insert (empty {R = key_cmp}) key entry) key ≡ true → entries (remove (insert (empty {R = key_cmp}) key entry) key) ≡ []
emptied key entry here = nothing _ (sym (len-entries _) ∙ len-remove key_total (insert empty key entry) key ∙ rw here (rw (len-entries (insert (empty {R = key_cmp}) key entry)) (rw (one_entry key entry) refl)))

module _ (plan : Plan) (octets : List ℕ) (w : World) (node : Node) (disk : List Record) where
  module _ (number : Number) (ticket : Ticket) (up : IsUp w number.node node disk) (stands : ticket_at number.node node (Some number) ≡ Some ticket) where
    pub waits : (got wanted : ℕ) → node_name_fault plan (AskFor number) ≡ None → ask_of plan.confirm ticket ≡ Pending got wanted
        → Goes plan octets w (AskFor number) (Says (Asked (Pending got wanted))) w
    waits got wanted named is = record { is = rw named (rw up (rw up (rw stands (rw is refl)))) }

    pub ends : (answer : NodeAnswer) → node_name_fault plan (AskFor number) ≡ None → ask_of plan.confirm ticket ≡ Done answer
        → Goes plan octets w (AskFor number) (Says (Asked (Done answer))) (record w { slots = with_slot w.slots number.node (slot_up (end_ticket number.seq node disk).node disk); book = w.book ++ entries_with answer ticket })
    ends answer named is = record { is = rw named (rw up (rw up (rw stands (rw is refl)))) }

    pub gives_up : node_name_fault plan (GiveUp number) ≡ None → (nat_le letters_end w.sent ≡ false)
        → Goes plan octets w (GiveUp number) (Says (Finished)) (after w number.node (end_ticket number.seq node disk))
    gives_up named few = record { is = rw named (rw up (rw few (rw up (rw stands refl)))) }

  module _ (number : ℕ) (keep : Bool) (letter : Letter) (fits : step_fault plan (Post number keep) w ≡ None) (here : letter_at number w.flying ≡ Some letter) (up : IsUp w letter.to node disk) (fresh : is_stale letter node.installed ≡ false) where
    pub hears_told : (ticket : Ticket) → ticket_at letter.to node letter.ticket ≡ Some ticket → answers_ticket letter.body ≡ true
        → with_stamps letter.body node ≡ node → hear_body letter.to plan.nodes node disk letter letter.body ≡ hear_told letter.to node disk letter
        → Goes plan octets w (Post number keep) (Says (Heard)) (after (record w { flying = kept number keep w.flying }) letter.to (told_at node disk letter (Some ticket)))
    hears_told ticket stands answers same body = record { is = rw fits (rw here (rw up (rw fresh (rw answers (rw stands (rw same (rw body (rw stands refl)))))))) }

    pub throws_late : ticket_at letter.to node letter.ticket ≡ None → answers_ticket letter.body ≡ true
        → Goes plan octets w (Post number keep) (Says (Thrown Late)) (record w { flying = kept number keep w.flying })
    throws_late gone answers = record { is = rw fits (rw here (rw up (rw fresh (rw answers (rw gone refl))))) }

    module _ (key : Key) (state : State) (got : Option Logged) (log : fin.get node.log key ≡ got) (no_ticket : answers_ticket letter.body ≡ false) where
      pub hears_ack : hear letter.to plan.nodes node disk letter ≡ hear_ack letter.to plan.nodes (with_stamps letter.body node) disk key state letter.from
          → Goes plan octets w (Post number keep) (Says (Heard)) (after (record w { flying = kept number keep w.flying }) letter.to
          (acked_at letter.to plan.nodes (with_stamps letter.body node) disk key state letter.from got))
      hears_ack body = record { is = rw fits (rw here (rw up (rw fresh (rw no_ticket (rw body (rw log refl)))))) }

      pub hears_retired : hear letter.to plan.nodes node disk letter ≡ hear_retired (with_stamps letter.body node) disk key state
          → Goes plan octets w (Post number keep) (Says (Heard)) (after (record w { flying = kept number keep w.flying }) letter.to
          (retired_at (with_stamps letter.body node) disk key state got))
      hears_retired body = record { is = rw fits (rw here (rw up (rw fresh (rw no_ticket (rw body (rw log refl)))))) }

  pub pushes_due : (own to : ℕ) (keys : List Key) (out : List Letter) → IsUp w own node disk → step_fault plan (PushTo own to) w ≡ None
      → keys_pushed w.flying own to node disk ≡ keys → (push own to keys node disk).out ≡ out
      → Goes plan octets w (PushTo own to) (Says (Sent (length out))) (after w own (record { node = node; disk = disk; out = out }))
  pushes_due own to keys out up fits due is = record { is = rw fits (rw up (rw due (rw is refl))) }

  pub pushes_nothing : (own to : ℕ) → IsUp w own node disk → node_name_fault plan (PushTo own to) ≡ None → nat_le letters_end w.sent ≡ false → due_to own to node ≡ []
      → Goes plan octets w (PushTo own to) (Says (Sent 0)) (after w own (idle node disk))
  pushes_nothing own to up named few none = record { is = rw named (rw up (rw few (rw none (rw up (rw none refl))))) }
