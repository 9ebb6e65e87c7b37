-- Memory that ran out as the words were read: nothing was done.
use Rattle.std.proofs.Common.{inl, ℕ, List, [], Option, refl, ◌^◌}
use Rattle.std.specs.Prelude.{Err}
use Rattle.io_edge.proofs.Known.{consumes_none, appends_none}
use Rattle.std.proofs.lemmas.List.Elements.{All-nil}
use Rattle.mail_model.specs.Lines.{HasNoLf}
use Rattle.mail_model.specs.Tape.{empty_draft}
use Rattle.node_store.specs.Disks.{View}
use Rattle.drive_tape.specs.Plans.{ReadsHead}
use Rattle.drive_tape.specs.declared.drove.Drove.TheVariants as drove
use Rattle.porcupine_server.specs.Works.{Stores, SourceAndSink, Works, TranscriptFollows}
use Rattle.porcupine_server.specs.Endings.{Finishes}
use Rattle.porcupine_server.specs.declared.ending.Ending.TheVariants as endings
use Rattle.porcupine_server.specs.Promises.{HasKept}
use Rattle.porcupine_server.proofs.Promises.{has_kept}

-- no line of the tape was read
head_unread : (left : Option (List ℕ)) → ReadsHead left left (Err (drove.NoMemory 1))
head_unread left = record {
  lines = [];
  draft = empty_draft;
  others = [];
  room = 2 ^ 40;
  took = consumes_none left;
  each = All-nil HasNoLf;
  drafts = refl;
  limit = refl;
  did = (tt, refl);
}

-- the same before and after
abbrev pub unchanged_stores : {D : Type 0} → Option (List (ℕ × ℕ × D)) → Option (List (ℕ × ℕ × D)) → Stores D
unchanged_stores handed returned = record { handed0 = handed; handed1 = handed; returned0 = returned; returned1 = returned }

abbrev pub unchanged_ends : Option (List ℕ) → Option (List ℕ) → SourceAndSink
unchanged_ends left held = record { left0 = left; left1 = left; held0 = held; held1 = held }

no_work : {D : Type 0} (on : View D) (is_settled : D → Type 0) (handed returned : Option (List (ℕ × ℕ × D))) (left held : Option (List ℕ))
    → Works on is_settled (unchanged_stores handed returned) (unchanged_ends left held) endings.NoMemory
no_work on is_settled handed returned left held = inl (record { answer = drove.NoMemory 1; reads = head_unread left; is = refl; none = refl; untaken = refl; ungiven = refl })

no_line : (held : Option (List ℕ)) → Finishes held held endings.NoMemory 7
no_line held = inl (refl, appends_none held)

pub follows_nothing : {D : Type 0} (on : View D) (is_settled : D → Type 0) (handed returned : Option (List (ℕ × ℕ × D))) (left held : Option (List ℕ))
    → TranscriptFollows on is_settled (unchanged_stores handed returned) (unchanged_ends left held) 7
follows_nothing on is_settled handed returned left held = record { ending = endings.NoMemory; middle = held; works = no_work on is_settled handed returned left held; last = no_line held }

pub kept_nothing_done : {D : Type 0} (on : View D) (is_settled : D → Type 0) (handed returned : Option (List (ℕ × ℕ × D))) (left held : Option (List ℕ))
    → HasKept on.seen (unchanged_stores handed returned) (unchanged_ends left held) 7
kept_nothing_done on is_settled handed returned left held = has_kept on is_settled (unchanged_stores handed returned) (unchanged_ends left held) held endings.NoMemory 7 (no_work on is_settled handed returned left held) (no_line held)
