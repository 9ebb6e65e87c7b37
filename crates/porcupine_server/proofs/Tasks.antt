-- What is known by what the words ask for.
use Rattle.std.proofs.Common.{◌≡◌, ◌⊎◌, ⊎_elim, ℕ, List, Option, Some, None, refl, sym, ap, ◌∙◌, subst, arith}
use Rattle.command_words.specs.Forms.{Task}
use Rattle.command_words.specs.Seen.{task_seen}
use Rattle.command_words.specs.declared.task.Task.{Task as CodeTask}
use Rattle.command_words.specs.Forms.Task.{Drive, Storm, Check, Serve}
use Rattle.word_works.specs.Storms.{WritesStorm}
use Rattle.io_edge.specs.Causes.{Rose}
use Rattle.node_store.specs.Disks.{View}
use Rattle.serve_word.specs.Causes.{IsServeStatus}
use Rattle.serve_word.specs.Serving.{Outside}
use Rattle.porcupine_server.specs.declared.ending.Ending.{Ending}
use Rattle.porcupine_server.specs.declared.ending.Ending.TheVariants.{Done, Line, Read, Write, Store, NoMemory}
use Rattle.porcupine_server.specs.Endings.{status_of}
use Rattle.porcupine_server.specs.Works.{Stores, SourceAndSink, TranscriptFollows}
use Rattle.porcupine_server.specs.Tasks.{ByTask, IsAnswered, IsServe, Counts, Refused, Driven, Stormed, Checked, Served}

-- what is said of a task is said of the words that ask for it
pub at_task : (words task : Option Task) (refused driven : Type 0) (stormed : ℕ → ℕ → Type 0) (checked served : List ℕ → Type 0) → task ≡ words → ByTask task refused driven stormed checked served → ByTask words refused driven stormed checked served
at_task words task refused driven stormed checked served is told = subst (λ (t : Option Task). ByTask t refused driven stormed checked served) is told

pub by_none : (words : Option Task) (refused driven : Type 0) (stormed : ℕ → ℕ → Type 0) (checked served : List ℕ → Type 0) → ByTask words refused driven stormed checked served → words ≡ None → refused
by_none words refused driven stormed checked served told is = at_task None words refused driven stormed checked served is told

pub by_drive : (words : Option Task) (refused driven : Type 0) (stormed : ℕ → ℕ → Type 0) (checked served : List ℕ → Type 0) → ByTask words refused driven stormed checked served → words ≡ Some Drive → driven
by_drive words refused driven stormed checked served told is = at_task (Some Drive) words refused driven stormed checked served is told

pub by_storm : (words : Option Task) (refused driven : Type 0) (stormed : ℕ → ℕ → Type 0) (checked served : List ℕ → Type 0) (number size : ℕ) → ByTask words refused driven stormed checked served → words ≡ Some (Storm number size) → stormed number size
by_storm words refused driven stormed checked served number size told is = at_task (Some (Storm number size)) words refused driven stormed checked served is told

pub by_check : (words : Option Task) (refused driven : Type 0) (stormed : ℕ → ℕ → Type 0) (checked served : List ℕ → Type 0) (file : List ℕ) → ByTask words refused driven stormed checked served → words ≡ Some (Check file) → checked file
by_check words refused driven stormed checked served file told is = at_task (Some (Check file)) words refused driven stormed checked served is told

pub by_serve : (words : Option Task) (refused driven : Type 0) (stormed : ℕ → ℕ → Type 0) (checked served : List ℕ → Type 0) (file : List ℕ) → ByTask words refused driven stormed checked served → words ≡ Some (Serve file) → served file
by_serve words refused driven stormed checked served file told is = at_task (Some (Serve file)) words refused driven stormed checked served is told

-- words ask for nothing, or for one of four
pub by_cases : (words : Option Task) (refused driven : Type 0) (stormed : ℕ → ℕ → Type 0) (checked served : List ℕ → Type 0) (goal : Type 0) → ByTask words refused driven stormed checked served
    → (words ≡ None → refused → goal) → (words ≡ Some Drive → driven → goal)
    → ((number size : ℕ) → words ≡ Some (Storm number size) → stormed number size → goal)
    → ((file : List ℕ) → words ≡ Some (Check file) → checked file → goal)
    → ((file : List ℕ) → words ≡ Some (Serve file) → served file → goal) → goal
by_cases None refused driven stormed checked served goal told none drive storm check serve = none refl told
by_cases (Some Drive) refused driven stormed checked served goal told none drive storm check serve = drive refl told
by_cases (Some (Storm number size)) refused driven stormed checked served goal told none drive storm check serve = storm number size refl told
by_cases (Some (Check file)) refused driven stormed checked served goal told none drive storm check serve = check file refl told
by_cases (Some (Serve file)) refused driven stormed checked served goal told none drive storm check serve = serve file refl told

-- words that ask for something, where the same is to be shown whatever that is
pub some_task : (words : Option Task) (refused driven : Type 0) (stormed : ℕ → ℕ → Type 0) (checked served : List ℕ → Type 0) → (words ≡ None → ⊥) → driven → ((number size : ℕ) → stormed number size) → ((file : List ℕ) → checked file)
    → ((file : List ℕ) → served file) → ByTask words refused driven stormed checked served
some_task None refused driven stormed checked served some drive storm check serve = absurd (some refl)
some_task (Some Drive) refused driven stormed checked served some drive storm check serve = drive
some_task (Some (Storm number size)) refused driven stormed checked served some drive storm check serve = storm number size
some_task (Some (Check file)) refused driven stormed checked served some drive storm check serve = check file
some_task (Some (Serve file)) refused driven stormed checked served some drive storm check serve = serve file

-- the status of `storm` is one of three
pub no_storm : (held0 held1 : Option (List ℕ)) (number size status n : ℕ) → WritesStorm held0 held1 number size status → status ≡ n → (n ≡ 0 → ⊥) → (n ≡ 5 → ⊥) → (n ≡ 7 → ⊥) → ⊥
no_storm held0 held1 number size status n storm is zero five seven = ⊎_elim (λ whole. zero (sym is ∙ whole.0))
    (λ part. ⊎_elim (λ e. five (sym is ∙ e)) (λ e. seven (sym is ∙ e)) part.0) storm

-- and that of `check` one of five
pub no_check : (status n : ℕ) → (status ≡ 0) ⊎ (status ≡ 2) ⊎ (status ≡ 4) ⊎ (status ≡ 5) ⊎ (status ≡ 7) → status ≡ n → (n ≡ 0 → ⊥) → (n ≡ 2 → ⊥) → (n ≡ 4 → ⊥) → (n ≡ 5 → ⊥) → (n ≡ 7 → ⊥) → ⊥
no_check status n some is zero two four five seven = ⊎_elim (λ e. zero (sym is ∙ e)) (λ a. ⊎_elim (λ e. two (sym is ∙ e)) (λ b. ⊎_elim (λ e. four (sym is ∙ e))
    (λ d. ⊎_elim (λ e. five (sym is ∙ e)) (λ e. seven (sym is ∙ e)) d) b) a) some

-- that of words of no form is 1
pub no_refused : (status n : ℕ) → status ≡ 1 → status ≡ n → (n ≡ 1 → ⊥) → ⊥
no_refused status n one is apart = apart (sym is ∙ one)

-- that of `drive` is not 8
no_doors : (ending : Ending) → status_of ending ≡ 8 → ⊥
no_doors Done is = omega (arith, is)
no_doors (Line number fault) is = omega (arith, is)
no_doors Read is = omega (arith, is)
no_doors Write is = omega (arith, is)
no_doors (Store node) is = omega (arith, is)
no_doors NoMemory is = omega (arith, is)

pub no_driven : {D : Type 0} (on : View D) (is_settled : D → Type 0) (stores : Stores D) (ends : SourceAndSink) (status : ℕ) → TranscriptFollows on is_settled stores ends status → status ≡ 8 → ⊥
no_driven on is_settled stores ends status follows is = ⊎_elim (λ whole. no_doors follows.ending (sym whole.0 ∙ is))
    (λ part. ⊎_elim (λ five. omega (arith, five, is)) (λ seven. omega (arith, seven, is)) part.0) follows.last

-- that of `serve` is not 1
pub no_serve : (status : ℕ) → IsServeStatus status → status ≡ 1 → ⊥
no_serve status some is = ⊎_elim (λ e. omega (arith, e, is)) (λ a. ⊎_elim (λ e. omega (arith, e, is)) (λ b. ⊎_elim (λ e. omega (arith, e, is)) (λ d. ⊎_elim (λ e. omega (arith, e, is))
    (λ f. ⊎_elim (λ e. omega (arith, e, is)) (λ h. ⊎_elim (λ e. omega (arith, e, is)) (λ k. ⊎_elim (λ e. omega (arith, e, is)) (λ e. omega (arith, e, is)) k) h) f) d) b) a) some

-- What is promised of each task, and what is known of the words by it.
module _ {D G X : Type 0} (on : View D) (is_settled : D → Type 0) (left : G → Option (List X)) (quiets faults : G → ℕ) (stores : Stores D) (ends : SourceAndSink) (out : Outside D G) (counts : Counts) (files : List ℕ → Option (List ℕ)) (status : ℕ) where
  -- a write that failed, whatever was asked for
  pub write_faults : (words : Option Task) → IsAnswered on is_settled left quiets faults stores ends out counts files words status → status ≡ 5 → Rose counts.write0 counts.write1
  write_faults None said is = absurd (no_refused status 5 said.one is (λ e. omega (arith, e)))
  write_faults (Some Drive) said is = said.write_fault is
  write_faults (Some (Storm number size)) said is = said.write_fault is
  write_faults (Some (Check file)) said is = said.write_fault is
  write_faults (Some (Serve file)) said is = said.write_fault is

  -- what is promised of a tape, of a storm, of a check and of serving, where that is the task
  at_code : (task : CodeTask) (shown : Task) → Some (task_seen task) ≡ Some shown → IsAnswered on is_settled left quiets faults stores ends out counts files (Some shown) status
      → IsAnswered on is_settled left quiets faults stores ends out counts files (Some (task_seen task)) status
  at_code task shown is told = subst (λ (t : Option Task). IsAnswered on is_settled left quiets faults stores ends out counts files t status) (sym is) told

  seen_so : (task shown : CodeTask) (plain : Task) → task ≡ shown → task_seen shown ≡ plain → Some (task_seen task) ≡ Some plain
  seen_so task shown plain is seen = ap (λ (t : CodeTask). Some (task_seen t)) is ∙ ap (λ (t : Task). Some t) seen

  pub driven_by : (task shown : CodeTask) → task ≡ shown → task_seen shown ≡ Drive → Driven on is_settled stores ends counts status
      → IsAnswered on is_settled left quiets faults stores ends out counts files (Some (task_seen task)) status
  driven_by task shown is seen drive = at_code task Drive (seen_so task shown Drive is seen) drive

  pub stormed_by : (task shown : CodeTask) (number size : ℕ) → task ≡ shown → task_seen shown ≡ Storm number size → Stormed stores ends counts status number size
      → IsAnswered on is_settled left quiets faults stores ends out counts files (Some (task_seen task)) status
  stormed_by task shown number size is seen storm = at_code task (Storm number size) (seen_so task shown (Storm number size) is seen) storm

  pub checked_by : (task shown : CodeTask) (file : List ℕ) → task ≡ shown → task_seen shown ≡ Check file → Checked stores ends counts status (files file)
      → IsAnswered on is_settled left quiets faults stores ends out counts files (Some (task_seen task)) status
  checked_by task shown file is seen check = at_code task (Check file) (seen_so task shown (Check file) is seen) check

  pub served_by : (task shown : CodeTask) (file : List ℕ) → task ≡ shown → task_seen shown ≡ Serve file → Served on is_settled left quiets faults out counts status (files file)
      → IsAnswered on is_settled left quiets faults stores ends out counts files (Some (task_seen task)) status
  served_by task shown file is seen serve = at_code task (Serve file) (seen_so task shown (Serve file) is seen) serve

-- words that ask for another thing than to serve
pub not_served : (task shown : CodeTask) (plain : Task) → task ≡ shown → task_seen shown ≡ plain → (IsServe (Some (task_seen task)) → ⊥) → IsServe (Some plain) → ⊥
not_served task shown plain is seen other serve = other (subst (λ (t : Task). IsServe (Some t)) (sym (ap task_seen is ∙ seen)) serve)
