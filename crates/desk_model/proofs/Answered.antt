-- What an answer adds to the book.
use Rattle.std.proofs.Common.{◌≡◌, inl, inr, ⊎_elim, ℕ, Bool, List, [], ◌∷◌, ◌++◌, map, append-nil, Option, refl, sym, ap, ◌∙◌, subst}
use Rattle.mail_model.specs.Plan.{Plan}
use Rattle.mail_model.specs.Book.{Acked, acked_in, struck_in}
use Rattle.mail_model.specs.Book.BookEntry.{Acknowledged}
use Rattle.object_model.specs.Letters.{Number}
use Rattle.cluster_model.specs.Cluster.{NodeFiling, AskedOfNodes, Want, Ticket}
use Rattle.cluster_model.specs.Cluster.AskedOfNodes.{Copies, Deletion}
use Rattle.cluster_model.specs.Progress.{NodeAnswer, answer_once_confirmed, ask_of, confirmed_entries, wants_entries, entries_with}
use Rattle.cluster_model.specs.Progress.NodeAnswer.{Stored, Dropped, Read, Failed}
use Rattle.cluster_model.specs.Progress.Ask.{Done}
use Rattle.cluster_model.specs.World.{World}
use Rattle.cluster_model.specs.Steps.Step.{AskFor}
use Rattle.cluster_model.specs.Steps.Said.{Asked}
use Rattle.cluster_model.specs.Steps.StepOutcome.{Says}
use Rattle.cluster_model.specs.Makes.{AnswersAsk, IsSaidOfReads, AnswersRead, MakesStep}
use Rattle.cluster_model.specs.Makes.AnswersAsk.{Waits, Ends}
use Rattle.cluster_owes.proofs.Books.{acked_both, struck_both}
use Rattle.cluster_owes.proofs.Answering.{ticket_stands, answered_so, failed_so}
use Rattle.desk_model.specs.Tickets.{IsDeletion, AreDeletions, MayStandBeside, AskOneThing, TicketsAskOneThing, StandsUnder, filing_asked, filing_in}
use Rattle.desk_model.specs.Added.{Adds, AreForAnswer}

-- the entries of copies that are confirmed
module _ (filing : NodeFiling) (confirmers : ℕ) where
  abbrev copy_for : List ℕ → Acked
  copy_for user = record { user = user; id = filing.id; seconds = filing.seconds; size = filing.size; digest = filing.digest; confirmers = confirmers }

  acked_copies : (users : List (List ℕ)) → acked_in (map (λ user. Acknowledged (copy_for user)) users) ≡ map copy_for users
  acked_copies [] = refl
  acked_copies (user ∷ users) = ap (λ (l : List Acked). copy_for user ∷ l) (acked_copies users)

  struck_copies : (users : List (List ℕ)) → struck_in (map (λ user. Acknowledged (copy_for user)) users) ≡ []
  struck_copies [] = refl
  struck_copies (user ∷ users) = struck_copies users

-- the entries of deletions neither acknowledge nor strike
one_deletion : (want : Want) (asked : AskedOfNodes) → IsDeletion asked → (acked_in (confirmed_entries want asked) ≡ []) × (struck_in (confirmed_entries want asked) ≡ [])
one_deletion want (Copies filing) is = absurd is
one_deletion want (Deletion user id) is = (refl, refl)

both_empty : {X : Type 0} (a b : List X) → a ≡ [] → b ≡ [] → a ++ b ≡ []
both_empty a b p q = ap (λ l. l ++ b) p ∙ q

deletions_quiet : (wants : List Want) → AreDeletions wants → (acked_in (wants_entries wants) ≡ []) × (struck_in (wants_entries wants) ≡ [])
deletions_quiet [] are = (refl, refl)
deletions_quiet (want ∷ wants) are =
    let one = one_deletion want want.asked are.0 in
    let rest = deletions_quiet wants are.1 in (
      acked_both (confirmed_entries want want.asked) (wants_entries wants) ∙ both_empty (acked_in (confirmed_entries want want.asked)) (acked_in (wants_entries wants)) one.0 rest.0,
      struck_both (confirmed_entries want want.asked) (wants_entries wants) ∙ both_empty (struck_in (confirmed_entries want want.asked)) (struck_in (wants_entries wants)) one.1 rest.1,
    )

module _ (confirm : ℕ) (ticket : Ticket) (own : NodeAnswer) where
  abbrev filed : Option NodeFiling
  filed = filing_in ticket.wants

  abbrev Goal : NodeAnswer → Type 0
  Goal answer = AreForAnswer filed answer (entries_with answer ticket)

  failed_goal : (answer : NodeAnswer) → (m : _) → answer ≡ Failed m → Goal answer
  failed_goal answer m is = subst Goal (sym is) (record { acked = refl; struck = refl })

  -- copies of a message
  stored_goal : (want : Want) (more : List Want) (filing : NodeFiling) → ticket.wants ≡ want ∷ more → want.asked ≡ Copies filing → more ≡ [] → own ≡ Stored filing.id want.confirmed → Goal own
  stored_goal want more filing wants asks none is =
      let entries : wants_entries ticket.wants ≡ map (λ user. Acknowledged (copy_for filing want.confirmed user)) filing.users =
      ap wants_entries (wants ∙ ap (λ l. want ∷ l) none) ∙ ap (λ a. confirmed_entries want a ++ []) asks ∙ append-nil (confirmed_entries want (Copies filing)) in
      subst Goal (sym is) (record {
        acked = record {
          filing = filing;
          was = ap filing_in wants ∙ ap filing_asked asks;
          same_id = refl;
          confirmers = want.confirmed;
          are = ap acked_in entries ∙ acked_copies filing want.confirmed filing.users;
        };
        struck = ap struck_in entries ∙ struck_copies filing want.confirmed filing.users;
      })

  dropped_goal : (want : Want) (more : List Want) (confirmers : List ℕ) → ticket.wants ≡ want ∷ more → IsDeletion want.asked → AreDeletions more → own ≡ Dropped confirmers → Goal own
  dropped_goal want more confirmers wants first others is =
      let quiet = deletions_quiet (want ∷ more) (first, others) in
      subst Goal (sym is) (record { acked = ap (λ l. acked_in (wants_entries l)) wants ∙ quiet.0; struck = ap (λ l. struck_in (wants_entries l)) wants ∙ quiet.1 })

  confirmed_goal : (want : Want) (more : List Want) (asked : AskedOfNodes) → ticket.wants ≡ want ∷ more → want.asked ≡ asked → MayStandBeside asked more → own ≡ answer_once_confirmed (want ∷ more) want asked → Goal own
  confirmed_goal want more (Copies filing) wants asks beside is = stored_goal want more filing wants asks beside is
  confirmed_goal want more (Deletion user id) wants asks beside is =
      dropped_goal want more (map (λ one. one.confirmed) (want ∷ more)) wants (subst IsDeletion (sym asks) tt) beside is

  wanted_goal : (wants : List Want) → ticket.wants ≡ wants → AskOneThing wants → ask_of confirm ticket ≡ Done own → Goal own
  wanted_goal [] is one e = failed_goal own ticket.mishaps (failed_so confirm ticket.mishaps ticket.wants own is e)
  wanted_goal (want ∷ more) is one e = ⊎_elim
      (λ all. confirmed_goal want more want.asked is refl one all)
      (λ bad. failed_goal own ticket.mishaps bad)
      (answered_so confirm ticket.mishaps ticket.wants want more own is e)

  pub answer_goal : AskOneThing ticket.wants → ask_of confirm ticket ≡ Done own → Goal own
  answer_goal one e = wanted_goal ticket.wants refl one e

-- an answer of a call that reads acknowledges nothing
read_answers : (held : Option NodeFiling) (own : NodeAnswer) → IsSaidOfReads (Asked (Done own)) → AreForAnswer held own []
read_answers held (Stored id confirmers) said = absurd said
read_answers held (Dropped confirmers) said = absurd said
read_answers held (Read found) said = record { acked = refl; struck = refl }
read_answers held (Failed mishaps) said = record { acked = refl; struck = refl }

module _ (plan : Plan) (tells : Bool) (old new : World) (number : Number) (own : NodeAnswer) (all : TicketsAskOneThing old.slots) (filed : Option NodeFiling)
    (each : (ticket : Ticket) → StandsUnder old.slots number ticket → filing_in ticket.wants ≡ filed) where
  -- a ticket of messages
  by : AnswersAsk plan old number (Asked (Done own)) new → Adds (AreForAnswer filed own) old.book new.book
  by (Waits node disk stood up found got wanted e is new_world) = absurd (cc is)
  by (Ends node disk stood up found answer e is new_world) =
      let same_answer : answer ≡ own = cc is in
      let stands = ticket_stands number old.slots node disk stood up found in
      let is_done : ask_of plan.confirm stood ≡ Done own = e ∙ ap Done same_answer in
      record {
        added = entries_with own stood;
        book = ap (λ (w : World). w.book) new_world ∙ ap (λ a. old.book ++ entries_with a stood) same_answer;
        is = subst (λ f. AreForAnswer f own (entries_with own stood)) (each stood (record { node = stands.node; disk = stands.disk; up = stands.up; boot = stands.boot; here = stands.here }))
            (answer_goal plan.confirm stood own (all number.node stands.node stands.disk stands.up number.seq stood stands.here) is_done);
      }

  -- and one of a call that reads
  by_read : AnswersRead old number (Asked (Done own)) new → Adds (AreForAnswer filed own) old.book new.book
  by_read r = record { added = []; book = ap (λ (w : World). w.book) r.new_world ∙ sym (append-nil old.book); is = read_answers filed own r.said_is }

  acknowledges : MakesStep plan tells old (AskFor number) (Says (Asked (Done own))) new → Adds (AreForAnswer filed own) old.book new.book
  acknowledges (sound, inl asked) = by asked
  acknowledges (sound, inr read) = by_read read

pub answers_acknowledge : (plan : Plan) (tells : Bool) (old new : World) (number : Number) (own : NodeAnswer) → MakesStep plan tells old (AskFor number) (Says (Asked (Done own))) new
    → TicketsAskOneThing old.slots → (filed : Option NodeFiling) → ((ticket : Ticket) → StandsUnder old.slots number ticket → filing_in ticket.wants ≡ filed) → Adds (AreForAnswer filed own) old.book new.book
answers_acknowledge plan tells old new number own made all filed each = acknowledges plan tells old new number own all filed each made
