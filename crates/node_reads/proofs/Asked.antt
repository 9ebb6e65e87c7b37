-- What an ask gives, by cases on how far the call has come.
use Rattle.std.proofs.Common.{◌≡◌, ℕ, zero, suc, ◌+◌, nat_eq, Bool, true, false, List, [], ◌∷◌, ◌++◌, length, Option, Some, None, refl, sym, ap, ◌∙◌, subst, arith, if◌then◌else◌}
use Rattle.std.proofs.lemmas.Bool.Decides.{nat_tests}
use Rattle.object_model.specs.Letters.{Number, LoginWord}
use Rattle.object_model.specs.Mishaps.{Mishaps}
use Rattle.object_model.specs.Sets.{has, count_below, count_in, nodes_in}
use Rattle.call_tickets.specs.declared.answer.Answer.{Answer}
use Rattle.call_tickets.specs.declared.answer.Ask.{Ask}
use Rattle.call_tickets.specs.declared.answer.Ask.TheVariants as code
use Rattle.login_model.specs.Readings.{ToldList, LoginStage, Login, ReadTicket, Reads}
use Rattle.login_model.specs.Readings.LoginStage.{IsDenied, AsksNodes}
use Rattle.login_model.specs.Progress.{ReadAsk, ask_of_nodes, login_ask, ask_read}
use Rattle.login_model.specs.Progress.ReadAnswer.{Lists, Denies}
use Rattle.login_model.specs.Progress.ReadAsk.{Pending, Done}
use Rattle.node_reads.specs.Asking.{AnswersAs, pending_of, DoneAs, AnswersIn, AskedIn, is_empty}

empty_more : (ns : List ℕ) → is_empty (ns ++ []) ≡ is_empty ns
empty_more [] = refl
empty_more (n ∷ ns) = refl

never_empty : (ns : List ℕ) (n : ℕ) → is_empty (ns ++ n ∷ []) ≡ false
never_empty [] n = refl
never_empty (m ∷ ns) n = refl

none_below : (mask k : ℕ) → nat_eq (count_below mask k) 0 ≡ is_empty (nodes_in mask k)
unfolding count_below
none_below mask zero = refl
none_below mask (suc k) = by (has mask (suc k)) (none_below mask k)
  where
    by : (b : Bool) → nat_eq (count_below mask k) 0 ≡ is_empty (nodes_in mask k)
        → nat_eq (count_below mask k + (if b then 1 else 0)) 0 ≡ is_empty (nodes_in mask k ++ (if b then suc k ∷ [] else []))
    by true e = let some : nat_eq (count_below mask k + 1) 0 ≡ false = grind (arith, nat_tests) in some ∙ sym (never_empty (nodes_in mask k) (suc k))
    by false e = let same : count_below mask k + 0 ≡ count_below mask k = omega arith in ap (λ (n : ℕ). nat_eq n 0) same ∙ e ∙ sym (empty_more (nodes_in mask k))

pub none_waits : (mask : ℕ) → nat_eq (count_in mask) 0 ≡ is_empty (nodes_in mask 64)
none_waits mask = none_below mask 64

pub pending_nodes : (login : Login) (named : ℕ) (told : List ToldList) (ns : List ℕ)
    → pending_of (ask_of_nodes login named told ns) ≡ (if is_empty ns then None else Some (code.Pending (length told) (count_in named)))
pending_nodes login named told [] = refl
pending_nodes login named told (n ∷ ns) = refl

pub done_nodes : (number : Number) (login : Login) (named : ℕ) (told : List ToldList) (ns : List ℕ) (given : Answer) → pending_of (ask_of_nodes login named told ns) ≡ None
    → AnswersAs number (Lists login.manager named told) given → DoneAs number (ask_of_nodes login named told ns) given
done_nodes number login named told [] given e answers = answers
done_nodes number login named told (n ∷ ns) given e answers = absurd (cc e)

-- the answer to a login that is done, by how far it has come
module _ (number : Number) (login : Login) (mishaps : Mishaps) (given : Answer) where
  pub done_denied : (word : LoginWord) → login.stage ≡ IsDenied word → AnswersAs number (Denies login.manager word) given → DoneAs number (login_ask login mishaps login.stage) given
  done_denied word e answers = subst (λ (s : LoginStage). DoneAs number (login_ask login mishaps s) given) (sym e) answers

  pub done_listed : (named waiting : ℕ) (told : List ToldList) → login.stage ≡ AsksNodes named waiting told → pending_of (login_ask login mishaps login.stage) ≡ None
      → AnswersAs number (Lists login.manager named told) given → DoneAs number (login_ask login mishaps login.stage) given
  done_listed named waiting told e done answers = subst (λ (s : LoginStage). DoneAs number (login_ask login mishaps s) given) (sym e)
      (done_nodes number login named told (nodes_in waiting 64) given (subst (λ (s : LoginStage). pending_of (login_ask login mishaps s) ≡ None) e done) answers)

-- a ticket that stands and waits
pub waits : (number : Number) (old : Reads) (t : Option ReadTicket) (ticket : ReadTicket) → Some ticket ≡ t → (ask : Ask) → Some ask ≡ pending_of (ask_read ticket ticket.reading) → AskedIn number old t (Some ask) old
waits number old t ticket here ask is = subst (λ (x : Option ReadTicket). AskedIn number old x (Some ask) old) here (by (ask_read ticket ticket.reading) is)
  where
    by : (r : ReadAsk) → Some ask ≡ pending_of r → AnswersIn number old r (Some ask) old
    by (Pending got wanted) e = (e, refl)
    by (Done answer) e = absurd (cc e)
