-- The same acts leave the same sessions.
use Rattle.std.proofs.Common.{◌≡◌, ℕ, List, [], ◌∷◌, ◌++◌, Option, Some, sym, ap, ap₂, ◌∙◌, subst}
use Rattle.std.proofs.lemmas.List.{append_cancel_left}
use Rattle.mail_model.specs.Plan.{Plan}
use Rattle.mail_model.specs.Told.{unit_octets}
use Rattle.mail_model.specs.Transcript.{Entry}
use Rattle.session_model.specs.Calls.{Call, Answer}
use Rattle.session_model.specs.Calls.Answer.{Failed}
use Rattle.session_model.specs.Talk.{TalkState, Exchange, Standing, stands_by, answered}
use Rattle.session_model.specs.Talk.Standing.{Hearing, Waiting}
use Rattle.session_model.specs.Moves.{with_answer}
use Rattle.session_model.specs.Sessions.{Session, session_at}
use Rattle.session_model.specs.Acts.{Act, Deed, Did, WasAnswered, Acted, ActedAll, replace}
use Rattle.session_model.specs.Acts.Act.{Opens, Does, Faults, StillWaits, Leaves, Makes, Abandons}
use Rattle.session_model.specs.Acts.Deed.{IsFed, Hears, IsAnswered, IsGivenUp, Falls, Closes}
use Rattle.session_model.proofs.Cuts.{one_end}

hears_same : (standing : Standing) (state other : TalkState) → standing ≡ Hearing state → standing ≡ Hearing other → state ≡ other
hears_same standing state other is was = let both : Hearing state ≡ Hearing other = sym is ∙ was in cc

waits_same : (standing : Standing) (state other : TalkState) (call asked : Call) → standing ≡ Waiting state call → standing ≡ Waiting other asked → state ≡ other
waits_same standing state other call asked is was = let both : Waiting state call ≡ Waiting other asked = sym is ∙ was in cc

some_same : (one other : Session) (there : Option Session) → there ≡ Some one → there ≡ Some other → one ≡ other
some_same one other there is was = let both : Some one ≡ Some other = sym is ∙ was in cc

module _ (plan : Plan) (old new again : Session) where
  -- the exchange that waits and its state are those of the session
  answer_same : (call : Call) (answer : Answer) (reply said told : List (List ℕ)) → WasAnswered old call answer reply said new → WasAnswered old call answer reply told again → new ≡ again
  answer_same call answer reply said told (before, one, state, whole, waits, replies, says, is) (front, other, stands, parts, stays, fits, tells, was) =
      let ends = one_end before front one other (sym whole ∙ parts) in
      let state_is = waits_same old.standing state stands call call waits stays in
      let exchanges = ap₂ (λ (b : List Exchange) (o : Exchange). b ++ with_answer o answer reply ∷ []) ends.0 ends.1 in
      is ∙ ap₂ (λ (x : List Exchange) (s : TalkState). record old { whole = x; standing = answered s call answer }) exchanges state_is ∙ sym was

  pub did_same : (deed : Deed) (said told : List (List ℕ)) → Did plan old deed said new → Did plan old deed told again → new ≡ again
  did_same (IsFed more) said told did done = did.2 ∙ sym done.2
  did_same (Hears one) said told (state, left, hears, next, says, is, none) (other, rest, heard, first, tells, was, still) =
      let state_is = hears_same old.standing state other hears heard in
      let left_is = append_cancel_left (unit_octets one.unit) left rest (sym next.whole ∙ first.whole) in
      is ∙ ap₂ (λ (s : TalkState) (l : List ℕ). record old { whole = old.whole ++ one ∷ []; standing = stands_by plan old.node s one; rest = l }) state_is left_is ∙ sym was
  did_same (IsAnswered call answer reply) said told did done = answer_same call answer reply said told did done
  did_same (IsGivenUp call reply) said told did done = answer_same call Failed reply said told did done
  did_same Falls said told did done = did.2 ∙ sym done.2
  did_same Closes said told did done = did.2 ∙ sym done.2

module _ (plan : Plan) (old new again : List Session) where
  pub acted_same : (act : Act) (entries others : List Entry) → Acted plan old act entries new → Acted plan old act others again → new ≡ again
  acted_same (Opens protocol node greeting) entries others acted done = acted.1 ∙ sym done.1
  acted_same (Does k deed) entries others (before, behind, said, at, did, says, is) (plain, after, told, there, done, tells, was) =
      let same = some_same plain before (session_at old k) there at in
      let end = did_same plan before behind after deed said told did (subst (λ (s : Session). Did plan s deed told after) same done) in
      is ∙ ap (replace old k) end ∙ sym was
  acted_same (Faults node) entries others acted done = acted.1 ∙ sym done.1
  acted_same (StillWaits k) entries others acted done = acted.1 ∙ sym done.1
  acted_same (Leaves k user) entries others acted done = acted.1 ∙ sym done.1
  acted_same (Makes order event) entries others acted done = acted.1 ∙ sym done.1
  acted_same (Abandons k) entries others acted done = acted.1 ∙ sym done.1

-- all acts, one after another
pub all_same : (plan : Plan) (old new again : List Session) (acts : List Act) (outputs others : List (List Entry)) → ActedAll plan old acts outputs new → ActedAll plan old acts others again → new ≡ again
all_same plan old new again [] [] [] is was = is ∙ sym was
all_same plan old new again (act ∷ acts) (entries ∷ outputs) (says ∷ others) (mid, acted, more) (between, done, rest) =
    let same = acted_same plan old between mid act says entries done acted in
    all_same plan mid new again acts outputs others more (subst (λ (s : List Session). ActedAll plan s acts others again) same rest)
all_same plan old new again [] (entries ∷ outputs) others done again_done = absurd done
all_same plan old new again [] [] (says ∷ others) done again_done = absurd again_done
all_same plan old new again (act ∷ acts) [] others done again_done = absurd done
all_same plan old new again (act ∷ acts) (entries ∷ outputs) [] done again_done = absurd again_done
