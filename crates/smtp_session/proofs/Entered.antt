-- No session that takes mail is let in as a user.
use Rattle.std.proofs.Common.{◌≡◌, List, ℕ, [], ◌∷◌, ◌++◌, Option, Some, None, refl, sym, ap, ◌∙◌}
use Rattle.mail_model.specs.Tape.{or_else}
use Rattle.mail_model.specs.Told.{Mail}
use Rattle.session_model.specs.Calls as calls
use Rattle.session_model.specs.Talk.{Exchange, let_in, entered_as}
use Rattle.session_model.specs.Moves.{with_answer}

else_none : (o : Option (List ℕ)) → or_else o None ≡ o
else_none None = refl
else_none (Some x) = refl

entered_more : (before : List Exchange) (one : Exchange) → entered_as (before ++ one ∷ []) ≡ or_else (entered_as before) (let_in one.call one.answer)
entered_more [] one = else_none (let_in one.call one.answer)
entered_more (first ∷ before) one =
    ap (or_else (let_in first.call first.answer)) (entered_more before one) ∙ else_assoc (let_in first.call first.answer) (entered_as before) (let_in one.call one.answer)
  where
    else_assoc : (a b c : Option (List ℕ)) → or_else a (or_else b c) ≡ or_else (or_else a b) c
    else_assoc None b c = refl
    else_assoc (Some x) b c = refl

-- an exchange more lets nobody in
pub still_nobody : (before : List Exchange) (one : Exchange) → let_in one.call one.answer ≡ None → entered_as before ≡ None → entered_as (before ++ one ∷ []) ≡ None
still_nobody before one none nobody = entered_more before one ∙ ap (or_else (entered_as before)) none ∙ else_none (entered_as before) ∙ nobody

-- a message lets nobody in
pub mail_nobody : (mail : Mail) (answer : Option calls.Answer) → let_in (Some (calls.Call.Deliver mail)) answer ≡ None
mail_nobody mail None = refl
mail_nobody mail (Some answer) = refl

front_none : (a b : Option (List ℕ)) → or_else a b ≡ None → a ≡ None
front_none None b is = refl
front_none (Some x) b is = cc

-- nor does the answer
pub answered_nobody : (before : List Exchange) (one : Exchange) (mail : Mail) (answer : calls.Answer) (reply : List (List ℕ)) → one.call ≡ Some (calls.Call.Deliver mail)
    → entered_as (before ++ one ∷ []) ≡ None → entered_as (before ++ with_answer one answer reply ∷ []) ≡ None
answered_nobody before one mail answer reply asks nobody =
    let was : entered_as before ≡ None = front_none (entered_as before) (let_in one.call one.answer) (sym (entered_more before one) ∙ nobody) in
    still_nobody before (with_answer one answer reply) (ap (λ (c : Option calls.Call). let_in c (Some answer)) asks ∙ mail_nobody mail (Some answer)) was
