-- A message that a session tells is whole.
use Rattle.std.proofs.Common.{◌≡◌, ◌⊎◌, inl, inr, ℕ, ◌≤◌, true, List, [], ◌∷◌, ◌++◌, length, length-append, append-nil, Some, refl, sym, ap, ◌∙◌, subst, arith}
use Rattle.mail_model.specs.Lines.{sent_line, ends_in_crlf}
use Rattle.mail_model.specs.Session.{undotted, undotted_line}
use Rattle.mail_model.specs.Told.{Mail}
use Rattle.mail_base.specs.Delivers.{mail_in}
use Rattle.session_model.specs.Calls as model
use Rattle.session_model.specs.SoundMails.{IsSoundMail}
use Rattle.call_tickets.specs.Seen.{call_seen}
use Rattle.call_tickets.specs.declared.call.Call.{Call}
use Rattle.call_tickets.specs.declared.call.Call.TheVariants.{Deliver, Login, Fetch, Strike, Leave}
use Rattle.node_core.specs.Beginning.{call_seen as machine_call, IsTextEnded}

-- after any octets, two or more decide
ends_behind : (front : List ℕ) (y z : ℕ) (l : List ℕ) → ends_in_crlf (front ++ y ∷ z ∷ l) ≡ ends_in_crlf (y ∷ z ∷ l)
ends_behind [] y z l = refl
ends_behind (a ∷ []) y z l = refl
ends_behind (a ∷ b ∷ []) y z l = refl
ends_behind (a ∷ b ∷ c ∷ front) y z l = ends_behind (b ∷ c ∷ front) y z l

ends_append : (front l : List ℕ) → 2 ≤ length l → ends_in_crlf (front ++ l) ≡ ends_in_crlf l
ends_append front [] two = absurd (omega (arith, two))
ends_append front (y ∷ []) two = absurd (omega (arith, two))
ends_append front (y ∷ z ∷ l) two = ends_behind front y z l

-- the text of a message is empty or ends in CRLF
lines_end : (first : List ℕ) (lines : List (List ℕ)) → ends_in_crlf (undotted (first ∷ lines)) ≡ true
lines_end first [] = ap ends_in_crlf (append-nil (sent_line (undotted_line first))) ∙ ends_behind (undotted_line first) 13 10 []
lines_end first (second ∷ lines) =
    ends_append (sent_line (undotted_line first)) (undotted (second ∷ lines))
    (let e : 2 ≤ length (sent_line (undotted_line second) ++ undotted lines) = omega (arith, length-append (sent_line (undotted_line second)) (undotted lines), length-append (undotted_line second) (13 ∷ 10 ∷ [])) in e)
    ∙ lines_end second lines

text_ends : (lines : List (List ℕ)) → (undotted lines ≡ []) ⊎ (ends_in_crlf (undotted lines) ≡ true)
text_ends [] = inl refl
text_ends (first ∷ lines) = inr (lines_end first lines)

mail_ends : (mail : Mail) → IsSoundMail (model.Call.Deliver mail) → (mail.text ≡ []) ⊎ (ends_in_crlf mail.text ≡ true)
mail_ends mail (talk, lines, is, apart) = subst (λ (m : Mail). (m.text ≡ []) ⊎ (ends_in_crlf m.text ≡ true)) (sym is) (text_ends lines)

some_same : (a b : model.Call) → Some a ≡ Some b → a ≡ b
some_same a b e = cc

-- so is the call that a session makes
pub sound_ended : (call : Call) (asked : model.Call) → call_seen call ≡ Some asked → IsSoundMail asked → IsTextEnded (machine_call call)
sound_ended (Deliver deliver) asked e sound =
    mail_ends (mail_in deliver) (subst IsSoundMail (sym (some_same (model.Call.Deliver (mail_in deliver)) asked e)) sound)
sound_ended (Login user proof) asked e sound = tt
sound_ended (Fetch user id holders from most) asked e sound = tt
sound_ended (Strike user items) asked e sound = tt
sound_ended (Leave user login manager) asked e sound = tt
