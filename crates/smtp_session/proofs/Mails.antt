-- The message of a text that has ended.
use Rattle.std.proofs.Common.{◌≡◌, ℕ, Bool, true, false, List, length, Option, Some, None, nat_lt, refl, sym, ap, ◌∙◌}
use Rattle.std.specs.Prelude.{unwrap_or, ◌||◌}
use Rattle.std.specs.Option.{option_map}
use Rattle.std.proofs.lemmas.Bool.{lt-ltb}
use Rattle.mail_model.specs.Session as model
use Rattle.mail_model.specs.Session.{undotted, is_large}
use Rattle.mail_model.specs.Told.{Mail, mail_of, unnamed, unaddressed}
use Rattle.smtp_session.specs.declared.envelope.Greeting.{Greeting}
use Rattle.smtp_session.specs.declared.told.Told.{Told}
use Rattle.smtp_session.specs.Talks.{talk_of, greeting_seen}
use Rattle.smtp_session.specs.Texts.{IsGivenText}

-- a text that has passed the limit, and one that is kept
pub large_text : (text : List ℕ × Bool) (lines : List (List ℕ)) → (text.1 || nat_lt 16777216 (length text.0)) ≡ true → IsGivenText text (undotted lines) → is_large lines ≡ true
large_text (octets, true) lines large is = lt-ltb 16777216 (length (undotted lines)) is.1
large_text (octets, false) lines large is = ap (λ (l : List ℕ). nat_lt 16777216 (length l)) (sym is) ∙ large

pub small_text : (text : List ℕ × Bool) (lines : List (List ℕ)) → (text.1 || nat_lt 16777216 (length text.0)) ≡ false → IsGivenText text (undotted lines)
    → (text.0 ≡ undotted lines) × (is_large lines ≡ false)
small_text (octets, true) lines small is = cc
small_text (octets, false) lines small is = (is, ap (λ (l : List ℕ). nat_lt 16777216 (length l)) (sym is) ∙ small)

-- a message
abbrev mail : model.Envelope → List ℕ → Bool → List ℕ → Mail
mail envelope helo extended text = record { sender = envelope.sender; helo = helo; extended = extended; mailboxes = envelope.mailboxes; text = text }

pub mail_is : (told : Told) (lines : List (List ℕ)) (envelope : model.Envelope) (helo text : List ℕ) (extended : Bool) → envelope ≡ unwrap_or (talk_of told).envelope unaddressed
    → helo ≡ (unwrap_or (talk_of told).greeting unnamed).name → extended ≡ (unwrap_or (talk_of told).greeting unnamed).extended → text ≡ undotted lines
    → mail envelope helo extended text ≡ mail_of (talk_of told) lines
mail_is told lines envelope helo text extended of_envelope of_helo of_extended of_text =
    ap (λ (e : model.Envelope). mail e helo extended text) of_envelope
    ∙ ap (λ (h : List ℕ). mail (unwrap_or (talk_of told).envelope unaddressed) h extended text) of_helo
    ∙ ap (λ (b : Bool). mail (unwrap_or (talk_of told).envelope unaddressed) (unwrap_or (talk_of told).greeting unnamed).name b text) of_extended
    ∙ ap (λ (t : List ℕ). mail (unwrap_or (talk_of told).envelope unaddressed) (unwrap_or (talk_of told).greeting unnamed).name (unwrap_or (talk_of told).greeting unnamed).extended t) of_text
