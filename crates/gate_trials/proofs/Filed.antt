-- A message as it is stored.
use Rattle.std.proofs.Common.{◌≡◌, ◌++◌, ℕ, List, [], ap, ◌∙◌}
use Rattle.mail_model.specs.Identity.{Id}
use Rattle.mail_model.specs.Mail.{IsDate, IsStored, trace_lines}
use Rattle.mail_model.specs.Told.{Mail}

pub stored_is : (mail : Mail) (id : Id) (seconds : ℕ) (date sender helo text lines octets : List ℕ) → IsDate seconds date → sender ≡ mail.sender → helo ≡ mail.helo → text ≡ mail.text
    → lines ≡ trace_lines (record { sender = sender; helo = helo; extended = mail.extended; mailboxes = []; text = [] }) id date → octets ≡ lines ++ text → IsStored mail id seconds octets
stored_is mail id seconds date sender helo text lines octets dated same_sender same_helo same_text traced whole = record {
  date = date;
  dated = dated;
  whole = whole ∙ ap (λ (l : List ℕ). l ++ text) traced ∙ ap (λ (t : List ℕ). trace_lines (record { sender = sender; helo = helo; extended = mail.extended; mailboxes = []; text = [] }) id date ++ t) same_text
      ∙ ap (λ (s : List ℕ). trace_lines (record { sender = s; helo = helo; extended = mail.extended; mailboxes = []; text = [] }) id date ++ mail.text) same_sender
      ∙ ap (λ (h : List ℕ). trace_lines (record { sender = mail.sender; helo = h; extended = mail.extended; mailboxes = []; text = [] }) id date ++ mail.text) same_helo;
}
