-- A call whose one free answer is out of memory.
use Rattle.std.specs.Prelude.{◌≡◌, Option, Some, None, Result, Ok, Err}

-- It answers the first rule that is broken, or what P says where none is. Out of memory may come in place of what P says.
abbrev pub AnswersByRules : {T E : Type 0} → E → Result T E → Option E → (T → Type 0) → Type 0
AnswersByRules memory (Ok x) broken P = (broken ≡ None) × P x
AnswersByRules memory (Err e) None P = e ≡ memory
AnswersByRules memory (Err e) (Some fault) P = e ≡ fault
