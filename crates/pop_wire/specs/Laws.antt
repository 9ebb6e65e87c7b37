-- What command lines mean, said without how they are read.
use Rattle.std.specs.Prelude.{◌≡◌, ◌<◌, ◌≤◌, ◌^◌, ◌⊎◌, ℕ, Bool, true, false, List, [], ◌++◌, ◌∷◌, length, map, Some, Ok, Err, codes}
use Rattle.std.specs.Fmt.{decimal}
use Rattle.std.specs.Char.{to_ascii_uppercase}
use Rattle.std.specs.List.{list_all, list_any}
use Rattle.mail_model.specs.Names.{begins_with, is_name}
use Rattle.mail_model.specs.Smtp.{is_blank, is_word, trimmed, verb_of}
use Rattle.mail_model.specs.Pop.{pop_command_of}
use Rattle.mail_model.specs.Pop.Command.{User, Pass, Listing, Uidl, Retr, Dele}
use Rattle.mail_model.specs.Pop.Fault.{UnknownVerb, BadArgument, BadNumber}
use Rattle.line_words.specs.Words.{IsOneWord}

-- one word, and not none
pub record IsArgument (word : List ℕ) : Type 0 where
  pub one : IsOneWord word
  pub some : 0 < length word

-- the verb is PASS, in any case
abbrev pub is_pass : List ℕ → Bool
is_pass verb = is_word verb (codes "PASS")

abbrev pub NamesAreRead : Type 0
NamesAreRead = (name : List ℕ) → is_name name ≡ true → pop_command_of (codes "USER " ++ name) ≡ Ok (User name)

-- spaces and tabs too, wherever they stand
abbrev pub SecretsAreRead : Type 0
SecretsAreRead = (secret : List ℕ) → 0 < length secret → pop_command_of (codes "PASS " ++ secret) ≡ Ok (Pass secret)

abbrev pub NumbersAreRead : Type 0
NumbersAreRead = (n : ℕ) → n < 2 ^ 32 →
    (pop_command_of (codes "RETR " ++ decimal n) ≡ Ok (Retr n))
    × (pop_command_of (codes "LIST " ++ decimal n) ≡ Ok (Listing (Some n)))
    × (pop_command_of (codes "UIDL " ++ decimal n) ≡ Ok (Uidl (Some n)))
    × (pop_command_of (codes "DELE " ++ decimal n) ≡ Ok (Dele n))

abbrev pub LargerNumbersAreBad : Type 0
LargerNumbersAreBad = (n : ℕ) → 2 ^ 32 ≤ n → n < 2 ^ 64 →
    (pop_command_of (codes "RETR " ++ decimal n) ≡ Err BadNumber)
    × (pop_command_of (codes "LIST " ++ decimal n) ≡ Err BadNumber)
    × (pop_command_of (codes "UIDL " ++ decimal n) ≡ Err BadNumber)
    × (pop_command_of (codes "DELE " ++ decimal n) ≡ Err BadNumber)

abbrev pub TwoArgumentsAreTooMany : Type 0
TwoArgumentsAreTooMany = (word other : List ℕ) → IsArgument word → IsArgument other →
    (pop_command_of (codes "RETR " ++ (word ++ (codes " " ++ other))) ≡ Err BadArgument)
    × (pop_command_of (codes "LIST " ++ (word ++ (codes " " ++ other))) ≡ Err BadArgument)
    × (pop_command_of (codes "UIDL " ++ (word ++ (codes " " ++ other))) ≡ Err BadArgument)
    × (pop_command_of (codes "DELE " ++ (word ++ (codes " " ++ other))) ≡ Err BadArgument)

abbrev pub BlanksAtEndMeanNothing : Type 0
BlanksAtEndMeanNothing = (line blanks : List ℕ) → is_pass (verb_of (trimmed line)) ≡ false → list_all is_blank blanks ≡ true →
    pop_command_of (line ++ blanks) ≡ pop_command_of line

-- so it does not matter how many spaces stand after a verb
abbrev pub MoreSpacesMeanNothing : Type 0
MoreSpacesMeanNothing = (verb rest : List ℕ) → IsOneWord verb → is_pass verb ≡ false →
    pop_command_of (verb ++ (codes "  " ++ rest)) ≡ pop_command_of (verb ++ (codes " " ++ rest))

-- the verb in any case, before the end of the line or a space
abbrev pub CaseOfVerbMeansNothing : Type 0
CaseOfVerbMeansNothing = (verb other rest : List ℕ) → IsOneWord verb → IsOneWord other → map to_ascii_uppercase verb ≡ map to_ascii_uppercase other →
    ((rest ≡ []) ⊎ (begins_with 32 rest ≡ true)) → pop_command_of (verb ++ rest) ≡ pop_command_of (other ++ rest)

-- the verbs that are read
abbrev pub verbs : List (List ℕ)
verbs = codes "USER" ∷ codes "PASS" ∷ codes "APOP" ∷ codes "STAT" ∷ codes "LIST" ∷ codes "UIDL" ∷ codes "RETR" ∷ codes "DELE" ∷ codes "TOP" ∷ codes "NOOP" ∷ codes "RSET" ∷ codes "QUIT" ∷ codes "CAPA" ∷ []

-- whatever follows
abbrev pub OtherVerbsAreUnknown : Type 0
OtherVerbsAreUnknown = (verb rest : List ℕ) → IsOneWord verb → list_any (λ word. is_word verb word) verbs ≡ false →
    ((rest ≡ []) ⊎ (begins_with 32 rest ≡ true)) → pop_command_of (verb ++ rest) ≡ Err UnknownVerb
