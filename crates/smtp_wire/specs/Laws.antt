-- What command lines mean, said without how they are read.
use Rattle.std.specs.Prelude.{◌≡◌, ◌≤◌, ◌<◌, ◌⊎◌, ℕ, true, false, nat_eq, List, [], ◌++◌, length, map, None, Ok, codes}
use Rattle.std.specs.Char.{to_ascii_uppercase}
use Rattle.std.specs.List.{list_all, list_any}
use Rattle.mail_model.specs.Names.{begins_with}
use Rattle.mail_model.specs.Smtp.{is_blank, is_visible, is_path_octet, command_of}
use Rattle.mail_model.specs.Smtp.Command.{Helo, Mail, Rcpt}
use Rattle.line_words.specs.Words.{IsOneWord}

-- a path of at most 512 octets with no source route
pub record IsPlainPath (path : List ℕ) : Type 0 where
  pub octets : list_all is_path_octet path ≡ true
  pub short : length path ≤ 512
  pub no_route : begins_with 64 path ≡ false

-- a name that a client may give itself
pub record IsClientName (name : List ℕ) : Type 0 where
  pub octets : list_all is_visible name ≡ true
  pub some : 0 < length name
  pub short : length name ≤ 255

-- a source route after its first `@` and before its `:`
pub record IsRoute (route : List ℕ) : Type 0 where
  pub octets : list_all is_path_octet route ≡ true
  pub no_colon : list_any (λ x. nat_eq x 58) route ≡ false

abbrev pub NamesAreRead : Type 0
NamesAreRead = (name : List ℕ) → IsClientName name →
    (command_of (codes "HELO " ++ name) ≡ Ok (Helo name false)) × (command_of (codes "EHLO " ++ name) ≡ Ok (Helo name true))

abbrev pub SendersAreRead : Type 0
SendersAreRead = (path : List ℕ) → IsPlainPath path → command_of (codes "MAIL FROM:<" ++ path ++ codes ">") ≡ Ok (Mail path None)

abbrev pub RecipientsAreRead : Type 0
RecipientsAreRead = (path : List ℕ) → IsPlainPath path → 0 < length path → command_of (codes "RCPT TO:<" ++ path ++ codes ">") ≡ Ok (Rcpt path)

abbrev pub RoutesAreLeftOut : Type 0
RoutesAreLeftOut = (route path : List ℕ) → IsRoute route → IsPlainPath path → 0 < length path →
    command_of (codes "MAIL FROM:<@" ++ route ++ codes ":" ++ path ++ codes ">") ≡ Ok (Mail path None)

abbrev pub BlanksAtEndMeanNothing : Type 0
BlanksAtEndMeanNothing = (line blanks : List ℕ) → list_all is_blank blanks ≡ true → command_of (line ++ blanks) ≡ command_of line

-- the verb in any case, before the end of the line or a space
abbrev pub CaseOfVerbMeansNothing : Type 0
CaseOfVerbMeansNothing = (verb other rest : List ℕ) → IsOneWord verb → IsOneWord other → map to_ascii_uppercase verb ≡ map to_ascii_uppercase other →
    ((rest ≡ []) ⊎ (begins_with 32 rest ≡ true)) → command_of (verb ++ rest) ≡ command_of (other ++ rest)
