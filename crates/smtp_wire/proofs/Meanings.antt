-- What whole command lines mean.
use Rattle.std.proofs.Common.{◌≡◌, ℕ, ◌+◌, ◌<◌, ◌≤◌, suc, Bool, true, false, cond, not, ◌&&◌, ◌||◌, nat_eq, nat_le, Some, None, Ok, Err, List, [], ◌∷◌, ◌++◌, length, map, refl, sym, ◌∙◌, ap, arith, codes, Option, Result, option_and_then}
use Rattle.std.proofs.lemmas.List.{append_assoc, drop_at, take_at, length_push, append-nil}
use Rattle.std.proofs.lemmas.Bool.Decides.{nat_tests}
use Rattle.std.specs.List.{list_all, list_any, prefix_len, position_or_len}
use Rattle.std.specs.Char.{to_ascii_uppercase}
use Rattle.std.specs.Cmp.Lexicographic.{pointwise}
use Rattle.mail_model.specs.Smtp.{Command, Fault, is_blank, is_visible, is_path_octet, trimmed, trimmed_command, command_of, verb_of, rest_of, unspaced, is_helo_name, routed, path_content, behind_path, behind_keyword, sender_in, recipient_in, helo_command, vrfy_command, mail_parameters, mail_of_sender, mail_of_argument, rcpt_of_path, rcpt_of_argument, alone}
use Rattle.mail_model.specs.Smtp.Command.{Helo, Mail, Rcpt, Data, Rset, Noop, Quit, Vrfy}
use Rattle.mail_model.specs.Smtp.Fault.{UnknownVerb, BadArgument, NotDone}
use Rattle.smtp_wire.specs.Laws.{IsPlainPath, IsRoute, NamesAreRead, SendersAreRead, RecipientsAreRead, RoutesAreLeftOut, BlanksAtEndMeanNothing, CaseOfVerbMeansNothing}
use Rattle.line_words.specs.Words.{IsOneWord}
use Rattle.line_words.proofs.Fronts.{trimmed_more, trimmed_done}
use Rattle.line_words.proofs.Verbs.{and_true, or_false, begins_or_ends, begins_or_ends_from, trimmed_begins, word_len, word_trimmed}

-- the command of a verb in upper case and what follows it
abbrev said : List ℕ → List ℕ → Result Command Fault
said verb rest =
    cond (pointwise nat_eq verb (codes "HELO")) (helo_command false rest)
    (cond (pointwise nat_eq verb (codes "EHLO")) (helo_command true rest)
    (cond (pointwise nat_eq verb (codes "MAIL")) (mail_of_argument (behind_keyword (codes "FROM:") rest))
    (cond (pointwise nat_eq verb (codes "RCPT")) (rcpt_of_argument (behind_keyword (codes "TO:") rest))
    (cond (pointwise nat_eq verb (codes "DATA")) (alone Data rest)
    (cond (pointwise nat_eq verb (codes "RSET")) (alone Rset rest)
    (cond (pointwise nat_eq verb (codes "NOOP")) (Ok Noop)
    (cond (pointwise nat_eq verb (codes "QUIT")) (alone Quit rest)
    (cond (pointwise nat_eq verb (codes "VRFY")) (vrfy_command rest)
    (cond (pointwise nat_eq verb (codes "EXPN") || pointwise nat_eq verb (codes "HELP")) (Err NotDone)
    (Err UnknownVerb))))))))))

said_parts : (line : List ℕ) → trimmed_command line ≡ said (map to_ascii_uppercase (verb_of line)) (rest_of line)
said_parts line = refl

word_said : (verb rest : List ℕ) → IsOneWord verb → begins_or_ends rest ≡ true → command_of (verb ++ rest) ≡ said (map to_ascii_uppercase verb) (trimmed rest)
word_said verb rest w r =
    let n = word_len verb (trimmed rest) w (trimmed_begins rest r) in
    let first : verb_of (verb ++ trimmed rest) ≡ verb = take_at verb (trimmed rest) _ (sym n) in
    let behind : rest_of (verb ++ trimmed rest) ≡ trimmed rest = drop_at verb (trimmed rest) _ (sym (ap length first)) in
    ap trimmed_command (word_trimmed verb rest w) ∙ said_parts (verb ++ trimmed rest)
    ∙ ap (λ (v : List ℕ). said (map to_ascii_uppercase v) (rest_of (verb ++ trimmed rest))) first ∙ ap (said (map to_ascii_uppercase verb)) behind

-- a path between its brackets
path_len : (path : List ℕ) → list_all is_path_octet path ≡ true → prefix_len is_path_octet (path ++ 62 ∷ []) ≡ length path
path_len [] h = refl
path_len (x ∷ path) h = let p = and_true (is_path_octet x) _ h in rw (p.0, path_len path p.1) (omega arith)

path_whole : (path : List ℕ) → list_all is_path_octet path ≡ true → path_content (60 ∷ (path ++ 62 ∷ [])) ≡ Some path
path_whole path h = rw (path_len path h, drop_at path (62 ∷ []) (length path) refl, take_at path (62 ∷ []) (length path) refl)

-- and nothing follows it
path_ends : (path : List ℕ) → list_all is_path_octet path ≡ true → behind_path (60 ∷ (path ++ 62 ∷ [])) ≡ []
path_ends path h = rw (path_len path h, drop_at path (62 ∷ []) (length path) refl)

-- so the commands of it
mail_whole : (content value : List ℕ) → list_all is_path_octet content ≡ true → sender_in content ≡ Some value → mail_of_argument (Some (60 ∷ (content ++ 62 ∷ []))) ≡ Ok (Mail value None)
mail_whole content value h sender =
    ap (λ (behind : List ℕ). mail_of_sender (option_and_then sender_in (path_content (60 ∷ (content ++ 62 ∷ [])))) behind) (path_ends content h)
    ∙ ap (λ (found : Option (List ℕ)). mail_of_sender (option_and_then sender_in found) []) (path_whole content h)
    ∙ ap (λ (found : Option (List ℕ)). mail_of_sender found []) sender

rcpt_whole : (content value : List ℕ) → list_all is_path_octet content ≡ true → recipient_in content ≡ Some value → rcpt_of_argument (Some (60 ∷ (content ++ 62 ∷ []))) ≡ Ok (Rcpt value)
rcpt_whole content value h path =
    ap (λ (behind : List ℕ). rcpt_of_path (option_and_then recipient_in (path_content (60 ∷ (content ++ 62 ∷ [])))) behind) (path_ends content h)
    ∙ ap (λ (found : Option (List ℕ)). rcpt_of_path (option_and_then recipient_in found) []) (path_whole content h)
    ∙ ap (λ (found : Option (List ℕ)). rcpt_of_path found []) path

none_or_some : (n : ℕ) → (not (nat_eq n 0) || nat_eq n 0) ≡ true
none_or_some n = grind (arith, nat_tests)

sender_whole : (path : List ℕ) → IsPlainPath path → sender_in path ≡ Some path
sender_whole path h =
    let short : nat_le (length path) 512 ≡ true = grind (arith, nat_tests, h.short) in
    rw (h.no_route) (rw (short, none_or_some (length path)))

recipient_whole : (path : List ℕ) → IsPlainPath path → 0 < length path → recipient_in path ≡ Some path
recipient_whole path h some =
    let short : nat_le (length path) 512 ≡ true = grind (arith, nat_tests, h.short) in
    let filled : nat_eq (length path) 0 ≡ false = grind (arith, nat_tests) in
    rw (h.no_route) (rw (short, filled))

pub senders_read : SendersAreRead
senders_read path h =
    word_said (codes "MAIL") (codes " FROM:<" ++ path ++ codes ">") refl refl
    ∙ ap (said (codes "MAIL")) (trimmed_done (codes " FROM:<" ++ path) 62 refl)
    ∙ mail_whole path path h.octets (sender_whole path h)

pub recipients_read : RecipientsAreRead
recipients_read path h some =
    word_said (codes "RCPT") (codes " TO:<" ++ path ++ codes ">") refl refl
    ∙ ap (said (codes "RCPT")) (trimmed_done (codes " TO:<" ++ path) 62 refl)
    ∙ rcpt_whole path path h.octets (recipient_whole path h some)

or_true : (a : Bool) → (a || true) ≡ true
or_true true = refl
or_true false = refl

-- a source route and a path
all_both : (p : ℕ → Bool) (xs ys : List ℕ) → list_all p xs ≡ true → list_all p ys ≡ true → list_all p (xs ++ ys) ≡ true
all_both p [] ys h k = k
all_both p (x ∷ xs) ys h k = let both = and_true (p x) _ h in rw (both.0) (all_both p xs ys both.1 k)

colon_at : (route path : List ℕ) → list_any (λ x. nat_eq x 58) route ≡ false → position_or_len (λ x. nat_eq x 58) (route ++ 58 ∷ [] ++ path) ≡ length route
colon_at [] path h = refl
colon_at (x ∷ route) path h = let p = or_false (nat_eq x 58) _ h in rw (p.0, colon_at route path p.1) (omega arith)

colon_in : (route path : List ℕ) → list_any (λ x. nat_eq x 58) (route ++ 58 ∷ [] ++ path) ≡ true
colon_in [] path = refl
colon_in (x ∷ route) path = rw (colon_in route path) (or_true (nat_eq x 58))

route_out : (route path : List ℕ) → IsRoute route → routed (64 ∷ (route ++ 58 ∷ [] ++ path)) ≡ Some path
route_out route path h =
    rw (colon_in route path, colon_at route path h.no_colon)
    (ap Some (drop_at (64 ∷ (route ++ 58 ∷ [])) path (1 + length route + 1) (rw (length_push route 58) (omega arith))))

routed_sender : (route path : List ℕ) → IsRoute route → IsPlainPath path → 0 < length path → sender_in (64 ∷ (route ++ 58 ∷ [] ++ path)) ≡ Some path
routed_sender route path h p some =
    let short : nat_le (length path) 512 ≡ true = grind (arith, nat_tests, p.short) in
    let filled : nat_eq (length path) 0 ≡ false = grind (arith, nat_tests) in
    ap (option_and_then (λ value. cond (nat_le (length value) 512 && (not (nat_eq (length value) 0) || nat_eq (length (64 ∷ (route ++ 58 ∷ [] ++ path))) 0)) (Some value) None)) (route_out route path h)
    ∙ rw (short, filled)

pub routes_left_out : RoutesAreLeftOut
routes_left_out route path h p some =
    let content = 64 ∷ (route ++ 58 ∷ [] ++ path) in
    let octets = all_both is_path_octet (route ++ 58 ∷ []) path (all_both is_path_octet route (58 ∷ []) h.octets refl) p.octets in
    word_said (codes "MAIL") (codes " FROM:<" ++ content ++ codes ">") refl refl
    ∙ ap (said (codes "MAIL")) (trimmed_done (codes " FROM:<" ++ content) 62 refl)
    ∙ mail_whole content path octets (routed_sender route path h p some)

-- a client's name
not_blank : (x : ℕ) → is_visible x ≡ true → is_blank x ≡ false
not_blank x h = grind (arith, nat_tests)

not_space : (x : ℕ) → is_visible x ≡ true → nat_eq x 32 ≡ false
not_space x h = grind (arith, nat_tests)

name_kept : (name : List ℕ) → list_all is_visible name ≡ true → trimmed name ≡ name
name_kept [] h = refl
name_kept (x ∷ name) h = let p = and_true (is_visible x) _ h in rw (not_blank x p.0, name_kept name p.1)

some_more : (n : ℕ) → nat_eq (suc n) 0 ≡ false
some_more n = grind (arith, nat_tests)

name_unspaced : (x : ℕ) (name : List ℕ) → is_visible x ≡ true → unspaced (32 ∷ x ∷ name) ≡ x ∷ name
name_unspaced x name h = rw (not_space x h)

name_trimmed : (x : ℕ) (name : List ℕ) → list_all is_visible (x ∷ name) ≡ true → trimmed (32 ∷ x ∷ name) ≡ 32 ∷ x ∷ name
name_trimmed x name h =
    ap (λ (kept : List ℕ). cond (true && nat_eq (length kept) 0) [] (32 ∷ kept)) (name_kept (x ∷ name) h) ∙ rw (some_more (length name))

name_whole : (x : ℕ) (name : List ℕ) → list_all is_visible (x ∷ name) ≡ true → length (x ∷ name) ≤ 255 → is_helo_name (x ∷ name) ≡ true
name_whole x name h short =
    let within : nat_le (suc (length name)) 255 ≡ true = grind (arith, nat_tests) in
    rw (some_more (length name), within) h

-- after either verb
greeting_read : (extended : Bool) (x : ℕ) (name : List ℕ) → list_all is_visible (x ∷ name) ≡ true → length (x ∷ name) ≤ 255
    → helo_command extended (trimmed (32 ∷ x ∷ name)) ≡ Ok (Helo (x ∷ name) extended)
greeting_read extended x name h short =
    let shown = (and_true (is_visible x) _ h).0 in
    ap (helo_command extended) (name_trimmed x name h)
    ∙ ap (λ (word : List ℕ). cond (is_helo_name word) (Ok (Helo word extended)) (Err BadArgument)) (name_unspaced x name shown)
    ∙ ap (λ (b : Bool). cond b (Ok (Helo (x ∷ name) extended)) (Err BadArgument)) (name_whole x name h short)

name_read : (name : List ℕ) → list_all is_visible name ≡ true → 0 < length name → length name ≤ 255
    → (command_of (codes "HELO " ++ name) ≡ Ok (Helo name false)) × (command_of (codes "EHLO " ++ name) ≡ Ok (Helo name true))
name_read [] h some short = absurd (omega arith)
name_read (x ∷ name) h some short = (
  word_said (codes "HELO") (32 ∷ x ∷ name) refl refl ∙ greeting_read false x name h short,
  word_said (codes "EHLO") (32 ∷ x ∷ name) refl refl ∙ greeting_read true x name h short,
)

pub names_read : NamesAreRead
names_read name h = name_read name h.octets h.some h.short

-- blanks at the end
pub blanks_mean_nothing : BlanksAtEndMeanNothing
blanks_mean_nothing line [] h = rw (append-nil line)
blanks_mean_nothing line (x ∷ blanks) h =
    let p = and_true (is_blank x) _ h in
    ap command_of (sym (append_assoc line (x ∷ []) blanks)) ∙ blanks_mean_nothing (line ++ x ∷ []) blanks p.1 ∙ ap trimmed_command (trimmed_more line x p.0)

pub case_means_nothing : CaseOfVerbMeansNothing
case_means_nothing verb other rest v o same r =
    let b = begins_or_ends_from rest r in
    word_said verb rest v b ∙ ap (λ (w : List ℕ). said w (trimmed rest)) same ∙ sym (word_said other rest o b)
