-- What whole command lines mean.
use Rattle.std.proofs.Common.{◌≡◌, ℕ, ◌+◌, ◌*◌, ◌-◌, ◌/◌, ◌%◌, ◌^◌, ◌<◌, ◌≤◌, suc, Bool, true, false, cond, not, ◌&&◌, ◌||◌, nat_eq, nat_le, nat_lt, Some, None, Ok, Err, List, [], ◌∷◌, ◌++◌, length, map, drop, refl, sym, ◌∙◌, ap, arith, codes, Option, Result, ok_or}
use Rattle.std.proofs.lemmas.List.{append_assoc, drop_at, take_at, append-nil}
use Rattle.std.proofs.lemmas.Bool.Decides.{nat_tests}
use Rattle.std.proofs.lemmas.Fmt.{decimal_by_steps, decimal_nonempty, length-decimal-le}
use Rattle.std.specs.Fmt.{decimal}
use Rattle.std.specs.List.{list_all, list_any, prefix_len}
use Rattle.std.specs.Char.{to_ascii_uppercase}
use Rattle.std.specs.Cmp.Lexicographic.{pointwise}
use Rattle.mail_model.specs.Names.{begins_with, is_name, is_no_name_octet}
use Rattle.mail_model.specs.Numbers.{is_digit, value_after}
use Rattle.mail_model.specs.Tape.{first_word, behind_word, has_space}
use Rattle.mail_model.specs.Smtp.{is_blank, is_word, trimmed, verb_of, rest_of, unspaced}
use Rattle.mail_model.specs.Pop.{Command, Fault, mapped, short_number_of, user_command, digest_of, apop_of, apop_command, alone, number_in, maybe_number_in, numbers_in, second_in, both_of, command_in, pop_command_of}
use Rattle.mail_model.specs.Pop.Command.{User, Pass, Apop, Stat, Listing, Uidl, Retr, Dele, Top, Noop, Rset, Quit, Capa}
use Rattle.mail_model.specs.Pop.Fault.{UnknownVerb, BadArgument, BadNumber}
use Rattle.pop_wire.specs.Laws.{is_pass, NamesAreRead, SecretsAreRead, NumbersAreRead, TwoArgumentsAreTooMany, BlanksAtEndMeanNothing, MoreSpacesMeanNothing, CaseOfVerbMeansNothing, LargerNumbersAreBad, OtherVerbsAreUnknown}
use Rattle.line_words.specs.Words.{IsOneWord}
use Rattle.line_words.proofs.Fronts.{trimmed_more}
use Rattle.line_words.proofs.Verbs.{and_true, or_false, begins_or_ends, begins_or_ends_from, trimmed_begins, word_no_space, word_len, word_trimmed}

not_false : (a : Bool) → not a ≡ true → a ≡ false
not_false true h = absurd (cc)
not_false false h = refl

some_more : (n : ℕ) → nat_eq (suc n) 0 ≡ false
some_more n = grind (arith, nat_tests)

-- the command of the octets after the first space, a verb in upper case and what follows it
abbrev said : List ℕ → List ℕ → List ℕ → Result Command Fault
said secret verb rest =
    cond (pointwise nat_eq verb (codes "USER")) (user_command rest)
    (cond (pointwise nat_eq verb (codes "PASS")) (cond (nat_eq (length secret) 0) (Err BadArgument) (Ok (Pass secret)))
    (cond (pointwise nat_eq verb (codes "APOP")) (apop_command rest)
    (cond (pointwise nat_eq verb (codes "STAT")) (alone Stat rest)
    (cond (pointwise nat_eq verb (codes "LIST")) (mapped Listing (maybe_number_in rest))
    (cond (pointwise nat_eq verb (codes "UIDL")) (mapped Uidl (maybe_number_in rest))
    (cond (pointwise nat_eq verb (codes "RETR")) (mapped Retr (number_in rest))
    (cond (pointwise nat_eq verb (codes "DELE")) (mapped Dele (number_in rest))
    (cond (pointwise nat_eq verb (codes "TOP")) (mapped (λ numbers. Top numbers.0 numbers.1) (numbers_in rest))
    (cond (pointwise nat_eq verb (codes "NOOP")) (alone Noop rest)
    (cond (pointwise nat_eq verb (codes "RSET")) (alone Rset rest)
    (cond (pointwise nat_eq verb (codes "QUIT")) (alone Quit rest)
    (cond (pointwise nat_eq verb (codes "CAPA")) (alone Capa rest)
    (Err UnknownVerb)))))))))))))

drop_behind : (xs ys : List ℕ) → drop (length xs + 1) (xs ++ ys) ≡ drop 1 ys
drop_behind [] ys = refl
drop_behind (x ∷ xs) ys = let e : suc (length xs) + 1 ≡ suc (length xs + 1) = omega arith in rw e (drop_behind xs ys)

word_behind : (verb rest : List ℕ) → IsOneWord verb → begins_or_ends rest ≡ true → behind_word (verb ++ rest) ≡ drop 1 rest
word_behind verb rest w r = ap (λ n. drop (n + 1) (verb ++ rest)) (word_len verb rest w r) ∙ drop_behind verb rest

said_parts : (line : List ℕ) → pop_command_of line ≡ said (behind_word line) (map to_ascii_uppercase (verb_of (trimmed line))) (rest_of (trimmed line))
said_parts line = refl

word_said : (verb rest : List ℕ) → IsOneWord verb → begins_or_ends rest ≡ true → pop_command_of (verb ++ rest) ≡ said (drop 1 rest) (map to_ascii_uppercase verb) (trimmed rest)
word_said verb rest w r =
    let n = word_len verb (trimmed rest) w (trimmed_begins rest r) in
    let first : verb_of (verb ++ trimmed rest) ≡ verb = take_at verb (trimmed rest) _ (sym n) in
    let behind : rest_of (verb ++ trimmed rest) ≡ trimmed rest = drop_at verb (trimmed rest) _ (sym (ap length first)) in
    said_parts (verb ++ rest)
    ∙ ap (λ (secret : List ℕ). said secret (map to_ascii_uppercase (verb_of (trimmed (verb ++ rest)))) (rest_of (trimmed (verb ++ rest)))) (word_behind verb rest w r)
    ∙ ap (λ (line : List ℕ). said (drop 1 rest) (map to_ascii_uppercase (verb_of line)) (rest_of line)) (word_trimmed verb rest w)
    ∙ ap (λ (v : List ℕ). said (drop 1 rest) (map to_ascii_uppercase v) (rest_of (verb ++ trimmed rest))) first
    ∙ ap (said (drop 1 rest) (map to_ascii_uppercase verb)) behind

pub case_means_nothing : CaseOfVerbMeansNothing
case_means_nothing verb other rest v o same r =
    let b = begins_or_ends_from rest r in
    word_said verb rest v b ∙ ap (λ (w : List ℕ). said (drop 1 rest) w (trimmed rest)) same ∙ sym (word_said other rest o b)

-- a word after one space
word_kept : (word : List ℕ) → IsOneWord word → trimmed word ≡ word
word_kept word w = ap trimmed (sym (append-nil word)) ∙ word_trimmed word [] w ∙ append-nil word

word_unspaced : (x : ℕ) (word : List ℕ) → is_blank x ≡ false → unspaced (32 ∷ x ∷ word) ≡ x ∷ word
word_unspaced x word h = rw (word_no_space x h)

space_kept : (rest : List ℕ) → nat_eq (length (trimmed rest)) 0 ≡ false → trimmed (32 ∷ rest) ≡ 32 ∷ trimmed rest
space_kept rest h = rw h

space_word : (x : ℕ) (word : List ℕ) → IsOneWord (x ∷ word) → trimmed (32 ∷ x ∷ word) ≡ 32 ∷ x ∷ word
space_word x word w =
    let kept = word_kept (x ∷ word) w in
    space_kept (x ∷ word) (ap (λ (o : List ℕ). nat_eq (length o) 0) kept ∙ some_more (length word)) ∙ ap (λ (o : List ℕ). 32 ∷ o) kept

-- a name
name_octet : (x : ℕ) → is_no_name_octet x ≡ false → is_blank x ≡ false
name_octet x h = grind (arith, nat_tests)

name_word : (name : List ℕ) → list_any is_no_name_octet name ≡ false → IsOneWord name
name_word [] h = refl
name_word (x ∷ name) h = let p = or_false (is_no_name_octet x) _ h in rw (name_octet x p.0) (name_word name p.1)

name_octets : (name : List ℕ) → is_name name ≡ true → list_any is_no_name_octet name ≡ false
name_octets name h =
    let none = not_false _ (and_true (not (nat_eq (length name) 0) && nat_le (length name) 64) _ h).1 in
    (or_false (begins_with 64 name) _ none).1

pub names_read : NamesAreRead
names_read [] h = absurd (cc)
names_read (x ∷ name) h =
    let word = name_word (x ∷ name) (name_octets (x ∷ name) h) in
    let shown = (or_false (is_blank x) _ word).0 in
    word_said (codes "USER") (32 ∷ x ∷ name) refl refl
    ∙ ap (said (x ∷ name) (codes "USER")) (space_word x name word)
    ∙ ap (λ (n : List ℕ). cond (is_name n) (Ok (User n)) (Err BadArgument)) (word_unspaced x name shown)
    ∙ ap (λ (b : Bool). cond b (Ok (User (x ∷ name))) (Err BadArgument)) h

pub secrets_read : SecretsAreRead
secrets_read secret some =
    let filled : nat_eq (length secret) 0 ≡ false = grind (arith, nat_tests) in
    word_said (codes "PASS") (32 ∷ secret) refl refl ∙ ap (λ (b : Bool). cond b (Err BadArgument) (Ok (Pass secret))) filled

-- a number
abbrev IsSpelt : ℕ → List ℕ → Type 0
IsSpelt n word = (list_all is_digit word ≡ true) × (value_after 0 word ≡ n)

one_digit : (d : ℕ) → d < 10 → IsSpelt d ((48 + d) ∷ [])
one_digit d small = let digit : is_digit (48 + d) ≡ true = grind (arith, nat_tests) in (rw digit, omega arith)

all_more : (word : List ℕ) (x : ℕ) → list_all is_digit word ≡ true → is_digit x ≡ true → list_all is_digit (word ++ x ∷ []) ≡ true
all_more [] x h digit = rw digit
all_more (y ∷ word) x h digit = let p = and_true (is_digit y) _ h in rw (p.0) (all_more word x p.1 digit)

value_more : (n : ℕ) (word : List ℕ) (x : ℕ) → value_after n (word ++ x ∷ []) ≡ value_after n word * 10 + (x - 48)
value_more n [] x = refl
value_more n (y ∷ word) x = value_more (n * 10 + (y - 48)) word x

more_digits : (n : ℕ) (word : List ℕ) → 10 ≤ n → IsSpelt (n / 10) word → IsSpelt n (word ++ (48 + n % 10) ∷ [])
more_digits n word big h =
    let digit : is_digit (48 + n % 10) ≡ true = grind (arith, nat_tests) in
    (all_more word (48 + n % 10) h.0 digit, value_more 0 word (48 + n % 10) ∙ rw (h.1) (omega arith))

spelt : (n : ℕ) → n < 2 ^ 64 → IsSpelt n (decimal n)
spelt n small = decimal_by_steps IsSpelt one_digit more_digits n small

digit_octet : (x : ℕ) → is_digit x ≡ true → is_blank x ≡ false
digit_octet x h = grind (arith, nat_tests)

digits_word : (word : List ℕ) → list_all is_digit word ≡ true → IsOneWord word
digits_word [] h = refl
digits_word (x ∷ word) h = let p = and_true (is_digit x) _ h in rw (digit_octet x p.0) (digits_word word p.1)

word_one : (word : List ℕ) → IsOneWord word → has_space word ≡ false
word_one [] w = refl
word_one (x ∷ word) w = let p = or_false (is_blank x) _ w in rw (word_no_space x p.0) (word_one word p.1)

-- what one word after a space gives
word_number : (x : ℕ) (word : List ℕ) → IsOneWord (x ∷ word) → number_in (32 ∷ x ∷ word) ≡ ok_or (short_number_of (x ∷ word)) BadNumber
word_number x word w =
    let shown = (or_false (is_blank x) _ w).0 in
    ap (λ (o : List ℕ). cond (nat_eq (length o) 0 || has_space o) (Err BadArgument) (ok_or (short_number_of o) BadNumber)) (word_unspaced x word shown)
    ∙ rw (some_more (length word), word_one (x ∷ word) w)

short_whole : (n : ℕ) (word : List ℕ) → IsSpelt n word → 0 < length word → length word ≤ 10 → n < 4294967296 → short_number_of word ≡ Some n
short_whole n word h some short small =
    let filled : nat_eq (length word) 0 ≡ false = grind (arith, nat_tests) in
    let within : nat_lt 10 (length word) ≡ false = grind (arith, nat_tests) in
    let low : nat_lt n 4294967296 ≡ true = grind (arith, nat_tests) in
    rw (filled, within, h.0, h.1, low)

maybe_number : (rest : List ℕ) (n : ℕ) → number_in (32 ∷ rest) ≡ Ok n → maybe_number_in (32 ∷ rest) ≡ Ok (Some n)
maybe_number rest n h = rw (some_more (length rest)) (ap (mapped Some) h)

number_read : (n : ℕ) (word : List ℕ) → IsSpelt n word → 0 < length word → length word ≤ 10 → n < 4294967296 →
    (pop_command_of (codes "RETR " ++ word) ≡ Ok (Retr n))
    × (pop_command_of (codes "LIST " ++ word) ≡ Ok (Listing (Some n)))
    × (pop_command_of (codes "UIDL " ++ word) ≡ Ok (Uidl (Some n)))
    × (pop_command_of (codes "DELE " ++ word) ≡ Ok (Dele n))
number_read n [] h some short small = absurd (omega arith)
number_read n (x ∷ word) h some short small =
    let one = digits_word (x ∷ word) h.0 in
    let read : number_in (32 ∷ x ∷ word) ≡ Ok n = word_number x word one ∙ ap (λ (o : Option ℕ). ok_or o BadNumber) (short_whole n (x ∷ word) h some short small) in
    let maybe = maybe_number (x ∷ word) n read in (
      word_said (codes "RETR") (32 ∷ x ∷ word) refl refl ∙ ap (said (x ∷ word) (codes "RETR")) (space_word x word one) ∙ ap (mapped Retr) read,
      word_said (codes "LIST") (32 ∷ x ∷ word) refl refl ∙ ap (said (x ∷ word) (codes "LIST")) (space_word x word one) ∙ ap (mapped Listing) maybe,
      word_said (codes "UIDL") (32 ∷ x ∷ word) refl refl ∙ ap (said (x ∷ word) (codes "UIDL")) (space_word x word one) ∙ ap (mapped Uidl) maybe,
      word_said (codes "DELE") (32 ∷ x ∷ word) refl refl ∙ ap (said (x ∷ word) (codes "DELE")) (space_word x word one) ∙ ap (mapped Dele) read,
    )

pub numbers_read : NumbersAreRead
numbers_read n small =
    number_read n (decimal n) (spelt n (omega arith)) (decimal_nonempty n (omega arith)) (length-decimal-le 10 n (omega arith) (omega arith) (omega arith)) (omega arith)

-- a number that is too large
short_none : (n : ℕ) (word : List ℕ) → IsSpelt n word → 4294967296 ≤ n → short_number_of word ≡ None
short_none n word h large =
    let high : nat_lt n 4294967296 ≡ false = grind (arith, nat_tests) in
    elim (nat_eq (length word) 0 || nat_lt 10 (length word)) as (λ b. cond b None (cond (list_all is_digit word && nat_lt (value_after 0 word) 4294967296) (Some (value_after 0 word)) None) ≡ None) [
      | true ↦ refl
      | false ↦ rw (h.0, h.1, high)
    ]

maybe_refused : (rest : List ℕ) (fault : Fault) → number_in (32 ∷ rest) ≡ Err fault → maybe_number_in (32 ∷ rest) ≡ Err fault
maybe_refused rest fault h = rw (some_more (length rest)) (ap (mapped Some) h)

number_bad : (n : ℕ) (word : List ℕ) → IsSpelt n word → 0 < length word → 4294967296 ≤ n →
    (pop_command_of (codes "RETR " ++ word) ≡ Err BadNumber)
    × (pop_command_of (codes "LIST " ++ word) ≡ Err BadNumber)
    × (pop_command_of (codes "UIDL " ++ word) ≡ Err BadNumber)
    × (pop_command_of (codes "DELE " ++ word) ≡ Err BadNumber)
number_bad n [] h some large = absurd (omega arith)
number_bad n (x ∷ word) h some large =
    let one = digits_word (x ∷ word) h.0 in
    let bad : number_in (32 ∷ x ∷ word) ≡ Err BadNumber = word_number x word one ∙ ap (λ (o : Option ℕ). ok_or o BadNumber) (short_none n (x ∷ word) h large) in
    let maybe = maybe_refused (x ∷ word) BadNumber bad in (
      word_said (codes "RETR") (32 ∷ x ∷ word) refl refl ∙ ap (said (x ∷ word) (codes "RETR")) (space_word x word one) ∙ ap (mapped Retr) bad,
      word_said (codes "LIST") (32 ∷ x ∷ word) refl refl ∙ ap (said (x ∷ word) (codes "LIST")) (space_word x word one) ∙ ap (mapped Listing) maybe,
      word_said (codes "UIDL") (32 ∷ x ∷ word) refl refl ∙ ap (said (x ∷ word) (codes "UIDL")) (space_word x word one) ∙ ap (mapped Uidl) maybe,
      word_said (codes "DELE") (32 ∷ x ∷ word) refl refl ∙ ap (said (x ∷ word) (codes "DELE")) (space_word x word one) ∙ ap (mapped Dele) bad,
    )

pub larger_are_bad : LargerNumbersAreBad
larger_are_bad n large small = number_bad n (decimal n) (spelt n small) (decimal_nonempty n small) (omega arith)

-- two words
or_true : (a : Bool) → (a || true) ≡ true
or_true true = refl
or_true false = refl

space_in : (word other : List ℕ) → has_space (word ++ 32 ∷ other) ≡ true
space_in [] other = refl
space_in (x ∷ word) other = rw (space_in word other) (or_true (nat_eq x 32))

two_kept : (word : List ℕ) (x : ℕ) (other : List ℕ) → IsOneWord word → IsOneWord (x ∷ other) → trimmed (word ++ (32 ∷ x ∷ other)) ≡ word ++ (32 ∷ x ∷ other)
two_kept word x other w o = word_trimmed word (32 ∷ x ∷ other) w ∙ ap (λ (rest : List ℕ). word ++ rest) (space_word x other o)

two_trimmed : (x : ℕ) (word : List ℕ) (y : ℕ) (other : List ℕ) → IsOneWord (x ∷ word) → IsOneWord (y ∷ other) → trimmed (32 ∷ x ∷ (word ++ (32 ∷ y ∷ other))) ≡ 32 ∷ x ∷ (word ++ (32 ∷ y ∷ other))
two_trimmed x word y other w o =
    let kept = two_kept (x ∷ word) y other w o in
    space_kept (x ∷ (word ++ (32 ∷ y ∷ other))) (ap (λ (l : List ℕ). nat_eq (length l) 0) kept ∙ some_more (length (word ++ (32 ∷ y ∷ other)))) ∙ ap (λ (l : List ℕ). 32 ∷ l) kept

two_refused : (x : ℕ) (word other : List ℕ) → IsOneWord (x ∷ word) → number_in (32 ∷ x ∷ (word ++ (32 ∷ other))) ≡ Err BadArgument
two_refused x word other w =
    let shown = (or_false (is_blank x) _ w).0 in
    ap (λ (o : List ℕ). cond (nat_eq (length o) 0 || has_space o) (Err BadArgument) (ok_or (short_number_of o) BadNumber)) (word_unspaced x (word ++ (32 ∷ other)) shown)
    ∙ rw (some_more (length (word ++ (32 ∷ other))), space_in (x ∷ word) other)

pub two_too_many : TwoArgumentsAreTooMany
two_too_many [] other w o = absurd (omega (arith, w.some))
two_too_many (x ∷ word) [] w o = absurd (omega (arith, o.some))
two_too_many (x ∷ word) (y ∷ other) w o =
    let rest = x ∷ (word ++ (32 ∷ y ∷ other)) in
    let kept = two_trimmed x word y other w.one o.one in
    let refused = two_refused x word (y ∷ other) w.one in
    let maybe = maybe_refused rest BadArgument refused in (
      word_said (codes "RETR") (32 ∷ rest) refl refl ∙ ap (said rest (codes "RETR")) kept ∙ ap (mapped Retr) refused,
      word_said (codes "LIST") (32 ∷ rest) refl refl ∙ ap (said rest (codes "LIST")) kept ∙ ap (mapped Listing) maybe,
      word_said (codes "UIDL") (32 ∷ rest) refl refl ∙ ap (said rest (codes "UIDL")) kept ∙ ap (mapped Uidl) maybe,
      word_said (codes "DELE") (32 ∷ rest) refl refl ∙ ap (said rest (codes "DELE")) kept ∙ ap (mapped Dele) refused,
    )

-- blanks at the end
trimmed_blanks : (line blanks : List ℕ) → list_all is_blank blanks ≡ true → trimmed (line ++ blanks) ≡ trimmed line
trimmed_blanks line [] h = ap trimmed (append-nil line)
trimmed_blanks line (x ∷ blanks) h =
    let p = and_true (is_blank x) _ h in
    ap trimmed (sym (append_assoc line (x ∷ []) blanks)) ∙ trimmed_blanks (line ++ x ∷ []) blanks p.1 ∙ trimmed_more line x p.0

same_in : (line other verb rest : List ℕ) → is_pass verb ≡ false → command_in line verb rest ≡ command_in other verb rest
same_in line other verb rest h = rw h

pub blanks_mean_nothing : BlanksAtEndMeanNothing
blanks_mean_nothing line blanks p h =
    ap (λ (l : List ℕ). command_in (line ++ blanks) (verb_of l) (rest_of l)) (trimmed_blanks line blanks h) ∙ same_in (line ++ blanks) line (verb_of (trimmed line)) (rest_of (trimmed line)) p

-- spaces after a verb
unspaced_more : (rest : List ℕ) → unspaced (32 ∷ rest) ≡ unspaced rest
unspaced_more rest = let e : 1 + prefix_len (λ x. nat_eq x 32) rest ≡ suc (prefix_len (λ x. nat_eq x 32) rest) = omega arith in rw e

number_spaces : (rest : List ℕ) → number_in (32 ∷ rest) ≡ number_in rest
number_spaces rest = ap (λ (o : List ℕ). cond (nat_eq (length o) 0 || has_space o) (Err BadArgument) (ok_or (short_number_of o) BadNumber)) (unspaced_more rest)

numbers_spaces : (rest : List ℕ) → numbers_in (32 ∷ rest) ≡ numbers_in rest
numbers_spaces rest =
    ap (λ (o : List ℕ). cond (nat_eq (length (unspaced (behind_word o))) 0 || has_space (unspaced (behind_word o))) (Err BadArgument)
    (both_of (short_number_of (first_word o)) (short_number_of (unspaced (behind_word o))))) (unspaced_more rest)

user_spaces : (rest : List ℕ) → user_command (32 ∷ rest) ≡ user_command rest
user_spaces rest = ap (λ (n : List ℕ). cond (is_name n) (Ok (User n)) (Err BadArgument)) (unspaced_more rest)

apop_spaces : (rest : List ℕ) → apop_command (32 ∷ rest) ≡ apop_command rest
apop_spaces rest =
    ap (λ (o : List ℕ). cond (is_name (first_word o)) (apop_of (first_word o) (digest_of (unspaced (behind_word o)))) (Err BadArgument)) (unspaced_more rest)

maybe_spaces : (rest : List ℕ) → maybe_number_in (32 ∷ 32 ∷ rest) ≡ maybe_number_in (32 ∷ rest)
maybe_spaces rest = rw (some_more (suc (length rest)), some_more (length rest)) (ap (mapped Some) (number_spaces (32 ∷ rest)))

alone_spaces : (command : Command) (rest : List ℕ) → alone command (32 ∷ 32 ∷ rest) ≡ alone command (32 ∷ rest)
alone_spaces command rest = rw (some_more (suc (length rest)), some_more (length rest))

said_spaces : (secret other verb rest : List ℕ) → pointwise nat_eq verb (codes "PASS") ≡ false → said secret verb (32 ∷ 32 ∷ rest) ≡ said other verb (32 ∷ rest)
said_spaces secret other verb rest h =
    rw (
      h,
      user_spaces (32 ∷ rest),
      apop_spaces (32 ∷ rest),
      maybe_spaces rest,
      number_spaces (32 ∷ rest),
      numbers_spaces (32 ∷ rest),
      alone_spaces Stat rest,
      alone_spaces Noop rest,
      alone_spaces Rset rest,
      alone_spaces Quit rest,
      alone_spaces Capa rest,
    )

said_trimmed : (secret other verb rest : List ℕ) → pointwise nat_eq verb (codes "PASS") ≡ false → said secret verb (trimmed (32 ∷ 32 ∷ rest)) ≡ said other verb (trimmed (32 ∷ rest))
said_trimmed secret other verb rest h =
    let t = trimmed rest in
    elim (nat_eq (length t) 0) as (λ b. said secret verb (cond (nat_eq (length (cond b [] (32 ∷ t))) 0) [] (32 ∷ cond b [] (32 ∷ t))) ≡ said other verb (cond b [] (32 ∷ t))) [
      | true ↦ rw h
      | false ↦ ap (λ b. said secret verb (cond b [] (32 ∷ 32 ∷ t))) (some_more (length t)) ∙ said_spaces secret other verb t h
    ]

pub spaces_mean_nothing : MoreSpacesMeanNothing
spaces_mean_nothing verb rest w h =
    word_said verb (32 ∷ 32 ∷ rest) w refl
    ∙ said_trimmed (32 ∷ rest) rest (map to_ascii_uppercase verb) rest h
    ∙ sym (word_said verb (32 ∷ rest) w refl)

-- other verbs
pub others_unknown : OtherVerbsAreUnknown
others_unknown verb rest w h r =
    let user = or_false (is_word verb (codes "USER")) _ h in
    let pass = or_false (is_word verb (codes "PASS")) _ user.1 in
    let apop = or_false (is_word verb (codes "APOP")) _ pass.1 in
    let stat = or_false (is_word verb (codes "STAT")) _ apop.1 in
    let list = or_false (is_word verb (codes "LIST")) _ stat.1 in
    let uidl = or_false (is_word verb (codes "UIDL")) _ list.1 in
    let retr = or_false (is_word verb (codes "RETR")) _ uidl.1 in
    let dele = or_false (is_word verb (codes "DELE")) _ retr.1 in
    let top = or_false (is_word verb (codes "TOP")) _ dele.1 in
    let noop = or_false (is_word verb (codes "NOOP")) _ top.1 in
    let rset = or_false (is_word verb (codes "RSET")) _ noop.1 in
    let quit = or_false (is_word verb (codes "QUIT")) _ rset.1 in
    let capa = or_false (is_word verb (codes "CAPA")) _ quit.1 in
    word_said verb rest w (begins_or_ends_from rest r) ∙ rw (user.0, pass.0, apop.0, stat.0, list.0, uidl.0, retr.0, dele.0, top.0, noop.0, rset.0, quit.0, capa.0)
