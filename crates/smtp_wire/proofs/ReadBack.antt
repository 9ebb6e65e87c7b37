-- What is written of a reply is read as that reply.
use Rattle.std.proofs.Common.{◌≡◌, ◌≢◌, ℕ, ◌+◌, ◌-◌, ◌*◌, ◌/◌, ◌%◌, ◌<◌, ◌≤◌, ◌^◌, ◌&&◌, Bool, true, false, nat_eq, nat_lt, List, [], ◌∷◌, ◌++◌, length, map, flat_map, take, drop, Option, Some, None, refl, sym, ap, ap₂, ◌∙◌, arith, append_assoc}
use Rattle.std.specs.List.{list_all}
use Rattle.std.specs.Fmt.{decimal}
use Rattle.std.proofs.lemmas.Bool.Decides.{nat_tests}
use Rattle.std.proofs.lemmas.Fmt.{decimal_by_steps}
use Rattle.std.proofs.lemmas.List.{length-append}
use Rattle.std.proofs.lemmas.List.Folds.{list_all-append}
use Rattle.std.proofs.lemmas.List.Elements.{All-nil, All-cons}
use Rattle.mail_model.specs.Lines.{HasNoCrlf, sent_line}
use Rattle.mail_model.specs.Numbers.{is_digit, value_after, number_of}
use Rattle.line_words.proofs.Verbs.{and_true}
use Rattle.dot_text.proofs.Crlf.{none_nil, none_one, none_cons}
use Rattle.smtp_wire.specs.Replies.{ReplyPart, BeginReply, BeginsWithReply, is_text_octet, is_reply_text, is_code, code_if, part_of, line_says, says_more, reply_octets}
use Rattle.smtp_wire.specs.ReplyLaws.{IsReply, RepliesAreReadBack}

-- the word of a number below 1,000
record IsWordOf (n : ℕ) (word : List ℕ) : Type 0 where
  pub digits : list_all is_digit word ≡ true
  pub value : value_after 0 word ≡ n
  pub one : n < 10 → length word ≡ 1
  pub two : 10 ≤ n → n < 100 → length word ≡ 2
  pub three : 100 ≤ n → n < 1000 → length word ≡ 3

one_digit : (d : ℕ) → d < 10 → IsWordOf d ((48 + d) ∷ [])
one_digit d small =
    let digit : is_digit (48 + d) ≡ true = grind (arith, nat_tests) in
    record { digits = rw digit refl; value = omega arith; one = λ _. refl; two = λ least most. absurd (omega arith); three = λ least most. absurd (omega arith) }

all_more : (word : List ℕ) (x : ℕ) → list_all is_digit word ≡ true → is_digit x ≡ true → list_all is_digit (word ++ x ∷ []) ≡ true
all_more [] x h digit = rw digit refl
all_more (y ∷ word) x h digit = let p = and_true (is_digit y) (list_all is_digit word) h in rw (p.0) (all_more word x p.1 digit)

value_more : (n : ℕ) (word : List ℕ) (x : ℕ) → value_after n (word ++ x ∷ []) ≡ value_after n word * 10 + (x - 48)
value_more n [] x = refl
value_more n (y ∷ word) x = value_more (n * 10 + (y - 48)) word x

more_digits : (n : ℕ) (word : List ℕ) → 10 ≤ n → IsWordOf (n / 10) word → IsWordOf n (word ++ (48 + n % 10) ∷ [])
more_digits n word big h =
    let digit : is_digit (48 + n % 10) ≡ true = grind (arith, nat_tests) in
    let long : length (word ++ (48 + n % 10) ∷ []) ≡ length word + 1 = length-append word ((48 + n % 10) ∷ []) in
    record {
      digits = all_more word (48 + n % 10) h.digits digit;
      value = value_more 0 word (48 + n % 10) ∙ rw (h.value) (omega arith);
      one = λ small. absurd (omega arith);
      two = λ least most. omega (arith, long, h.one (omega arith));
      three = λ least most. omega (arith, long, h.two (omega arith) (omega arith));
    }

word_of : (n : ℕ) → n < 2 ^ 64 → IsWordOf n (decimal n)
word_of n small = decimal_by_steps IsWordOf one_digit more_digits n small

-- the code that three digits are
three_digits : (a b c code : ℕ) → is_code code ≡ true → IsWordOf code (a ∷ b ∷ c ∷ []) → code_if (number_of (a ∷ b ∷ c ∷ [])) ≡ Some code
three_digits a b c code known w =
    let low : nat_lt code 18446744073709551616 ≡ true = grind (arith, nat_tests) in
    rw (w.digits, w.value, low, known) refl

-- so a line is read that begins with a code
line_by : (word : List ℕ) (code : ℕ) → is_code code ≡ true → IsWordOf code word → (rest : List ℕ) → line_says (word ++ rest) ≡ part_of (Some code) rest
line_by [] code known w rest = absurd (let small = w.three (grind (arith, nat_tests)) (grind (arith, nat_tests)) in omega (arith, small))
line_by (a ∷ []) code known w rest = absurd (let small = w.three (grind (arith, nat_tests)) (grind (arith, nat_tests)) in omega (arith, small))
line_by (a ∷ b ∷ []) code known w rest = absurd (let small = w.three (grind (arith, nat_tests)) (grind (arith, nat_tests)) in omega (arith, small))
line_by (a ∷ b ∷ c ∷ []) code known w rest = ap (λ (o : Option ℕ). part_of o rest) (three_digits a b c code known w)
line_by (a ∷ b ∷ c ∷ d ∷ word) code known w rest = absurd (let small = w.three (grind (arith, nat_tests)) (grind (arith, nat_tests)) in omega (arith, small))

code_line : (code : ℕ) (rest : List ℕ) → is_code code ≡ true → line_says (decimal code ++ rest) ≡ part_of (Some code) rest
code_line code rest known = line_by (decimal code) code known (word_of code (grind (arith, nat_tests))) rest

last_line : (code : ℕ) (text : List ℕ) → is_code code ≡ true → is_reply_text text ≡ true → line_says (decimal code ++ 32 ∷ text) ≡ Some (record { code = code; ends = true; text = text })
last_line code text known fits = code_line code (32 ∷ text) known ∙ rw fits refl

front_line : (code : ℕ) (text : List ℕ) → is_code code ≡ true → is_reply_text text ≡ true → line_says (decimal code ++ 45 ∷ text) ≡ says_more code text
front_line code text known fits = code_line code (45 ∷ text) known ∙ rw fits refl

-- printable octets have no CRLF
no_cr : (x y : ℕ) → is_text_octet x ≡ true → x ≡ 13 → y ≢ 10
no_cr x y shown cr lf = absurd (let low : 32 ≤ x = grind (arith, nat_tests) in omega (arith, low, cr))

no_crlf : (l : List ℕ) → list_all is_text_octet l ≡ true → HasNoCrlf l
no_crlf [] shown = none_nil
no_crlf (x ∷ []) shown = none_one x
no_crlf (x ∷ y ∷ l) shown =
    let both = and_true (is_text_octet x) (list_all is_text_octet (y ∷ l)) shown in
    none_cons x y l (no_cr x y both.0) (no_crlf (y ∷ l) both.1)

digits_shown : (word : List ℕ) → list_all is_digit word ≡ true → list_all is_text_octet word ≡ true
digits_shown [] h = refl
digits_shown (x ∷ word) h =
    let both = and_true (is_digit x) (list_all is_digit word) h in
    let shown : is_text_octet x ≡ true = grind (arith, nat_tests) in
    rw shown (digits_shown word both.1)

line_whole : (code mark : ℕ) (text : List ℕ) → is_code code ≡ true → is_text_octet mark ≡ true → is_reply_text text ≡ true → HasNoCrlf (decimal code ++ mark ∷ text)
line_whole code mark text known shown fits =
    let w = word_of code (grind (arith, nat_tests)) in
    let text_shown = (and_true _ (list_all is_text_octet text) fits).1 in
    no_crlf (decimal code ++ mark ∷ text) (list_all-append is_text_octet (decimal code) (mark ∷ text) ∙ rw (digits_shown (decimal code) w.digits, shown, text_shown) refl)

begins : (code : ℕ) (texts : List (List ℕ)) (behind : List ℕ) → is_code code ≡ true → 0 < length texts → list_all is_reply_text texts ≡ true
    → BeginsWithReply (reply_octets code texts ++ behind) code texts behind
begins code [] behind known some are = absurd (omega (arith, some))
begins code (text ∷ []) behind known some are =
    let fits = (and_true (is_reply_text text) true are).0 in
    record {
      before = [];
      text = text;
      line = decimal code ++ 32 ∷ text;
      are = refl;
      begins = record { lines = []; are = All-nil HasNoCrlf; whole = refl; say = refl };
      whole = line_whole code 32 text known refl fits;
      says = last_line code text known fits;
    }
begins code (text ∷ other ∷ texts) behind known some are =
    let both = and_true (is_reply_text text) (list_all is_reply_text (other ∷ texts)) are in
    let rest = begins code (other ∷ texts) behind known (omega arith) both.1 in
    let line : List ℕ = decimal code ++ 45 ∷ text in
    record {
      before = text ∷ rest.before;
      text = rest.text;
      line = rest.line;
      are = ap (λ (l : List (List ℕ)). text ∷ l) rest.are;
      begins = record {
        lines = line ∷ rest.begins.lines;
        are = All-cons HasNoCrlf line rest.begins.lines (line_whole code 45 text known refl both.0) rest.begins.are;
        whole = append_assoc (sent_line line) (reply_octets code (other ∷ texts)) behind ∙ ap (λ (l : List ℕ). sent_line line ++ l) rest.begins.whole
            ∙ sym (append_assoc (sent_line line) (flat_map sent_line rest.begins.lines) (sent_line rest.line ++ behind));
        say = ap₂ (λ (o : Option ReplyPart) (os : List (Option ReplyPart)). o ∷ os) (front_line code text known both.0) rest.begins.say;
      };
      whole = rest.whole;
      says = rest.says;
    }

pub read_back : RepliesAreReadBack
read_back code texts behind reply = begins code texts behind reply.known reply.some reply.are
