-- Where the words of a command line are put.
use Rattle.std.proofs.Common.{◌≡◌, ◌≤◌, true, false, List, [], ◌∷◌, length, None, codes, refl, arith}
use Rattle.std.specs.Prelude.{slice_get}
use Rattle.std.specs.Str.{bytes_eq}
use Rattle.clap.specs.Words.{Row, Text, first_of, matches_of, takes, is_simple}
use Rattle.clap.specs.Lexer.{strip_byte}
use Rattle.clap.proofs.OnLiterals.{clap_on_literals}
use Rattle.command_words.specs.Forms.{begins_with_dash, has_option}
use Rattle.command_words.specs.Places.{places}

-- a word that begins with no dash is no option, no bundle of flags, and not the mark after which there are none
record IsPlain (w : Text) : Type 0 where
  strips : strip_byte 45 w ≡ None
  no_mark : bytes_eq w (45 ∷ 45 ∷ []) ≡ false

is_plain : (w : Text) → begins_with_dash w ≡ false → IsPlain w
is_plain [] e = record { strips = refl; no_mark = refl }
is_plain (x ∷ xs) e = record { strips = rw e; no_mark = rw e }

pub simple : is_simple places ≡ true
unfolding clap_on_literals
simple = refl

takes_0 : takes places [] ≡ true
unfolding clap_on_literals
takes_0 = refl

takes_1 : (a : Text) → IsPlain a → takes places (a ∷ []) ≡ true
unfolding clap_on_literals
takes_1 a p = simp (p.strips, p.no_mark)

takes_2 : (a b : Text) → IsPlain a → IsPlain b → takes places (a ∷ b ∷ []) ≡ true
unfolding clap_on_literals
takes_2 a b p q = simp (p.strips, p.no_mark, q.strips, q.no_mark)

takes_3 : (a b c : Text) → IsPlain a → IsPlain b → IsPlain c → takes places (a ∷ b ∷ c ∷ []) ≡ true
unfolding clap_on_literals
takes_3 a b c p q r = simp (p.strips, p.no_mark, q.strips, q.no_mark, r.strips, r.no_mark)

-- each of the first three words has its place
pub record ArePlaced (words : List Text) (rows : List Row) : Type 0 where
  pub first : first_of (codes "first") rows ≡ slice_get words 0
  pub second : first_of (codes "second") rows ≡ slice_get words 1
  pub third : first_of (codes "third") rows ≡ slice_get words 2

placed_0 : ArePlaced [] (matches_of places [])
unfolding clap_on_literals
placed_0 = record { first = refl; second = refl; third = refl }

placed_1 : (a : Text) → IsPlain a → ArePlaced (a ∷ []) (matches_of places (a ∷ []))
unfolding clap_on_literals
placed_1 a p = record { first = simp (p.strips, p.no_mark); second = simp (p.strips, p.no_mark); third = simp (p.strips, p.no_mark) }

placed_2 : (a b : Text) → IsPlain a → IsPlain b → ArePlaced (a ∷ b ∷ []) (matches_of places (a ∷ b ∷ []))
unfolding clap_on_literals
placed_2 a b p q = record {
  first = simp (p.strips, p.no_mark, q.strips, q.no_mark);
  second = simp (p.strips, p.no_mark, q.strips, q.no_mark);
  third = simp (p.strips, p.no_mark, q.strips, q.no_mark);
}

placed_3 : (a b c : Text) → IsPlain a → IsPlain b → IsPlain c → ArePlaced (a ∷ b ∷ c ∷ []) (matches_of places (a ∷ b ∷ c ∷ []))
unfolding clap_on_literals
placed_3 a b c p q r = record {
  first = simp (p.strips, p.no_mark, q.strips, q.no_mark, r.strips, r.no_mark);
  second = simp (p.strips, p.no_mark, q.strips, q.no_mark, r.strips, r.no_mark);
  third = simp (p.strips, p.no_mark, q.strips, q.no_mark, r.strips, r.no_mark);
}

-- no word begins with a dash
head_plain : (w : Text) (ws : List Text) → has_option (w ∷ ws) ≡ false → IsPlain w
head_plain w ws e = is_plain w (grind (arith, e))

rest_plain : (w : Text) (ws : List Text) → has_option (w ∷ ws) ≡ false → has_option ws ≡ false
rest_plain w ws e = grind (arith, e)

pub takes_few : (ws : List Text) → length ws ≤ 3 → has_option ws ≡ false → takes places ws ≡ true
takes_few [] few e = takes_0
takes_few (a ∷ []) few e = takes_1 a (head_plain a [] e)
takes_few (a ∷ b ∷ []) few e = takes_2 a b (head_plain a (b ∷ []) e) (head_plain b [] (rest_plain a (b ∷ []) e))
takes_few (a ∷ b ∷ c ∷ []) few e = takes_3 a b c (head_plain a (b ∷ c ∷ []) e) (head_plain b (c ∷ []) (rest_plain a (b ∷ c ∷ []) e)) (head_plain c [] (rest_plain b (c ∷ []) (rest_plain a (b ∷ c ∷ []) e)))
takes_few (a ∷ b ∷ c ∷ d ∷ ws) few e = absurd (omega arith)

pub placed_few : (ws : List Text) → length ws ≤ 3 → has_option ws ≡ false → ArePlaced ws (matches_of places ws)
placed_few [] few e = placed_0
placed_few (a ∷ []) few e = placed_1 a (head_plain a [] e)
placed_few (a ∷ b ∷ []) few e = placed_2 a b (head_plain a (b ∷ []) e) (head_plain b [] (rest_plain a (b ∷ []) e))
placed_few (a ∷ b ∷ c ∷ []) few e = placed_3 a b c (head_plain a (b ∷ c ∷ []) e) (head_plain b (c ∷ []) (rest_plain a (b ∷ c ∷ []) e)) (head_plain c [] (rest_plain b (c ∷ []) (rest_plain a (b ∷ c ∷ []) e)))
placed_few (a ∷ b ∷ c ∷ d ∷ ws) few e = absurd (omega arith)
