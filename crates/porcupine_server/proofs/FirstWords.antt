-- Words whose first is `serve` do not ask to drive.
use Rattle.std.proofs.Common.{◌≡◌, ℕ, Bool, true, false, ◌&&◌, cond, nat_eq, List, [], ◌∷◌, length, map, Option, Some, None, refl, sym, ap, ◌∙◌, subst, arith}
use Rattle.std.specs.Prelude.{codes, String, string_bytes}
use Rattle.std.specs.Cmp.Lexicographic.{pointwise}
use Rattle.std.proofs.lemmas.Bool.Decides.{nat_tests}
use Rattle.mail_model.specs.Numbers.{number_of}
use Rattle.command_words.specs.Forms.{Task, has_option, is_word, size_of, storm_of, with_file, form_of, task_of}
use Rattle.command_words.specs.Forms.Task.{Drive, Storm, Check, Serve}
use Rattle.porcupine_server.specs.Words.{serves_first}
use Rattle.porcupine_server.specs.Tasks.{asked}

-- no other task is to drive
abbrev is_drive : Option Task → Bool
is_drive None = false
is_drive (Some Drive) = true
is_drive (Some (Storm number size)) = false
is_drive (Some (Check file)) = false
is_drive (Some (Serve file)) = false

never : (task : Option Task) → is_drive task ≡ false → task ≡ Some Drive → ⊥
never task none is = let both : false ≡ true = sym none ∙ ap is_drive is in cc

no_file : (verb file : List ℕ) → is_drive (with_file verb file) ≡ false
no_file verb file = by (is_word verb (codes "check")) (is_word verb (codes "serve"))
  where
    by : (check serve : Bool) → is_drive (cond check (Some (Check file)) (cond serve (Some (Serve file)) None)) ≡ false
    by true serve = refl
    by false true = refl
    by false false = refl

no_named : (verb file : List ℕ) → is_drive (form_of (verb ∷ file ∷ [])) ≡ false
no_named verb file = by (nat_eq (length file) 0)
  where
    by : (empty : Bool) → is_drive (cond empty None (with_file verb file)) ≡ false
    by true = refl
    by false = no_file verb file

no_storm : (number size : Option ℕ) → is_drive (storm_of number size) ≡ false
no_storm None size = refl
no_storm (Some number) None = refl
no_storm (Some number) (Some size) = refl

no_stormed : (verb number size : List ℕ) → is_drive (form_of (verb ∷ number ∷ size ∷ [])) ≡ false
no_stormed verb number size = by (is_word verb (codes "storm"))
  where
    by : (storm : Bool) → is_drive (cond storm (storm_of (number_of number) (size_of size)) None) ≡ false
    by true = no_storm (number_of number) (size_of size)
    by false = refl

-- the word `drive` is not the word `serve`
other_word : (verb : List ℕ) → is_word verb (codes "drive") ≡ true → is_word verb (codes "serve") ≡ false
other_word [] is = refl
other_word (x ∷ xs) is = by (nat_eq x 100) (nat_eq x 115) refl refl is
  where
    by : (drive serve : Bool) → nat_eq x 100 ≡ drive → nat_eq x 115 ≡ serve → (drive && pointwise nat_eq xs (codes "rive")) ≡ true → (serve && pointwise nat_eq xs (codes "erve")) ≡ false
    by drive false first second so = refl
    by false true first second so = absurd cc
    by true true first second so =
        let d : x ≡ 100 = grind (arith, nat_tests, first) in
        let s : x ≡ 115 = grind (arith, nat_tests, second) in
        absurd (omega (arith, d, s))

driven_first : (verb : List ℕ) → form_of (verb ∷ []) ≡ Some Drive → is_word verb (codes "serve") ≡ false
driven_first verb is = by (is_word verb (codes "drive")) refl is
  where
    by : (drive : Bool) → is_word verb (codes "drive") ≡ drive → cond drive (Some Drive) None ≡ Some Drive → is_word verb (codes "serve") ≡ false
    by true same so = other_word verb same
    by false same so = absurd (never None refl so)

formed : (words : List (List ℕ)) → task_of words ≡ Some Drive → form_of words ≡ Some Drive
formed words is = by (has_option words) is
  where
    by : (option : Bool) → cond option None (form_of words) ≡ Some Drive → form_of words ≡ Some Drive
    by true so = absurd (never None refl so)
    by false so = so

pub no_serve_first : {Z : Type 0} (words : List (String Z)) → asked words ≡ Some Drive → serves_first words ≡ false
no_serve_first [] is = refl
no_serve_first (w ∷ []) is = driven_first (string_bytes w) (formed (string_bytes w ∷ []) is)
no_serve_first (w ∷ f ∷ []) is = absurd (never _ (no_named (string_bytes w) (string_bytes f)) (formed (string_bytes w ∷ string_bytes f ∷ []) is))
no_serve_first (w ∷ n ∷ s ∷ []) is = absurd (never _ (no_stormed (string_bytes w) (string_bytes n) (string_bytes s)) (formed (string_bytes w ∷ string_bytes n ∷ string_bytes s ∷ []) is))
no_serve_first (w ∷ a ∷ b ∷ d ∷ words) is = absurd (never None refl (formed (string_bytes w ∷ string_bytes a ∷ string_bytes b ∷ string_bytes d ∷ map string_bytes words) is))
