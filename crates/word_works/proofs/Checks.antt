-- What is found in a plan file, and what is told of it.
use Rattle.std.proofs.Common.{◌≡◌, ◌⊎◌, inl, inr, ⊎_elim, ◌<◌, ◌+◌, ℕ, List, length, ◌++◌, Option, Some, None, refl, sym, ap, ◌∙◌, subst, arith}
use Rattle.std.specs.Prelude.{IfSome, Result, Ok, Err}
use Rattle.std.proofs.lemmas.Option.{none-some}
use Rattle.std.specs.Io.KnownBytes.{Appends}
use Rattle.toml.specs.Data.{Data, table}
use Rattle.toml.specs.Parse.{parse_document}
use Rattle.io_edge.specs.Causes.{Rose}
use Rattle.cluster_config.specs.Answers.{IsDocument}
use Rattle.cluster_config.specs.Rules.{first_broken}
use Rattle.word_works.specs.Checks.{KeepsRules, BreaksRule, IsFoundIn, Finds, Tells, ChecksPlan, NamesRule, status_of, line_of}
use Rattle.word_works.specs.Parts.{WritesPart}
use Rattle.word_works.specs.declared.found.Found.{Found}
use Rattle.word_works.specs.declared.found.Found.TheVariants.{Good, Broken, Unread, NoMemory}

-- octets are one document at most
one_document : (octets : List ℕ) (a b : Data) → IsDocument octets a → IsDocument octets b → a ≡ b
one_document octets a b x y =
    let first : parse_document octets ≡ Some x.members = x.reads in
    let second : parse_document octets ≡ Some y.members = y.reads in
    let same : x.members ≡ y.members = cc in
    x.value ∙ ap table same ∙ sym y.value

-- octets that keep all rules break none
not_both : (octets : List ℕ) (rule : ℕ) → KeepsRules octets → BreaksRule octets rule → ⊥
not_both octets rule keeps breaks = ⊎_elim (λ none. none.1 keeps.0 keeps.1)
    (λ some. none-some rule (sym (keeps.2) ∙ ap first_broken (one_document octets keeps.0 some.0 keeps.1 some.1) ∙ some.2)) breaks

-- what is found of told octets that keep all rules
found_good : (told : Option (List ℕ)) (octets : List ℕ) (found : Found) → told ≡ Some octets → KeepsRules octets → Finds told found → (found ≡ Good) ⊎ (found ≡ Unread) ⊎ (found ≡ NoMemory)
found_good told octets Good is keeps finds = inl refl
found_good told octets Unread is keeps finds = inr (inl refl)
found_good told octets NoMemory is keeps finds = inr (inr refl)
found_good told octets (Broken rule) is keeps finds = absurd (⊎_elim (λ (e : Broken rule ≡ Unread). let never : Broken rule ≡ Unread = e in cc)
    (λ more. ⊎_elim (λ (e : Broken rule ≡ NoMemory). let never : Broken rule ≡ NoMemory = e in cc)
    (λ (some : (read : List ℕ) × IfSome told (λ held. read ≡ held) × BreaksRule read rule).
    let same : some.0 ≡ octets = subst (λ (t : Option (List ℕ)). IfSome t (λ held. some.0 ≡ held)) is some.1 in
    not_both octets rule keeps (subst (λ (o : List ℕ). BreaksRule o rule) same some.2)) more) finds)

-- the status is that of what was found, or one of two others
status_so : (held0 held1 : Option (List ℕ)) (found : Found) (status : ℕ) → Tells held0 held1 found status → (status ≡ status_of found) ⊎ (status ≡ 5) ⊎ (status ≡ 7)
status_so held0 held1 found status tells = ⊎_elim (λ whole. inl whole.0) (λ more. ⊎_elim (λ part. inr (inl part.0)) (λ none. inr (inr none.0)) more) tells

some_of : (found : Found) (status : ℕ) → status ≡ status_of found → (status ≡ 0) ⊎ (status ≡ 2) ⊎ (status ≡ 4) ⊎ (status ≡ 5) ⊎ (status ≡ 7)
some_of Good status is = inl is
some_of (Broken rule) status is = inr (inl is)
some_of Unread status is = inr (inr (inl is))
some_of NoMemory status is = inr (inr (inr (inr is)))

pub some_status : (held0 held1 : Option (List ℕ)) (found : Found) (status : ℕ) → Tells held0 held1 found status → (status ≡ 0) ⊎ (status ≡ 2) ⊎ (status ≡ 4) ⊎ (status ≡ 5) ⊎ (status ≡ 7)
some_status held0 held1 found status tells = ⊎_elim (some_of found status) (λ more. ⊎_elim (λ five. inr (inr (inr (inl five)))) (λ seven. inr (inr (inr (inr seven)))) more) (status_so held0 held1 found status tells)

-- status 4 is that of a file that could not be read
unread_of : (found : Found) (status : ℕ) → status ≡ 4 → status ≡ status_of found → found ≡ Unread
unread_of Good status four is = absurd (omega (arith, four, is))
unread_of (Broken rule) status four is = absurd (omega (arith, four, is))
unread_of Unread status four is = refl
unread_of NoMemory status four is = absurd (omega (arith, four, is))

pub unread : (held0 held1 : Option (List ℕ)) (found : Found) (status : ℕ) → Tells held0 held1 found status → status ≡ 4 → found ≡ Unread
unread held0 held1 found status tells four = ⊎_elim (unread_of found status four)
    (λ more. absurd (⊎_elim (λ five. omega (arith, four, five)) (λ seven. omega (arith, four, seven)) more)) (status_so held0 held1 found status tells)

-- status 2 is that of a file that breaks a rule, which is named
broken_of : (told held0 held1 : Option (List ℕ)) (found : Found) (status : ℕ) → Finds told found → status ≡ 2 → status ≡ status_of found → Appends held0 held1 (line_of found) → (rule : ℕ) × NamesRule told held0 held1 rule
broken_of told held0 held1 Good status finds two is wrote = absurd (omega (arith, two, is))
broken_of told held0 held1 Unread status finds two is wrote = absurd (omega (arith, two, is))
broken_of told held0 held1 NoMemory status finds two is wrote = absurd (omega (arith, two, is))
broken_of told held0 held1 (Broken rule) status finds two is wrote = (
  rule,
  (
    wrote,
    ⊎_elim (λ (e : Broken rule ≡ Unread). absurd (let never : Broken rule ≡ Unread = e in cc))
        (λ more. ⊎_elim (λ (e : Broken rule ≡ NoMemory). absurd (let never : Broken rule ≡ NoMemory = e in cc)) (λ some. some) more) finds,
  ),
)

pub named : (told held0 held1 : Option (List ℕ)) (found : Found) (status : ℕ) → Finds told found → Tells held0 held1 found status → status ≡ 2 → (rule : ℕ) × NamesRule told held0 held1 rule
named told held0 held1 found status finds tells two = ⊎_elim (λ whole. broken_of told held0 held1 found status finds two whole.0 whole.1)
    (λ more. absurd (⊎_elim (λ five. omega (arith, two, five.0)) (λ seven. omega (arith, two, seven.0)) more)) tells

-- where the file keeps all rules, was read, and the line was written, the status is 0, or 7
pub good : (told held0 held1 : Option (List ℕ)) (octets : List ℕ) (found : Found) (status : ℕ) → told ≡ Some octets → KeepsRules octets → Finds told found → Tells held0 held1 found status
    → (found ≡ Unread → ⊥) → (status ≡ 5 → ⊥) → (status ≡ 0) ⊎ (status ≡ 7)
good told held0 held1 octets found status is keeps finds tells read written = ⊎_elim
    (λ own. ⊎_elim (λ yes. inl (own ∙ ap status_of yes)) (λ more. ⊎_elim (λ no. absurd (read no)) (λ no. inr (own ∙ ap status_of no)) more) (found_good told octets found is keeps finds))
    (λ more. ⊎_elim (λ five. absurd (written five)) (λ seven. inr seven) more) (status_so held0 held1 found status tells)
