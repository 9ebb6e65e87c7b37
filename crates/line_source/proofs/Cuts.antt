-- Where the first LF of some octets stands, and what a cut there takes.
use Rattle.std.proofs.Common.{◌≡◌, ℕ, suc, ◌+◌, ◌<◌, ◌≤◌, min, List, ◌∷◌, ◌++◌, length, take, drop, refl, sym, ap, ap₂, subst, ◌∙◌, arith, Result, Ok, Err, eq-eqb, eqb-true, length-take-le, take-add, take-take}
use Rattle.std.proofs.lemmas.List.{get_or-take, get_or_default, take_all}
use Rattle.std.proofs.Math.Seq.{drop-cons}
use Rattle.memchr.specs.Find.{Nowhere, NoneBefore, Passes, is_byte}
use Rattle.mail_model.specs.Lines.{HasNoLf}
use Rattle.line_source.specs.Parts.{IsCut, IsPart, lf_of}
use Rattle.line_source.specs.declared.source.LinePart.{LinePart}
use Rattle.line_source.specs.declared.source.LinePart.TheVariants.{Whole, Open, End}
use Rattle.line_source.specs.declared.source.PartFault.{PartFault}

-- no LF at the first places is no LF among the first octets
none_among : (held : List ℕ) (at : ℕ) → at ≤ length held → Nowhere (Passes (is_byte 10) held) 0 at → HasNoLf (take at held)
none_among held at fits none = λ k d inside is.
    let low : k < at = subst (λ n. k < n) (length-take-le at held fits) inside in
    none k (omega arith) low (eq-eqb _ _ (get_or_default held k 0 d (omega (arith, low, fits)) ∙ sym (get_or-take at held k d low) ∙ is))

-- the first LF cuts the octets
pub cut_whole : (held : List ℕ) (at : ℕ) → NoneBefore (Passes (is_byte 10) held) 0 (length held) at → Passes (is_byte 10) held at → IsCut held at Whole
cut_whole held at before hit = (
  drop (suc at) held,
  drop-cons held at 0 before.high ∙ ap (λ x. x ∷ drop (suc at) held) (eqb-true _ _ hit),
  none_among held at (omega (arith, before.high)) before.before,
  before.high,
)

-- with no LF they are one part
pub cut_open : (held : List ℕ) → Nowhere (Passes (is_byte 10) held) 0 (length held) → 0 < length held → IsCut held (length held) Open
cut_open held none some = (subst HasNoLf (take_all (length held) held (omega arith)) (none_among held (length held) (omega arith) none), some, refl)

-- what a cut of the first octets takes of all
pub taken_cut : (shown here : List ℕ) (m most count lf : ℕ) (part : LinePart) → m ≡ min (length shown) most → here ≡ take m shown → IsCut here count part → lf ≡ lf_of part
    → (count + lf ≤ length shown) × IsPart most (take (count + lf) shown) (take count here) (Ok part)
taken_cut shown here m most count lf Whole is_m is_here c is_lf =
    let size : length here ≡ m = ap length is_here ∙ length-take-le m shown (omega (arith, is_m)) in
    let low : count + lf ≤ m = omega (arith, c.3, size, is_lf) in
    let fits : count + lf ≤ length shown = omega (arith, low, is_m) in (
      fits,
      (
        sym (take-take (count + lf) m shown low) ∙ ap (take (count + lf)) (sym is_here) ∙ take-add count lf here ∙ ap₂ (λ n l. take count here ++ take n l) is_lf c.1,
        c.2,
        omega (arith, length-take-le (count + lf) shown fits, low, is_m),
      ),
    )
taken_cut shown here m most count lf Open is_m is_here c is_lf =
    let size : length here ≡ m = ap length is_here ∙ length-take-le m shown (omega (arith, is_m)) in
    let all : take count here ≡ here = take_all count here (omega (arith, c.2)) in
    let same : count + lf ≡ m = omega (arith, c.2, size, is_lf) in
    let fits : count + lf ≤ length shown = omega (arith, same, is_m) in (
      fits,
      (
        ap (λ n. take n shown) same ∙ sym is_here ∙ sym all,
        subst HasNoLf (sym all) c.0,
        subst (λ l. 0 < length l) (sym all) c.1,
        omega (arith, length-take-le (count + lf) shown fits, same, is_m),
      ),
    )
taken_cut shown here m most count lf End is_m is_here c is_lf =
    let none : count + lf ≡ 0 = omega (arith, c.1, is_lf) in
    (omega (arith, none), (ap (λ n. take n shown) none, ap (λ n. take n here) c.1))

-- a part of at most one octet is one of at most so many
pub part_widens : (most : ℕ) (taken more : List ℕ) (result : Result LinePart PartFault) → 0 < most → IsPart 1 taken more result → IsPart most taken more result
part_widens most taken more (Ok Whole) some p = (p.0, p.1, omega (arith, some, p.2))
part_widens most taken more (Ok Open) some p = (p.0, p.1, p.2, omega (arith, some, p.3))
part_widens most taken more (Ok End) some p = p
part_widens most taken more (Err why) some p = p
