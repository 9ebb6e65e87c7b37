use Rattle.std.proofs.Common.{arith, ◌≡◌, ℕ, ◌+◌, List, ◌++◌, length, take, drop, sym, ap, subst, ◌∙◌}
use Rattle.std.proofs.lemmas.List.{length-drop, drop-drop, take-append-drop}
use Rattle.dot_text.specs.Cuts.{HasNoneBefore}
use Rattle.dot_text.specs.Cuts.Taken.{Skipped}
use Rattle.dot_text.specs.Shown.{Shown}
use Rattle.dot_text.proofs.Cutting.{cuts_taken, seen_skipped}
use Rattle.dot_text.proofs.cutter.LineCutter.skip.Goals as goal

pub invariant_of-self : goal.invariant_of-self
invariant_of-self c =
    let old = c.self.inside in
    let rest = ap (λ (s : Shown). length s.rest) c.self.view_is in
    let Before : ℕ → Type 0 = λ n. HasNoneBefore (drop (old.start + c.args.count) old.octets.items) n in (
      c.self.invariant.0,
      omega (arith, c.requires, rest, length-drop old.start old.octets.items, c.self.invariant.1),
      subst Before (sym c.saturating_sub-self-inside.ensures) (seen_skipped old.octets.items old.start c.args.count old.seen c.self.invariant.2),
    )

pub returns-clause-shows : goal.returns-clause-shows
returns-clause-shows c fed taken cuts =
    let old = c.self.inside in
    let rest = c.args.self.now.rest in
    let is : rest ≡ take c.args.count rest ++ drop (old.start + c.args.count) old.octets.items =
    sym (take-append-drop c.args.count rest)
    ∙ ap (λ (l : List ℕ). take c.args.count rest ++ l) (ap (λ (s : Shown). drop c.args.count s.rest) (sym c.self.view_is) ∙ drop-drop c.args.count old.start old.octets.items) in
    cuts_taken fed taken (Skipped (take c.args.count rest)) rest _ is tt cuts
