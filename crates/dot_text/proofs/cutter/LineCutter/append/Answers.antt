use Rattle.std.proofs.Common.{arith, ◌≡◌, ℕ, List, ◌++◌, length, drop, sym, ap, subst, ◌∙◌}
use Rattle.std.proofs.lemmas.List.{drop-append-le, length-append}
use Rattle.dot_text.specs.Cuts.{HasNoneBefore}
use Rattle.dot_text.proofs.Cutting.{seen_fed}
use Rattle.dot_text.proofs.cutter.LineCutter.append.Goals as goal

pub invariant_of-self-2 : goal.invariant_of-self-2
invariant_of-self-2 c =
    let old = c.self.inside in
    let fed : c.extend_from_slice.new.self.items ≡ old.octets.items ++ c.args.piece.now = c.in_ok-extend_from_slice.ensures.items in
    let is : drop old.start c.extend_from_slice.new.self.items ≡ drop old.start old.octets.items ++ c.args.piece.now =
    ap (λ (l : List ℕ). drop old.start l) fed ∙ drop-append-le old.start old.octets.items c.args.piece.now c.self.invariant.1 in
    let Before : List ℕ → Type 0 = λ l. HasNoneBefore l old.seen in (
      c.self.invariant.0,
      omega (arith, ap (λ (l : List ℕ). length l) fed, length-append old.octets.items c.args.piece.now, c.self.invariant.1),
      subst Before (sym is) (seen_fed (drop old.start old.octets.items) c.args.piece.now old.seen c.self.invariant.2),
    )
