use Rattle.std.proofs.Common.{◌≡◌, ◌++◌, List, [], ℕ, Ok, sym, ap, subst, ◌∙◌, append-nil}
use Rattle.io_edge.proofs.Known.{consumes_more}
use Rattle.line_source.specs.Parts.{IsPart}
use Rattle.line_source.specs.declared.source.LinePart.{LinePart}
use Rattle.line_source.proofs.Cuts.{part_widens}
use Rattle.line_source.proofs.readers.ReadSourceLineSource.take_part.Goals as goal

pub returns-in-Ok-End-clause-took : goal.returns-in-Ok-End-clause-took
returns-in-Ok-End-clause-took g c =
    let held = c.in-Ok-End.ensures.took in
    let octet = c.take_octet.ensures.took in
    let none : (held.0 ≡ []) × (held.1 ≡ []) = subst (λ (p : LinePart). IsPart c.args.most held.0 held.1 (Ok p)) c.in-Ok-End.field-0-is held.4 in (
      held.0 ++ octet.0,
      octet.1,
      consumes_more _ _ _ held.0 octet.0 held.2 octet.2,
      octet.3 ∙ ap (λ l. l ++ octet.1) (held.3 ∙ ap (λ l. c.args.line.now.items ++ l) none.1 ∙ append-nil _),
      subst (λ (l : List ℕ). IsPart c.args.most (l ++ octet.0) octet.1 c.take_octet.result) (sym none.0) (part_widens c.args.most octet.0 octet.1 c.take_octet.result c.requires.some octet.4),
    )
