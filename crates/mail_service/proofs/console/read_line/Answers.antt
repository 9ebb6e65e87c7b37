use Rattle.std.proofs.Common.{◌≡◌, ◌++◌, ◌∷◌, [], ℕ, List, sym, subst, arith}
use Rattle.std.specs.Io.KnownBytes.{Consumes}
use Rattle.io_edge.proofs.Known.{consumes_more}
use Rattle.mail_model.specs.Lines.{ended}
use Rattle.mail_service.specs.Consoles.{HasHeard}
use Rattle.mail_service.specs.declared.console.Heard.{Heard}
use Rattle.mail_service.proofs.Listening.{whole_heard}
use Rattle.mail_service.proofs.console.read_line.Goals as goal

pub returns-then-octet-eq10-clause-heard : goal.returns-then-octet-eq10-clause-heard
returns-then-octet-eq10-clause-heard g c =
    let u = c.loop.invariant.underway in
    let left0 = g.S.Source.left c.args.source.now in
    let mid = g.S.Source.left c.loop.source in
    let left1 = g.S.Source.left c.next_octet.new.source in
    let lf : c.in-Ok-Some.octet ≡ 10 = omega arith in
    let took : Consumes mid left1 (10 ∷ []) = subst (λ (x : ℕ). Consumes mid left1 (x ∷ [])) lf (rw c.in-Ok-Some.field-0-is at c.in-Ok-Some.ensures.octet) in (
      ended u.taken,
      consumes_more left0 mid left1 u.taken (10 ∷ []) u.took took,
      subst (λ (h : Heard). HasHeard h left1 (ended u.taken) c.loop.line.items) (sym c.whole_line.ensures) (whole_heard left1 c.loop.long u.taken c.loop.line.items u.kept u.one),
    )

pub returns-then-is_err-clause-heard : goal.returns-then-is_err-clause-heard
returns-then-is_err-clause-heard g c =
    let u = c.loop.invariant.underway in
    let left0 = g.S.Source.left c.args.source.now in
    let mid = g.S.Source.left c.loop.source in
    let left1 = g.S.Source.left c.next_octet.new.source in
    let took : Consumes mid left1 (c.in-Ok-Some.octet ∷ []) = rw c.in-Ok-Some.field-0-is at c.in-Ok-Some.ensures.octet in
    (u.taken ++ c.in-Ok-Some.octet ∷ [], consumes_more left0 mid left1 u.taken (c.in-Ok-Some.octet ∷ []) u.took took, tt)
