use Rattle.std.proofs.Common.{ℕ, ◌≡◌, List, length, Option, IfSome, subst, sym, ◌∙◌}
use Rattle.std.proofs.lemmas.Result.{err_from_is_err_and}
use Rattle.io_edge.proofs.Passing.{then_kept}
use Rattle.disk_journal.proofs.Frames.{row_first, row_next, told_header, told_more, told_end, open_fails}
use Rattle.disk_journal.proofs.journal.Journal.open.Goals as goal

pub loop-places-init : goal.loop-places-init
loop-places-init g c = record {
  read = told_header _ _ c.args.node _ c.len.ensures.seen c.new-places.ensures.items c.in_ok-read_header.ensures.header.0;
  row = row_first _ c.new-places.ensures.items;
  size = c.in_ok-total.ensures.length;
  within = c.in_ok-read_header.ensures.long;
  seen = c.read_header.ensures.seen ∙ c.len.ensures.seen;
  quiet = c.in_ok-read_header.ensures.header.1 ∙ c.in_ok-total.ensures.quiet;
  images = then_kept g.D.Disk.clock _ _ _ _ c.len.ensures.images c.read_header.ensures.images;
  settled = λ before. c.read_header.ensures.settled (c.len.ensures.settled before);
}

pub record_at-requires : goal.record_at-requires
record_at-requires g c =
    let inv = c.loop-places.invariant in
    subst (λ (o : Option (List ℕ)). IfSome o (λ held. c.in_ok-total.total ≡ length held)) (sym inv.seen) inv.size

pub returns-in_err-place-clause-opened : goal.returns-in_err-place-clause-opened
returns-in_err-place-clause-opened g c =
    let inv = c.loop-places.invariant in
    let p = err_from_is_err_and c.from_residual-in_err-place.result c.from_residual-in_err-place.ensures.1 in
    rw (p.1, p.2) (open_fails _ _ _ _ _ _ _ _ _ inv.seen inv.quiet inv.read c.in_err-place.ensures.found)

pub returns-in_default-push-clause-opened : goal.returns-in_default-push-clause-opened
returns-in_default-push-clause-opened g c = c.in_ok-place.ensures.found.1 ∙ c.loop-places.invariant.quiet

pub loop-places-preserved : goal.loop-places-preserved
loop-places-preserved g c =
    let inv = c.loop-places.invariant in
    let found = rw c.in-Some.is at c.in_ok-place.ensures.found in
    let begins = rw c.in-Some.is at c.in_ok-place.ensures.begins in
    let within = rw c.in-Some.is at c.in_ok-place.ensures.within in
    record {
      read = told_more _ _ c.args.node _ _ _ c.in-Some.place inv.seen c.in-Ok.ensures.items inv.read found.0;
      row = row_next _ _ c.in-Some.place _ inv.row c.in-Ok.ensures.items begins;
      size = inv.size;
      within = within;
      seen = c.record_at.ensures.seen ∙ inv.seen;
      quiet = c.in_ok-place.ensures.found.1 ∙ inv.quiet;
      images = then_kept g.D.Disk.clock _ _ _ _ inv.images c.record_at.ensures.images;
      settled = λ before. c.record_at.ensures.settled (inv.settled before);
    }

pub returns-clause-opened : goal.returns-clause-opened
returns-clause-opened g c =
    let inv = c.loop-places.invariant in (
      told_end _ _ _ c.args.node _ _ c.in_default.not-Some inv.seen inv.read c.in_ok-place.ensures.found.0,
      c.in_ok-place.ensures.found.1 ∙ inv.quiet,
    )
