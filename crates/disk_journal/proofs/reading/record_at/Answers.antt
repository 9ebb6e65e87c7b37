use Rattle.std.proofs.Common.{refl, ◌<◌, ◌≤◌, ◌-◌, ◌∙◌, arith}
use Rattle.disk_journal.proofs.Frames.{told_short, told_long, told_whole}
use Rattle.disk_journal.proofs.reading.record_at.Goals as goal

pub returns-then-total-at-lt5-clause-found : goal.returns-then-total-at-lt5-clause-found
returns-then-total-at-lt5-clause-found g c =
    let within : c.args.at < c.args.total = omega (arith, c.if-at-total.false) in
    (told_short _ c.args.total c.args.at _ c.requires c.in_ok-fill.ensures.filled c.if-gate.false within c.if-total-at-lt5.true, c.in_ok-fill.ensures.cause)

pub returns-then-total-at-clause-found : goal.returns-then-total-at-clause-found
returns-then-total-at-clause-found g c =
    let within : c.args.at < c.args.total = omega (arith, c.if-at-total.false) in
    let few : c.args.total - c.args.at - 5 < c.size_of.result = omega (arith, c.if-total-at.true, c.from-size.ensures) in (
      told_long _ _ c.args.total c.args.at c.size_of.result _ _ c.fill.ensures.seen c.requires c.in_ok-fill.ensures.filled c.if-gate.false within
          c.in_ok-fill-2.ensures.filled c.size_of.ensures c.size_of.type_inv few,
      c.in_ok-fill-2.ensures.cause ∙ c.in_ok-fill.ensures.cause,
    )

pub returns-clause-found : goal.returns-clause-found
returns-clause-found g c =
    let within : c.args.at < c.args.total = omega (arith, c.if-at-total.false) in
    let enough : c.size_of.result ≤ c.args.total - c.args.at - 5 = omega (arith, c.if-total-at.false, c.from-size.ensures) in
    let five : 5 ≤ c.args.total - c.args.at = omega (arith, c.if-total-at-lt5.false) in (
      told_whole _ _ c.args.total c.args.at c.size_of.result _ _ _ c.fill.ensures.seen c.requires c.in_ok-fill.ensures.filled c.if-gate.false within
          c.in_ok-fill-2.ensures.filled c.size_of.ensures c.size_of.type_inv enough five refl c.from-size.ensures,
      c.in_ok-fill-2.ensures.cause ∙ c.in_ok-fill.ensures.cause,
    )
