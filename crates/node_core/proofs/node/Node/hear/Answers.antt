use Rattle.std.proofs.Common.{◌≡◌, List, Option, None, ap, sym, subst, ◌∙◌}
use Rattle.std.specs.Prelude.{option_map}
use Rattle.std.proofs.lemmas.Result.{err_from_is_err_and}
use Rattle.object_model.specs.Letters.{Letter}
use Rattle.cluster_model.specs.Thrown.{thrown_by}
use Rattle.node_store.specs.Disks.{view_of}
use Rattle.node_core.specs.Nodes.{node_seen}
use Rattle.node_core.specs.Hearing.{why_seen, LetterHeard, HeardOrThrown}
use Rattle.node_core.specs.declared.outbox.Why.{Why}
use Rattle.node_core.proofs.Heard.{hears_did, hears_failed}
use Rattle.node_core.proofs.node.Node.hear.Goals as goal

pub returns-in_err-letters-clause-hears : goal.returns-in_err-letters-clause-hears
returns-in_err-letters-clause-hears g c =
    let on = view_of g.D.Disk.seen g.D.Disk.faults g.D.Disk.clock in
    let p = err_from_is_err_and c.from_residual-in_err-letters.result c.from_residual-in_err-letters.ensures.1 in
    let w = c.in_err-letters.ensures.wrote in
    let taken : thrown_by c.args.self.now.store.own (node_seen c.args.self.now) c.args.letter.now ≡ None = sym c.throws.ensures ∙ ap (option_map why_seen) c.in_default.is in
    λ plan own is. rw (p.1, p.2) (hears_failed on c.args.letter.now c.args.self.now c.args.disk.now c.take_in.new.self c.take_in.new.disk taken c.in_err-letters.field-0.0 w.0 w.1 plan own is)

pub returns-clause-hears : goal.returns-clause-hears
returns-clause-hears g c =
    let on = view_of g.D.Disk.seen g.D.Disk.faults g.D.Disk.clock in
    let old = c.args.self.now in
    let letter = c.args.letter.now in
    let taken : thrown_by old.store.own (node_seen old) letter ≡ None = sym c.throws.ensures ∙ ap (option_map why_seen) c.in_default.is in
    λ plan own is. subst (λ (t : Option Why). HeardOrThrown on own plan.nodes letter old c.args.disk.now c.take_in.new.self c.take_in.new.disk t c.sent.result.letters) (sym c.sent.ensures.thrown)
    (subst (λ (l : List Letter). LetterHeard on own plan.nodes letter old c.args.disk.now c.take_in.new.self c.take_in.new.disk l) (sym c.sent.ensures.letters)
    (hears_did on letter old c.args.disk.now c.take_in.new.self c.take_in.new.disk taken c.in_ok-letters.letters c.in_ok-letters.ensures.wrote plan own is))
