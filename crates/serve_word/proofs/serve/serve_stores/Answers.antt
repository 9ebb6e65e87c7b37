use Rattle.std.proofs.Common.{sym, ap, ◌∙◌}
use Rattle.serve_word.proofs.Served.{ran, refused_store}
use Rattle.serve_word.proofs.serve.serve_stores.Goals as goal

pub returns-in-Err-clause-store_fault : goal.returns-in-Err-clause-store_fault
returns-in-Err-clause-store_fault g c node is = refused_store _ c.in-Err.fault c.args.disks.items c.in-Err.disks.items node c.in-Err.ensures.refused (sym c.unopened.ensures ∙ is)

pub returns-in-Ok-clause-serves : goal.returns-in-Ok-clause-serves
returns-in-Ok-clause-serves g c file plan names ports = ran _ _ _ _ _ _ c.args.plan c.args.names.now c.args.ports.now file c.of.result c.args.disks.items c.close.result.items c.serve_board-end.result.0 c.in-Ok.world c.serve_board-end.result.1
    plan names ports c.of.ensures c.in-Ok.ensures.opened c.serve_board-end.ensures.world c.serve_board-end.ensures.counted c.close.ensures c.serve_board-end.ensures.ran c.serve_board-end.ensures.listened
    (λ none. (ap g.S.Source.left (c.serve_board-end.ensures.unserved none).0, ap g.K.Sink.contents (c.serve_board-end.ensures.unserved none).1))

pub serve_board-end-requires-clause-sound : goal.serve_board-end-requires-clause-sound
serve_board-end-requires-clause-sound g c κs within = c.opened_is_sound.ensures c.args.plan c.in-Ok.world c.in-Ok.ensures.opened.begins
