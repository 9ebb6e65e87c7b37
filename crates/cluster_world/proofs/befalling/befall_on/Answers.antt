use Rattle.std.proofs.Common.{inr, refl, ap, ◌∙◌, Some}
use Rattle.std.proofs.lemmas.Option.{slice_get_read}
use Rattle.cluster_world.proofs.befalling.befall_on.Goals as goal

pub befall_at-requires : goal.befall_at-requires
befall_at-requires c = record {
  reads = λ node e. c.requires.reads c.place_of-place.result node (slice_get_read c.args.lives.now.items c.len.result c.place_of-place.result c.index_mut.result.now (c.len.ensures ∙ c.args.lives.now.ok.0) c.if-place-len.true c.index_mut.ensures.value ∙ ap Some e);
}

pub returns-then-place-len : goal.returns-then-place-len
returns-then-place-len c = inr (record {
  place = c.place_of-place.result;
  at = c.place_of-place.ensures ∙ ap (λ n. n.node) c.ticket.view_is;
  from = c.index_mut.result.now;
  to = c.befall_at.new.life;
  was = slice_get_read c.args.lives.now.items c.len.result c.place_of-place.result c.index_mut.result.now (c.len.ensures ∙ c.args.lives.now.ok.0) c.if-place-len.true c.index_mut.ensures.value;
  becomes = refl;
  step = c.befall_at.ensures;
})
