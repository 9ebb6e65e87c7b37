use Rattle.std.proofs.Common.{◌∙◌, refl, sym, ap, nat_le}
use Rattle.cluster_model.specs.Steps.{letters_end}
use Rattle.node_store.specs.Disks.{view_of}
use Rattle.cluster_world.specs.Flights.{taken_out}
use Rattle.cluster_world.specs.Lives.{is_up_life}
use Rattle.cluster_world.specs.Posts.{mishap_of}
use Rattle.cluster_world.specs.Worlds.{life_among}
use Rattle.cluster_world.proofs.Posting.{no_letter_posted, worn_posted}
use Rattle.cluster_world.proofs.PostEnds.{nobody_did, handed_ready, handed_fit, handed_room, noted_ready, ends_within, ended_did}
use Rattle.cluster_world.proofs.Installs.{post_adds_none}
use Rattle.cluster_world.proofs.steps.post.hand_letter.Goals as goal

pub returns-in_default-clause-did : goal.returns-in_default-clause-did
returns-in_default-clause-did g c = λ seconds. no_letter_posted (view_of g.D.Disk.seen g.D.Disk.faults g.D.Disk.clock) c.args.nodes.now c.args.flying.now seconds c.args.book.now c.args.number c.args.keep (sym c.in_default.ensures.is)

pub returns-then-is_worn-clause-did : goal.returns-then-is_worn-clause-did
returns-then-is_worn-clause-did g c = λ seconds. worn_posted (view_of g.D.Disk.seen g.D.Disk.faults g.D.Disk.clock) c.args.nodes.now c.args.flying.now seconds c.args.book.now c.args.number c.args.keep c.in-Some.letter.now (sym c.in-Some.ensures.is) (record { order = c.in-Some.ensures.order; mail = c.requires.mail c.in-Some.letter.now (sym c.in-Some.ensures.is) })
    (ap (nat_le letters_end) (sym c.sent.ensures) ∙ sym c.is_worn.ensures ∙ c.if-is_worn.true)

pub returns-then-not-has_up-clause-did : goal.returns-then-not-has_up-clause-did
returns-then-not-has_up-clause-did g c = (nobody_did (view_of g.D.Disk.seen g.D.Disk.faults g.D.Disk.clock) g.D.Disk.settled c.args.number c.args.keep c.args.nodes.now c.args.flying.now c.args.book.now c.requires.ready c.requires.room c.in-Some.letter.now (sym c.in-Some.ensures.is) (record { order = c.in-Some.ensures.order; mail = c.requires.mail c.in-Some.letter.now (sym c.in-Some.ensures.is) })
    (ap (nat_le letters_end) (sym c.sent.ensures) ∙ sym c.is_worn.ensures ∙ c.if-is_worn.false)
    (ap (λ n. is_up_life (life_among c.args.nodes.now n)) (sym c.receiver_of-node.ensures) ∙ sym c.has_up.ensures ∙ c.if-not-has_up.true) c.note_in.new.nodes c.note_in.ensures
    c.leave.new.flying (c.leave.ensures ∙ ap (λ o. taken_out o c.args.flying.now) c.out_of.ensures)).did

pub note_handed-requires : goal.note_handed-requires
note_handed-requires g c = record {
  works = handed_ready (view_of g.D.Disk.seen g.D.Disk.faults g.D.Disk.clock) g.D.Disk.settled c.args.number c.args.keep c.args.nodes.now c.args.flying.now c.args.book.now c.requires.ready c.requires.room c.in-Some.letter.now (sym c.in-Some.ensures.is) (record { order = c.in-Some.ensures.order; mail = c.requires.mail c.in-Some.letter.now (sym c.in-Some.ensures.is) })
      (ap (nat_le letters_end) (sym c.sent.ensures) ∙ sym c.is_worn.ensures ∙ c.if-is_worn.false) c.hear_in-heard.new.nodes c.hear_in-heard.result c.hear_in-heard.ensures.hears;
}

pub end_post-requires-clause-works : goal.end_post-requires-clause-works
end_post-requires-clause-works g c = noted_ready (view_of g.D.Disk.seen g.D.Disk.faults g.D.Disk.clock) c.hear_in-heard.new.nodes.plan c.in-Some.letter.now (mishap_of c.in-Some.letter.now.body c.hear_in-heard.result) c.hear_in-heard.new.nodes c.note_handed.new.nodes refl c.note_handed.ensures
    (handed_ready (view_of g.D.Disk.seen g.D.Disk.faults g.D.Disk.clock) g.D.Disk.settled c.args.number c.args.keep c.args.nodes.now c.args.flying.now c.args.book.now c.requires.ready c.requires.room c.in-Some.letter.now (sym c.in-Some.ensures.is) (record { order = c.in-Some.ensures.order; mail = c.requires.mail c.in-Some.letter.now (sym c.in-Some.ensures.is) })
    (ap (nat_le letters_end) (sym c.sent.ensures) ∙ sym c.is_worn.ensures ∙ c.if-is_worn.false) c.hear_in-heard.new.nodes c.hear_in-heard.result c.hear_in-heard.ensures.hears)

pub end_post-requires-clause-within : goal.end_post-requires-clause-within
end_post-requires-clause-within g c = ends_within (view_of g.D.Disk.seen g.D.Disk.faults g.D.Disk.clock) g.D.Disk.settled c.args.number c.args.keep c.args.nodes.now c.args.flying.now c.args.book.now c.requires.ready c.requires.room c.in-Some.letter.now (sym c.in-Some.ensures.is) (record { order = c.in-Some.ensures.order; mail = c.requires.mail c.in-Some.letter.now (sym c.in-Some.ensures.is) })
    (ap (nat_le letters_end) (sym c.sent.ensures) ∙ sym c.is_worn.ensures ∙ c.if-is_worn.false) c.hear_in-heard.new.nodes
    c.receiver_of-node.result c.receiver_of-node.ensures c.hear_in-heard.result c.hear_in-heard.ensures.hears c.note_handed.new.nodes c.note_handed.ensures

pub end_post-requires-clause-room : goal.end_post-requires-clause-room
end_post-requires-clause-room g c = handed_room (view_of g.D.Disk.seen g.D.Disk.faults g.D.Disk.clock) g.D.Disk.settled c.args.number c.args.keep c.args.nodes.now c.args.flying.now c.args.book.now c.requires.ready c.requires.room c.in-Some.letter.now (sym c.in-Some.ensures.is) (record { order = c.in-Some.ensures.order; mail = c.requires.mail c.in-Some.letter.now (sym c.in-Some.ensures.is) })
    (ap (nat_le letters_end) (sym c.sent.ensures) ∙ sym c.is_worn.ensures ∙ c.if-is_worn.false) c.hear_in-heard.new.nodes c.hear_in-heard.result c.hear_in-heard.ensures.hears

pub end_post-requires-clause-fit : goal.end_post-requires-clause-fit
end_post-requires-clause-fit g c = handed_fit (view_of g.D.Disk.seen g.D.Disk.faults g.D.Disk.clock) g.D.Disk.settled c.args.number c.args.keep c.args.nodes.now c.args.flying.now c.args.book.now c.requires.ready c.requires.room c.in-Some.letter.now (sym c.in-Some.ensures.is) (record { order = c.in-Some.ensures.order; mail = c.requires.mail c.in-Some.letter.now (sym c.in-Some.ensures.is) })
    (ap (nat_le letters_end) (sym c.sent.ensures) ∙ sym c.is_worn.ensures ∙ c.if-is_worn.false) c.hear_in-heard.new.nodes c.hear_in-heard.result c.hear_in-heard.ensures.hears c.hear_in-heard.ensures.fits

pub returns-clause-did : goal.returns-clause-did
returns-clause-did g c = (ended_did (view_of g.D.Disk.seen g.D.Disk.faults g.D.Disk.clock) g.D.Disk.settled c.args.number c.args.keep c.args.nodes.now c.args.flying.now c.args.book.now c.requires.ready c.requires.room c.in-Some.letter.now (sym c.in-Some.ensures.is) (record { order = c.in-Some.ensures.order; mail = c.requires.mail c.in-Some.letter.now (sym c.in-Some.ensures.is) })
    (ap (nat_le letters_end) (sym c.sent.ensures) ∙ sym c.is_worn.ensures ∙ c.if-is_worn.false) c.hear_in-heard.new.nodes c.end_post.new.nodes c.end_post.new.flying c.end_post.new.book
    c.receiver_of-node.result c.receiver_of-node.ensures c.out_of-2.result c.out_of-2.ensures c.hear_in-heard.result c.end_post.result c.hear_in-heard.ensures.hears
    c.note_handed.new.nodes c.note_handed.ensures c.end_post.ensures).did

pub returns-clause-ready : goal.returns-clause-ready
returns-clause-ready g c = (ended_did (view_of g.D.Disk.seen g.D.Disk.faults g.D.Disk.clock) g.D.Disk.settled c.args.number c.args.keep c.args.nodes.now c.args.flying.now c.args.book.now c.requires.ready c.requires.room c.in-Some.letter.now (sym c.in-Some.ensures.is) (record { order = c.in-Some.ensures.order; mail = c.requires.mail c.in-Some.letter.now (sym c.in-Some.ensures.is) })
    (ap (nat_le letters_end) (sym c.sent.ensures) ∙ sym c.is_worn.ensures ∙ c.if-is_worn.false) c.hear_in-heard.new.nodes c.end_post.new.nodes c.end_post.new.flying c.end_post.new.book
    c.receiver_of-node.result c.receiver_of-node.ensures c.out_of-2.result c.out_of-2.ensures c.hear_in-heard.result c.end_post.result c.hear_in-heard.ensures.hears
    c.note_handed.new.nodes c.note_handed.ensures c.end_post.ensures).ready

pub returns-clause-settled : goal.returns-clause-settled
returns-clause-settled g c = (ended_did (view_of g.D.Disk.seen g.D.Disk.faults g.D.Disk.clock) g.D.Disk.settled c.args.number c.args.keep c.args.nodes.now c.args.flying.now c.args.book.now c.requires.ready c.requires.room c.in-Some.letter.now (sym c.in-Some.ensures.is) (record { order = c.in-Some.ensures.order; mail = c.requires.mail c.in-Some.letter.now (sym c.in-Some.ensures.is) })
    (ap (nat_le letters_end) (sym c.sent.ensures) ∙ sym c.is_worn.ensures ∙ c.if-is_worn.false) c.hear_in-heard.new.nodes c.end_post.new.nodes c.end_post.new.flying c.end_post.new.book
    c.receiver_of-node.result c.receiver_of-node.ensures c.out_of-2.result c.out_of-2.ensures c.hear_in-heard.result c.end_post.result c.hear_in-heard.ensures.hears
    c.note_handed.new.nodes c.note_handed.ensures c.end_post.ensures).settled

pub returns-clause-spare : goal.returns-clause-spare
returns-clause-spare g c = (ended_did (view_of g.D.Disk.seen g.D.Disk.faults g.D.Disk.clock) g.D.Disk.settled c.args.number c.args.keep c.args.nodes.now c.args.flying.now c.args.book.now c.requires.ready c.requires.room c.in-Some.letter.now (sym c.in-Some.ensures.is) (record { order = c.in-Some.ensures.order; mail = c.requires.mail c.in-Some.letter.now (sym c.in-Some.ensures.is) })
    (ap (nat_le letters_end) (sym c.sent.ensures) ∙ sym c.is_worn.ensures ∙ c.if-is_worn.false) c.hear_in-heard.new.nodes c.end_post.new.nodes c.end_post.new.flying c.end_post.new.book
    c.receiver_of-node.result c.receiver_of-node.ensures c.out_of-2.result c.out_of-2.ensures c.hear_in-heard.result c.end_post.result c.hear_in-heard.ensures.hears
    c.note_handed.new.nodes c.note_handed.ensures c.end_post.ensures).spare

pub returns-clause-installs : goal.returns-clause-installs
returns-clause-installs g c =
    post_adds_none (view_of g.D.Disk.seen g.D.Disk.faults g.D.Disk.clock) c.note_handed.new.nodes.plan c.receiver_of-node.result c.out_of-2.result c.hear_in-heard.result c.end_post.result
    c.note_handed.new.nodes c.args.flying.now c.args.book.now c.end_post.new.nodes c.end_post.new.flying c.end_post.new.book c.end_post.ensures
