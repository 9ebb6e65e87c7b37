use Rattle.std.proofs.Common.{◌∙◌, sym, ap, subst}
use Rattle.node_store.specs.Disks.{view_of}
use Rattle.cluster_world.specs.Lives.{is_up_life}
use Rattle.cluster_world.specs.Reading.{flying_of}
use Rattle.cluster_world.specs.ReadPosts.{EndsRead}
use Rattle.cluster_world.specs.Worlds.{life_among}
use Rattle.cluster_world.proofs.Posting.{no_letter_posted}
use Rattle.cluster_world.proofs.ReadHands.{nobody_handed, all_handed, mid_works, heard_fits, room_for_fall, up_within}
use Rattle.cluster_world.proofs.steps.post_read.hand_read.Goals as goal

pub returns-in_default-clause-did : goal.returns-in_default-clause-did
returns-in_default-clause-did g c = λ seconds. no_letter_posted (view_of g.D.Disk.seen g.D.Disk.faults g.D.Disk.clock) c.args.nodes.now (flying_of c.args.roomy.now) seconds c.args.book.now c.args.number c.args.keep (sym c.in_default.ensures.is)

pub returns-then-not-has_up-clause-did : goal.returns-then-not-has_up-clause-did
returns-then-not-has_up-clause-did g c =
    (nobody_handed (view_of g.D.Disk.seen g.D.Disk.faults g.D.Disk.clock) g.D.Disk.settled c.args.nodes.now (flying_of c.args.roomy.now) c.args.book.now c.args.number c.args.keep c.requires.ready c.in-Some.letter.now (sym c.in-Some.ensures.is) (record { rising = c.requires.counted.rising; drawn = c.requires.counted.drawn }) (c.requires.read c.in-Some.letter.now (sym c.in-Some.ensures.is)) c.requires.early c.lose.new.nodes (flying_of c.lose.new.roomy) (ap (λ n. is_up_life (life_among c.args.nodes.now n)) (sym c.receiver_of-node.ensures) ∙ sym c.has_up.ensures ∙ c.if-not-has_up.true) (c.lose.ensures.lost c.in-Some.letter.now (sym c.in-Some.ensures.is))).did

pub returns-then-not-has_up-clause-ready : goal.returns-then-not-has_up-clause-ready
returns-then-not-has_up-clause-ready g c =
    (nobody_handed (view_of g.D.Disk.seen g.D.Disk.faults g.D.Disk.clock) g.D.Disk.settled c.args.nodes.now (flying_of c.args.roomy.now) c.args.book.now c.args.number c.args.keep c.requires.ready c.in-Some.letter.now (sym c.in-Some.ensures.is) (record { rising = c.requires.counted.rising; drawn = c.requires.counted.drawn }) (c.requires.read c.in-Some.letter.now (sym c.in-Some.ensures.is)) c.requires.early c.lose.new.nodes (flying_of c.lose.new.roomy) (ap (λ n. is_up_life (life_among c.args.nodes.now n)) (sym c.receiver_of-node.ensures) ∙ sym c.has_up.ensures ∙ c.if-not-has_up.true) (c.lose.ensures.lost c.in-Some.letter.now (sym c.in-Some.ensures.is))).ready

pub returns-then-not-has_up-clause-settled : goal.returns-then-not-has_up-clause-settled
returns-then-not-has_up-clause-settled g c =
    (nobody_handed (view_of g.D.Disk.seen g.D.Disk.faults g.D.Disk.clock) g.D.Disk.settled c.args.nodes.now (flying_of c.args.roomy.now) c.args.book.now c.args.number c.args.keep c.requires.ready c.in-Some.letter.now (sym c.in-Some.ensures.is) (record { rising = c.requires.counted.rising; drawn = c.requires.counted.drawn }) (c.requires.read c.in-Some.letter.now (sym c.in-Some.ensures.is)) c.requires.early c.lose.new.nodes (flying_of c.lose.new.roomy) (ap (λ n. is_up_life (life_among c.args.nodes.now n)) (sym c.receiver_of-node.ensures) ∙ sym c.has_up.ensures ∙ c.if-not-has_up.true) (c.lose.ensures.lost c.in-Some.letter.now (sym c.in-Some.ensures.is))).settled

pub returns-then-not-has_up-clause-spare : goal.returns-then-not-has_up-clause-spare
returns-then-not-has_up-clause-spare g c =
    (nobody_handed (view_of g.D.Disk.seen g.D.Disk.faults g.D.Disk.clock) g.D.Disk.settled c.args.nodes.now (flying_of c.args.roomy.now) c.args.book.now c.args.number c.args.keep c.requires.ready c.in-Some.letter.now (sym c.in-Some.ensures.is) (record { rising = c.requires.counted.rising; drawn = c.requires.counted.drawn }) (c.requires.read c.in-Some.letter.now (sym c.in-Some.ensures.is)) c.requires.early c.lose.new.nodes (flying_of c.lose.new.roomy) (ap (λ n. is_up_life (life_among c.args.nodes.now n)) (sym c.receiver_of-node.ensures) ∙ sym c.has_up.ensures ∙ c.if-not-has_up.true) (c.lose.ensures.lost c.in-Some.letter.now (sym c.in-Some.ensures.is))).spare

pub end_read-requires-clause-works : goal.end_read-requires-clause-works
end_read-requires-clause-works g c =
    mid_works (view_of g.D.Disk.seen g.D.Disk.faults g.D.Disk.clock) g.D.Disk.settled c.args.nodes.now (flying_of c.args.roomy.now) c.args.book.now c.args.number c.args.keep c.requires.ready c.in-Some.letter.now (sym c.in-Some.ensures.is) (record { rising = c.requires.counted.rising; drawn = c.requires.counted.drawn }) (c.requires.read c.in-Some.letter.now (sym c.in-Some.ensures.is)) c.requires.early c.hear_read_in-heard.result c.hear_read_in-heard.new.nodes c.hear_read_in-heard.ensures.hears

pub end_read-requires-clause-book : goal.end_read-requires-clause-book
end_read-requires-clause-book g c =
    room_for_fall c.args.nodes.now c.args.book.now c.in-Some.letter.now.to (ap (λ n. is_up_life (life_among c.args.nodes.now n)) (sym c.receiver_of-node.ensures) ∙ sym c.has_up.ensures ∙ c.if-not-has_up.false) c.requires.room

pub end_read-requires-clause-one : goal.end_read-requires-clause-one
end_read-requires-clause-one g c =
    let ch = c.hear_read_in-heard.ensures.hears in
    heard_fits (view_of g.D.Disk.seen g.D.Disk.faults g.D.Disk.clock) c.args.nodes.now.plan c.in-Some.letter.now.to ch.does.0.old ch.disk ch.does.0.new ch.disk' c.in-Some.letter.now c.hear_read_in-heard.result ch.does.0.did

pub returns-clause-did : goal.returns-clause-did
returns-clause-did g c =
    (all_handed (view_of g.D.Disk.seen g.D.Disk.faults g.D.Disk.clock) g.D.Disk.settled c.args.nodes.now (flying_of c.args.roomy.now) c.args.book.now c.args.number c.args.keep c.requires.ready c.in-Some.letter.now (sym c.in-Some.ensures.is) (record { rising = c.requires.counted.rising; drawn = c.requires.counted.drawn }) (c.requires.read c.in-Some.letter.now (sym c.in-Some.ensures.is)) c.requires.early (up_within c.args.nodes.now c.in-Some.letter.now.to (ap (λ n. is_up_life (life_among c.args.nodes.now n)) (sym c.receiver_of-node.ensures) ∙ sym c.has_up.ensures ∙ c.if-not-has_up.false)).0 (up_within c.args.nodes.now c.in-Some.letter.now.to (ap (λ n. is_up_life (life_among c.args.nodes.now n)) (sym c.receiver_of-node.ensures) ∙ sym c.has_up.ensures ∙ c.if-not-has_up.false)).1 c.hear_read_in-heard.result c.hear_read_in-heard.new.nodes c.hear_read_in-heard.ensures.hears c.end_read.result c.end_read.new.nodes (flying_of c.end_read.new.roomy) c.end_read.new.book
    (subst (λ n. EndsRead (view_of g.D.Disk.seen g.D.Disk.faults g.D.Disk.clock) c.args.number c.args.keep n c.hear_read_in-heard.result c.end_read.result c.hear_read_in-heard.new.nodes (flying_of c.args.roomy.now) c.args.book.now c.end_read.new.nodes (flying_of c.end_read.new.roomy) c.end_read.new.book) c.receiver_of-node.ensures c.end_read.ensures.ends)).did

pub returns-clause-ready : goal.returns-clause-ready
returns-clause-ready g c =
    (all_handed (view_of g.D.Disk.seen g.D.Disk.faults g.D.Disk.clock) g.D.Disk.settled c.args.nodes.now (flying_of c.args.roomy.now) c.args.book.now c.args.number c.args.keep c.requires.ready c.in-Some.letter.now (sym c.in-Some.ensures.is) (record { rising = c.requires.counted.rising; drawn = c.requires.counted.drawn }) (c.requires.read c.in-Some.letter.now (sym c.in-Some.ensures.is)) c.requires.early (up_within c.args.nodes.now c.in-Some.letter.now.to (ap (λ n. is_up_life (life_among c.args.nodes.now n)) (sym c.receiver_of-node.ensures) ∙ sym c.has_up.ensures ∙ c.if-not-has_up.false)).0 (up_within c.args.nodes.now c.in-Some.letter.now.to (ap (λ n. is_up_life (life_among c.args.nodes.now n)) (sym c.receiver_of-node.ensures) ∙ sym c.has_up.ensures ∙ c.if-not-has_up.false)).1 c.hear_read_in-heard.result c.hear_read_in-heard.new.nodes c.hear_read_in-heard.ensures.hears c.end_read.result c.end_read.new.nodes (flying_of c.end_read.new.roomy) c.end_read.new.book
    (subst (λ n. EndsRead (view_of g.D.Disk.seen g.D.Disk.faults g.D.Disk.clock) c.args.number c.args.keep n c.hear_read_in-heard.result c.end_read.result c.hear_read_in-heard.new.nodes (flying_of c.args.roomy.now) c.args.book.now c.end_read.new.nodes (flying_of c.end_read.new.roomy) c.end_read.new.book) c.receiver_of-node.ensures c.end_read.ensures.ends)).ready

pub returns-clause-settled : goal.returns-clause-settled
returns-clause-settled g c =
    (all_handed (view_of g.D.Disk.seen g.D.Disk.faults g.D.Disk.clock) g.D.Disk.settled c.args.nodes.now (flying_of c.args.roomy.now) c.args.book.now c.args.number c.args.keep c.requires.ready c.in-Some.letter.now (sym c.in-Some.ensures.is) (record { rising = c.requires.counted.rising; drawn = c.requires.counted.drawn }) (c.requires.read c.in-Some.letter.now (sym c.in-Some.ensures.is)) c.requires.early (up_within c.args.nodes.now c.in-Some.letter.now.to (ap (λ n. is_up_life (life_among c.args.nodes.now n)) (sym c.receiver_of-node.ensures) ∙ sym c.has_up.ensures ∙ c.if-not-has_up.false)).0 (up_within c.args.nodes.now c.in-Some.letter.now.to (ap (λ n. is_up_life (life_among c.args.nodes.now n)) (sym c.receiver_of-node.ensures) ∙ sym c.has_up.ensures ∙ c.if-not-has_up.false)).1 c.hear_read_in-heard.result c.hear_read_in-heard.new.nodes c.hear_read_in-heard.ensures.hears c.end_read.result c.end_read.new.nodes (flying_of c.end_read.new.roomy) c.end_read.new.book
    (subst (λ n. EndsRead (view_of g.D.Disk.seen g.D.Disk.faults g.D.Disk.clock) c.args.number c.args.keep n c.hear_read_in-heard.result c.end_read.result c.hear_read_in-heard.new.nodes (flying_of c.args.roomy.now) c.args.book.now c.end_read.new.nodes (flying_of c.end_read.new.roomy) c.end_read.new.book) c.receiver_of-node.ensures c.end_read.ensures.ends)).settled

pub returns-clause-spare : goal.returns-clause-spare
returns-clause-spare g c =
    (all_handed (view_of g.D.Disk.seen g.D.Disk.faults g.D.Disk.clock) g.D.Disk.settled c.args.nodes.now (flying_of c.args.roomy.now) c.args.book.now c.args.number c.args.keep c.requires.ready c.in-Some.letter.now (sym c.in-Some.ensures.is) (record { rising = c.requires.counted.rising; drawn = c.requires.counted.drawn }) (c.requires.read c.in-Some.letter.now (sym c.in-Some.ensures.is)) c.requires.early (up_within c.args.nodes.now c.in-Some.letter.now.to (ap (λ n. is_up_life (life_among c.args.nodes.now n)) (sym c.receiver_of-node.ensures) ∙ sym c.has_up.ensures ∙ c.if-not-has_up.false)).0 (up_within c.args.nodes.now c.in-Some.letter.now.to (ap (λ n. is_up_life (life_among c.args.nodes.now n)) (sym c.receiver_of-node.ensures) ∙ sym c.has_up.ensures ∙ c.if-not-has_up.false)).1 c.hear_read_in-heard.result c.hear_read_in-heard.new.nodes c.hear_read_in-heard.ensures.hears c.end_read.result c.end_read.new.nodes (flying_of c.end_read.new.roomy) c.end_read.new.book
    (subst (λ n. EndsRead (view_of g.D.Disk.seen g.D.Disk.faults g.D.Disk.clock) c.args.number c.args.keep n c.hear_read_in-heard.result c.end_read.result c.hear_read_in-heard.new.nodes (flying_of c.args.roomy.now) c.args.book.now c.end_read.new.nodes (flying_of c.end_read.new.roomy) c.end_read.new.book) c.receiver_of-node.ensures c.end_read.ensures.ends)).spare
