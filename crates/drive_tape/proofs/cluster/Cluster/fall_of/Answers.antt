use Rattle.std.proofs.Common.{◌≡◌, ◌≢◌, ◌<◌, length, refl, arith}
use Rattle.std.proofs.lemmas.Bool.Decides.{nat_tests}
use Rattle.std.proofs.lemmas.Option.{slice_get_read}
use Rattle.drive_tape.proofs.Talks.{found_at}
use Rattle.drive_tape.proofs.Works.{work_none}
use Rattle.drive_tape.proofs.Places.{node_is}
use Rattle.drive_tape.proofs.Falling.{passed_by}
use Rattle.drive_tape.proofs.cluster.Cluster.fall_of.Goals as goal

pub returns-then-number-clause-fell : goal.returns-then-number-clause-fell
returns-then-number-clause-fell g c start plan p onward f held =
    let got = found_at c.args.self.now.sessions.talkers.items p.sessions c.args.place f.talks c.requires.within in
    let inside : c.args.place < length c.args.self.now.sessions.nodes.items = rw c.requires.even.nodes c.requires.within in
    let own = node_is p.sessions c.args.self.now.sessions.nodes.items c.args.place _ got.0 f.nodes got.1 (slice_get_read _ _ _ _ refl inside c.index.ensures) in
    let other : got.0.node ≢ c.args.node = (λ same. absurd (grind (arith, nat_tests, c.if-number.true, c.number.ensures.number, c.number-2.ensures.number, own, same))) in
    (p, work_none plan p, held, passed_by _ start plan p c.args.place c.args.node onward c.args.self.now got.0 got.1 other f)

pub returns-clause-fell : goal.returns-clause-fell
returns-clause-fell g c start plan p onward f held =
    let got = found_at c.args.self.now.sessions.talkers.items p.sessions c.args.place f.talks c.requires.within in
    let inside : c.args.place < length c.args.self.now.sessions.nodes.items = rw c.requires.even.nodes c.requires.within in
    let own = node_is p.sessions c.args.self.now.sessions.nodes.items c.args.place _ got.0 f.nodes got.1 (slice_get_read _ _ _ _ refl inside c.index.ensures) in
    let same : got.0.node ≡ c.args.node = grind (arith, nat_tests, c.if-number.false, c.number.ensures.number, c.number-2.ensures.number, own) in
    c.fall_at.ensures.fell start plan p c.args.node onward (record { falling = f; plain = got.0; here = got.1; own = same }) held
