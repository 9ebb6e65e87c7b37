use Rattle.std.proofs.Common.{◌++◌, codes}
use Rattle.std.specs.Fmt.{decimal}
use Rattle.storm_maker.specs.Tape.{at, say}
use Rattle.storm_maker.proofs.Joined.{seven}
use Rattle.storm_maker.proofs.texts.add_reading.Goals as goal

pub returns : goal.returns
returns c =
    let k = c.args.session in
    let user = decimal c.args.user in
    seven c.args.out.now.items (at (codes "open pop") c.args.node) (say k (codes "USER u" ++ user)) (say k (codes "PASS s" ++ user)) (codes "flow")
    (say k (codes "DELE 1")) (say k (codes "QUIT")) (codes "flow")
    c.add_at.new.out.items c.add_numbered.new.out.items c.add_numbered-2.new.out.items c.add_line.new.out.items c.add_say.new.out.items c.add_say-2.new.out.items c.add_line-2.new.out.items
    c.in_ok-add_at.ensures c.in_ok-add_numbered.ensures c.in_ok-add_numbered-2.ensures c.in_ok-add_line.ensures c.in_ok-add_say.ensures c.in_ok-add_say-2.ensures c.in_ok-add_line-2.ensures
