use Rattle.std.proofs.Common.{◌++◌, codes}
use Rattle.std.specs.Fmt.{decimal}
use Rattle.storm_maker.specs.Tape.{at, say}
use Rattle.storm_maker.proofs.Joined.{nine}
use Rattle.storm_maker.proofs.texts.add_message.Goals as goal

pub returns : goal.returns
returns c =
    let k = c.args.session in
    nine c.args.out.now.items (at (codes "open smtp") c.args.node) (say k (codes "HELO storm")) (say k (codes "MAIL FROM:<>"))
    (say k (codes "RCPT TO:<u" ++ decimal c.args.user ++ codes ">")) (say k (codes "DATA")) (say k (decimal c.args.number)) (say k (codes ".")) (codes "flow") (say k (codes "QUIT"))
    c.add_at.new.out.items c.add_say.new.out.items c.add_say-2.new.out.items c.add_recipient.new.out.items c.add_say-3.new.out.items
    c.add_numbered.new.out.items c.add_say-4.new.out.items c.add_line.new.out.items c.add_say-5.new.out.items
    c.in_ok-add_at.ensures c.in_ok-add_say.ensures c.in_ok-add_say-2.ensures c.in_ok-add_recipient.ensures c.in_ok-add_say-3.ensures
    c.in_ok-add_numbered.ensures c.in_ok-add_say-4.ensures c.in_ok-add_line.ensures c.in_ok-add_say-5.ensures
