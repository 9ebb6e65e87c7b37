use Rattle.std.proofs.Common.{◌∙◌, sym}
use Rattle.whole_node.proofs.Found.{over_has}
use Rattle.whole_node.proofs.starting.maps_over.Goals as goal

pub returns-clause-has_maps : goal.returns-clause-has_maps
returns-clause-has_maps c =
    over_has c.args.mail.now c.args.promise c.args.users.now c.new-maps.result c.find_users.new.maps c.requires.whole.boot c.requires.without c.requires.named (c.new-maps.ensures.own ∙ c.own.ensures)
    (λ image boot promise. c.new-maps.ensures.node image (boot ∙ sym c.boot.ensures) promise) c.new-maps.ensures.holds c.find_users.ensures.node c.find_users.ensures.own c.in_ok-find_users.ensures.here

pub returns-clause-starts : goal.returns-clause-starts
returns-clause-starts c = λ image boot promise. c.find_users.ensures.node ∙ c.new-maps.ensures.node image (boot ∙ sym c.boot.ensures) promise
