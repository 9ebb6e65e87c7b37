use Rattle.std.proofs.Common.{rules, ◌≡◌, ◌<◌, ◌^◌, List, [], ◌∷◌, subst, sym, arith}
use Rattle.std.proofs.lemmas.Grind.{common_steps}
use Rattle.atomic_table.specs.Table.{opening}
use Rattle.turnstile.specs.Rule.{TableIsSound, first_view}
use Rattle.turnstile.specs.declared.views.Key.{Key}
use Rattle.turnstile.proofs.Keeps.{silent, starts}
use Rattle.turnstile.proofs.lock.Turnstile.new.Goals as goal

pub new-requires : goal.new-requires
new-requires g c = let key : Key g.row.V.Denot = record { first_value = c.of.result; passes = c.args.passes } in
    let items : c.push.new.self.items ≡ c.args.value ∷ [] = first_of (search rules, grind (arith, common_steps)) in
    let few : c.args.passes < 2 ^ 32 = first_of (search rules, grind (arith, common_steps)) in
    subst (λ (xs : List g.row.V.Denot). TableIsSound g.V.Counted.history g.V.Counted.keeps key (opening (0 ∷ 0 ∷ c.count-count.result ∷ silent) xs (first_view g.V.Counted.history key))) (sym items)
    (starts g.V.Counted.history g.V.Counted.keeps key c.args.value c.count-count.result (sym c.of.ensures) c.count-count.ensures (g.met.V.Counted.stays c.args.value) few)
