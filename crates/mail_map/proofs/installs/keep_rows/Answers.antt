use Rattle.std.proofs.Common.{rules, ap, sym, ◌∙◌}
use Rattle.std.specs.Map.{lookup}
use Rattle.std.specs.BTreeMap.{is_at}
use Rattle.std.proofs.lemmas.Map.Made.{filter_same_pairs}
use Rattle.std.proofs.lemmas.Map.Entries.{lookup-filter-keys}
use Rattle.mail_map.specs.Tellers.{Teller, teller_cmp}
use Rattle.mail_map.specs.Installs.{comes}
use Rattle.mail_map.proofs.Retained.{same_teller}
use Rattle.mail_map.proofs.installs.keep_rows.Goals as goal

pub returns : goal.returns
returns c = λ n boot.
    let teller : Teller = record { node = n; boot = boot } in
    ap (lookup (is_at (teller_cmp teller))) (filter_same_pairs _ (λ e. comes c.args.members.now e.0.node e.0.boot c.args.was) _ (λ k v b w f' t. search rules) c.args.rows.now.entries c.retain.new.self.entries c.retain.ensures.filtered)
    ∙ lookup-filter-keys (is_at (teller_cmp teller)) (λ k. comes c.args.members.now k.node k.boot c.args.was) (comes c.args.members.now n boot c.args.was)
    (λ k same. ap (λ (t : Teller). comes c.args.members.now t.node t.boot c.args.was) (sym (same_teller teller k same))) c.args.rows.now.entries
