use Rattle.std.proofs.Common.{◌≡◌, refl, sym, ap, subst, ◌∙◌, ◌-◌, ℕ, List, Some, min, length}
use Rattle.std.proofs.lemmas.Result.{err_from_is_err_and}
use Rattle.message_store.specs.Places.{place_of, count_at}
use Rattle.node_store.specs.Reads.{part_in, GivesWanted}
use Rattle.node_store.proofs.Fetched.{is_placed, has_place, none_given, lent_back, part_given, part_refused}
use Rattle.node_store.proofs.store.NodeStore.octets_part.Goals as goal

pub returns-in_default-clause-read : goal.returns-in_default-clause-read
returns-in_default-clause-read g c = (
  none_given (g.D.Disk.seen c.args.disk.now) c.args.self.now c.args.id c.args.from c.args.most (sym c.in_default.is ∙ c.length.ensures),
  refl,
)

pub fetch_all-requires : goal.fetch_all-requires
fetch_all-requires g c = record { stored = is_placed (place_of c.args.self.now.messages c.args.id) c.in-Some.length c.in-Some.ensures }

pub returns-in_err-fetch_all-clause-read : goal.returns-in_err-fetch_all-clause-read
returns-in_err-fetch_all-clause-read g c =
    let p = err_from_is_err_and c.from_residual-in_err-fetch_all.result c.from_residual-in_err-fetch_all.ensures.1 in
    let h = has_place (place_of c.args.self.now.messages c.args.id) c.in-Some.length c.in-Some.ensures in
    rw (p.1, p.2) (part_refused (g.D.Disk.seen c.args.disk.now) c.args.self.now c.args.id c.args.from c.args.most _ h.there _ _ _ h.is c.in_err-fetch_all.ensures.fetched)

pub returns-clause-read : goal.returns-clause-read
returns-clause-read g c =
    let h = has_place (place_of c.args.self.now.messages c.args.id) c.in-Some.length c.in-Some.ensures in
    let f = c.in_ok-fetch_all.ensures.fetched in
    let lent : length c.fetch_all.new.into ≡ length c.in_ok-octets.octets.items = c.fetch_all.ensures.length ∙ ap length c.deref_mut.ensures.value in
    let size : length c.fetch_all.new.into ≡ min c.args.most (count_at h.there - c.args.from) =
    lent ∙ c.in_ok-octets.ensures ∙ c.part_length.ensures ∙ ap (λ (n : ℕ). min c.args.most (n - c.args.from)) h.many in (
      subst (λ (l : List ℕ). GivesWanted (g.D.Disk.seen c.args.disk.now) c.args.self.now (part_in c.args.id c.args.from c.args.most) (Some l))
          (sym (lent_back c.fetch_all.new.into c.in_ok-octets.octets.items c.in_ok-octets.octets.len c.in_ok-octets.octets.ok.0 lent))
          (part_given (g.D.Disk.seen c.args.disk.now) c.args.self.now c.args.id c.args.from c.args.most h.there c.fetch_all.new.into h.is size (f.0 h.there h.is)),
      f.1,
    )
