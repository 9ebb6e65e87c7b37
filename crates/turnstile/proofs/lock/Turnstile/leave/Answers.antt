use Rattle.std.proofs.Common.{[], ap, subst, sym, ◌∙◌, arith}
use Rattle.turnstile.specs.Lists.{IsSubsequence, AreSubsequences}
use Rattle.turnstile.proofs.Keeps.{adds, leaves}
use Rattle.turnstile.proofs.lock.Turnstile.leave.Goals as goal

pub fetch_add-requires : goal.fetch_add-requires
fetch_add-requires g c = let x = c.requires.0 in let f = c.requires.1 in let n = c.args.self.now.counts.0 in let i = f.inside in
    (f.table, omega arith, adds g.V.Counted.history g.V.Counted.keeps _ _ _ _ _ x (omega arith) f.hand f.grows f.counted f.fits)

pub fetch_add-served-requires : goal.fetch_add-served-requires
fetch_add-served-requires g c = let x = c.requires.0 in let f = c.requires.1 in let n = c.args.self.now.counts.0 in
    let told = c.fetch_add.ensures in let e = told.2.1 x f.hand in let i = ap (λ v. v.inside) e ∙ f.inside in (
      told.0 ∙ f.table,
      omega arith,
      leaves g.V.Counted.history g.V.Counted.keeps _ _ _ _ x (ap (λ v. v.waits) e ∙ f.waits) (omega arith) (told.2.0 ∙ f.hand) (ap (λ v. v.seen) e) f.same,
    )

pub returns : goal.returns
returns g c = let x = c.requires.0 in let f = c.requires.1 in let told = c.fetch_add.ensures in let told' = c.fetch_add-served.ensures in let last = c.call_next.ensures in let e = told.2.1 x f.hand in record {
  new = x;
  table = last.0 ∙ (told'.0 ∙ told.0);
  had = f.hand;
  me = last.1 ∙ (told'.2 ∙ ap (λ v. (record v { waits = 0; inside = 0 }, [])) e);
  stand = subst (λ m. IsSubsequence m.0.own m.0.seen × AreSubsequences m.0.joined m.0.seen) (sym (last.1 ∙ told'.2)) (told.2.2, told.2.3);
}
