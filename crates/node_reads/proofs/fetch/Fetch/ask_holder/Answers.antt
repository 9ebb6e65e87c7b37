use Rattle.std.proofs.Common.{◌≡◌, ◌≤◌, ℕ, List, [], ◌∷◌, Some, sym, ap, ◌∙◌, subst}
use Rattle.object_model.specs.Sets.{count_in}
use Rattle.object_model.specs.Letters.{Letter}
use Rattle.object_model.specs.Letters.Body.{FetchAsk}
use Rattle.login_model.specs.Readings.{Fetch}
use Rattle.login_model.specs.Readings.FetchStage.{AsksHolder}
use Rattle.login_model.specs.Rules.{ask}
use Rattle.login_model.specs.Progress.{fetch_chances}
use Rattle.node_reads.specs.Readings.{fetch_did, asks_first, HasSpares}
use Rattle.node_reads.specs.FetchStages.{fetch_stage_seen}
use Rattle.node_reads.proofs.Spares.{some_left, fewer_left, all_but_one}
use Rattle.node_reads.proofs.fetch.Fetch.ask_holder.Goals as goal

pub take_one-user-requires : goal.take_one-user-requires
take_one-user-requires c =
    let s = c.self.inside in
    some_left (fetch_stage_seen s.stage) s.user s.spares.items c.args.left c.args.holder c.self.invariant
    (subst (λ (f : Fetch). count_in c.args.left ≤ fetch_chances f.stage) (sym c.self.view_is) c.requires.enough) c.requires.inside

pub invariant_of-self : goal.invariant_of-self
invariant_of-self c =
    let s = c.self.inside in
    let rest = c.take_one-user.new.names.items in
    subst (λ (m : ℕ). HasSpares (AsksHolder c.args.holder m) s.user rest) (sym c.without.ensures.mask)
    (fewer_left (fetch_stage_seen s.stage) s.user s.spares.items rest c.take_one-user.result c.args.left c.args.holder c.self.invariant c.take_one-user.ensures
    (subst (λ (f : Fetch). count_in c.args.left ≤ fetch_chances f.stage) (sym c.self.view_is) c.requires.enough) c.requires.inside)

pub returns : goal.returns
returns c =
    let s = c.self.inside in
    let u = c.args.u.now in
    let fetch : Fetch = record { user = s.user; id = s.id; at = s.from; most = s.most; stage = fetch_stage_seen s.stage } in
    let one : c.take_one-user.result ≡ s.user = all_but_one (fetch_stage_seen s.stage) s.user s.spares.items c.take_one-user.new.names.items c.take_one-user.result c.self.invariant c.take_one-user.ensures in
    ap (λ (l : Letter). fetch_did (record fetch { stage = AsksHolder c.args.holder c.without.result }) (l ∷ []))
    (c.ask.ensures ∙ ap (λ (n : List ℕ). ask u c.args.holder (FetchAsk n s.id s.from s.most)) one)
    ∙ ap (λ (m : ℕ). fetch_did (record fetch { stage = AsksHolder c.args.holder m }) (ask u c.args.holder (FetchAsk s.user s.id s.from s.most) ∷ [])) c.without.ensures.mask
    ∙ ap (λ (f : Fetch). asks_first u f c.args.left (Some c.args.holder)) c.self.view_is
