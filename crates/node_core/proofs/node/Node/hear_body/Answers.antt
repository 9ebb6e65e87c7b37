use Rattle.std.proofs.Common.{◌≡◌, ⊎_elim, ℕ, List, [], ◌∷◌, sym, ap, refl, ◌∙◌}
use Rattle.std.proofs.lemmas.Result.{err_from_is_err_and}
use Rattle.object_model.specs.Letters as plain
use Rattle.object_model.specs.Letters.Body.{File, Strike, Push, PushAck}
use Rattle.mail_base.specs.declared.body.Body.TheVariants.{Filed, LoginAsk, LoginTold, ListAsk, ListTold, FetchAsk, FetchTold, StrikeTold, Unlock, Group, Join, Install, Report, ReportAck}
use Rattle.mail_base.specs.Seen.{key_seen}
use Rattle.mail_base.specs.Bodies.{body_seen}
use Rattle.cluster_model.specs.Rules.{answer, hear_file, hear_strike, hear_push, hear_ack}
use Rattle.node_store.specs.Disks.{view_of}
use Rattle.node_core.specs.Answering.{answers_to}
use Rattle.node_core.proofs.Heard.{heard_did, heard_stopped, heard_sent, silent_did, told_did}
use Rattle.node_core.proofs.node.Node.hear_body.Goals as goal

pub returns-in_err-hear_file-in-File-clause-wrote : goal.returns-in_err-hear_file-in-File-clause-wrote
returns-in_err-hear_file-in-File-clause-wrote g c =
    let on = view_of g.D.Disk.seen g.D.Disk.faults g.D.Disk.clock in
    let p = err_from_is_err_and c.from_residual.result c.from_residual.ensures.1 in
    let own = c.args.self.now.store.own in
    let nodes = c.args.self.now.shape.nodes in
    let letter = c.args.letter.now in
    let is : letter.body ≡ File c.in-File.id c.in-File.stamp c.in-File.targets c.in-File.users c.in-File.octets = sym (ap (λ (l : plain.Letter). l.body) c.letter.view_is) ∙ ap body_seen c.in-File.is in
    let w = c.in_err-hear_file-in-File.ensures.wrote letter in
    rw (p.1, p.2) (
      heard_stopped on own nodes letter c.args.self.now c.args.disk.now _ (λ node disk. hear_file own node disk letter c.in-File.id c.in-File.stamp c.in-File.targets c.as_slice.result.now c.as_slice-in-File.result.now)
          (File c.in-File.id c.in-File.stamp c.in-File.targets c.in-File.users c.in-File.octets) is (λ node disk. ap (λ u. hear_file own node disk letter c.in-File.id c.in-File.stamp c.in-File.targets u c.as_slice-in-File.result.now) c.as_slice.ensures ∙ ap (λ (o : List ℕ). hear_file own node disk letter c.in-File.id c.in-File.stamp c.in-File.targets c.in-File.users o) c.as_slice-in-File.ensures) w.0,
      w.1,
    )

pub returns-in_err-hear_strike-in-Strike-clause-wrote : goal.returns-in_err-hear_strike-in-Strike-clause-wrote
returns-in_err-hear_strike-in-Strike-clause-wrote g c =
    let on = view_of g.D.Disk.seen g.D.Disk.faults g.D.Disk.clock in
    let p = err_from_is_err_and c.from_residual-in_err-hear_strike-in-Strike.result c.from_residual-in_err-hear_strike-in-Strike.ensures.1 in
    let own = c.args.self.now.store.own in
    let nodes = c.args.self.now.shape.nodes in
    let letter = c.args.letter.now in
    let is : letter.body ≡ Strike c.in-Strike.user c.in-Strike.marks = sym (ap (λ (l : plain.Letter). l.body) c.letter.view_is) ∙ ap body_seen c.in-Strike.is in
    let w = c.in_err-hear_strike-in-Strike.ensures.wrote letter in
    rw (p.1, p.2) (
      heard_stopped on own nodes letter c.args.self.now c.args.disk.now _ (λ node disk. hear_strike own nodes node disk letter c.in-Strike.user c.as_slice-in-Strike.result.now)
          (Strike c.in-Strike.user c.in-Strike.marks) is (λ node disk. ap (λ m. hear_strike own nodes node disk letter c.in-Strike.user m) c.as_slice-in-Strike.ensures) w.0,
      w.1,
    )

pub returns-in_err-hear_push-in-Push-clause-wrote : goal.returns-in_err-hear_push-in-Push-clause-wrote
returns-in_err-hear_push-in-Push-clause-wrote g c =
    let on = view_of g.D.Disk.seen g.D.Disk.faults g.D.Disk.clock in
    let p = err_from_is_err_and c.from_residual-in_err-hear_push-in-Push.result c.from_residual-in_err-hear_push-in-Push.ensures.1 in
    let own = c.args.self.now.store.own in
    let nodes = c.args.self.now.shape.nodes in
    let letter = c.args.letter.now in
    let is : letter.body ≡ Push (key_seen c.in-Push.key) c.in-Push.state c.in-Push.octets = sym (ap (λ (l : plain.Letter). l.body) c.letter.view_is) ∙ ap body_seen c.in-Push.is in
    let w = c.in_err-hear_push-in-Push.ensures.wrote letter in
    rw (p.1, p.2) (heard_stopped on own nodes letter c.args.self.now c.args.disk.now _ (λ node disk. hear_push own node disk letter (key_seen c.in-Push.key) c.in-Push.state c.in-Push.octets) (Push (key_seen c.in-Push.key) c.in-Push.state c.in-Push.octets) is (λ node disk. refl) w.0, w.1)

pub returns-in_ok-hear_file-in-File-clause-wrote : goal.returns-in_ok-hear_file-in-File-clause-wrote
returns-in_ok-hear_file-in-File-clause-wrote g c =
    let on = view_of g.D.Disk.seen g.D.Disk.faults g.D.Disk.clock in
    let own = c.args.self.now.store.own in
    let nodes = c.args.self.now.shape.nodes in
    let letter = c.args.letter.now in
    let is : letter.body ≡ File c.in-File.id c.in-File.stamp c.in-File.targets c.in-File.users c.in-File.octets = sym (ap (λ (l : plain.Letter). l.body) c.letter.view_is) ∙ ap body_seen c.in-File.is in
    let w = c.in_ok-hear_file-in-File.ensures.wrote letter in
    heard_did on own nodes letter c.args.self.now c.args.disk.now _ (λ node disk. hear_file own node disk letter c.in-File.id c.in-File.stamp c.in-File.targets c.as_slice.result.now c.as_slice-in-File.result.now)
    (File c.in-File.id c.in-File.stamp c.in-File.targets c.in-File.users c.in-File.octets) is (λ node disk. ap (λ u. hear_file own node disk letter c.in-File.id c.in-File.stamp c.in-File.targets u c.as_slice-in-File.result.now) c.as_slice.ensures ∙ ap (λ (o : List ℕ). hear_file own node disk letter c.in-File.id c.in-File.stamp c.in-File.targets c.in-File.users o) c.as_slice-in-File.ensures) _ (answer letter (plain.Body.Filed c.in-File.id) ∷ []) _
    (c.requires.answers ∙ ap (answers_to letter) is) w

pub returns-in_ok-hear_strike-in-Strike-clause-wrote : goal.returns-in_ok-hear_strike-in-Strike-clause-wrote
returns-in_ok-hear_strike-in-Strike-clause-wrote g c =
    let on = view_of g.D.Disk.seen g.D.Disk.faults g.D.Disk.clock in
    let own = c.args.self.now.store.own in
    let nodes = c.args.self.now.shape.nodes in
    let letter = c.args.letter.now in
    let is : letter.body ≡ Strike c.in-Strike.user c.in-Strike.marks = sym (ap (λ (l : plain.Letter). l.body) c.letter.view_is) ∙ ap body_seen c.in-Strike.is in
    let w = c.in_ok-hear_strike-in-Strike.ensures.wrote letter in
    heard_did on own nodes letter c.args.self.now c.args.disk.now _ (λ node disk. hear_strike own nodes node disk letter c.in-Strike.user c.as_slice-in-Strike.result.now)
    (Strike c.in-Strike.user c.in-Strike.marks) is (λ node disk. ap (λ m. hear_strike own nodes node disk letter c.in-Strike.user m) c.as_slice-in-Strike.ensures) _ (answers_to letter (Strike c.in-Strike.user c.as_slice-in-Strike.result.now)) _
    (c.requires.answers ∙ ap (answers_to letter) is ∙ ap (λ m. answers_to letter (Strike c.in-Strike.user m)) (sym c.as_slice-in-Strike.ensures)) w

pub returns-in_ok-hear_push-in-Push-clause-wrote : goal.returns-in_ok-hear_push-in-Push-clause-wrote
returns-in_ok-hear_push-in-Push-clause-wrote g c =
    let on = view_of g.D.Disk.seen g.D.Disk.faults g.D.Disk.clock in
    let own = c.args.self.now.store.own in
    let nodes = c.args.self.now.shape.nodes in
    let letter = c.args.letter.now in
    let is : letter.body ≡ Push (key_seen c.in-Push.key) c.in-Push.state c.in-Push.octets = sym (ap (λ (l : plain.Letter). l.body) c.letter.view_is) ∙ ap body_seen c.in-Push.is in
    let w = c.in_ok-hear_push-in-Push.ensures.wrote letter in
    heard_did on own nodes letter c.args.self.now c.args.disk.now _ (λ node disk. hear_push own node disk letter (key_seen c.in-Push.key) c.in-Push.state c.in-Push.octets) (Push (key_seen c.in-Push.key) c.in-Push.state c.in-Push.octets) is (λ node disk. refl) _ (answer letter (PushAck (key_seen c.in-Push.key) c.in-Push.state) ∷ []) _
    (c.requires.answers ∙ ap (answers_to letter) is) w

pub returns-in-PushAck-clause-wrote : goal.returns-in-PushAck-clause-wrote
returns-in-PushAck-clause-wrote g c =
    let on = view_of g.D.Disk.seen g.D.Disk.faults g.D.Disk.clock in
    let own = c.args.self.now.store.own in
    let nodes = c.args.self.now.shape.nodes in
    let letter = c.args.letter.now in
    let is : letter.body ≡ PushAck (key_seen c.in-PushAck.key) c.in-PushAck.state = sym (ap (λ (l : plain.Letter). l.body) c.letter.view_is) ∙ ap body_seen c.in-PushAck.is in
    heard_sent on own nodes letter c.args.self.now c.args.disk.now _ (λ node disk. hear_ack own nodes node disk (key_seen c.in-PushAck.key) c.in-PushAck.state c.letter.inside.from) (PushAck (key_seen c.in-PushAck.key) c.in-PushAck.state) is
    (λ node disk. ap (λ (l : plain.Letter). hear_ack own nodes node disk (key_seen c.in-PushAck.key) c.in-PushAck.state l.from) c.letter.view_is) c.hear_ack.result _ c.hear_ack.ensures.wrote

pub returns-in-LoginAsk-clause-wrote : goal.returns-in-LoginAsk-clause-wrote
returns-in-LoginAsk-clause-wrote g c =
    let on = view_of g.D.Disk.seen g.D.Disk.faults g.D.Disk.clock in
    let letter = c.args.letter.now in
    let quiet = silent_did on letter c.args.self.now c.args.disk.now c.requires.works c.letter.inside.body (sym (ap (λ (l : plain.Letter). l.body) c.letter.view_is)) c.args.answers c.requires.answers in
    ⊎_elim (λ e. quiet (LoginAsk e.0 e.1) e.2 (λ n d. refl) refl)
    (⊎_elim (λ e. quiet (LoginTold e.0) e.1 (λ n d. refl) refl)
    (⊎_elim (λ e. quiet (ListAsk e.0) e.1 (λ n d. refl) refl)
    (⊎_elim (λ e. quiet (ListTold e.0) e.1 (λ n d. refl) refl)
    (⊎_elim (λ e. quiet (FetchAsk e.0 e.1 e.2 e.3) e.4 (λ n d. refl) refl)
    (⊎_elim (λ e. quiet (FetchTold e.0) e.1 (λ n d. refl) refl)
    (⊎_elim (λ e. quiet (Unlock e.0 e.1) e.2 (λ n d. refl) refl)
    (⊎_elim (λ e. quiet (Group e.0) e.1 (λ n d. refl) refl)
    (⊎_elim (λ e. quiet (Join e.0 e.1 e.2 e.3 e.4) e.5 (λ n d. refl) refl)
    (⊎_elim (λ e. quiet (Install e.0 e.1 e.2) e.3 (λ n d. refl) refl)
    (⊎_elim (λ e. quiet (Report e.0) e.1 (λ n d. refl) refl)
    (λ e. quiet (ReportAck e.0 e.1) e.2 (λ n d. refl) refl)))))))))))
    c.in-LoginAsk.is

pub returns-in-Filed-clause-wrote : goal.returns-in-Filed-clause-wrote
returns-in-Filed-clause-wrote g c =
    let on = view_of g.D.Disk.seen g.D.Disk.faults g.D.Disk.clock in
    let letter = c.args.letter.now in
    let told = told_did on letter c.args.self.now c.hear_told.new.self c.args.disk.now c.requires.works c.hear_told.ensures c.letter.inside.body (sym (ap (λ (l : plain.Letter). l.body) c.letter.view_is)) c.args.answers c.requires.answers in
    ⊎_elim (λ e. told (Filed e.0) e.1 (λ n d. refl) refl) (λ e. told (StrikeTold e.0 e.1) e.2 (λ n d. refl) refl) c.in-Filed.is
