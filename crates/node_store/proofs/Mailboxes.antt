-- The users of a table, and the messages of a user that are here by it, are those by the records that it tells.
use Rattle.std.proofs.Common.{◌≡◌, ℕ, true, List, Option, Some, None, refl, sym, ap, ◌∙◌, true≢false}
use Rattle.std.specs.FinMap as fin
use Rattle.mail_model.specs.Identity.{Id, State}
use Rattle.mail_model.specs.Identity.Key.{Message}
use Rattle.mail_model.specs.Record.{Record}
use Rattle.object_model.specs.Keys.{user_of}
use Rattle.object_model.specs.Said.{said}
use Rattle.object_table.specs.Tables.{Table, AreUsers}
use Rattle.object_table.specs.Mailboxes.{StandsHere, AreHere}
use Rattle.replica_push.specs.Rules.{TableTells}
use Rattle.cluster_model.specs.Reads.{is_here_held}
use Rattle.node_store.specs.Mailboxes.{AreIdsHere, AreUsersSaid}

stands : (user : List ℕ) (table : Table) (id : Id) (held : Option State) → fin.get table (Message user id) ≡ held → is_here_held held ≡ true → StandsHere user table id
stands user table id None is here = absurd (true≢false (sym here))
stands user table id (Some state) is here = record { state = state; is = is; here = here }

pub ids_here : (user : List ℕ) (table : Table) (records : List Record) (ids : List Id) → TableTells table records → AreHere user table ids → AreIdsHere user records ids
ids_here user table records ids tells are = record {
  in_order = are.in_order;
  here = λ id m. let at = are.standing id m in ap is_here_held (sym (tells (Message user id)) ∙ at.is) ∙ at.here;
  all = λ id fits here. are.all id fits (stands user table id (said (Message user id) records) (tells (Message user id)) here);
}

pub users_said : (table : Table) (records : List Record) (names : List (List ℕ)) → TableTells table records → AreUsers names table → AreUsersSaid records names
users_said table records names tells are = record {
  in_order = are.in_order;
  said_of = λ user m. let of = are.standing user m in record { key = of.key; state = of.state; is = sym (tells of.key) ∙ of.is; of_user = of.of_user };
  all = λ key state is. are.all (user_of key) (record { key = key; state = state; is = tells key ∙ is; of_user = refl });
}
