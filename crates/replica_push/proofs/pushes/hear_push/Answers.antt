use Rattle.std.proofs.Common.{sym, ◌∙◌}
use Rattle.mail_base.specs.Seen.{key_seen}
use Rattle.replica_push.proofs.News.{no_news}
use Rattle.replica_push.proofs.pushes.hear_push.Goals as goal

pub returns-in-None-clause-table : goal.returns-in-None-clause-table
returns-in-None-clause-table c = no_news c.args.table.now (key_seen c.args.key.now) c.args.state.now (sym c.in_ok-news_at.ensures.news ∙ c.in-None.is)
