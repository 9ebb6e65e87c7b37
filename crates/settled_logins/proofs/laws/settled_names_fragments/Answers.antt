use Rattle.settled_logins.proofs.Maps.{agrees, tells_fragments}
use Rattle.settled_logins.proofs.laws.settled_names_fragments.Goals as goal

pub returns : goal.returns
returns c = λ plan tells story w stands few g settled nodes exactly.
    (λ member inside user manager managed. tells_fragments plan tells story w stands g settled nodes exactly few member inside user manager managed, agrees plan tells story w stands g settled nodes exactly)
