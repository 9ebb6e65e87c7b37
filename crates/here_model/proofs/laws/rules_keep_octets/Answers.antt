use Rattle.here_model.proofs.Keeping.{hears_keep, delivers_keep, strikes_keep, pushes_keep, widens_keep}
use Rattle.here_model.proofs.laws.rules_keep_octets.Goals as goal

pub returns : goal.returns
returns c = record {
  hears = λ own nodes node disk letter. hears_keep own nodes node disk letter;
  delivers = λ own nodes seconds node disk users octets targets files. delivers_keep own nodes seconds node disk users octets targets files;
  strikes = λ own nodes node disk user asked struck. strikes_keep own nodes node disk user asked struck;
  pushes = λ own to keys node disk ready. pushes_keep own to keys node disk ready;
  widens = λ own to key node disk. widens_keep own to key node disk;
}
